use Rattle.std.proofs.Common.{◌++◌, List, refl, ap, sym, subst, ◌∙◌, arith, length-append}
use Rattle.ot_operation.specs.Operation.{IsTooLong}
use Rattle.ot_operation.specs.Steps.{with_runs}
use Rattle.ot_codes.specs.declared.code.Code.{Code}
use Rattle.ot_codes.specs.declared.code.Sum.{Sum}
use Rattle.ot_codes.specs.Codes.{added, others_of, runs_of, spelled, sum_of, MayEndWith}
use Rattle.ot_codes.proofs.Counting.{count_small}
use Rattle.ot_codes.proofs.Appending.{small_sum, sound_is, sound_extended, spelled-append}
use Rattle.ot_codes.proofs.Parts.{begins}
use Rattle.ot_codes.proofs.codes.Codes.extend_blocks.Goals as goal

pub extend_blocks-requires-clause-total : goal.extend_blocks-requires-clause-total
extend_blocks-requires-clause-total c = sound_is c.self.inside.list c.self.inside.sum c.self.invariant

pub extend_blocks-requires-clause-small : goal.extend_blocks-requires-clause-small
extend_blocks-requires-clause-small c =
    let old = c.self.inside.list in
    let more = c.args.codes.now in
    let next : Sum = added c.self.inside.sum (sum_of more) in
    let sound =
    sound_extended old (old ++ more) more c.self.inside.sum next c.in-Some.first (others_of more) c.self.invariant refl (begins more c.in-Some.first (sym c.in-Some.ensures))
    (subst (λ (xs : List Code). MayEndWith xs c.in-Some.first) c.as_slice.ensures (c.if-not-may_end_with.ensures refl)) c.requires.normal (subst (λ op. IsTooLong (with_runs op (runs_of more)) → ⊥) (sym c.self.view_is) c.requires.short) refl in
    omega (arith, count_small (old ++ more) next sound, length-append old more)

pub plus-self-inside-requires-clause-kept : goal.plus-self-inside-requires-clause-kept
plus-self-inside-requires-clause-kept c =
    let small = small_sum c.args.self.now c.args.codes.now c.requires.short in
    let i = c.self.invariant in
    omega (arith, i.base_fits, i.target_fits, small.0, small.1, ap (λ (s : Sum). s.kept) c.requires.sum)

pub plus-self-inside-requires-clause-deleted : goal.plus-self-inside-requires-clause-deleted
plus-self-inside-requires-clause-deleted c =
    let small = small_sum c.args.self.now c.args.codes.now c.requires.short in
    let i = c.self.invariant in
    omega (arith, i.base_fits, i.target_fits, small.0, small.1, ap (λ (s : Sum). s.deleted) c.requires.sum)

pub plus-self-inside-requires-clause-inserted : goal.plus-self-inside-requires-clause-inserted
plus-self-inside-requires-clause-inserted c =
    let small = small_sum c.args.self.now c.args.codes.now c.requires.short in
    let i = c.self.invariant in
    omega (arith, i.base_fits, i.target_fits, small.0, small.1, ap (λ (s : Sum). s.inserted) c.requires.sum)

pub invariant_of-self-2 : goal.invariant_of-self-2
invariant_of-self-2 c =
    sound_extended c.self.inside.list c.extend_blocks.new.self c.args.codes.now c.self.inside.sum c.plus-self-inside.result c.in-Some.first (others_of c.args.codes.now) c.self.invariant
    (c.in_ok-extend_blocks.ensures.yes c.if-not-branch.false) (begins c.args.codes.now c.in-Some.first (sym c.in-Some.ensures))
    (subst (λ (xs : List Code). MayEndWith xs c.in-Some.first) c.as_slice.ensures (c.if-not-may_end_with.ensures refl)) c.requires.normal
    (subst (λ op. IsTooLong (with_runs op (runs_of c.args.codes.now)) → ⊥) (sym c.self.view_is) c.requires.short)
    (c.plus-self-inside.ensures ∙ ap (λ (s : Sum). added c.self.inside.sum s) c.requires.sum)

pub returns-clause-yes : goal.returns-clause-yes
returns-clause-yes c =
    λ yes.
    ap spelled (c.in_ok-extend_blocks.ensures.yes c.if-not-branch.false) ∙ spelled-append c.self.inside.list c.args.codes.now
    ∙ ap (λ op. with_runs op (runs_of c.args.codes.now)) c.self.view_is
