use Rattle.std.proofs.Common.{List, drop, refl, ap, sym, subst, ◌∙◌, arith}
use Rattle.ot_operation.specs.Operation.{IsTooLong}
use Rattle.ot_operation.specs.Steps.{with_runs}
use Rattle.ot_codes.specs.declared.code.Code.{Code}
use Rattle.ot_codes.specs.declared.code.Sum.{Sum}
use Rattle.ot_codes.specs.Codes.{added, runs_of, spelled, MayEndWith}
use Rattle.ot_codes.proofs.Counting.{count_small}
use Rattle.ot_codes.proofs.Appending.{first_part, small_sum, sound_is, sound_extended, spelled-append}
use Rattle.ot_codes.proofs.codes.Codes.extend.Goals as goal

pub extend-requires-clause-total : goal.extend-requires-clause-total
extend-requires-clause-total c = sound_is c.self.inside.list c.self.inside.sum c.self.invariant

pub extend-requires-clause-small : goal.extend-requires-clause-small
extend-requires-clause-small c = omega (arith, count_small c.self.inside.list c.self.inside.sum c.self.invariant)

pub plus-self-inside-requires-clause-kept : goal.plus-self-inside-requires-clause-kept
plus-self-inside-requires-clause-kept c =
    let small = small_sum c.args.self.now c.args.codes.now c.requires.short in
    let i = c.self.invariant in
    omega (arith, i.base_fits, i.target_fits, small.0, small.1, ap (λ (s : Sum). s.kept) c.requires.sum)

pub plus-self-inside-requires-clause-deleted : goal.plus-self-inside-requires-clause-deleted
plus-self-inside-requires-clause-deleted c =
    let small = small_sum c.args.self.now c.args.codes.now c.requires.short in
    let i = c.self.invariant in
    omega (arith, i.base_fits, i.target_fits, small.0, small.1, ap (λ (s : Sum). s.deleted) c.requires.sum)

pub plus-self-inside-requires-clause-inserted : goal.plus-self-inside-requires-clause-inserted
plus-self-inside-requires-clause-inserted c =
    let small = small_sum c.args.self.now c.args.codes.now c.requires.short in
    let i = c.self.invariant in
    omega (arith, i.base_fits, i.target_fits, small.0, small.1, ap (λ (s : Sum). s.inserted) c.requires.sum)

pub invariant_of-self-2 : goal.invariant_of-self-2
invariant_of-self-2 c =
    let old = c.self.inside.list in
    let first = c.index-codes-0.result in
    sound_extended old c.extend.new.self c.args.codes.now c.self.inside.sum c.plus-self-inside.result first (drop 1 c.args.codes.now) c.self.invariant
    c.in_ok-extend.ensures.ok (first_part c.args.codes.now first c.requires.some c.index-codes-0.is)
    (subst (λ (x : Code). MayEndWith c.self.inside.list x) c.code.ensures.is (subst (λ (xs : List Code). MayEndWith xs c.code.result) c.as_slice.ensures (c.if-not-may_end_with.ensures refl))) c.requires.normal
    (subst (λ op. IsTooLong (with_runs op (runs_of c.args.codes.now)) → ⊥) (sym c.self.view_is) c.requires.short)
    (c.plus-self-inside.ensures ∙ ap (λ (s : Sum). added c.self.inside.sum s) c.requires.sum)

pub returns-clause-yes : goal.returns-clause-yes
returns-clause-yes c =
    λ yes.
    ap spelled c.in_ok-extend.ensures.ok ∙ spelled-append c.self.inside.list c.args.codes.now
    ∙ ap (λ op. with_runs op (runs_of c.args.codes.now)) c.self.view_is
