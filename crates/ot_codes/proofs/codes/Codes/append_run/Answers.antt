use Rattle.std.proofs.Common.{◌≡◌, ◌∷◌, refl, ap, sym, subst, ◌∙◌}
use Rattle.std.specs.Result.{OnOk}
use Rattle.ot_operation.specs.Operation.{Operation, IsTooLong}
use Rattle.ot_operation.specs.Steps.{with_runs}
use Rattle.ot_codes.specs.Codes.{runs_of, others_of}
use Rattle.ot_codes.specs.Runs.{read_codes}
use Rattle.ot_codes.proofs.Parts.{with_parts, normal_parts, short_part, without_back}
use Rattle.ot_codes.proofs.codes.Codes.append_run.Goals as goal

pub minus-requires-clause-kept : goal.minus-requires-clause-kept
minus-requires-clause-kept c =
    let run = c.args.run.now in
    (without_back (read_codes run.first run.codes.now run.more) (run.first ∷ others_of run.codes.now) run.more refl run.sum run.more_sum c.requires.read.sum_is c.requires.read.more_is).kept

pub minus-requires-clause-deleted : goal.minus-requires-clause-deleted
minus-requires-clause-deleted c =
    let run = c.args.run.now in
    (without_back (read_codes run.first run.codes.now run.more) (run.first ∷ others_of run.codes.now) run.more refl run.sum run.more_sum c.requires.read.sum_is c.requires.read.more_is).deleted

pub minus-requires-clause-inserted : goal.minus-requires-clause-inserted
minus-requires-clause-inserted c =
    let run = c.args.run.now in
    (without_back (read_codes run.first run.codes.now run.more) (run.first ∷ others_of run.codes.now) run.more refl run.sum run.more_sum c.requires.read.sum_is c.requires.read.more_is).inserted

pub append_from-requires-clause-normal : goal.append_from-requires-clause-normal
append_from-requires-clause-normal c =
    let run = c.args.run.now in
    (normal_parts (read_codes run.first run.codes.now run.more) (run.first ∷ others_of run.codes.now) run.more refl c.requires.normal).0

pub append_from-requires-clause-sum : goal.append_from-requires-clause-sum
append_from-requires-clause-sum c =
    let run = c.args.run.now in
    c.minus.ensures
    ∙ (without_back (read_codes run.first run.codes.now run.more) (run.first ∷ others_of run.codes.now) run.more refl run.sum run.more_sum c.requires.read.sum_is c.requires.read.more_is).rest

pub append_from-requires-clause-short : goal.append_from-requires-clause-short
append_from-requires-clause-short c =
    let run = c.args.run.now in
    short_part (read_codes run.first run.codes.now run.more) (run.first ∷ others_of run.codes.now) run.more refl c.args.self.now c.requires.short

pub append_blocks-requires-clause-normal : goal.append_blocks-requires-clause-normal
append_blocks-requires-clause-normal c =
    let run = c.args.run.now in
    (normal_parts (read_codes run.first run.codes.now run.more) (run.first ∷ others_of run.codes.now) run.more refl c.requires.normal).1

pub append_blocks-requires-clause-short : goal.append_blocks-requires-clause-short
append_blocks-requires-clause-short c =
    let run = c.args.run.now in
    rw c.in_ok-append_from.ensures
    (subst (λ (op : Operation (Unit {0})). IsTooLong op → ⊥)
    (sym (with_parts (read_codes run.first run.codes.now run.more) (run.first ∷ others_of run.codes.now) run.more refl c.args.self.now)) c.requires.short)

pub returns : goal.returns
returns c =
    let run = c.args.run.now in
    subst (λ (op : Operation (Unit {0})). OnOk c.append_blocks.result (c.append_blocks.new.self ≡ op))
    (ap (λ (op : Operation (Unit {0})). with_runs op (runs_of run.more)) c.in_ok-append_from.ensures
    ∙ with_parts (read_codes run.first run.codes.now run.more) (run.first ∷ others_of run.codes.now) run.more refl c.args.self.now)
    c.append_blocks.ensures
