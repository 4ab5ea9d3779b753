use Rattle.std.proofs.Common.{ap, sym, subst, ◌∙◌}
use Rattle.ot_operation.specs.Operation.{Operation, IsTooLong}
use Rattle.ot_operation.specs.Steps.{with_runs}
use Rattle.ot_codes.specs.Codes.{runs_of}
use Rattle.ot_codes.proofs.Parts.{with_parts, normal_parts, short_part, without_front}
use Rattle.ot_codes.proofs.codes.Codes.append_blocks.Goals as goal

pub append-requires-in-blocks-2-clause-normal : goal.append-requires-in-blocks-2-clause-normal
append-requires-in-blocks-2-clause-normal c =
    (normal_parts c.blocks-2.more c.split-known.result.0.now c.split-known.result.2 c.split-known.ensures.parts c.blocks-2.invariant.1).0

pub append-requires-in-blocks-2-clause-short : goal.append-requires-in-blocks-2-clause-short
append-requires-in-blocks-2-clause-short c =
    short_part c.blocks-2.more c.split-known.result.0.now c.split-known.result.2 c.split-known.ensures.parts c.extend_blocks.new.self
    (subst (λ (op : Operation (Unit {0})). IsTooLong op → ⊥)
    (sym (ap (λ (op : Operation (Unit {0})). with_runs op (runs_of c.blocks-2.more)) (c.in_ok-extend_blocks.ensures.no c.if-branch.false) ∙ c.blocks-2.invariant.0)) c.requires.short)

pub minus-total-requires-clause-kept : goal.minus-total-requires-clause-kept
minus-total-requires-clause-kept c =
    let known = rw c.in-Some.is at c.split-known.ensures.sum in
    (without_front c.blocks-2.more c.split-known.result.0.now c.split-known.result.2 c.split-known.ensures.parts c.blocks-2.total c.in-Some.part c.blocks-2.invariant.2 known.1).kept

pub minus-total-requires-clause-deleted : goal.minus-total-requires-clause-deleted
minus-total-requires-clause-deleted c =
    let known = rw c.in-Some.is at c.split-known.ensures.sum in
    (without_front c.blocks-2.more c.split-known.result.0.now c.split-known.result.2 c.split-known.ensures.parts c.blocks-2.total c.in-Some.part c.blocks-2.invariant.2 known.1).deleted

pub minus-total-requires-clause-inserted : goal.minus-total-requires-clause-inserted
minus-total-requires-clause-inserted c =
    let known = rw c.in-Some.is at c.split-known.ensures.sum in
    (without_front c.blocks-2.more c.split-known.result.0.now c.split-known.result.2 c.split-known.ensures.parts c.blocks-2.total c.in-Some.part c.blocks-2.invariant.2 known.1).inserted

pub blocks-2-preserved : goal.blocks-2-preserved
blocks-2-preserved c =
    let known = rw c.in-Some.is at c.split-known.ensures.sum in
    let left = c.blocks-2.more in
    let front = c.split-known.result.0.now in
    let back = c.split-known.result.2 in
    let parts = c.split-known.ensures.parts in (
      ap (λ (op : Operation (Unit {0})). with_runs op (runs_of back)) c.in_ok-append.ensures ∙ with_parts left front back parts c.extend_blocks.new.self
          ∙ ap (λ (op : Operation (Unit {0})). with_runs op (runs_of left)) (c.in_ok-extend_blocks.ensures.no c.if-branch.false) ∙ c.blocks-2.invariant.0,
      (normal_parts left front back parts c.blocks-2.invariant.1).1,
      c.minus-total.ensures ∙ (without_front left front back parts c.blocks-2.total c.in-Some.part c.blocks-2.invariant.2 known.1).rest,
    )
