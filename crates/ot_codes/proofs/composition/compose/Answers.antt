use Rattle.std.proofs.Common.{◌≡◌, ◌++◌, ◌<◌, ◌+◌, [], length, ◌∙◌, refl, sym, ap, arith}
use Rattle.ot_operation.specs.Operation.{Operation, empty}
use Rattle.ot_codes.specs.Codes.{spelled, others_of}
use Rattle.ot_codes.proofs.Read.{has_first, total-without}
use Rattle.ot_codes.proofs.Steps.{has_past, total-past}
use Rattle.ot_codes.proofs.Composing.{state_moved, composing_start, composing_small, composing_delete, composing_insert}
use Rattle.ot_codes.proofs.Splicing.{whole_of, reach, reach_insertion, reach_part, splicing_insert, splicing_part, small_part, splicing_run, splicing_end, splicing_done, reach_run, small_run, normal_kept, total-kept, some_part, total-deleted, total-came}
use Rattle.ot_codes.proofs.composition.compose.Goals as goal

pub parts-init : goal.parts-init
parts-init c =
    let a = c.cursor-at_a.result in
    let b = c.cursor-at_b.result in
    let meets : length (spelled a).image ≡ (spelled b).base =
    ap (λ (op : Operation (Unit {0})). length op.image) c.cursor-at_a.ensures.spells ∙ c.requires ∙ sym (ap (λ (op : Operation (Unit {0})). op.base) c.cursor-at_b.ensures.spells) in
    state_moved a b empty c.new-pen.result [] c.new-splice.result.cuts.items 0 c.new-splice.result.at 0 c.new-splice.result.from a a b b
    c.new-pen.ensures c.new-splice.ensures.cuts c.new-splice.ensures.at c.new-splice.ensures.from refl refl
    (composing_start a b c.cursor-at_a.ensures.normal c.cursor-at_b.ensures.normal meets)

-- codes of the first in a retain of the second

pub append-requires-clause-normal : goal.append-requires-clause-normal
append-requires-clause-normal c =
    let run = c.in-Some-run.run' in
    normal_kept c.cursor-at_a.result c.cursor-at_b.result c.parts.pen c.parts.splice c.parts.at_a c.parts.at_b run.behind run.first (others_of run.codes.now ++ run.more) run.sum c.in-Some.count
    c.in-Some-run.ensures.parts c.in-Some-run.ensures.read.sum_is c.parts.invariant

pub append-requires-clause-short : goal.append-requires-clause-short
append-requires-clause-short c =
    let a = c.cursor-at_a.result in
    let b = c.cursor-at_b.result in
    let run = c.in-Some-run.run' in
    let whole = whole_of a b c.args.a.now c.args.b.now c.cursor-at_a.ensures.spells c.cursor-at_b.ensures.spells c.cursor-at_a.ensures.fits c.cursor-at_b.ensures.fits in
    small_run a b c.parts.pen c.parts.splice c.parts.at_a c.parts.at_b run.behind run.first (others_of run.codes.now ++ run.more) run.sum c.in-Some.count
    c.in-Some-run.ensures.parts c.in-Some-run.ensures.read.sum_is (sym c.in-Some.ensures) c.in-Some-run.ensures.fits whole c.parts.invariant

pub keep-requires : goal.keep-requires
keep-requires c =
    let a = c.cursor-at_a.result in
    let b = c.cursor-at_b.result in
    let run = c.in-Some-run.run' in
    let whole = whole_of a b c.args.a.now c.args.b.now c.cursor-at_a.ensures.spells c.cursor-at_b.ensures.spells c.cursor-at_a.ensures.fits c.cursor-at_b.ensures.fits in
    reach_run a b c.parts.pen c.parts.splice c.parts.at_a c.parts.at_b run.behind run.first (others_of run.codes.now ++ run.more) run.sum c.in-Some.count
    c.in-Some-run.ensures.parts c.in-Some-run.ensures.read.sum_is whole c.parts.invariant

pub parts-smaller-in-Some-run : goal.parts-smaller-in-Some-run
parts-smaller-in-Some-run c =
    let run = c.in-Some-run.run' in
    let left =
    total-kept c.cursor-at_a.result c.cursor-at_b.result c.parts.pen c.parts.splice c.parts.at_a c.parts.at_b run.behind run.first (others_of run.codes.now ++ run.more) run.sum c.in-Some.count
    c.in-Some-run.ensures.parts c.in-Some-run.ensures.read.sum_is c.parts.invariant in
    let past = total-past (run.sum.kept + run.sum.inserted) c.parts.at_b (λ some. has_past c.parts.at_b c.in-Some.count _ (sym c.in-Some.ensures) c.in-Some-run.ensures.fits some) in
    rw c.pass.ensures (omega (arith, left, past))

pub parts-preserved-in-Some-run : goal.parts-preserved-in-Some-run
parts-preserved-in-Some-run c =
    let run = c.in-Some-run.run' in
    rw (c.in_ok-append.ensures, c.pass.ensures)
    (splicing_run c.cursor-at_a.result c.cursor-at_b.result c.parts.pen c.parts.splice c.parts.at_a c.parts.at_b run.behind run.first (others_of run.codes.now ++ run.more) run.sum c.in-Some.count
    c.in-Some-run.ensures.parts c.in-Some-run.ensures.read.sum_is c.keep.new.self (sym c.in-Some.ensures) c.in-Some-run.ensures.fits c.keep.ensures c.parts.invariant)

-- the first deletes

pub put-requires : goal.put-requires
put-requires c =
    let a = c.cursor-at_a.result in
    let b = c.cursor-at_b.result in
    let whole = whole_of a b c.args.a.now c.args.b.now c.cursor-at_a.ensures.spells c.cursor-at_b.ensures.spells c.cursor-at_a.ensures.fits c.cursor-at_b.ensures.fits in
    composing_small a b _ c.parts.splice.cuts.items c.parts.splice.at c.parts.splice.from (others_of c.parts.at_a) c.parts.at_b whole.bounds
    (composing_delete a b c.parts.pen c.parts.splice.cuts.items c.parts.splice.at c.parts.splice.from c.parts.at_a c.parts.at_b c.in-Some-deletion.count (sym c.in-Some-deletion.ensures) c.parts.invariant)

pub parts-smaller-in-Some-deletion : goal.parts-smaller-in-Some-deletion
parts-smaller-in-Some-deletion c =
    let less = total-deleted c.cursor-at_a.result c.cursor-at_b.result c.parts.pen c.parts.splice c.parts.at_a c.parts.at_b c.in-Some-deletion.count (sym c.in-Some-deletion.ensures) c.parts.invariant in
    rw c.next.ensures (omega (arith, less))

pub parts-preserved-in-Some-deletion : goal.parts-preserved-in-Some-deletion
parts-preserved-in-Some-deletion c =
    rw (c.in_ok-put.ensures.ok, c.next.ensures)
    (composing_delete c.cursor-at_a.result c.cursor-at_b.result c.parts.pen c.parts.splice.cuts.items c.parts.splice.at c.parts.splice.from c.parts.at_a c.parts.at_b c.in-Some-deletion.count
    (sym c.in-Some-deletion.ensures) c.parts.invariant)

-- the second inserts

pub put-requires-in-Some-insertion : goal.put-requires-in-Some-insertion
put-requires-in-Some-insertion c =
    let a = c.cursor-at_a.result in
    let b = c.cursor-at_b.result in
    let whole = whole_of a b c.args.a.now c.args.b.now c.cursor-at_a.ensures.spells c.cursor-at_b.ensures.spells c.cursor-at_a.ensures.fits c.cursor-at_b.ensures.fits in
    composing_small a b _ _ _ _ c.parts.at_a (others_of c.parts.at_b) whole.bounds
    (composing_insert a b c.parts.pen c.parts.splice.cuts.items c.parts.splice.at c.parts.splice.from c.parts.at_a c.parts.at_b c.in-Some-insertion.count (sym c.in-Some-insertion.ensures) c.parts.invariant)

pub insert-requires : goal.insert-requires
insert-requires c =
    let a = c.cursor-at_a.result in
    let b = c.cursor-at_b.result in
    let whole = whole_of a b c.args.a.now c.args.b.now c.cursor-at_a.ensures.spells c.cursor-at_b.ensures.spells c.cursor-at_a.ensures.fits c.cursor-at_b.ensures.fits in
    let far = reach a b c.parts.pen c.parts.splice c.parts.at_a c.parts.at_b whole c.parts.invariant in
    record {
      within = c.parts.invariant.within;
      fits = omega (arith, far.0);
      fits_second = reach_insertion a b c.parts.pen c.parts.splice c.parts.at_a c.parts.at_b c.in-Some-insertion.count (sym c.in-Some-insertion.ensures) whole c.parts.invariant;
    }

pub parts-smaller-in-Some-insertion : goal.parts-smaller-in-Some-insertion
parts-smaller-in-Some-insertion c =
    let less = total-came c.cursor-at_a.result c.cursor-at_b.result c.parts.pen c.parts.splice c.parts.at_a c.parts.at_b c.in-Some-insertion.count (sym c.in-Some-insertion.ensures) c.parts.invariant in
    rw c.next-in-Some-insertion.ensures (omega (arith, less))

pub parts-preserved-in-Some-insertion : goal.parts-preserved-in-Some-insertion
parts-preserved-in-Some-insertion c =
    rw (c.in_ok-put-2.ensures.ok, c.next-in-Some-insertion.ensures)
    (splicing_insert c.cursor-at_a.result c.cursor-at_b.result c.parts.pen c.parts.splice c.insert.new.self c.parts.at_a c.parts.at_b c.in-Some-insertion.count
    (sym c.in-Some-insertion.ensures) c.in_ok-insert.ensures c.parts.invariant)

-- the end

pub returns-in_default-head : goal.returns-in_default-head
returns-in_default-head c =
    let done =
    splicing_end c.cursor-at_a.result c.cursor-at_b.result c.parts.pen c.parts.splice c.parts.at_a c.parts.at_b (sym c.head.ensures ∙ c.in_default-head.is) (sym c.insertion.ensures ∙ c.in_default-insertion.is) c.parts.invariant in
    record {
      codes = c.in_ok-finish.ensures ∙ done.0 ∙ rw (c.cursor-at_a.ensures.spells, c.cursor-at_b.ensures.spells) refl;
      cuts = rw (← c.cursor-at_a.ensures.spells, ← c.cursor-at_b.ensures.spells) done.1;
    }

pub returns-in_default-head-2 : goal.returns-in_default-head-2
returns-in_default-head-2 c =
    let done =
    splicing_done c.cursor-at_a.result c.cursor-at_b.result c.parts.pen c.parts.splice c.parts.at_a c.parts.at_b (sym c.head-in-parts.ensures ∙ c.in_default-head-2.is) (sym c.deletion.ensures ∙ c.in_default-deletion.is) c.parts.invariant in
    record {
      codes = c.in_ok-finish-2.ensures ∙ done.0 ∙ rw (c.cursor-at_a.ensures.spells, c.cursor-at_b.ensures.spells) refl;
      cuts = rw (← c.cursor-at_a.ensures.spells, ← c.cursor-at_b.ensures.spells) done.1;
    }

-- elements that the first makes

pub put_part-requires : goal.put_part-requires
put_part-requires c =
    let a = c.cursor-at_a.result in
    let b = c.cursor-at_b.result in
    let whole = whole_of a b c.args.a.now c.args.b.now c.cursor-at_a.ensures.spells c.cursor-at_b.ensures.spells c.cursor-at_a.ensures.fits c.cursor-at_b.ensures.fits in
    let far = reach a b c.parts.pen c.parts.splice c.parts.at_a c.parts.at_b whole c.parts.invariant in
    let filled = some_part a b c.parts.pen c.parts.splice c.parts.at_a c.parts.at_b c.in-Some-head.ours c.in-Some-head-2.theirs (sym c.in-Some-head.ensures) (sym c.in-Some-head-2.ensures) c.parts.invariant in
    record {
      short = rw c.keeps.ensures
          (small_part a b c.parts.pen c.parts.splice c.min-count.result c.in-Some-head.ours c.in-Some-head-2.theirs c.parts.at_a c.parts.at_b (sym c.in-Some-head.ensures) (sym c.in-Some-head-2.ensures)
          (omega (arith, filled.0, filled.1)) (omega arith) (omega arith) (sym c.deletion.ensures ∙ c.in_default-deletion.is) (sym c.insertion.ensures ∙ c.in_default-insertion.is) whole c.parts.invariant);
      within = c.parts.invariant.within;
      fits = reach_part a b c.parts.pen c.parts.splice c.parts.at_a c.parts.at_b c.in-Some-head.ours (sym c.in-Some-head.ensures) whole c.parts.invariant;
      fits_second = omega (arith, far.1);
      some = omega arith;
    }

pub parts-smaller : goal.parts-smaller
parts-smaller c =
    let filled =
    some_part c.cursor-at_a.result c.cursor-at_b.result c.parts.pen c.parts.splice c.parts.at_a c.parts.at_b c.in-Some-head.ours c.in-Some-head-2.theirs (sym c.in-Some-head.ensures) (sym c.in-Some-head-2.ensures)
    c.parts.invariant in
    let some : 0 < c.min-count.result = omega (arith, filled.0, filled.1) in
    let first = total-without c.min-count.result c.parts.at_a (has_first c.min-count.result c.parts.at_a c.in-Some-head.ours (sym c.in-Some-head.ensures) some (omega arith)) in
    let second = total-without c.min-count.result c.parts.at_b (has_first c.min-count.result c.parts.at_b c.in-Some-head-2.theirs (sym c.in-Some-head-2.ensures) some (omega arith)) in
    rw (c.take.ensures, c.take-in-parts.ensures) (omega (arith, first, second, some))

pub parts-preserved : goal.parts-preserved
parts-preserved c =
    let filled =
    some_part c.cursor-at_a.result c.cursor-at_b.result c.parts.pen c.parts.splice c.parts.at_a c.parts.at_b c.in-Some-head.ours c.in-Some-head-2.theirs (sym c.in-Some-head.ensures) (sym c.in-Some-head-2.ensures)
    c.parts.invariant in
    rw (c.in_ok-put_part.ensures.pen_is, c.take.ensures, c.take-in-parts.ensures, c.keeps.ensures)
    (splicing_part c.cursor-at_a.result c.cursor-at_b.result c.parts.pen c.parts.splice c.put_part.new.splice c.min-count.result c.in-Some-head.ours c.in-Some-head-2.theirs c.parts.at_a c.parts.at_b
    (sym c.in-Some-head.ensures) (sym c.in-Some-head-2.ensures) (omega (arith, filled.0, filled.1)) (omega arith) (omega arith) (sym c.deletion.ensures ∙ c.in_default-deletion.is) (sym c.insertion.ensures ∙ c.in_default-insertion.is)
    (rw c.keeps.ensures at c.in_ok-put_part.ensures.splice_is) c.parts.invariant)
