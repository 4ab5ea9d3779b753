use Rattle.std.proofs.Common.{◌<◌, refl, sym, ap, subst, ◌∙◌, arith}
use Rattle.ot_operation.specs.Operation.{IsTooLong}
use Rattle.ot_operation.specs.Steps.{appended, transformed_part}
use Rattle.ot_operation.proofs.TransformProgress.{progress_begin}
use Rattle.ot_operation.proofs.TransformArms.{whole_of, small}
use Rattle.ot_codes.specs.Codes.{keeps, run_of, runs_of, spelled}
use Rattle.ot_codes.specs.declared.code.Code.TheVariants.{Retain, Insert}
use Rattle.ot_codes.proofs.Read.{has_first, head_there, inserts_first, inserts_nothing, total-without}
use Rattle.ot_codes.proofs.Steps.{step_first, step_second, step_heads, end_heads}
use Rattle.ot_codes.proofs.transformation.transform_short.Goals as goal

pub parts-init : goal.parts-init
parts-init c = (
  c.args.second.now,
  rw (c.requires.first_begins, c.requires.second_begins, c.new-at_a.ensures, c.new-at_b.ensures)
      (progress_begin (spelled c.args.a.now) (spelled c.args.b.now) (runs_of c.args.a.now) (runs_of c.args.b.now) refl refl c.requires.a_normal c.requires.b_normal c.requires.same_base),
  λ wanted. refl,
)

-- an insertion of the first

pub put-requires : goal.put-requires
put-requires c =
    let whole = whole_of (spelled c.args.a.now) (spelled c.args.b.now) (runs_of c.args.a.now) (runs_of c.args.b.now) refl refl c.requires.same_base c.requires.fits in
    let inserted = inserts_first c.parts.at_a c.in-Insert.count (sym c.head-ours.ensures ∙ c.in-Insert.is) in
    (small _ _ _ _ _ _ whole
    (step_first (spelled c.args.a.now) (spelled c.args.b.now) c.parts.first c.parts.invariant.0 c.parts.at_a c.parts.at_b c.in-Insert.count inserted c.parts.invariant.1)).0

pub put_if-requires : goal.put_if-requires
put_if-requires c wanted =
    let whole = whole_of (spelled c.args.a.now) (spelled c.args.b.now) (runs_of c.args.a.now) (runs_of c.args.b.now) refl refl c.requires.same_base c.requires.fits in
    let inserted = inserts_first c.parts.at_a c.in-Insert.count (sym c.head-ours.ensures ∙ c.in-Insert.is) in
    subst (λ op. IsTooLong (appended op (run_of (Retain c.in-Insert.count))) → ⊥) (c.parts.invariant.2 wanted)
    (small _ _ _ _ _ _ whole
    (step_first (spelled c.args.a.now) (spelled c.args.b.now) c.parts.first c.parts.invariant.0 c.parts.at_a c.parts.at_b c.in-Insert.count inserted c.parts.invariant.1)).1

pub parts-preserved-in-Insert : goal.parts-preserved-in-Insert
parts-preserved-in-Insert c =
    let inserted = inserts_first c.parts.at_a c.in-Insert.count (sym c.head-ours.ensures ∙ c.in-Insert.is) in (
      appended c.parts.invariant.0 (run_of (Retain c.in-Insert.count)),
      rw (c.in_ok-put.ensures.ok, c.next.ensures)
          (step_first (spelled c.args.a.now) (spelled c.args.b.now) c.parts.first c.parts.invariant.0 c.parts.at_a c.parts.at_b c.in-Insert.count inserted c.parts.invariant.1),
      λ wanted. ap (λ op. appended op (run_of (Retain c.in-Insert.count))) (c.parts.invariant.2 wanted) ∙ sym (c.in_ok-put_if.ensures wanted),
    )

-- an insertion of the second

pub put-requires-in-Insert-theirs : goal.put-requires-in-Insert-theirs
put-requires-in-Insert-theirs c =
    let whole = whole_of (spelled c.args.a.now) (spelled c.args.b.now) (runs_of c.args.a.now) (runs_of c.args.b.now) refl refl c.requires.same_base c.requires.fits in
    let none = inserts_nothing c.parts.at_a (λ n is. c.in_default.not-Insert n (c.head-ours.ensures ∙ is)) in
    let inserted = inserts_first c.parts.at_b c.in-Insert-theirs.count (sym c.head-theirs.ensures ∙ c.in-Insert-theirs.is) in
    (small _ _ _ _ _ _ whole
    (step_second (spelled c.args.a.now) (spelled c.args.b.now) c.parts.first c.parts.invariant.0 c.parts.at_a c.parts.at_b c.in-Insert-theirs.count none inserted c.parts.invariant.1)).0

pub put_if-requires-in-Insert-theirs : goal.put_if-requires-in-Insert-theirs
put_if-requires-in-Insert-theirs c wanted =
    let whole = whole_of (spelled c.args.a.now) (spelled c.args.b.now) (runs_of c.args.a.now) (runs_of c.args.b.now) refl refl c.requires.same_base c.requires.fits in
    let none = inserts_nothing c.parts.at_a (λ n is. c.in_default.not-Insert n (c.head-ours.ensures ∙ is)) in
    let inserted = inserts_first c.parts.at_b c.in-Insert-theirs.count (sym c.head-theirs.ensures ∙ c.in-Insert-theirs.is) in
    subst (λ op. IsTooLong (appended op (run_of (Insert c.in-Insert-theirs.count))) → ⊥) (c.parts.invariant.2 wanted)
    (small _ _ _ _ _ _ whole
    (step_second (spelled c.args.a.now) (spelled c.args.b.now) c.parts.first c.parts.invariant.0 c.parts.at_a c.parts.at_b c.in-Insert-theirs.count none inserted c.parts.invariant.1)).1

pub parts-preserved-in-Insert-theirs : goal.parts-preserved-in-Insert-theirs
parts-preserved-in-Insert-theirs c =
    let none = inserts_nothing c.parts.at_a (λ n is. c.in_default.not-Insert n (c.head-ours.ensures ∙ is)) in
    let inserted = inserts_first c.parts.at_b c.in-Insert-theirs.count (sym c.head-theirs.ensures ∙ c.in-Insert-theirs.is) in (
      appended c.parts.invariant.0 (run_of (Insert c.in-Insert-theirs.count)),
      rw (c.in_ok-put-2.ensures.ok, c.next-in-Insert-theirs.ensures)
          (step_second (spelled c.args.a.now) (spelled c.args.b.now) c.parts.first c.parts.invariant.0 c.parts.at_a c.parts.at_b c.in-Insert-theirs.count none inserted c.parts.invariant.1),
      λ wanted. ap (λ op. appended op (run_of (Insert c.in-Insert-theirs.count))) (c.parts.invariant.2 wanted) ∙ sym (c.in_ok-put_if-2.ensures wanted),
    )

-- what both take of the document

pub returns-then-count-eq0 : goal.returns-then-count-eq0
returns-then-count-eq0 c =
    let ends = end_heads (spelled c.args.a.now) (spelled c.args.b.now) c.parts.first c.parts.invariant.0 c.head-ours.result c.head-theirs.result c.parts.at_a c.parts.at_b
    c.head-ours.ensures c.head-theirs.ensures (λ some. omega (arith, some)) c.in_default.not-Insert c.in_default-theirs.not-Insert c.parts.invariant.1 in
    record { first = ends.0; second = λ wanted. sym (c.parts.invariant.2 wanted) ∙ ends.1 }

pub put_part-requires : goal.put_part-requires
put_part-requires c wanted =
    let whole = whole_of (spelled c.args.a.now) (spelled c.args.b.now) (runs_of c.args.a.now) (runs_of c.args.b.now) refl refl c.requires.same_base c.requires.fits in
    (small _ _ _ _ _ _ whole
    (step_heads (spelled c.args.a.now) (spelled c.args.b.now) c.parts.first c.parts.invariant.0 c.min-count.result c.head-ours.result c.head-theirs.result c.parts.at_a c.parts.at_b
    c.head-ours.ensures c.head-theirs.ensures (omega arith) (omega arith) (omega arith) c.in_default.not-Insert c.in_default-theirs.not-Insert c.parts.invariant.1)).0

pub put_part-requires-in-parts : goal.put_part-requires-in-parts
put_part-requires-in-parts c wanted =
    let whole = whole_of (spelled c.args.a.now) (spelled c.args.b.now) (runs_of c.args.a.now) (runs_of c.args.b.now) refl refl c.requires.same_base c.requires.fits in
    subst (λ op. IsTooLong (transformed_part op (keeps c.head-theirs.result) (keeps c.head-ours.result) c.min-count.result) → ⊥) (c.parts.invariant.2 wanted)
    (small _ _ _ _ _ _ whole
    (step_heads (spelled c.args.a.now) (spelled c.args.b.now) c.parts.first c.parts.invariant.0 c.min-count.result c.head-ours.result c.head-theirs.result c.parts.at_a c.parts.at_b
    c.head-ours.ensures c.head-theirs.ensures (omega arith) (omega arith) (omega arith) c.in_default.not-Insert c.in_default-theirs.not-Insert c.parts.invariant.1)).1

pub parts-smaller : goal.parts-smaller
parts-smaller c =
    let some : 0 < c.min-count.result = omega arith in
    let ours = head_there c.parts.at_a c.head-ours.result c.head-ours.ensures (omega arith) in
    let theirs = head_there c.parts.at_b c.head-theirs.result c.head-theirs.ensures (omega arith) in
    let first = total-without c.min-count.result c.parts.at_a (has_first c.min-count.result c.parts.at_a c.head-ours.result ours some (omega arith)) in
    let second = total-without c.min-count.result c.parts.at_b (has_first c.min-count.result c.parts.at_b c.head-theirs.result theirs some (omega arith)) in
    rw (c.take.ensures, c.take-in-parts.ensures) (omega (arith, first, second, some))

pub parts-preserved : goal.parts-preserved
parts-preserved c = (
  transformed_part c.parts.invariant.0 (keeps c.head-theirs.result) (keeps c.head-ours.result) c.min-count.result,
  rw (c.in_ok-put_part.ensures refl, c.take.ensures, c.take-in-parts.ensures)
      (step_heads (spelled c.args.a.now) (spelled c.args.b.now) c.parts.first c.parts.invariant.0 c.min-count.result c.head-ours.result c.head-theirs.result c.parts.at_a c.parts.at_b
      c.head-ours.ensures c.head-theirs.ensures (omega arith) (omega arith) (omega arith) c.in_default.not-Insert c.in_default-theirs.not-Insert c.parts.invariant.1),
  λ wanted. ap (λ op. transformed_part op (keeps c.head-theirs.result) (keeps c.head-ours.result) c.min-count.result) (c.parts.invariant.2 wanted) ∙ sym (c.in_ok-put_part-2.ensures wanted),
)
