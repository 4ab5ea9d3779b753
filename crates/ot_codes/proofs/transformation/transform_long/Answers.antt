use Rattle.std.proofs.Common.{◌<◌, ◌+◌, ◌++◌, ◌∙◌, refl, sym, ap, subst, arith}
use Rattle.ot_operation.specs.Operation.{IsTooLong}
use Rattle.ot_operation.specs.Steps.{appended, with_runs, transformed_part}
use Rattle.ot_operation.proofs.TransformProgress.{progress_begin}
use Rattle.ot_operation.proofs.TransformArms.{whole_of, small}
use Rattle.ot_codes.specs.Codes.{keeps, others_of, run_of, runs_of}
use Rattle.ot_codes.specs.Runs.{read_codes}
use Rattle.ot_codes.specs.declared.code.Code.TheVariants.{Retain, Insert}
use Rattle.ot_codes.proofs.Read.{filled_head, has_first, total-without}
use Rattle.ot_codes.proofs.Steps.{step_first, step_second, step_part, step_run_first, step_run_second, normal_run, has_past, retain_filled, total-past, total-run, end_first, end_second}
use Rattle.ot_codes.proofs.transformation.transform_long.Goals as goal

pub parts-init : goal.parts-init
parts-init c = (
  c.args.second.now,
  rw (c.requires.first_begins, c.requires.second_begins)
      (progress_begin c.args.a.now c.args.b.now (runs_of c.cursor-at_a.result) (runs_of c.cursor-at_b.result)
      c.cursor-at_a.ensures.spells c.cursor-at_b.ensures.spells c.cursor-at_a.ensures.normal c.cursor-at_b.ensures.normal c.requires.same_base),
  λ wanted. refl,
)

pub append-requires-clause-normal : goal.append-requires-clause-normal
append-requires-clause-normal c = normal_run c.parts.at_a (read_codes c.in-Some-run.run'.first c.in-Some-run.run'.codes.now c.in-Some-run.run'.more) c.in-Some-run.run'.behind c.in-Some-run.ensures.parts c.parts.invariant.1.first_normal

pub append-requires-clause-short : goal.append-requires-clause-short
append-requires-clause-short c =
    (small c.args.a.now c.args.b.now _ _ _ _ (whole_of c.args.a.now c.args.b.now (runs_of c.cursor-at_a.result) (runs_of c.cursor-at_b.result) c.cursor-at_a.ensures.spells c.cursor-at_b.ensures.spells c.requires.same_base c.requires.fits)
    (step_run_first c.args.a.now c.args.b.now c.parts.first c.parts.invariant.0 c.parts.at_a c.parts.at_b (read_codes c.in-Some-run.run'.first c.in-Some-run.run'.codes.now c.in-Some-run.run'.more) c.in-Some-run.run'.behind c.in-Some-run.run'.sum c.in-Some.count c.in-Some-run.ensures.read.sum_is
    (sym c.in-Some.ensures) c.in-Some-run.ensures.parts c.in-Some-run.ensures.fits c.parts.invariant.1)).0

pub put_if-requires : goal.put_if-requires
put_if-requires c wanted =
    subst (λ op. IsTooLong (appended op (run_of (Retain (c.in-Some-run.run'.sum.kept + c.in-Some-run.run'.sum.inserted)))) → ⊥) (c.parts.invariant.2 wanted)
    (small c.args.a.now c.args.b.now _ _ _ _ (whole_of c.args.a.now c.args.b.now (runs_of c.cursor-at_a.result) (runs_of c.cursor-at_b.result) c.cursor-at_a.ensures.spells c.cursor-at_b.ensures.spells c.requires.same_base c.requires.fits)
    (step_run_first c.args.a.now c.args.b.now c.parts.first c.parts.invariant.0 c.parts.at_a c.parts.at_b (read_codes c.in-Some-run.run'.first c.in-Some-run.run'.codes.now c.in-Some-run.run'.more) c.in-Some-run.run'.behind c.in-Some-run.run'.sum c.in-Some.count c.in-Some-run.ensures.read.sum_is
    (sym c.in-Some.ensures) c.in-Some-run.ensures.parts c.in-Some-run.ensures.fits c.parts.invariant.1)).1

pub parts-smaller-in-Some-run : goal.parts-smaller-in-Some-run
parts-smaller-in-Some-run c =
    let left = total-run c.parts.at_a c.in-Some-run.run'.behind c.in-Some-run.run'.first (others_of c.in-Some-run.run'.codes.now ++ c.in-Some-run.run'.more) c.in-Some-run.ensures.parts c.parts.invariant.1.first_normal in
    let past = total-past (c.in-Some-run.run'.sum.kept + c.in-Some-run.run'.sum.deleted) c.parts.at_b (λ some. has_past c.parts.at_b c.in-Some.count _ (sym c.in-Some.ensures) c.in-Some-run.ensures.fits some) in
    rw c.pass.ensures (omega (arith, left, past))

pub parts-preserved-in-Some-run : goal.parts-preserved-in-Some-run
parts-preserved-in-Some-run c = (
  appended c.parts.invariant.0 (run_of (Retain (c.in-Some-run.run'.sum.kept + c.in-Some-run.run'.sum.inserted))),
  rw (c.in_ok-append.ensures, c.pass.ensures)
      (step_run_first c.args.a.now c.args.b.now c.parts.first c.parts.invariant.0 c.parts.at_a c.parts.at_b (read_codes c.in-Some-run.run'.first c.in-Some-run.run'.codes.now c.in-Some-run.run'.more) c.in-Some-run.run'.behind c.in-Some-run.run'.sum c.in-Some.count c.in-Some-run.ensures.read.sum_is
      (sym c.in-Some.ensures) c.in-Some-run.ensures.parts c.in-Some-run.ensures.fits c.parts.invariant.1),
  λ wanted. ap (λ op. appended op (run_of (Retain (c.in-Some-run.run'.sum.kept + c.in-Some-run.run'.sum.inserted)))) (c.parts.invariant.2 wanted) ∙ sym (c.in_ok-put_if.ensures wanted),
)

pub append_if-requires-clause-normal : goal.append_if-requires-clause-normal
append_if-requires-clause-normal c = normal_run c.parts.at_b (read_codes c.in-Some-run-2.run'.first c.in-Some-run-2.run'.codes.now c.in-Some-run-2.run'.more) c.in-Some-run-2.run'.behind c.in-Some-run-2.ensures.parts c.parts.invariant.1.second_normal

pub append_if-requires-clause-short : goal.append_if-requires-clause-short
append_if-requires-clause-short c wanted =
    subst (λ op. IsTooLong (with_runs op (runs_of (read_codes c.in-Some-run-2.run'.first c.in-Some-run-2.run'.codes.now c.in-Some-run-2.run'.more))) → ⊥) (c.parts.invariant.2 wanted)
    (small c.args.a.now c.args.b.now _ _ _ _ (whole_of c.args.a.now c.args.b.now (runs_of c.cursor-at_a.result) (runs_of c.cursor-at_b.result) c.cursor-at_a.ensures.spells c.cursor-at_b.ensures.spells c.requires.same_base c.requires.fits)
    (step_run_second c.args.a.now c.args.b.now c.parts.first c.parts.invariant.0 c.parts.at_a c.parts.at_b (read_codes c.in-Some-run-2.run'.first c.in-Some-run-2.run'.codes.now c.in-Some-run-2.run'.more) c.in-Some-run-2.run'.behind c.in-Some-run-2.run'.sum c.in-Some-retain.count c.in-Some-run-2.ensures.read.sum_is
    (sym c.in-Some-retain.ensures) c.in-Some-run-2.ensures.parts (omega (arith, c.in-Some-run-2.ensures.fits, retain_filled c.parts.at_a c.in-Some-retain.count (sym c.in-Some-retain.ensures) c.parts.invariant.1.first_normal)) c.parts.invariant.1)).1

pub put-requires : goal.put-requires
put-requires c =
    (small c.args.a.now c.args.b.now _ _ _ _ (whole_of c.args.a.now c.args.b.now (runs_of c.cursor-at_a.result) (runs_of c.cursor-at_b.result) c.cursor-at_a.ensures.spells c.cursor-at_b.ensures.spells c.requires.same_base c.requires.fits)
    (step_run_second c.args.a.now c.args.b.now c.parts.first c.parts.invariant.0 c.parts.at_a c.parts.at_b (read_codes c.in-Some-run-2.run'.first c.in-Some-run-2.run'.codes.now c.in-Some-run-2.run'.more) c.in-Some-run-2.run'.behind c.in-Some-run-2.run'.sum c.in-Some-retain.count c.in-Some-run-2.ensures.read.sum_is
    (sym c.in-Some-retain.ensures) c.in-Some-run-2.ensures.parts (omega (arith, c.in-Some-run-2.ensures.fits, retain_filled c.parts.at_a c.in-Some-retain.count (sym c.in-Some-retain.ensures) c.parts.invariant.1.first_normal)) c.parts.invariant.1)).0

pub parts-smaller-in-Some-run-2 : goal.parts-smaller-in-Some-run-2
parts-smaller-in-Some-run-2 c =
    let left = total-run c.parts.at_b c.in-Some-run-2.run'.behind c.in-Some-run-2.run'.first (others_of c.in-Some-run-2.run'.codes.now ++ c.in-Some-run-2.run'.more) c.in-Some-run-2.ensures.parts c.parts.invariant.1.second_normal in
    let past = total-past (c.in-Some-run-2.run'.sum.kept + c.in-Some-run-2.run'.sum.deleted) c.parts.at_a (λ some. has_past c.parts.at_a c.in-Some-retain.count _ (sym c.in-Some-retain.ensures) (omega (arith, c.in-Some-run-2.ensures.fits)) some) in
    rw c.pass-in-Some-run-2.ensures (omega (arith, left, past))

pub parts-preserved-in-Some-run-2 : goal.parts-preserved-in-Some-run-2
parts-preserved-in-Some-run-2 c = (
  with_runs c.parts.invariant.0 (runs_of (read_codes c.in-Some-run-2.run'.first c.in-Some-run-2.run'.codes.now c.in-Some-run-2.run'.more)),
  rw (c.in_ok-put.ensures.ok, c.pass-in-Some-run-2.ensures)
      (step_run_second c.args.a.now c.args.b.now c.parts.first c.parts.invariant.0 c.parts.at_a c.parts.at_b (read_codes c.in-Some-run-2.run'.first c.in-Some-run-2.run'.codes.now c.in-Some-run-2.run'.more) c.in-Some-run-2.run'.behind c.in-Some-run-2.run'.sum c.in-Some-retain.count c.in-Some-run-2.ensures.read.sum_is
      (sym c.in-Some-retain.ensures) c.in-Some-run-2.ensures.parts (omega (arith, c.in-Some-run-2.ensures.fits, retain_filled c.parts.at_a c.in-Some-retain.count (sym c.in-Some-retain.ensures) c.parts.invariant.1.first_normal)) c.parts.invariant.1),
  λ wanted. ap (λ op. with_runs op (runs_of (read_codes c.in-Some-run-2.run'.first c.in-Some-run-2.run'.codes.now c.in-Some-run-2.run'.more))) (c.parts.invariant.2 wanted) ∙ sym (c.in_ok-append_if.ensures wanted),
)

pub put-requires-in-Some-insertion : goal.put-requires-in-Some-insertion
put-requires-in-Some-insertion c =
    (small c.args.a.now c.args.b.now _ _ _ _ (whole_of c.args.a.now c.args.b.now (runs_of c.cursor-at_a.result) (runs_of c.cursor-at_b.result) c.cursor-at_a.ensures.spells c.cursor-at_b.ensures.spells c.requires.same_base c.requires.fits)
    (step_first c.args.a.now c.args.b.now c.parts.first c.parts.invariant.0 c.parts.at_a c.parts.at_b c.in-Some-insertion.count (sym c.in-Some-insertion.ensures) c.parts.invariant.1)).0

pub put_if-requires-in-Some-insertion : goal.put_if-requires-in-Some-insertion
put_if-requires-in-Some-insertion c wanted =
    subst (λ op. IsTooLong (appended op (run_of (Retain c.in-Some-insertion.count))) → ⊥) (c.parts.invariant.2 wanted)
    (small c.args.a.now c.args.b.now _ _ _ _ (whole_of c.args.a.now c.args.b.now (runs_of c.cursor-at_a.result) (runs_of c.cursor-at_b.result) c.cursor-at_a.ensures.spells c.cursor-at_b.ensures.spells c.requires.same_base c.requires.fits)
    (step_first c.args.a.now c.args.b.now c.parts.first c.parts.invariant.0 c.parts.at_a c.parts.at_b c.in-Some-insertion.count (sym c.in-Some-insertion.ensures) c.parts.invariant.1)).1

pub parts-preserved-in-Some-insertion : goal.parts-preserved-in-Some-insertion
parts-preserved-in-Some-insertion c = (
  appended c.parts.invariant.0 (run_of (Retain c.in-Some-insertion.count)),
  rw (c.in_ok-put-2.ensures.ok, c.next.ensures)
      (step_first c.args.a.now c.args.b.now c.parts.first c.parts.invariant.0 c.parts.at_a c.parts.at_b c.in-Some-insertion.count (sym c.in-Some-insertion.ensures) c.parts.invariant.1),
  λ wanted. ap (λ op. appended op (run_of (Retain c.in-Some-insertion.count))) (c.parts.invariant.2 wanted) ∙ sym (c.in_ok-put_if-2.ensures wanted),
)

pub put-requires-in-Some-insertion-2 : goal.put-requires-in-Some-insertion-2
put-requires-in-Some-insertion-2 c =
    (small c.args.a.now c.args.b.now _ _ _ _ (whole_of c.args.a.now c.args.b.now (runs_of c.cursor-at_a.result) (runs_of c.cursor-at_b.result) c.cursor-at_a.ensures.spells c.cursor-at_b.ensures.spells c.requires.same_base c.requires.fits)
    (step_second c.args.a.now c.args.b.now c.parts.first c.parts.invariant.0 c.parts.at_a c.parts.at_b c.in-Some-insertion-2.count (sym c.insertion.ensures ∙ c.in_default-insertion.is) (sym c.in-Some-insertion-2.ensures) c.parts.invariant.1)).0

pub put_if-requires-in-Some-insertion-2 : goal.put_if-requires-in-Some-insertion-2
put_if-requires-in-Some-insertion-2 c wanted =
    subst (λ op. IsTooLong (appended op (run_of (Insert c.in-Some-insertion-2.count))) → ⊥) (c.parts.invariant.2 wanted)
    (small c.args.a.now c.args.b.now _ _ _ _ (whole_of c.args.a.now c.args.b.now (runs_of c.cursor-at_a.result) (runs_of c.cursor-at_b.result) c.cursor-at_a.ensures.spells c.cursor-at_b.ensures.spells c.requires.same_base c.requires.fits)
    (step_second c.args.a.now c.args.b.now c.parts.first c.parts.invariant.0 c.parts.at_a c.parts.at_b c.in-Some-insertion-2.count (sym c.insertion.ensures ∙ c.in_default-insertion.is) (sym c.in-Some-insertion-2.ensures) c.parts.invariant.1)).1

pub parts-preserved-in-Some-insertion-2 : goal.parts-preserved-in-Some-insertion-2
parts-preserved-in-Some-insertion-2 c = (
  appended c.parts.invariant.0 (run_of (Insert c.in-Some-insertion-2.count)),
  rw (c.in_ok-put-3.ensures.ok, c.next-in-Some-insertion-2.ensures)
      (step_second c.args.a.now c.args.b.now c.parts.first c.parts.invariant.0 c.parts.at_a c.parts.at_b c.in-Some-insertion-2.count (sym c.insertion.ensures ∙ c.in_default-insertion.is) (sym c.in-Some-insertion-2.ensures) c.parts.invariant.1),
  λ wanted. ap (λ op. appended op (run_of (Insert c.in-Some-insertion-2.count))) (c.parts.invariant.2 wanted) ∙ sym (c.in_ok-put_if-3.ensures wanted),
)

pub returns-in_default-head-clause-first : goal.returns-in_default-head-clause-first
returns-in_default-head-clause-first c =
    (end_first c.args.a.now c.args.b.now c.parts.first c.parts.invariant.0 c.parts.at_a c.parts.at_b (sym c.head.ensures ∙ c.in_default-head.is) (sym c.insertion-in-parts.ensures ∙ c.in_default-insertion-2.is) c.parts.invariant.1).0

pub returns-in_default-head-clause-second : goal.returns-in_default-head-clause-second
returns-in_default-head-clause-second c wanted =
    sym (c.parts.invariant.2 wanted)
    ∙ (end_first c.args.a.now c.args.b.now c.parts.first c.parts.invariant.0 c.parts.at_a c.parts.at_b (sym c.head.ensures ∙ c.in_default-head.is) (sym c.insertion-in-parts.ensures ∙ c.in_default-insertion-2.is) c.parts.invariant.1).1

pub returns-in_default-head-2-clause-first : goal.returns-in_default-head-2-clause-first
returns-in_default-head-2-clause-first c =
    (end_second c.args.a.now c.args.b.now c.parts.first c.parts.invariant.0 c.parts.at_a c.parts.at_b (sym c.head-in-parts.ensures ∙ c.in_default-head-2.is) (sym c.insertion.ensures ∙ c.in_default-insertion.is) c.parts.invariant.1).0

pub returns-in_default-head-2-clause-second : goal.returns-in_default-head-2-clause-second
returns-in_default-head-2-clause-second c wanted =
    sym (c.parts.invariant.2 wanted)
    ∙ (end_second c.args.a.now c.args.b.now c.parts.first c.parts.invariant.0 c.parts.at_a c.parts.at_b (sym c.head-in-parts.ensures ∙ c.in_default-head-2.is) (sym c.insertion.ensures ∙ c.in_default-insertion.is) c.parts.invariant.1).1

pub put_part-requires : goal.put_part-requires
put_part-requires c wanted =
    let whole = whole_of c.args.a.now c.args.b.now (runs_of c.cursor-at_a.result) (runs_of c.cursor-at_b.result) c.cursor-at_a.ensures.spells c.cursor-at_b.ensures.spells c.requires.same_base c.requires.fits in
    (small c.args.a.now c.args.b.now _ _ _ _ whole
    (step_part c.args.a.now c.args.b.now c.parts.first c.parts.invariant.0 c.min-count.result c.in-Some-head.ours c.in-Some-head-2.theirs c.parts.at_a c.parts.at_b
    (sym c.in-Some-head.ensures) (sym c.in-Some-head-2.ensures) (omega arith) (omega arith) (sym c.insertion.ensures ∙ c.in_default-insertion.is) (sym c.insertion-in-parts.ensures ∙ c.in_default-insertion-2.is) c.parts.invariant.1)).0

pub put_part-requires-in-parts : goal.put_part-requires-in-parts
put_part-requires-in-parts c wanted =
    let whole = whole_of c.args.a.now c.args.b.now (runs_of c.cursor-at_a.result) (runs_of c.cursor-at_b.result) c.cursor-at_a.ensures.spells c.cursor-at_b.ensures.spells c.requires.same_base c.requires.fits in
    subst (λ op. IsTooLong (transformed_part op (keeps c.in-Some-head-2.theirs) (keeps c.in-Some-head.ours) c.min-count.result) → ⊥) (c.parts.invariant.2 wanted)
    (small c.args.a.now c.args.b.now _ _ _ _ whole
    (step_part c.args.a.now c.args.b.now c.parts.first c.parts.invariant.0 c.min-count.result c.in-Some-head.ours c.in-Some-head-2.theirs c.parts.at_a c.parts.at_b
    (sym c.in-Some-head.ensures) (sym c.in-Some-head-2.ensures) (omega arith) (omega arith) (sym c.insertion.ensures ∙ c.in_default-insertion.is) (sym c.insertion-in-parts.ensures ∙ c.in_default-insertion-2.is) c.parts.invariant.1)).1

pub take-requires : goal.take-requires
take-requires c =
    let ours = filled_head c.parts.at_a c.in-Some-head.ours (sym c.in-Some-head.ensures) c.parts.invariant.1.first_normal in
    let theirs = filled_head c.parts.at_b c.in-Some-head-2.theirs (sym c.in-Some-head-2.ensures) c.parts.invariant.1.second_normal in
    has_first c.min-count.result c.parts.at_a c.in-Some-head.ours (sym c.in-Some-head.ensures) (omega (arith, ours, theirs)) (omega arith)

pub take-requires-in-parts : goal.take-requires-in-parts
take-requires-in-parts c =
    let ours = filled_head c.parts.at_a c.in-Some-head.ours (sym c.in-Some-head.ensures) c.parts.invariant.1.first_normal in
    let theirs = filled_head c.parts.at_b c.in-Some-head-2.theirs (sym c.in-Some-head-2.ensures) c.parts.invariant.1.second_normal in
    has_first c.min-count.result c.parts.at_b c.in-Some-head-2.theirs (sym c.in-Some-head-2.ensures) (omega (arith, ours, theirs)) (omega arith)

pub parts-smaller : goal.parts-smaller
parts-smaller c =
    let ours = filled_head c.parts.at_a c.in-Some-head.ours (sym c.in-Some-head.ensures) c.parts.invariant.1.first_normal in
    let theirs = filled_head c.parts.at_b c.in-Some-head-2.theirs (sym c.in-Some-head-2.ensures) c.parts.invariant.1.second_normal in
    let some : 0 < c.min-count.result = omega (arith, ours, theirs) in
    let first = total-without c.min-count.result c.parts.at_a (has_first c.min-count.result c.parts.at_a c.in-Some-head.ours (sym c.in-Some-head.ensures) some (omega arith)) in
    let second = total-without c.min-count.result c.parts.at_b (has_first c.min-count.result c.parts.at_b c.in-Some-head-2.theirs (sym c.in-Some-head-2.ensures) some (omega arith)) in
    rw (c.take.ensures, c.take-in-parts.ensures) (omega (arith, first, second, some))

pub parts-preserved : goal.parts-preserved
parts-preserved c = (
  transformed_part c.parts.invariant.0 (keeps c.in-Some-head-2.theirs) (keeps c.in-Some-head.ours) c.min-count.result,
  rw (c.in_ok-put_part.ensures refl, c.take.ensures, c.take-in-parts.ensures)
      (step_part c.args.a.now c.args.b.now c.parts.first c.parts.invariant.0 c.min-count.result c.in-Some-head.ours c.in-Some-head-2.theirs c.parts.at_a c.parts.at_b
      (sym c.in-Some-head.ensures) (sym c.in-Some-head-2.ensures) (omega arith) (omega arith) (sym c.insertion.ensures ∙ c.in_default-insertion.is) (sym c.insertion-in-parts.ensures ∙ c.in_default-insertion-2.is) c.parts.invariant.1),
  λ wanted.
      ap (λ op. transformed_part op (keeps c.in-Some-head-2.theirs) (keeps c.in-Some-head.ours) c.min-count.result) (c.parts.invariant.2 wanted)
      ∙ sym (c.in_ok-put_part-2.ensures wanted),
)
