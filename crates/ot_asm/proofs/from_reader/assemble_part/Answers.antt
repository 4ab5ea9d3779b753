use Rattle.std.proofs.Common.{inl, ◌≡◌, ◌<◌, ◌&&◌, true, false, rules, arith, Ok, Err}
use Rattle.std.proofs.lemmas.Result.{IfOk-weaker, IfErr-weaker}
use Rattle.ot_asm.specs.Parts.{is_mark}
use Rattle.ot_asm.proofs.Known.{started_known, stepped_known, faulted_known, wanting_known, marked_known, marked_part, ended_known, ended_part, spends_none, spends_more, other_fault, named, on_ok}
use Rattle.ot_asm.proofs.from_reader.assemble_part.Goals as goal

pub loop-body-init : goal.loop-body-init
loop-body-init g c = record { taken = started_known _ _; spent = spends_none _ _; low = omega arith; few = omega arith }

pub returns-in-Ok-false-clause-ok : goal.returns-in-Ok-false-clause-ok
returns-in-Ok-false-clause-ok g c =
    let remaining = g.R.Read.remaining in
    let taken = rw c.in-Ok-false.field-0-test at c.in-Ok-false.ensures.ok in
    IfOk-weaker c.finished_part.result _ _ (λ p e. ended_known c.args.marked (remaining c.args.reader.now) (remaining c.loop-body.reader) (remaining c.next_line.new.self) c.next_line.new.line.items c.loop-body.line c.loop-body.body (Ok p.0) c.loop-body.invariant.taken taken e) c.finished_part.ensures.ok

pub returns-in-Ok-false-clause-part : goal.returns-in-Ok-false-clause-part
returns-in-Ok-false-clause-part g c =
    let remaining = g.R.Read.remaining in
    let taken = rw c.in-Ok-false.field-0-test at c.in-Ok-false.ensures.ok in
    IfOk-weaker c.finished_part.result _ _ (λ p e. rw e (ended_part c.args.marked (remaining c.args.reader.now) (remaining c.loop-body.reader) (remaining c.next_line.new.self) c.next_line.new.line.items c.loop-body.line c.loop-body.body c.loop-body.invariant.taken taken)) c.finished_part.ensures.taken

pub returns-in-Ok-false-clause-err : goal.returns-in-Ok-false-clause-err
returns-in-Ok-false-clause-err g c =
    let remaining = g.R.Read.remaining in
    let taken = rw c.in-Ok-false.field-0-test at c.in-Ok-false.ensures.ok in
    IfErr-weaker c.finished_part.result _ _ (λ f e not_memory not_read. ended_known c.args.marked (remaining c.args.reader.now) (remaining c.loop-body.reader) (remaining c.next_line.new.self) c.next_line.new.line.items c.loop-body.line c.loop-body.body (Err f) c.loop-body.invariant.taken taken e) c.finished_part.ensures.err

pub returns-then-ends_part-clause-ok : goal.returns-then-ends_part-clause-ok
returns-then-ends_part-clause-ok g c =
    let remaining = g.R.Read.remaining in
    let taken = rw c.in-Ok-true.field-0-test at c.in-Ok-true.ensures.ok in
    let mark : (c.args.marked && is_mark c.next_line.new.line.items) ≡ true = search rules in
    IfOk-weaker c.finished_part-then-ends_part.result _ _ (λ p e. marked_known c.args.marked (remaining c.args.reader.now) (remaining c.loop-body.reader) (remaining c.next_line.new.self) c.next_line.new.line.items c.loop-body.line c.loop-body.body (Ok p.0) c.loop-body.invariant.taken taken mark e) c.finished_part-then-ends_part.ensures.ok

pub returns-then-ends_part-clause-part : goal.returns-then-ends_part-clause-part
returns-then-ends_part-clause-part g c =
    let remaining = g.R.Read.remaining in
    let taken = rw c.in-Ok-true.field-0-test at c.in-Ok-true.ensures.ok in
    let mark : (c.args.marked && is_mark c.next_line.new.line.items) ≡ true = search rules in
    IfOk-weaker c.finished_part-then-ends_part.result _ _ (λ p e. rw e (marked_part c.args.marked (remaining c.args.reader.now) (remaining c.loop-body.reader) (remaining c.next_line.new.self) c.next_line.new.line.items c.loop-body.line c.loop-body.body c.loop-body.invariant.taken taken mark)) c.finished_part-then-ends_part.ensures.taken

pub returns-then-ends_part-clause-err : goal.returns-then-ends_part-clause-err
returns-then-ends_part-clause-err g c =
    let remaining = g.R.Read.remaining in
    let taken = rw c.in-Ok-true.field-0-test at c.in-Ok-true.ensures.ok in
    let mark : (c.args.marked && is_mark c.next_line.new.line.items) ≡ true = search rules in
    IfErr-weaker c.finished_part-then-ends_part.result _ _ (λ f e not_memory not_read. marked_known c.args.marked (remaining c.args.reader.now) (remaining c.loop-body.reader) (remaining c.next_line.new.self) c.next_line.new.line.items c.loop-body.line c.loop-body.body (Err f) c.loop-body.invariant.taken taken mark e) c.finished_part-then-ends_part.ensures.err

pub returns-in-Err-clause-err : goal.returns-in-Err-clause-err
returns-in-Err-clause-err g c not_memory not_read =
    let remaining = g.R.Read.remaining in
    let taken = rw c.in-Ok-true.field-0-test at c.in-Ok-true.ensures.ok in
    let other : (c.args.marked && is_mark c.next_line.new.line.items) ≡ false = search rules in
    let step = rw c.as_slice-in-loop-body.ensures.value at (other_fault not_memory c.in-Err.ensures.err) in
    named c.args.marked c.in-Err.fault c.loop-body.line (remaining c.args.reader.now) c.in-Err.ensures.number
    (faulted_known c.args.marked (remaining c.args.reader.now) (remaining c.loop-body.reader) (remaining c.next_line.new.self) c.next_line.new.line.items c.loop-body.line c.loop-body.body c.in-Err.fault.kind c.loop-body.invariant.taken taken other step)

pub returns-in-Err-clause-memory : goal.returns-in-Err-clause-memory
returns-in-Err-clause-memory g c = λ memory.
    let remaining = g.R.Read.remaining in
    let taken = rw c.in-Ok-true.field-0-test at c.in-Ok-true.ensures.ok in
    let other : (c.args.marked && is_mark c.next_line.new.line.items) ≡ false = search rules in
    let hides = rw c.as_slice-in-loop-body.ensures.value at (c.in-Err.ensures.memory memory) in
    inl (rw c.in-Err.ensures.number (wanting_known c.args.marked (remaining c.args.reader.now) (remaining c.loop-body.reader) (remaining c.next_line.new.self) c.next_line.new.line.items c.loop-body.line c.loop-body.body c.loop-body.invariant.taken taken other hides))

pub loop-body-preserved : goal.loop-body-preserved
loop-body-preserved g c =
    let remaining = g.R.Read.remaining in
    let taken = rw c.in-Ok-true.field-0-test at c.in-Ok-true.ensures.ok in
    let other : (c.args.marked && is_mark c.next_line.new.line.items) ≡ false = search rules in
    let step = rw c.as_slice-in-loop-body.ensures.value at c.in-Ok.ensures.ok in
    let less : g.R.Source.left c.next_line.new.self < g.R.Source.left c.loop-body.reader = c.in-Ok-true.ensures.less c.in-Ok-true.field-0-test in
    record {
      taken = stepped_known c.args.marked (remaining c.args.reader.now) (remaining c.loop-body.reader) (remaining c.next_line.new.self) c.next_line.new.line.items c.loop-body.line c.loop-body.body c.numbered_step.new.body c.loop-body.invariant.taken taken other step;
      spent = spends_more _ _ _ _ _ _ c.loop-body.invariant.spent c.in-Ok-true.ensures.spent;
      low = omega arith;
      few = omega (arith, less, c.loop-body.invariant.few);
    }

pub returns-in-Ok-false-clause-end : goal.returns-in-Ok-false-clause-end
returns-in-Ok-false-clause-end g c = on_ok c.finished_part.result (λ all. (c.in-Ok-false.ensures.end c.in-Ok-false.field-0-test).0)
