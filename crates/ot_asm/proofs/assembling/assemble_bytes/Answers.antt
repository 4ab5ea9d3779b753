use Rattle.std.proofs.Common.{◌≡◌, ◌∙◌, length, arith, rules, inr}
use Rattle.std.proofs.lemmas.Result.{IfOk-weaker, IfErr-weaker}
use Rattle.streams.specs.Lines.{lines_of}
use Rattle.ot_asm.proofs.Running.{started, stepped, faulted, wanting, at_last, fault_of, fault_is, no_lines}
use Rattle.ot_asm.proofs.assembling.assemble_bytes.Goals as goal

pub loop-rest-init : goal.loop-rest-init
loop-rest-init c = record { read = started (lines_of c.args.text.now); few = omega arith }

pub returns-in-Err-clause-err : goal.returns-in-Err-clause-err
returns-in-Err-clause-err c =
    let read = rw c.first_line.ensures.lines at c.loop-rest.invariant.read in
    let fault = c.in-Err.fault in
    fault_of fault.kind c.in-Err.ensures.err (λ e. faulted c.first_line.result.0.now (lines_of c.first_line.result.1.now) read e ∙ fault_is fault c.loop-rest.line c.in-Err.ensures.number)

pub returns-in-Err-clause-memory : goal.returns-in-Err-clause-memory
returns-in-Err-clause-memory c = λ memory.
    let read = rw c.first_line.ensures.lines at c.loop-rest.invariant.read in
    rw c.in-Err.ensures.number (wanting c.first_line.result.0.now (lines_of c.first_line.result.1.now) read (c.in-Err.ensures.memory memory))

pub loop-rest-preserved : goal.loop-rest-preserved
loop-rest-preserved c =
    let read = rw c.first_line.ensures.lines at c.loop-rest.invariant.read in
    record { read = stepped c.first_line.result.0.now (lines_of c.first_line.result.1.now) read c.in-Ok.ensures.ok; few = omega arith }

pub returns-clause-ok : goal.returns-clause-ok
returns-clause-ok c =
    let none : length c.loop-rest.rest.now ≡ 0 = search rules in
    let read = rw (no_lines c.loop-rest.rest.now none) at c.loop-rest.invariant.read in
    IfOk-weaker c.finished.result _ _ (λ s e. at_last read e) c.finished.ensures.ok

pub returns-clause-err : goal.returns-clause-err
returns-clause-err c =
    let none : length c.loop-rest.rest.now ≡ 0 = search rules in
    let read = rw (no_lines c.loop-rest.rest.now none) at c.loop-rest.invariant.read in
    IfErr-weaker c.finished.result _ _ (λ f e. inr (at_last read e)) c.finished.ensures.err
