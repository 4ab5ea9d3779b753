use Rattle.std.proofs.Common.{subst, List, ℕ}
use Rattle.std.specs.Io.KnownBytes.{Appends}
use Rattle.streams.specs.Streams.{WritesPart}
use Rattle.ot_steps.specs.Gathered.{RunUpTo}
use Rattle.ot_steps.specs.Written.{WritesUpTo}
use Rattle.streams.specs.declared.OutputFault.{OutputFault}
use Rattle.streams.specs.declared.OutputFault.TheVariants.{WriteFault}
use Rattle.ot_steps.proofs.Progress.{all_cut, err_is, first_cut, first_written}
use Rattle.ot_steps.proofs.writing.print_steps.Goals as goal

pub returns-in_err-put-in-Ok-clause-err : goal.returns-in_err-put-in-Ok-clause-err
returns-in_err-put-in-Ok-clause-err g c =
    let d = c.args.documents in
    let s = c.args.schedule.now in
    let old = g.W.Write.contents c.args.output.now in
    let mid = g.W.Write.contents c.gather_run.new.output in
    let new = g.W.Write.contents c.put.new.self in
    let written = subst (λ (bytes : List ℕ). WritesPart mid new bytes) c.as_slice.ensures.value c.in_err-put-in-Ok.ensures.err in
    err_is c.from_residual.result WriteFault (λ (f : OutputFault). WritesUpTo f d s old new) c.from_residual.ensures.1
    (all_cut d s old mid new c.new-held.result.items c.gather_run.new.held.items c.new-held.ensures.items c.in-Ok.refused c.in-Ok.ensures.ok written)

pub returns-in_err-put-in-Err-Memory-clause-err : goal.returns-in_err-put-in-Err-Memory-clause-err
returns-in_err-put-in-Err-Memory-clause-err g c =
    let d = c.args.documents in
    let s = c.args.schedule.now in
    let old = g.W.Write.contents c.args.output.now in
    let mid = g.W.Write.contents c.gather_run.new.output in
    let new = g.W.Write.contents c.put-in-Err-Memory.new.self in
    let none = c.new-held.result.items in
    let held = c.gather_run.new.held.items in
    let run = subst (λ (f : OutputFault). RunUpTo f d s old mid none held) c.in-Err-Memory.field-0-is c.in-Err-Memory.ensures.err in
    let written = subst (λ (bytes : List ℕ). WritesPart mid new bytes) c.as_slice-in-Err-Memory.ensures.value c.in_err-put-in-Err-Memory.ensures.err in
    err_is c.from_residual-in_err-put-in-Err-Memory.result WriteFault (λ (f : OutputFault). WritesUpTo f d s old new) c.from_residual-in_err-put-in-Err-Memory.ensures.1
    (first_cut d s old mid new none held c.new-held.ensures.items run written)

pub returns-in-Err-Memory-clause-err : goal.returns-in-Err-Memory-clause-err
returns-in-Err-Memory-clause-err g c =
    let d = c.args.documents in
    let s = c.args.schedule.now in
    let old = g.W.Write.contents c.args.output.now in
    let mid = g.W.Write.contents c.gather_run.new.output in
    let new = g.W.Write.contents c.put-in-Err-Memory.new.self in
    let none = c.new-held.result.items in
    let held = c.gather_run.new.held.items in
    let run = subst (λ (f : OutputFault). RunUpTo f d s old mid none held) c.in-Err-Memory.field-0-is c.in-Err-Memory.ensures.err in
    let written = subst (λ (bytes : List ℕ). Appends mid new bytes) c.as_slice-in-Err-Memory.ensures.value c.in_ok-put-in-Err-Memory.ensures.ok in
    first_written d s old mid new none held c.new-held.ensures.items run written
