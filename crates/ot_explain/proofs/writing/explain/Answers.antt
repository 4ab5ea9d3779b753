use Rattle.std.proofs.Common.{◌∙◌}
use Rattle.ot_explain.specs.Explained.{WritesUpTo}
use Rattle.streams.specs.declared.OutputFault.{OutputFault}
use Rattle.streams.specs.declared.OutputFault.TheVariants.{Memory, WriteFault}
use Rattle.ot_steps.proofs.Progress.{err_is}
use Rattle.ot_explain.proofs.Progress.{all_written, last_cut, last_missing, moves_cut, opening_cut}
use Rattle.ot_explain.proofs.writing.explain.Goals as goal

pub returns-in_err-put-clause-err : goal.returns-in_err-put-clause-err
returns-in_err-put-clause-err g c =
    let s = c.args.schedule.now in
    let old = g.W.Write.contents c.args.output.now in
    let new = g.W.Write.contents c.put.new.self in
    err_is c.from_residual-in_err-put.result WriteFault (λ (f : OutputFault). WritesUpTo f c.args.lines.now c.args.comments.now s old new) c.from_residual-in_err-put.ensures.1
    (opening_cut c.args.lines.now c.args.comments.now s old new c.as_bytes.result.now (c.as_bytes.ensures.value ∙ c.in_ok-opening.ensures) c.in_err-put.ensures.err)

pub returns-in_err-stopped-clause-err : goal.returns-in_err-stopped-clause-err
returns-in_err-stopped-clause-err g c =
    let s = c.args.schedule.now in
    let old = g.W.Write.contents c.args.output.now in
    let mid = g.W.Write.contents c.put.new.self in
    let new = g.W.Write.contents c.write_moves.new.output in
    let f = c.in_err-stopped.field-0.0 in
    err_is c.from_residual-in_err-stopped.result f (λ (e : OutputFault). WritesUpTo e c.args.lines.now c.args.comments.now s old new) c.from_residual-in_err-stopped.ensures.1
    (moves_cut f c.args.lines.now c.args.comments.now s old mid new c.as_bytes.result.now (c.as_bytes.ensures.value ∙ c.in_ok-opening.ensures) c.in_ok-put.ensures.ok c.in_err-stopped.ensures.err)

pub returns-in_err-last-clause-err : goal.returns-in_err-last-clause-err
returns-in_err-last-clause-err g c =
    let s = c.args.schedule.now in
    let old = g.W.Write.contents c.args.output.now in
    let mid = g.W.Write.contents c.put.new.self in
    let new = g.W.Write.contents c.write_moves.new.output in
    err_is c.from_residual-in_err-last.result Memory (λ (f : OutputFault). WritesUpTo f c.args.lines.now c.args.comments.now s old new) c.from_residual-in_err-last.ensures.1
    (last_missing c.args.lines.now c.args.comments.now s c.in_ok-stopped.stopped c.write_moves.new.machine old mid new c.as_bytes.result.now c.as_bytes.result.now
    (c.as_bytes.ensures.value ∙ c.in_ok-opening.ensures) c.in_ok-put.ensures.ok c.in_ok-stopped.ensures.ok)

pub returns-in_err-put-2-clause-err : goal.returns-in_err-put-2-clause-err
returns-in_err-put-2-clause-err g c =
    let s = c.args.schedule.now in
    let old = g.W.Write.contents c.args.output.now in
    let mid = g.W.Write.contents c.put.new.self in
    let later = g.W.Write.contents c.write_moves.new.output in
    let new = g.W.Write.contents c.put-2.new.self in
    err_is c.from_residual-in_err-put-2.result WriteFault (λ (f : OutputFault). WritesUpTo f c.args.lines.now c.args.comments.now s old new) c.from_residual-in_err-put-2.ensures.1
    (last_cut c.args.lines.now c.args.comments.now s c.in_ok-stopped.stopped c.write_moves.new.machine old mid later c.as_bytes.result.now c.as_slice.result.now
    (c.as_bytes.ensures.value ∙ c.in_ok-opening.ensures) c.in_ok-put.ensures.ok c.in_ok-stopped.ensures.ok new (c.as_slice.ensures.value ∙ c.in_ok-last.ensures) c.in_err-put-2.ensures.err)

pub returns-clause-ok : goal.returns-clause-ok
returns-clause-ok g c =
    let s = c.args.schedule.now in
    let old = g.W.Write.contents c.args.output.now in
    let mid = g.W.Write.contents c.put.new.self in
    let later = g.W.Write.contents c.write_moves.new.output in
    let new = g.W.Write.contents c.put-2.new.self in
    all_written c.args.lines.now c.args.comments.now s c.in_ok-stopped.stopped c.write_moves.new.machine old mid later c.as_bytes.result.now c.as_slice.result.now
    (c.as_bytes.ensures.value ∙ c.in_ok-opening.ensures) c.in_ok-put.ensures.ok c.in_ok-stopped.ensures.ok c.is_some.result new c.is_some.ensures (c.as_slice.ensures.value ∙ c.in_ok-last.ensures) c.in_ok-put-2.ensures.ok
