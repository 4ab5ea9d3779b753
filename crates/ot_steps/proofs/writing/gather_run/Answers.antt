use Rattle.std.proofs.Common.{◌∙◌, inl}
use Rattle.ot_steps.specs.Gathered.{RunUpTo}
use Rattle.streams.specs.declared.OutputFault.{OutputFault}
use Rattle.streams.specs.declared.OutputFault.TheVariants.{Memory}
use Rattle.ot_steps.proofs.Gathering.{gathers_none}
use Rattle.ot_steps.proofs.Progress.{all_gathered, err_is, last_cut, last_missing, moves_cut, opening_cut}
use Rattle.ot_steps.proofs.writing.gather_run.Goals as goal

pub returns-in_err-opening-clause-err : goal.returns-in_err-opening-clause-err
returns-in_err-opening-clause-err g c =
    let s = c.args.schedule.now in
    let old = g.W.Write.contents c.args.output.now in
    let held = c.args.held.now.items in
    err_is c.from_residual-in_err-opening.result Memory (λ (f : OutputFault). RunUpTo f c.args.documents s old old held held) c.from_residual-in_err-opening.ensures.1
    (inl (gathers_none old held))

pub returns-in_err-gather-clause-err : goal.returns-in_err-gather-clause-err
returns-in_err-gather-clause-err g c =
    let s = c.args.schedule.now in
    let old = g.W.Write.contents c.args.output.now in
    let mid = g.W.Write.contents c.gather.new.output in
    let held = c.args.held.now.items in
    let before = c.gather.new.held.items in
    let f = c.in_err-gather.field-0.0 in
    err_is c.from_residual-in_err-gather.result f (λ (e : OutputFault). RunUpTo e c.args.documents s old mid held before) c.from_residual-in_err-gather.ensures.1
    (opening_cut c.args.documents s old mid held before c.as_str.result.now (c.as_str.ensures.value ∙ c.in_ok-opening.ensures) f c.in_err-gather.ensures.err)

pub returns-in_err-stopped-clause-err : goal.returns-in_err-stopped-clause-err
returns-in_err-stopped-clause-err g c =
    let s = c.args.schedule.now in
    let old = g.W.Write.contents c.args.output.now in
    let mid = g.W.Write.contents c.gather.new.output in
    let new = g.W.Write.contents c.gather_moves.new.output in
    let held = c.args.held.now.items in
    let before = c.gather.new.held.items in
    let after = c.gather_moves.new.held.items in
    let f = c.in_err-stopped.field-0.0 in
    err_is c.from_residual-in_err-stopped.result f (λ (e : OutputFault). RunUpTo e c.args.documents s old new held after) c.from_residual-in_err-stopped.ensures.1
    (moves_cut c.args.documents s old mid held before c.as_str.result.now (c.as_str.ensures.value ∙ c.in_ok-opening.ensures) c.in_ok-gather.ensures.ok f new after c.in_err-stopped.ensures.err)

pub returns-in_err-last-clause-err : goal.returns-in_err-last-clause-err
returns-in_err-last-clause-err g c =
    let s = c.args.schedule.now in
    let old = g.W.Write.contents c.args.output.now in
    let mid = g.W.Write.contents c.gather.new.output in
    let new = g.W.Write.contents c.gather_moves.new.output in
    let held = c.args.held.now.items in
    let before = c.gather.new.held.items in
    let after = c.gather_moves.new.held.items in
    err_is c.from_residual-in_err-last.result Memory (λ (f : OutputFault). RunUpTo f c.args.documents s old new held after) c.from_residual-in_err-last.ensures.1
    (last_missing c.args.documents s old mid held before c.as_str.result.now (c.as_str.ensures.value ∙ c.in_ok-opening.ensures) c.in_ok-gather.ensures.ok
    c.in_ok-stopped.stopped c.gather_moves.new.machine new after c.in_ok-stopped.ensures.ok)

pub returns-in_err-gather-2-clause-err : goal.returns-in_err-gather-2-clause-err
returns-in_err-gather-2-clause-err g c =
    let s = c.args.schedule.now in
    let old = g.W.Write.contents c.args.output.now in
    let mid = g.W.Write.contents c.gather.new.output in
    let later = g.W.Write.contents c.gather_moves.new.output in
    let new = g.W.Write.contents c.gather-2.new.output in
    let held = c.args.held.now.items in
    let before = c.gather.new.held.items in
    let after = c.gather_moves.new.held.items in
    let over = c.gather-2.new.held.items in
    let f = c.in_err-gather-2.field-0.0 in
    err_is c.from_residual-in_err-gather-2.result f (λ (e : OutputFault). RunUpTo e c.args.documents s old new held over) c.from_residual-in_err-gather-2.ensures.1
    (last_cut c.args.documents s old mid held before c.as_str.result.now (c.as_str.ensures.value ∙ c.in_ok-opening.ensures) c.in_ok-gather.ensures.ok
    c.in_ok-stopped.stopped c.gather_moves.new.machine later after c.in_ok-stopped.ensures.ok f new over c.as_str-2.result.now (c.as_str-2.ensures.value ∙ c.in_ok-last.ensures) c.in_err-gather-2.ensures.err)

pub returns-clause-ok : goal.returns-clause-ok
returns-clause-ok g c =
    let s = c.args.schedule.now in
    let old = g.W.Write.contents c.args.output.now in
    let mid = g.W.Write.contents c.gather.new.output in
    let later = g.W.Write.contents c.gather_moves.new.output in
    let new = g.W.Write.contents c.gather-2.new.output in
    let held = c.args.held.now.items in
    let before = c.gather.new.held.items in
    let after = c.gather_moves.new.held.items in
    let over = c.gather-2.new.held.items in
    all_gathered c.args.documents s old mid held before c.as_str.result.now (c.as_str.ensures.value ∙ c.in_ok-opening.ensures) c.in_ok-gather.ensures.ok
    c.in_ok-stopped.stopped c.gather_moves.new.machine later after c.in_ok-stopped.ensures.ok c.is_some.result new over c.as_str-2.result.now c.is_some.ensures (c.as_str-2.ensures.value ∙ c.in_ok-last.ensures) c.in_ok-gather-2.ensures.ok
