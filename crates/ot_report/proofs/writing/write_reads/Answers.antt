use Rattle.std.proofs.Common.{◌∙◌, ap, arith, string_bytes, sym, Option}
use Rattle.std.specs.Option.{option_map}
use Rattle.ot_model.specs.declared.shown.Reader.{Reader}
use Rattle.ot_model.specs.Table.{Performed}
use Rattle.ot_machine.specs.Effects.{shown_by}
use Rattle.ot_report.specs.Written.{ReadsUpTo}
use Rattle.streams.specs.declared.OutputFault.{OutputFault}
use Rattle.ot_report.proofs.Authoring.{gathers_same}
use Rattle.ot_report.proofs.Progress.{err_is, is_begun, is_next, is_stopped, is_whole, reads_cut}
use Rattle.ot_report.proofs.writing.write_reads.Goals as goal

pub loop-place-init : goal.loop-place-init
loop-place-init g c = is_begun c.args.json c.args.schedule.now c.args.machine.now (string_bytes c.args.text.now) (g.W.Write.contents c.args.output.now) c.requires.opening c.requires.empty

pub returns-in-Err-clause-ok : goal.returns-in-Err-clause-ok
returns-in-Err-clause-ok g c =
    is_stopped c.args.json c.args.schedule.now c.loop-place.place c.in-Some.instr.now c.loop-place.machine c.perform.new.self (string_bytes c.loop-place.text)
    (g.W.Write.contents c.args.output.now) (g.W.Write.contents c.loop-place.output) c.loop-place.invariant c.in-Some.ensures.some
    c.in-Err.refusal c.perform.new.self c.in-Err.ensures.refused c.in-Err.ensures.unchanged

pub returns-clause-ok : goal.returns-clause-ok
returns-clause-ok g c =
    is_whole c.args.json c.args.schedule.now c.loop-place.place c.loop-place.machine (string_bytes c.loop-place.text) (g.W.Write.contents c.args.output.now) (g.W.Write.contents c.loop-place.output)
    (omega arith) (omega arith) c.loop-place.invariant

pub returns-in_err-gather-in-Ok-clause-err : goal.returns-in_err-gather-in-Ok-clause-err
returns-in_err-gather-in-Ok-clause-err g c =
    let s = c.args.schedule.now in
    let old = g.W.Write.contents c.args.output.now in
    let mid = g.W.Write.contents c.loop-place.output in
    let new = g.W.Write.contents c.gather.new.output in
    let f = c.in_err-gather-in-Ok.field-0.0 in
    err_is c.from_residual.result f (λ (e : OutputFault). ReadsUpTo e c.args.json s old new) c.from_residual.ensures.1
    (reads_cut c.args.json s c.loop-place.place c.in-Some.instr.now c.loop-place.machine c.perform.new.self (string_bytes c.loop-place.text) old mid c.loop-place.invariant c.in-Some.ensures.some
    (option_map (shown_by c.perform.new.self) c.in-Ok.effect.shown) f new (c.in-Ok.ensures.effect.led ∙ ap (λ (who : Option Reader). Performed c.perform.new.self (option_map (shown_by c.perform.new.self) who)) (sym c.in-Ok.ensures.effect.shown)) c.in_err-gather-in-Ok.ensures.err)

pub loop-place-preserved : goal.loop-place-preserved
loop-place-preserved g c =
    is_next c.args.json c.args.schedule.now c.loop-place.place c.in-Some.instr.now c.loop-place.machine c.perform.new.self (string_bytes c.loop-place.text)
    (g.W.Write.contents c.args.output.now) (g.W.Write.contents c.loop-place.output) c.loop-place.invariant c.in-Some.ensures.some
    (option_map (shown_by c.perform.new.self) c.in-Ok.effect.shown) (string_bytes c.gather.new.text) (g.W.Write.contents c.gather.new.output) (c.in-Ok.ensures.effect.led ∙ ap (λ (who : Option Reader). Performed c.perform.new.self (option_map (shown_by c.perform.new.self) who)) (sym c.in-Ok.ensures.effect.shown))
    (gathers_same c.args.schedule.now.instrs c.args.authors.now c.args.json c.requires.authors (option_map (shown_by c.perform.new.self) c.in-Ok.effect.shown) (string_bytes c.loop-place.text) (string_bytes c.gather.new.text)
    (g.W.Write.contents c.loop-place.output) (g.W.Write.contents c.gather.new.output) c.in_ok-gather-in-Ok.ensures.ok)
