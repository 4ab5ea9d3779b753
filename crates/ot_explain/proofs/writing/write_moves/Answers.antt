use Rattle.std.proofs.Common.{◌∙◌, ap, arith, subst, string_bytes, List, ℕ}
use Rattle.std.specs.Prelude.{Result, IfErr, OnErr, OnOk, ◌≡◌}
use Rattle.ot_model.specs.Table.{step}
use Rattle.ot_model.specs.declared.shown.Refusal.{Refusal}
use Rattle.ot_machine.specs.Answers.{IsRefusal}
use Rattle.ot_asm.specs.Named.{named}
use Rattle.ot_explain.specs.Explained.{IsMove, MovesUpTo, line_at}
use Rattle.streams.specs.declared.OutputFault.{OutputFault}
use Rattle.streams.specs.declared.OutputFault.TheVariants.{Memory, WriteFault}
use Rattle.ot_steps.proofs.Progress.{err_is}
use Rattle.ot_explain.proofs.Progress.{is_begun, is_next, is_stopped, is_whole, no_memory, part_of_next}
use Rattle.ot_explain.proofs.writing.write_moves.Goals as goal

pub loop-number-init : goal.loop-number-init
loop-number-init g c = is_begun c.args.lines.now c.args.comments.now c.args.schedule.now c.args.machine.now (g.W.Write.contents c.args.output.now) c.requires

pub returns-in_err-perform-clause-err : goal.returns-in_err-perform-clause-err
returns-in_err-perform-clause-err g c =
    let s = c.args.schedule.now in
    let old = g.W.Write.contents c.args.output.now in
    let new = g.W.Write.contents c.loop-number.output in
    err_is c.from_residual.result Memory (λ (f : OutputFault). MovesUpTo f c.args.lines.now c.args.comments.now s old new) c.from_residual.ensures.1
    (no_memory c.args.lines.now c.args.comments.now s c.loop-number.number c.in-Some.instr.now c.loop-number.machine old new c.loop-number.invariant c.in-Some.ensures.some)

pub returns-in_err-words-in-Ok-clause-err : goal.returns-in_err-words-in-Ok-clause-err
returns-in_err-words-in-Ok-clause-err g c =
    let s = c.args.schedule.now in
    let old = g.W.Write.contents c.args.output.now in
    let new = g.W.Write.contents c.loop-number.output in
    err_is c.from_residual-in_err-words-in-Ok.result Memory (λ (f : OutputFault). MovesUpTo f c.args.lines.now c.args.comments.now s old new) c.from_residual-in_err-words-in-Ok.ensures.1
    (no_memory c.args.lines.now c.args.comments.now s c.loop-number.number c.in-Some.instr.now c.loop-number.machine old new c.loop-number.invariant c.in-Some.ensures.some)

pub returns-in_err-put-in-Ok-clause-err : goal.returns-in_err-put-in-Ok-clause-err
returns-in_err-put-in-Ok-clause-err g c =
    let d = c.args.lines.now in
    let said = c.args.comments.now in
    let s = c.args.schedule.now in
    let i = c.in-Some.instr.now in
    let old = g.W.Write.contents c.args.output.now in
    let mid = g.W.Write.contents c.loop-number.output in
    let new = g.W.Write.contents c.put.new.self in
    let text = string_bytes c.perform.new.text in
    let move = subst (λ (r : Result (Unit {0}) Refusal). OnOk r (IsMove (line_at d c.loop-number.number) c.loop-number.number i c.loop-number.machine c.perform.new.machine text)) c.in-Ok.is c.in_ok-perform.ensures.paragraph in
    let with_names = c.as_slice.ensures.value ∙ c.in_ok-words-in-Ok.ensures ∙ ap (λ (b : List ℕ). named said.names b) c.as_bytes.ensures.value in
    err_is c.from_residual-in_err-put-in-Ok.result WriteFault (λ (f : OutputFault). MovesUpTo f d said s old new) c.from_residual-in_err-put-in-Ok.ensures.1
    (part_of_next d said s c.loop-number.number i c.loop-number.machine c.perform.new.machine old mid text c.as_slice.result.now c.loop-number.invariant c.in-Some.ensures.some move with_names new c.in_err-put-in-Ok.ensures.err)

pub returns-in-Err-clause-ok : goal.returns-in-Err-clause-ok
returns-in-Err-clause-ok g c =
    let i = c.in-Some.instr.now in
    let refused = subst (λ (r : Result (Unit {0}) Refusal). IfErr r (λ x. IsRefusal (step c.loop-number.machine i) x)) c.in-Err.is c.in_ok-perform.ensures.refused in
    let same = subst (λ (r : Result (Unit {0}) Refusal). OnErr r (c.perform.new.machine ≡ c.loop-number.machine)) c.in-Err.is c.in_ok-perform.ensures.unchanged in
    is_stopped c.args.lines.now c.args.comments.now c.args.schedule.now c.loop-number.number i c.in-Err.refusal c.loop-number.machine c.perform.new.machine (g.W.Write.contents c.args.output.now) (g.W.Write.contents c.loop-number.output)
    c.loop-number.invariant c.in-Some.ensures.some refused same

pub loop-number-preserved : goal.loop-number-preserved
loop-number-preserved g c =
    let d = c.args.lines.now in
    let said = c.args.comments.now in
    let s = c.args.schedule.now in
    let i = c.in-Some.instr.now in
    let old = g.W.Write.contents c.args.output.now in
    let mid = g.W.Write.contents c.loop-number.output in
    let new = g.W.Write.contents c.put.new.self in
    let text = string_bytes c.perform.new.text in
    let move = subst (λ (r : Result (Unit {0}) Refusal). OnOk r (IsMove (line_at d c.loop-number.number) c.loop-number.number i c.loop-number.machine c.perform.new.machine text)) c.in-Ok.is c.in_ok-perform.ensures.paragraph in
    let with_names = c.as_slice.ensures.value ∙ c.in_ok-words-in-Ok.ensures ∙ ap (λ (b : List ℕ). named said.names b) c.as_bytes.ensures.value in
    is_next d said s c.loop-number.number i c.loop-number.machine c.perform.new.machine old mid text c.as_slice.result.now c.loop-number.invariant c.in-Some.ensures.some move with_names new c.in_ok-put-in-Ok.ensures.ok

pub returns-clause-ok : goal.returns-clause-ok
returns-clause-ok g c =
    is_whole c.args.lines.now c.args.comments.now c.args.schedule.now c.loop-number.number c.loop-number.machine (g.W.Write.contents c.args.output.now) (g.W.Write.contents c.loop-number.output)
    (omega arith) (omega arith) c.loop-number.invariant
