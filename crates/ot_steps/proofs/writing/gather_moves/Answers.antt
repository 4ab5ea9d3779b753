use Rattle.std.proofs.Common.{arith, subst, string_bytes, ◌+◌, List, ℕ}
use Rattle.std.specs.Prelude.{Result, IfErr, OnErr, OnOk, ◌≡◌}
use Rattle.ot_model.specs.Table.{step}
use Rattle.ot_model.specs.declared.shown.Refusal.{Refusal}
use Rattle.ot_machine.specs.Answers.{IsRefusal}
use Rattle.ot_steps.specs.Gathered.{Gathers, GathersUpTo, MovesUpTo}
use Rattle.ot_steps.specs.Written.{IsMove}
use Rattle.streams.specs.declared.OutputFault.{OutputFault}
use Rattle.streams.specs.declared.OutputFault.TheVariants.{Memory}
use Rattle.ot_steps.proofs.Progress.{err_is, is_begun, is_next, is_stopped, is_whole, no_memory, not_next}
use Rattle.ot_steps.proofs.writing.gather_moves.Goals as goal

pub loop-place-init : goal.loop-place-init
loop-place-init g c = is_begun c.args.documents c.args.schedule.now c.args.machine.now (g.W.Write.contents c.args.output.now) c.args.held.now.items c.requires

pub returns-in_err-perform_and_write-clause-err : goal.returns-in_err-perform_and_write-clause-err
returns-in_err-perform_and_write-clause-err g c =
    let d = c.args.documents in
    let s = c.args.schedule.now in
    let old = g.W.Write.contents c.args.output.now in
    let new = g.W.Write.contents c.loop-place.output in
    let held = c.args.held.now.items in
    let before = c.loop-place.held.items in
    err_is c.from_residual.result Memory (λ (f : OutputFault). MovesUpTo f d s old new held before) c.from_residual.ensures.1
    (no_memory d s c.loop-place.place c.in-Some.instr.now c.loop-place.machine old new held before c.loop-place.invariant c.in-Some.ensures.some)

pub returns-in_err-gather-in-Ok-clause-err : goal.returns-in_err-gather-in-Ok-clause-err
returns-in_err-gather-in-Ok-clause-err g c =
    let d = c.args.documents in
    let s = c.args.schedule.now in
    let i = c.in-Some.instr.now in
    let old = g.W.Write.contents c.args.output.now in
    let mid = g.W.Write.contents c.loop-place.output in
    let new = g.W.Write.contents c.gather.new.output in
    let held = c.args.held.now.items in
    let before = c.loop-place.held.items in
    let after = c.gather.new.held.items in
    let f = c.in_err-gather-in-Ok.field-0.0 in
    let text = string_bytes c.perform_and_write.new.text in
    let move = subst (λ (r : Result (Unit {0}) Refusal). OnOk r (IsMove d (c.loop-place.place + 1) i c.loop-place.machine c.perform_and_write.new.machine text)) c.in-Ok.is c.in_ok-perform_and_write.ensures.line in
    let given = subst (λ (bytes : List ℕ). GathersUpTo f mid new before after bytes) c.as_str.ensures.value c.in_err-gather-in-Ok.ensures.err in
    err_is c.from_residual-in_err-gather-in-Ok.result f (λ (e : OutputFault). MovesUpTo e d s old new held after) c.from_residual-in_err-gather-in-Ok.ensures.1
    (not_next d s c.loop-place.place i c.loop-place.machine c.perform_and_write.new.machine old mid held before text c.loop-place.invariant c.in-Some.ensures.some move f new after given)

pub returns-in-Err-clause-ok : goal.returns-in-Err-clause-ok
returns-in-Err-clause-ok g c =
    let i = c.in-Some.instr.now in
    let refused = subst (λ (r : Result (Unit {0}) Refusal). IfErr r (λ x. IsRefusal (step c.loop-place.machine i) x)) c.in-Err.is c.in_ok-perform_and_write.ensures.refused in
    let same = subst (λ (r : Result (Unit {0}) Refusal). OnErr r (c.perform_and_write.new.machine ≡ c.loop-place.machine)) c.in-Err.is c.in_ok-perform_and_write.ensures.unchanged in
    is_stopped c.args.documents c.args.schedule.now c.loop-place.place i c.in-Err.refusal c.loop-place.machine c.perform_and_write.new.machine (g.W.Write.contents c.args.output.now) (g.W.Write.contents c.loop-place.output)
    c.args.held.now.items c.loop-place.held.items c.loop-place.invariant c.in-Some.ensures.some refused same

pub loop-place-preserved : goal.loop-place-preserved
loop-place-preserved g c =
    let d = c.args.documents in
    let s = c.args.schedule.now in
    let i = c.in-Some.instr.now in
    let old = g.W.Write.contents c.args.output.now in
    let mid = g.W.Write.contents c.loop-place.output in
    let new = g.W.Write.contents c.gather.new.output in
    let held = c.args.held.now.items in
    let before = c.loop-place.held.items in
    let after = c.gather.new.held.items in
    let text = string_bytes c.perform_and_write.new.text in
    let move = subst (λ (r : Result (Unit {0}) Refusal). OnOk r (IsMove d (c.loop-place.place + 1) i c.loop-place.machine c.perform_and_write.new.machine text)) c.in-Ok.is c.in_ok-perform_and_write.ensures.line in
    let given = subst (λ (bytes : List ℕ). Gathers mid new before after bytes) c.as_str.ensures.value c.in_ok-gather-in-Ok.ensures.ok in
    is_next d s c.loop-place.place i c.loop-place.machine c.perform_and_write.new.machine old mid held before text c.loop-place.invariant c.in-Some.ensures.some move new after given

pub returns-clause-ok : goal.returns-clause-ok
returns-clause-ok g c =
    is_whole c.args.documents c.args.schedule.now c.loop-place.place c.loop-place.machine (g.W.Write.contents c.args.output.now) (g.W.Write.contents c.loop-place.output)
    c.args.held.now.items c.loop-place.held.items (omega arith) (omega arith) c.loop-place.invariant
