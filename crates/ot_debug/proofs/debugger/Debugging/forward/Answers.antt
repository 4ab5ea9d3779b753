use Rattle.std.proofs.Common.{◌∙◌, ◌+◌, ap, arith, subst}
use Rattle.std.proofs.lemmas.Result.{err_from_is_err_and}
use Rattle.ot_model.specs.Table.{with_shown}
use Rattle.ot_debug.specs.Session.{Session}
use Rattle.ot_debug.specs.Stops.{IsRefusedAt}
use Rattle.ot_debug.specs.Stepping.{session_of, shown_at, Advances}
use Rattle.ot_debug.proofs.Places.{advances, kept_forth, lists_forth, refused_at, shown_next}
use Rattle.ot_debug.proofs.debugger.Debugging.forward.Goals as goal

pub returns-in_err-list-clause-refused : goal.returns-in_err-list-clause-refused
returns-in_err-list-clause-refused g c =
    let p = err_from_is_err_and c.from_residual-in_err-list.result c.from_residual-in_err-list.ensures.1 in
    rw (p.1, p.2)
    (λ other. subst (λ (x : Session). IsRefusedAt x.schedule x.position c.in_err-list.field-0.0) c.self.view_is
    (refused_at c.self.inside.schedule _ _ c.in-Some.instr.now c.in_err-list.field-0.0 c.self.invariant.0.session.at c.in-Some.ensures.some (c.in_err-list.ensures.refused other)))

pub invariant_of-self-2 : goal.invariant_of-self-2
invariant_of-self-2 g c = (
  kept_forth c.self.inside.schedule c.self.inside.position (c.self.inside.position + 1) c.self.inside.machine c.perform.new.machine (shown_at c.self.inside.schedule c.self.inside.position) (shown_at c.self.inside.schedule (c.self.inside.position + 1)) c.self.inside.undos
      c.perform.new.undos c.self.inside.breaks.items c.self.inside.watches.items c.in-Some.instr.now c.in_ok-list.ensures.done.0 c.leaves-leaves.result c.self.invariant.0 c.in-Some.ensures.some c.in_ok-list.ensures.done.1 c.in_ok-list.ensures.records (omega arith)
      (shown_next c.self.inside.schedule c.self.inside.position (c.self.inside.position + 1) c.self.inside.machine c.perform.new.machine c.in-Some.instr.now c.in_ok-list.ensures.done.0 c.self.invariant.0.session.at c.in-Some.ensures.some c.in_ok-list.ensures.done.1 (omega arith)),
  c.self.invariant.1,
  lists_forth _ (shown_at c.self.inside.schedule c.self.inside.position) (shown_at c.self.inside.schedule (c.self.inside.position + 1)) c.self.inside.shown.items c.keep_shown.new.shown.items c.in_ok-list.list c.in_ok-list.ensures.done.0 c.self.invariant.2 c.in_ok-list.ensures.done.2
      (shown_next c.self.inside.schedule c.self.inside.position (c.self.inside.position + 1) c.self.inside.machine c.perform.new.machine c.in-Some.instr.now c.in_ok-list.ensures.done.0 c.self.invariant.0.session.at c.in-Some.ensures.some c.in_ok-list.ensures.done.1 (omega arith))
      (c.keep_shown.ensures ∙ ap (λ xs. with_shown xs c.in_ok-list.list) c.reserve_shown.ensures.same),
)

pub returns-clause-done : goal.returns-clause-done
returns-clause-done g c =
    subst (λ (x : Session). Advances x (session_of c.self.inside.schedule (c.self.inside.position + 1) c.perform.new.machine (shown_at c.self.inside.schedule (c.self.inside.position + 1)) c.self.inside.breaks.items c.self.inside.watches.items)) c.self.view_is
    (advances c.self.inside.schedule c.self.inside.position (c.self.inside.position + 1) c.self.inside.machine c.perform.new.machine (shown_at c.self.inside.schedule c.self.inside.position) (shown_at c.self.inside.schedule (c.self.inside.position + 1)) c.perform.new.undos
    c.self.inside.breaks.items c.self.inside.watches.items
    (kept_forth c.self.inside.schedule c.self.inside.position (c.self.inside.position + 1) c.self.inside.machine c.perform.new.machine (shown_at c.self.inside.schedule c.self.inside.position) (shown_at c.self.inside.schedule (c.self.inside.position + 1)) c.self.inside.undos
    c.perform.new.undos c.self.inside.breaks.items c.self.inside.watches.items c.in-Some.instr.now c.in_ok-list.ensures.done.0 c.leaves-leaves.result c.self.invariant.0 c.in-Some.ensures.some c.in_ok-list.ensures.done.1 c.in_ok-list.ensures.records (omega arith)
    (shown_next c.self.inside.schedule c.self.inside.position (c.self.inside.position + 1) c.self.inside.machine c.perform.new.machine c.in-Some.instr.now c.in_ok-list.ensures.done.0 c.self.invariant.0.session.at c.in-Some.ensures.some c.in_ok-list.ensures.done.1 (omega arith)))
    (omega arith))
