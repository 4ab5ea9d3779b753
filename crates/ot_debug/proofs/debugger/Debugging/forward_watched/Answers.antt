use Rattle.std.proofs.Common.{ℕ, ◌∙◌, ap, length, subst, sym}
use Rattle.std.specs.Prelude.{slice_get}
use Rattle.std.specs.List.{All}
use Rattle.ot_debug.specs.Changes.{AreFirsts}
use Rattle.ot_debug.specs.Session.{Session, IsOfClients, IsSession}
use Rattle.ot_debug.proofs.Firsts.{first_watch, watched_there}
use Rattle.ot_debug.proofs.debugger.Debugging.forward_watched.Goals as goal

pub first_changed-requires-clause-clients : goal.first_changed-requires-clause-clients
first_changed-requires-clause-clients g c =
    subst (λ ws. All (IsOfClients (length c.self.inside.machine.clients)) ws) (sym c.as_slice.ensures.value) (watched_there _ c.self.invariant.0.session)

pub first_changed-requires-clause-firsts : goal.first_changed-requires-clause-firsts
first_changed-requires-clause-firsts g c =
    subst (AreFirsts c.as_slice.result.now) (sym c.as_slice-2.ensures.value) (subst (λ ws. AreFirsts ws c.self.inside.firsts.items) (sym c.as_slice.ensures.value) c.self.invariant.1)

pub returns-clause-watch : goal.returns-clause-watch
returns-clause-watch g c =
    let place = c.position-place.result in
    first_watch c.args.self.now c.forward.new.self c.in-Some.instr.now c.self.inside.machine c.as_slice.result.now c.in_ok-changed.changed
    (ap (λ (n : ℕ). slice_get c.args.self.now.schedule.instrs n) (sym c.position-place.ensures) ∙ ap (λ (x : Session). slice_get x.schedule.instrs place) (sym c.self.view_is) ∙ c.in-Some.ensures.some)
    (subst IsSession c.self.view_is c.self.invariant.0.session) c.schedule-kept.ensures.kept c.in_ok-forward.ensures.done
    (ap (λ (x : Session). x.place.state) c.self.view_is) (c.as_slice.ensures.value ∙ ap (λ (x : Session). x.watches) c.self.view_is)
    c.in_ok-changed.ensures
