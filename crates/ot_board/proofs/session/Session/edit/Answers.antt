use Rattle.std.proofs.Common.{ℕ, ◌+◌, rules, ap}
use Rattle.ot_model.specs.Session.{Session}
use Rattle.ot_board.proofs.Moves.{moved_edited, named}
use Rattle.ot_board.proofs.session.Session.edit.Goals as goal

pub invariant_of-result : goal.invariant_of-result
invariant_of-result g c = (
  (moved_edited c.args.self c.self.inside.start c.self.inside.steps.items c.push_reserved.new.self.items (g.S.ClientState.as_state c.self.inside.state) (g.S.Edited.ClientState.as_state c.in-Ok.state)
      c.self.inside.list c.change.new.self c.self.inside.count (c.self.inside.count + c.inserted-inserted.result) c.self.inside.incoming.items c.self.inside.sent c.or.result c.in-Ok.sent c.args.op c.in-Ok.made
      c.self.view_is c.self.invariant.0 c.in_default.ensures.none c.in-Ok.ensures.made c.in-Ok.ensures.revision c.in-Ok.ensures.phase c.in-Ok.ensures.sent
      c.in-Ok-change.ensures.ok (ap (λ (n : ℕ). c.self.inside.count + n) c.inserted-inserted.ensures.value) c.or.ensures c.push_reserved.ensures.items).allowed,
  search rules,
)

pub returns-clause-ok : goal.returns-clause-ok
returns-clause-ok g c =
    named c.self.inside.start.number c.args.self.start.number (ap (λ (x : Session). x.start.number) c.self.view_is)
    (moved_edited c.args.self c.self.inside.start c.self.inside.steps.items c.push_reserved.new.self.items (g.S.ClientState.as_state c.self.inside.state) (g.S.Edited.ClientState.as_state c.in-Ok.state)
    c.self.inside.list c.change.new.self c.self.inside.count (c.self.inside.count + c.inserted-inserted.result) c.self.inside.incoming.items c.self.inside.sent c.or.result c.in-Ok.sent c.args.op c.in-Ok.made
    c.self.view_is c.self.invariant.0 c.in_default.ensures.none c.in-Ok.ensures.made c.in-Ok.ensures.revision c.in-Ok.ensures.phase c.in-Ok.ensures.sent
    c.in-Ok-change.ensures.ok (ap (λ (n : ℕ). c.self.inside.count + n) c.inserted-inserted.ensures.value) c.or.ensures c.push_reserved.ensures.items).next
