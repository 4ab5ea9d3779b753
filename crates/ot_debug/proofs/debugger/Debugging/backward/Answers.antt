use Rattle.std.proofs.Common.{◌-◌, ◌++◌, ◌∙◌, ◌∷◌, [], ap, refl, rules, sym}
use Rattle.ot_debug.specs.Stepping.{shown_at, undos_in}
use Rattle.ot_debug.proofs.Places.{undoable, kept_back, last_none}
use Rattle.ot_debug.proofs.debugger.Debugging.backward.Goals as goal

pub undo-requires : goal.undo-requires
undo-requires g c =
    undoable c.self.inside.schedule c.self.inside.position c.self.inside.machine (shown_at c.self.inside.schedule c.self.inside.position) (undos_in c.self.inside.undos) (undos_in c.pop.new.self) c.self.inside.breaks.items c.self.inside.watches.items
    c.in-Some.undo c.self.invariant.0.session c.self.invariant.0.last c.in-Some.ensures.some

pub invariant_of-self : goal.invariant_of-self
invariant_of-self g c = (
  record { session = c.self.invariant.0.session; last = last_none c.self.inside.schedule c.self.inside.position (undos_in c.pop.new.self) (c.in_default.ensures.none refl).1 },
  c.self.invariant.1,
  c.self.invariant.2,
)

pub invariant_of-self-2 : goal.invariant_of-self-2
invariant_of-self-2 g c = (
  kept_back c.self.inside.schedule c.self.inside.position (c.self.inside.position - 1) c.self.inside.machine c.undo.new.self
      (undos_in c.self.inside.undos) c.went_back_to.new.self c.self.inside.breaks.items c.self.inside.watches.items c.in-Some.undo c.self.invariant.0.session c.self.invariant.0.last (c.in-Some.ensures.some ∙ ap (λ us. us ++ c.in-Some.undo ∷ []) (sym c.went_back_to.ensures.same))
      (search rules) (λ earlier is. c.in_default-undo.ensures.ok earlier is),
  c.self.invariant.1,
  c.drop_shown.ensures _ c.self.invariant.2,
)
