-- What an instruction receives, as it is held before the instruction is performed and after it.
use Rattle.std.proofs.Common.{◌≡◌, ℕ, List, Option, refl, sym, ap, ◌∙◌, subst}
use Rattle.std.specs.Prelude.{option_map, slice_get}
use Rattle.ot_isa.specs.declared.instruction.Instr.{Instr}
use Rattle.ot_isa.specs.declared.instruction.Instr.TheVariants.{Deliver}
use Rattle.ot_model.specs.declared.shown.Shown.{Shown}
use Rattle.ot_model.specs.Table.{Entry, Outcome, Performed, Refused, NoRow, State, step}
use Rattle.ot_model.proofs.Outcomes.{by_deliver}
use Rattle.ot_steps.specs.Lines.{plain_operation}
use Rattle.ot_conform.specs.Received.{IsHeld, Delivered, received_in, receives}
use Rattle.ot_conform.specs.declared.received.Received as held
use Rattle.ot_conform.specs.declared.received.Received.TheVariants as holds

-- a delivery leaves the log as it is
abbrev KeepsLog : State → Outcome → Type 0
KeepsLog s (Performed t shown) = t.log ≡ s.log
KeepsLog s (Refused r) = Unit {0}
KeepsLog s NoRow = Unit {0}

delivery_keeps : (s : State) (c : ℕ) → KeepsLog s (step s (Deliver c))
delivery_keeps s c = by_deliver (KeepsLog s) (λ r. tt) s c (λ x h at below on head other. refl)

-- so what is held is still that behind the instruction
pub still_held : (i : Instr) (s t : State) (shown : Option Shown) (received : held.Received) → step s i ≡ Performed t shown → IsHeld i s received → received_in t received ≡ receives i s
still_held i s t shown holds.Nothing performed is = sym is
still_held i s t shown (holds.Taken message) performed is = sym is
still_held i s t shown (holds.Delivered number) performed is =
    let log : t.log ≡ s.log = subst (KeepsLog s) (ap (step s) (sym is.1) ∙ performed) (delivery_keeps s is.0) in
    ap (λ (log : List Entry). option_map (λ (h : Entry). Delivered (plain_operation h.op)) (slice_get log number)) log ∙ sym is.2
