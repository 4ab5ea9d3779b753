-- The next message of a session, and the rows that look at it.
use Rattle.std.proofs.Common.{◌≡◌, ℕ, ◌<◌, List, [], ◌∷◌, length, map, refl, sym, ap, ◌∙◌, Some, true, arith}
use Rattle.std.proofs.lemmas.Bool.Decides.{nat_tests}
use Rattle.std.proofs.lemmas.Option.{same_Some}
use Rattle.std.specs.Prelude.{slice_get, ◌==◌}
use Rattle.ot_isa.specs.declared.instruction.Instr.TheVariants.{Deliver, Acknowledge}
use Rattle.ot_model.specs.declared.shown.Refusal.TheVariants as table
use Rattle.ot_model.specs.Operation.{Operation}
use Rattle.ot_isa.specs.declared.elements.Tagged.{Tagged}
use Rattle.ot_model.specs.Table.{Ack, Op}
use Rattle.ot_model.specs.Part.{Part, PartOutcome, PartRefused, if_own, part_row, part_deliver, part_acknowledge}
use Rattle.ot_model.specs.Session.{Session}
use Rattle.ot_machine.specs.declared.part.Message.{Message}
use Rattle.ot_machine.specs.Parts.{head_in}
use Rattle.ot_board.specs.Sessions.{IsNextHead}

-- a row of the part's own client
pub own : (p : Part) (c : ℕ) (o : PartOutcome) → p.number ≡ c → if_own p c o ≡ o
own p c o same = let e : (c == p.number) ≡ true = grind (arith, nat_tests) in rw e refl

first : (items : List Message) (m : Message) → slice_get items 0 ≡ Some m → (rest : List Message) × (items ≡ m ∷ rest)
first [] m at = absurd (cc)
first (x ∷ items) m at = (items, ap (λ (y : Message). y ∷ items) (same_Some x m at))

-- the front of the session's link is the next message
pub next_head : (x : Session) (items : List Message) (m : Message) → map head_in items ≡ x.now.incoming → length x.steps < 64 → slice_get items 0 ≡ Some m → IsNextHead x (head_in m)
next_head x items m incoming room at =
    let found = first items m at in
    record { room = room; rest = map head_in found.0; incoming_is = sym incoming ∙ ap (map head_in) found.1 }

-- the other kind of message is refused
pub deliver_wrong : (x : Session) → x.now.number ≡ x.start.number → IsNextHead x Ack → part_row x.now (Deliver x.start.number) ≡ PartRefused table.WrongHead
deliver_wrong x same next = own x.now x.start.number (part_deliver x.now x.now.incoming) same ∙ ap (part_deliver x.now) next.incoming_is

pub acknowledge_wrong : (x : Session) (h : Operation Tagged) → x.now.number ≡ x.start.number → IsNextHead x (Op h) → part_row x.now (Acknowledge x.start.number) ≡ PartRefused table.WrongHead
acknowledge_wrong x h same next = own x.now x.start.number (part_acknowledge x.now x.now.incoming) same ∙ ap (part_acknowledge x.now) next.incoming_is
