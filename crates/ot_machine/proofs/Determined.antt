-- The record of a step and the state after it leave one state before it.
use Rattle.std.proofs.Common.{◌≡◌, ℕ, zero, suc, ◌+◌, ◌-◌, List, [], ◌∷◌, length, set, take, refl, sym, ap, ◌∙◌, arith, Some, None}
use Rattle.std.proofs.lemmas.Option.{same_Some}
use Rattle.std.specs.Prelude.{slice_get}
use Rattle.ot_isa.specs.declared.elements.Tagged.{Tagged}
use Rattle.ot_operation.specs.Operation.{Operation, apply}
use Rattle.ot_client.specs.declared.sent.Sent.{Sent}
use Rattle.ot_server.specs.History.{History}
use Rattle.ot_server.proofs.Retracted as server
use Rattle.ot_model.specs.Table.{Client, State, absent}
use Rattle.ot_machine.specs.declared.kept.Before.{Before}
use Rattle.ot_machine.specs.declared.undo.Record.{Record}
use Rattle.ot_machine.specs.declared.undo.Record.TheVariants.{ClientStep, Taken, Joined, Read}
use Rattle.ot_machine.specs.Undoing.{reverted, IsClientStep, IsTaken, IsJoined, IsRead, IsStepOf, RecordsDetermine}
use Rattle.ot_machine.proofs.Reverting.{same_state, set_back}

set_there : {X : Type 0} (xs : List X) (c : ℕ) (x y : X) → slice_get xs c ≡ Some y → slice_get (set xs c x) c ≡ Some x
set_there [] c x y at = absurd (cc)
set_there (z ∷ xs) zero x y at = refl
set_there (z ∷ xs) (suc c) x y at = set_there xs c x y at

-- the clients before one of them was changed, where the change determines what it was
clients_back :
    (now xs ys : List Client) (c : ℕ) (x y i j : Client)
    → slice_get xs c ≡ Some x → slice_get ys c ≡ Some y → now ≡ set xs c i → now ≡ set ys c j → (i ≡ j → x ≡ y) → xs ≡ ys
clients_back now xs ys c x y i j at_x at_y one two back =
    let lists : set xs c i ≡ set ys c j = sym one ∙ two in
    let same : i ≡ j = same_Some i j (sym (set_there xs c i x at_x) ∙ ap (λ (cs : List Client). slice_get cs c) lists ∙ set_there ys c j y at_y) in
    sym (set_back xs c i x at_x) ∙ ap (λ (cs : List Client). set cs c x) lists ∙ ap (λ (z : Client). set (set ys c j) c z) (back same) ∙ set_back ys c j y at_y

one_less : (m n k : ℕ) → k ≡ suc m → k ≡ suc n → m ≡ n
one_less m n k one two = omega (arith, one, two)

client_step : (c : ℕ) (before : Before) (s earlier other : State) → IsClientStep c before earlier s → IsClientStep c before other s → earlier ≡ other
client_step c before s earlier other one two =
    same_state earlier other
    (sym (ap (λ (t : State). t.log) one.led) ∙ ap (λ (t : State). t.log) two.led)
    (sym (ap (λ (t : State). t.server) one.led) ∙ ap (λ (t : State). t.server) two.led)
    (clients_back s.clients earlier.clients other.clients c one.was two.was one.is two.is one.at two.at
    (ap (λ (t : State). t.clients) one.led) (ap (λ (t : State). t.clients) two.led)
    (λ same. sym one.restores.back ∙ ap (reverted before) same ∙ two.restores.back))
    (one_less earlier.steps other.steps s.steps (ap (λ (t : State). t.steps) one.led) (ap (λ (t : State). t.steps) two.led))

joined_step : (c : ℕ) (s earlier other : State) → IsJoined c earlier s → IsJoined c other s → earlier ≡ other
joined_step c s earlier other one two =
    same_state earlier other
    (sym (ap (λ (t : State). t.log) one.led) ∙ ap (λ (t : State). t.log) two.led)
    (sym (ap (λ (t : State). t.server) one.led) ∙ ap (λ (t : State). t.server) two.led)
    (clients_back s.clients earlier.clients other.clients c absent absent one.is two.is one.at two.at
    (ap (λ (t : State). t.clients) one.led) (ap (λ (t : State). t.clients) two.led) (λ same. refl))
    (one_less earlier.steps other.steps s.steps (ap (λ (t : State). t.steps) one.led) (ap (λ (t : State). t.steps) two.led))

read_step : (s earlier other : State) → IsRead earlier s → IsRead other s → earlier ≡ other
read_step s earlier other one two =
    same_state earlier other
    (sym (ap (λ (t : State). t.log) one) ∙ ap (λ (t : State). t.log) two)
    (sym (ap (λ (t : State). t.server) one) ∙ ap (λ (t : State). t.server) two)
    (sym (ap (λ (t : State). t.clients) one) ∙ ap (λ (t : State). t.clients) two)
    (one_less earlier.steps other.steps s.steps (ap (λ (t : State). t.steps) one) (ap (λ (t : State). t.steps) two))

-- a client without its message, and the message
silent : Client → Client
silent x = record { revision = x.revision; phase = x.phase; list = x.list; count = x.count; message = None }

with_message : (x y : Client) → silent x ≡ silent y → x.message ≡ y.message → x ≡ y
unfolding silent
with_message x y rest message = λ i. record { revision = (rest i).revision; phase = (rest i).phase; list = (rest i).list; count = (rest i).count; message = message i }

-- the server as its crate sees it
history : State → History Tagged
history s = record { document = s.server; log = s.log }

-- the inverse and the history after the Take determine the history before it
histories : (c : ℕ) (message : Sent Tagged) (inverse : Operation Tagged) (s earlier other : State) → IsTaken c message inverse earlier s → IsTaken c message inverse other s → history earlier ≡ history other
unfolding history
histories c message inverse s earlier other one two =
    let some = server.some (history earlier) (history s) inverse one.undo in
    let n = length s.log - 1 in
    let count : n + 1 ≡ length s.log = omega (arith, some) in
    sym (server.retracted (history earlier) (history s) inverse one.undo (apply inverse s.server) (take n s.log) n refl refl count)
    ∙ server.retracted (history other) (history s) inverse two.undo (apply inverse s.server) (take n s.log) n refl refl count

taken_step : (c : ℕ) (message : Sent Tagged) (inverse : Operation Tagged) (s earlier other : State) → IsTaken c message inverse earlier s → IsTaken c message inverse other s → earlier ≡ other
unfolding silent history
taken_step c message inverse s earlier other one two =
    same_state earlier other
    (ap (λ (h : History Tagged). h.log) (histories c message inverse s earlier other one two))
    (ap (λ (h : History Tagged). h.document) (histories c message inverse s earlier other one two))
    (clients_back s.clients earlier.clients other.clients c one.client two.client (silent one.client) (silent two.client) one.at two.at
    (ap (λ (t : State). t.clients) one.led) (ap (λ (t : State). t.clients) two.led)
    (λ same. with_message one.client two.client same (one.message_is ∙ sym two.message_is)))
    (one_less earlier.steps other.steps s.steps (ap (λ (t : State). t.steps) one.led) (ap (λ (t : State). t.steps) two.led))

each_kind : (step : Record) (s earlier other : State) → IsStepOf step earlier s → IsStepOf step other s → earlier ≡ other
each_kind (ClientStep c before) s earlier other one two = client_step c before s earlier other one two
each_kind (Taken c message inverse) s earlier other one two = taken_step c message inverse s earlier other one two
each_kind (Joined c) s earlier other one two = joined_step c s earlier other one two
each_kind Read s earlier other one two = read_step s earlier other one two

pub records_determine : RecordsDetermine
records_determine s earlier other undo one two = each_kind undo.step s earlier other one.step two.step
