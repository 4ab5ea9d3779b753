-- The row of a client that joins.
use Rattle.std.proofs.Common.{◌≡◌, ℕ, ◌+◌, ◌-◌, ◌<◌, List, [], length, set, refl, sym, ap, ◌∙◌, arith, Option, Some, None, false}
use Rattle.std.specs.Prelude.{slice_get}
use Rattle.std.specs.Option.{is_some}
use Rattle.ot_isa.specs.declared.elements.Tagged.{Tagged}
use Rattle.ot_isa.specs.declared.instruction.Instr.TheVariants.{Join}
use Rattle.ot_client.specs.declared.client.Client as program
use Rattle.ot_server.specs.History.{History}
use Rattle.ot_model.specs.Table.{Client, State, is_joined, joined, step, Performed, with_client}
use Rattle.ot_machine.specs.declared.seat.Seat.{Seat}
use Rattle.ot_machine.specs.Seats.{phase_of, client_of, state_from, incoming, numbers, joined_at, IsKept}
use Rattle.ot_machine.proofs.RowLaws.{not_full, client_at, queue_at, kept, state_changed, Changed}

join_is :
    (s : State) (c : ℕ) (x : Client) → slice_get s.clients c ≡ Some x → s.steps < 1000000 → is_joined x.phase ≡ false
    → step s (Join c) ≡ Performed (with_client s c (joined s x)) None
join_is s c x at below off = rw (at, not_full s.steps below, off) refl

pub absent_of : (client : Option (program.Client Tagged)) → is_some client ≡ false → is_joined (phase_of client) ≡ false
absent_of None off = refl
absent_of (Some client) off = absurd (cc)

pub join_done :
    (server : History Tagged) (seats : List Seat) (steps c : ℕ) (seat new : Seat) (revision : ℕ) (list : List Tagged)
    → IsKept server seats steps → slice_get seats c ≡ Some seat → steps < 1000000 → is_some seat.client ≡ false
    → revision ≡ length server.log → list ≡ server.document → client_of new ≡ joined_at revision list (client_of seat) → new.down ≡ seat.down
    → Changed server seats steps c new (Join c)
join_done server seats steps c seat new revision list is_kept at below off at_end is_document is_joined_at down =
    let s : State = state_from server seats steps in
    let off' = absent_of seat.client off in
    let n = length server.log in
    let is : client_of new ≡ joined s (client_of seat) = is_joined_at ∙ ap (λ k. joined_at k list (client_of seat)) at_end ∙ ap (λ d. joined_at n d (client_of seat)) is_document in
    let done : step s (Join c) ≡ Performed (state_from server (set seats c new) (steps + 1)) None =
    join_is s c (client_of seat) (client_at seats c seat at) below off'
    ∙ ap (λ x. Performed (with_client s c x) None) (sym is)
    ∙ ap (λ t. Performed t None) (sym (state_changed server seats steps c new)) in
    let none : n - n ≡ 0 = omega arith in
    let empty : seat.down.items ≡ [] = queue_at server seats steps c seat is_kept at ∙ rw off' refl in
    let queue : new.down.items ≡ incoming (client_of new) n = rw down (empty ∙ sym (ap (λ x. incoming x n) is ∙ ap (numbers n) none)) in
    record { row = done; kept = kept server seats steps c new (Join c) None is_kept tt done queue }
