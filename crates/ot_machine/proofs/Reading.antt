-- What the readers give.
use Rattle.std.proofs.Common.{◌≡◌, ◌≢◌, ℕ, zero, suc, ◌+◌, ◌-◌, ◌<◌, ◌≤◌, List, [], ◌∷◌, ◌++◌, length, take, drop, map, get_or, refl, sym, ap, ◌∙◌, subst, arith, Option, Some, None, Bool, true, false, nat_eq, length-drop}
use Rattle.std.proofs.lemmas.List.{length-map, drop_all, map-append}
use Rattle.std.proofs.lemmas.Option.{slice_get-map, slice_get_past, slice_get_within, same_Some, slice_get_read}
use Rattle.std.specs.Prelude.{◌↔◌, IsTrue, slice_get, ◌==◌}
use Rattle.std.specs.Option.{option_map}
use Rattle.std.proofs.lemmas.Bool.{eqb-true, eqb-false}
use Rattle.ot_isa.specs.declared.elements.Tagged.{Tagged}
use Rattle.ot_server.specs.History.{History}
use Rattle.ot_model.specs.Table.{Client, State, Entry, is_joined, downlink, head_for, IsQuiet, IsQuietClient}
use Rattle.ot_model.proofs.Steps.{quiet_same}
use Rattle.ot_model.specs.Sound.{IsSound}
use Rattle.ot_machine.specs.declared.seat.Seat.{Seat}
use Rattle.ot_machine.specs.declared.state.Head.{Head}
use Rattle.ot_machine.specs.declared.state.ClientView.{ClientView}
use Rattle.ot_model.proofs.States.{take_entry}
use Rattle.ot_machine.specs.Seats.{View, view_of, client_of, incoming, numbers, state_from, IsKept, IsSettled, AreSettled}
use Rattle.ot_machine.specs.Readers.{AreOne, ClientHas, client_view, head_at, head_of, meant}
use Rattle.ot_machine.proofs.RowLaws.{client_at, queue_at}

pub length-numbers : (r k : ℕ) → length (numbers r k) ≡ k
length-numbers r zero = refl
length-numbers r (suc k) = ap suc (length-numbers (suc r) k)

number_at : (r k i n : ℕ) → slice_get (numbers r k) i ≡ Some n → n ≡ r + i
number_at r zero i n at = absurd (cc)
number_at r (suc k) zero n at = let e = same_Some r n at in omega arith
number_at r (suc k) (suc i) n at = let e = number_at (suc r) k i n at in omega arith

number_past : (r k i : ℕ) → slice_get (numbers r k) i ≡ None → k ≤ i
number_past r zero i at = omega arith
number_past r (suc k) zero at = absurd (cc)
number_past r (suc k) (suc i) at = let e = number_past (suc r) k i at in omega arith

-- as many messages as the downlink has
down_length : (s : State) (c : ℕ) (x : Client) (b : Bool) → is_joined x.phase ≡ b → length (downlink s c x) ≡ length (incoming x (length s.log))
down_length s c x true on =
    rw on (length-map (drop x.revision s.log) (head_for c) ∙ length-drop x.revision s.log ∙ sym (length-numbers x.revision (length s.log - x.revision)))
down_length s c x false off = rw off refl

pub down_len_is :
    (s : State) (c : ℕ) (x : Client) (queue : List ℕ) (n : ℕ) → slice_get s.clients c ≡ Some x → queue ≡ incoming x (length s.log) → n ≡ length queue
    → ClientHas s c (λ z. length (downlink s c z)) n
down_len_is s c x queue n at is many = rw at (ap Some (down_length s c x (is_joined x.phase) refl ∙ ap length (sym is) ∙ sym many))

-- a place past the downlink's end
head_past : (s : State) (c place : ℕ) (x : Client) (b : Bool) → is_joined x.phase ≡ b → slice_get (incoming x (length s.log)) place ≡ None → head_at s c place x ≡ None
head_past s c place x true on past =
    let e : slice_get (numbers x.revision (length s.log - x.revision)) place ≡ None = rw on at past in
    let le = number_past x.revision (length s.log - x.revision) place e in
    let none : slice_get s.log (x.revision + place) ≡ None = slice_get_past s.log (x.revision + place) (omega arith) in
    rw (on, none) refl
head_past s c place x false off past = rw off refl

pub down_none :
    (s : State) (c place : ℕ) (x : Client) (queue : List ℕ) → slice_get s.clients c ≡ Some x → queue ≡ incoming x (length s.log) → slice_get queue place ≡ None
    → ClientHas s c (head_at s c place) None
down_none s c place x queue at is past = rw at (ap Some (head_past s c place x (is_joined x.phase) refl (ap (λ q. slice_get q place) (sym is) ∙ past)))

-- a place of the downlink
head_here : (s : State) (c place : ℕ) (x : Client) (n : ℕ) (b : Bool) → is_joined x.phase ≡ b → slice_get (incoming x (length s.log)) place ≡ Some n → head_at s c place x ≡ option_map (head_of c n) (slice_get s.log n)
head_here s c place x n true on here =
    let e : slice_get (numbers x.revision (length s.log - x.revision)) place ≡ Some n = rw on at here in
    rw on (ap (λ k. option_map (head_of c k) (slice_get s.log k)) (sym (number_at x.revision (length s.log - x.revision) place n e)))
head_here s c place x n false off here = absurd (let e : slice_get [] place ≡ Some n = rw off at here in cc)

pub down_some :
    (s : State) (c place : ℕ) (x : Client) (queue : List ℕ) (n : ℕ) (entry : Option Entry) (head : Option Head)
    → slice_get s.clients c ≡ Some x → queue ≡ incoming x (length s.log) → slice_get queue place ≡ Some n → entry ≡ slice_get s.log n → option_map (head_of c n) entry ≡ head
    → ClientHas s c (head_at s c place) head
down_some s c place x queue n entry head at is here found is_head =
    rw at (ap Some (head_here s c place x n (is_joined x.phase) refl (ap (λ q. slice_get q place) (sym is) ∙ here) ∙ ap (option_map (head_of c n)) (sym found) ∙ is_head))

-- the message is the table's
slice_get-drop : {X : Type 0} (xs : List X) (r i : ℕ) → slice_get (drop r xs) i ≡ slice_get xs (r + i)
slice_get-drop xs zero i = let e : 0 + i ≡ i = omega arith in ap (slice_get xs) (sym e)
slice_get-drop [] (suc r) i = refl
slice_get-drop (x ∷ xs) (suc r) i = let e : suc r + i ≡ suc (r + i) = omega arith in slice_get-drop xs r i ∙ ap (slice_get (x ∷ xs)) (sym e)

entry_meant : (s : State) (c n : ℕ) (h : Entry) (own : Bool) → (h.maker == c) ≡ own → slice_get s.log n ≡ Some h → Some (head_for c h) ≡ meant s (Some (head_of c n h))
entry_meant s c n h true own at = rw own refl
entry_meant s c n h false other at = rw (other, at) refl

head_meant : (s : State) (c place : ℕ) (x : Client) (b : Bool) → is_joined x.phase ≡ b → slice_get (downlink s c x) place ≡ meant s (head_at s c place x)
head_meant s c place x true on =
    let n = x.revision + place in
    rw on (slice_get-map (head_for c) (drop x.revision s.log) place ∙ ap (option_map (head_for c)) (slice_get-drop s.log x.revision place) ∙ go n (slice_get s.log n) refl)
  where
    go : (n : ℕ) (o : Option Entry) → slice_get s.log n ≡ o → option_map (head_for c) (slice_get s.log n) ≡ meant s (option_map (head_of c n) (slice_get s.log n))
    go n None at = rw at refl
    go n (Some h) at = ap (option_map (head_for c)) at ∙ entry_meant s c n h (h.maker == c) refl at ∙ ap (λ o. meant s (option_map (head_of c n) o)) (sym at)
head_meant s c place x false off = rw off refl

pub down_meant :
    (s : State) (c place : ℕ) (x : Client) (head : Option Head) → slice_get s.clients c ≡ Some x → ClientHas s c (head_at s c place) head
    → ClientHas s c (λ z. slice_get (downlink s c z) place) (meant s head)
down_meant s c place x head at is =
    let found : head_at s c place x ≡ head = same_Some _ head (ap (option_map (head_at s c place)) (sym at) ∙ is) in
    rw at (ap Some (head_meant s c place x (is_joined x.phase) refl ∙ ap (meant s) found))

-- a client is settled where it is quiet
settled_quiet : (log : List Entry) (v : View) → v.queue ≡ incoming v.client (length log) → is_joined v.client.phase ≡ true → IsSettled v → IsQuietClient log v.client
settled_quiet log v is on settled =
    let all = settled on in
    let r = v.client.revision in
    let empty : numbers r (length log - r) ≡ [] = rw on at (sym is ∙ all.1) in
    let none : length log - r ≡ 0 = sym (length-numbers r (length log - r)) ∙ ap length empty in
    let le : length log ≤ r = omega arith in
    record { no_message = all.0; no_downlink = drop_all r log le; synchronized = all.2 }

quiet_settled : (log : List Entry) (v : View) → v.queue ≡ incoming v.client (length log) → (is_joined v.client.phase ≡ true → IsQuietClient log v.client) → IsSettled v
quiet_settled log v is quiet on =
    let q = quiet on in
    let r = v.client.revision in
    let none : length log - r ≡ 0 = sym (length-drop r log) ∙ ap length q.no_downlink in
    (q.no_message, is ∙ rw on (ap (numbers r) none), q.synchronized)

-- the first of the seats are settled
abbrev pub AreSettledBelow : ℕ → List Seat → Type 0
AreSettledBelow n seats = (k : ℕ) (seat : Seat) → k < n → slice_get seats k ≡ Some seat → IsSettled (view_of seat)

pub settled_next : (seats : List Seat) (k n : ℕ) (seat : Seat) → AreSettledBelow k seats → n ≡ length seats → k < n → seat ≡ get_or seats k seat → IsSettled (view_of seat) → AreSettledBelow (k + 1) seats
settled_next seats k n seat so_far many there read settled i x below at = go (nat_eq i k) refl
  where
    go : (b : Bool) → nat_eq i k ≡ b → IsSettled (view_of x)
    go true e = let same : seat ≡ x = same_Some seat x (sym (slice_get_read seats n k seat many there read) ∙ subst (λ j. slice_get seats j ≡ Some x) (eqb-true i k e) at) in subst (λ z. IsSettled (view_of z)) same settled
    go false e = let ne : i ≢ k = eqb-false i k e in so_far i x (omega arith) at

pub settled_all : (seats : List Seat) (k n : ℕ) → AreSettledBelow k seats → n ≡ length seats → n ≤ k → AreSettled seats
settled_all seats k n so_far many le c seat at = let inside = slice_get_within seats c seat at in so_far c seat (omega arith) at

pub settled_none : (seats : List Seat) (k n : ℕ) (seat : Seat) → n ≡ length seats → k < n → seat ≡ get_or seats k seat → (IsSettled (view_of seat) → ⊥) → AreSettled seats → ⊥
settled_none seats k n seat many there read unsettled settled = unsettled (settled k seat (slice_get_read seats n k seat many there read))

seat_of : (seats : List Seat) (c : ℕ) (x : Client) → slice_get (map client_of seats) c ≡ Some x → (seat : Seat) × (slice_get seats c ≡ Some seat) × (client_of seat ≡ x)
seat_of [] c x at = absurd (cc)
seat_of (seat ∷ seats) zero x at = (seat, refl, same_Some (client_of seat) x at)
seat_of (seat ∷ seats) (suc c) x at = seat_of seats c x at

settled_state : (server : History Tagged) (seats : List Seat) (steps : ℕ) → IsKept server seats steps → AreSettled seats → IsQuiet (state_from server seats steps)
settled_state server seats steps kept settled c x at on =
    let found = seat_of seats c x at in
    subst (IsQuietClient server.log) found.2
    (settled_quiet server.log (view_of found.0) (queue_at server seats steps c found.0 kept found.1)
    (subst (λ (z : Client). is_joined z.phase ≡ true) (sym found.2) on)
    (settled c found.0 found.1))

state_settled : (server : History Tagged) (seats : List Seat) (steps : ℕ) → IsKept server seats steps → IsQuiet (state_from server seats steps) → AreSettled seats
state_settled server seats steps kept quiet c seat at =
    quiet_settled server.log (view_of seat) (queue_at server seats steps c seat kept at) (quiet c (client_of seat) (client_at seats c seat at))

pub quiet_is :
    (server : History Tagged) (seats shown : List Seat) (steps : ℕ) (s : State) (b : Bool) → IsKept server seats steps → state_from server seats steps ≡ s → shown ≡ seats
    → (IsTrue b ↔ AreSettled shown) → IsTrue b ↔ IsQuiet s
quiet_is server seats shown steps s b kept value same is =
    let all : IsTrue b ↔ AreSettled seats = subst (λ z. IsTrue b ↔ AreSettled z) same is in (
      λ yes. subst IsQuiet value (settled_state server seats steps kept (all.0 yes)),
      λ quiet. all.1 (state_settled server seats steps kept (subst IsQuiet (sym value) quiet)),
    )

pub quiet_one : (server : History Tagged) (seats : List Seat) (steps : ℕ) (s : State) → IsKept server seats steps → state_from server seats steps ≡ s → IsQuiet s → AreOne s
quiet_one server seats steps s kept value quiet = quiet_same s (subst IsSound value kept.sound) quiet

-- one client more is shown
pub views_next :
    (xs : List Client) (k : ℕ) (views : List ClientView) (v : ClientView) → views ≡ map client_view (take k xs) → option_map client_view (slice_get xs k) ≡ Some v
    → views ++ v ∷ [] ≡ map client_view (take (k + 1) xs)
views_next xs k views v so_far here = go (slice_get xs k) refl here
  where
    go : (x : Option Client) → slice_get xs k ≡ x → option_map client_view x ≡ Some v → views ++ v ∷ [] ≡ map client_view (take (k + 1) xs)
    go None at e = absurd (cc)
    go (Some x) at e =
        let more : k + 1 ≡ suc k = omega arith in
        ap (λ vs. vs ++ v ∷ []) so_far
        ∙ ap (λ w. map client_view (take k xs) ++ w ∷ []) (sym (same_Some (client_view x) v e))
        ∙ sym (map-append client_view (take k xs) (x ∷ []))
        ∙ ap (map client_view) (sym (take_entry xs k x at))
        ∙ ap (λ n. map client_view (take n xs)) (sym more)
