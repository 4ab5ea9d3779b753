-- Worked runs, by evaluation. A character is its number: 97 is 'a'.
use Rattle.std.proofs.Common.{◌≡◌, ℕ, List, [], ◌∷◌, ◌++◌, length, map, Option, Some, None, refl}
use Rattle.std.specs.Prelude.{option_map}
use Rattle.ot_operation.specs.Operation.{Item, Old, New, Operation, apply}
use Rattle.ot_operation.specs.Run.{Run, Keep, Add, Skip, operation_of}
use Rattle.ot_operation.specs.Compose.{compose}
use Rattle.ot_operation.specs.Merge.{merge, first_after, second_after}
use Rattle.ot_isa.specs.Program.{Program}
use Rattle.ot_isa.specs.declared.elements.Tagged.{Tagged}
use Rattle.ot_isa.specs.declared.instruction.Instr.{Instr}
use Rattle.ot_isa.specs.declared.instruction.Instr.TheVariants.{Edit, Take, Deliver, Acknowledge, Join, Read, ReadServer}
use Rattle.ot_model.specs.declared.shown.Refusal.{Refusal}
use Rattle.ot_model.specs.declared.shown.Refusal.TheVariants as refusal
use Rattle.ot_model.specs.declared.shown.Refusal.TheVariants.{NoSuchClient, StepsFull, AlreadyJoined, BadBase, ClientFull, LinkEmpty, WrongHead}
use Rattle.ot_model.specs.Table.{Phase, NotJoined, Synchronized, AwaitingConfirm, AwaitingWithBuffer, Client, Message, State, Head, Ack, Op, Performed, Refused, NoRow, Place, opening, step, downlink}
use Rattle.ot_model.specs.Runs.{done, place_at}

abbrev pub op : List (Run ℕ) → Operation ℕ
op runs = operation_of runs

-- what a reader sees of a state: revision, phase and text of each client, the server's revision and text, and what was read
data Word : Type 0 where
  Absent : Word
  Sync : Word
  Confirm : Word
  Buffer : Word

abbrev word : Phase → Word
word NotJoined = Absent
word Synchronized = Sync
word (AwaitingConfirm o) = Confirm
word (AwaitingWithBuffer o b) = Buffer

abbrev text_of : List Tagged → List ℕ
text_of list = map (λ x. x.ch) list

record View : Type 0 where
  pub clients : List (ℕ × Word × List ℕ)
  pub server : ℕ × List ℕ
  pub shown : List (List ℕ)

abbrev view : Place → View
view p =
    record {
      clients = map (λ x. (x.revision, word x.phase, text_of x.list)) p.state.clients;
      server = (length p.state.log, text_of p.state.server);
      shown = map (λ s. text_of s.list) p.shown;
    }

-- a schedule, and what is seen after its first p instructions
abbrev pub schedule : ℕ → ℕ → List ℕ → List Instr → Program
schedule clients present text is = record { clients = clients; present = present; start = text; instrs = is }

abbrev seen_at : Program → ℕ → Option View
seen_at s p = option_map view (place_at s p)

abbrev seen_after : Program → Option View
seen_after s = seen_at s (length s.instrs)

-- operations without their tags
abbrev plain : Item Tagged → Item ℕ
plain (Old i) = Old i
plain (New x) = New x.ch

abbrev plain_operation : Operation Tagged → Operation ℕ
plain_operation o = record { base = o.base; image = map plain o.image }

abbrev plain_message : Message → ℕ × Operation ℕ
plain_message m = (m.revision, plain_operation m.op)

data Waiting : Type 0 where
  Nothing : Waiting
  One : Operation ℕ → Waiting
  Two : Operation ℕ → Operation ℕ → Waiting

abbrev waiting : Phase → Waiting
waiting NotJoined = Nothing
waiting Synchronized = Nothing
waiting (AwaitingConfirm o) = One (plain_operation o)
waiting (AwaitingWithBuffer o b) = Two (plain_operation o) (plain_operation b)

data Link : Type 0 where
  Confirms : Link
  Brings : Operation ℕ → Link

abbrev link : Head → Link
link Ack = Confirms
link (Op o) = Brings (plain_operation o)

abbrev log_at : Program → ℕ → Option (List (ℕ × Operation ℕ))
log_at s p = option_map (λ q. map {B = ℕ × Operation ℕ} (λ e. (e.maker, plain_operation e.op)) q.state.log) (place_at s p)

abbrev waiting_at : Program → ℕ → Option (List Waiting)
waiting_at s p = option_map (λ q. map (λ x. waiting x.phase) q.state.clients) (place_at s p)

abbrev messages_at : Program → ℕ → Option (List (Option (ℕ × Operation ℕ)))
messages_at s p = option_map (λ q. map (λ x. option_map plain_message x.message) q.state.clients) (place_at s p)

-- what the first client's downlink holds
abbrev first_downlink : State → List Client → List Link
first_downlink s [] = []
first_downlink s (x ∷ clients) = map link (downlink s 0 x)

abbrev downlink_at : Program → ℕ → Option (List Link)
downlink_at s p = option_map (λ q. first_downlink q.state q.state.clients) (place_at s p)

-- why an instruction is refused after a schedule, if it is
abbrev refusal_of : State → Instr → Option Refusal
refusal_of s i = elim (step s i) [ Performed t list ↦ None | Refused r ↦ Some r | NoRow ↦ None ]

abbrev refusal_after : Program → Instr → Option Refusal
refusal_after s i = elim (place_at s (length s.instrs)) [ Some q ↦ refusal_of q.state i | None ↦ None ]

-- two clients insert at one place: ["a"] is first in the log, and "b" comes to stand before it
abbrev two_inserts : Program
two_inserts =
    schedule 2 2 [] (Edit 0 (op (Add (97 ∷ []) ∷ [])) ∷ Edit 1 (op (Add (98 ∷ []) ∷ [])) ∷ Take 0 ∷ Take 1 ∷ Deliver 1 ∷ Acknowledge 1 ∷ Acknowledge 0 ∷ Deliver 0 ∷ [])

two_inserts-seen : seen_after two_inserts ≡ Some (record { clients = (2, Sync, 98 ∷ 97 ∷ []) ∷ (2, Sync, 98 ∷ 97 ∷ []) ∷ []; server = (2, 98 ∷ 97 ∷ []); shown = [] })
unfolding apply compose merge first_after second_after
two_inserts-seen = refl

two_inserts-log : log_at two_inserts 8 ≡ Some ((0, op (Add (97 ∷ []) ∷ [])) ∷ (1, op (Add (98 ∷ []) ∷ Keep 1 ∷ [])) ∷ [])
unfolding apply compose merge first_after second_after
two_inserts-log = refl

-- with both in the log, the first client's downlink holds an acknowledgement and then the other's operation
two_inserts-downlink : downlink_at two_inserts 4 ≡ Some (Confirms ∷ Brings (op (Add (98 ∷ []) ∷ Keep 1 ∷ [])) ∷ [])
unfolding apply compose merge first_after second_after
two_inserts-downlink = refl

-- lengths count scalars: U+1D4B3 is one
abbrev scalars : Program
scalars = schedule 1 1 (119987 ∷ 121 ∷ []) (Edit 0 (op (Keep 1 ∷ Add (233 ∷ []) ∷ Keep 1 ∷ [])) ∷ [])

scalars-seen : seen_after scalars ≡ Some (record { clients = (0, Confirm, 119987 ∷ 233 ∷ 121 ∷ []) ∷ []; server = (0, 119987 ∷ 121 ∷ []); shown = [] })
unfolding apply compose merge first_after second_after
scalars-seen = refl

-- an edit that changes nothing goes to the server like any other
abbrev no_change : Program
no_change = schedule 1 1 (104 ∷ 105 ∷ []) (Edit 0 (op (Keep 2 ∷ [])) ∷ Take 0 ∷ Acknowledge 0 ∷ Read 0 ∷ [])

no_change-seen : seen_after no_change ≡ Some (record { clients = (1, Sync, 104 ∷ 105 ∷ []) ∷ []; server = (1, 104 ∷ 105 ∷ []); shown = (104 ∷ 105 ∷ []) ∷ [] })
unfolding apply compose merge first_after second_after
no_change-seen = refl

-- two edits wait as one buffer, which the acknowledgement sends at the revision after it
abbrev buffered : Program
buffered =
    schedule 1 1 (97 ∷ 98 ∷ []) (Edit 0 (op (Keep 2 ∷ Add (99 ∷ []) ∷ [])) ∷ Edit 0 (op (Keep 3 ∷ Add (100 ∷ []) ∷ [])) ∷ Edit 0 (op (Keep 3 ∷ Skip 1 ∷ [])) ∷ Take 0 ∷ Acknowledge 0 ∷ Take 0 ∷ Acknowledge 0 ∷ [])

buffered-edits : seen_at buffered 3 ≡ Some (record { clients = (0, Buffer, 97 ∷ 98 ∷ 99 ∷ []) ∷ []; server = (0, 97 ∷ 98 ∷ []); shown = [] })
unfolding apply compose merge first_after second_after
buffered-edits = refl

buffered-waiting : waiting_at buffered 3 ≡ Some (Two (op (Keep 2 ∷ Add (99 ∷ []) ∷ [])) (op (Keep 3 ∷ [])) ∷ [])
unfolding apply compose merge first_after second_after
buffered-waiting = refl

buffered-sent : seen_at buffered 5 ≡ Some (record { clients = (1, Confirm, 97 ∷ 98 ∷ 99 ∷ []) ∷ []; server = (1, 97 ∷ 98 ∷ 99 ∷ []); shown = [] })
unfolding apply compose merge first_after second_after
buffered-sent = refl

buffered-message : messages_at buffered 5 ≡ Some (Some (1, op (Keep 3 ∷ [])) ∷ [])
unfolding apply compose merge first_after second_after
buffered-message = refl

buffered-seen : seen_after buffered ≡ Some (record { clients = (2, Sync, 97 ∷ 98 ∷ 99 ∷ []) ∷ []; server = (2, 97 ∷ 98 ∷ 99 ∷ []); shown = [] })
unfolding apply compose merge first_after second_after
buffered-seen = refl

-- three letters about a deleted one: cx, xaz and acz put c before x, x before a and a before c
abbrev pub cycle : Program
cycle =
    schedule 2 2 (120 ∷ []) (
    Edit 0 (op (Keep 1 ∷ Add (122 ∷ []) ∷ []))
    ∷ Edit 0 (op (Keep 1 ∷ Add (97 ∷ []) ∷ Keep 1 ∷ []))
    ∷ Edit 0 (op (Skip 1 ∷ Keep 2 ∷ []))
    ∷ Edit 1 (op (Add (99 ∷ []) ∷ Keep 1 ∷ []))
    ∷ Take 1 ∷ Take 0 ∷ Deliver 0 ∷ Acknowledge 0 ∷ Take 0 ∷ Acknowledge 1 ∷ Deliver 1 ∷ Deliver 1 ∷ Acknowledge 0 ∷ Read 0 ∷ Read 1 ∷ ReadServer ∷ []
    )

cycle-edits : seen_at cycle 4 ≡ Some (record { clients = (0, Buffer, 97 ∷ 122 ∷ []) ∷ (0, Confirm, 99 ∷ 120 ∷ []) ∷ []; server = (0, 120 ∷ []); shown = [] })
unfolding apply compose merge first_after second_after
cycle-edits = refl

cycle-waiting : waiting_at cycle 3 ≡ Some (Two (op (Keep 1 ∷ Add (122 ∷ []) ∷ [])) (op (Add (97 ∷ []) ∷ Skip 1 ∷ Keep 1 ∷ [])) ∷ Nothing ∷ [])
unfolding apply compose merge first_after second_after
cycle-waiting = refl

cycle-log : log_at cycle 6 ≡ Some ((1, op (Add (99 ∷ []) ∷ Keep 1 ∷ [])) ∷ (0, op (Keep 2 ∷ Add (122 ∷ []) ∷ [])) ∷ [])
unfolding apply compose merge first_after second_after
cycle-log = refl

cycle-delivered : seen_at cycle 7 ≡ Some (record { clients = (1, Buffer, 97 ∷ 99 ∷ 122 ∷ []) ∷ (0, Confirm, 99 ∷ 120 ∷ []) ∷ []; server = (2, 99 ∷ 120 ∷ 122 ∷ []); shown = [] })
unfolding apply compose merge first_after second_after
cycle-delivered = refl

-- the buffer goes at revision 2, over the two entries that its maker has then seen
cycle-message : messages_at cycle 8 ≡ Some (Some (2, op (Add (97 ∷ []) ∷ Keep 1 ∷ Skip 1 ∷ Keep 1 ∷ [])) ∷ None ∷ [])
unfolding apply compose merge first_after second_after
cycle-message = refl

cycle-other : seen_at cycle 11 ≡ Some (record { clients = (2, Confirm, 97 ∷ 99 ∷ 122 ∷ []) ∷ (2, Sync, 99 ∷ 120 ∷ 122 ∷ []) ∷ []; server = (3, 97 ∷ 99 ∷ 122 ∷ []); shown = [] })
unfolding apply compose merge first_after second_after
cycle-other = refl

cycle-seen : seen_after cycle
    ≡ Some (record {
      clients = (3, Sync, 97 ∷ 99 ∷ 122 ∷ []) ∷ (3, Sync, 97 ∷ 99 ∷ 122 ∷ []) ∷ [];
      server = (3, 97 ∷ 99 ∷ 122 ∷ []);
      shown = (97 ∷ 99 ∷ 122 ∷ []) ∷ (97 ∷ 99 ∷ 122 ∷ []) ∷ (97 ∷ 99 ∷ 122 ∷ []) ∷ [];
    })
unfolding apply compose merge first_after second_after
cycle-seen = refl

-- both delete one character: the second deletes nothing
abbrev two_deletes : Program
two_deletes =
    schedule 2 2 (120 ∷ []) (Edit 0 (op (Skip 1 ∷ [])) ∷ Edit 1 (op (Skip 1 ∷ [])) ∷ Take 0 ∷ Take 1 ∷ Acknowledge 0 ∷ Deliver 0 ∷ Deliver 1 ∷ Acknowledge 1 ∷ [])

two_deletes-log : log_at two_deletes 4 ≡ Some ((0, op (Skip 1 ∷ [])) ∷ (1, op []) ∷ [])
unfolding apply compose merge first_after second_after
two_deletes-log = refl

two_deletes-seen : seen_after two_deletes ≡ Some (record { clients = (2, Sync, []) ∷ (2, Sync, []) ∷ []; server = (2, []); shown = [] })
unfolding apply compose merge first_after second_after
two_deletes-seen = refl

-- refusals
abbrev two_clients : Program
two_clients = schedule 2 2 (97 ∷ 98 ∷ []) []

abbrev one_taken : Program
one_taken = schedule 2 2 (97 ∷ 98 ∷ []) (Edit 0 (op (Keep 2 ∷ [])) ∷ Take 0 ∷ [])

refused-base : refusal_after two_clients (Edit 0 (op (Keep 3 ∷ []))) ≡ Some BadBase
unfolding apply compose merge first_after second_after
refused-base = refl

refused-take : refusal_after two_clients (Take 0) ≡ Some LinkEmpty
unfolding apply compose merge first_after second_after
refused-take = refl

refused-client : refusal_after two_clients (Take 2) ≡ Some NoSuchClient
unfolding apply compose merge first_after second_after
refused-client = refl

refused-deliver : refusal_after one_taken (Deliver 0) ≡ Some WrongHead
unfolding apply compose merge first_after second_after
refused-deliver = refl

refused-acknowledge : refusal_after one_taken (Acknowledge 1) ≡ Some WrongHead
unfolding apply compose merge first_after second_after
refused-acknowledge = refl

refused-deliver-empty : refusal_after two_clients (Deliver 0) ≡ Some LinkEmpty
unfolding apply compose merge first_after second_after
refused-deliver-empty = refl

refused-acknowledge-empty : refusal_after two_clients (Acknowledge 0) ≡ Some LinkEmpty
unfolding apply compose merge first_after second_after
refused-acknowledge-empty = refl

performed-all : done (schedule 2 2 (97 ∷ 98 ∷ []) (one_taken.instrs ++ Acknowledge 0 ∷ Deliver 1 ∷ [])) ≡ 4
unfolding apply compose merge first_after second_after
performed-all = refl

-- a refused instruction ends the run
stopped-done : done (schedule 1 1 [] (Take 0 ∷ ReadServer ∷ [])) ≡ 0
unfolding apply compose merge first_after second_after
stopped-done = refl

stopped-place : place_at (schedule 1 1 [] (Take 0 ∷ ReadServer ∷ [])) 1 ≡ None
unfolding apply compose merge first_after second_after
stopped-place = refl

-- what a client inserts is counted, and deletions give nothing back
abbrev counting : ℕ → State → State
counting count s = record { log = s.log; server = s.server; clients = map (λ (x : Client). record { revision = x.revision; phase = x.phase; list = x.list; count = count; message = x.message }) s.clients; steps = s.steps }

abbrev q_counted : ℕ → State
q_counted count = counting count (opening 1 1 (113 ∷ []))

full-not : refusal_of (q_counted 14999) (Edit 0 (op (Keep 1 ∷ Add (98 ∷ []) ∷ []))) ≡ None
unfolding apply compose merge first_after second_after
full-not = refl

full-one : refusal_of (q_counted 15000) (Edit 0 (op (Keep 1 ∷ Add (99 ∷ []) ∷ []))) ≡ Some ClientFull
unfolding apply compose merge first_after second_after
full-one = refl

full-two : refusal_of (q_counted 14999) (Edit 0 (op (Keep 1 ∷ Add (98 ∷ 99 ∷ []) ∷ []))) ≡ Some ClientFull
unfolding apply compose merge first_after second_after
full-two = refl

full-delete : refusal_of (q_counted 15000) (Edit 0 (op (Skip 1 ∷ []))) ≡ None
unfolding apply compose merge first_after second_after
full-delete = refl

full-base-first : refusal_of (q_counted 15000) (Edit 0 (op (Keep 2 ∷ Add (99 ∷ []) ∷ []))) ≡ Some BadBase
unfolding apply compose merge first_after second_after
full-base-first = refl

-- one client is present, and the other joins once the log has an entry: it gets the server's list and revision
abbrev pub late : Program
late =
    schedule 2 1 (120 ∷ []) (
    Edit 0 (op (Keep 1 ∷ Add (97 ∷ []) ∷ [])) ∷ Take 0 ∷ Join 1 ∷ Edit 1 (op (Add (98 ∷ []) ∷ Keep 2 ∷ []))
    ∷ Acknowledge 0 ∷ Take 1 ∷ Deliver 0 ∷ Acknowledge 1 ∷ []
    )

late-before : seen_at late 2 ≡ Some (record { clients = (0, Confirm, 120 ∷ 97 ∷ []) ∷ (0, Absent, []) ∷ []; server = (1, 120 ∷ 97 ∷ []); shown = [] })
unfolding apply compose merge first_after second_after
late-before = refl

late-joined : seen_at late 3 ≡ Some (record { clients = (0, Confirm, 120 ∷ 97 ∷ []) ∷ (1, Sync, 120 ∷ 97 ∷ []) ∷ []; server = (1, 120 ∷ 97 ∷ []); shown = [] })
unfolding apply compose merge first_after second_after
late-joined = refl

late-seen : seen_after late ≡ Some (record { clients = (2, Sync, 98 ∷ 120 ∷ 97 ∷ []) ∷ (2, Sync, 98 ∷ 120 ∷ 97 ∷ []) ∷ []; server = (2, 98 ∷ 120 ∷ 97 ∷ []); shown = [] })
unfolding apply compose merge first_after second_after
late-seen = refl

-- a client joins while another's edit is under way
between-seen : seen_after (schedule 2 1 [] (Edit 0 (op (Add (97 ∷ []) ∷ [])) ∷ Join 1 ∷ Take 0 ∷ Deliver 1 ∷ Acknowledge 0 ∷ []))
    ≡ Some (record { clients = (1, Sync, 97 ∷ []) ∷ (1, Sync, 97 ∷ []) ∷ []; server = (1, 97 ∷ []); shown = [] })
unfolding apply compose merge first_after second_after
between-seen = refl

-- one of two clients is present
abbrev one_present : Program
one_present = schedule 2 1 [] []

absent-seen : seen_after one_present ≡ Some (record { clients = (0, Sync, []) ∷ (0, Absent, []) ∷ []; server = (0, []); shown = [] })
unfolding apply compose merge first_after second_after
absent-seen = refl

refused-join : refusal_after one_present (Join 0) ≡ Some AlreadyJoined
unfolding apply compose merge first_after second_after
refused-join = refl

refused-read : refusal_after one_present (Read 1) ≡ Some refusal.NotJoined
unfolding apply compose merge first_after second_after
refused-read = refl

refused-number : refusal_after one_present (Join 2) ≡ Some NoSuchClient
unfolding apply compose merge first_after second_after
refused-number = refl

-- nobody is present
refused-first : refusal_after (schedule 1 0 (97 ∷ []) []) (Edit 0 (op (Keep 1 ∷ Add (98 ∷ []) ∷ []))) ≡ Some refusal.NotJoined
unfolding apply compose merge first_after second_after
refused-first = refl

-- the order of refusals: that there is no such client, that the steps are full, that it is not joined, what its row asks
refused-before-base : refusal_after one_present (Edit 1 (op (Keep 3 ∷ []))) ≡ Some refusal.NotJoined
unfolding apply compose merge first_after second_after
refused-before-base = refl

refused-before-take : refusal_after one_present (Take 1) ≡ Some refusal.NotJoined
unfolding apply compose merge first_after second_after
refused-before-take = refl

refused-before-deliver : refusal_after one_present (Deliver 1) ≡ Some refusal.NotJoined
unfolding apply compose merge first_after second_after
refused-before-deliver = refl

refused-before-acknowledge : refusal_after one_present (Acknowledge 1) ≡ Some refusal.NotJoined
unfolding apply compose merge first_after second_after
refused-before-acknowledge = refl

abbrev full : State → State
full s = record { log = s.log; server = s.server; clients = s.clients; steps = 1000000 }

refused-full : refusal_of (full (opening 2 1 [])) ReadServer ≡ Some StepsFull
unfolding apply compose merge first_after second_after
refused-full = refl

refused-full-read : refusal_of (full (opening 2 1 [])) (Read 1) ≡ Some StepsFull
unfolding apply compose merge first_after second_after
refused-full-read = refl

refused-full-join : refusal_of (full (opening 2 1 [])) (Join 0) ≡ Some StepsFull
unfolding apply compose merge first_after second_after
refused-full-join = refl

refused-full-number : refusal_of (full (opening 2 1 [])) (Join 2) ≡ Some NoSuchClient
unfolding apply compose merge first_after second_after
refused-full-number = refl
