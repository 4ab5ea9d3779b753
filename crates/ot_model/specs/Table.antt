-- The written table: a state, the instructions, and what each does. It restates ot.js' `Client` (its three states, `applyClient`,
-- `applyServer`, `serverAck`) and `Server` (`receiveOperation`) over operations as images, with the links between them.
use Rattle.std.specs.Prelude.{◌≡◌, ℕ, suc, ◌+◌, List, [], ◌∷◌, ◌++◌, ◌-◌, length, map, set, drop, replicate, slice_get, ◌==◌, nat_lt, nat_le, not, if◌then◌else◌, Bool, true, false, Option, Some, None}
use Rattle.ot_isa.specs.declared.elements.Tagged.{Tagged}
use Rattle.ot_isa.specs.declared.instruction.Instr.{Instr}
use Rattle.ot_isa.specs.declared.instruction.Instr.TheVariants.{Edit, Take, Deliver, Acknowledge, Read, Join, ReadServer}
use Rattle.ot_isa.specs.Tagging.{tagged_chars, tagged_operation}
use Rattle.ot_server.specs.History as History
use Rattle.ot_server.specs.History.{transform_over}
use Rattle.ot_client.specs.State as client
use Rattle.ot_model.specs.declared.shown.Refusal.{Refusal}
use Rattle.ot_model.specs.declared.shown.Refusal.TheVariants as refusal
use Rattle.ot_model.specs.declared.shown.Refusal.TheVariants.{NoSuchClient, StepsFull, AlreadyJoined, BadBase, ClientFull, LinkEmpty, WrongHead}
use Rattle.ot_model.specs.declared.shown.Reader.{Reader}
use Rattle.ot_model.specs.declared.shown.Reader.TheVariants as reader
use Rattle.ot_model.specs.declared.shown.Shown.{Shown}
use Rattle.ot_model.specs.Operation.{Operation, apply, inserted}
use Rattle.ot_isa.specs.declared.tagging.TheConstants.{INSERTED_LIMIT}
use Rattle.ot_model.specs.declared.limits.TheConstants.{STEP_LIMIT}

-- the start text, with the origin of no client
abbrev pub start_list : List ℕ → List Tagged
start_list text = tagged_chars 65535 0 text

-- an operation whose insertions are numbered from `serial` on, with the client's number as their origin
abbrev pub tag_operation : ℕ → ℕ → Operation ℕ → Operation Tagged
tag_operation origin serial op = tagged_operation op origin serial

-- an entry of the log: who made it, and what it does
abbrev pub Entry : Type 0
Entry = History.Entry Tagged

-- a message on its way to the server: the revision that it was made at, and the operation
abbrev pub Message : Type 0
Message = client.Message Tagged

-- not joined; nothing under way; an operation sent and not yet confirmed; that and a buffer of later edits
pub data Phase : Type 0 where
  NotJoined : Phase
  Synchronized : Phase
  AwaitingConfirm : Operation Tagged → Phase
  AwaitingWithBuffer : Operation Tagged → Operation Tagged → Phase

-- the phase of a client that has joined, which is in one of ot.js' three states
abbrev pub phase_in : client.Phase Tagged → Phase
phase_in client.Synchronized = Synchronized
phase_in (client.AwaitingConfirm o) = AwaitingConfirm o
phase_in (client.AwaitingWithBuffer o b) = AwaitingWithBuffer o b

-- what a rule says of the three states, and what else of a client that has not joined
abbrev pub by_rule {ℓ} : {X : Type ℓ} → X → (client.Phase Tagged → X) → Phase → X
by_rule other rule NotJoined = other
by_rule other rule Synchronized = rule client.Synchronized
by_rule other rule (AwaitingConfirm o) = rule (client.AwaitingConfirm o)
by_rule other rule (AwaitingWithBuffer o b) = rule (client.AwaitingWithBuffer o b)

abbrev pub is_joined : Phase → Bool
is_joined NotJoined = false
is_joined Synchronized = true
is_joined (AwaitingConfirm o) = true
is_joined (AwaitingWithBuffer o b) = true

-- a client: how much of the log it has seen, its pending operations, its list, how many characters it has inserted,
-- and its message to the server, if one is under way
pub record Client : Type 0 where
  pub revision : ℕ
  pub phase : Phase
  pub list : List Tagged
  pub count : ℕ
  pub message : Option Message

-- the log, the server's list, the clients by number, and how many instructions were performed
pub record State : Type 0 where
  pub log : List Entry
  pub server : List Tagged
  pub clients : List Client
  pub steps : ℕ

-- a client that has not joined, and one that is there from the opening on
abbrev pub absent : Client
absent = record { revision = 0; phase = NotJoined; list = []; count = 0; message = None }

abbrev pub present_with : List Tagged → Client
present_with list = record { revision = 0; phase = Synchronized; list = list; count = 0; message = None }

-- the first of the clients are joined, as many as are present
abbrev pub opening : ℕ → ℕ → List ℕ → State
opening clients present text =
    record {
      log = [];
      server = start_list text;
      clients = replicate present (present_with (start_list text)) ++ replicate (clients - present) absent;
      steps = 0;
    }

-- a message to a client: its own operation is in the log, or another's operation
pub data Head : Type 0 where
  Ack : Head
  Op : Operation Tagged → Head

abbrev pub head_for : ℕ → Entry → Head
head_for c entry = if entry.maker == c then Ack else Op entry.op

-- what stands on a joined client's downlink: the log from its revision on
abbrev pub downlink : State → ℕ → Client → List Head
downlink s c x = if is_joined x.phase then map (head_for c) (drop x.revision s.log) else []

-- what an instruction comes to; NoRow is an acknowledgement in Synchronized, which never comes
pub data Outcome : Type 0 where
  Performed : State → Option Shown → Outcome
  Refused : Refusal → Outcome
  NoRow : Outcome

-- the state with client c changed, one step on
abbrev pub with_client : State → ℕ → Client → State
with_client s c x = record { log = s.log; server = s.server; clients = set s.clients c x; steps = suc s.steps }

-- Edit (ot.js: `applyClient`): op is tagged and applied to the client's list; it is sent, or waits
abbrev pub phase_edited : Phase → Operation Tagged → Phase
phase_edited phase op = by_rule NotJoined (λ p. phase_in (client.phase_edited p op)) phase

-- an edit is sent at once where nothing is under way
abbrev pub message_edited : Phase → Client → Operation Tagged → Option Message
message_edited NotJoined x op = x.message
message_edited Synchronized x op = Some (record { revision = x.revision; op = op })
message_edited (AwaitingConfirm o) x op = x.message
message_edited (AwaitingWithBuffer o b) x op = x.message

abbrev pub edited : Client → Operation Tagged → Client
edited x op =
    record {
      revision = x.revision;
      phase = phase_edited x.phase op;
      list = apply op x.list;
      count = x.count + inserted op;
      message = message_edited x.phase x op;
    }

-- it has to be over the client's list, and a client inserts at most 15,000 characters in a run
abbrev pub edit_row : State → ℕ → Client → Operation ℕ → Outcome
edit_row s c x op =
    if not (op.base == length x.list) then Refused BadBase
    else if nat_lt INSERTED_LIMIT (x.count + inserted op) then Refused ClientFull
    else Performed (with_client s c (edited x (tag_operation c x.count op))) None

-- Take (ot.js: `receiveOperation`): the message, transformed against what the log has gained since, is applied and appended
abbrev pub taken : State → ℕ → Client → Operation Tagged → State
taken s c x m =
    record {
      log = s.log ++ record { maker = c; op = m } ∷ [];
      server = apply m s.server;
      clients = set s.clients c (record { revision = x.revision; phase = x.phase; list = x.list; count = x.count; message = None });
      steps = suc s.steps;
    }

abbrev pub take_row : State → ℕ → Client → Option Message → Outcome
take_row s c x None = Refused LinkEmpty
take_row s c x (Some m) = Performed (taken s c x (transform_over m.op (drop m.revision s.log))) None

-- Deliver (ot.js: `applyServer`): h is transformed against outstanding and buffer, and applied to the list
abbrev pub phase_delivered : Phase → Operation Tagged → Phase
phase_delivered phase h = by_rule NotJoined (λ p. phase_in (client.phase_delivered p h)) phase

-- what the client applies
abbrev pub against_pending : Phase → Operation Tagged → Operation Tagged
against_pending phase h = by_rule h (λ p. client.against_pending p h) phase

abbrev pub delivered : Client → Operation Tagged → Client
delivered x h =
    record {
      revision = suc x.revision;
      phase = phase_delivered x.phase h;
      list = apply (against_pending x.phase h) x.list;
      count = x.count;
      message = x.message;
    }

-- the head of the downlink has to be another's operation
abbrev pub deliver_row : State → ℕ → Client → Option Entry → Outcome
deliver_row s c x None = Refused LinkEmpty
deliver_row s c x (Some h) =
    if h.maker == c then Refused WrongHead else Performed (with_client s c (delivered x h.op)) None

-- Acknowledge (ot.js: `serverAck`): the buffer, if there is one, is sent at the revision after it
abbrev pub acknowledged : Client → Phase → Option Client
acknowledged x NotJoined = None
acknowledged x Synchronized = None
acknowledged x (AwaitingConfirm o) =
    Some (record { revision = suc x.revision; phase = Synchronized; list = x.list; count = x.count; message = x.message })
acknowledged x (AwaitingWithBuffer o b) =
    Some (record {
      revision = suc x.revision;
      phase = AwaitingConfirm b;
      list = x.list;
      count = x.count;
      message = Some (record { revision = suc x.revision; op = b });
    })

-- in Synchronized there is no row
abbrev pub with_row : State → ℕ → Option Client → Outcome
with_row s c None = NoRow
with_row s c (Some x) = Performed (with_client s c x) None

-- the head of the downlink has to be the client's own entry
abbrev pub acknowledge_row : State → ℕ → Client → Option Entry → Outcome
acknowledge_row s c x None = Refused LinkEmpty
acknowledge_row s c x (Some h) =
    if h.maker == c then with_row s c (acknowledged x x.phase) else Refused WrongHead

-- Join: the client gets the server's list and revision
abbrev pub joined : State → Client → Client
joined s x = record { revision = length s.log; phase = Synchronized; list = s.server; count = x.count; message = x.message }

abbrev pub join_row : State → ℕ → Client → Outcome
join_row s c x = if is_joined x.phase then Refused AlreadyJoined else Performed (with_client s c (joined s x)) None

-- the reads change no list
abbrev pub shows : State → Reader → List Tagged → Outcome
shows s who list =
    Performed (record { log = s.log; server = s.server; clients = s.clients; steps = suc s.steps }) (Some (record { who = who; list = list }))

-- the other rows of a client are of one that is joined
abbrev pub if_joined : Client → Outcome → Outcome
if_joined x outcome = if is_joined x.phase then outcome else Refused refusal.NotJoined

-- the row of an instruction of client c
abbrev pub row : State → Instr → ℕ → Client → Outcome
row s (Edit d op) c x = if_joined x (edit_row s c x op)
row s (Take d) c x = if_joined x (take_row s c x x.message)
row s (Deliver d) c x = if_joined x (deliver_row s c x (slice_get s.log x.revision))
row s (Acknowledge d) c x = if_joined x (acknowledge_row s c x (slice_get s.log x.revision))
row s (Join d) c x = join_row s c x
row s (Read d) c x = if_joined x (shows s (reader.Client c) x.list)
row s ReadServer c x = shows s reader.Server s.server

-- a machine performs at most 1,000,000 instructions
abbrev pub unless_full : State → Outcome → Outcome
unless_full s outcome = if nat_le STEP_LIMIT s.steps then Refused StepsFull else outcome

-- the client has to be there
abbrev pub at_client : State → Instr → ℕ → Option Client → Outcome
at_client s i c None = Refused NoSuchClient
at_client s i c (Some x) = unless_full s (row s i c x)

-- what an instruction comes to; refusals in order: no such client, steps full, not joined or already joined, and what the row asks
abbrev pub step : State → Instr → Outcome
step s (Edit c op) = at_client s (Edit c op) c (slice_get s.clients c)
step s (Take c) = at_client s (Take c) c (slice_get s.clients c)
step s (Deliver c) = at_client s (Deliver c) c (slice_get s.clients c)
step s (Acknowledge c) = at_client s (Acknowledge c) c (slice_get s.clients c)
step s (Join c) = at_client s (Join c) c (slice_get s.clients c)
step s (Read c) = at_client s (Read c) c (slice_get s.clients c)
step s ReadServer = unless_full s (shows s reader.Server s.server)

-- a state with the lists shown so far
pub record Place : Type 0 where
  pub state : State
  pub shown : List Shown

-- the lists shown, and one more where there is one
abbrev pub with_shown : List Shown → Option Shown → List Shown
with_shown shown None = shown
with_shown shown (Some list) = shown ++ list ∷ []

-- where the instructions lead to, if each of them is performed
abbrev pub run : List Instr → Place → Option Place
run [] p = Some p
run (i ∷ is) p =
    elim (step p.state i) [
      | Performed s list ↦ run is (record { state = s; shown = with_shown p.shown list })
      | Refused r ↦ None
      | NoRow ↦ None
    ]

-- how many instructions are performed before the first that is refused
abbrev pub performed : List Instr → State → ℕ
performed [] s = 0
performed (i ∷ is) s =
    elim (step s i) [ Performed t list ↦ suc (performed is t) | Refused r ↦ 0 | NoRow ↦ 0 ]

-- where a run begins: at the opening, with nothing shown
abbrev pub begin : ℕ → ℕ → List ℕ → Place
begin clients present text = record { state = opening clients present text; shown = [] }

-- no message is under way, every downlink is empty and every joined client is Synchronized
-- (in a sound state a client that has not joined has neither a message nor a downlink)
pub record IsQuietClient (log : List Entry) (x : Client) : Type 0 where
  pub no_message : x.message ≡ None
  pub no_downlink : drop x.revision log ≡ []
  pub synchronized : x.phase ≡ Synchronized

abbrev pub IsQuiet : State → Type 0
IsQuiet s = (c : ℕ) (x : Client) → slice_get s.clients c ≡ Some x → is_joined x.phase ≡ true → IsQuietClient s.log x
