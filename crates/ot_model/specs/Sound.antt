-- What holds of every state of every run, said of the state alone, not of the run that led to it.
use Rattle.std.specs.Prelude.{◌≡◌, ℕ, ◌+◌, ◌<◌, ◌≤◌, ◌≢◌, ◌⊎◌, List, [], ◌∷◌, ◌++◌, length, take, drop, slice_get, sum_by, All, Option, Some, None, Bool, ◌==◌, ◌&&◌, count_by, if◌then◌else◌, nat_lt}
use Rattle.ot_model.specs.Operation.{Operation, IsOperation, apply, inserted, news, first_after}
use Rattle.ot_model.specs.Table.{Phase, NotJoined, Synchronized, AwaitingConfirm, AwaitingWithBuffer, Client, absent, State, Entry, Message, Outcome, Performed, Refused, NoRow, start_list}
use Rattle.ot_isa.specs.declared.elements.Tag.{Tag}
use Rattle.ot_isa.specs.declared.elements.Tagged.{Tagged}
use Rattle.ot_isa.specs.declared.instruction.Instr.{Instr}
use Rattle.ot_isa.specs.declared.instruction.Instr.TheVariants.{Edit, Take, Deliver, Acknowledge, Join, Read, ReadServer}
use Rattle.ot_server.specs.History.{transform_over}
use Rattle.ot_isa.specs.declared.builder.TheConstants.{CLIENT_LIMIT, START_LIMIT}
use Rattle.ot_isa.specs.declared.tagging.TheConstants.{INSERTED_LIMIT}
use Rattle.ot_model.specs.declared.limits.TheConstants.{STEP_LIMIT}

-- an operation that can be applied to the list
pub record Fits {A : Type 0} (op : Operation A) (d : List A) : Type 0 where
  pub rising : IsOperation op
  pub base : op.base ≡ length d

-- the list after the entries
abbrev pub apply_entries : List Tagged → List Entry → List Tagged
apply_entries d [] = d
apply_entries d (h ∷ log) = apply_entries (apply h.op d) log

-- the entries can be applied in turn
abbrev pub FitAll : List Tagged → List Entry → Type 0
FitAll d [] = Unit {0}
FitAll d (h ∷ log) = Fits h.op d × FitAll (apply h.op d) log

-- no entry is c's
abbrev pub NoneBy : ℕ → List Entry → Type 0
NoneBy c [] = Unit {0}
NoneBy c (h ∷ log) = (h.maker ≢ c) × NoneBy c log

-- exactly one entry is c's, and it is o, transformed against the entries before it
abbrev pub Lands : ℕ → Operation Tagged → List Entry → Type 0
Lands c o [] = ⊥
Lands c o (h ∷ log) = (h.maker ≡ c) × (h.op ≡ o) × NoneBy c log ⊎ ((h.maker ≢ c) × Lands c (first_after o h.op) log)

-- a message under way, of a client that has seen these entries of the log
pub record IsUnderway (c : ℕ) (o : Operation Tagged) (start : List Tagged) (seen ahead : List Entry) (m : Message) : Type 0 where
  pub revision : m.revision ≤ length seen
  pub fits : Fits m.op (apply_entries start (take m.revision seen))
  pub transformed : transform_over m.op (drop m.revision seen) ≡ o
  pub none : NoneBy c ahead

-- the outstanding operation o is under way or in the log
abbrev pub IsSent : ℕ → Operation Tagged → List Tagged → List Entry → List Entry → Option Message → Type 0
IsSent c o start seen ahead None = Lands c o ahead
IsSent c o start seen ahead (Some m) = IsUnderway c o start seen ahead m

-- a synchronized client: its list is the log's at its revision, it sends nothing, and none of its entries is ahead
pub record IsSynchronizedSound (c : ℕ) (d : List Tagged) (ahead : List Entry) (list : List Tagged) (message : Option Message) : Type 0 where
  pub list_is : list ≡ d
  pub message_is : message ≡ None
  pub none : NoneBy c ahead

-- a client that waits for a confirmation: its list is that of the log with the outstanding operation applied
pub record IsConfirmSound (c : ℕ) (o : Operation Tagged) (start : List Tagged) (seen ahead : List Entry) (list : List Tagged) (message : Option Message) : Type 0 where
  pub fits : Fits o (apply_entries start seen)
  pub list_is : list ≡ apply o (apply_entries start seen)
  pub sent : IsSent c o start seen ahead message

-- a client that waits with a buffer: outstanding and then buffer are applied
pub record IsBufferSound (c : ℕ) (o b : Operation Tagged) (start : List Tagged) (seen ahead : List Entry) (list : List Tagged) (message : Option Message) : Type 0 where
  pub fits : Fits o (apply_entries start seen)
  pub buffer_fits : Fits b (apply o (apply_entries start seen))
  pub list_is : list ≡ apply b (apply o (apply_entries start seen))
  pub sent : IsSent c o start seen ahead message

-- what a client's phase says of its list, its message and the log
abbrev pub IsPhaseSound : ℕ → Phase → List Tagged → List Entry → List Entry → List Tagged → Option Message → Type 0
IsPhaseSound c NotJoined start seen ahead list message = Unit {0}
IsPhaseSound c Synchronized start seen ahead list message = IsSynchronizedSound c (apply_entries start seen) ahead list message
IsPhaseSound c (AwaitingConfirm o) start seen ahead list message = IsConfirmSound c o start seen ahead list message
IsPhaseSound c (AwaitingWithBuffer o b) start seen ahead list message = IsBufferSound c o b start seen ahead list message

-- client c as it is, having seen these entries of the log, with these ahead of it
abbrev pub IsClientSound : ℕ → List Tagged → List Entry → List Entry → Client → Type 0
IsClientSound c start seen ahead x = IsPhaseSound c x.phase start seen ahead x.list x.message

-- a client that is not joined is as at the opening, and has no entry
abbrev pub IsAbsentSound : ℕ → List Entry → Client → Type 0
IsAbsentSound c log x = x.phase ≡ NotJoined → (x ≡ absent) × NoneBy c log

-- how often a tag is among the elements
abbrev pub has_tag : Tag → Tagged → Bool
has_tag t x = (t.origin == x.tag.origin) && (t.serial == x.tag.serial)

abbrev pub times : Tag → List Tagged → ℕ
times t xs = count_by (has_tag t) xs

-- what c inserted, in the log's entries
abbrev pub news_by : ℕ → List Entry → List Tagged
news_by c [] = []
news_by c (h ∷ log) = if h.maker == c then news h.op ++ news_by c log else news_by c log

-- what c inserted that the log does not have yet
abbrev pub news_sent : Option Message → List Tagged
news_sent None = []
news_sent (Some m) = news m.op

-- what a client inserted that it has not sent yet
abbrev pub news_kept : Phase → List Tagged
news_kept NotJoined = []
news_kept Synchronized = []
news_kept (AwaitingConfirm o) = []
news_kept (AwaitingWithBuffer o b) = news b

-- both: what c inserted that the log does not have yet
abbrev pub news_pending : Client → List Tagged
news_pending x = news_sent x.message ++ news_kept x.phase

-- how often a tag may be among what c inserted: once below c's count
abbrev pub allowance : ℕ → ℕ → Tag → ℕ
allowance c count t = if (t.origin == c) && nat_lt t.serial count then 1 else 0

-- what c inserted has tags (c, k) with k below its count, each at most once
abbrev pub IsOwn : ℕ → List Entry → Client → Type 0
IsOwn c log x = (t : Tag) → times t (news_by c log) + times t (news_pending x) ≤ allowance c x.count t

-- how much the log's entries insert
abbrev pub inserted_in : List Entry → ℕ
inserted_in log = sum_by (λ h. inserted h.op) log

-- how much a client inserted that the log does not have yet
abbrev pub pending : Client → ℕ
pending x = length (news_pending x)

-- the state is sound, from this start list, which is a text of at most 40,000 characters:
-- the log leads from it to the server's list, and each client is where its revision and its phase say
pub record IsSoundFrom (start : List Tagged) (text : List ℕ) (s : State) : Type 0 where
  pub tagged : start ≡ start_list text
  pub short : length start ≤ START_LIMIT
  pub few : length s.clients ≤ CLIENT_LIMIT
  pub fit : FitAll start s.log
  pub server : s.server ≡ apply_entries start s.log
  pub makers : All (λ h. h.maker < length s.clients) s.log
  pub seen : (c : ℕ) (x : Client) → slice_get s.clients c ≡ Some x → x.revision ≤ length s.log
  pub clients : (c : ℕ) (x : Client) → slice_get s.clients c ≡ Some x → IsClientSound c start (take x.revision s.log) (drop x.revision s.log) x
  pub absents : (c : ℕ) (x : Client) → slice_get s.clients c ≡ Some x → IsAbsentSound c s.log x
  pub own : (c : ℕ) (x : Client) → slice_get s.clients c ≡ Some x → IsOwn c s.log x
  pub counts : (c : ℕ) (x : Client) → slice_get s.clients c ≡ Some x → x.count ≤ INSERTED_LIMIT
  pub room : inserted_in s.log + sum_by pending s.clients ≤ sum_by (λ x. x.count) s.clients
  pub logged : length s.log ≤ s.steps
  pub steps : s.steps ≤ STEP_LIMIT

-- the state is sound, from some start
abbrev pub IsSound : State → Type 0
IsSound s = (start : List Tagged) × (text : List ℕ) × IsSoundFrom start text s

-- an instruction that a schedule can have: its operation is one
abbrev pub IsInstr : Instr → Type 0
IsInstr (Edit c op) = IsOperation op
IsInstr (Take c) = Unit {0}
IsInstr (Deliver c) = Unit {0}
IsInstr (Acknowledge c) = Unit {0}
IsInstr (Join c) = Unit {0}
IsInstr (Read c) = Unit {0}
IsInstr ReadServer = Unit {0}

-- each of the instructions is one
abbrev pub AreInstrs : List Instr → Type 0
AreInstrs [] = Unit {0}
AreInstrs (i ∷ is) = IsInstr i × AreInstrs is

-- a sound state or a refusal; an acknowledgement in Synchronized never comes
abbrev pub IsOutcomeSound : Outcome → Type 0
IsOutcomeSound (Performed s shown) = IsSound s
IsOutcomeSound (Refused r) = Unit {0}
IsOutcomeSound NoRow = ⊥
