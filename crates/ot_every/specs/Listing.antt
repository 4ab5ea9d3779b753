-- The small sessions: every order of edits, takes and receipts, one of each class of orders that are the same on each machine.
use Rattle.std.specs.Prelude.{ℕ, zero, suc, ◌+◌, ◌-◌, ◌*◌, ◌&&◌, ◌||◌, nat_lt, not, if◌then◌else◌, Bool, true, false, List, [], ◌∷◌, ◌++◌, length, map, slice_get, drop, Option, Some, None, is_none, is_some}
use Rattle.std.specs.List.{filter, flat_map, list_all, range_with_len}
use Rattle.ot_isa.specs.declared.instruction.Instr.{Instr}
use Rattle.ot_isa.specs.declared.instruction.Instr.TheVariants.{Edit, Take, Deliver, Acknowledge, Read, Join, ReadServer}
use Rattle.ot_model.specs.Table.{Phase, NotJoined, Synchronized, AwaitingConfirm, AwaitingWithBuffer, Client, State, Performed, Refused, NoRow, opening, step}
use Rattle.ot_model.specs.Orders.{Machine, ClientMachine, ServerMachine, is_at}
use Rattle.ot_every.specs.Forms.{forms}

-- ---- which instruction comes late

-- the machine in whose place an instruction is listed
abbrev pub machine_of : Instr → Machine
machine_of (Edit c op) = ClientMachine c
machine_of (Take c) = ServerMachine
machine_of (Deliver c) = ClientMachine c
machine_of (Acknowledge c) = ClientMachine c
machine_of (Join c) = ClientMachine c
machine_of (Read c) = ClientMachine c
machine_of ReadServer = ServerMachine

-- the clients by number, and the server behind them
abbrev pub is_before : Machine → Machine → Bool
is_before (ClientMachine c) (ClientMachine d) = nat_lt c d
is_before (ClientMachine c) ServerMachine = true
is_before ServerMachine w = false

-- some machine performs both
abbrev pub shares : Instr → Instr → Bool
shares i j = is_at (machine_of i) j || (is_at ServerMachine i && is_at ServerMachine j)

-- the client is there and passes the test
abbrev pub has_client : Option Client → (Client → Bool) → Bool
has_client None test = false
has_client (Some x) test = test x

-- the log has an entry that the client has not seen
abbrev pub is_behind : State → Client → Bool
is_behind s x = nat_lt x.revision (length s.log)

-- what an instruction receives is there; an instruction that receives nothing never waits
abbrev pub is_there : State → Instr → Bool
is_there s (Edit c op) = true
is_there s (Take c) = has_client (slice_get s.clients c) (λ x. is_some x.message)
is_there s (Deliver c) = has_client (slice_get s.clients c) (is_behind s)
is_there s (Acknowledge c) = has_client (slice_get s.clients c) (is_behind s)
is_there s (Join c) = true
is_there s (Read c) = true
is_there s ReadServer = true

-- an instruction of a path, and the state before it
pub record Earlier : Type 0 where
  pub before : State
  pub instr : Instr

-- an instruction comes late at the end of a path, which is given backwards: going back over instructions of other machines, before each of which
-- it was possible already, one of a later machine is met. (Before instructions of other machines it lacks at most what it receives)
abbrev pub comes_late : List Earlier → Instr → Bool
comes_late [] i = false
comes_late (p ∷ path) i =
    not (shares i p.instr) && (is_there p.before i && (is_before (machine_of i) (machine_of p.instr) || comes_late path i))

-- ---- the instructions that may come next

-- the edits of client c over so many characters: all forms, with the next text, if one is left
abbrev pub edits : ℕ → List (List ℕ) → ℕ → ℕ → List Instr
edits inserts [] c count = []
edits inserts (text ∷ texts) c count = map (Edit c) (forms text inserts count)

-- the instructions at the machines of clients, the first of which is c
abbrev pub at_clients : ℕ → List (List ℕ) → ℕ → List Client → List Instr
at_clients inserts texts c [] = []
at_clients inserts texts c (x ∷ clients) =
    edits inserts texts c (length x.list) ++ Deliver c ∷ Acknowledge c ∷ Join c ∷ at_clients inserts texts (suc c) clients

-- the takes of the messages of clients, the first of which is c
abbrev pub takes : ℕ → List Client → List Instr
takes c [] = []
takes c (x ∷ clients) = Take c ∷ takes (suc c) clients

-- what may come next, in the order of machines; the table refuses some of them
abbrev pub candidates : ℕ → List (List ℕ) → State → List Instr
candidates inserts texts s = at_clients inserts texts 0 s.clients ++ takes 0 s.clients

-- ---- the sessions

-- an edit inserts the first of the texts that are left
abbrev pub texts_after : Instr → List (List ℕ) → List (List ℕ)
texts_after (Edit c op) texts = drop 1 texts
texts_after (Take c) texts = texts
texts_after (Deliver c) texts = texts
texts_after (Acknowledge c) texts = texts
texts_after (Join c) texts = texts
texts_after (Read c) texts = texts
texts_after ReadServer texts = texts

abbrev pub is_synchronized : Phase → Bool
is_synchronized NotJoined = false
is_synchronized Synchronized = true
is_synchronized (AwaitingConfirm o) = false
is_synchronized (AwaitingWithBuffer o b) = false

abbrev pub is_empty : {A : Type 0} → List A → Bool
is_empty [] = true
is_empty (x ∷ xs) = false

-- every client has joined, has nothing under way and has received the whole log
abbrev pub is_settled : State → Bool
is_settled s = list_all (λ x. is_synchronized x.phase && (is_none x.message && is_empty (drop x.revision s.log))) s.clients

-- depth first: the sessions with exactly so many more instructions from this state on, each performed by the table and none late, that end settled
-- with no text left
abbrev pub sessions_from : ℕ → ℕ → List (List ℕ) → List Earlier → State → List (List Instr)
sessions_from inserts zero texts path s = if is_empty texts && is_settled s then [] ∷ [] else []
sessions_from inserts (suc count) texts path s =
    flat_map
    (λ i. elim (step s i) [
      | Performed t shown ↦ map (λ is. i ∷ is) (sessions_from inserts count (texts_after i texts) (record { before = s; instr = i } ∷ path) t)
      | Refused r ↦ []
      | NoRow ↦ []
    ])
    (filter (λ i. not (comes_late path i)) (candidates inserts texts s))

-- ---- all of them

-- which sessions are listed: their clients, how many of them are present, the start text, and for their edits: how many there are at most, how many
-- insertions each has at most, and of how many letters each insertion is
pub record Space : Type 0 where
  pub clients : ℕ
  pub present : ℕ
  pub start : List ℕ
  pub edits : ℕ
  pub inserts : ℕ
  pub letters : ℕ

-- the letters of an edit's insertions: a, aA, aAa .. for the first edit, b, bB .. for the second
abbrev pub letters_of : ℕ → ℕ → List ℕ
letters_of zero edit = []
letters_of (suc zero) edit = (97 + edit) ∷ []
letters_of (suc (suc letters)) edit = (97 + edit) ∷ (65 + edit) ∷ letters_of letters edit

-- the texts of so many edits, the first of which has this number
abbrev pub texts_from : ℕ → ℕ → ℕ → List (List ℕ)
texts_from letters edit zero = []
texts_from letters edit (suc edits) = letters_of letters edit ∷ texts_from letters (suc edit) edits

-- the sessions with so many edits and so many instructions
abbrev pub sessions_of : Space → ℕ → ℕ → List (List Instr)
sessions_of space edits count =
    sessions_from space.inserts count (texts_from space.letters 0 edits) [] (opening space.clients space.present space.start)

-- how many instructions they have at most: an edit, its take, and its receipt by each client; and the joins
abbrev pub most : Space → ℕ → ℕ
most space edits = edits * (space.clients + 2) + (space.clients - space.present)

-- by edits, then by instructions
abbrev pub sessions : Space → List (List Instr)
sessions space =
    flat_map (λ edits. flat_map (sessions_of space edits) (range_with_len 0 (suc (most space edits)))) (range_with_len 0 (suc space.edits))

-- ---- parts

-- each element after the first `skipped`, and then after each further `gap` ones
abbrev pub each_from : {A : Type 0} → ℕ → ℕ → List A → List A
each_from gap skipped [] = []
each_from gap zero (x ∷ xs) = x ∷ each_from gap gap xs
each_from gap (suc skipped) (x ∷ xs) = each_from gap skipped xs

-- part number `part`, from 0 on, of so many
abbrev pub part_of : {A : Type 0} → ℕ → ℕ → List A → List A
part_of parts part xs = each_from (parts - 1) part xs
