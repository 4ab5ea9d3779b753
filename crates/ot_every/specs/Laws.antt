-- The laws of the small sessions.
use Rattle.std.specs.Prelude.{◌≡◌, ℕ, suc, ◌+◌, ◌*◌, ◌<◌, ◌≤◌, List, [], ◌∷◌, length, slice_get, count_by, Bool, true, false, not, Some}
use Rattle.std.specs.List.{All, AllPairs, Contains, filter}
use Rattle.ot_isa.specs.declared.instruction.Instr.{Instr}
use Rattle.ot_isa.specs.declared.instruction.Instr.TheVariants.{Edit, Take, Deliver, Acknowledge, Read, Join, ReadServer}
use Rattle.ot_isa.specs.declared.builder.TheConstants.{CLIENT_LIMIT, START_LIMIT}
use Rattle.ot_model.specs.Table.{Client, State, Place, is_joined, begin, run, IsQuiet}
use Rattle.ot_model.specs.Orders.{AreSameOrders}
use Rattle.ot_letters.specs.Alike.{blank}
use Rattle.ot_letters.specs.Letters.{mapped_instrs}
use Rattle.ot_every.specs.Forms.{insertions, IsForm}
use Rattle.ot_every.specs.Listing.{Space, letters_of, sessions, part_of}

abbrev pub is_edit : Instr → Bool
is_edit (Edit c op) = true
is_edit (Take c) = false
is_edit (Deliver c) = false
is_edit (Acknowledge c) = false
is_edit (Join c) = false
is_edit (Read c) = false
is_edit ReadServer = false

abbrev pub is_read : Instr → Bool
is_read (Edit c op) = false
is_read (Take c) = false
is_read (Deliver c) = false
is_read (Acknowledge c) = false
is_read (Join c) = false
is_read (Read c) = true
is_read ReadServer = true

abbrev pub without_reads : List Instr → List Instr
without_reads is = filter (λ i. not (is_read i)) is

-- an edit has a form
abbrev pub IsSmall : ℕ → ℕ → Instr → Type 0
IsSmall letters inserts (Edit c op) = IsForm letters inserts op.base op
IsSmall letters inserts (Take c) = Unit {0}
IsSmall letters inserts (Deliver c) = Unit {0}
IsSmall letters inserts (Acknowledge c) = Unit {0}
IsSmall letters inserts (Join c) = Unit {0}
IsSmall letters inserts (Read c) = Unit {0}
IsSmall letters inserts ReadServer = Unit {0}

-- what the laws ask of a space
pub record IsSpace (space : Space) : Type 0 where
  pub clients : space.clients ≤ CLIENT_LIMIT
  pub present : space.present ≤ space.clients
  pub start : length space.start ≤ START_LIMIT
  pub letters : 1 ≤ space.letters

-- all is quiet, and every client has joined
pub record IsSettled (s : State) : Type 0 where
  pub quiet : IsQuiet s
  pub joined : (c : ℕ) (x : Client) → slice_get s.clients c ≡ Some x → is_joined x.phase ≡ true

-- a session of the space, from a start text: the table performs it whole, it ends settled, and it has at most so many edits, each in a form
pub record IsSession (space : Space) (start : List ℕ) (is : List Instr) : Type 0 where
  pub place : Place
  pub runs : run is (begin space.clients space.present start) ≡ Some place
  pub settled : IsSettled place.state
  pub few : count_by is_edit is ≤ space.edits
  pub small : All (IsSmall space.letters space.inserts) is

-- the edits insert the letters in turn, the first of them those of the edit of this number
abbrev pub InsertInTurn : ℕ → ℕ → List Instr → Type 0
InsertInTurn letters edit [] = Unit {0}
InsertInTurn letters edit (Edit c op ∷ is) = All (λ text. text ≡ letters_of letters edit) (insertions op) × InsertInTurn letters (suc edit) is
InsertInTurn letters edit (Take c ∷ is) = InsertInTurn letters edit is
InsertInTurn letters edit (Deliver c ∷ is) = InsertInTurn letters edit is
InsertInTurn letters edit (Acknowledge c ∷ is) = InsertInTurn letters edit is
InsertInTurn letters edit (Join c ∷ is) = InsertInTurn letters edit is
InsertInTurn letters edit (Read c ∷ is) = InsertInTurn letters edit is
InsertInTurn letters edit (ReadServer ∷ is) = InsertInTurn letters edit is

-- each that is listed is one, reads nothing, and inserts the letters of the first edit, then those of the second ..
abbrev pub Valid : Type 0
Valid = (space : Space) → IsSpace space → All (λ is. IsSession space space.start is × (without_reads is ≡ is) × InsertInTurn space.letters 0 is) (sessions space)

-- both have, on each machine, the same instructions in the same order, but for their letters
abbrev pub AreSameButLetters : List Instr → List Instr → Type 0
AreSameButLetters is js = AreSameOrders (mapped_instrs blank is) (mapped_instrs blank js)

-- no two that are listed are the same
abbrev pub Distinct : Type 0
Distinct = (space : Space) → IsSpace space → AllPairs (λ is js. AreSameButLetters is js → ⊥) (sessions space)

-- for each session of the space one is listed that is the same, its reads aside, whatever letters its edits insert and its start text has
abbrev pub Complete : Type 0
Complete =
    (space : Space) (start : List ℕ) (is : List Instr) → IsSpace space → length start ≡ length space.start → IsSession space start is
    → (js : List Instr) × Contains (sessions space) js × AreSameButLetters (without_reads is) js

-- part i of n has each n-th element from the i-th on: together the parts are the whole, and each element is in one
abbrev pub Parts : Type 0
Parts = (parts part k : ℕ) (xs : List (List Instr)) → part < parts → slice_get (part_of parts part xs) k ≡ slice_get xs (part + k * parts)
