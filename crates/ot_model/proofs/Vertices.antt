-- The order of elements in lists, and the lists that a state leads to.
use Rattle.std.specs.Prelude.{◌≡◌, ℕ, ◌+◌, ◌<◌, ◌≤◌, ◌⊎◌, List, [], ◌∷◌, ◌++◌, length, map, take, drop, slice_get, Option, Some, None, if◌then◌else◌, ◌==◌}
use Rattle.ot_model.specs.Operation.{Operation, IsOperation, apply, compose, news, first_after, second_after}
use Rattle.ot_isa.specs.declared.elements.Tag.{Tag}
use Rattle.ot_isa.specs.declared.elements.Tagged.{Tagged}
use Rattle.ot_model.specs.Table.{Phase, NotJoined, Synchronized, AwaitingConfirm, AwaitingWithBuffer, Client, State, Entry, Performed, Refused, NoRow, step}
use Rattle.ot_isa.specs.declared.instruction.Instr.{Instr}
use Rattle.ot_isa.specs.declared.instruction.Instr.TheVariants.{Edit, Take, Deliver, Acknowledge, Join, Read, ReadServer}
use Rattle.ot_model.specs.Sound.{Fits, apply_entries, times}

-- the tag is in the list
abbrev pub Has : Tag → List Tagged → Type 0
Has t [] = ⊥
Has t (x ∷ xs) = (x.tag ≡ t) ⊎ Has t xs

-- a stands before b
abbrev pub Before : Tag → Tag → List Tagged → Type 0
Before a b [] = ⊥
Before a b (x ∷ xs) = ((x.tag ≡ a) × Has b xs) ⊎ Before a b xs

-- no two elements stand in the one order here and in the other there
abbrev pub IsConsistent : List Tagged → List Tagged → Type 0
IsConsistent u v = (a b : Tag) → Before a b u → Before b a v → ⊥

-- operations that apply in turn, and the lists on their way
abbrev pub PathFits : List Tagged → List (Operation Tagged) → Type 0
PathFits d [] = Unit {0}
PathFits d (e ∷ es) = Fits e d × PathFits (apply e d) es

abbrev pub InPath : List Tagged → List Tagged → List (Operation Tagged) → Type 0
InPath w d [] = w ≡ d
InPath w d (e ∷ es) = (w ≡ d) ⊎ InPath w (apply e d) es

-- one of the operations inserts the tag
abbrev pub HasNew : Tag → List (Operation Tagged) → Type 0
HasNew t [] = ⊥
HasNew t (e ∷ es) = Has t (news e) ⊎ HasNew t es

abbrev pub Apart : List Tagged → List Tagged → Type 0
Apart u v = (t : Tag) → Has t u → Has t v → ⊥

abbrev pub ApartNew : List Tagged → List (Operation Tagged) → Type 0
ApartNew u es = (t : Tag) → Has t u → HasNew t es → ⊥

-- the operations, each transformed against what z has become
abbrev pub lifted : Operation Tagged → List (Operation Tagged) → List (Operation Tagged)
lifted z [] = []
lifted z (e ∷ es) = second_after z e ∷ lifted (first_after z e) es

abbrev pub operations : List Entry → List (Operation Tagged)
operations log = map (λ h. h.op) log

-- what the entries are to a client with o outstanding: transformed against it until it lands, and as they are from there on
abbrev pub past_outstanding : ℕ → Operation Tagged → List Entry → List (Operation Tagged)
past_outstanding c o [] = []
past_outstanding c o (h ∷ log) =
    if h.maker == c then operations log else second_after o h.op ∷ past_outstanding c (first_after o h.op) log

-- the lists that a client's outstanding, and then its buffer, make of the log's documents from its own on
abbrev pub InFirst : ℕ → List Tagged → List Tagged → List Entry → Phase → Type 0
InFirst c w d ahead NotJoined = ⊥
InFirst c w d ahead Synchronized = ⊥
InFirst c w d ahead (AwaitingConfirm o) = InPath w (apply o d) (past_outstanding c o ahead)
InFirst c w d ahead (AwaitingWithBuffer o b) = InPath w (apply o d) (past_outstanding c o ahead)

abbrev pub InSecond : ℕ → List Tagged → List Tagged → List Entry → Phase → Type 0
InSecond c w d ahead NotJoined = ⊥
InSecond c w d ahead Synchronized = ⊥
InSecond c w d ahead (AwaitingConfirm o) = ⊥
InSecond c w d ahead (AwaitingWithBuffer o b) = InPath w (apply b (apply o d)) (lifted b (past_outstanding c o ahead))

-- the last path of a client: its outstanding's, or its buffer's
abbrev pub InLast : ℕ → List Tagged → List Tagged → List Entry → Phase → Type 0
InLast c w d ahead NotJoined = ⊥
InLast c w d ahead Synchronized = ⊥
InLast c w d ahead (AwaitingConfirm o) = InPath w (apply o d) (past_outstanding c o ahead)
InLast c w d ahead (AwaitingWithBuffer o b) = InPath w (apply b (apply o d)) (lifted b (past_outstanding c o ahead))

pub record IsClientVertex (start : List Tagged) (s : State) (c : ℕ) (w : List Tagged) : Type 0 where
  pub client : Client
  pub at : slice_get s.clients c ≡ Some client
  pub path : InFirst c w (apply_entries start (take client.revision s.log)) (drop client.revision s.log) client.phase ⊎ InSecond c w (apply_entries start (take client.revision s.log)) (drop client.revision s.log) client.phase

-- a list that the state leads to if nobody edits any more: of the server's, or of client c's
abbrev pub IsVertex : List Tagged → State → ℕ → List Tagged → Type 0
IsVertex start s owner w = ((owner ≡ 65535) × InPath w start (operations s.log)) ⊎ IsClientVertex start s owner w

-- a list that was some reader's, when that had seen so much of the log
pub record Seen : Type 0 where
  pub owner : ℕ
  pub level : ℕ
  pub list : List Tagged

abbrev pub In : Seen → List Seen → Type 0
In u [] = ⊥
In u (v ∷ seen) = (v ≡ u) ⊎ In u seen

abbrev pub IsPast : List Seen → ℕ → List Tagged → Type 0
IsPast seen owner w = (u : Seen) × In u seen × (u.owner ≡ owner) × (u.list ≡ w)

abbrev pub IsMember : List Tagged → State → List Seen → ℕ → List Tagged → Type 0
IsMember start s seen owner w = IsVertex start s owner w ⊎ IsPast seen owner w

-- what a reader may have seen of an element: it is its own, or the start's, or in the log below its level
pub record IsOwnTag (s : State) (owner : ℕ) (t : Tag) : Type 0 where
  pub client : Client
  pub at : slice_get s.clients owner ≡ Some client
  pub origin : t.origin ≡ owner
  pub serial : t.serial < client.count

abbrev pub IsKnown : List Tagged → State → ℕ → List Entry → Tag → Type 0
IsKnown start s owner log t = IsOwnTag s owner t ⊎ (Has t start ⊎ HasNew t (operations log))

-- what of a past list is known, and how far its owner has come since
pub record IsSeenSound (start : List Tagged) (s : State) (u : Seen) : Type 0 where
  pub known : (t : Tag) → Has t u.list → IsKnown start s u.owner (take u.level s.log) t
  pub level : u.level ≤ length s.log
  pub behind : (x : Client) → slice_get s.clients u.owner ≡ Some x → u.level ≤ x.revision

-- all lists so far, and all that the state leads to, have one order
pub record IsOrdered (start : List Tagged) (s : State) (seen : List Seen) : Type 0 where
  pub sound : (u : Seen) → In u seen → IsSeenSound start s u
  pub consistent : (a b : ℕ) (u v : List Tagged) → IsMember start s seen a u → IsMember start s seen b v → IsConsistent u v

-- what more the algebra ensures
pub record OrderLaws : Type 0 where
  pub keeps : (z : Operation Tagged) (d : List Tagged) (a b : Tag) → Fits z d → Before a b (apply z d) → (Has a (news z) → ⊥) → (Has b (news z) → ⊥) → Before a b d
  pub from : (z : Operation Tagged) (d : List Tagged) (t : Tag) → Fits z d → Has t (apply z d) → Has t d ⊎ Has t (news z)
  pub compose_has : (a b : Operation Tagged) (t : Tag) → IsOperation a → IsOperation b → Has t (news (compose a b)) → Has t (news a) ⊎ Has t (news b)
  pub apply_times : (z : Operation Tagged) (d : List Tagged) (t : Tag) → Fits z d → times t (apply z d) ≤ times t d + times t (news z)

-- the lists of the edits and reads of a run, in order
abbrev pub list_at : Option Client → List (List Tagged)
list_at None = []
list_at (Some x) = x.list ∷ []

-- the list after an instruction that leaves the state so
abbrev pub list_of : State → Instr → List (List Tagged)
list_of t (Edit c op) = list_at (slice_get t.clients c)
list_of t (Take c) = []
list_of t (Deliver c) = []
list_of t (Acknowledge c) = []
list_of t (Join c) = []
list_of t (Read c) = list_at (slice_get t.clients c)
list_of t ReadServer = t.server ∷ []

abbrev pub lists_from : State → List Instr → List (List Tagged)
lists_from s [] = []
lists_from s (i ∷ is) = elim (step s i) [ Performed t shown ↦ list_of t i ++ lists_from t is | Refused r ↦ [] | NoRow ↦ [] ]

abbrev pub AmongLists : List Tagged → List (List Tagged) → Type 0
AmongLists w [] = ⊥
AmongLists w (v ∷ lists) = (v ≡ w) ⊎ AmongLists w lists
