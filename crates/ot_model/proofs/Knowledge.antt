-- What each list holds: exactly what the edits that its reader knows inserted, and none of them deleted.
use Rattle.std.specs.Prelude.{◌≡◌, ℕ, ◌-◌, ◌<◌, ◌≤◌, ◌≢◌, ◌⊎◌, List, length, map, take, get_or, slice_get, if◌then◌else◌, ◌==◌, true, false, Some}
use Rattle.ot_model.specs.Operation.{Operation, apply, first_after}
use Rattle.ot_isa.specs.declared.elements.Tag.{Tag}
use Rattle.ot_isa.specs.declared.elements.Tagged.{Tagged}
use Rattle.ot_model.specs.Table.{Phase, NotJoined, Synchronized, AwaitingConfirm, AwaitingWithBuffer, is_joined, Client, State}
use Rattle.ot_model.specs.Sound.{Fits, apply_entries, times}
use Rattle.ot_model.proofs.Vertices.{Has, IsOwnTag}
use Rattle.ot_model.specs.Trace.{EventView}
use Rattle.ot_model.specs.Events.{Count, Ledger, counted, tags}
use Rattle.ot_model.proofs.Traces.{edits_of, In, Inserts, Deletes}

-- how many edits of each replica lie in the first j entries of the log
abbrev pub logged : List Count → ℕ → ℕ → ℕ
logged entries j q = counted q 0 (take j entries)

-- the same, and so many of replica c's own
abbrev pub with_own : ℕ → ℕ → (ℕ → ℕ) → ℕ → ℕ
with_own c own f q = if q == c then own else f q

-- one of the first f r edits of each replica r inserted the tag, or it is the start's
abbrev pub IsInserted : List Tag → List EventView → (ℕ → ℕ) → Tag → Type 0
IsInserted start trace f t = In t start ⊎ ((r : ℕ) × (k : ℕ) × (k < f r) × Inserts trace r k t)

abbrev pub IsDeleted : List EventView → (ℕ → ℕ) → Tag → Type 0
IsDeleted trace f t = (r : ℕ) × (k : ℕ) × (k < f r) × Deletes trace r k t

-- the list holds exactly what these edits inserted and none of them deleted
pub record Holds (start : List Tag) (trace : List EventView) (f : ℕ → ℕ) (w : List Tagged) : Type 0 where
  pub inserted : (t : Tag) → Has t w → IsInserted start trace f t
  pub kept : (t : Tag) → Has t w → IsDeleted trace f t → ⊥
  pub here : (t : Tag) → IsInserted start trace f t → (IsDeleted trace f t → ⊥) → Has t w

-- w is what two lists make of d together
pub record IsMerge (d u v w : List Tagged) : Type 0 where
  pub both : (t : Tag) → Has t d → Has t u → Has t v → Has t w
  pub first : (t : Tag) → Has t u → (Has t d → ⊥) → Has t w
  pub second : (t : Tag) → Has t v → (Has t d → ⊥) → Has t w
  pub from : (t : Tag) → Has t w → (Has t u × Has t v) ⊎ (Has t u × (Has t d → ⊥)) ⊎ (Has t v × (Has t d → ⊥))

-- of each replica, only one of g and h has more edits than f, and u has those of both
abbrev pub Joins : (ℕ → ℕ) → (ℕ → ℕ) → (ℕ → ℕ) → (ℕ → ℕ) → Type 0
Joins f g h u = (q : ℕ) → ((g q ≡ f q) × (u q ≡ h q) × (f q ≤ h q)) ⊎ ((h q ≡ f q) × (u q ≡ g q) × (f q ≤ g q))

-- the one thing that is asked of transform beyond its other laws: what stands once and stays in both, stays
abbrev pub KeepsBoth : Type 0
KeepsBoth = (z e : Operation Tagged) (d : List Tagged) (t : Tag) → Fits z d → Fits e d → times t d ≤ 1 → Has t d → Has t (apply z d) → Has t (apply e d) → Has t (apply (first_after z e) (apply e d))

-- nothing waits in a buffer that is not there
abbrev pub IsBuffered : Phase → ℕ → Type 0
IsBuffered NotJoined n = Unit {0}
IsBuffered Synchronized n = Unit {0}
IsBuffered (AwaitingConfirm o) n = n ≡ 0
IsBuffered (AwaitingWithBuffer o b) n = Unit {0}

abbrev pub made_by : Ledger → ℕ → ℕ
made_by l c = get_or l.made c 0

-- how many edits a client has sent
abbrev pub sent_by : Ledger → ℕ → ℕ
sent_by l c = get_or l.made c 0 - get_or l.buffered c 0

-- a client that is not joined has made no edit
abbrev pub IsIdle : Ledger → ℕ → Client → Type 0
IsIdle l c x = is_joined x.phase ≡ false → made_by l c ≡ 0

-- the ledger's counts, where these events have been
pub record IsCounted (past : List EventView) (s : State) (l : Ledger) : Type 0 where
  pub made_size : length l.made ≡ length s.clients
  pub buffered_size : length l.buffered ≡ length s.clients
  pub made : (r : ℕ) → made_by l r ≡ length (edits_of r past)
  pub makers : map (λ h. h.maker) s.log ≡ map (λ m. m.maker) l.entries
  pub rising : (q i j : ℕ) → i ≤ j → logged l.entries i q ≤ logged l.entries j q
  pub sent : (q : ℕ) → counted q 0 l.entries ≤ sent_by l q
  pub waits : (c : ℕ) (x : Client) → slice_get s.clients c ≡ Some x → IsBuffered x.phase (get_or l.buffered c 0)
  pub idle : (c : ℕ) (x : Client) → slice_get s.clients c ≡ Some x → IsIdle l c x

-- what client c has seen
abbrev pub sees : Ledger → ℕ → Client → ℕ → ℕ
sees l c x = with_own c (made_by l c) (logged l.entries x.revision)

-- what was seen, is seen by whoever sees the edit, and by the same replica later on: of the first n events
pub record IsVisible (trace : List EventView) (n : ℕ) (s : State) (l : Ledger) : Type 0 where
  pub log : (j r k q : ℕ) (d : EventView) → k < logged l.entries j r → slice_get (edits_of r trace) k ≡ Some d → get_or d.seen q 0 ≤ logged l.entries j q
  pub own : (c k : ℕ) (x : Client) (d : EventView) → slice_get s.clients c ≡ Some x → k < made_by l c → slice_get (edits_of c trace) k ≡ Some d → (get_or d.seen c 0 ≡ k) × ((q : ℕ) → q ≢ c → get_or d.seen q 0 ≤ logged l.entries x.revision q)
  pub later : (c p q : ℕ) (x : Client) (d : EventView) → slice_get s.clients c ≡ Some x → p < n → slice_get trace p ≡ Some d → d.replica ≡ c → get_or d.seen q 0 ≤ sees l c x q
  pub server : (p q : ℕ) (d : EventView) → p < n → slice_get trace p ≡ Some d → d.replica ≡ length s.clients → get_or d.seen q 0 ≤ counted q 0 l.entries

-- what a client's outstanding operation makes of the document that it has seen
abbrev pub HoldsFirst : List Tagged → List EventView → (ℕ → ℕ) → List Tagged → Phase → Type 0
HoldsFirst start trace f d NotJoined = Unit {0}
HoldsFirst start trace f d Synchronized = Unit {0}
HoldsFirst start trace f d (AwaitingConfirm o) = Unit {0}
HoldsFirst start trace f d (AwaitingWithBuffer o b) = Holds (tags start) trace f (apply o d)

pub record IsContent (start : List Tagged) (trace : List EventView) (s : State) (l : Ledger) : Type 0 where
  pub own : (r k : ℕ) (t : Tag) → k < made_by l r → Inserts trace r k t → IsOwnTag s r t
  pub causal : (r k : ℕ) (d : EventView) (t : Tag) → k < made_by l r → slice_get (edits_of r trace) k ≡ Some d → In t d.deleted → IsInserted (tags start) trace (λ q. get_or d.seen q 0) t
  pub documents : (j : ℕ) → j ≤ length s.log → Holds (tags start) trace (logged l.entries j) (apply_entries start (take j s.log))
  pub lists : (c : ℕ) (x : Client) → slice_get s.clients c ≡ Some x → is_joined x.phase ≡ true → Holds (tags start) trace (sees l c x) x.list
  pub firsts : (c : ℕ) (x : Client) → slice_get s.clients c ≡ Some x → HoldsFirst start trace (with_own c (sent_by l c) (logged l.entries x.revision)) (apply_entries start (take x.revision s.log)) x.phase
