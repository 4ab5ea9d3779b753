-- What a trace's events see, know and hold, one by one: the form in which it is proved.
use Rattle.std.specs.Prelude.{◌≡◌, ℕ, ◌<◌, ◌≤◌, ◌⊎◌, ◌↔◌, List, [], ◌∷◌, length, map, take, get_or, filter, slice_get, ◌&&◌, ◌==◌, true, false, Some}
use Rattle.ot_isa.specs.declared.elements.Tag.{Tag}
use Rattle.ot_model.specs.declared.trace.Placed.{Placed}
use Rattle.ot_model.specs.Trace.{EventView}

-- the n-th edit of a replica
abbrev pub edits_of : ℕ → List EventView → List EventView
edits_of r trace = filter (λ e. (e.replica == r) && e.edit) trace

abbrev pub In : Tag → List Tag → Type 0
In t [] = ⊥
In t (u ∷ list) = (u ≡ t) ⊎ In t list

abbrev pub Stands : Tag → Tag → List Tag → Type 0
Stands a b [] = ⊥
Stands a b (u ∷ list) = ((u ≡ a) × In b list) ⊎ Stands a b list

-- event e sees edit k of replica r, or it is that edit itself: position is e's place in the trace
abbrev pub Sees : List EventView → ℕ → ℕ → ℕ → Type 0
Sees trace position r k =
    (e : EventView) × (slice_get trace position ≡ Some e) × (k < get_or e.seen r 0 ⊎ ((e.replica ≡ r) × (e.edit ≡ true) × (k ≡ length (edits_of r (take position trace)))))

abbrev pub Inserts : List EventView → ℕ → ℕ → Tag → Type 0
Inserts trace r k t = (e : EventView) × (slice_get (edits_of r trace) k ≡ Some e) × In t (map (λ i. i.tag) e.inserted)

abbrev pub Deletes : List EventView → ℕ → ℕ → Tag → Type 0
Deletes trace r k t = (e : EventView) × (slice_get (edits_of r trace) k ≡ Some e) × In t e.deleted

abbrev pub KnowsInsert : List Tag → List EventView → ℕ → Tag → Type 0
KnowsInsert start trace position t = In t start ⊎ ((r : ℕ) × (k : ℕ) × Sees trace position r k × Inserts trace r k t)

abbrev pub KnowsDelete : List EventView → ℕ → Tag → Type 0
KnowsDelete trace position t = (r : ℕ) × (k : ℕ) × Sees trace position r k × Deletes trace r k t

-- each event sees all its replica's earlier edits, the first ones of each other's, what these saw, and no less than before
pub record IsVisible (trace : List EventView) : Type 0 where
  pub own : (p : ℕ) (e : EventView) → slice_get trace p ≡ Some e → get_or e.seen e.replica 0 ≡ length (edits_of e.replica (take p trace))
  pub past : (p : ℕ) (e : EventView) (r : ℕ) → slice_get trace p ≡ Some e → get_or e.seen r 0 ≤ length (edits_of r (take p trace))
  pub closed : (p : ℕ) (e d : EventView) (r k q : ℕ) → slice_get trace p ≡ Some e → k < get_or e.seen r 0 → slice_get (edits_of r trace) k ≡ Some d → get_or d.seen q 0 ≤ get_or e.seen q 0
  pub later : (p o : ℕ) (e d : EventView) (q : ℕ) → slice_get trace p ≡ Some e → slice_get trace o ≡ Some d → o < p → d.replica ≡ e.replica → get_or d.seen q 0 ≤ get_or e.seen q 0

-- no list has an element twice, each inserted element stands at its place, and no two elements stand in two orders
pub record IsListed (trace : List EventView) : Type 0 where
  pub once : (p : ℕ) (e : EventView) (i j : ℕ) (t : Tag) → slice_get trace p ≡ Some e → slice_get e.list i ≡ Some t → slice_get e.list j ≡ Some t → i ≡ j
  pub places : (p : ℕ) (e : EventView) (i : ℕ) (n : Placed) → slice_get trace p ≡ Some e → slice_get e.inserted i ≡ Some n → slice_get e.list n.place ≡ Some n.tag
  pub order : (p q : ℕ) (e d : EventView) (a b : Tag) → slice_get trace p ≡ Some e → slice_get trace q ≡ Some d → Stands a b e.list → Stands b a d.list → ⊥

-- the weak list property
pub record IsWeakList (start : List Tag) (trace : List EventView) : Type 0 where
  pub visible : IsVisible trace
  pub listed : IsListed trace
  pub holds : (p : ℕ) (e : EventView) (t : Tag) → slice_get trace p ≡ Some e → In t e.list ↔ (KnowsInsert start trace p t × (KnowsDelete trace p t → ⊥))

-- what every trace is, of so many replicas
pub record IsShapedTrace (replicas : ℕ) (start : List Tag) (trace : List EventView) : Type 0 where
  pub replica : (p : ℕ) (e : EventView) → slice_get trace p ≡ Some e → e.replica < replicas
  pub size : (p : ℕ) (e : EventView) → slice_get trace p ≡ Some e → length e.seen ≡ replicas
  pub reads : (p : ℕ) (e : EventView) → slice_get trace p ≡ Some e → e.edit ≡ false → (e.inserted ≡ []) × (e.deleted ≡ [])
  pub start_once : (i j : ℕ) (t : Tag) → slice_get start i ≡ Some t → slice_get start j ≡ Some t → i ≡ j
  pub fresh : (p i : ℕ) (e : EventView) (n : Placed) → slice_get trace p ≡ Some e → slice_get e.inserted i ≡ Some n → In n.tag start → ⊥
  pub once : (p q i j : ℕ) (e d : EventView) (m n : Placed) → slice_get trace p ≡ Some e → slice_get trace q ≡ Some d → slice_get e.inserted i ≡ Some m → slice_get d.inserted j ≡ Some n → m.tag ≡ n.tag → (p ≡ q) × (i ≡ j)
