-- The trace of a run inserts no tag twice, and has one count for each replica.
use Rattle.std.proofs.Common.{◌≡◌, ℕ, zero, suc, ◌+◌, ◌<◌, List, [], ◌∷◌, length, map, refl, sym, ap, ◌∙◌, arith, inl, inr, Some, Bool, true, false}
use Rattle.std.proofs.lemmas.Bool.{eq-eqb, cond-true}
use Rattle.std.proofs.lemmas.Option.{same_Some}
use Rattle.std.specs.Prelude.{slice_get, ◌==◌, ◌&&◌, if◌then◌else◌}
use Rattle.ot_model.specs.Operation.{Item, Old, New}
use Rattle.ot_isa.specs.declared.elements.Tag.{Tag}
use Rattle.ot_isa.specs.Tagging.{tagged_items, tagged_chars}
use Rattle.ot_model.specs.Trace.{EventView}
use Rattle.ot_model.specs.declared.trace.Placed.{Placed}
use Rattle.ot_model.specs.Events.{Count, tags, insertions_from, seen_from}
use Rattle.ot_model.proofs.Traces.{In, edits_of}

-- the shape at one event
pub record IsShaped (replicas : ℕ) (start : List Tag) (trace : List EventView) (p : ℕ) (e : EventView) : Type 0 where
  pub replica : e.replica < replicas
  pub size : length e.seen ≡ replicas
  pub reads : e.edit ≡ false → (e.inserted ≡ []) × (e.deleted ≡ [])
  pub fresh : (t : Tag) → In t (map (λ i. i.tag) e.inserted) → In t start → ⊥
  pub apart : (o : ℕ) (d : EventView) (t : Tag) → o < p → slice_get trace o ≡ Some d → d.edit ≡ true → In t (map (λ i. i.tag) d.inserted) → In t (map (λ i. i.tag) e.inserted) → ⊥
  pub once : (i j : ℕ) (m n : Placed) → slice_get e.inserted i ≡ Some m → slice_get e.inserted j ≡ Some n → m.tag ≡ n.tag → i ≡ j

pub seen_size : (reader own d n : ℕ) (entries : List Count) → length (seen_from reader own d n entries) ≡ n
seen_size reader own d zero entries = refl
seen_size reader own d (suc n) entries = ap suc (seen_size reader own (suc d) n entries)

pub insertion_in : (xs : List Placed) (i : ℕ) (n : Placed) → slice_get xs i ≡ Some n → In n.tag (map (λ i. i.tag) xs)
insertion_in [] i n e = absurd (cc)
insertion_in (m ∷ xs) zero n e = inl (ap (λ (k : Placed). k.tag) (same_Some m n e))
insertion_in (m ∷ xs) (suc i) n e = inr (insertion_in xs i n e)

-- the i-th insertion has the i-th serial
serial_at : (c k p : ℕ) (items : List (Item ℕ)) (i : ℕ) (n : Placed) → slice_get (insertions_from p (tagged_items c k items)) i ≡ Some n → (n.tag).serial ≡ k + i
serial_at c k p [] i n e = absurd (cc)
serial_at c k p (Old j ∷ items) i n e = serial_at c k (suc p) items i n e
serial_at c k p (New ch ∷ items) zero n e = ap (λ (m : Placed). (m.tag).serial) (sym (same_Some _ n e)) ∙ omega arith
serial_at c k p (New ch ∷ items) (suc i) n e = let rest = serial_at c (suc k) (suc p) items i n e in omega arith

pub insertions_once : (c k p : ℕ) (items : List (Item ℕ)) (i j : ℕ) (m n : Placed) → slice_get (insertions_from p (tagged_items c k items)) i ≡ Some m → slice_get (insertions_from p (tagged_items c k items)) j ≡ Some n → m.tag ≡ n.tag → i ≡ j
insertions_once c k p items i j m n e f same =
    let a = serial_at c k p items i m e in
    let b = serial_at c k p items j n f in
    let s = ap (λ (t : Tag). t.serial) same in
    omega arith

pub start_serial : (k : ℕ) (text : List ℕ) (i : ℕ) (t : Tag) → slice_get (tags (tagged_chars 65535 k text)) i ≡ Some t → t.serial ≡ k + i
start_serial k [] i t e = absurd (cc)
start_serial k (ch ∷ text) zero t e = ap (λ (u : Tag). u.serial) (sym (same_Some _ t e)) ∙ omega arith
start_serial k (ch ∷ text) (suc i) t e = let rest = start_serial (suc k) text i t e in omega arith

-- an edit is one of its replica's edits
pub edit_index : (past : List EventView) (o : ℕ) (d : EventView) → slice_get past o ≡ Some d → d.edit ≡ true → (k : ℕ) × (slice_get (edits_of d.replica past) k ≡ Some d)
edit_index [] o d e is = absurd (cc)
edit_index (x ∷ past) zero d e is =
    let same : x ≡ d = same_Some x d e in
    (0, ap (λ (xs : List EventView). slice_get xs 0) (cond-true ((x.replica == d.replica) && x.edit) (x ∷ edits_of d.replica past) (edits_of d.replica past) (rw same (rw (eq-eqb d.replica d.replica refl, is) refl))) ∙ ap Some same)
edit_index (x ∷ past) (suc o) d e is = go ((x.replica == d.replica) && x.edit) (edit_index past o d e is)
  where
    go : (b : Bool) → (k : ℕ) × (slice_get (edits_of d.replica past) k ≡ Some d) → (k : ℕ) × (slice_get (if b then x ∷ edits_of d.replica past else edits_of d.replica past) k ≡ Some d)
    go true found = (suc found.0, found.1)
    go false found = found
