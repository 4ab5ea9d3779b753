-- The judge's form of the weak list property follows from the other.
use Rattle.std.proofs.Common.{◌≡◌, ℕ, zero, suc, ◌+◌, ◌<◌, ◌≤◌, List, [], ◌∷◌, ◌++◌, length, take, map, get_or, refl, sym, ap, ◌∙◌, subst, arith, inl, inr, Some, Bool, true, false, cond}
use Rattle.std.proofs.lemmas.Bool.{cases_eq, cases_lt, eqb-true, eq-eqb, and_from, and_parts, ltb-true, lt-ltb, cond-true, cond-false}
use Rattle.std.proofs.lemmas.Option.{slice_get_within, same_Some, get_or_from_slice_get, slice_get-get_or}
use Rattle.std.proofs.lemmas.List.Sums.{sum_by-cons}
use Rattle.std.specs.Prelude.{◌⊎◌, slice_get, ◌==◌, ◌&&◌, ◌||◌, nat_lt, not, if◌then◌else◌, count_by}
use Rattle.std.specs.List.{flat_map, range_with_len}
use Rattle.ot_isa.specs.declared.elements.Tag.{Tag}
use Rattle.ot_model.specs.Trace.{EventView, same_tag}
use Rattle.ot_model.specs.declared.trace.Placed.{Placed}
use Rattle.ot_model.proofs.Traces.{In, Stands, edits_of, Sees, KnowsInsert, IsWeakList, IsShapedTrace}
use Rattle.ot_model.specs.Trace.{contains, occurrences, inserted_tags, no_event, event_at}
use Rattle.ot_model.specs.Visibility.{is_edit_of, edits_before, seen_of, sees, SeesRightly}
use Rattle.ot_model.specs.WeakList.{knows, from_known, known_insertions, known_deletions, required, EventHolds, IsBefore, nth, lists, WeakListProperty}
use Rattle.ot_model.proofs.Bridging.{same_yes, same_is, contains_in, in_contains, In_at, in_filter, filter_in}

event_is : (events : List EventView) (p : ℕ) (e : EventView) → slice_get events p ≡ Some e → event_at events p ≡ e
event_is events p e at = get_or_from_slice_get events p e no_event at

seen_is : (x : EventView) (r : ℕ) → seen_of x r ≡ get_or x.seen r 0
seen_is x r = refl

-- the edits of a replica, counted
and_other : (a b : Bool) → (a && b) ≡ (b && a)
and_other true true = refl
and_other true false = refl
and_other false true = refl
and_other false false = refl

count_is : (r : ℕ) (xs : List EventView) → count_by (is_edit_of r) xs ≡ length (edits_of r xs)
count_is r [] = refl
count_is r (x ∷ xs) =
    let rest = count_is r xs in
    let head = sum_by-cons (λ y. cond (is_edit_of r y) 1 0) x xs in
    let is : ◌≡◌ {A = ℕ} (cond (is_edit_of r x) 1 0) (cond ((x.replica == r) && x.edit) 1 0) = ap (λ (b : Bool). cond b 1 0) (and_other x.edit (x.replica == r)) in
    go ((x.replica == r) && x.edit) is rest head
  where
    go : (b : Bool) → ◌≡◌ {A = ℕ} (cond (is_edit_of r x) 1 0) (cond b 1 0) → count_by (is_edit_of r) xs ≡ length (edits_of r xs) → count_by (is_edit_of r) (x ∷ xs) ≡ cond (is_edit_of r x) 1 0 + count_by (is_edit_of r) xs → count_by (is_edit_of r) (x ∷ xs) ≡ length (if b then x ∷ edits_of r xs else edits_of r xs)
    go true is rest head = omega arith
    go false is rest head = omega arith

-- an edit stands among its replica's edits behind those before it
edit_at : (xs : List EventView) (p r : ℕ) (e : EventView) → slice_get xs p ≡ Some e → e.replica ≡ r → e.edit ≡ true → slice_get (edits_of r xs) (length (edits_of r (take p xs))) ≡ Some e
edit_at [] p r e at own is = absurd (cc)
edit_at (x ∷ xs) zero r e at own is =
    let same : x ≡ e = same_Some x e at in
    ap (λ (ys : List EventView). slice_get ys 0) (cond-true ((x.replica == r) && x.edit) (x ∷ edits_of r xs) (edits_of r xs) (and_from _ _ (eq-eqb x.replica r (ap (λ (f : EventView). f.replica) same ∙ own)) (ap (λ (f : EventView). f.edit) same ∙ is))) ∙ ap Some same
edit_at (x ∷ xs) (suc p) r e at own is = go ((x.replica == r) && x.edit) (edit_at xs p r e at own is)
  where
    go : (b : Bool) → slice_get (edits_of r xs) (length (edits_of r (take p xs))) ≡ Some e → slice_get (if b then x ∷ edits_of r xs else edits_of r xs) (length (if b then x ∷ edits_of r (take p xs) else edits_of r (take p xs))) ≡ Some e
    go true h = h
    go false h = h

pub record Position (xs : List EventView) (r k : ℕ) (e : EventView) : Type 0 where
  pub place : ℕ
  pub at : slice_get xs place ≡ Some e
  pub count : length (edits_of r (take place xs)) ≡ k
  pub own : e.replica ≡ r
  pub is : e.edit ≡ true

edit_place : (xs : List EventView) (r k : ℕ) (e : EventView) → slice_get (edits_of r xs) k ≡ Some e → Position xs r k e
edit_place [] r k e at = absurd (cc)
edit_place (x ∷ xs) r k e at = go ((x.replica == r) && x.edit) refl k at (λ j h. edit_place xs r j e h)
  where
    go : (b : Bool) → ((x.replica == r) && x.edit) ≡ b → (k : ℕ) → slice_get (if b then x ∷ edits_of r xs else edits_of r xs) k ≡ Some e → ((j : ℕ) → slice_get (edits_of r xs) j ≡ Some e → Position xs r j e) → Position (x ∷ xs) r k e
    go true b zero at rest =
        let same : x ≡ e = same_Some x e at in
        let parts = and_parts (x.replica == r) x.edit b in
        record { place = 0; at = ap Some same; count = refl; own = ap (λ (f : EventView). f.replica) (sym same) ∙ eqb-true x.replica r parts.0; is = ap (λ (f : EventView). f.edit) (sym same) ∙ parts.1 }
    go true b (suc k) at rest =
        let found = rest k at in
        record { place = suc found.place; at = found.at; count = ap length (cond-true ((x.replica == r) && x.edit) (x ∷ edits_of r (take found.place xs)) (edits_of r (take found.place xs)) b) ∙ ap suc found.count; own = found.own; is = found.is }
    go false b k at rest =
        let found = rest k at in
        record { place = suc found.place; at = found.at; count = ap length (cond-false ((x.replica == r) && x.edit) (x ∷ edits_of r (take found.place xs)) (edits_of r (take found.place xs)) b) ∙ found.count; own = found.own; is = found.is }

-- two places of one replica's edits with as many before are one
count_rises : (xs : List EventView) (p q r : ℕ) (e : EventView) → slice_get xs p ≡ Some e → e.replica ≡ r → e.edit ≡ true → p < q → length (edits_of r (take p xs)) < length (edits_of r (take q xs))
count_rises [] p q r e at own is below = absurd (cc)
count_rises (x ∷ xs) p zero r e at own is below = absurd (omega arith)
count_rises (x ∷ xs) zero (suc q) r e at own is below =
    let same : x ≡ e = same_Some x e at in
    let more = ap length (cond-true ((x.replica == r) && x.edit) (x ∷ edits_of r (take q xs)) (edits_of r (take q xs)) (and_from _ _ (eq-eqb x.replica r (ap (λ (f : EventView). f.replica) same ∙ own)) (ap (λ (f : EventView). f.edit) same ∙ is))) in
    omega arith
count_rises (x ∷ xs) (suc p) (suc q) r e at own is below = go ((x.replica == r) && x.edit) (count_rises xs p q r e at own is (omega arith))
  where
    go : (b : Bool) → length (edits_of r (take p xs)) < length (edits_of r (take q xs)) → length (if b then x ∷ edits_of r (take p xs) else edits_of r (take p xs)) < length (if b then x ∷ edits_of r (take q xs) else edits_of r (take q xs))
    go true h = omega arith
    go false h = h

-- an event sees another by its place
sees_from : (events : List EventView) (p d : ℕ) (e f : EventView) → slice_get events p ≡ Some e → slice_get events d ≡ Some f → sees events p d ≡ true → (f.edit ≡ true) × (length (edits_of f.replica (take d events)) < get_or e.seen f.replica 0)
sees_from events p d e f at at' h =
    let one = event_is events p e at in
    let two = event_is events d f at' in
    let low : (f.edit && nat_lt (edits_before events d f.replica) (seen_of e f.replica)) ≡ true = subst (λ (x : EventView). (f.edit && nat_lt (edits_before events d f.replica) (seen_of x f.replica)) ≡ true) one (subst (λ (y : EventView). (y.edit && nat_lt (edits_before events d y.replica) (seen_of (event_at events p) y.replica)) ≡ true) two h) in
    let parts = and_parts f.edit (nat_lt (edits_before events d f.replica) (seen_of e f.replica)) low in
    let below = ltb-true (edits_before events d f.replica) (seen_of e f.replica) parts.1 in
    let count = count_is f.replica (take d events) in
    (parts.0, omega arith)

sees_to : (events : List EventView) (p d : ℕ) (e f : EventView) → slice_get events p ≡ Some e → slice_get events d ≡ Some f → f.edit ≡ true → length (edits_of f.replica (take d events)) < get_or e.seen f.replica 0 → sees events p d ≡ true
sees_to events p d e f at at' is below =
    let one = event_is events p e at in
    let two = event_is events d f at' in
    let count = count_is f.replica (take d events) in
    let test : nat_lt (edits_before events d f.replica) (seen_of e f.replica) ≡ true = lt-ltb (edits_before events d f.replica) (seen_of e f.replica) (omega arith) in
    subst (λ (y : EventView). (y.edit && nat_lt (edits_before events d y.replica) (seen_of (event_at events p) y.replica)) ≡ true) (sym two)
    (subst (λ (x : EventView). (f.edit && nat_lt (edits_before events d f.replica) (seen_of x f.replica)) ≡ true) (sym one) (and_from _ _ is test))

-- how often a tag stands in a list
count_in : (t : Tag) (xs : List Tag) → In t xs → 1 ≤ occurrences t xs
count_in t [] h = absurd h
count_in t (x ∷ xs) (inl here) =
    let sum = sum_by-cons (λ y. cond (same_tag t y) 1 0) x xs in
    let one : ◌≡◌ {A = ℕ} (cond (same_tag t x) 1 0) 1 = cond-true (same_tag t x) 1 0 (same_yes t x (sym here)) in
    omega arith
count_in t (x ∷ xs) (inr there) = let sum = sum_by-cons (λ y. cond (same_tag t y) 1 0) x xs in let rest = count_in t xs there in omega arith

count_none : (t : Tag) (xs : List Tag) → (In t xs → ⊥) → occurrences t xs ≡ 0
count_none t [] none = refl
count_none t (x ∷ xs) none = go (same_tag t x) refl (count_none t xs (λ h. none (inr h))) (sum_by-cons (λ y. cond (same_tag t y) 1 0) x xs)
  where
    go : (b : Bool) → same_tag t x ≡ b → occurrences t xs ≡ 0 → occurrences t (x ∷ xs) ≡ cond b 1 0 + occurrences t xs → occurrences t (x ∷ xs) ≡ 0
    go true e rest sum = absurd (none (inl (sym (same_is t x e))))
    go false e rest sum = omega arith

in_place : (t : Tag) (xs : List Tag) → In t xs → (i : ℕ) × (slice_get xs i ≡ Some t)
in_place t [] h = absurd h
in_place t (x ∷ xs) (inl here) = (0, ap Some here)
in_place t (x ∷ xs) (inr there) = let rest = in_place t xs there in (suc rest.0, rest.1)

count_once : (t : Tag) (xs : List Tag) → ((i j : ℕ) → slice_get xs i ≡ Some t → slice_get xs j ≡ Some t → i ≡ j) → occurrences t xs ≤ 1
count_once t [] once = omega arith
count_once t (x ∷ xs) once = go (same_tag t x) refl (count_once t xs (λ i j e f. let same : suc i ≡ suc j = once (suc i) (suc j) e f in omega arith)) (sum_by-cons (λ y. cond (same_tag t y) 1 0) x xs)
  where
    go : (b : Bool) → same_tag t x ≡ b → occurrences t xs ≤ 1 → occurrences t (x ∷ xs) ≡ cond b 1 0 + occurrences t xs → occurrences t (x ∷ xs) ≤ 1
    go true e rest sum = let none = count_none t xs (λ h. let found = in_place t xs h in let same : 0 ≡ suc found.0 = once 0 (suc found.0) (ap Some (sym (same_is t x e))) found.1 in absurd (omega arith)) in omega arith
    go false e rest sum = omega arith

pub In_append : (t : Tag) (xs ys : List Tag) → In t (xs ++ ys) → In t xs ⊎ In t ys
In_append t [] ys h = inr h
In_append t (x ∷ xs) ys (inl here) = inl (inl here)
In_append t (x ∷ xs) ys (inr there) = elim (In_append t xs ys there) [ inl a ↦ inl (inr a) | inr b ↦ inr b ]

In_left : (t : Tag) (xs ys : List Tag) → In t xs → In t (xs ++ ys)
In_left t [] ys h = absurd h
In_left t (x ∷ xs) ys (inl here) = inl here
In_left t (x ∷ xs) ys (inr there) = inr (In_left t xs ys there)

In_right : (t : Tag) (xs ys : List Tag) → In t ys → In t (xs ++ ys)
In_right t [] ys h = h
In_right t (x ∷ xs) ys h = inr (In_right t xs ys h)

flat_from : (t : Tag) (F : ℕ → List Tag) (a n : ℕ) → In t (flat_map F (range_with_len a n)) → (d : ℕ) × (a ≤ d) × (d < a + n) × In t (F d)
flat_from t F a zero h = absurd h
flat_from t F a (suc n) h = elim (In_append t (F a) (flat_map F (range_with_len (a + 1) n)) h) [
  | inl here ↦ (a, omega arith, omega arith, here)
  | inr there ↦ let rest = flat_from t F (a + 1) n there in let low = rest.1 in let high = rest.2 in (rest.0, omega arith, omega arith, rest.3)
]

flat_to : (t : Tag) (F : ℕ → List Tag) (a n d : ℕ) → a ≤ d → d < a + n → In t (F d) → In t (flat_map F (range_with_len a n))
flat_to t F a zero d low high h = absurd (omega arith)
flat_to t F a (suc n) d low high h = elim (cases_eq d a) [
  | inl same ↦ In_left t (F a) (flat_map F (range_with_len (a + 1) n)) (subst (λ (k : ℕ). In t (F k)) same h)
  | inr other ↦ In_right t (F a) (flat_map F (range_with_len (a + 1) n)) (flat_to t F (a + 1) n d (omega arith) (omega arith) h)
]

or_parts : (a b : Bool) → (a || b) ≡ true → (a ≡ true) ⊎ (b ≡ true)
or_parts true b e = inl refl
or_parts false b e = inr e

or_left : (a b : Bool) → a ≡ true → (a || b) ≡ true
or_left true b e = refl
or_left false b e = absurd (cc)

or_right : (a b : Bool) → b ≡ true → (a || b) ≡ true
or_right true b e = refl
or_right false b e = e

if_in : (t : Tag) (b : Bool) (xs : List Tag) → In t (if b then xs else []) → (b ≡ true) × In t xs
if_in t true xs h = (refl, h)
if_in t false xs h = absurd h

in_if : (t : Tag) (b : Bool) (xs : List Tag) → b ≡ true → In t xs → In t (if b then xs else [])
in_if t true xs e h = h
in_if t false xs e h = absurd (cc)

is_true : (b : Bool) → (b ≡ false → ⊥) → b ≡ true
is_true true no_other = refl
is_true false no_other = absurd (no_other refl)

-- what the edits known at an event give, by their places and by their numbers
abbrev Gives : List EventView → (EventView → List Tag) → ℕ → ℕ → Tag → Type 0
Gives events part r k t = (f : EventView) × (slice_get (edits_of r events) k ≡ Some f) × In t (part f)

module _ (events : List EventView) (part : EventView → List Tag) (reads : (p : ℕ) (f : EventView) → slice_get events p ≡ Some f → f.edit ≡ false → part f ≡ []) where
  known_from : (p : ℕ) (e : EventView) (t : Tag) → slice_get events p ≡ Some e → In t (from_known events p part) → (r : ℕ) × (k : ℕ) × Sees events p r k × Gives events part r k t
  known_from p e t at h =
      let found = flat_from t (λ d. if knows events p d then part (event_at events d) else []) 0 (length events) h in
      let d = found.0 in
      let high = found.2 in
      let f = event_at events d in
      let at' : slice_get events d ≡ Some f = slice_get-get_or events d no_event (omega arith) in
      let given = if_in t (knows events p d) (part (event_at events d)) found.3 in
      let edit : f.edit ≡ true = is_true f.edit (λ is. subst (In t) (reads d f at' is) given.1) in
      let number = edit_at events d f.replica f at' refl edit in (
        f.replica,
        length (edits_of f.replica (take d events)),
        (
          e,
          at,
          elim (or_parts (d == p) (sees events p d) given.0) [
            | inl same ↦
                let here : d ≡ p = eqb-true d p same in
                let is : f ≡ e = same_Some f e (sym at' ∙ ap (slice_get events) here ∙ at) in
                inr (ap (λ (x : EventView). x.replica) (sym is), ap (λ (x : EventView). x.edit) (sym is) ∙ edit, ap (λ (k : ℕ). length (edits_of f.replica (take k events))) here)
            | inr seen ↦ inl (sees_from events p d e f at at' seen).1
          ],
        ),
        (f, number, given.1),
      )

  known_to : (p : ℕ) (e : EventView) (t : Tag) → slice_get events p ≡ Some e → (r : ℕ) × (k : ℕ) × Sees events p r k × Gives events part r k t → In t (from_known events p part)
  known_to p e t at (r, k, (e', at_e, how), (f, number, given)) =
      let found = edit_place events r k f number in
      let d = found.place in
      let inside = slice_get_within events d f found.at in
      let same : e' ≡ e = same_Some e' e (sym at_e ∙ at) in
      let count : length (edits_of f.replica (take d events)) ≡ k = ap (λ (q : ℕ). length (edits_of q (take d events))) found.own ∙ found.count in
      let known : knows events p d ≡ true = elim how [
        | inl low ↦
            let a = ap (λ (q : ℕ). get_or e.seen q 0) found.own in
            let b = ap (λ (x : EventView). get_or x.seen r 0) same in
            or_right (d == p) (sees events p d) (sees_to events p d e f at found.at found.is (omega arith))
        | inr own ↦
            let is_own : e.replica ≡ r = ap (λ (x : EventView). x.replica) (sym same) ∙ own.0 in
            let is_edit : e.edit ≡ true = ap (λ (x : EventView). x.edit) (sym same) ∙ own.1 in
            let here : d ≡ p = elim (cases_lt d p) [
              | inl below ↦ let more = count_rises events d p r f found.at found.own found.is below in let a = found.count in let b = own.2 in absurd (omega arith)
              | inr above ↦ elim (cases_eq d p) [
                | inl is ↦ is
                | inr other ↦ let more = count_rises events p d r e at is_own is_edit (omega arith) in let a = found.count in let b = own.2 in absurd (omega arith)
              ]
            ] in
            or_left (d == p) (sees events p d) (eq-eqb d p here)
      ] in
      flat_to t (λ i. if knows events p i then part (event_at events i) else []) 0 (length events) d (omega arith) (omega arith)
      (in_if t (knows events p d) (part (event_at events d)) known (subst (λ (x : EventView). In t (part x)) (sym (event_is events d f found.at)) given))

stands_at : (a b : Tag) (xs : List Tag) (i j : ℕ) → i < j → slice_get xs i ≡ Some a → slice_get xs j ≡ Some b → Stands a b xs
stands_at a b [] i j below e f = absurd (cc)
stands_at a b (u ∷ xs) i zero below e f = absurd (omega arith)
stands_at a b (u ∷ xs) zero (suc j) below e f = inl (same_Some u a e, In_at b xs j f)
stands_at a b (u ∷ xs) (suc i) (suc j) below e f = inr (stands_at a b xs i j (omega arith) e f)

pub before_stands : (a b : Tag) (xs : List Tag) → IsBefore xs a b → Stands a b xs
before_stands a b xs before =
    let low = before.order in
    let high = before.within in
    stands_at a b xs before.first before.second low
    (slice_get-get_or xs before.first a (omega arith) ∙ ap Some before.here)
    (slice_get-get_or xs before.second b high ∙ ap Some before.there)

list_is : (events : List EventView) (p : ℕ) (d : List Tag) → p < length events → (e : EventView) × (slice_get events p ≡ Some e) × (get_or (map (λ (x : EventView). x.list) events) p d ≡ e.list)
list_is [] p d below = absurd (omega arith)
list_is (x ∷ events) zero d below = (x, refl, refl)
list_is (x ∷ events) (suc p) d below = list_is events p d (omega arith)

list_past : (events : List EventView) (p : ℕ) → length events ≤ p → get_or (map (λ (x : EventView). x.list) events) p [] ≡ []
list_past [] p le = refl
list_past (x ∷ events) zero le = absurd (omega arith)
list_past (x ∷ events) (suc p) le = list_past events p (omega arith)

-- a list in which something stands is an event's
list_of_event : (events : List EventView) (p : ℕ) (a b : Tag) → Stands a b (nth (lists events) p) → (e : EventView) × (slice_get events p ≡ Some e) × (nth (lists events) p ≡ e.list)
list_of_event events p a b h = elim (cases_lt p (length events)) [
  | inl below ↦ list_is events p [] below
  | inr far ↦ absurd (subst (Stands a b) (list_past events p far) h)
]

module _ (replicas : ℕ) (start : List Tag) (events : List EventView) (weak : IsWeakList start events) (shape : IsShapedTrace replicas start events) where
  no_inserts : (p : ℕ) (f : EventView) → slice_get events p ≡ Some f → f.edit ≡ false → inserted_tags f ≡ []
  no_inserts p f at is = ap (map (λ (i : Placed). i.tag)) (shape.reads p f at is).0

  no_deletes : (p : ℕ) (f : EventView) → slice_get events p ≡ Some f → f.edit ≡ false → f.deleted ≡ []
  no_deletes p f at is = (shape.reads p f at is).1

  sees_rightly : (p : ℕ) (e : EventView) → slice_get events p ≡ Some e → SeesRightly events p
  sees_rightly p e at =
      let one = event_is events p e at in
      record {
        own = subst (λ (x : EventView). seen_of x x.replica ≡ edits_before events p x.replica) (sym one) (weak.visible.own p e at ∙ sym (count_is e.replica (take p events)));
        past = λ r. subst (λ (x : EventView). seen_of x r ≤ edits_before events p r) (sym one) (let le = weak.visible.past p e r at in let count = count_is r (take p events) in omega arith);
        closed = λ d below follow r.
            let f = event_at events d in
            let inside = slice_get_within events p e at in
            let at' : slice_get events d ≡ Some f = slice_get-get_or events d no_event (omega arith) in
            let follow' : (sees events p d || (f.replica == e.replica)) ≡ true = subst (λ (x : EventView). (sees events p d || (f.replica == x.replica)) ≡ true) one follow in
            subst (λ (x : EventView). seen_of f r ≤ seen_of x r) (sym one) (elim (or_parts (sees events p d) (f.replica == e.replica) follow') [
              | inl seen ↦
                  let known = sees_from events p d e f at at' seen in
                  weak.visible.closed p e f f.replica (length (edits_of f.replica (take d events))) r at known.1 (edit_at events d f.replica f at' refl known.0)
              | inr same ↦ weak.visible.later p d e f r at at' below (eqb-true f.replica e.replica same)
            ]);
      }

  list_required : (p : ℕ) (e : EventView) (t : Tag) → slice_get events p ≡ Some e → In t e.list → In t (required start events p)
  list_required p e t at h =
      let both = (weak.holds p e t at).0 h in
      let insertion : In t (known_insertions start events p) = elim both.0 [
        | inl first ↦ In_left t start (from_known events p inserted_tags) first
        | inr by ↦ In_right t start (from_known events p inserted_tags) (known_to events inserted_tags no_inserts p e t at by)
      ] in
      in_filter (λ a. not (contains (known_deletions events p) a)) t (known_insertions start events p) insertion
      (go (contains (known_deletions events p) t) (λ is. both.1 (known_from events (λ x. x.deleted) no_deletes p e t at (contains_in (known_deletions events p) t is))))
    where
      go : (b : Bool) → (b ≡ true → ⊥) → not b ≡ true
      go true none = absurd (none refl)
      go false none = refl

  required_list : (p : ℕ) (e : EventView) (t : Tag) → slice_get events p ≡ Some e → In t (required start events p) → In t e.list
  required_list p e t at h =
      let parts = filter_in (λ a. not (contains (known_deletions events p) a)) t (known_insertions start events p) h in
      let insertion : KnowsInsert start events p t = elim (In_append t start (from_known events p inserted_tags) parts.0) [
        | inl first ↦ inl first
        | inr by ↦ inr (known_from events inserted_tags no_inserts p e t at by)
      ] in
      (weak.holds p e t at).1 (insertion, λ goes. no_both (contains (known_deletions events p) t) (in_contains (known_deletions events p) t (known_to events (λ x. x.deleted) no_deletes p e t at goes)) parts.1)
    where
      no_both : (b : Bool) → b ≡ true → not b ≡ true → ⊥
      no_both true e f = absurd (cc)
      no_both false e f = absurd (cc)

  contents_of : (p : ℕ) (e : EventView) (t : Tag) → slice_get events p ≡ Some e → occurrences t e.list ≡ (if contains (required start events p) t then 1 else 0)
  contents_of p e t at = go (contains (required start events p) t) refl
    where
      go : (b : Bool) → contains (required start events p) t ≡ b → occurrences t e.list ≡ (if b then 1 else 0)
      go true is =
          let one = count_in t e.list (required_list p e t at (contains_in (required start events p) t is)) in
          let most = count_once t e.list (λ i j h k. weak.listed.once p e i j t at h k) in
          omega arith
      go false is = count_none t e.list (λ h. let wrong : true ≡ false = sym (in_contains (required start events p) t (list_required p e t at h)) ∙ is in absurd (cc))

  event_holds : (p : ℕ) → p < length events → EventHolds start events p
  event_holds p below =
      let e = event_at events p in
      let at : slice_get events p ≡ Some e = slice_get-get_or events p no_event below in
      record {
        visibility = sees_rightly p e at;
        contents = λ a. contents_of p e a at;
        places = λ k d low. weak.listed.places p e k _ at (slice_get-get_or e.inserted k d low);
      }

  -- so a judge of these definitions answers that the property holds
  pub judged : WeakListProperty (record { replicas = replicas; start = start; events = events })
  judged =
      record {
        events = event_holds;
        one_order = λ d e a b reversed.
            let h = before_stands a b (nth (lists events) d) reversed.forth in
            let k = before_stands b a (nth (lists events) e) reversed.back in
            let x = list_of_event events d a b h in
            let y = list_of_event events e b a k in
            weak.listed.order d e x.0 y.0 a b x.1 y.1 (subst (Stands a b) x.2 h) (subst (Stands b a) y.2 k);
      }
