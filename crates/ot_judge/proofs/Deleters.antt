-- Elements and the events that delete them.
use Rattle.std.proofs.Common.{◌≡◌, ℕ, ◌+◌, ◌<◌, ◌≤◌, List, [], ◌∷◌, length, get_or, set, take, map, ap, sym, ◌∙◌, arith, Bool, true, false, inl, inr, ◌⊎◌, subst, refl, eq-eqb, suc, zero}
use Rattle.std.specs.Prelude.{Option, Some, None, All}
use Rattle.std.specs.List.{Contains, insert}
use Rattle.std.specs.HashMap.{HashMap, get}
use Rattle.std.proofs.lemmas.Bool.{and_from, and_parts, both_ways, cases_Bool, cases_eq, eqb-true, ltb-true, or_cases, or_left, or_right}
use Rattle.std.proofs.lemmas.List.{get_or_default, get_or-map, length-map, get_or-set_same, get_or-set_other, length-set, map-set, set-get_or, take_all}
use Rattle.std.proofs.lemmas.List.Elements.{All-weaker, Contains-append_right, Contains-get_or}
use Rattle.std.proofs.lemmas.List.Sorted.{Contains-permutation, IsPermutation-insert}
use Rattle.ot_isa.specs.declared.elements.Tag.{Tag}
use Rattle.ot_model.specs.Trace.{contains, event_at, EventView, same_tag}
use Rattle.ot_model.specs.Visibility.{edits_before, is_edit_of, seen_of, sees, SeesRightly}
use Rattle.ot_model.specs.WeakList.{knows, known_deletions}
use Rattle.ot_judge.specs.declared.elements.Element.{Element}
use Rattle.ot_judge.specs.Elements.{Covers, IsDeletedBy, IsElement, OfReplica}
use Rattle.ot_judge.specs.declared.trace.Event.{Event}
use Rattle.ot_judge.specs.Places.{IsIndex}
use Rattle.ot_judge.specs.Views.{views}
use Rattle.ot_judge.proofs.Views.{length-views}
use Rattle.ot_judge.specs.Turns.{ReadsOnly}
use Rattle.ot_judge.proofs.Counts.{edits-le, edits-past}
use Rattle.ot_judge.proofs.Newly.{known-in, known-out, knew-seen, reads-give}
use Rattle.ot_judge.proofs.TagLemmas.{contains-more, same_tag-refl, same_tag-true}

-- ---- of each replica the first deleter is enough

-- what knows an edit knows each earlier one of its replica
pub known-first : (events : List EventView) (e d k : ℕ) → e < length events → SeesRightly events e → (event_at events k).edit ≡ true → k ≤ d → (event_at events k).replica ≡ (event_at events d).replica → knows events e d ≡ true → knows events e k ≡ true
known-first events e d k within visible edit le same h = elim (or_cases _ (sees events e d) h) [
  | inl self ↦
      let here = eqb-true d e self in
      let r : ℕ = (event_at events e).replica in
      let at_e : (event_at events k).replica ≡ r = same ∙ ap (λ (i : ℕ). (event_at events i).replica) here in
      let is : is_edit_of r (event_at events k) ≡ true = and_from (event_at events k).edit _ edit (eq-eqb (event_at events k).replica r at_e) in
      elim (cases_eq k e) [
        | inl own ↦ or_left _ (sees events e k) (eq-eqb k e own)
        | inr apart ↦
            let lt : k < e = omega (arith, le, here, apart) in
            knew-seen events e k r is (omega (arith, edits-past events k e r lt (omega (arith, lt, within)) is, visible.own))
      ]
  | inr seen ↦
      let r : ℕ = (event_at events d).replica in
      let parts = and_parts (event_at events d).edit _ seen in
      let few = ltb-true (edits_before events d r) (seen_of (event_at events e) r) parts.1 in
      knew-seen events e k r (and_from (event_at events k).edit _ edit (eq-eqb (event_at events k).replica r same)) (omega (arith, few, edits-le events k d r le))
]

-- only an edit deletes
deletes-edit : (events : List EventView) (d : ℕ) (q : Tag) → All ReadsOnly events → contains (event_at events d).deleted q ≡ true → (event_at events d).edit ≡ true
deletes-edit events d q reads h = elim (cases_Bool (event_at events d).edit) [
  | inl edit ↦ edit
  | inr read ↦
      let none = reads-give events (λ x. x.deleted) (All-weaker ReadsOnly (λ x. x.edit ≡ false → x.deleted ≡ []) (λ x h. h.deletes) events reads) refl d read in
      absurd (both_ways false refl (sym (ap (λ (xs : List Tag). contains xs q) none) ∙ h))
]

pub gone-here : (events : List EventView) (e k : ℕ) (x : Element) → IsElement events (length events) x → IsDeletedBy x k → knows events e k ≡ true → true ≡ contains (known_deletions events e) x.tag
gone-here events e k x is noted knows = sym (known-in events e k (λ x. x.deleted) x.tag (is.within k noted) knows (is.deletes k noted))

pub gone-nowhere : (events : List EventView) (e : ℕ) (x : Element) → e < length events → All ReadsOnly events → IsElement events (length events) x → ((k : ℕ) → IsDeletedBy x k → knows events e k ≡ false) → SeesRightly events e → false ≡ contains (known_deletions events e) x.tag
gone-nowhere events e x within reads is none visible = elim (cases_Bool (contains (known_deletions events e) x.tag)) [
  | inl gone ↦
      let w = known-out events e (λ x. x.deleted) x.tag gone in
      let c = is.covers w.0 w.1 w.3 in
      let edit = deletes-edit events c.event x.tag reads (is.deletes c.event c.noted) in
      absurd (both_ways (knows events e c.event) (none c.event c.noted) (known-first events e w.0 c.event within visible edit c.no_later c.same w.2))
  | inr stays ↦ sym stays
]

-- ---- deleters that are noted

pub at-contains : (xs ys : List ℕ) (i : ℕ) → ys ≡ xs → i < length ys → Contains xs (get_or ys i 0)
at-contains xs ys i same lt = subst (λ (zs : List ℕ). Contains zs (get_or ys i 0)) same (Contains-get_or ys i 0 lt)

pub others-within : (x : Element) (ks : List ℕ) (n : ℕ) → ks ≡ x.others.items → ((k : ℕ) → IsDeletedBy x k → k < n) → All (λ (k : ℕ). k < n) ks
others-within x ks n same known i d lt = known (get_or ks i d) (inr (subst (λ (zs : List ℕ). Contains zs (get_or ks i d)) same (Contains-get_or ks i d lt)))

-- a deleter put among the others
pub insert-keeps : (xs ys : List ℕ) (i y k : ℕ) → ys ≡ insert xs i y → Contains xs k → Contains ys k
insert-keeps xs ys i y k is at = subst (λ (zs : List ℕ). Contains zs k) (sym is) (Contains-permutation (y ∷ xs) (insert xs i y) k (IsPermutation-insert xs i y) (Contains-append_right (y ∷ []) xs k at))

-- an element while what the event at d deletes is noted, up to this front of it
pub record IsPartly (events : List EventView) (d : ℕ) (front : List Tag) (x : Element) : Type 0 where
  pub within : (k : ℕ) → IsDeletedBy x k → k < d + 1
  pub deletes : (k : ℕ) → IsDeletedBy x k → contains (event_at events k).deleted x.tag ≡ true
  pub covers : (k : ℕ) → k < d → contains (event_at events k).deleted x.tag ≡ true → Covers events x k
  pub here : contains front x.tag ≡ true → Covers events x d

pub partly-start : (events : List EventView) (d : ℕ) (x : Element) → IsElement events d x → IsPartly events d [] x
partly-start events d x is = record {
  within = λ k noted. omega (arith, is.within k noted);
  deletes = is.deletes;
  covers = is.covers;
  here = λ h. absurd (both_ways false refl h);
}

pub partly-end : (events : List EventView) (d : ℕ) (x : Element) → IsPartly events d (event_at events d).deleted x → IsElement events (d + 1) x
partly-end events d x is = record {
  within = is.within;
  deletes = is.deletes;
  covers = λ k lt h. elim (cases_eq k d) [
    | inl same ↦ subst (λ (i : ℕ). Covers events x i) (sym same) (is.here (sym (ap (λ (i : ℕ). contains (event_at events i).deleted x.tag) same) ∙ h))
    | inr apart ↦ is.covers k (omega (arith, lt, apart)) h
  ];
}

-- another element than the one that is deleted next
pub partly-other : (events : List EventView) (d i : ℕ) (t : Tag) (tags : List Tag) (x : Element) → i < length tags → (x.tag ≡ get_or tags i t → ⊥) → IsPartly events d (take i tags) x → IsPartly events d (take (i + 1) tags) x
partly-other events d i t tags x lt apart is = record {
  within = is.within;
  deletes = is.deletes;
  covers = is.covers;
  here = λ h. elim (or_cases (contains (take i tags) x.tag) (same_tag x.tag (get_or tags i t)) (sym (contains-more tags x.tag i t lt) ∙ h)) [
    | inl early ↦ is.here early
    | inr met ↦ absurd (apart (same_tag-true x.tag (get_or tags i t) met))
  ];
}

-- the element that is deleted next
pub partly-noted : (events : List EventView) (d : ℕ) (front more : List Tag) (x y : Element) → contains (event_at events d).deleted x.tag ≡ true → y.tag ≡ x.tag → ((k : ℕ) → IsDeletedBy x k → IsDeletedBy y k) → ((k : ℕ) → IsDeletedBy y k → IsDeletedBy x k ⊎ (k ≡ d)) → OfReplica events y (event_at events d).replica
    → IsPartly events d front x → IsPartly events d more y
partly-noted events d front more x y deleted tag kept only of is = record {
  within = within;
  deletes = λ k noted. elim (only k noted) [
    | inl old ↦ ap (λ (q : Tag). contains (event_at events k).deleted q) tag ∙ is.deletes k old
    | inr own ↦ ap (λ (i : ℕ). contains (event_at events i).deleted y.tag) own ∙ ap (λ (q : Tag). contains (event_at events d).deleted q) tag ∙ deleted
  ];
  covers = λ k lt h.
      let c = is.covers k lt (sym (ap (λ (q : Tag). contains (event_at events k).deleted q) tag) ∙ h) in
      record { event = c.event; noted = kept c.event c.noted; no_later = c.no_later; same = c.same };
  here = λ h. record { event = of.event; noted = of.noted; no_later = omega (arith, within of.event of.noted); same = of.same };
} where
  within : (k : ℕ) → IsDeletedBy y k → k < d + 1
  within k noted = elim (only k noted) [
    | inl old ↦ is.within k old
    | inr own ↦ omega (arith, own)
  ]

pub is-element : (events : List Event) (x : Element) → IsElement (views events) (length events) x → IsElement (views events) (length (views events)) x
is-element events x is = subst (λ (n : ℕ). IsElement (views events) n x) (sym (length-views events)) is

-- neither the first deleter nor one of the others passes a test
pub all-unknown : (test : ℕ → Bool) (x : Element) (n : ℕ) → length x.others.items ≤ n → ((k : ℕ) → x.last ≡ Some k → test k ≡ false) → ((i : ℕ) → i < n → test (get_or x.others.items i 0) ≡ false) → (k : ℕ) → IsDeletedBy x k → test k ≡ false
all-unknown test x n long first others k (inl is) = first k is
all-unknown test x n long first others k (inr at) =
    ap test (sym at.2 ∙ get_or_default x.others.items at.0 k 0 at.1) ∙ others at.0 (omega (arith, at.1, long))

-- an element for which nothing is noted
pub fresh-none : (x : Element) → x.last ≡ None → x.others.items ≡ [] → (k : ℕ) → IsDeletedBy x k → ⊥
fresh-none x first others k (inl is) = absurd (let clash = sym first ∙ is in cc)
fresh-none x first others k (inr at) = absurd (omega (arith, at.1, ap (λ (ks : List ℕ). length ks) others))

abbrev tag_of : Element → Tag
tag_of x = x.tag

abbrev number_in : Option ℕ → ℕ
number_in None = 0
number_in (Some n) = n

contains-place : (tags : List Tag) (i : ℕ) (d : Tag) → i < length tags → contains tags (get_or tags i d) ≡ true
contains-place [] i d lt = absurd (omega (arith, lt))
contains-place (t ∷ tags) zero d lt = or_left (same_tag t t) (contains tags t) (same_tag-refl t)
contains-place (t ∷ tags) (suc i) d lt = or_right (same_tag (get_or tags i d) t) (contains tags (get_or tags i d)) (contains-place tags i d (omega (arith, lt)))

-- the number of a tag is that of one of the elements
pub number-within : {S : Type 0} (index : HashMap Tag ℕ S) (tags : List Tag) (xs : List Element) (a : Tag) (n : ℕ) → IsIndex index tags → map (λ (x : Element). x.tag) xs ≡ tags → get same_tag index a ≡ Some n → n < length xs
number-within index tags xs a n is same at = omega (arith, (is.only a n at).0, ap (λ (ts : List Tag). length ts) same, length-map xs tag_of)

pub is-numbered : {S : Type 0} (index : HashMap Tag ℕ S) (tags : List Tag) (xs : List Element) (k : ℕ) (z : Element) (a : Tag) → IsIndex index tags → map (λ (x : Element). x.tag) xs ≡ tags → k < length xs → (get_or xs k z).tag ≡ a → get same_tag index a ≡ Some k
is-numbered index tags xs k z a is same long e =
    sym (ap (get same_tag index) (ap (λ (ts : List Tag). get_or ts k a) (sym same) ∙ get_or-map tag_of xs k z a long ∙ e)) ∙ is.each k a (omega (arith, long, ap (λ (ts : List Tag). length ts) same, length-map xs tag_of))

-- the deleted element takes the place of the one that it was
pub tags-set : (xs : List Element) (n : ℕ) (x y : Element) → n < length xs → x ≡ get_or xs n x → y.tag ≡ x.tag → map (λ (x : Element). x.tag) (set xs n y) ≡ map (λ (x : Element). x.tag) xs
tags-set xs n x y below here tag =
    map-set tag_of xs n y ∙ ap (λ (t : Tag). set (map tag_of xs) n t) (tag ∙ ap tag_of here ∙ sym (get_or-map tag_of xs n x x.tag below)) ∙ set-get_or (map tag_of xs) n x.tag

pub all-noted : {S : Type 0} (index : HashMap Tag ℕ S) (events : List EventView) (d i n : ℕ) (tags deleted : List Tag) (xs : List Element) (x y : Element) (t : Tag) → (event_at events d).deleted ≡ deleted → i < length deleted → IsIndex index tags → map (λ (x : Element). x.tag) xs ≡ tags → get same_tag index (get_or deleted i t) ≡ Some n → x ≡ get_or xs n x
    → y.tag ≡ x.tag → ((k : ℕ) → IsDeletedBy x k → IsDeletedBy y k) → ((k : ℕ) → IsDeletedBy y k → IsDeletedBy x k ⊎ (k ≡ d)) → OfReplica events y (event_at events d).replica → All (IsPartly events d (take i deleted)) xs → All (IsPartly events d (take (i + 1) deleted)) (set xs n y)
all-noted index events d i n tags deleted xs x y t eq lt is same at here tag kept only of each k z within =
    let a : Tag = get_or deleted i t in
    let w = is.only a n at in
    let below : n < length xs = number-within index tags xs a n is same at in
    let long : k < length xs = omega (arith, within, length-set xs n y) in
    elim (cases_eq k n) [
      | inl met ↦
          let named : x.tag ≡ a = ap tag_of here ∙ sym (get_or-map tag_of xs n x a below) ∙ ap (λ (ts : List Tag). get_or ts n a) same ∙ w.1 in
          let gone : contains (event_at events d).deleted x.tag ≡ true = ap (λ (ts : List Tag). contains ts x.tag) eq ∙ ap (λ (q : Tag). contains deleted q) named ∙ contains-place deleted i t lt in
          let was : IsPartly events d (take i deleted) x = subst (λ (v : Element). IsPartly events d (take i deleted) v) (sym here) (each n x below) in
          subst (λ (v : Element). IsPartly events d (take (i + 1) deleted) v) (sym (ap (λ (j : ℕ). get_or (set xs n y) j z) met ∙ get_or-set_same xs n y z below))
          (partly-noted events d (take i deleted) (take (i + 1) deleted) x y gone tag kept only of was)
      | inr apart ↦
          subst (λ (v : Element). IsPartly events d (take (i + 1) deleted) v) (sym (get_or-set_other xs n k y z apart))
          (partly-other events d i t deleted (get_or xs k z) lt (λ e. apart (ap number_in (sym (is-numbered index tags xs k z a is same long e) ∙ at))) (each k z long))
    ]

pub all-missed : {S : Type 0} (index : HashMap Tag ℕ S) (events : List EventView) (d i : ℕ) (tags deleted : List Tag) (xs : List Element) (t : Tag) → i < length deleted → IsIndex index tags → map (λ (x : Element). x.tag) xs ≡ tags → get same_tag index (get_or deleted i t) ≡ None → All (IsPartly events d (take i deleted)) xs → All (IsPartly events d (take (i + 1) deleted)) xs
all-missed index events d i tags deleted xs t lt is same at each k z long =
    partly-other events d i t deleted (get_or xs k z) lt (λ e. let clash = sym (is-numbered index tags xs k z (get_or deleted i t) is same long e) ∙ at in cc) (each k z long)

pub all-ended : (events : List EventView) (d i : ℕ) (deleted : List Tag) (xs : List Element) → (event_at events d).deleted ≡ deleted → length deleted ≤ i → All (IsPartly events d (take i deleted)) xs → All (IsElement events (d + 1)) xs
all-ended events d i deleted xs eq le each =
    All-weaker (IsPartly events d (take i deleted)) (IsElement events (d + 1)) (λ x is. partly-end events d x (subst (λ (ts : List Tag). IsPartly events d ts x) (take_all i deleted le ∙ sym eq) is)) xs each

pub all-started : (events : List EventView) (d : ℕ) (xs : List Element) → All (IsElement events d) xs → All (IsPartly events d []) xs
all-started events d xs each = All-weaker (IsElement events d) (IsPartly events d []) (partly-start events d) xs each

pub all-fresh : (events : List EventView) (xs : List Element) → All (λ (x : Element). (k : ℕ) → IsDeletedBy x k → ⊥) xs → All (IsElement events 0) xs
all-fresh events xs none = All-weaker (λ (x : Element). (k : ℕ) → IsDeletedBy x k → ⊥) (IsElement events 0) (λ x none. record {
  within = λ d noted. absurd (none d noted);
  deletes = λ d noted. absurd (none d noted);
  covers = λ d lt h. absurd (omega (arith, lt));
}) xs none
