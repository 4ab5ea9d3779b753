-- What a list must hold, from the list before it.
use Rattle.std.proofs.Common.{◌≡◌, ℕ, ◌+◌, ◌<◌, ◌≤◌, List, [], ◌∷◌, ◌++◌, length, get_or, set, take, drop, ap, sym, ◌∙◌, cond, arith, Bool, true, false, ◌||◌, ◌&&◌, inl, inr, subst, refl}
use Rattle.std.specs.Prelude.{Option, Some, None, All, filter, not}
use Rattle.std.specs.List.{list_any}
use Rattle.std.specs.HashSet.{HashSet, contains as set_contains}
use Rattle.std.proofs.lemmas.List.{append-nil, drop_all, get_or-set_other, nil_from_length, take_all}
use Rattle.std.proofs.lemmas.Bool.{and_from, and_parts, both_ways, cases_Bool, cases_eq, or_cases, or_left}
use Rattle.std.proofs.lemmas.List.Folds.{list_any-append}
use Rattle.std.proofs.lemmas.List.Elements.{All-weaker}
use Rattle.ot_isa.specs.declared.elements.Tag.{Tag}
use Rattle.ot_model.specs.declared.trace.Placed.{Placed}
use Rattle.ot_model.specs.Trace.{contains, event_at, EventView, inserted_tags, occurrences, same_tag}
use Rattle.ot_model.specs.Visibility.{SeesRightly}
use Rattle.ot_model.specs.WeakList.{EventHolds, from_known, known_deletions, known_insertions, required}
use Rattle.ot_judge.specs.Contents.{first_misplaced}
use Rattle.ot_judge.specs.Turns.{AreNews, given, given_before, HoldBefore, HoldsExactly, IsLastOf, IsTaken, list_before, ReadsOnly, StandsOnce}
use Rattle.ot_judge.proofs.Faults.{exact-places, occurrences-present}
use Rattle.ot_judge.proofs.Newly.{given-more, known-split, reads-give, same-bool}
use Rattle.ot_judge.proofs.TagLemmas.{no_tag, contains-more, occurrences-absent, occurrences-more, same_tag-symm, same_tag-true, set-more}

abbrev number_of : Bool → ℕ
number_of b = cond b 1 0

and_false : (b : Bool) → (b && false) ≡ false
and_false true = refl
and_false false = refl

and_true : (b : Bool) → (b && true) ≡ b
and_true true = refl
and_true false = refl

-- ---- sets from which tags are taken

taken-left : (s u v : Bool) → ((s && not u) && not v) ≡ (s && not (u || v))
taken-left s true v = ap (λ (b : Bool). b && not v) (and_false s) ∙ sym (and_false s)
taken-left s false v = ap (λ (b : Bool). b && not v) (and_true s)

pub taken-more : (a b c u v w : Tag → Bool) → IsTaken a b u → IsTaken b c v → ((q : Tag) → w q ≡ (u q || v q)) → IsTaken a c w
taken-more a b c u v w first then both = record {
  left = λ q. then.left q ∙ ap (λ (t : Bool). t && not (v q)) (first.left q) ∙ taken-left (a q) (u q) (v q) ∙ ap (λ (t : Bool). a q && not t) (sym (both q));
  had = λ q h. elim (or_cases (u q) (v q) (sym (both q) ∙ h)) [
    | inl early ↦ first.had q early
    | inr late ↦ (and_parts (a q) (not (u q)) (sym (first.left q) ∙ then.had q late)).0
  ];
}

or_and : (x y z : Bool) → ((x || y) && z) ≡ ((x && z) || (y && z))
or_and true true true = refl
or_and true true false = refl
or_and true false true = refl
or_and true false false = refl
or_and false y z = refl

pub taken-next : (a b c gone : Tag → Bool) (tags : List Tag) (i : ℕ) (x t : Tag) → i < length tags → x ≡ get_or tags i t → IsTaken a b (λ q. contains (take i tags) q && not (gone q)) → IsTaken b c (λ q. same_tag q x && not (gone q)) → IsTaken a c (λ q. contains (take (i + 1) tags) q && not (gone q))
taken-next a b c gone tags i x t lt is first then =
    taken-more a b c (λ q. contains (take i tags) q && not (gone q)) (λ q. same_tag q x && not (gone q)) (λ q. contains (take (i + 1) tags) q && not (gone q)) first then
    (λ q. ap (λ (y : Bool). y && not (gone q)) (contains-more tags q i t lt ∙ ap (λ (y : Tag). contains (take i tags) q || same_tag q y) (sym is)) ∙ or_and (contains (take i tags) q) (same_tag q x) (not (gone q)))

pub taken-given : (a b c gone : Tag → Bool) (events : List EventView) (news : List ℕ) (i : ℕ) (tags : List Tag) → i < length news → tags ≡ inserted_tags (event_at events (get_or news i 0)) → IsTaken a b (λ q. contains (given events inserted_tags (take i news)) q && not (gone q)) → IsTaken b c (λ q. contains tags q && not (gone q))
    → IsTaken a c (λ q. contains (given events inserted_tags (take (i + 1) news)) q && not (gone q))
taken-given a b c gone events news i tags lt are first then =
    let front : List Tag = given events inserted_tags (take i news) in
    taken-more a b c (λ q. contains front q && not (gone q)) (λ q. contains tags q && not (gone q)) (λ q. contains (given events inserted_tags (take (i + 1) news)) q && not (gone q)) first then
    (λ q. ap (λ (y : Bool). y && not (gone q)) (ap (λ (xs : List Tag). contains xs q) (given-more events inserted_tags news i lt ∙ ap (λ (xs : List Tag). front ++ xs) (sym are)) ∙ list_any-append (same_tag q) front tags) ∙ or_and (contains front q) (contains tags q) (not (gone q)))

pub taken-all : (a b gone : Tag → Bool) (tags : List Tag) (i : ℕ) → length tags ≤ i → IsTaken a b (λ q. contains (take i tags) q && not (gone q)) → IsTaken a b (λ q. contains tags q && not (gone q))
taken-all a b gone tags i le = subst (λ (xs : List Tag). IsTaken a b (λ q. contains xs q && not (gone q))) (take_all i tags le)

pub same-tags : (x a : Tag) → not (same_tag x a) ≡ false → x ≡ a
same-tags x a h = elim (cases_Bool (same_tag x a)) [
  | inl met ↦ same_tag-true x a met
  | inr out ↦ absurd (both_ways true (sym (ap not out) ∙ h) refl)
]

-- what is left after all that is required was taken is nothing
pub exactly-from : (list : List Tag) (s m e held inserted gone : Tag → Bool) → ((q : Tag) → StandsOnce list q (s q)) → IsTaken s m (λ q. held q && not (gone q)) → IsTaken m e (λ q. inserted q && not (gone q)) → ((q : Tag) → e q ≡ false) → HoldsExactly list (λ q. (held q || inserted q) && not (gone q))
exactly-from list s m e held inserted gone once first then empty = λ q.
    let wanted : Tag → Bool = λ q. (held q || inserted q) && not (gone q) in
    let all = taken-more s m e (λ q. held q && not (gone q)) (λ q. inserted q && not (gone q)) wanted first then (λ q. or_and (held q) (inserted q) (not (gone q))) in
    elim (cases_Bool (wanted q)) [
      | inl wants ↦
          let here = sym (once q).same ∙ all.had q wants in
          omega (arith, (once q).few, occurrences-present q list here, ap number_of wants)
      | inr not_wants ↦
          let out : s q ≡ false = sym (ap (λ (t : Bool). s q && not t) not_wants ∙ and_true (s q)) ∙ sym (all.left q) ∙ empty q in
          omega (arith, occurrences-absent q list (sym (once q).same ∙ out), ap number_of not_wants)
    ]

pub set-empty : {R : Type 0} (s : HashSet Tag R) (q : Tag) → length s.keys ≡ 0 → set_contains same_tag s q ≡ false
set-empty s q none = ap (list_any (same_tag q)) (nil_from_length s.keys none)

pub take-tag : (old new gone : Tag → Bool) (a : Tag) → gone a ≡ false → old a ≡ true → ((q : Tag) → new q ≡ cond (same_tag a q) false (old q)) → IsTaken old new (λ q. same_tag q a && not (gone q))
take-tag old new gone a stays has updates = record {
  left = λ q. elim (cases_Bool (same_tag q a)) [
    | inl met ↦
        let same = same_tag-true q a met in
        updates q ∙ ap (λ (b : Bool). cond b false (old q)) (same_tag-symm a q ∙ met)
        ∙ sym (ap (λ (b : Bool). old q && not b) (and_from (same_tag q a) (not (gone q)) met (ap not (ap gone same ∙ stays))) ∙ and_false (old q))
    | inr not_met ↦
        updates q ∙ ap (λ (b : Bool). cond b false (old q)) (same_tag-symm a q ∙ not_met) ∙ sym (ap (λ (b : Bool). old q && not (b && not (gone q))) not_met ∙ and_true (old q))
  ];
  had = λ q h. ap old (same_tag-true q a (and_parts (same_tag q a) (not (gone q)) h).0) ∙ has;
}

-- one more tag, which was not in the set
pub once-more : (tags : List Tag) (i : ℕ) (q : Tag) (had here new : Bool) → i < length tags → StandsOnce (take i tags) q had → StandsOnce (take i tags) (get_or tags i no_tag) here → here ≡ false → new ≡ cond (same_tag (get_or tags i no_tag) q) true had → StandsOnce (take (i + 1) tags) q new
once-more tags i q had here new lt before at out updates =
    let a : Tag = get_or tags i no_tag in
    let more = occurrences-more tags q i no_tag lt in
    record {
      same = set-more tags i q no_tag had new lt before.same updates;
      few = elim (cases_Bool (same_tag q a)) [
        | inl met ↦
            let none = ap (λ (b : Tag). occurrences b (take i tags)) (same_tag-true q a met) ∙ occurrences-absent a (take i tags) (sym at.same ∙ out) in
            omega (arith, more, none, ap number_of met)
        | inr not_met ↦ omega (arith, more, before.few, ap number_of not_met)
      ];
    }

-- ---- from one list to the next

contains-filter : (p : Tag → Bool) (xs : List Tag) (q : Tag) → contains (filter p xs) q ≡ (contains xs q && p q)
contains-filter p [] q = refl
contains-filter p (x ∷ xs) q = elim (cases_Bool (same_tag q x)) [
  | inl met ↦
      let same = ap p (same_tag-true q x met) in
      elim (cases_Bool (p x)) [
        | inl passes ↦
            ap (λ (b : Bool). contains (cond b (x ∷ filter p xs) (filter p xs)) q) passes ∙ or_left (same_tag q x) (contains (filter p xs) q) met
            ∙ sym (and_from (contains (x ∷ xs) q) (p q) (or_left (same_tag q x) (contains xs q) met) (same ∙ passes))
        | inr fails ↦
            let none = same ∙ fails in
            ap (λ (b : Bool). contains (cond b (x ∷ filter p xs) (filter p xs)) q) fails ∙ contains-filter p xs q ∙ ap (λ (b : Bool). contains xs q && b) none ∙ and_false (contains xs q)
            ∙ sym (ap (λ (b : Bool). contains (x ∷ xs) q && b) none ∙ and_false (contains (x ∷ xs) q))
      ]
  | inr not_met ↦
      let right = ap (λ (b : Bool). (b || contains xs q) && p q) not_met in
      elim (cases_Bool (p x)) [
        | inl passes ↦ ap (λ (b : Bool). contains (cond b (x ∷ filter p xs) (filter p xs)) q) passes ∙ ap (λ (b : Bool). b || contains (filter p xs) q) not_met ∙ contains-filter p xs q ∙ sym right
        | inr fails ↦ ap (λ (b : Bool). contains (cond b (x ∷ filter p xs) (filter p xs)) q) fails ∙ contains-filter p xs q ∙ sym right
      ]
]

required-is : (start : List Tag) (events : List EventView) (e : ℕ) (q : Tag) → contains (required start events e) q ≡ ((contains start q || contains (from_known events e inserted_tags) q) && not (contains (known_deletions events e) q))
required-is start events e q =
    contains-filter (λ a. not (contains (known_deletions events e) a)) (known_insertions start events e) q ∙ ap (λ (b : Bool). b && not (contains (known_deletions events e) q)) (list_any-append (same_tag q) start (from_known events e inserted_tags))

held-required : (start : List Tag) (events : List EventView) (e : ℕ) (q : Tag) → EventHolds start events e → contains (event_at events e).list q ≡ contains (required start events e) q
held-required start events e q h =
    let list = (event_at events e).list in
    let wanted = contains (required start events e) q in
    same-bool (contains list q) wanted
    (λ here. elim (cases_Bool wanted) [ inl wants ↦ wants | inr not_wants ↦ absurd (omega (arith, occurrences-present q list here, h.contents q, ap number_of not_wants)) ])
    (λ wants. elim (cases_Bool (contains list q)) [ inl here ↦ here | inr out ↦ absurd (omega (arith, occurrences-absent q list out, h.contents q, ap number_of wants)) ])

-- what was held, what is inserted, what was and what is deleted
next-wanted : (s i j d n : Bool) → ((((s || i) && not d) || j) && not (d || n)) ≡ ((s || (i || j)) && not (d || n))
next-wanted s i j true n = and_false _ ∙ sym (and_false _)
next-wanted true i j false n = refl
next-wanted false true j false n = refl
next-wanted false false j false n = refl

before-held : (start : List Tag) (events : List EventView) (e r : ℕ) (last : Option ℕ) (q : Tag) → IsLastOf events e r last → HoldBefore start events e → contains (list_before start events last) q ≡ ((contains start q || contains (given_before events inserted_tags last) q) && not (contains (given_before events (λ x. x.deleted) last) q))
before-held start events e r None q lastof hold = sym (and_true _ ∙ or_false (contains start q))
  where
    or_false : (b : Bool) → (b || false) ≡ b
    or_false true = refl
    or_false false = refl
before-held start events e r (Some p) q lastof hold = held-required start events p q (hold p lastof.before) ∙ required-is start events p q

-- an event whose list is exactly what was held and what is new
pub holds-next : (start : List Tag) (events : List EventView) (e : ℕ) (last : Option ℕ) (news : List ℕ) → e < length events → IsLastOf events e (event_at events e).replica last → All ReadsOnly events → SeesRightly events e → AreNews events e last news → HoldBefore start events e
    → HoldsExactly (event_at events e).list (λ q. (contains (list_before start events last) q || contains (given events inserted_tags news) q) && not (contains (known_deletions events e) q)) → first_misplaced (event_at events e) ≡ None
    → EventHolds start events e
holds-next start events e last news within lastof reads visible are hold exact places = record { visibility = visible; contents = λ q. exact q ∙ ap number_of (wanted q); places = exact-places (event_at events e).list (event_at events e).inserted places }
  where
    no_inserts : (d : ℕ) → (event_at events d).edit ≡ false → inserted_tags (event_at events d) ≡ []
    no_inserts = reads-give events inserted_tags (All-weaker ReadsOnly (λ x. x.edit ≡ false → inserted_tags x ≡ []) (λ x h read. ap (λ (ps : List Placed). inserted_tags (record x { inserted = ps })) (h.inserts read)) events reads) refl

    no_deletes : (d : ℕ) → (event_at events d).edit ≡ false → (event_at events d).deleted ≡ []
    no_deletes = reads-give events (λ x. x.deleted) (All-weaker ReadsOnly (λ x. x.edit ≡ false → x.deleted ≡ []) (λ x h. h.deletes) events reads) refl

    wanted : (q : Tag) → ((contains (list_before start events last) q || contains (given events inserted_tags news) q) && not (contains (known_deletions events e) q)) ≡ contains (required start events e) q
    wanted q =
        let s = contains start q in
        let i = contains (given_before events inserted_tags last) q in
        let j = contains (given events inserted_tags news) q in
        let d = contains (given_before events (λ x. x.deleted) last) q in
        let n = contains (given events (λ x. x.deleted) news) q in
        let gone = known-split events e last news (λ x. x.deleted) q within lastof visible are no_deletes in
        ap (λ (b : Bool). (b || j) && not (contains (known_deletions events e) q)) (before-held start events e (event_at events e).replica last q lastof hold)
        ∙ ap (λ (b : Bool). (((s || i) && not d) || j) && not b) gone
        ∙ next-wanted s i j d n
        ∙ ap (λ (b : Bool). (s || (i || j)) && not b) (sym gone)
        ∙ ap (λ (b : Bool). (s || b) && not (contains (known_deletions events e) q)) (sym (known-split events e last news inserted_tags q within lastof visible are no_inserts))
        ∙ sym (required-is start events e q)

-- ---- marks

pub marks-more : (P : ℕ → Type 0) (marks : List Bool) (e : ℕ) → P e → ((k : ℕ) → get_or marks k false ≡ true → P k) → (k : ℕ) → get_or (set marks e true) k false ≡ true → P k
marks-more P marks e here others k h = elim (cases_eq k e) [
  | inl same ↦ subst P (sym same) here
  | inr apart ↦ others k (sym (get_or-set_other marks e k true false apart) ∙ h)
]

-- a list written back as a whole
pub written : {X : Type 0} (n : ℕ) (now was : List X) → length now ≡ n → length was ≡ n → take n (now ++ drop (length now) was) ≡ now
written n now was long same =
    ap (λ xs. take n (now ++ xs)) (drop_all (length now) was (omega (arith, long, same))) ∙ ap (take n) (append-nil now) ∙ take_all n now (omega (arith, long))
