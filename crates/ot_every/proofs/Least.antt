-- Each run has an order with the same instructions on each machine in which nothing comes late: at each place stands, of those that can stand there, one of
-- the first machine.
use Rattle.std.proofs.Common.{◌≡◌, ℕ, zero, suc, ◌≢◌, List, [], ◌∷◌, ◌++◌, length, refl, sym, ap, ◌∙◌, subst, arith, inl, inr, Option, Some, Bool, true, false, append_assoc}
use Rattle.std.proofs.lemmas.List.{append-nil}
use Rattle.std.proofs.lemmas.Option.{same_Some}
use Rattle.std.proofs.lemmas.List.Elements.{filter-append}
use Rattle.std.specs.Prelude.{◌⊎◌, ◌&&◌, ◌||◌}
use Rattle.std.specs.List.{filter}
use Rattle.ot_isa.specs.declared.instruction.Instr.{Instr}
use Rattle.ot_model.specs.declared.shown.Shown.{Shown}
use Rattle.ot_model.specs.Table.{State, Place, Outcome, Performed, Refused, NoRow, step, run, with_shown}
use Rattle.ot_model.specs.Sound.{IsSound, AreInstrs}
use Rattle.ot_model.specs.Orders.{Machine, is_at, AreSameOrders}
use Rattle.ot_model.proofs.Exchanging.{same_state}
use Rattle.ot_model.proofs.Awaiting.{run_first}
use Rattle.ot_model.proofs.Reordering.{IsApart, AllApart, apart_back, found, moved_front, filter_yes, filter_no, AreInstrs_split, run_then, sound_after, to_front, grown}
use Rattle.ot_every.specs.Listing.{machine_of, is_before, shares, is_there, Earlier, comes_late}
use Rattle.ot_every.proofs.Machines.{shares_not, apart_shares, either_before, not_before, before_trans, not_before_itself}
use Rattle.ot_every.proofs.There.{lacks_nothing}

-- an instruction that can come first of these, behind those before them: none before it shares a machine with it, and it is performed here
pub record IsFirst (before here : List Instr) (s : State) (j : Instr) : Type 0 where
  pub pre : List Instr
  pub post : List Instr
  pub is : here ≡ pre ++ j ∷ post
  pub apart : AllApart (before ++ pre) j
  pub state : State
  pub shown : Option Shown
  pub performed : step s j ≡ Performed state shown

-- ---- of those that can come first, one of the first machine

apart_decided : (before : List Instr) (j : Instr) → AllApart before j ⊎ (AllApart before j → ⊥)
unfolding AllApart
apart_decided [] j = inl tt
apart_decided (i ∷ before) j = go (apart_decided before j) (shares i j) refl
  where
    go : AllApart before j ⊎ (AllApart before j → ⊥) → (b : Bool) → shares i j ≡ b → (IsApart i j × AllApart before j) ⊎ (IsApart i j × AllApart before j → ⊥)
    go rest true is = inr (λ all. (let off = apart_shares i j all.0 in absurd (cc)))
    go (inl rest) false is = inl (shares_not i j is, rest)
    go (inr none) false is = inr (λ all. none all.1)

performed_decided : (s : State) (j : Instr) → ((t : State) × (a : Option Shown) × (step s j ≡ Performed t a)) ⊎ ((t : State) (a : Option Shown) → step s j ≡ Performed t a → ⊥)
performed_decided s j = go (step s j) refl
  where
    go : (o : Outcome) → step s j ≡ o → ((t : State) × (a : Option Shown) × (step s j ≡ Performed t a)) ⊎ ((t : State) (a : Option Shown) → step s j ≡ Performed t a → ⊥)
    go (Performed t a) is = inl (t, a, is)
    go (Refused r) is = inr (λ t a e. absurd (let both = sym is ∙ e in cc))
    go NoRow is = inr (λ t a e. absurd (let both = sym is ∙ e in cc))

apart_nil : (before : List Instr) (j : Instr) → AllApart before j → AllApart (before ++ []) j
apart_nil before j all = subst (λ (is : List Instr). AllApart is j) (sym (append-nil before)) all

first_later : (before here : List Instr) (i : Instr) (s : State) (j : Instr) → IsFirst (before ++ i ∷ []) here s j → IsFirst before (i ∷ here) s j
first_later before here i s j f = record {
  pre = i ∷ f.pre;
  post = f.post;
  is = ap (λ (is : List Instr). i ∷ is) f.is;
  apart = subst (λ (is : List Instr). AllApart is j) (append_assoc before (i ∷ []) f.pre) f.apart;
  state = f.state;
  shown = f.shown;
  performed = f.performed;
}

head_or : Instr → List Instr → Instr
head_or d [] = d
head_or d (i ∷ is) = i

tail_of : List Instr → List Instr
tail_of [] = []
tail_of (i ∷ is) = is

first_cases : (before here : List Instr) (i : Instr) (s : State) (j : Instr) → IsFirst before (i ∷ here) s j → ((j ≡ i) × AllApart before j) ⊎ IsFirst (before ++ i ∷ []) here s j
unfolding head_or tail_of
first_cases before here i s j f = go f.pre f.is f.apart
  where
    go : (pre : List Instr) → i ∷ here ≡ pre ++ j ∷ f.post → AllApart (before ++ pre) j → ((j ≡ i) × AllApart before j) ⊎ IsFirst (before ++ i ∷ []) here s j
    go [] is apart = inl (sym (ap (head_or i) is), subst (λ (is : List Instr). AllApart is j) (append-nil before) apart)
    go (x ∷ pre) is apart =
        let same : x ≡ i = sym (ap (head_or i) is) in
        inr (record {
          pre = pre;
          post = f.post;
          is = ap tail_of is;
          apart = subst (λ (is : List Instr). AllApart is j) (sym (append_assoc before (i ∷ []) pre)) (subst (λ (k : Instr). AllApart (before ++ k ∷ pre) j) same apart);
          state = f.state;
          shown = f.shown;
          performed = f.performed;
        })

-- j, and none that can come first is of an earlier machine
pub record IsLeast (before here : List Instr) (s : State) (j : Instr) : Type 0 where
  pub first : IsFirst before here s j
  pub least : (k : Instr) → IsFirst before here s k → is_before (machine_of k) (machine_of j) ≡ false

not_earlier : (u v w : Machine) → is_before u v ≡ false → is_before v w ≡ false → is_before u w ≡ false
not_earlier u v w e f = go (is_before u w) refl
  where
    -- u is not before v, so that v is before u or it is u
    other : is_before u w ≡ true → u ≢ v
    other on same = absurd (let off = subst (λ (x : Machine). is_before x w ≡ false) (sym same) f in cc)

    go : (b : Bool) → is_before u w ≡ b → is_before u w ≡ false
    go true on = elim (either_before u v (other on)) [
      | inl first ↦ absurd (cc)
      | inr later ↦ absurd (let through = before_trans v u w later on in cc)
    ]
    go false off = off

none_or_least : (here before : List Instr) (s : State) → ((j : Instr) → IsFirst before here s j → ⊥) ⊎ ((j : Instr) × IsLeast before here s j)
none_or_least [] before s = inl (λ j f. nothing j f.pre f.post f.is)
  where
    nothing : (j : Instr) (pre post : List Instr) → [] ≡ pre ++ j ∷ post → ⊥
    nothing j [] post e = absurd (cc)
    nothing j (x ∷ pre) post e = absurd (cc)
none_or_least (i ∷ here) before s = go (none_or_least here (before ++ i ∷ []) s) (apart_decided before i) (performed_decided s i)
  where
    -- i cannot come first
    without : ((j : Instr) → j ≡ i → AllApart before j → ((t : State) × (a : Option Shown) × (step s j ≡ Performed t a)) → ⊥) → ((j : Instr) → IsFirst (before ++ i ∷ []) here s j → ⊥) ⊎ ((j : Instr) × IsLeast (before ++ i ∷ []) here s j)
        → ((j : Instr) → IsFirst before (i ∷ here) s j → ⊥) ⊎ ((j : Instr) × IsLeast before (i ∷ here) s j)
    without not (inl none) = inl (λ j f. elim (first_cases before here i s j f) [ inl same ↦ not j same.0 same.1 (f.state, f.shown, f.performed) | inr later ↦ none j later ])
    without not (inr (j, l)) = inr (
      j,
      record {
        first = first_later before here i s j l.first;
        least = λ k f. elim (first_cases before here i s k f) [ inl same ↦ absurd (not k same.0 same.1 (f.state, f.shown, f.performed)) | inr later ↦ l.least k later ];
      },
    )

    with_first : AllApart before i → (t : State) (a : Option Shown) → step s i ≡ Performed t a → IsFirst before (i ∷ here) s i
    with_first all t a e = record { pre = []; post = here; is = refl; apart = apart_nil before i all; state = t; shown = a; performed = e }

    -- i can; it or the least of the others
    choose : IsFirst before (i ∷ here) s i → (j : Instr) → IsLeast (before ++ i ∷ []) here s j → (b : Bool) → is_before (machine_of j) (machine_of i) ≡ b → (k : Instr) × IsLeast before (i ∷ here) s k
    choose f j l true earlier = (
      j,
      record {
        first = first_later before here i s j l.first;
        least = λ k g. elim (first_cases before here i s k g) [
          | inl same ↦ subst (λ (x : Instr). is_before (machine_of x) (machine_of j) ≡ false) (sym same.0) (not_before (machine_of j) (machine_of i) earlier)
          | inr later ↦ l.least k later
        ];
      },
    )
    choose f j l false earlier = (
      i,
      record {
        first = f;
        least = λ k g. elim (first_cases before here i s k g) [
          | inl same ↦ subst (λ (x : Instr). is_before (machine_of x) (machine_of i) ≡ false) (sym same.0) (not_before_itself (machine_of i))
          | inr later ↦ not_earlier (machine_of k) (machine_of j) (machine_of i) (l.least k later) earlier
        ];
      },
    )

    go : ((j : Instr) → IsFirst (before ++ i ∷ []) here s j → ⊥) ⊎ ((j : Instr) × IsLeast (before ++ i ∷ []) here s j) → AllApart before i ⊎ (AllApart before i → ⊥)
        → ((t : State) × (a : Option Shown) × (step s i ≡ Performed t a)) ⊎ ((t : State) (a : Option Shown) → step s i ≡ Performed t a → ⊥)
        → ((j : Instr) → IsFirst before (i ∷ here) s j → ⊥) ⊎ ((j : Instr) × IsLeast before (i ∷ here) s j)
    go rest (inr shared) p = without (λ j same all p. shared (subst (λ (x : Instr). AllApart before x) same all)) rest
    go rest (inl all) (inr not) = without (λ j same all p. not p.0 p.1 (ap (step s) (sym same) ∙ p.2)) rest
    go (inl none) (inl all) (inl (t, a, e)) = inr (
      i,
      record {
        first = with_first all t a e;
        least = λ k g. elim (first_cases before here i s k g) [
          | inl same ↦ subst (λ (x : Instr). is_before (machine_of x) (machine_of i) ≡ false) (sym same.0) (not_before_itself (machine_of i))
          | inr later ↦ absurd (none k later)
        ];
      },
    )
    go (inr (j, l)) (inl all) (inl (t, a, e)) = inr (choose (with_first all t a e) j l (is_before (machine_of j) (machine_of i)) refl)

-- ---- the order

-- at each place stands a least one
abbrev pub AreLeast : State → List Instr → Type 0
AreLeast s [] = Unit {0}
AreLeast s (i ∷ is) = IsLeast [] (i ∷ is) s i × ((t : State) (a : Option Shown) → step s i ≡ Performed t a → AreLeast t is)

same_cons : (i : Instr) (is js : List Instr) → AreSameOrders is js → AreSameOrders (i ∷ is) (i ∷ js)
same_cons i is js same w = go (is_at w i) refl
  where
    go : (b : Bool) → is_at w i ≡ b → filter (is_at w) (i ∷ is) ≡ filter (is_at w) (i ∷ js)
    go true on = filter_yes (is_at w) i is on ∙ ap (λ (ks : List Instr). i ∷ ks) (same w) ∙ sym (filter_yes (is_at w) i js on)
    go false off = filter_no (is_at w) i is off ∙ same w ∙ sym (filter_no (is_at w) i js off)

-- nothing before j is at a machine of j
none_at : (pre : List Instr) (j : Instr) (w : Machine) → AllApart pre j → is_at w j ≡ true → filter (is_at w) pre ≡ []
unfolding AllApart
none_at [] j w all on = refl
none_at (i ∷ pre) j w all on = filter_no (is_at w) i pre (apart_back i j all.0 w on) ∙ none_at pre j w all.1 on

-- what can come first in one order can in the other
first_same : (is js : List Instr) (s : State) (j : Instr) → AreSameOrders is js → IsFirst [] js s j → IsFirst [] is s j
first_same is js s j same f =
    let cut = found is j (λ w on. (
      filter (is_at w) f.post,
      same w ∙ ap (filter (is_at w)) f.is ∙ filter-append (is_at w) f.pre (j ∷ f.post) ∙ ap (λ (ks : List Instr). ks ++ filter (is_at w) (j ∷ f.post)) (none_at f.pre j w f.apart on) ∙ filter_yes (is_at w) j f.post on,
    )) in
    record { pre = cut.0; post = cut.1; is = cut.2; apart = cut.3; state = f.state; shown = f.shown; performed = f.performed }

-- an order of a run's instructions, the same on each machine, that runs to the same state, and at each place of which stands a least one
pub record IsOrdered (is : List Instr) (p q : Place) : Type 0 where
  pub order : List Instr
  pub same : AreSameOrders is order
  pub place : Place
  pub runs : run order p ≡ Some place
  pub state : q.state ≡ place.state
  pub least : AreLeast p.state order

length_middle : (pre post : List Instr) (j : Instr) → length (pre ++ j ∷ post) ≡ suc (length (pre ++ post))
length_middle [] post j = refl
length_middle (i ∷ pre) post j = ap suc (length_middle pre post j)

same_suc : (a b : ℕ) → suc a ≡ suc b → a ≡ b
same_suc a b e = omega (arith, e)

pub ordered : (n : ℕ) (is : List Instr) (p q : Place) → length is ≡ n → IsSound p.state → AreInstrs is → run is p ≡ Some q → IsOrdered is p q
unfolding AllApart
ordered zero [] p q size sound are e = record { order = []; same = λ w. refl; place = p; runs = refl; state = ap (λ (w : Place). w.state) (sym (same_Some p q e)); least = tt }
ordered zero (i ∷ is) p q size sound are e = absurd (omega (arith, size))
ordered (suc n) [] p q size sound are e = absurd (omega (arith, size))
ordered (suc n) (i ∷ is) p q size sound are e = elim (none_or_least (i ∷ is) [] p.state) [
  | inl none ↦
      let f = run_first i is p q e in
      absurd (none i (record { pre = []; post = is; is = refl; apart = alone i; state = f.0; shown = f.1; performed = f.2 }))
  | inr (j, l) ↦ moved j l (ordered n)
]
  where
    alone : (i : Instr) → AllApart [] i
    alone i = tt

    moved : (j : Instr) (l : IsLeast [] (i ∷ is) p.state j)
        → ((is : List Instr) (p q : Place) → length is ≡ n → IsSound p.state → AreInstrs is → run is p ≡ Some q → IsOrdered is p q) → IsOrdered (i ∷ is) p q
    moved j l rest =
        let f = l.first in
        let parts = AreInstrs_split f.pre f.post j (subst AreInstrs f.is are) in
        let there : Place = record { state = f.state; shown = with_shown p.shown f.shown } in
        let front = to_front f.pre f.post j p q f.state f.shown sound parts.1 f.apart (ap (λ (ks : List Instr). run ks p) (sym f.is) ∙ e) f.performed in
        let shorter : length (f.pre ++ f.post) ≡ n = same_suc (length (f.pre ++ f.post)) n (sym (length_middle f.pre f.post j) ∙ ap (λ (ks : List Instr). length ks) (sym f.is) ∙ size) in
        let o = rest (f.pre ++ f.post) there front.0 shorter (sound_after p.state j f.state f.shown sound parts.0 f.performed) parts.2 front.1 in
        let same : AreSameOrders (i ∷ is) (j ∷ o.order) = λ w. ap (filter (is_at w)) f.is ∙ moved_front f.pre f.post j f.apart w ∙ same_cons j (f.pre ++ f.post) o.order o.same w in
        record {
          order = j ∷ o.order;
          same = same;
          place = o.place;
          runs = run_then j o.order p f.state f.shown f.performed ∙ o.runs;
          state = front.2 ∙ o.state;
          least = (
            record { first = record { pre = []; post = o.order; is = refl; apart = alone j; state = f.state; shown = f.shown; performed = f.performed }; least = λ k g. l.least k (first_same (i ∷ is) (j ∷ o.order) p.state k same g) },
            λ t a g. subst (λ (w : State). AreLeast w o.order) (same_state f.state t f.shown a (sym f.performed ∙ g)) o.least,
          );
        }

-- ---- nothing comes late there

-- of these, none that no earlier one shares a machine with comes late behind the path
abbrev pub NoneLate : List Earlier → List Instr → Type 0
NoneLate path is = (pre post : List Instr) (k : Instr) → is ≡ pre ++ k ∷ post → AllApart pre k → comes_late path k ≡ false

-- one more step
pub late_on : (path : List Earlier) (p q : Place) (i : Instr) (is : List Instr) → run (i ∷ is) p ≡ Some q → IsLeast [] (i ∷ is) p.state i → NoneLate path (i ∷ is) → NoneLate (record { before = p.state; instr = i } ∷ path) is
unfolding AllApart
late_on path p q i is e l none pre post k cut all = by_share (shares k i) refl
  where
    whole : i ∷ is ≡ (i ∷ pre) ++ k ∷ post
    whole = ap (λ (ks : List Instr). i ∷ ks) cut

    both : IsApart k i → AllApart (i ∷ pre) k
    both apart = (apart_back k i apart, all)

    by_there : IsApart k i → (b : Bool) → is_there p.state k ≡ b → (is_there p.state k && (is_before (machine_of k) (machine_of i) || comes_late path k)) ≡ false
    by_there apart false off = rw off refl
    by_there apart true there =
        let g = grown (i ∷ pre) post k p q (both apart) (ap (λ (ks : List Instr). run ks p) (sym whole) ∙ e) in
        let later = run_first k post g.0 q g.2 in
        let now = lacks_nothing p.state g.0.state later.0 k later.1 g.1 later.2 there in
        let first : IsFirst [] (i ∷ is) p.state k = record { pre = i ∷ pre; post = post; is = whole; apart = both apart; state = now.0; shown = now.1; performed = now.2 } in
        rw (there, l.least k first, none (i ∷ pre) post k whole (both apart)) refl

    by_share : (b : Bool) → shares k i ≡ b → comes_late (record { before = p.state; instr = i } ∷ path) k ≡ false
    by_share true on = rw on refl
    by_share false off = rw off (by_there (shares_not k i off) (is_there p.state k) refl)
