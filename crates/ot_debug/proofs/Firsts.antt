-- Of equal watches the first one alone has to be looked at.
use Rattle.std.proofs.Common.{◌≡◌, ◌≢◌, ℕ, zero, suc, ◌+◌, ◌<◌, ◌≤◌, List, [], ◌∷◌, ◌++◌, length, refl, ap, sym, ◌∙◌, subst, arith, Option, Some, None, Bool, true, false, inl, inr, length-append}
use Rattle.std.proofs.lemmas.Bool.{cases_eq, cases_lt}
use Rattle.std.proofs.lemmas.Option.{same_Some, slice_get_within}
use Rattle.std.specs.Prelude.{slice_get, MatchBool, MatchOption}
use Rattle.std.specs.List.{All}
use Rattle.ot_isa.specs.declared.instruction.Instr.{Instr}
use Rattle.ot_model.specs.Table.{State, Place, Outcome, step}
use Rattle.ot_model.specs.Runs.{place_at}
use Rattle.ot_debug.specs.declared.command.Watched.{Watched}
use Rattle.ot_debug.specs.Session.{Session, IsOfClients, IsSession}
use Rattle.ot_debug.specs.Stops.{ChangesFirst, ChangesNone, ChangesWatch, IsChanged}
use Rattle.ot_debug.specs.Changes.{AreFirsts, Foretells, ForetellsFirst, ForetellsOf, IsAmong}
use Rattle.ot_debug.specs.Stepping.{Advances}
use Rattle.ot_debug.proofs.Places.{IsLed, led, slice_get-push_less, slice_get-push_same}
use Rattle.ot_debug.proofs.Rows.{clients_at}

-- the clients that watches name are there in the machine
pub watched_there : (x : Session) → IsSession x → All (IsOfClients (length x.place.state.clients)) x.watches
watched_there x session = subst (λ (n : ℕ). All (IsOfClients n) x.watches) (sym (clients_at x.schedule x.position x.place session.limits session.at)) session.watches

-- ---- the numbers

longer : {X : Type 0} (xs : List X) (x : X) → length (xs ++ x ∷ []) ≡ suc (length xs)
longer xs x = let e = length-append xs (x ∷ []) in omega (arith, e)

-- what stands in a longer list at a place of the shorter one, and at its end
old_at : {X : Type 0} (xs : List X) (x y : X) (k : ℕ) → slice_get xs k ≡ Some y → slice_get (xs ++ x ∷ []) k ≡ Some y
old_at xs x y k at = slice_get-push_less xs x k (slice_get_within xs k y at) ∙ at

by_end : {X : Type 0} (P : ℕ → X → Type 0) (xs : List X) (x : X) → ((k : ℕ) (y : X) → slice_get xs k ≡ Some y → P k y) → P (length xs) x → (k : ℕ) (y : X) → slice_get (xs ++ x ∷ []) k ≡ Some y → P k y
by_end P xs x old last k y at =
    elim (cases_eq k (length xs)) [
      | inl same ↦
          let mine : x ≡ y = same_Some x y (sym (slice_get-push_same xs x) ∙ subst (λ (n : ℕ). slice_get (xs ++ x ∷ []) n ≡ Some y) same at) in
          subst (λ (n : ℕ). P n y) (sym same) (subst (P (length xs)) mine last)
      | inr other ↦
          let within = slice_get_within (xs ++ x ∷ []) k y at in
          let size = longer xs x in
          old k y (sym (slice_get-push_less xs x k (omega (arith, within, size, other))) ∙ at)
    ]

among_more : (ws : List Watched) (ns : List ℕ) (last : ℕ) (w v : Watched) → IsAmong ws ns last v → IsAmong (ws ++ w ∷ []) ns last v
among_more ws ns last w v is = record { place = is.place; number = is.number; listed = is.listed; is = old_at ws w v is.number is.is; before = is.before }

among_longer : (ws : List Watched) (ns : List ℕ) (n last : ℕ) (v : Watched) → IsAmong ws ns last v → IsAmong ws (ns ++ n ∷ []) last v
among_longer ws ns n last v is = record { place = is.place; number = is.number; listed = old_at ns n is.number is.place is.listed; is = is.is; before = is.before }

-- one more watch, where there is an equal one already
known : (ws vs : List Watched) (ns : List ℕ) (w : Watched) → AreFirsts ws ns → IsAmong ws ns (length ws) w → vs ≡ ws ++ w ∷ [] → AreFirsts vs ns
known ws vs ns w are is more =
    subst (λ us. AreFirsts us ns) (sym more)
    (record {
      there = λ j m at. let e = are.there j m at in let size = longer ws w in omega (arith, e, size);
      apart = λ j k m n less at next.
          let a = are.apart j k m n less at next in (
            a.0,
            λ e. a.1 (sym (slice_get-push_less ws w m (are.there j m at)) ∙ e ∙ slice_get-push_less ws w n (are.there k n next)),
          );
      each = by_end (λ k v. IsAmong (ws ++ w ∷ []) ns k v) ws w (λ k v at. among_more ws ns k w v (are.each k v at)) (among_more ws ns (length ws) w w is);
    })

-- and where there is none
unknown : (ws vs : List Watched) (ns ms : List ℕ) (w : Watched) → AreFirsts ws ns → (IsAmong ws ns (length ws) w → ⊥) → vs ≡ ws ++ w ∷ [] → ms ≡ ns ++ length ws ∷ [] → AreFirsts vs ms
unknown ws vs ns ms w are none more longer_by =
    subst (λ us. AreFirsts us ms) (sym more) (subst (AreFirsts (ws ++ w ∷ [])) (sym longer_by)
    (record { there = there; apart = λ j k m n less at next. apart j k m n less at next; each = each }))
  where
    size : length (ws ++ w ∷ []) ≡ suc (length ws)
    size = longer ws w

    there : (j m : ℕ) → slice_get (ns ++ length ws ∷ []) j ≡ Some m → m < length (ws ++ w ∷ [])
    there = by_end (λ j m. m < length (ws ++ w ∷ [])) ns (length ws) (λ j m at. let e = are.there j m at in omega (arith, e, size)) (omega (arith, size))

    apart : (j k m n : ℕ) → j < k → slice_get (ns ++ length ws ∷ []) j ≡ Some m → slice_get (ns ++ length ws ∷ []) k ≡ Some n → (m < n) × (slice_get (ws ++ w ∷ []) m ≢ slice_get (ws ++ w ∷ []) n)
    apart j k m n less at next =
        let within : k < length (ns ++ length ws ∷ []) = slice_get_within (ns ++ length ws ∷ []) k n next in
        let many = longer ns (length ws) in
        let first : slice_get ns j ≡ Some m = sym (slice_get-push_less ns (length ws) j (omega (arith, less, within, many))) ∙ at in
        let below : m < length ws = are.there j m first in
        let stays : slice_get (ws ++ w ∷ []) m ≡ slice_get ws m = slice_get-push_less ws w m below in
        by_end (λ k n. j < k → (m < n) × (slice_get (ws ++ w ∷ []) m ≢ slice_get (ws ++ w ∷ []) n)) ns (length ws)
        (λ k n next less.
        let a = are.apart j k m n less first next in (a.0, λ e. a.1 (sym stays ∙ e ∙ slice_get-push_less ws w n (are.there k n next))))
        (λ less. (
          below,
          λ e. none (record { place = j; number = m; listed = first; is = sym stays ∙ e ∙ slice_get-push_same ws w; before = omega (arith, below) }),
        ))
        k n next less

    each : (k : ℕ) (v : Watched) → slice_get (ws ++ w ∷ []) k ≡ Some v → IsAmong (ws ++ w ∷ []) (ns ++ length ws ∷ []) k v
    each =
        by_end (λ k v. IsAmong (ws ++ w ∷ []) (ns ++ length ws ∷ []) k v) ws w
        (λ k v at. among_longer (ws ++ w ∷ []) ns (length ws) k v (among_more ws ns k w v (are.each k v at)))
        (record { place = length ns; number = length ws; listed = slice_get-push_same ns (length ws); is = slice_get-push_same ws w; before = omega arith })

-- so where both lists were looked at elsewhere
pub known_there :
    (ws us vs : List Watched) (ns ks ms : List ℕ) (w : Watched) → AreFirsts ws ns → us ≡ ws → ks ≡ ns → IsAmong us ks (length us) w → vs ≡ ws ++ w ∷ [] → ms ≡ ns → AreFirsts vs ms
known_there ws us vs ns ks ms w are there numbers is more stay =
    subst (AreFirsts vs) (sym stay) (known ws vs ns w are (subst (λ zs. IsAmong zs ns (length zs) w) there (subst (λ zs. IsAmong us zs (length us) w) numbers is)) more)

pub unknown_there :
    (ws us vs : List Watched) (ns ks ms : List ℕ) (n : ℕ) (w : Watched) → AreFirsts ws ns → us ≡ ws → ks ≡ ns → (IsAmong us ks (length us) w → ⊥) → vs ≡ ws ++ w ∷ [] → n ≡ length ws → ms ≡ ns ++ n ∷ [] → AreFirsts vs ms
unknown_there ws us vs ns ks ms n w are there numbers none more size longer_by =
    unknown ws vs ns ms w are
    (λ is. none (subst (λ zs. IsAmong zs ks (length zs) w) (sym there) (subst (λ zs. IsAmong ws zs (length ws) w) (sym numbers) is)))
    more (longer_by ∙ ap (λ k. ns ++ k ∷ []) size)

-- none of the numbers before this place is the watch's
abbrev pub NoneUpTo : List Watched → List ℕ → Watched → ℕ → Type 0
NoneUpTo ws ns w i = (j m : ℕ) → j < i → slice_get ns j ≡ Some m → slice_get ws m ≢ Some w

pub none_next : (ws : List Watched) (ns : List ℕ) (w v : Watched) (i number : ℕ) → NoneUpTo ws ns w i → slice_get ns i ≡ Some number → slice_get ws number ≡ Some v → v ≢ w → NoneUpTo ws ns w (i + 1)
none_next ws ns w v i number none here at other j m less listed is =
    elim (cases_eq j i) [
      | inl same ↦
          let mine : number ≡ m = same_Some number m (sym here ∙ subst (λ (k : ℕ). slice_get ns k ≡ Some m) same listed) in
          other (same_Some v w (sym at ∙ ap (slice_get ws) mine ∙ is))
      | inr differs ↦ none j m (omega (arith, less, differs)) listed is
    ]

-- ---- what is known of them

-- the watches with the numbers before this place see no change
abbrev pub UnchangedUpTo : Outcome → State → List Watched → List ℕ → ℕ → Type 0
UnchangedUpTo o s ws ns i = (j m : ℕ) → j < i → slice_get ns j ≡ Some m → ForetellsOf o s ws m false

told_at : (o : Outcome) (s : State) (ws : List Watched) (number : ℕ) (w : Watched) (changed : Bool) → slice_get ws number ≡ Some w → Foretells o s w changed → ForetellsOf o s ws number changed
told_at o s ws number w changed at is v here = subst (λ u. Foretells o s u changed) (same_Some w v (sym at ∙ here)) is

pub unchanged_next : (o : Outcome) (s : State) (ws : List Watched) (ns : List ℕ) (i number : ℕ) (w : Watched) → UnchangedUpTo o s ws ns i → slice_get ns i ≡ Some number → slice_get ws number ≡ Some w → Foretells o s w false → UnchangedUpTo o s ws ns (i + 1)
unchanged_next o s ws ns i number w are here at is j m less listed =
    elim (cases_eq j i) [
      | inl same ↦
          let mine : number ≡ m = same_Some number m (sym here ∙ subst (λ (k : ℕ). slice_get ns k ≡ Some m) same listed) in
          subst (λ (n : ℕ). ForetellsOf o s ws n false) mine (told_at o s ws number w false at is)
      | inr differs ↦ are j m (omega (arith, less, differs)) listed
    ]

-- a watch that is among the numbers before the place
told_among : (o : Outcome) (s : State) (ws : List Watched) (ns : List ℕ) (i k : ℕ) (w : Watched) → UnchangedUpTo o s ws ns i → (is : IsAmong ws ns k w) → is.place < i → Foretells o s w false
told_among o s ws ns i k w are is less = are is.place is.number less is.listed w is.is

pub first_told :
    (o : Outcome) (s : State) (ws : List Watched) (ns : List ℕ) (i number : ℕ) (w : Watched) → AreFirsts ws ns → UnchangedUpTo o s ws ns i → slice_get ns i ≡ Some number → slice_get ws number ≡ Some w → Foretells o s w true
    → ForetellsFirst o s ws number
first_told o s ws ns i number w firsts are here at is =
    record {
      within = firsts.there i number here;
      changes = told_at o s ws number w true at is;
      first = λ k less v found. let among = firsts.each k v found in told_among o s ws ns i k v are among (before k v less among);
    }
  where
    before : (k : ℕ) (v : Watched) → k < number → (among : IsAmong ws ns k v) → among.place < i
    before k v less among =
        elim (cases_lt among.place i) [
          | inl is ↦ is
          | inr after ↦
              let m = among.before in
              elim (cases_eq among.place i) [
                | inl same ↦
                    let mine : number ≡ among.number = same_Some number among.number (sym here ∙ subst (λ (n : ℕ). slice_get ns n ≡ Some among.number) same among.listed) in
                    absurd (omega (arith, m, mine, less))
                | inr other ↦
                    let a = (firsts.apart i among.place number among.number (omega (arith, after, other)) here among.listed).0 in
                    absurd (omega (arith, m, a, less))
              ]
        ]

pub none_told :
    (o : Outcome) (s : State) (ws : List Watched) (ns : List ℕ) (i : ℕ) → AreFirsts ws ns → length ns ≤ i → UnchangedUpTo o s ws ns i → (number : ℕ) → ForetellsOf o s ws number false
none_told o s ws ns i firsts past are number v found =
    let among = firsts.each number v found in
    let e = slice_get_within ns among.place among.number among.listed in
    told_among o s ws ns i number v are among (omega (arith, e, past))

-- ---- what was found is so

module _ (x y : Session) (i : Instr) (here : slice_get x.schedule.instrs x.position ≡ Some i) (session : IsSession x) (later : IsSession y) (on : Advances x y) where
  next : place_at x.schedule (suc x.position) ≡ Some y.place
  next = subst (λ s. place_at s (suc x.position) ≡ Some y.place) on.keeps.schedule (subst (λ n. place_at y.schedule n ≡ Some y.place) on.next later.at)

  step_is : IsLed x.schedule x.position i x.place y.place
  step_is = led x.schedule x.position i x.place y.place here session.at next

  told : (w : Watched) (changed : Bool) → Foretells (step x.place.state i) x.place.state w changed → MatchBool changed (IsChanged w x.place.state y.place.state) (IsChanged w x.place.state y.place.state → ⊥)
  told w changed is =
      subst (λ (p : Place). MatchBool changed (IsChanged w x.place.state p.state) (IsChanged w x.place.state p.state → ⊥)) (sym step_is.is)
      (subst (λ o. Foretells o x.place.state w changed) step_is.step is)

  unchanged : (k : ℕ) → ForetellsOf (step x.place.state i) x.place.state x.watches k false → ChangesWatch x x.position k → ⊥
  unchanged k is changes =
      let first : changes.changes.before ≡ x.place = same_Some _ _ (sym changes.changes.from ∙ session.at) in
      let last : changes.changes.after ≡ y.place = same_Some _ _ (sym changes.changes.to ∙ next) in
      told changes.watch false (is changes.watch changes.here)
      (subst (λ (p : Place). IsChanged changes.watch p.state y.place.state) first (subst (λ (p : Place). IsChanged changes.watch changes.changes.before.state p.state) last changes.changes.changed))

  element : {X : Type 0} (xs : List X) (k : ℕ) → k < length xs → (z : X) × (slice_get xs k ≡ Some z)
  element [] k less = absurd (omega arith)
  element (z ∷ xs) zero less = (z, refl)
  element (z ∷ xs) (suc k) less = element xs k (omega arith)

  changed : (k : ℕ) → k < length x.watches → ForetellsOf (step x.place.state i) x.place.state x.watches k true → ChangesWatch x x.position k
  changed k less is =
      let w = element x.watches k less in
      record {
        watch = w.0;
        here = w.1;
        changes = record { before = x.place; after = y.place; from = session.at; to = next; changed = told w.0 true (is w.0 w.1) };
      }

  found : (r : Option ℕ)
      → MatchOption r ((k : ℕ) → ForetellsOf (step x.place.state i) x.place.state x.watches k false) (λ n. ForetellsFirst (step x.place.state i) x.place.state x.watches n)
      → MatchOption r (ChangesNone x x.position) (λ n. ChangesFirst x x.position n)
  found None none = λ k is. unchanged k (none k) is
  found (Some n) first = record { changes = changed n first.within first.changes; first = λ k below is. unchanged k (first.first k below) is }

pub first_watch :
    (x y : Session) (i : Instr) (before : State) (ws : List Watched) (r : Option ℕ)
    → slice_get x.schedule.instrs x.position ≡ Some i → IsSession x → IsSession y → Advances x y → before ≡ x.place.state → ws ≡ x.watches
    → MatchOption r ((k : ℕ) → ForetellsOf (step before i) before ws k false) (λ n. ForetellsFirst (step before i) before ws n)
    → MatchOption r (ChangesNone x x.position) (λ n. ChangesFirst x x.position n)
first_watch x y i before ws r here session later on before_is ws_are is =
    found x y i here session later on r
    (subst (λ us. MatchOption r ((k : ℕ) → ForetellsOf (step x.place.state i) x.place.state us k false) (λ n. ForetellsFirst (step x.place.state i) x.place.state us n)) ws_are
    (subst (λ s. MatchOption r ((k : ℕ) → ForetellsOf (step s i) s ws k false) (λ n. ForetellsFirst (step s i) s ws n)) before_is is))
