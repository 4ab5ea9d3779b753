-- Where no session goes on.
use Rattle.std.proofs.Common.{◌≡◌, ℕ, zero, suc, ◌<◌, List, [], ◌∷◌, ◌++◌, length, drop, map, set, refl, sym, ap, ap₂, ◌∙◌, arith, inl, inr, Option, Some, Bool, true, false}
use Rattle.std.specs.Prelude.{◌&&◌, ◌||◌, ◌==◌, not, if◌then◌else◌, slice_get, filter, flat_map}
use Rattle.std.proofs.lemmas.Bool.{cases_eq, eqb-true, eqb-false, ne_eqb, ltb-true}
use Rattle.std.proofs.lemmas.Option.{same_Some}
use Rattle.ot_isa.specs.declared.instruction.Instr.{Instr}
use Rattle.ot_isa.specs.declared.instruction.Instr.TheVariants.{Edit, Take, Deliver, Acknowledge, Join, Read, ReadServer}
use Rattle.ot_model.specs.declared.shown.Shown.{Shown}
use Rattle.ot_model.specs.Table.{is_joined, Client, State, Outcome, Performed, Refused, NoRow, step}
use Rattle.ot_model.specs.Orders.{Machine, ClientMachine, ServerMachine, is_at}
use Rattle.ot_model.proofs.States.{slice_get-set_same, slice_get-set_other}
use Rattle.ot_model.proofs.Exchanging.{emptied, kind}
use Rattle.ot_model.proofs.Outcomes.{by_join}
use Rattle.ot_every.specs.Listing.{Earlier, candidates, comes_late, has_client, is_before, is_behind, is_empty, is_settled, is_there, machine_of, sessions_from, shares, texts_after}
use Rattle.ot_every.specs.Walking.{sessions_by}
use Rattle.ot_every.proofs.Lists.{IsIn, filter_cases}
use Rattle.ot_every.proofs.Listed.{behind, not_late}
use Rattle.ot_every.proofs.Quiet.{settled_is}
use Rattle.ot_every.proofs.There.{there_stays}
use Rattle.ot_every.proofs.Machines.{both_true, shares_not}

-- ---- in general

pub flat_none : {A B : Type 0} (f : A → List B) (xs : List A) → ((x : A) → IsIn x xs → f x ≡ []) → flat_map f xs ≡ []
flat_none f [] none = refl
flat_none f (x ∷ xs) none = ap₂ (λ ys zs. ys ++ zs) (none x (inl refl)) (flat_none f xs (λ y h. none y (inr h)))

behind_none : (inserts count : ℕ) (texts : List (List ℕ)) (path : List Earlier) (s : State) (i : Instr) (o : Outcome)
    → ((t : State) (a : Option Shown) → o ≡ Performed t a → sessions_from inserts count (texts_after i texts) (record { before = s; instr = i } ∷ path) t ≡ []) → behind inserts count texts path s i o ≡ []
behind_none inserts count texts path s i (Performed t a) none = ap (map (λ is. i ∷ is)) (none t a refl)
behind_none inserts count texts path s i (Refused r) none = refl
behind_none inserts count texts path s i NoRow none = refl

-- an instruction leads to no session where none goes on behind it
pub by_none : (inserts count : ℕ) (texts : List (List ℕ)) (path : List Earlier) (s : State) (i : Instr)
    → ((t : State) (a : Option Shown) → step s i ≡ Performed t a → sessions_from inserts count (texts_after i texts) (record { before = s; instr = i } ∷ path) t ≡ []) → sessions_by inserts count texts path s i ≡ []
by_none inserts count texts path s i none = behind_none inserts count texts path s i (step s i) none

end_none : (b : Bool) → (b ≡ true → ⊥) → ◌≡◌ {A = List (List Instr)} (if b then [] ∷ [] else []) []
end_none true not = absurd (not refl)
end_none false not = refl

-- what keeps a session from ending, and stays
module _ (inserts : ℕ) (P : ℕ → List (List ℕ) → List Earlier → State → Type 0)
    (ends : (texts : List (List ℕ)) (path : List Earlier) (s : State) → P 0 texts path s → (is_empty texts && is_settled s) ≡ true → ⊥)
    (stays : (count : ℕ) (texts : List (List ℕ)) (path : List Earlier) (s : State) (i : Instr) (t : State) (a : Option Shown) → P (suc count) texts path s → IsIn i (candidates inserts texts s)
    → comes_late path i ≡ false → step s i ≡ Performed t a → P count (texts_after i texts) (record { before = s; instr = i } ∷ path) t) where
  pub none_from : (count : ℕ) (texts : List (List ℕ)) (path : List Earlier) (s : State) → P count texts path s → sessions_from inserts count texts path s ≡ []
  none_from zero texts path s holds = end_none (is_empty texts && is_settled s) (ends texts path s holds)
  none_from (suc count) texts path s holds =
      flat_none (sessions_by inserts count texts path s) (filter (λ i. not (comes_late path i)) (candidates inserts texts s)) (λ i h. (
      let c = filter_cases (λ j. not (comes_late path j)) i (candidates inserts texts s) h in
      by_none inserts count texts path s i (λ t a e. none_from count (texts_after i texts) (record { before = s; instr = i } ∷ path) t (stays count texts path s i t a holds c.0 (not_late (comes_late path i) c.1) e))
      ))

-- ---- a client that is stuck

-- it has joined and has something to receive
pub record IsWaiting (c : ℕ) (s : State) : Type 0 where
  pub x : Client
  pub at : slice_get s.clients c ≡ Some x
  pub on : is_joined x.phase ≡ true
  pub behind : is_behind s x ≡ true

pub there_for : (c : ℕ) (s : State) → IsWaiting c s → is_there s (Deliver c) ≡ true
there_for c s w = rw w.at w.behind

-- it stays so while other machines go on
joined_stays : (s : State) (i : Instr) (t : State) (a : Option Shown) (c : ℕ) (x : Client) → step s i ≡ Performed t a → is_at (ClientMachine c) i ≡ false → slice_get s.clients c ≡ Some x → is_joined x.phase ≡ true
    → (y : Client) × (slice_get t.clients c ≡ Some y) × (is_joined y.phase ≡ true)
joined_stays s i t a c x e off at on = elim (kind s i t a e) [
  | inl m ↦
      let other : c ≡ m.c → ⊥ = λ same. (let there = m.own in let same_at = ap (λ (n : ℕ). is_at (ClientMachine n) i) same in absurd (cc)) in
      let kept : slice_get (set s.clients m.c m.y) c ≡ slice_get s.clients c = slice_get-set_other s.clients m.c c m.y other in
      (x, ap (λ (w : State). slice_get w.clients c) m.after ∙ kept ∙ at, on)
  | inr (inl k) ↦ taken k.c k.x k.at (ap (λ (w : State). w.clients) k.after)
  | inr (inr r) ↦ (x, ap (λ (w : State). slice_get w.clients c) r.after ∙ at, on)
]
  where
    taken : (k : ℕ) (z : Client) {ws : List Client} → slice_get s.clients k ≡ Some z → ws ≡ set s.clients k (emptied z) → (y : Client) × (slice_get ws c ≡ Some y) × (is_joined y.phase ≡ true)
    taken k z at_k is = elim (cases_eq c k) [
      | inl same ↦
          let found : z ≡ x = same_Some z x (sym at_k ∙ ap (slice_get s.clients) (sym same) ∙ at) in
          (emptied z, ap (λ (w : List Client). slice_get w c) is ∙ ap (slice_get (set s.clients k (emptied z))) same ∙ slice_get-set_same s.clients k z (emptied z) at_k, ap (λ (w : Client). is_joined w.phase) found ∙ on)
      | inr other ↦ (x, ap (λ (w : List Client). slice_get w c) is ∙ slice_get-set_other s.clients k c (emptied z) other ∙ at, on)
    ]

-- an instruction that is not at its machine shares none with its receipt
eqb_back : (d c : ℕ) → (d == c) ≡ false → (c == d) ≡ false
eqb_back d c off = ne_eqb c d (λ e. eqb-false d c off (sym e))

shares_back : (i : Instr) (c : ℕ) → is_at (ClientMachine c) i ≡ false → shares i (Deliver c) ≡ false
shares_back (Edit d op) c off = rw (eqb_back d c off) refl
shares_back (Take d) c off = refl
shares_back (Deliver d) c off = rw (eqb_back d c off) refl
shares_back (Acknowledge d) c off = rw (eqb_back d c off) refl
shares_back (Join d) c off = rw (eqb_back d c off) refl
shares_back (Read d) c off = rw (eqb_back d c off) refl
shares_back ReadServer c off = refl

waiting_stays : (s : State) (i : Instr) (t : State) (a : Option Shown) (c : ℕ) → step s i ≡ Performed t a → is_at (ClientMachine c) i ≡ false → IsWaiting c s → IsWaiting c t
waiting_stays s i t a c e off w =
    let j = joined_stays s i t a c w.x e off w.at w.on in
    let there = there_stays s i (Deliver c) t a c e (shares_not i (Deliver c) (shares_back i c off)) refl (there_for c s w) in
    record { x = j.0; at = j.1; on = j.2; behind = rw j.1 at there }

-- what of its machine may come instead of a receipt comes late with it
shares_as : (c : ℕ) (i j : Instr) → machine_of i ≡ ClientMachine c → is_at ServerMachine i ≡ false → shares i j ≡ shares (Deliver c) j
shares_as c i j own off = rw (own, off) refl

late_by : (share there before late here late' : Bool) → (there ≡ true → here ≡ true) → (late ≡ true → late' ≡ true) → (not share && (there && (before || late))) ≡ true → (not share && (here && (before || late'))) ≡ true
late_by true there before late here late' f g e = absurd (cc)
late_by false false before late here late' f g e = absurd (cc)
late_by false true true late here late' f g e = rw (f refl) refl
late_by false true false late here late' f g e = rw (f refl, g e) refl

late_too : (path : List Earlier) (c : ℕ) (i : Instr) → machine_of i ≡ ClientMachine c → is_at ServerMachine i ≡ false → ((s : State) → is_there s (Deliver c) ≡ true → is_there s i ≡ true) → comes_late path (Deliver c) ≡ true
    → comes_late path i ≡ true
late_too [] c i own off there late = absurd (cc)
late_too (p ∷ path) c i own off there late =
    ap₂ (λ (b : Bool) (w : Machine). not b && (is_there p.before i && (is_before w (machine_of p.instr) || comes_late path i))) (shares_as c i p.instr own off) own
    ∙ late_by (shares (Deliver c) p.instr) (is_there p.before (Deliver c)) (is_before (ClientMachine c) (machine_of p.instr)) (comes_late path (Deliver c)) (is_there p.before i) (comes_late path i)
    (there p.before) (late_too path c i own off there) late

-- a client that waits, and whose receipt comes late
pub record IsStuck (path : List Earlier) (s : State) : Type 0 where
  pub c : ℕ
  pub waiting : IsWaiting c s
  pub late : comes_late path (Deliver c) ≡ true

true_false : (b : Bool) → b ≡ true → b ≡ false → ⊥
true_false b on off = absurd (cc)

-- none of its instructions is in time
own_late : (path : List Earlier) (s : State) (c : ℕ) (i : Instr) (t : State) (a : Option Shown) → is_at (ClientMachine c) i ≡ true → IsWaiting c s → comes_late path (Deliver c) ≡ true → step s i ≡ Performed t a → comes_late path i ≡ false → ⊥
own_late path s c (Edit d op) t a own w late e in_time = true_false _ (late_too path c (Edit d op) (ap ClientMachine (eqb-true d c own)) refl (λ s there. refl) late) in_time
own_late path s c (Take d) t a own w late e in_time = absurd (cc)
own_late path s c (Deliver d) t a own w late e in_time = true_false _ (ap (λ (n : ℕ). comes_late path (Deliver n)) (eqb-true d c own) ∙ late) in_time
own_late path s c (Acknowledge d) t a own w late e in_time =
    true_false _ (late_too path c (Acknowledge d) (ap ClientMachine (eqb-true d c own)) refl (λ s there. ap (λ (n : ℕ). has_client (slice_get s.clients n) (is_behind s)) (eqb-true d c own) ∙ there) late) in_time
own_late path s c (Join d) t a own w late e in_time =
    by_join (λ o. o ≡ Performed t a → ⊥) (λ r f. absurd (cc)) s d (λ x at below off f. (
    let same : w.x ≡ x = same_Some w.x x (sym w.at ∙ ap (slice_get s.clients) (sym (eqb-true d c own)) ∙ at) in
    true_false _ (ap (λ (z : Client). is_joined z.phase) (sym same) ∙ w.on) off
    )) e
own_late path s c (Read d) t a own w late e in_time = true_false _ (late_too path c (Read d) (ap ClientMachine (eqb-true d c own)) refl (λ s there. refl) late) in_time
own_late path s c ReadServer t a own w late e in_time = absurd (cc)

late_more : (path : List Earlier) (s : State) (c : ℕ) (i : Instr) → is_at (ClientMachine c) i ≡ false → is_there s (Deliver c) ≡ true → (is_before (ClientMachine c) (machine_of i) || comes_late path (Deliver c)) ≡ true
    → comes_late (record { before = s; instr = i } ∷ path) (Deliver c) ≡ true
late_more path s c i off there late = rw (off, there, late) refl

or_true : (a b : Bool) → b ≡ true → (a || b) ≡ true
or_true true b e = refl
or_true false b e = e

stuck_stays : (path : List Earlier) (s : State) (i : Instr) (t : State) (a : Option Shown) → IsStuck path s → comes_late path i ≡ false → step s i ≡ Performed t a → IsStuck (record { before = s; instr = i } ∷ path) t
stuck_stays path s i t a k in_time e = go (is_at (ClientMachine k.c) i) refl
  where
    go : (b : Bool) → is_at (ClientMachine k.c) i ≡ b → IsStuck (record { before = s; instr = i } ∷ path) t
    go true own = absurd (own_late path s k.c i t a own k.waiting k.late e in_time)
    go false off = record {
      c = k.c;
      waiting = waiting_stays s i t a k.c e off k.waiting;
      late = late_more path s k.c i off (there_for k.c s k.waiting) (or_true (is_before (ClientMachine k.c) (machine_of i)) (comes_late path (Deliver k.c)) k.late);
    }

dropped : {X : Type 0} (n : ℕ) (xs : List X) → n < length xs → drop n xs ≡ [] → ⊥
dropped n [] less none = omega (arith, less)
dropped zero (x ∷ xs) less none = absurd (cc)
dropped (suc n) (x ∷ xs) less none = dropped n xs (omega (arith, less)) none

stuck_open : (path : List Earlier) (s : State) → IsStuck path s → is_settled s ≡ true → ⊥
stuck_open path s k settled =
    let q = (settled_is s settled).quiet k.c k.waiting.x k.waiting.at k.waiting.on in
    dropped k.waiting.x.revision s.log (ltb-true k.waiting.x.revision (length s.log) k.waiting.behind) q.no_downlink

pub stuck_none : (inserts count : ℕ) (texts : List (List ℕ)) (path : List Earlier) (s : State) → IsStuck path s → sessions_from inserts count texts path s ≡ []
stuck_none inserts = none_from inserts (λ count texts path s. IsStuck path s) (λ texts path s k e. stuck_open path s k (both_true (is_empty texts) (is_settled s) e).1)
    (λ count texts path s i t a k candidate in_time e. stuck_stays path s i t a k in_time e)

-- where a later machine goes first, a client that waits is stuck
not_own : (c : ℕ) (i : Instr) → is_before (ClientMachine c) (machine_of i) ≡ true → is_at (ClientMachine c) i ≡ false
not_own c (Edit d op) e = ne_eqb d c (λ same. let n = ltb-true c d e in omega (arith, n, same))
not_own c (Take d) e = refl
not_own c (Deliver d) e = ne_eqb d c (λ same. let n = ltb-true c d e in omega (arith, n, same))
not_own c (Acknowledge d) e = ne_eqb d c (λ same. let n = ltb-true c d e in omega (arith, n, same))
not_own c (Join d) e = ne_eqb d c (λ same. let n = ltb-true c d e in omega (arith, n, same))
not_own c (Read d) e = ne_eqb d c (λ same. let n = ltb-true c d e in omega (arith, n, same))
not_own c ReadServer e = refl

pub later_none : (inserts count : ℕ) (texts : List (List ℕ)) (path : List Earlier) (s : State) (c : ℕ) (i : Instr) → IsWaiting c s → is_before (ClientMachine c) (machine_of i) ≡ true → sessions_by inserts count texts path s i ≡ []
later_none inserts count texts path s c i w before = by_none inserts count texts path s i (λ t a e. (
    let off = not_own c i before in
    stuck_none inserts count (texts_after i texts) (record { before = s; instr = i } ∷ path) t (record {
      c = c;
      waiting = waiting_stays s i t a c e off w;
      late = late_more path s c i off (there_for c s w) (ap (λ (b : Bool). b || comes_late path (Deliver c)) before);
    })))
