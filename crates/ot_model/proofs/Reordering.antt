-- Two runs of the same instructions, with each machine's in the same order, lead to the same state.
use Rattle.std.proofs.Common.{◌≡◌, ℕ, suc, ◌<◌, ◌≤◌, List, [], ◌∷◌, ◌++◌, refl, sym, ap, ◌∙◌, subst, arith, inl, inr, Option, Some, None, Bool, true, false, cond}
use Rattle.std.proofs.lemmas.Option.{same_Some}
use Rattle.std.proofs.lemmas.List.{append-nil}
use Rattle.std.proofs.lemmas.Bool.{eqb-true, eq-eqb, ne_eqb}
use Rattle.std.proofs.lemmas.List.Elements.{filter-append}
use Rattle.std.proofs.lemmas.List.Sums.{sum_by-cons, sum_by-append}
use Rattle.std.specs.Prelude.{◌⊎◌, ◌==◌, count_by}
use Rattle.ot_model.specs.declared.shown.Refusal.TheVariants.{LinkEmpty}
use Rattle.std.specs.List.{filter}
use Rattle.ot_model.specs.Table.{State, Place, Performed, Refused, step, run, begin, with_shown}
use Rattle.ot_isa.specs.declared.instruction.Instr.{Instr}
use Rattle.ot_isa.specs.declared.instruction.Instr.TheVariants.{Edit, Take, Deliver, Acknowledge, Join, Read, ReadServer}
use Rattle.ot_model.specs.declared.shown.Shown.{Shown}
use Rattle.ot_model.specs.declared.shown.Reader.{Reader}
use Rattle.ot_model.specs.declared.shown.Reader.TheVariants as reader
use Rattle.ot_model.specs.Sound.{IsSound, IsInstr, AreInstrs, IsOutcomeSound}
use Rattle.ot_model.specs.OrderLaws.{AnyOrder, AnyOrderRuns, IsTooEarly, SameInstructions, TooEarlyStops}
use Rattle.ot_model.specs.Orders.{Machine, ClientMachine, ServerMachine, is_at, is_take, is_of, IsIndependent, AreSameOrders, AreSameShown, awaits}
use Rattle.ot_model.proofs.Algebra.{laws}
use Rattle.ot_model.proofs.Steps.{step_sound, opening_sound}
use Rattle.ot_model.proofs.Exchanging.{kind, commute, steps_of}
use Rattle.ot_model.proofs.Earlier.{Grew, grew_nothing, grew_on, grew_step, earlier}
use Rattle.ot_model.proofs.Awaiting.{run_first, sent_between}
use Rattle.ot_model.proofs.Runs.{run-append}

-- no machine performs both
abbrev pub IsApart : Instr → Instr → Type 0
IsApart i j = (w : Machine) → is_at w i ≡ true → is_at w j ≡ false

apart_by : (i j : Instr) → (is_at ServerMachine i ≡ true → is_at ServerMachine j ≡ false) → ((c : ℕ) → is_at (ClientMachine c) i ≡ true → is_at (ClientMachine c) j ≡ false) → IsApart i j
apart_by i j server clients (ClientMachine c) = clients c
apart_by i j server clients ServerMachine = server

pub apart_back : (i j : Instr) → IsApart i j → IsApart j i
apart_back i j apart w on = go (is_at w i) refl
  where
    go : (b : Bool) → is_at w i ≡ b → is_at w i ≡ false
    go true is = absurd (let off = apart w is in cc)
    go false is = is

take_at_server : (i : Instr) → is_take i ≡ true → is_at ServerMachine i ≡ true
take_at_server (Edit c op) e = absurd (cc)
take_at_server (Take c) e = refl
take_at_server (Deliver c) e = absurd (cc)
take_at_server (Acknowledge c) e = absurd (cc)
take_at_server (Join c) e = absurd (cc)
take_at_server (Read c) e = absurd (cc)
take_at_server ReadServer e = absurd (cc)

apart_independent : (i j : Instr) → IsApart i j → IsIndependent i j
apart_independent i j apart = record {
  clients = λ c. apart (ClientMachine c);
  take_first = λ take. apart ServerMachine (take_at_server i take);
  take_second = λ take. apart_back i j apart ServerMachine (take_at_server j take);
}

-- the client at whose machine an instruction is, if there is one
home : (j : Instr) → ((c : ℕ) × ((d : ℕ) → is_at (ClientMachine d) j ≡ (c == d))) ⊎ ((d : ℕ) → is_at (ClientMachine d) j ≡ false)
home (Edit c op) = inl (c, λ d. refl)
home (Take c) = inr (λ d. refl)
home (Deliver c) = inl (c, λ d. refl)
home (Acknowledge c) = inl (c, λ d. refl)
home (Join c) = inl (c, λ d. refl)
home (Read c) = inl (c, λ d. refl)
home ReadServer = inr (λ d. refl)

-- every instruction is at a machine
pub some_machine : (j : Instr) → (w : Machine) × (is_at w j ≡ true)
some_machine (Edit c op) = (ClientMachine c, eq-eqb c c refl)
some_machine (Take c) = (ServerMachine, refl)
some_machine (Deliver c) = (ClientMachine c, eq-eqb c c refl)
some_machine (Acknowledge c) = (ClientMachine c, eq-eqb c c refl)
some_machine (Join c) = (ServerMachine, refl)
some_machine (Read c) = (ClientMachine c, eq-eqb c c refl)
some_machine ReadServer = (ServerMachine, refl)

pub apart_or : (i j : Instr) → IsApart i j ⊎ ((w : Machine) × (is_at w i ≡ true) × (is_at w j ≡ true))
apart_or i j = at_server (is_at ServerMachine i) refl (is_at ServerMachine j) refl
  where
    at_client : (is_at ServerMachine i ≡ true → is_at ServerMachine j ≡ false) → (c : ℕ) → ((d : ℕ) → is_at (ClientMachine d) j ≡ (c == d)) → (b : Bool) → is_at (ClientMachine c) i ≡ b → IsApart i j ⊎ ((w : Machine) × (is_at w i ≡ true) × (is_at w j ≡ true))
    at_client server c is true on = inr (ClientMachine c, on, is c ∙ eq-eqb c c refl)
    at_client server c is false off =
        inl (apart_by i j server (λ d on. is d ∙ ne_eqb c d (λ e. absurd (let off_d = subst (λ (n : ℕ). is_at (ClientMachine n) i ≡ false) e off in cc))))

    at_home : (is_at ServerMachine i ≡ true → is_at ServerMachine j ≡ false) → ((c : ℕ) × ((d : ℕ) → is_at (ClientMachine d) j ≡ (c == d))) ⊎ ((d : ℕ) → is_at (ClientMachine d) j ≡ false) → IsApart i j ⊎ ((w : Machine) × (is_at w i ≡ true) × (is_at w j ≡ true))
    at_home server (inl (c, is)) = at_client server c is (is_at (ClientMachine c) i) refl
    at_home server (inr none) = inl (apart_by i j server (λ d on. none d))

    at_server : (b : Bool) → is_at ServerMachine i ≡ b → (d : Bool) → is_at ServerMachine j ≡ d → IsApart i j ⊎ ((w : Machine) × (is_at w i ≡ true) × (is_at w j ≡ true))
    at_server true on true on_j = inr (ServerMachine, on, on_j)
    at_server true on false off = at_home (λ e. off) (home j)
    at_server false off d is = at_home (λ e. absurd (cc)) (home j)

-- what a filter does with a first element
pub filter_yes : {X : Type 0} (p : X → Bool) (x : X) (xs : List X) → p x ≡ true → filter p (x ∷ xs) ≡ x ∷ filter p xs
filter_yes p x xs e = rw e refl

pub filter_no : {X : Type 0} (p : X → Bool) (x : X) (xs : List X) → p x ≡ false → filter p (x ∷ xs) ≡ filter p xs
filter_no p x xs e = rw e refl

head_or : {X : Type 0} → X → List X → X
head_or d [] = d
head_or d (x ∷ xs) = x

tail : {X : Type 0} → List X → List X
tail [] = []
tail (x ∷ xs) = xs

pub same_head : {X : Type 0} (x y : X) (xs ys : List X) → x ∷ xs ≡ y ∷ ys → x ≡ y
unfolding head_or
same_head x y xs ys e = ap (head_or x) e

pub same_tail : {X : Type 0} (x y : X) (xs ys : List X) → x ∷ xs ≡ y ∷ ys → xs ≡ ys
unfolding tail
same_tail x y xs ys e = ap tail e

-- each of these shares no machine with j
unfoldable pub AllApart : List Instr → Instr → Type 0
AllApart [] j = Unit {0}
AllApart (i ∷ is) j = IsApart i j × AllApart is j

-- where each machine of j has j first, j stands behind instructions that share no machine with it
pub found : (is : List Instr) (j : Instr) → ((w : Machine) → is_at w j ≡ true → (zs : List Instr) × (filter (is_at w) is ≡ j ∷ zs))
    → (pre : List Instr) × (post : List Instr) × (is ≡ pre ++ j ∷ post) × AllApart pre j
unfolding AllApart
found [] j first = absurd (let m = some_machine j in let f = first m.0 m.1 in let e = f.1 in cc)
found (i ∷ is) j first = elim (apart_or i j) [
  | inr (w, at_i, at_j) ↦
      let f = first w at_j in
      let same : i ≡ j = same_head i j (filter (is_at w) is) f.0 (sym (filter_yes (is_at w) i is at_i) ∙ f.1) in
      ([], is, ap (λ (k : Instr). k ∷ is) same, tt)
  | inl apart ↦
      let rest = found is j (λ w at_j. (let f = first w at_j in (f.0, sym (filter_no (is_at w) i is (apart_back i j apart w at_j)) ∙ f.1))) in
      (i ∷ rest.0, rest.1, ap (λ (ks : List Instr). i ∷ ks) rest.2, (apart, rest.3))
]

-- moved to the front, it leaves each machine its order
pub moved_front : (pre post : List Instr) (j : Instr) → AllApart pre j → AreSameOrders (pre ++ j ∷ post) (j ∷ (pre ++ post))
unfolding AllApart
moved_front [] post j all w = refl
moved_front (i ∷ pre) post j all w = go (moved_front pre post j all.1 w) (is_at w i) refl (is_at w j) refl
  where
    go : filter (is_at w) (pre ++ j ∷ post) ≡ filter (is_at w) (j ∷ (pre ++ post)) → (b : Bool) → is_at w i ≡ b → (d : Bool) → is_at w j ≡ d → filter (is_at w) (i ∷ (pre ++ j ∷ post)) ≡ filter (is_at w) (j ∷ i ∷ (pre ++ post))
    go rest true on true on_j = absurd (let off = all.0 w on in cc)
    go rest true on false off =
        filter_yes (is_at w) i (pre ++ j ∷ post) on ∙ ap (λ (ks : List Instr). i ∷ ks) (rest ∙ filter_no (is_at w) j (pre ++ post) off)
        ∙ sym (filter_no (is_at w) j (i ∷ (pre ++ post)) off ∙ filter_yes (is_at w) i (pre ++ post) on)
    go rest false off true on =
        filter_no (is_at w) i (pre ++ j ∷ post) off ∙ rest ∙ filter_yes (is_at w) j (pre ++ post) on
        ∙ sym (filter_yes (is_at w) j (i ∷ (pre ++ post)) on ∙ ap (λ (ks : List Instr). j ∷ ks) (filter_no (is_at w) i (pre ++ post) off))
    go rest false off false off_j =
        filter_no (is_at w) i (pre ++ j ∷ post) off ∙ rest ∙ filter_no (is_at w) j (pre ++ post) off_j
        ∙ sym (filter_no (is_at w) j (i ∷ (pre ++ post)) off_j ∙ filter_no (is_at w) i (pre ++ post) off)

-- without a first instruction that they share
pub same_rest : (j : Instr) (is js : List Instr) → AreSameOrders (j ∷ is) (j ∷ js) → AreSameOrders is js
same_rest j is js same w = go (is_at w j) refl
  where
    go : (b : Bool) → is_at w j ≡ b → filter (is_at w) is ≡ filter (is_at w) js
    go true on = same_tail j j (filter (is_at w) is) (filter (is_at w) js) (sym (filter_yes (is_at w) j is on) ∙ same w ∙ filter_yes (is_at w) j js on)
    go false off = sym (filter_no (is_at w) j is off) ∙ same w ∙ filter_no (is_at w) j js off

pub none_left : (is : List Instr) → AreSameOrders is [] → is ≡ []
none_left [] same = refl
none_left (i ∷ is) same = absurd (let m = some_machine i in let e = sym (filter_yes (is_at m.0) i is m.1) ∙ same m.0 in cc)

-- an element counts the same wherever it stands
pub count-moved : {X : Type 0} (p : X → Bool) (pre post : List X) (y : X) → count_by p (pre ++ y ∷ post) ≡ count_by p (y ∷ (pre ++ post))
count-moved {X} p pre post y =
    let f : X → ℕ = λ x. cond (p x) 1 0 in
    omega (arith, sum_by-append f pre (y ∷ post), sum_by-cons f y post, sum_by-cons f y (pre ++ post), sum_by-append f pre post)

pub count-cons : {X : Type 0} (p : X → Bool) (y : X) (xs ys : List X) → count_by p xs ≡ count_by p ys → count_by p (y ∷ xs) ≡ count_by p (y ∷ ys)
count-cons {X} p y xs ys e =
    let f : X → ℕ = λ x. cond (p x) 1 0 in
    omega (arith, sum_by-cons f y xs, sum_by-cons f y ys, e)

-- however they are counted
same_counts : (js is : List Instr) → AreSameOrders is js → (p : Instr → Bool) → count_by p is ≡ count_by p js
same_counts [] is same p = ap (count_by p) (none_left is same)
same_counts (j ∷ js) is same p =
    let cut = found is j (λ w at. (filter (is_at w) js, same w ∙ filter_yes (is_at w) j js at)) in
    let orders = same_rest j (cut.0 ++ cut.1) js (λ w. sym (moved_front cut.0 cut.1 j cut.3 w) ∙ ap (filter (is_at w)) (sym cut.2) ∙ same w) in
    ap (count_by p) cut.2 ∙ count-moved p cut.0 cut.1 j ∙ count-cons p j (cut.0 ++ cut.1) js (same_counts js (cut.0 ++ cut.1) orders p)

pub same_instructions : SameInstructions
same_instructions is js = same_counts js is

pub AreInstrs_split : (pre post : List Instr) (j : Instr) → AreInstrs (pre ++ j ∷ post) → IsInstr j × AreInstrs pre × AreInstrs (pre ++ post)
AreInstrs_split [] post j all = (all.0, tt, all.1)
AreInstrs_split (i ∷ pre) post j all = let rest = AreInstrs_split pre post j all.1 in (rest.0, (all.0, rest.1), (all.0, rest.2))

-- what is shown
with_shown-same : (xs ys : List Shown) (a : Option Shown) → AreSameShown xs ys → AreSameShown (with_shown xs a) (with_shown ys a)
with_shown-same xs ys None same = same
with_shown-same xs ys (Some l) same = λ w. filter-append (λ x. is_of w x.who) xs (l ∷ []) ∙ ap (λ (zs : List Shown). zs ++ filter (λ x. is_of w x.who) (l ∷ [])) (same w) ∙ sym (filter-append (λ x. is_of w x.who) ys (l ∷ []))

-- two lists that no machine both shows
two_shown : {X : Type 0} (p : X → Bool) (l k : X) (xs : List X) → (p l ≡ true → p k ≡ false) → filter p ((xs ++ l ∷ []) ++ k ∷ []) ≡ filter p ((xs ++ k ∷ []) ++ l ∷ [])
two_shown {X} p l k xs apart =
    filter-append p (xs ++ l ∷ []) (k ∷ []) ∙ ap (λ (zs : List X). zs ++ filter p (k ∷ [])) (filter-append p xs (l ∷ []))
    ∙ go (p l) refl (p k) refl
    ∙ sym (filter-append p (xs ++ k ∷ []) (l ∷ []) ∙ ap (λ (zs : List X). zs ++ filter p (l ∷ [])) (filter-append p xs (k ∷ [])))
  where
    go : (b : Bool) → p l ≡ b → (d : Bool) → p k ≡ d → (filter p xs ++ filter p (l ∷ [])) ++ filter p (k ∷ []) ≡ (filter p xs ++ filter p (k ∷ [])) ++ filter p (l ∷ [])
    go true on true on_k = absurd (let off = apart on in cc)
    go true on false off = rw (on, off) (append-nil (filter p xs ++ l ∷ []) ∙ ap (λ (zs : List X). zs ++ l ∷ []) (sym (append-nil (filter p xs))))
    go false off true on = rw (on, off) (ap (λ (zs : List X). zs ++ k ∷ []) (append-nil (filter p xs)) ∙ sym (append-nil (filter p xs ++ k ∷ [])))
    go false off false off_k = rw (off, off_k) refl

swapped : (xs : List Shown) (a b : Option Shown) → ((w : Machine) (l k : Shown) → a ≡ Some l → b ≡ Some k → is_of w l.who ≡ true → is_of w k.who ≡ false)
    → AreSameShown (with_shown (with_shown xs a) b) (with_shown (with_shown xs b) a)
swapped xs None b apart w = refl
swapped xs (Some l) None apart w = refl
swapped xs (Some l) (Some k) apart w = two_shown (λ x. is_of w x.who) l k xs (apart w l k refl refl)

-- a machine shows what its own reads show
client_of : (w : Machine) (c : ℕ) (i : Instr) → is_at (ClientMachine c) i ≡ true → is_of w (reader.Client c) ≡ true → is_at w i ≡ true
client_of (ClientMachine d) c i at is = subst (λ (n : ℕ). is_at (ClientMachine n) i ≡ true) (eqb-true c d is) at
client_of ServerMachine c i at is = absurd (cc)

server_of : (w : Machine) → is_of w reader.Server ≡ true → is_at w ReadServer ≡ true
server_of (ClientMachine d) is = absurd (cc)
server_of ServerMachine is = refl

shown_at : (s : State) (i : Instr) (t : State) (a : Option Shown) → step s i ≡ Performed t a → (w : Machine) (l : Shown) → a ≡ Some l → is_of w l.who ≡ true → is_at w i ≡ true
shown_at s i t a e w l is of = elim (kind s i t a e) [
  | inl m ↦ client_of w m.c i m.own (subst (λ (r : Reader). is_of w r ≡ true) (m.shows l is) of)
  | inr (inl k) ↦ absurd (let nothing : None ≡ Some l = sym k.nothing ∙ is in cc)
  | inr (inr r) ↦
      let who : l.who ≡ reader.Server = ap (λ (x : Shown). x.who) (same_Some l (record { who = reader.Server; list = s.server }) (sym is ∙ r.list)) in
      subst (λ (k : Instr). is_at w k ≡ true) (sym r.is) (server_of w (subst (λ (x : Reader). is_of w x ≡ true) who of))
]

-- a run goes on from its first instruction
pub run_then : (i : Instr) (is : List Instr) (p : Place) (t : State) (a : Option Shown) → step p.state i ≡ Performed t a → run (i ∷ is) p ≡ run is (record { state = t; shown = with_shown p.shown a })
run_then i is p t a e = rw (run, e) refl

-- a run to this state, with the same lists shown
abbrev pub Arrives : List Instr → Place → Place → Type 0
Arrives is p q = (r : Place) × (run is p ≡ Some r) × (q.state ≡ r.state) × AreSameShown q.shown r.shown

run_same : (is : List Instr) (p r q : Place) → p.state ≡ r.state → AreSameShown p.shown r.shown → run is p ≡ Some q → Arrives is r q
run_same [] p r q state shown e =
    let is = same_Some p q e in
    (r, refl, ap (λ (w : Place). w.state) (sym is) ∙ state, subst (λ (w : Place). AreSameShown w.shown r.shown) is shown)
run_same (i ∷ is) p r q state shown e =
    let f = run_first i is p q e in
    let there : step r.state i ≡ Performed f.0 f.1 = ap (λ (w : State). step w i) (sym state) ∙ f.2 in
    let rest = run_same is (record { state = f.0; shown = with_shown p.shown f.1 }) (record { state = f.0; shown = with_shown r.shown f.1 }) q refl (with_shown-same p.shown r.shown f.1 shown) f.3 in
    (rest.0, run_then i is r f.0 f.1 there ∙ rest.1, rest.2, rest.3)

-- a run that goes on has a step left
room : (pre post : List Instr) (j : Instr) (p q : Place) → run (pre ++ j ∷ post) p ≡ Some q → p.state.steps < 1000000
room [] post j p q e = let f = run_first j post p q e in (steps_of p.state j f.0 f.1 f.2).0
room (i ∷ pre) post j p q e = let f = run_first i (pre ++ j ∷ post) p q e in (steps_of p.state i f.0 f.1 f.2).0

pub sound_after : (s : State) (i : Instr) (t : State) (a : Option Shown) → IsSound s → IsInstr i → step s i ≡ Performed t a → IsSound t
sound_after s i t a sound is e = subst IsOutcomeSound e (step_sound laws s i sound is)

-- two instructions that share no machine show no lists of one machine
shown_apart : (s : State) (i j : Instr) (t u : State) (a b : Option Shown) → IsApart i j → step s i ≡ Performed t a → step s j ≡ Performed u b
    → (w : Machine) (l k : Shown) → a ≡ Some l → b ≡ Some k → is_of w l.who ≡ true → is_of w k.who ≡ false
shown_apart s i j t u a b apart first second w l k is_l is_k of = go (is_of w k.who) refl
  where
    go : (d : Bool) → is_of w k.who ≡ d → is_of w k.who ≡ false
    go true on = absurd (let off = apart w (shown_at s i t a first w l is_l of) in let on_j = shown_at s j u b second w k is_k on in cc)
    go false off = off

-- an instruction that shares no machine with those before it, and is performed at the start, can come first
pub to_front : (pre post : List Instr) (j : Instr) (p q : Place) (t : State) (b : Option Shown) → IsSound p.state → AreInstrs pre → AllApart pre j → run (pre ++ j ∷ post) p ≡ Some q → step p.state j ≡ Performed t b
    → Arrives (pre ++ post) (record { state = t; shown = with_shown p.shown b }) q
unfolding AllApart
to_front [] post j p q t b sound are all e first = (q, sym (run_then j post p t b first) ∙ e, refl, λ w. refl)
to_front (i ∷ pre) post j p q t b sound are all e first =
    let f = run_first i (pre ++ j ∷ post) p q e in
    let after : Place = record { state = f.0; shown = with_shown p.shown f.1 } in
    let below : suc p.state.steps < 1000000 = subst (λ (n : ℕ). n < 1000000) (steps_of p.state i f.0 f.1 f.2).1 (room pre post j after q f.3) in
    let both = commute p.state i j f.0 t f.1 b sound (apart_independent i j all.0) below f.2 first in
    let rest = to_front pre post j after q both.0 b (sound_after p.state i f.0 f.1 sound are.0 f.2) are.1 all.1 f.3 both.1 in
    let here : Place = record { state = both.0; shown = with_shown (with_shown p.shown f.1) b } in
    let there : Place = record { state = both.0; shown = with_shown (with_shown p.shown b) f.1 } in
    let same = run_same (pre ++ post) here there rest.0 refl (swapped p.shown f.1 b (shown_apart p.state i j f.0 t f.1 b all.0 f.2 first)) rest.1 in
    (same.0, run_then i (pre ++ post) (record { state = t; shown = with_shown p.shown b }) both.0 f.1 both.2 ∙ same.1, rest.2 ∙ same.2, λ w. rest.3 w ∙ same.3 w)

-- the same state, and each machine shows the same lists
abbrev AreSame : Place → Place → Type 0
AreSame q r = (q.state ≡ r.state) × AreSameShown q.shown r.shown

-- by the second run's instructions: each is moved to the front of the first run
any_order_from : (js is : List Instr) (p p' q r : Place) → IsSound p.state → AreInstrs is → AreSameOrders is js → p.state ≡ p'.state → AreSameShown p.shown p'.shown
    → run is p ≡ Some q → run js p' ≡ Some r → AreSame q r
any_order_from [] is p p' q r sound are same state shown first second =
    let none = none_left is same in
    let at_q : p ≡ q = same_Some p q (sym (ap (λ (ks : List Instr). run ks p) none) ∙ first) in
    let at_r : p' ≡ r = same_Some p' r second in
    (ap (λ (w : Place). w.state) (sym at_q) ∙ state ∙ ap (λ (w : Place). w.state) at_r, subst (λ (w : Place). AreSameShown q.shown w.shown) at_r (subst (λ (w : Place). AreSameShown w.shown p'.shown) at_q shown))
any_order_from (j ∷ js) is p p' q r sound are same state shown first second =
    let f = run_first j js p' r second in
    let early : step p.state j ≡ Performed f.0 f.1 = ap (λ (w : State). step w j) state ∙ f.2 in
    let cut = found is j (λ w at. (filter (is_at w) js, same w ∙ filter_yes (is_at w) j js at)) in
    let pre = cut.0 in
    let post = cut.1 in
    let parts = AreInstrs_split pre post j (subst AreInstrs cut.2 are) in
    let moved = to_front pre post j p q f.0 f.1 sound parts.1 cut.3 (ap (λ (ks : List Instr). run ks p) (sym cut.2) ∙ first) early in
    let orders = same_rest j (pre ++ post) js (λ w. sym (moved_front pre post j cut.3 w) ∙ ap (filter (is_at w)) (sym cut.2) ∙ same w) in
    let here : Place = record { state = f.0; shown = with_shown p.shown f.1 } in
    let there : Place = record { state = f.0; shown = with_shown p'.shown f.1 } in
    let rest = any_order_from js (pre ++ post) here there moved.0 r (sound_after p.state j f.0 f.1 sound parts.0 early) parts.2 orders refl (with_shown-same p.shown p'.shown f.1 shown) moved.1 f.3 in
    (moved.2 ∙ rest.0, λ w. moved.3 w ∙ rest.1 w)

pub any_order : AnyOrder
any_order clients present text is js q r few within short are same first second =
    any_order_from js is (begin clients present text) (begin clients present text) q r (opening_sound clients present text few within short) are same refl (λ w. refl) first second

-- the place where j is performed in the first run, and what has changed there for j
pub grown : (pre post : List Instr) (j : Instr) (p q : Place) → AllApart pre j → run (pre ++ j ∷ post) p ≡ Some q → (r : Place) × Grew j p.state r.state × (run (j ∷ post) r ≡ Some q) × (run pre p ≡ Some r)
unfolding AllApart
grown [] post j p q all e = (p, grew_nothing j p.state, e, refl)
grown (i ∷ pre) post j p q all e =
    let f = run_first i (pre ++ j ∷ post) p q e in
    let after : Place = record { state = f.0; shown = with_shown p.shown f.1 } in
    let rest = grown pre post j after q all.1 f.3 in
    let first = grew_step i j p.state f.0 f.1 all.0 (apart_back i j all.0 ServerMachine) f.2 in
    (rest.0, grew_on j p.state f.0 rest.0.state first rest.1, rest.2, run_then i pre p f.0 f.1 f.2 ∙ rest.3)

-- it is performed first, or what it awaits is sent before it in the first run
first_or_early : (pre post : List Instr) (j : Instr) (p q : Place) → AllApart pre j → run (pre ++ j ∷ post) p ≡ Some q
    → ((t : State) × (b : Option Shown) × (step p.state j ≡ Performed t b)) ⊎ ((step p.state j ≡ Refused LinkEmpty) × (1 ≤ count_by (awaits j) pre))
first_or_early pre post j p q all e =
    let there = grown pre post j p q all e in
    let f = run_first j post there.0 q there.2 in
    elim (earlier p.state there.0.state f.0 j f.1 there.1 f.2) [
      | inl now ↦ inl now
      | inr (empty, missing) ↦ inr (empty, sent_between j pre p there.0 there.3 missing)
    ]

-- so that it stands behind the instruction in the second order
sent_later : (pre post js : List Instr) (p : Instr → Bool) → AreSameOrders (pre ++ post) js → 1 ≤ count_by p pre → 1 ≤ count_by p js
sent_later pre post js p same some =
    let all = same_counts js (pre ++ post) same p in
    let parts = sum_by-append (λ (x : Instr). cond (p x) 1 0) pre post in
    omega (arith, all, parts, some)

later_early : (j : Instr) (js : List Instr) (p : Place) (t : State) (b : Option Shown) → step p.state j ≡ Performed t b → IsTooEarly js (record { state = t; shown = with_shown p.shown b }) → IsTooEarly (j ∷ js) p
later_early j js p t b e early = record {
  before = j ∷ early.before;
  early = early.early;
  after = early.after;
  split = ap (λ (ks : List Instr). j ∷ ks) early.split;
  place = early.place;
  reached = run_then j early.before p t b e ∙ early.reached;
  refused = early.refused;
  awaited = early.awaited;
}

-- the second order runs as far as each message was sent before it is received
any_order_runs_from : (js is : List Instr) (p q : Place) → IsSound p.state → AreInstrs is → AreSameOrders is js → run is p ≡ Some q
    → ((r : Place) × (run js p ≡ Some r)) ⊎ IsTooEarly js p
any_order_runs_from [] is p q sound are same first = inl (p, refl)
any_order_runs_from (j ∷ js) is p q sound are same first =
    let cut = found is j (λ w at. (filter (is_at w) js, same w ∙ filter_yes (is_at w) j js at)) in
    let run_cut : run (cut.0 ++ j ∷ cut.1) p ≡ Some q = ap (λ (ks : List Instr). run ks p) (sym cut.2) ∙ first in
    let parts = AreInstrs_split cut.0 cut.1 j (subst AreInstrs cut.2 are) in
    let orders = same_rest j (cut.0 ++ cut.1) js (λ w. sym (moved_front cut.0 cut.1 j cut.3 w) ∙ ap (filter (is_at w)) (sym cut.2) ∙ same w) in
    elim (first_or_early cut.0 cut.1 j p q cut.3 run_cut) [
      | inr (empty, sent) ↦ inr (record { before = []; early = j; after = js; split = refl; place = p; reached = refl; refused = empty; awaited = sent_later cut.0 cut.1 js (awaits j) orders sent })
      | inl (t, b, e) ↦
          let moved = to_front cut.0 cut.1 j p q t b sound parts.1 cut.3 run_cut e in
          let there : Place = record { state = t; shown = with_shown p.shown b } in
          elim (any_order_runs_from js (cut.0 ++ cut.1) there moved.0 (sound_after p.state j t b sound parts.0 e) parts.2 orders moved.1) [
            | inl (r, f) ↦ inl (r, run_then j js p t b e ∙ f)
            | inr early ↦ inr (later_early j js p t b e early)
          ]
    ]

pub any_order_runs : AnyOrderRuns
any_order_runs clients present text is js q few within short are same first =
    elim (any_order_runs_from js is (begin clients present text) q (opening_sound clients present text few within short) are same first) [
      | inl (r, second) ↦ inl (let alike = any_order clients present text is js q r few within short are same first second in (r, second, alike.0, alike.1))
      | inr early ↦ inr early
    ]

-- past a refusal no run comes
stops_at : (i : Instr) (is : List Instr) (p : Place) → step p.state i ≡ Refused LinkEmpty → run (i ∷ is) p ≡ None
stops_at i is p e = rw (run, e) refl

pub too_early_stops : TooEarlyStops
too_early_stops is p early =
    ap (λ (ks : List Instr). run ks p) early.split ∙ run-append early.before (early.early ∷ early.after) p early.place early.reached ∙ stops_at early.early early.after early.place early.refused
