-- A schedule that is compared with a plan, instruction by instruction.
use Rattle.std.proofs.Common.{◌≡◌, ◌≢◌, ℕ, zero, suc, ◌+◌, ◌<◌, ◌≤◌, List, [], ◌∷◌, ◌++◌, length, take, set, replicate, refl, sym, ap, ◌∙◌, subst, arith, Bool, true, false, inl, inr}
use Rattle.std.specs.Prelude.{Option, Some, None, slice_get, slice_index, get_or, count_by, IsSome, IsTrue, ◌↔◌, ◌==◌}
use Rattle.std.proofs.lemmas.Bool.{cases_Bool, eqb-true}
use Rattle.std.proofs.Common.{eq-eqb}
use Rattle.std.proofs.lemmas.List.{take_all, get_or-set_same, get_or-set_other, length-set, length-replicate}
use Rattle.std.specs.List.{All}
use Rattle.std.proofs.lemmas.List.Sums.{count_by_more_yes, count_by_more_no}
use Rattle.std.proofs.lemmas.Option.{same_Some, get_or_from_slice_get, slice_get_within}
use Rattle.ot_isa.specs.Program.{Program, IsProgram, IsInstr, IsForClients}
use Rattle.ot_isa.specs.declared.instruction.Instr.{Instr}
use Rattle.ot_isa.specs.declared.instruction.Instr.TheVariants.{Edit, Take, Deliver, Acknowledge, Read, Join, ReadServer}
use Rattle.ot_model.specs.declared.shown.Refusal.{Refusal}
use Rattle.ot_model.specs.declared.shown.Shown.{Shown}
use Rattle.ot_model.specs.Operation.{Operation}
use Rattle.ot_model.specs.Table.{Client, State, Place, Performed, Refused, step, run, begin, opening, with_shown, IsQuiet}
use Rattle.ot_model.specs.Runs.{done, place_at}
use Rattle.ot_model.proofs.States.{take_entry}
use Rattle.ot_model.proofs.Runs.{run-append, place_at-next, reaches}
use Rattle.ot_plan.specs.Typing.{Action, edit_of}
use Rattle.ot_plan.specs.Plan.{PlanView}
use Rattle.ot_threads.specs.Follows.{is_edit_of, edits, actions_of, IsTyped, EndsQuiet, Follows}
use Rattle.ot_threads.specs.Stepping.{IsEdit, IsNext, counted, AreComplete}

-- the first n instructions are performed and lead to a state, and each edit among them is the plan's
pub record IsFollowed (p : PlanView) (s : Program) (n : ℕ) (t : State) (counts : List ℕ) : Type 0 where
  pub shown : List Shown
  pub here : place_at s n ≡ Some (record { state = t; shown = shown })
  pub counts_are : (c : ℕ) → slice_index counts c ≡ edits c (take n s.instrs)
  pub long : length counts ≡ s.clients
  pub typed : (i c : ℕ) (op : Operation ℕ) → i < n → slice_get s.instrs i ≡ Some (Edit c op) → IsTyped p s i c op

zeros : (n c : ℕ) → slice_index (replicate n 0) c ≡ 0
zeros zero c = refl
zeros (suc n) zero = refl
zeros (suc n) (suc c) = zeros n c

pub begun : (p : PlanView) (s : Program) (t : State) (counts : List ℕ) (n m : ℕ) (text : List ℕ) → n ≡ s.clients → m ≡ s.present → text ≡ s.start
    → t ≡ opening n m text → counts ≡ replicate n 0 → IsFollowed p s 0 t counts
begun p s t counts n m text clients present start opened none =
    record {
      shown = [];
      here = ap (λ (u : State). Some (record { state = u; shown = [] })) (sym (opened ∙ rw (clients, present, start) refl));
      counts_are = λ c. ap (λ (xs : List ℕ). slice_index xs c) none ∙ zeros n c;
      long = ap length none ∙ length-replicate n 0 ∙ clients;
      typed = λ i c op below at. absurd (omega (arith, below));
    }

-- one more instruction counts where it is an edit of the client
edits-yes : (is : List Instr) (n c : ℕ) (i : Instr) → slice_get is n ≡ Some i → is_edit_of c i ≡ true → edits c (take (suc n) is) ≡ suc (edits c (take n is))
edits-yes is n c i at it =
    let inside = slice_get_within is n i at in
    let more = count_by_more_yes (is_edit_of c) is n i inside (ap (is_edit_of c) (get_or_from_slice_get is n i i at) ∙ it) in
    let same : suc n ≡ n + 1 = omega arith in
    let all : edits c (take (suc n) is) ≡ edits c (take (n + 1) is) = ap (λ k. edits c (take k is)) same in
    omega (arith, more, all)

edits-no : (is : List Instr) (n c : ℕ) (i : Instr) → slice_get is n ≡ Some i → is_edit_of c i ≡ false → edits c (take (suc n) is) ≡ edits c (take n is)
edits-no is n c i at other =
    let inside = slice_get_within is n i at in
    let more = count_by_more_no (is_edit_of c) is n i inside (ap (is_edit_of c) (get_or_from_slice_get is n i i at) ∙ other) in
    let same : suc n ≡ n + 1 = omega arith in
    ap (λ k. edits c (take k is)) same ∙ more

counted-are : (is : List Instr) (n : ℕ) (counts : List ℕ) (i : Instr) → slice_get is n ≡ Some i → IsForClients (length counts) i
    → ((c : ℕ) → slice_index counts c ≡ edits c (take n is)) → (c : ℕ) → slice_index (counted counts i) c ≡ edits c (take (suc n) is)
counted-are is n counts (Edit d op) at inside are c = elim (cases_Bool (d == c)) [
  | inl same ↦
      let e : d ≡ c = eqb-true d c same in
      subst (λ k. slice_index (set counts d (suc (slice_index counts d))) k ≡ edits k (take (suc n) is)) e
      (get_or-set_same counts d (suc (slice_index counts d)) 0 inside ∙ ap suc (are d) ∙ sym (edits-yes is n d (Edit d op) at (eq-eqb d d refl)))
  | inr other ↦
      let differs : c ≢ d = λ e. apart d c e other in
      get_or-set_other counts d c (suc (slice_index counts d)) 0 differs ∙ are c ∙ sym (edits-no is n c (Edit d op) at other)
] where
  apart : (d c : ℕ) → c ≡ d → (d == c) ≡ false → ⊥
  apart d c e other = let same = eq-eqb d c (sym e) in cc
counted-are is n counts (Take d) at inside are c = are c ∙ sym (edits-no is n c (Take d) at refl)
counted-are is n counts (Deliver d) at inside are c = are c ∙ sym (edits-no is n c (Deliver d) at refl)
counted-are is n counts (Acknowledge d) at inside are c = are c ∙ sym (edits-no is n c (Acknowledge d) at refl)
counted-are is n counts (Read d) at inside are c = are c ∙ sym (edits-no is n c (Read d) at refl)
counted-are is n counts (Join d) at inside are c = are c ∙ sym (edits-no is n c (Join d) at refl)
counted-are is n counts ReadServer at inside are c = are c ∙ sym (edits-no is n c ReadServer at refl)

long-counted : (counts : List ℕ) (i : Instr) → length (counted counts i) ≡ length counts
long-counted counts (Edit d op) = length-set counts d (suc (slice_index counts d))
long-counted counts (Take d) = refl
long-counted counts (Deliver d) = refl
long-counted counts (Acknowledge d) = refl
long-counted counts (Read d) = refl
long-counted counts (Join d) = refl
long-counted counts ReadServer = refl

-- an edit that is the plan's next
typed-here : (p : PlanView) (s : Program) (n : ℕ) (t : State) (counts : List ℕ) → IsFollowed p s n t counts
    → (c : ℕ) (op : Operation ℕ) → IsEdit p (slice_index counts c) t c op → IsTyped p s n c op
typed-here p s n t counts f c op e =
    record {
      before = record { state = t; shown = f.shown };
      here = f.here;
      client = e.client;
      client_is = e.client_is;
      action = e.action;
      next = ap (slice_get (actions_of p c)) (sym (f.counts_are c)) ∙ e.next;
      edit = e.edit;
    }

typed-next : (p : PlanView) (s : Program) (n : ℕ) (t : State) (counts : List ℕ) (i : Instr) → IsFollowed p s n t counts → slice_get s.instrs n ≡ Some i → IsNext p counts t i
    → (k c : ℕ) (op : Operation ℕ) → k < suc n → slice_get s.instrs k ≡ Some (Edit c op) → IsTyped p s k c op
typed-next p s n t counts i f at next k c op below here = elim (cases_Bool (k == n)) [
  | inr other ↦ f.typed k c op (omega (arith, below, apart k n other)) here
  | inl same ↦
      let e : k ≡ n = eqb-true k n same in
      let is : i ≡ Edit c op = same_Some i (Edit c op) (sym at ∙ ap (slice_get s.instrs) (sym e) ∙ here) in
      subst (λ m. IsTyped p s m c op) (sym e) (typed-here p s n t counts f c op (subst (IsNext p counts t) is next))
] where
  apart : (k n : ℕ) → (k == n) ≡ false → k ≢ n
  apart k n other e = let same = eq-eqb k n e in cc

for-clients : (s : Program) (n : ℕ) (i : Instr) → IsProgram s → slice_get s.instrs n ≡ Some i → IsForClients s.clients i
for-clients s n i is at =
    let here : IsInstr s.clients (get_or s.instrs n i) = is.instrs_are n i (slice_get_within s.instrs n i at) in
    (subst (IsInstr s.clients) (get_or_from_slice_get s.instrs n i i at) here).0

pub followed : (p : PlanView) (s : Program) (n : ℕ) (t u : State) (counts more : List ℕ) (i : Instr) (shown : Option Shown)
    → IsProgram s → IsFollowed p s n t counts → slice_get s.instrs n ≡ Some i → IsNext p counts t i → step t i ≡ Performed u shown → more ≡ counted counts i → IsFollowed p s (n + 1) u more
followed p s n t u counts more i shown is f at next moved counted_is =
    let same : suc n ≡ n + 1 = omega arith in
    let inside : IsForClients s.clients i = for-clients s n i is at in
    let made : IsFollowed p s (suc n) u (counted counts i) = record {
      shown = with_shown f.shown shown;
      here = place_at-next s n (record { state = t; shown = f.shown }) i u shown f.here at moved;
      counts_are = counted-are s.instrs n counts i at (subst (λ k. IsForClients k i) (sym f.long) inside) f.counts_are;
      long = long-counted counts i ∙ f.long;
      typed = typed-next p s n t counts i f at next;
    } in
    subst (λ xs. IsFollowed p s (n + 1) u xs) (sym counted_is) (subst (λ k. IsFollowed p s k u (counted counts i)) same made)

-- the plan's next instruction is the one that stands here, where the schedule follows
pub next-from : (p : PlanView) (s : Program) (n : ℕ) (t : State) (counts : List ℕ) (i : Instr) → IsFollowed p s n t counts → slice_get s.instrs n ≡ Some i → Follows p s → IsNext p counts t i
next-from p s n t counts (Edit c op) f at all =
    let typed = all.typed n c op at in
    let place : typed.before ≡ record { state = t; shown = f.shown } = same_Some _ _ (sym typed.here ∙ f.here) in
    record {
      client = typed.client;
      client_is = ap (λ (q : Place). slice_get q.state.clients c) (sym place) ∙ typed.client_is;
      action = typed.action;
      next = ap (slice_get (actions_of p c)) (f.counts_are c) ∙ typed.next;
      edit = typed.edit;
    }
next-from p s n t counts (Take c) f at all = tt
next-from p s n t counts (Deliver c) f at all = tt
next-from p s n t counts (Acknowledge c) f at all = tt
next-from p s n t counts (Read c) f at all = tt
next-from p s n t counts (Join c) f at all = tt
next-from p s n t counts ReadServer f at all = tt

-- and it is performed
pub not-refused : (p : PlanView) (s : Program) (n : ℕ) (t : State) (counts : List ℕ) (i : Instr) (r : Refusal) → IsFollowed p s n t counts → slice_get s.instrs n ≡ Some i → step t i ≡ Refused r → Follows p s → ⊥
not-refused p s n t counts i r f at refused all =
    let inside = slice_get_within s.instrs n i at in
    let q : Place = record { state = t; shown = f.shown } in
    let stuck : run (i ∷ []) q ≡ None = rw (run, refused) refl in
    let none : place_at s (suc n) ≡ None =
    ap (λ is. run is (begin s.clients s.present s.start)) (take_entry s.instrs n i at) ∙ run-append (take n s.instrs) (i ∷ []) _ q f.here ∙ stuck in
    let reached : length s.instrs ≤ done s = (reaches s (length s.instrs) (omega arith)).1 (some (place_at s (length s.instrs)) all.ended.end all.ended.is) in
    let further : IsSome (place_at s (suc n)) = (reaches s (suc n) (omega (arith, inside))).0 (omega (arith, inside, reached)) in
    clash (place_at s (suc n)) none further
  where
    some : (o : Option Place) (q : Place) → o ≡ Some q → IsSome o
    some o q e = rw e refl

    clash : (o : Option Place) → o ≡ None → IsSome o → ⊥
    clash None e h = absurd (let x = h in cc)
    clash (Some q) e h = absurd (let x = e in cc)

pub never : {A : Type 0} → IsTrue false → A
never t = absurd (let clash = t in cc)

-- the end: the schedule follows where it is quiet and each client has made all its edits
pub record IsAllFollowed (p : PlanView) (s : Program) (t : State) (counts : List ℕ) : Type 0 where
  pub shown : List Shown
  pub here : place_at s (length s.instrs) ≡ Some (record { state = t; shown = shown })
  pub counts_are : (c : ℕ) → slice_index counts c ≡ edits c s.instrs
  pub typed : (i c : ℕ) (op : Operation ℕ) → slice_get s.instrs i ≡ Some (Edit c op) → IsTyped p s i c op

pub all-followed : (p : PlanView) (s : Program) (n : ℕ) (t : State) (counts : List ℕ) → IsFollowed p s n t counts → length s.instrs ≤ n → n ≤ length s.instrs → IsAllFollowed p s t counts
all-followed p s n t counts f ge le =
    let same : n ≡ length s.instrs = omega arith in
    record {
      shown = f.shown;
      here = subst (λ k. place_at s k ≡ Some (record { state = t; shown = f.shown })) same f.here;
      counts_are = λ c. f.counts_are c ∙ ap (edits c) (take_all n s.instrs ge);
      typed = λ i c op at. f.typed i c op (let inside = slice_get_within s.instrs i (Edit c op) at in omega (arith, inside, ge)) at;
    }

pub quiet-from : (p : PlanView) (s : Program) (t : State) (counts : List ℕ) → IsAllFollowed p s t counts → Follows p s → IsQuiet t
quiet-from p s t counts f all =
    let place : all.ended.end ≡ record { state = t; shown = f.shown } = same_Some _ _ (sym all.ended.is ∙ f.here) in
    subst (λ (q : Place). IsQuiet q.state) place all.ended.quiet

pub complete-from : (p : PlanView) (s : Program) (t : State) (counts : List ℕ) → IsAllFollowed p s t counts → Follows p s → AreComplete p counts
complete-from p s t counts f all c below = f.counts_are c ∙ all.complete c below

pub follows-from : (p : PlanView) (s : Program) (t : State) (counts : List ℕ) → s.clients ≡ p.clients → s.present ≡ p.present → s.start ≡ p.start
    → IsAllFollowed p s t counts → IsQuiet t → AreComplete p counts → Follows p s
follows-from p s t counts clients present start f quiet complete =
    record {
      clients = clients;
      present = present;
      start = start;
      typed = f.typed;
      complete = λ c below. sym (f.counts_are c) ∙ complete c below;
      ended = record { end = record { state = t; shown = f.shown }; is = f.here; quiet = quiet };
    }
