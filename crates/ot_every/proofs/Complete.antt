-- Every session whose edits insert one text has one that is listed with the same instructions in the same order on each machine.
use Rattle.std.proofs.Common.{◌≡◌, ℕ, zero, suc, ◌≤◌, List, [], ◌∷◌, length, replicate, refl, sym, ap, ◌∙◌, subst, arith, inl, inr, Some, true, false, cond}
use Rattle.std.proofs.lemmas.Option.{same_Some}
use Rattle.std.proofs.lemmas.List.Sums.{sum_by-cons}
use Rattle.std.specs.Prelude.{count_by}
use Rattle.std.specs.List.{filter}
use Rattle.ot_operation.specs.Operation.{Operation}
use Rattle.ot_isa.specs.declared.instruction.Instr.{Instr}
use Rattle.ot_isa.specs.declared.instruction.Instr.TheVariants.{Edit, Take, Deliver, Acknowledge, Join, Read, ReadServer}
use Rattle.ot_isa.specs.declared.builder.TheConstants.{CLIENT_LIMIT, START_LIMIT}
use Rattle.ot_model.specs.Table.{Place, run, with_shown, begin, opening}
use Rattle.ot_model.specs.Sound.{AreInstrs}
use Rattle.ot_model.specs.Orders.{is_at, AreSameOrders}
use Rattle.ot_model.proofs.Steps.{opening_sound}
use Rattle.ot_model.proofs.Awaiting.{run_first}
use Rattle.ot_model.proofs.Reordering.{AllApart, same_instructions}
use Rattle.ot_every.specs.Listing.{machine_of, Earlier, texts_after, is_empty, is_settled, sessions_from}
use Rattle.ot_every.specs.Laws.{is_edit}
use Rattle.ot_every.proofs.Lists.{IsIn, in_filter, filter_cases}
use Rattle.ot_every.proofs.Forms.{IsListed}
use Rattle.ot_every.proofs.Machines.{machine_at}
use Rattle.ot_every.proofs.Nexts.{IsNext, next_take, next_deliver, next_acknowledge, next_join}
use Rattle.ot_every.proofs.Listed.{GoesOn, goes_listed}
use Rattle.ot_every.proofs.Least.{AreLeast, NoneLate, late_on, ordered}

-- the edits have the texts in turn
abbrev pub AreNext : ℕ → List (List ℕ) → List Instr → Type 0
AreNext inserts texts [] = is_empty texts ≡ true
AreNext inserts texts (i ∷ is) = IsNext inserts texts i × AreNext inserts (texts_after i texts) is

nothing_apart : (k : Instr) → AllApart [] k
unfolding AllApart
nothing_apart k = tt

-- an order in which nothing comes late goes on from its start to its end
pub goes_on : (inserts : ℕ) (path : List Earlier) (p q : Place) (texts : List (List ℕ)) (is : List Instr) → run is p ≡ Some q → AreLeast p.state is → NoneLate path is → AreNext inserts texts is → is_settled q.state ≡ true → GoesOn inserts texts path p.state is
goes_on inserts path p q texts [] e least none next settled = (next, ap (λ (w : Place). is_settled w.state) (same_Some p q e) ∙ settled)
goes_on inserts path p q texts (i ∷ is) e least none next settled =
    let f = run_first i is p q e in (
      f.0,
      f.1,
      f.2,
      next.0,
      none [] is i refl (nothing_apart i),
      goes_on inserts (record { before = p.state; instr = i } ∷ path) (record { state = f.0; shown = with_shown p.shown f.1 }) q (texts_after i texts) is f.3 (least.1 f.0 f.1 f.2) (late_on path p q i is e least.0 none) next.1 settled,
    )

-- ---- edits of one text

-- an edit inserts the text alone, and nothing is read
abbrev pub HasText : ℕ → List ℕ → Instr → Type 0
HasText inserts text (Edit c op) = IsListed text 0 op.base inserts op.image
HasText inserts text (Take c) = Unit {0}
HasText inserts text (Deliver c) = Unit {0}
HasText inserts text (Acknowledge c) = Unit {0}
HasText inserts text (Join c) = Unit {0}
HasText inserts text (Read c) = ⊥
HasText inserts text ReadServer = ⊥

-- what is in one order is in the other
pub in_same : (is js : List Instr) (k : Instr) → AreSameOrders is js → IsIn k js → IsIn k is
in_same is js k same h =
    let w = machine_of k in
    let there : IsIn k (filter (is_at w) js) = in_filter (is_at w) k js h (machine_at k) in
    (filter_cases (is_at w) k is (subst (λ (ks : List Instr). IsIn k ks) (sym (same w)) there)).0

pub edit_counts : (c : ℕ) (op : Operation ℕ) (is : List Instr) → count_by is_edit (Edit c op ∷ is) ≡ suc (count_by is_edit is)
edit_counts c op is = let e = sum_by-cons (λ (x : Instr). cond (is_edit x) 1 0) (Edit c op) is in omega (arith, e)

pub other_counts : (i : Instr) (is : List Instr) → is_edit i ≡ false → count_by is_edit (i ∷ is) ≡ count_by is_edit is
other_counts i is off = let e = sum_by-cons (λ (x : Instr). cond (is_edit x) 1 0) i is in let z : ◌≡◌ {A = ℕ} (cond (is_edit i) 1 0) 0 = rw off refl in omega (arith, e, z)

-- so many copies of the text are the texts
next_text : (inserts : ℕ) (text : List ℕ) (n : ℕ) (i : Instr) (is : List Instr) → HasText inserts text i → count_by is_edit (i ∷ is) ≡ n
    → IsNext inserts (replicate n text) i × (m : ℕ) × (texts_after i (replicate n text) ≡ replicate m text) × (count_by is_edit is ≡ m)
next_text inserts text zero (Edit c op) is has e = absurd (let f = edit_counts c op is in omega (arith, e, f))
next_text inserts text (suc n) (Edit c op) is has e = (has, n, refl, (let f = edit_counts c op is in omega (arith, e, f)))
next_text inserts text n (Take c) is has e = (next_take inserts (replicate n text) c, n, refl, sym (other_counts (Take c) is refl) ∙ e)
next_text inserts text n (Deliver c) is has e = (next_deliver inserts (replicate n text) c, n, refl, sym (other_counts (Deliver c) is refl) ∙ e)
next_text inserts text n (Acknowledge c) is has e = (next_acknowledge inserts (replicate n text) c, n, refl, sym (other_counts (Acknowledge c) is refl) ∙ e)
next_text inserts text n (Join c) is has e = (next_join inserts (replicate n text) c, n, refl, sym (other_counts (Join c) is refl) ∙ e)
next_text inserts text n (Read c) is has e = absurd has
next_text inserts text n ReadServer is has e = absurd has

pub are_next : (inserts : ℕ) (text : List ℕ) (n : ℕ) (is : List Instr) → ((k : Instr) → IsIn k is → HasText inserts text k) → count_by is_edit is ≡ n → AreNext inserts (replicate n text) is
are_next inserts text zero [] has e = refl
are_next inserts text (suc n) [] has e = absurd (omega (arith, e))
are_next inserts text n (i ∷ is) has e =
    let f = next_text inserts text n i is (has i (inl refl)) e in
    (f.0, subst (λ (texts : List (List ℕ)). AreNext inserts texts is) (sym f.2) (are_next inserts text f.1 is (λ k h. has k (inr h)) f.3))

counts_all : (is : List Instr) → count_by (λ (x : Instr). true) is ≡ length is
counts_all [] = refl
counts_all (i ∷ is) = let e = sum_by-cons (λ (x : Instr). cond true 1 0) i is in let r = counts_all is in omega (arith, e, r)

pub same_length : (is js : List Instr) → AreSameOrders is js → length is ≡ length js
same_length is js same = sym (counts_all is) ∙ same_instructions is js same (λ x. true) ∙ counts_all js

pub complete_of : (clients present inserts : ℕ) (start text : List ℕ) (is : List Instr) (q : Place) → clients ≤ CLIENT_LIMIT → present ≤ clients → length start ≤ START_LIMIT → AreInstrs is
    → run is (begin clients present start) ≡ Some q → is_settled q.state ≡ true → ((k : Instr) → IsIn k is → HasText inserts text k)
    → (js : List Instr) × IsIn js (sessions_from inserts (length is) (replicate (count_by is_edit is) text) [] (opening clients present start)) × AreSameOrders is js
complete_of clients present inserts start text is q few within short are e settled has =
    let p = begin clients present start in
    let o = ordered (length is) is p q refl (opening_sound clients present start few within short) are e in
    let n = count_by is_edit is in
    let counts : count_by is_edit o.order ≡ n = sym (same_instructions is o.order o.same is_edit) in
    let next = are_next inserts text n o.order (λ k h. has k (in_same is o.order k o.same h)) counts in
    let goes = goes_on inserts [] p o.place (replicate n text) o.order o.runs o.least (λ pre post k cut all. refl) next (ap is_settled (sym o.state) ∙ settled) in
    (o.order, subst (λ (m : ℕ). IsIn o.order (sessions_from inserts m (replicate n text) [] (opening clients present start))) (sym (same_length is o.order o.same)) (goes_listed inserts (replicate n text) [] p.state o.order goes), o.same)
