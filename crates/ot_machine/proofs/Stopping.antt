-- Where a run stops.
use Rattle.std.proofs.Common.{◌≡◌, ℕ, suc, ◌+◌, ◌<◌, ◌≤◌, List, [], ◌∷◌, ◌++◌, length, take, drop, refl, sym, ap, ◌∙◌, subst, arith, Some, None}
use Rattle.std.proofs.lemmas.List.{take-append-drop, take_all, append-nil, length-take-le}
use Rattle.std.proofs.lemmas.Option.{slice_get_within}
use Rattle.std.specs.Prelude.{slice_get}
use Rattle.ot_isa.specs.Program.{Program}
use Rattle.ot_isa.specs.declared.instruction.Instr.{Instr}
use Rattle.ot_model.specs.declared.shown.Refusal.{Refusal}
use Rattle.ot_model.specs.declared.shown.Refusal.TheVariants.{NoSuchClient, StepsFull, NotJoined, AlreadyJoined, BadBase, ClientFull, LinkEmpty, WrongHead, Memory}
use Rattle.ot_model.specs.Table.{State, Place, Outcome, Performed, Refused, NoRow, step, run, performed, begin}
use Rattle.ot_model.proofs.States.{drop_entry, take_entry}
use Rattle.ot_model.specs.Runs.{done, place_at, opening_of}
use Rattle.ot_machine.specs.Answers.{IsPerformed, IsRefusal}
use Rattle.ot_machine.specs.declared.outcome.Run.{Run}
use Rattle.ot_machine.specs.Ended.{IsStopAt, IsRun}
use Rattle.ot_model.proofs.Runs.{run-append, performed-append}

-- one more instruction
pub place_next : (s : Program) (p n : ℕ) (q r : Place) (i : Instr) → n ≡ p + 1 → place_at s p ≡ Some q → slice_get s.instrs p ≡ Some i → run (i ∷ []) q ≡ Some r → place_at s n ≡ Some r
place_next s p n q r i next here at moved =
    let more : n ≡ suc p = omega arith in
    ap (place_at s) more ∙ ap (λ is. run is (begin s.clients s.present s.start)) (take_entry s.instrs p i at) ∙ run-append (take p s.instrs) (i ∷ []) _ q here ∙ moved

-- how many are performed, from the place on
done_at : (s : Program) (p : ℕ) (q : Place) → p ≤ length s.instrs → place_at s p ≡ Some q → done s ≡ p + performed (drop p s.instrs) q.state
done_at s p q le here =
    ap (λ is. performed is (opening_of s)) (sym (take-append-drop p s.instrs))
    ∙ performed-append (take p s.instrs) (drop p s.instrs) (begin s.clients s.present s.start) q here
    ∙ ap (λ k. k + performed (drop p s.instrs) q.state) (length-take-le p s.instrs le)

-- the table's answer decides
past : (i : Instr) (is : List Instr) (q : State) (k : ℕ) → k ≡ performed (i ∷ is) q → IsPerformed (step q i) → 0 < k
past i is q k many ok = go (step q i) ok many
  where
    go : (o : Outcome) → IsPerformed o → k ≡ (elim o [ Performed t list ↦ suc (performed is t) | Refused r ↦ 0 | NoRow ↦ 0 ]) → 0 < k
    go (Performed t list) ok many = omega arith
    go (Refused r) ok many = absurd ok
    go NoRow ok many = absurd ok

stuck : (i : Instr) (is : List Instr) (q : State) (r : Refusal) → step q i ≡ Refused r → performed (i ∷ is) q ≡ 0
stuck i is q r refused = rw (performed, refused) refl

pub stopped_at :
    (s : Program) (p : ℕ) (q : Place) (i : Instr) (r : Refusal) → place_at s p ≡ Some q → slice_get s.instrs p ≡ Some i → IsRefusal (step q.state i) r → IsStopAt s q.state p r
stopped_at s p q i r here at refused = go r refused
  where
    inside : p < length s.instrs
    inside = slice_get_within s.instrs p i at

    many : done s ≡ p + performed (i ∷ drop (suc p) s.instrs) q.state
    many = done_at s p q (let e = inside in omega arith) here ∙ ap (λ is. p + performed is q.state) (drop_entry s.instrs p i at)

    table : (x : Refusal) → step q.state i ≡ Refused x → (p ≡ done s) × ((j : Instr) × (slice_get s.instrs p ≡ Some j) × (step q.state j ≡ Refused x))
    table x e = let none = stuck i (drop (suc p) s.instrs) q.state x e in let all = many in (omega arith, (i, at, e))

    go : (x : Refusal) → IsRefusal (step q.state i) x → IsStopAt s q.state p x
    go NoSuchClient e = table NoSuchClient e
    go StepsFull e = table StepsFull e
    go NotJoined e = table NotJoined e
    go AlreadyJoined e = table AlreadyJoined e
    go BadBase e = table BadBase e
    go ClientFull e = table ClientFull e
    go LinkEmpty e = table LinkEmpty e
    go WrongHead e = table WrongHead e
    go Memory e = let some = past i (drop (suc p) s.instrs) q.state _ refl e in let all = many in omega arith

pub whole : (s : Program) (p : ℕ) (q : Place) → length s.instrs ≤ p → p ≤ length s.instrs → place_at s p ≡ Some q → (place_at s (length s.instrs) ≡ Some q) × (length s.instrs ≡ done s)
whole s p q le ge here =
    let same : p ≡ length s.instrs = omega arith in
    let at_end : place_at s (length s.instrs) ≡ Some q = subst (λ k. place_at s k ≡ Some q) same here in
    (at_end, ends at_end)
  where
    ends : place_at s (length s.instrs) ≡ Some q → length s.instrs ≡ done s
    ends at_end =
        let le : length s.instrs ≤ length s.instrs = omega arith in
        let all : run s.instrs (begin s.clients s.present s.start) ≡ Some q = subst (λ is. run is (begin s.clients s.present s.start) ≡ Some q) (take_all (length s.instrs) s.instrs le) at_end in
        let many : performed (s.instrs ++ []) (opening_of s) ≡ length s.instrs + 0 = performed-append s.instrs [] (begin s.clients s.present s.start) q all in
        let none : performed (s.instrs ++ []) (opening_of s) ≡ done s = ap (λ is. performed is (opening_of s)) (append-nil s.instrs) in
        omega (arith, many, none)

pub stopped_run :
    (s : Program) (p : ℕ) (q : Place) (i : Instr) (r : Refusal) (ended : Run)
    → place_at s p ≡ Some q → slice_get s.instrs p ≡ Some i → IsRefusal (step q.state i) r
    → ended.machine ≡ q.state → ended.shown.items ≡ q.shown → ended.stopped ≡ Some (p, r) → IsRun s ended
stopped_run s p q i r ended here at refused machine shown stopped =
    record {
      at = rw (stopped, machine, shown) here;
      stop = rw (stopped, machine) (stopped_at s p q i r here at refused);
    }

pub whole_run :
    (s : Program) (p : ℕ) (q : Place) (ended : Run) → length s.instrs ≤ p → p ≤ length s.instrs → place_at s p ≡ Some q
    → ended.machine ≡ q.state → ended.shown.items ≡ q.shown → ended.stopped ≡ None → IsRun s ended
whole_run s p q ended le ge here machine shown stopped =
    let fact = whole s p q le ge here in
    record { at = rw (stopped, machine, shown) fact.0; stop = rw stopped fact.1 }
