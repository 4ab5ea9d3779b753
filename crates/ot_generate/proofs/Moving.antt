-- Which instructions are performed.
use Rattle.std.proofs.Common.{◌≡◌, ℕ, zero, suc, ◌+◌, ◌-◌, ◌<◌, ◌≤◌, List, [], ◌∷◌, length, drop, refl, sym, ap, ◌∙◌, arith, Bool, true, false, Option, Some, None, Result, Ok, Err, IfOk}
use Rattle.std.proofs.lemmas.List.{drop_all}
use Rattle.std.proofs.lemmas.Option.{slice_get_within}
use Rattle.std.specs.Prelude.{slice_get, if◌then◌else◌, ◌==◌}
use Rattle.std.specs.Option.{option_map}
use Rattle.std.proofs.lemmas.Bool.{eqb-true}
use Rattle.std.proofs.lemmas.Option.{same_Some}
use Rattle.ot_isa.specs.declared.instruction.Instr.{Instr}
use Rattle.ot_isa.specs.declared.instruction.Instr.TheVariants.{Edit, Acknowledge, ReadServer}
use Rattle.ot_model.specs.declared.shown.Shown.{Shown}
use Rattle.ot_model.specs.Operation.{Operation, inserted}
use Rattle.ot_model.specs.Sound.{IsSound}
use Rattle.ot_model.specs.Table.{Client, Entry, State, is_joined, step, Performed}
use Rattle.ot_model.proofs.Algebra.{laws}
use Rattle.ot_model.proofs.States.{acknowledged_kept}
use Rattle.ot_machine.specs.Answers.{IsPerformed}
use Rattle.ot_machine.specs.Readers.{ClientHas, head_at, head_of}
use Rattle.ot_machine.specs.declared.state.Head.{Head}
use Rattle.ot_machine.specs.declared.state.Head.TheVariants.{Ack, Op}
use Rattle.ot_isa.specs.declared.elements.Tagged.{Tagged}
use Rattle.ot_machine.proofs.RowLaws.{edit_is, not_full, performs}
use Rattle.ot_generate.specs.Left.{drain_due, owed}
use Rattle.ot_generate.specs.Walks.{WalkView, IsWalk, HasReceived, HasSpare, MayMake, MayEdit}
use Rattle.ot_generate.proofs.Owing.{has, owes, same_client, within}

-- there is an entry for the client at the head of its link
pub head_entry : (c k : ℕ) (log : List Entry) (head : Head) → option_map (head_of c k) (slice_get log k) ≡ Some head → (h : Entry) × (slice_get log k ≡ Some h) × (head_of c k h ≡ head)
head_entry c k log head e = go (slice_get log k) refl e
  where
    go : (o : Option Entry) → slice_get log k ≡ o → option_map (head_of c k) o ≡ Some head → (h : Entry) × (slice_get log k ≡ Some h) × (head_of c k h ≡ head)
    go None at e = absurd (cc)
    go (Some h) at e = (h, at, same_Some (head_of c k h) head e)

is_own : (own : Bool) (k : ℕ) → ◌≡◌ {A = Head} (if own then Ack else Op k) Ack → own ≡ true
is_own true k e = refl
is_own false k e = absurd (cc)

pub head_on : (s : State) (c : ℕ) (x : Client) (head : Head) → is_joined x.phase ≡ true → head_at s c 0 x ≡ Some head
    → option_map (head_of c (x.revision + 0)) (slice_get s.log (x.revision + 0)) ≡ Some head
head_on s c x head on e = rw on at e

slice_get_none : {X : Type 0} (xs : List X) (i : ℕ) → slice_get xs i ≡ None → length xs ≤ i
slice_get_none [] i e = omega arith
slice_get_none (x ∷ xs) zero e = absurd (cc)
slice_get_none (x ∷ xs) (suc i) e = let f = slice_get_none xs i e in omega arith

pub at_zero : (r : ℕ) → r + 0 ≡ r
at_zero r = omega arith

pub performs_acknowledge : (s : State) (c : ℕ) → IsSound s → s.steps < 1000000 → ClientHas s c (λ x. is_joined x.phase) true → ClientHas s c (head_at s c 0) (Some Ack) → IsPerformed (step s (Acknowledge c))
performs_acknowledge s c (start, text, sound) below joined head =
    let j = has s c (λ x. is_joined x.phase) true joined in
    let x = j.0 in
    let f = has s c (head_at s c 0) (Some Ack) head in
    let here : head_at s c 0 x ≡ Some Ack = ap (head_at s c 0) (same_client s c x f.0 j.1 f.1) ∙ f.2 in
    let entry = head_entry c (x.revision + 0) s.log Ack (head_on s c x Ack j.2 here) in
    let at : slice_get s.log x.revision ≡ Some entry.0 = ap (slice_get s.log) (sym (at_zero x.revision)) ∙ entry.1 in
    let own : (entry.0.maker == c) ≡ true = is_own (entry.0.maker == c) (x.revision + 0) entry.2 in
    let kept = acknowledged_kept laws start text s c x entry.0 sound j.1 at (eqb-true entry.0.maker c own) j.2 in
    rw (j.1, not_full s.steps below, j.2, at, own, kept.1) tt

-- the walk's count of steps leaves room for one more
pub below_limit : (w : WalkView) → IsWalk w → w.state.steps < 1000000
below_limit w kept =
    let a = kept.counted in
    let b = kept.fits in
    let c = kept.most in
    omega arith

-- a receipt
pub may_acknowledge : (w : WalkView) (c spare : ℕ) → IsWalk w → HasSpare w spare → drain_due w.is_open ≤ spare
    → ClientHas w.state c (λ x. is_joined x.phase) true → ClientHas w.state c (head_at w.state c 0) (Some Ack) → MayMake w (Acknowledge c)
may_acknowledge w c spare kept room due_is joined head =
    let inside = within w.state c (λ x. is_joined x.phase) true joined in
    let clients = kept.clients in
    record {
      performed = performs_acknowledge w.state c kept.sound (below_limit w kept) joined head;
      client = omega arith;
      room = omega arith;
    }

-- where nothing stands at the head, all is received
nothing_ahead : (s : State) (c : ℕ) (x : Client) → is_joined x.phase ≡ true → head_at s c 0 x ≡ None → drop x.revision s.log ≡ []
nothing_ahead s c x on none = go (slice_get s.log x.revision) refl
  where
    here : option_map (head_of c (x.revision + 0)) (slice_get s.log (x.revision + 0)) ≡ None
    here = rw on at none

    go : (o : Option Entry) → slice_get s.log x.revision ≡ o → drop x.revision s.log ≡ []
    go None at = drop_all x.revision s.log (slice_get_none s.log x.revision at)
    go (Some h) at =
        let there : slice_get s.log (x.revision + 0) ≡ Some h = ap (slice_get s.log) (at_zero x.revision) ∙ at in
        let clash : Some (head_of c (x.revision + 0) h) ≡ None = ap (option_map (head_of c (x.revision + 0))) (sym there) ∙ here in
        absurd (cc)

pub has_received : (s : State) (c : ℕ) → ClientHas s c (head_at s c 0) None → HasReceived s c
has_received s c none x at on =
    let f = has s c (head_at s c 0) None none in
    nothing_ahead s c x on (ap (head_at s c 0) (same_client s c x f.0 at f.1) ∙ f.2)

-- an edit
pub may_edit : (w : WalkView) (c count : ℕ) (list : List Tagged) (op : Operation ℕ) → IsWalk w → MayEdit w c → ClientHas w.state c (λ x. x.list) list → ClientHas w.state c (λ x. x.count) count
    → op.base ≡ length list → inserted op ≤ 15000 - count → MayMake w (Edit c op)
may_edit w c count list op kept may lists counts base few =
    let j = has w.state c (λ x. is_joined x.phase) true may.joined in
    let x = j.0 in
    let l = has w.state c (λ z. z.list) list lists in
    let n = has w.state c (λ z. z.count) count counts in
    let same_list : x.list ≡ list = ap (λ (z : Client). z.list) (same_client w.state c x l.0 j.1 l.1) ∙ l.2 in
    let same_count : x.count ≡ count = ap (λ (z : Client). z.count) (same_client w.state c x n.0 j.1 n.1) ∙ n.2 in
    let most : x.count ≤ 15000 = kept.sound.2.counts c x j.1 in
    let fits : op.base ≡ length x.list = base ∙ ap length (sym same_list) in
    let room : x.count + inserted op ≤ 15000 = omega arith in
    let inside = slice_get_within w.state.clients c x j.1 in
    let clients = kept.clients in
    let row = edit_is w.state c x op j.1 (below_limit w kept) j.2 fits room in
    record { performed = performs _ _ _ row; client = omega arith; room = may.room }

-- an edit that was made, if one was
pub may_make_edit : {E : Type 0} (w : WalkView) (c count size : ℕ) (list : List Tagged) (r : Result (Operation ℕ) E) → IsWalk w → MayEdit w c → ClientHas w.state c (λ x. x.list) list → ClientHas w.state c (λ x. x.count) count
    → size ≡ length list → IfOk r (λ op. op.base ≡ size) → IfOk r (λ op. inserted op ≤ 15000 - count) → IfOk r (λ op. MayMake w (Edit c op))
may_make_edit w c count size list (Ok op) kept may lists counts same base few = may_edit w c count list op kept may lists counts (base ∙ same) few
may_make_edit w c count size list (Err e) kept may lists counts same base few = tt

-- the server's read
pub may_read_server : (w : WalkView) (spare : ℕ) → IsWalk w → HasSpare w spare → 1 ≤ spare → MayMake w ReadServer
may_read_server w spare kept room some =
    record {
      performed = rw (not_full w.state.steps (below_limit w kept)) tt;
      client = tt;
      room = omega arith;
    }

pub has_spare_open : (w : WalkView) → IsWalk w → w.is_open ≡ true → length w.recorded.instrs < w.room → (spare : ℕ) × HasSpare w spare × (1 ≤ spare)
has_spare_open w kept on less =
    let none : owed w.is_open w.state ≡ 0 = ap (λ b. owed b w.state) on in
    (w.room - length w.recorded.instrs, omega arith, omega arith)

-- an instruction that is made finds the record with room
pub has_room : (w : WalkView) (t : State) (i : Instr) (shown : Option Shown) → IsWalk w → MayMake w i → step w.state i ≡ Performed t shown → length w.recorded.instrs < 100000
has_room w t i shown kept may row =
    let owing = owes w.is_open w.state t i shown row in
    let room = may.room in
    let most = kept.most in
    omega arith
