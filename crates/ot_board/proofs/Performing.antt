-- Steps that the machine performs one after the other, and why it performs no more of them.
use Rattle.std.proofs.Common.{◌≡◌, ℕ, zero, suc, ◌+◌, List, [], ◌∷◌, ◌++◌, length, take, drop, refl, sym, ap, ◌∙◌, subst, Option, Some, None, arith}
use Rattle.std.proofs.lemmas.Option.{same_Some}
use Rattle.std.specs.Prelude.{slice_get}
use Rattle.ot_isa.specs.declared.instruction.Instr.{Instr}
use Rattle.ot_isa.proofs.Lists.{take_got}
use Rattle.ot_model.specs.declared.shown.Refusal.{Refusal}
use Rattle.ot_model.specs.declared.shown.Shown.{Shown}
use Rattle.ot_model.specs.Table.{State, Place, Performed, Refused, step, run}
use Rattle.ot_model.specs.Session.{Session, Begins, IsAllowed, RunsTo, install}
use Rattle.ot_model.proofs.Runs.{run-append}
use Rattle.ot_model.proofs.Sessions.{part_unsent, runs_on, session_block}
use Rattle.ot_board.specs.declared.refusal.SettleRefusal.TheVariants as settle
use Rattle.ot_board.specs.Boards.{BoardView, IsBoard, IsStopAt}
use Rattle.ot_board.proofs.Boarding.{runs_one}

-- one step more
pub runs_more :
    (s t u : State) (steps : List Instr) (count : ℕ) (i : Instr) (shown : Option Shown)
    → RunsTo s (take count steps) t → slice_get steps count ≡ Some i → step t i ≡ Performed u shown → RunsTo s (take (count + 1) steps) u
runs_more s t u steps count i shown ran at row =
    subst (λ (is : List Instr). RunsTo s is u) (sym (take_got steps count i at)) (runs_on s t u (take count steps) (i ∷ []) ran (runs_one t u i shown row))

-- what stands before, at and behind a place
split_at : {X : Type 0} (xs : List X) (n : ℕ) (x : X) → slice_get xs n ≡ Some x → xs ≡ take n xs ++ x ∷ drop (suc n) xs
split_at [] n x at = absurd (cc)
split_at (z ∷ xs) zero x at = ap (λ w. w ∷ xs) (same_Some z x at)
split_at {X = X} (z ∷ xs) (suc n) x at = ap (λ (ws : List X). z ∷ ws) (split_at xs n x at)

-- a run of steps of which one is refused does not end
refused_stops : (is js : List Instr) (i : Instr) (r : Refusal) (p q z : Place) → run is p ≡ Some q → step q.state i ≡ Refused r → run (is ++ i ∷ js) p ≡ Some z → ⊥
refused_stops is js i r p q z first row whole =
    let none : run (i ∷ js) q ≡ None = rw (run, row) refl in
    let some : run (i ∷ js) q ≡ Some z = sym (run-append is (i ∷ js) p q first) ∙ whole in
    absurd (cc)

-- of a session whose start begins its client the table refuses no step
pub none_refused :
    (b : BoardView) (x : Session) → IsBoard b → IsAllowed x → Begins x.start b.state
    → (count : ℕ) (u : State) → RunsTo b.state (take count x.steps) u → IsStopAt u x.steps count settle.Stranger → ⊥
none_refused b x board allowed begins count u ran (i, r, at, row) =
    let start = allowed.start in
    let few = allowed.few in
    let counted = board.counted in
    let fits = board.fits in
    let whole = session_block x.start x.now x.steps allowed.leads.0 b.state begins.client begins (part_unsent start.state x.start start.part_in) begins.at (omega arith) allowed.leads.1 in
    let first : Place = record { state = b.state; shown = [] } in
    let last : Place = record { state = install b.state x.now begins.client.message (length x.steps + b.state.steps); shown = allowed.leads.0 } in
    refused_stops (take count x.steps) (drop (suc count) x.steps) i r first (record { state = u; shown = ran.0 }) last ran.1 row
    (subst (λ (is : List Instr). run is first ≡ Some last) (split_at x.steps count i at) whole)
