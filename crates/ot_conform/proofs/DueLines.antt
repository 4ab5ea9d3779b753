-- The line of an instruction that is performed at a place of a run has a JSON form.
use Rattle.std.proofs.Common.{◌≡◌, ℕ, suc, ◌≤◌, List, [], ◌∷◌, length, take, Option, Some, None, Bool, subst, arith}
use Rattle.std.specs.Prelude.{slice_get}
use Rattle.std.proofs.lemmas.List.Elements.{All-tail, All-take}
use Rattle.std.proofs.lemmas.Option.{same_Some, slice_get_within}
use Rattle.ot_isa.specs.Program.{Program, IsProgram}
use Rattle.ot_isa.specs.Program as isa
use Rattle.ot_isa.specs.declared.instruction.Instr.{Instr}
use Rattle.ot_model.specs.declared.shown.Shown.{Shown}
use Rattle.ot_model.specs.Runs.{place_at}
use Rattle.ot_model.specs.Sound.{IsOutcomeSound, IsSound}
use Rattle.ot_model.specs.Table.{Outcome, Performed, Refused, NoRow, Place, State, begin, run, step, with_shown}
use Rattle.ot_model.proofs.Algebra.{laws}
use Rattle.ot_model.proofs.Steps.{opening_sound, step_sound}
use Rattle.ot_machine.proofs.RunLaws.{instr_is, runs_sound}
use Rattle.ot_steps.specs.Steps.{step_line}
use Rattle.ot_conform.proofs.FormedLines.{InstrsForm, first_form, instr_at, step_formed}
use Rattle.ot_conform.proofs.LineTrees.{IsLineFormed}
use Rattle.ot_conform.proofs.Scalars.{OutcomeScalars, StateScalars, opening_scalars, step_scalars}

-- every character in the states of a run is a scalar value
run_scalars : (clients : ℕ) (is : List Instr) (p q : Place) → InstrsForm clients is → IsSound p.state → StateScalars p.state → run is p ≡ Some q → StateScalars q.state
run_scalars clients [] p q h sound all e = subst (λ (w : Place). StateScalars w.state) (same_Some p q e) all
run_scalars clients (i ∷ is) p q h sound all e =
    let one = first_form clients i is h in
    let others : InstrsForm clients is = record { are = All-tail (isa.IsInstr clients) i is h.are; scalars = All-tail isa.HasScalars i is h.scalars } in
    go (λ r fine scalars f. run_scalars clients is r q others fine scalars f) (step p.state i) (step_sound laws p.state i sound (instr_is clients i one.is)) (step_scalars p.state i sound one.scalars all) e
  where
    go : ((r : Place) → IsSound r.state → StateScalars r.state → run is r ≡ Some q → StateScalars q.state) → (o : Outcome) → IsOutcomeSound o → OutcomeScalars o
        → (elim o [ Performed t list ↦ run is (record { state = t; shown = with_shown p.shown list }) | Refused r ↦ None | NoRow ↦ None ]) ≡ Some q → StateScalars q.state
    go on (Performed t list) fine scalars f = on (record { state = t; shown = with_shown p.shown list }) fine scalars f
    go on (Refused r) fine scalars f = absurd (cc)
    go on NoRow fine scalars f = absurd fine

place_scalars : (s : Program) (p : ℕ) (q : Place) → IsProgram s → place_at s p ≡ Some q → StateScalars q.state
place_scalars s p q is here =
    run_scalars s.clients (take p s.instrs) (begin s.clients s.present s.start) q
    (record { are = All-take (isa.IsInstr s.clients) p s.instrs is.instrs_are; scalars = All-take isa.HasScalars p s.instrs is.instrs_scalars })
    (opening_sound s.clients s.present s.start is.clients_to is.present_to is.start_fits) (opening_scalars s is) here

pub step_line_formed : (documents : Bool) (s : Program) (p : ℕ) (q : Place) (i : Instr) (t : State) (shown : Option Shown) → IsProgram s → place_at s p ≡ Some q → slice_get s.instrs p ≡ Some i → step q.state i ≡ Performed t shown
    → IsLineFormed (step_line documents (suc p) i q.state t)
step_line_formed documents s p q i t shown is here at performed =
    let one = instr_at s.clients s.instrs p i (record { are = is.instrs_are; scalars = is.instrs_scalars }) at in
    let sound = runs_sound s p q is here in
    let scalars = place_scalars s p q is here in
    let fit : length s.instrs ≤ 100000 = is.instrs_fit in
    let within = slice_get_within s.instrs p i at in
    step_formed documents s.clients (suc p) i q.state t is.clients_to (omega (arith, fit, within)) one sound scalars
    (subst IsOutcomeSound performed (step_sound laws q.state i sound (instr_is s.clients i one.is))) (subst OutcomeScalars performed (step_scalars q.state i sound one.scalars scalars))
