-- There is a stop.
use Rattle.std.proofs.Common.{◌≡◌, ℕ, zero, suc, ◌+◌, ◌-◌, ◌<◌, ◌≤◌, length, get_or, refl, subst, arith, inl, inr, Some}
use Rattle.std.proofs.lemmas.Bool.{cases_eq, cases_lt}
use Rattle.std.proofs.lemmas.Option.{slice_get_cases, slice_get_within, get_or_from_slice_get}
use Rattle.std.specs.Prelude.{slice_get}
use Rattle.ot_isa.specs.Program.{Program, IsProgram}
use Rattle.ot_isa.specs.Program as isa
use Rattle.ot_isa.specs.declared.instruction.Instr.{Instr}
use Rattle.ot_model.specs.Table.{Place, Outcome, Performed, Refused, NoRow, step, with_shown}
use Rattle.ot_model.specs.Sound.{IsOutcomeSound}
use Rattle.ot_model.specs.Runs.{done, place_at, opening_of}
use Rattle.ot_model.proofs.Algebra.{laws}
use Rattle.ot_model.proofs.Runs.{place_at-next, performed-length}
use Rattle.ot_model.proofs.Steps.{step_sound}
use Rattle.ot_machine.proofs.RunLaws.{runs_sound, instr_is}
use Rattle.ot_debug.specs.declared.command.Why.{Why}
use Rattle.ot_debug.specs.declared.command.Why.TheVariants as why
use Rattle.ot_debug.specs.Session.{Session}
use Rattle.ot_debug.specs.Stops.{IsEnding, IsPassed, IsReason, IsRunStop}
use Rattle.ot_debug.specs.Stepping.{Advances}
use Rattle.ot_debug.specs.Laws.{RunsStop, StepsStop}
use Rattle.ot_debug.proofs.Places.{there, reached}
use Rattle.ot_debug.proofs.Deciding.{first_or_none, break_cases}
use Rattle.ot_debug.proofs.Stopping.{IsOnWay, begun, on_way_next, stop_watch, stop_break}

-- where a run goes no further, the schedule ends or the table refuses the next instruction
abbrev Ends : Program → ℕ → Type 0
Ends s q = (reason : Why) × IsEnding s q reason

instr_sound : (s : Program) (q : ℕ) (place : Place) (i : Instr) → IsProgram s → place_at s q ≡ Some place → slice_get s.instrs q ≡ Some i → IsOutcomeSound (step place.state i)
instr_sound s q place i limits at here =
    let one : get_or s.instrs q i ≡ i = get_or_from_slice_get s.instrs q i i here in
    let is : isa.IsInstr s.clients i = subst (isa.IsInstr s.clients) one (limits.instrs_are q i (slice_get_within s.instrs q i here)) in
    step_sound laws place.state i (runs_sound s q place limits at) (instr_is s.clients i is)

ends_refused : (s : Program) (place : Place) (i : Instr) → IsProgram s → place_at s (done s) ≡ Some place → slice_get s.instrs (done s) ≡ Some i → done s < length s.instrs → Ends s (done s)
ends_refused s place i limits at here less = go (step place.state i) refl (instr_sound s (done s) place i limits at here)
  where
    go : (o : Outcome) → step place.state i ≡ o → IsOutcomeSound o → Ends s (done s)
    go (Performed t list) is sound =
        let next = place_at-next s (done s) place i t list at here is in
        let far : suc (done s) ≤ done s = reached s (suc (done s)) (record { state = t; shown = with_shown place.shown list }) (omega arith) next in
        absurd (omega arith)
    go (Refused r) is sound = (why.Refused r, record { place = place; instr = i; at = at; here = here; refused = is })
    go NoRow is sound = absurd sound

ends : (s : Program) → IsProgram s → Ends s (done s)
ends s limits =
    elim (cases_eq (done s) (length s.instrs)) [
      | inl all ↦ (why.End, all)
      | inr more ↦
          let few : done s ≤ length s.instrs = performed-length s.instrs (opening_of s) in
          let less : done s < length s.instrs = omega (arith, few, more) in
          let place = there s (done s) (omega arith) in
          elim ((slice_get_cases s.instrs (done s)).1) [
            | inl found ↦ ends_refused s place.0 found.0 limits place.1 found.2 less
            | inr past ↦ let long = past.0 in absurd (omega (arith, less, long))
          ]
    ]

reason_of : (x : Session) (from q : ℕ) (reason : Why) → IsEnding x.schedule q reason → IsPassed x from q → IsReason x from q reason
reason_of x from q why.End ending passed = (ending, passed)
reason_of x from q (why.Refused r) ending passed = (ending, passed)
reason_of x from q why.Break ending passed = absurd ending
reason_of x from q (why.Watch number) ending passed = absurd ending
reason_of x from q why.Count ending passed = absurd ending

abbrev HasStop : Session → Type 0
HasStop x = (q : ℕ) × (reason : Why) × IsRunStop x x.position q reason

-- the session moved to a place
abbrev moved : Session → ℕ → Session
moved x place = record { schedule = x.schedule; position = place; place = x.place; breaks = x.breaks; watches = x.watches }

next_place : (x : Session) (place : ℕ) → suc place ≤ done x.schedule → Advances (moved x place) (moved x (place + 1))
next_place x place far = record { keeps = record { schedule = refl; breaks = refl; watches = refl }; next = omega arith; reached = omega arith }

goes : (x : Session) (left place : ℕ) → IsProgram x.schedule → place + left ≡ done x.schedule → IsOnWay x (moved x place) place → HasStop x
goes x zero place limits all way =
    let here : done x.schedule ≡ place = omega (arith, all) in
    let last : Ends x.schedule place = subst (Ends x.schedule) here (ends x.schedule limits) in
    (place, last.0, record { onward = way.onward; is = reason_of x x.position place last.0 last.1 way.passed; least = way.least })
goes x (suc left) place limits all way =
    let far : suc place ≤ done x.schedule = omega (arith, all) in
    let few : done x.schedule ≤ length x.schedule.instrs = performed-length x.schedule.instrs (opening_of x.schedule) in
    let less : place < length x.schedule.instrs = omega (arith, far, few) in
    let on = next_place x place far in
    elim (first_or_none (moved x place) place far) [
      | inl first ↦ (place + 1, why.Watch first.0, (stop_watch x (moved x place) (moved x (place + 1)) place first.0 way less on first.1).2)
      | inr none ↦
          elim (break_cases (moved x (place + 1)) (place + 1)) [
            | inl set ↦ (place + 1, why.Break, (stop_break x (moved x place) (moved x (place + 1)) place way less on none set).2)
            | inr clear ↦ goes x left (place + 1) limits (omega (arith, all)) (on_way_next x (moved x place) (moved x (place + 1)) place way less on none clear)
          ]
    ]

pub runs_stop : RunsStop
runs_stop x is =
    let reached : x.position ≤ done x.schedule = is.reached in
    goes x (done x.schedule - x.position) x.position is.limits (omega (arith, reached)) (begun x)

pub steps_stop : StepsStop
steps_stop x n is =
    elim (cases_lt (done x.schedule) (x.position + n)) [
      | inl less ↦ let last = ends x.schedule is.limits in (done x.schedule, last.0, inr (less, refl, last.1))
      | inr le ↦ (x.position + n, why.Count, inl (le, refl, refl))
    ]
