-- Where a run or a number of steps stops, and why.
use Rattle.std.specs.Prelude.{◌≡◌, ◌≢◌, ◌⊎◌, ℕ, suc, ◌+◌, ◌-◌, ◌<◌, ◌≤◌, List, [], length, slice_get, unwrap_or, Some}
use Rattle.std.specs.Option.{option_map}
use Rattle.ot_isa.specs.declared.elements.Tagged.{Tagged}
use Rattle.ot_isa.specs.declared.instruction.Instr.{Instr}
use Rattle.ot_isa.specs.Program.{Program}
use Rattle.ot_model.specs.declared.shown.Refusal.{Refusal}
use Rattle.ot_model.specs.Table.{Client, State, Place, step, Refused}
use Rattle.ot_model.specs.Runs.{done, place_at}
use Rattle.ot_machine.specs.declared.state.Phase.{Phase}
use Rattle.ot_machine.specs.declared.state.Phase.TheVariants.{NotJoined}
use Rattle.ot_machine.specs.Readers.{phase_name}
use Rattle.ot_debug.specs.declared.command.Watched.{Watched}
use Rattle.ot_debug.specs.declared.command.Watched.TheVariants as watched
use Rattle.ot_debug.specs.declared.command.Why.{Why}
use Rattle.ot_debug.specs.declared.command.Why.TheVariants as why
use Rattle.ot_debug.specs.Session.{Session, IsBreak}

-- the list of client c, which is there
abbrev pub list_of : State → ℕ → List Tagged
list_of s c = unwrap_or (option_map (λ (x : Client). x.list) (slice_get s.clients c)) []

-- which of the four phases client c, which is there, is in
abbrev pub phase_at : State → ℕ → Phase
phase_at s c = unwrap_or (option_map (λ (x : Client). phase_name x.phase) (slice_get s.clients c)) NotJoined

-- what the watch looks at differs between the two states
abbrev pub IsChanged : Watched → State → State → Type 0
IsChanged (watched.Doc c) s t = list_of s c ≢ list_of t c
IsChanged (watched.State c) s t = phase_at s c ≢ phase_at t c
IsChanged watched.ServerRevision s t = length s.log ≢ length t.log

-- instruction q leads from one place of the run to the next, and changes what the watch looks at
pub record StepChanges (s : Program) (q : ℕ) (watch : Watched) : Type 0 where
  pub before : Place
  pub after : Place
  pub from : place_at s q ≡ Some before
  pub to : place_at s (suc q) ≡ Some after
  pub changed : IsChanged watch before.state after.state

-- so of the watch with this number
pub record ChangesWatch (x : Session) (q number : ℕ) : Type 0 where
  pub watch : Watched
  pub here : slice_get x.watches number ≡ Some watch
  pub changes : StepChanges x.schedule q watch

-- instruction q changes what no watch looks at
abbrev pub ChangesNone : Session → ℕ → Type 0
ChangesNone x q = (number : ℕ) → ¬ ChangesWatch x q number

-- instruction q changes what this watch looks at, and what none of a lesser number does
pub record ChangesFirst (x : Session) (q number : ℕ) : Type 0 where
  pub changes : ChangesWatch x q number
  pub first : (less : ℕ) → less < number → ¬ ChangesWatch x q less

-- the table refuses instruction q for this reason, which is never out of memory
pub record IsRefusedAt (s : Program) (q : ℕ) (refusal : Refusal) : Type 0 where
  pub place : Place
  pub instr : Instr
  pub at : place_at s q ≡ Some place
  pub here : slice_get s.instrs q ≡ Some instr
  pub refused : step place.state instr ≡ Refused refusal

-- at q no instruction can be performed: the schedule ends, or the next one is refused
abbrev pub IsEnding : Program → ℕ → Why → Type 0
IsEnding s q why.End = q ≡ length s.instrs
IsEnding s q (why.Refused refusal) = IsRefusedAt s q refusal
IsEnding s q other = ⊥

-- neither a watch nor a break stops a run from `from` at q; where it begins, nothing of the kind does
pub record IsPassed (x : Session) (from q : ℕ) : Type 0 where
  pub unwatched : from < q → ChangesNone x (q - 1)
  pub unbroken : from < q → ¬ IsBreak x q

-- why a run from `from` stops at q: for the least watch that the last instruction changed, else for a break, else where nothing can be performed
abbrev pub IsReason : Session → ℕ → ℕ → Why → Type 0
IsReason x from q (why.Watch number) = (from < q) × ChangesFirst x (q - 1) number
IsReason x from q why.Break = (from < q) × IsBreak x q × ChangesNone x (q - 1)
IsReason x from q why.End = IsEnding x.schedule q why.End × IsPassed x from q
IsReason x from q (why.Refused refusal) = IsEnding x.schedule q (why.Refused refusal) × IsPassed x from q
IsReason x from q why.Count = ⊥

-- a run from `from` stops at the least place, not before `from`, at which there is a reason
pub record IsRunStop (x : Session) (from q : ℕ) (reason : Why) : Type 0 where
  pub onward : from ≤ q
  pub is : IsReason x from q reason
  pub least : (r : ℕ) (other : Why) → from ≤ r → r < q → ¬ IsReason x from r other

-- n steps from `from` on stop after n instructions, or where no more can be performed
abbrev pub IsStepStop : Session → ℕ → ℕ → ℕ → Why → Type 0
IsStepStop x from n q reason =
    (from + n ≤ done x.schedule) × (q ≡ from + n) × (reason ≡ why.Count)
    ⊎ (done x.schedule < from + n) × (q ≡ done x.schedule) × IsEnding x.schedule q reason
