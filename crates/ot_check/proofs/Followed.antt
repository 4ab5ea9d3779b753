-- Where a traced run ends, and how far it came where its trace is full.
use Rattle.std.proofs.Common.{◌≡◌, ℕ, ◌+◌, ◌≤◌, length, refl, ap, ◌∙◌, subst, arith, Some, None}
use Rattle.std.specs.Prelude.{slice_get}
use Rattle.std.proofs.lemmas.Option.{slice_get_within}
use Rattle.ot_isa.specs.Program.{Program, IsProgram}
use Rattle.ot_isa.specs.declared.instruction.Instr.{Instr}
use Rattle.ot_model.specs.declared.shown.Refusal.{Refusal}
use Rattle.ot_model.specs.Table.{State, step}
use Rattle.ot_judge.specs.Views.{views}
use Rattle.ot_model.specs.Runs.{IsStateAt}
use Rattle.ot_model.proofs.Runs.{state_next}
use Rattle.ot_machine.proofs.Ended.{is_stopped, is_whole}
use Rattle.ot_check.specs.declared.traced.Followed.TheVariants.{Whole, Full}
use Rattle.ot_check.specs.declared.tracing.Tracer.{Tracer}
use Rattle.ot_check.specs.Following.{LeadsTo, Follows, Stays, Overflows, IsTracedTo, IsFollowed}
use Rattle.ot_check.proofs.Ending.{traced_next, whole_end, whole_stuck, full_at}

-- the first instructions are performed, and traced
pub record IsCome (s : Program) (place : ℕ) (t : Tracer) : Type 0 where
  pub traced : IsTracedTo s place t
  pub after : IsStateAt s place t.machine

-- one more instruction
after_next : (s : Program) (p n : ℕ) (i : Instr) (state t : State) → n ≡ p + 1 → IsStateAt s p state → slice_get s.instrs p ≡ Some i → LeadsTo (step state i) t → IsStateAt s n t
after_next s p n i state t next after at (shown, is) =
    let same : p + 1 ≡ n = omega arith in
    subst (λ (k : ℕ). IsStateAt s k t) same (state_next s p i state t shown after at is)

pub come_next : (s : Program) (p n : ℕ) (old new : Tracer) (i : Instr) → IsProgram s → n ≡ p + 1 → IsCome s p old → slice_get s.instrs p ≡ Some i → Follows old new i → IsCome s n new
come_next s p n old new i is next come at follows =
    record {
      traced = traced_next s p n old new i is next come.traced at follows;
      after = after_next s p n i old.machine new.machine next come.after at follows.performed;
    }

-- the end at an instruction that the table refuses, and behind the last one
pub followed_stop : (s : Program) (p : ℕ) (old new : Tracer) (i : Instr) (r : Refusal) → IsProgram s → IsCome s p old → slice_get s.instrs p ≡ Some i → Stays old new i r → IsFollowed s (Whole new (Some (p, r)))
followed_stop s p old new i r is come at stays =
    let whole = whole_stuck s p old i is come.traced at stays.stuck in
    (is_stopped s p i r old.machine (record { machine = new.machine; stopped = Some (p, r) }) come.after at stays.refused stays.machine refl, ap (λ v. views v.items) stays.events ∙ whole.all, whole.room)

pub followed_end : (s : Program) (p : ℕ) (t : Tracer) → IsProgram s → length s.instrs ≤ p → p ≤ length s.instrs → IsCome s p t → IsFollowed s (Whole t None)
followed_end s p t is le ge come =
    let whole = whole_end s p t is le come.traced in
    (is_whole s p t.machine (record { machine = t.machine; stopped = None }) come.after le ge refl refl, whole.all, whole.room)

-- ---- past the limits

pub followed_full : (s : Program) (p n : ℕ) (t : Tracer) (i : Instr) (state : State) → IsProgram s → n ≡ p + 1 → IsCome s p t → slice_get s.instrs p ≡ Some i → Overflows t i state → IsFollowed s (Full state n)
followed_full s p n t i state is next come at over =
    let inside = slice_get_within s.instrs p i at in
    (omega (arith, inside), after_next s p n i t.machine state next come.after at over.performed, full_at s p t i state is come.traced at over)
