-- The laws of all runs, for schedules.
use Rattle.std.proofs.Common.{ℕ, suc, List, [], ◌∷◌, take, arith}
use Rattle.std.proofs.lemmas.List.Elements.{All-take}
use Rattle.std.specs.List.{All}
use Rattle.ot_isa.specs.Program as isa
use Rattle.ot_isa.specs.declared.instruction.Instr.{Instr}
use Rattle.ot_isa.specs.declared.instruction.Instr.TheVariants.{Edit, Take, Deliver, Acknowledge, Join, Read, ReadServer}
use Rattle.ot_model.specs.Table.{begin}
use Rattle.ot_model.specs.Sound.{IsInstr, AreInstrs}
use Rattle.ot_model.proofs.Algebra.{laws}
use Rattle.ot_model.proofs.Steps.{opening_sound, run_sound, quiet_same}
use Rattle.ot_machine.specs.Laws.{RunsSound, RunsConverge}

pub instr_is : (n : ℕ) (i : Instr) → isa.IsInstr n i → IsInstr i
instr_is n (Edit c op) is = is.1.operation
instr_is n (Take c) is = tt
instr_is n (Deliver c) is = tt
instr_is n (Acknowledge c) is = tt
instr_is n (Join c) is = tt
instr_is n (Read c) is = tt
instr_is n ReadServer is = tt

pub instrs_are : (n : ℕ) (is : List Instr) → All (isa.IsInstr n) is → AreInstrs is
instrs_are n [] all = tt
instrs_are n (i ∷ is) all = (instr_is n i (all 0 i (omega arith)), instrs_are n is (λ k d below. all (suc k) d (omega arith)))

pub runs_sound : RunsSound
runs_sound s p q is here =
    run_sound laws (take p s.instrs) (begin s.clients s.present s.start) q
    (opening_sound s.clients s.present s.start is.clients_to is.present_to is.start_fits)
    (instrs_are s.clients (take p s.instrs) (All-take (isa.IsInstr s.clients) p s.instrs is.instrs_are)) here

pub runs_converge : RunsConverge
runs_converge s p q is here quiet = quiet_same q.state (runs_sound s p q is here) quiet
