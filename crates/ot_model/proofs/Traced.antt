-- The trace of every schedule is a trace, and has the weak list property.
use Rattle.std.proofs.Common.{◌≡◌, ℕ, suc, List, [], ◌∷◌, arith, get_or}
use Rattle.std.proofs.lemmas.Option.{slice_get-get_or}
use Rattle.std.specs.Prelude.{slice_get, All}
use Rattle.ot_isa.specs.Program.{Program, IsProgram, IsOfLimits}
use Rattle.ot_isa.specs.Program as program
use Rattle.ot_isa.specs.declared.instruction.Instr.{Instr}
use Rattle.ot_isa.specs.declared.instruction.Instr.TheVariants.{Edit, Take, Deliver, Acknowledge, Join, Read, ReadServer}
use Rattle.ot_model.specs.Table.{start_list}
use Rattle.ot_model.specs.Runs.{IsRunnable}
use Rattle.ot_model.specs.Sound.{IsInstr, AreInstrs}
use Rattle.ot_model.specs.Trace.{IsTrace}
use Rattle.ot_model.specs.WeakList.{WeakListProperty}
use Rattle.ot_model.specs.Events.{tags, events, trace_of}
use Rattle.ot_model.proofs.Traces.{IsShapedTrace}
use Rattle.ot_model.proofs.Algebra.{laws}
use Rattle.ot_model.proofs.Kept.{keeps_both}
use Rattle.ot_model.proofs.Telling.{weak_list, is_trace}
use Rattle.ot_model.proofs.Distinct.{inserted_once}
use Rattle.ot_model.proofs.Judging.{judged}

-- what a schedule has as an instruction, the table takes
pub is_instr : (i : Instr) → IsOfLimits i → IsInstr i
is_instr (Edit c op) limits = limits.operation
is_instr (Take c) limits = tt
is_instr (Deliver c) limits = tt
is_instr (Acknowledge c) limits = tt
is_instr (Join c) limits = tt
is_instr (Read c) limits = tt
is_instr ReadServer limits = tt

are_all : (clients : ℕ) (is : List Instr) → All (program.IsInstr clients) is → AreInstrs is
are_all clients [] all = tt
are_all clients (i ∷ is) all = (is_instr i (all 0 i (omega arith)).1, are_all clients is (λ k d below. all (suc k) d (omega arith)))

pub runnable : (s : Program) → IsProgram s → IsRunnable s
runnable s is = record { clients = is.clients_to; present = is.present_to; start = is.start_fits; instrs = are_all s.clients s.instrs is.instrs_are }

shaped : (s : Program) → IsRunnable s → IsShapedTrace (suc s.clients) (tags (start_list s.start)) (events s.clients s.present s.start s.instrs)
shaped s is = is_trace laws (keeps_both laws) s.clients s.present s.start s.instrs is.clients is.present is.start is.instrs

pub trace_shape : (s : Program) → IsRunnable s → IsTrace (trace_of s)
trace_shape s is =
    let shape = shaped s is in
    let most = is.clients in
    record {
      some_replica = omega arith;
      few_replicas = omega arith;
      inserted_once = inserted_once (suc s.clients) (tags (start_list s.start)) (events s.clients s.present s.start s.instrs) shape;
      events = λ k d below.
          let e = get_or (trace_of s).events k d in
          let at : slice_get (trace_of s).events k ≡ _ = slice_get-get_or (trace_of s).events k d below in
          record {
            replica = shape.replica k e at;
            seen = shape.size k e at;
            read_inserts = λ read. (shape.reads k e at read).0;
            read_deletes = λ read. (shape.reads k e at read).1;
          };
    }

pub trace_weak : (s : Program) → IsRunnable s → WeakListProperty (trace_of s)
trace_weak s is =
    judged (suc s.clients) (tags (start_list s.start)) (events s.clients s.present s.start s.instrs)
    (weak_list laws (keeps_both laws) s.clients s.present s.start s.instrs is.clients is.present is.start is.instrs)
    (shaped s is)
