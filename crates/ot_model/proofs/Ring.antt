-- A run that has no order of all its elements.
use Rattle.std.proofs.Common.{ℕ, [], ◌∷◌, refl, arith}
use Rattle.ot_operation.specs.Operation.{apply}
use Rattle.ot_operation.specs.Run.{Keep, Add, Skip, operation_of}
use Rattle.ot_operation.specs.Compose.{compose}
use Rattle.ot_operation.specs.Merge.{merge, first_after, second_after}
use Rattle.ot_isa.specs.Program.{Program}
use Rattle.ot_isa.specs.declared.elements.Tag.{Tag}
use Rattle.ot_isa.specs.declared.instruction.Instr.TheVariants.{Edit, Take, Deliver, Read}
use Rattle.ot_model.specs.Runs.{IsRunnable}
use Rattle.ot_model.specs.Trace.{event_at}
use Rattle.ot_model.specs.WeakList.{IsBefore}
use Rattle.ot_model.specs.Events.{trace_of}
use Rattle.ot_model.specs.TraceLaws.{OneOrder}

mark : ℕ → ℕ → Tag
mark origin serial = record { origin = origin; serial = serial }

-- "x"; client 0 types z behind it and a between, and deletes x; client 1 types c in front, and client 0 gets it
abbrev ring : Program
ring =
    record {
      clients = 2;
      present = 2;
      start = 120 ∷ [];
      instrs =
          Edit 0 (operation_of (Keep 1 ∷ Add (122 ∷ []) ∷ []))
          ∷ Edit 0 (operation_of (Keep 1 ∷ Add (97 ∷ []) ∷ Keep 1 ∷ []))
          ∷ Edit 0 (operation_of (Skip 1 ∷ Keep 2 ∷ []))
          ∷ Edit 1 (operation_of (Add (99 ∷ []) ∷ Keep 1 ∷ []))
          ∷ Take 1 ∷ Deliver 0 ∷ Read 0 ∷ [];
    }

ring_runs : IsRunnable ring
ring_runs =
    record {
      clients = omega arith;
      present = omega arith;
      start = omega arith;
      instrs = (
        (omega arith, omega arith, tt),
        (
          (omega arith, omega arith, (omega arith, omega arith, tt)),
          (
            (omega arith, omega arith, (omega arith, omega arith, tt)),
            (
              (omega arith, omega arith, tt),
              (tt, (tt, (tt, tt))),
            ),
          ),
        ),
      );
    }

-- its lists have c before x, x before a, and a before c
c_before_x : IsBefore (event_at (trace_of ring).events 3).list (mark 1 0) (mark 65535 0)
unfolding mark apply compose merge first_after second_after
c_before_x = record { first = 0; second = 1; order = omega arith; within = omega arith; here = refl; there = refl }

x_before_a : IsBefore (event_at (trace_of ring).events 1).list (mark 65535 0) (mark 0 1)
unfolding mark apply compose merge first_after second_after
x_before_a = record { first = 0; second = 1; order = omega arith; within = omega arith; here = refl; there = refl }

a_before_c : IsBefore (event_at (trace_of ring).events 4).list (mark 0 1) (mark 1 0)
unfolding mark apply compose merge first_after second_after
a_before_c = record { first = 0; second = 1; order = omega arith; within = omega arith; here = refl; there = refl }

pub not_one_order : OneOrder → ⊥
not_one_order every =
    let order = every ring ring_runs in
    let one = order.rising 3 (mark 1 0) (mark 65535 0) c_before_x in
    let two = order.rising 1 (mark 65535 0) (mark 0 1) x_before_a in
    let three = order.rising 4 (mark 0 1) (mark 1 0) a_before_c in
    omega arith
