-- Worked traces, by evaluation, and the run that has no order of all its elements.
use Rattle.std.proofs.Common.{◌≡◌, ℕ, List, [], ◌∷◌, ◌++◌, map, refl}
use Rattle.ot_operation.specs.Operation.{apply}
use Rattle.ot_operation.specs.Run.{Keep, Add}
use Rattle.ot_operation.specs.Compose.{compose}
use Rattle.ot_operation.specs.Merge.{merge, first_after, second_after}
use Rattle.ot_isa.specs.Program.{Program}
use Rattle.ot_isa.specs.declared.elements.Tag.{Tag}
use Rattle.ot_isa.specs.declared.instruction.Instr.TheVariants.{Edit, Take, Deliver, Read, ReadServer}
use Rattle.ot_model.specs.declared.trace.Placed.{Placed}
use Rattle.ot_model.specs.Trace.{EventView}
use Rattle.ot_model.specs.WeakList.{lists}
use Rattle.ot_model.specs.Events.{trace_of}
use Rattle.ot_model.proofs.Examples.{op, schedule, cycle, late}

abbrev mark : ℕ → ℕ → Tag
mark origin serial = record { origin = origin; serial = serial }

abbrev put : ℕ → ℕ → ℕ → Placed
put origin serial place = record { tag = mark origin serial; place = place }

abbrev lists_of : Program → List (List Tag)
lists_of s = lists (trace_of s).events

abbrev seen_by : Program → List (ℕ × List ℕ)
seen_by s = map {B = ℕ × List ℕ} (λ (e : EventView). (e.replica, e.seen)) (trace_of s).events

abbrev insertions : Program → List (List Placed)
insertions s = map (λ (e : EventView). e.inserted) (trace_of s).events

abbrev deletions : Program → List (List Tag)
deletions s = map (λ (e : EventView). e.deleted) (trace_of s).events

-- x is 65535:0, z and a are 0:0 and 0:1, c is 1:0
abbrev x : Tag
x = mark 65535 0

abbrev z : Tag
z = mark 0 0

abbrev a : Tag
a = mark 0 1

abbrev c : Tag
c = mark 1 0

cycle-lists : lists_of cycle ≡ (x ∷ z ∷ []) ∷ (x ∷ a ∷ z ∷ []) ∷ (a ∷ z ∷ []) ∷ (c ∷ x ∷ []) ∷ (a ∷ c ∷ z ∷ []) ∷ (a ∷ c ∷ z ∷ []) ∷ (a ∷ c ∷ z ∷ []) ∷ []
unfolding apply compose merge first_after second_after
cycle-lists = refl

cycle-seen : seen_by cycle
    ≡ (0, 0 ∷ 0 ∷ 0 ∷ []) ∷ (0, 1 ∷ 0 ∷ 0 ∷ []) ∷ (0, 2 ∷ 0 ∷ 0 ∷ []) ∷ (1, 0 ∷ 0 ∷ 0 ∷ []) ∷ (0, 3 ∷ 1 ∷ 0 ∷ []) ∷ (1, 3 ∷ 1 ∷ 0 ∷ []) ∷ (2, 3 ∷ 1 ∷ 0 ∷ []) ∷ []
unfolding apply compose merge first_after second_after
cycle-seen = refl

cycle-insertions : insertions cycle ≡ (put 0 0 1 ∷ []) ∷ (put 0 1 1 ∷ []) ∷ [] ∷ (put 1 0 0 ∷ []) ∷ [] ∷ [] ∷ [] ∷ []
unfolding apply compose merge first_after second_after
cycle-insertions = refl

cycle-deletions : deletions cycle ≡ [] ∷ [] ∷ (x ∷ []) ∷ [] ∷ [] ∷ [] ∷ [] ∷ []
unfolding apply compose merge first_after second_after
cycle-deletions = refl

-- a join is no event, and what it gives is seen: x, a and b are 65535:0, 0:0 and 1:0
abbrev late_read : Program
late_read = schedule 2 1 (120 ∷ []) (late.instrs ++ Read 0 ∷ Read 1 ∷ [])

abbrev late_list : List Tag
late_list = mark 1 0 ∷ mark 65535 0 ∷ mark 0 0 ∷ []

late-lists : lists_of late_read ≡ (mark 65535 0 ∷ mark 0 0 ∷ []) ∷ late_list ∷ late_list ∷ late_list ∷ []
unfolding apply compose merge first_after second_after
late-lists = refl

late-seen : seen_by late_read ≡ (0, 0 ∷ 0 ∷ 0 ∷ []) ∷ (1, 1 ∷ 0 ∷ 0 ∷ []) ∷ (0, 1 ∷ 1 ∷ 0 ∷ []) ∷ (1, 1 ∷ 1 ∷ 0 ∷ []) ∷ []
unfolding apply compose merge first_after second_after
late-seen = refl

-- an edit that only the server has is not seen by the other client, and the server's read sees it
abbrev not_delivered : Program
not_delivered = schedule 2 2 [] (Edit 0 (op (Add (97 ∷ []) ∷ [])) ∷ Take 0 ∷ Read 1 ∷ ReadServer ∷ Deliver 1 ∷ Read 1 ∷ [])

not_delivered-seen : seen_by not_delivered ≡ (0, 0 ∷ 0 ∷ 0 ∷ []) ∷ (1, 0 ∷ 0 ∷ 0 ∷ []) ∷ (2, 1 ∷ 0 ∷ 0 ∷ []) ∷ (1, 1 ∷ 0 ∷ 0 ∷ []) ∷ []
unfolding apply compose merge first_after second_after
not_delivered-seen = refl

-- edits that wait in a buffer are seen by others only when the buffer is in the log
abbrev waiting : Program
waiting =
    schedule 2 2 [] (
    Edit 0 (op (Add (97 ∷ []) ∷ [])) ∷ Edit 0 (op (Keep 1 ∷ Add (98 ∷ []) ∷ [])) ∷ Edit 0 (op (Keep 2 ∷ Add (99 ∷ []) ∷ []))
    ∷ Take 0 ∷ Deliver 1 ∷ Read 1 ∷ []
    )

waiting-seen : seen_by waiting ≡ (0, 0 ∷ 0 ∷ 0 ∷ []) ∷ (0, 1 ∷ 0 ∷ 0 ∷ []) ∷ (0, 2 ∷ 0 ∷ 0 ∷ []) ∷ (1, 1 ∷ 0 ∷ 0 ∷ []) ∷ []
unfolding apply compose merge first_after second_after
waiting-seen = refl
