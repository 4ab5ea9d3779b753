-- Lines of a worked run, by evaluation. A character is its number: 97 is 'a', 99 'c', 120 'x', 122 'z'.
use Rattle.std.proofs.Common.{◌≡◌, ℕ, List, [], ◌∷◌, Option, Some, refl}
use Rattle.std.specs.Prelude.{true, false, slice_get}
use Rattle.std.specs.Option.{option_map}
use Rattle.ot_operation.specs.Run.{Run, Keep, Add, Skip, operation_of}
use Rattle.ot_isa.specs.Program.{Program}
use Rattle.ot_isa.specs.declared.instruction.Instr.TheVariants.{Edit, Take, Deliver, Acknowledge, Read, ReadServer}
use Rattle.ot_model.specs.Operation.{Operation}
use Rattle.ot_operation.specs.Operation.{apply}
use Rattle.ot_operation.specs.Compose.{compose}
use Rattle.ot_operation.specs.Merge.{merge, first_after, second_after}
use Rattle.ot_model.specs.Table.{Place}
use Rattle.ot_model.specs.Runs.{done, place_at}
use Rattle.ot_machine.specs.declared.state.Phase.TheVariants as phase
use Rattle.ot_steps.specs.Lines.{Line, bare}
use Rattle.ot_steps.specs.Lines as word
use Rattle.ot_steps.specs.Steps.{first_lines, is_quiet}
use Rattle.ot_steps.specs.Fold.{session_in, session_of}
use Rattle.ot_steps.specs.Found.{counts, times}

abbrev op : List (Run ℕ) → Operation ℕ
op runs = operation_of runs

-- no one order for all letters: the documents show "cx", "xaz" and "acz"
abbrev weak_order : Program
weak_order =
    record {
      clients = 2;
      present = 2;
      start = 120 ∷ [];
      instrs =
          Edit 0 (op (Keep 1 ∷ Add (122 ∷ []) ∷ []))
          ∷ Edit 0 (op (Keep 1 ∷ Add (97 ∷ []) ∷ Keep 1 ∷ []))
          ∷ Edit 0 (op (Skip 1 ∷ Keep 2 ∷ []))
          ∷ Edit 1 (op (Add (99 ∷ []) ∷ Keep 1 ∷ []))
          ∷ Take 1 ∷ Take 0 ∷ Deliver 0 ∷ Acknowledge 0 ∷ Take 0 ∷ Acknowledge 1 ∷ Deliver 1 ∷ Deliver 1 ∷ Acknowledge 0 ∷ Read 0 ∷ Read 1 ∷ ReadServer ∷ [];
    }

abbrev line_at : Program → ℕ → Option Line
line_at s p = slice_get (first_lines false s p) p

all_performed : done weak_order ≡ 16
unfolding apply compose merge first_after second_after
all_performed = refl

first_edit : line_at weak_order 1 ≡ Some (record (bare 1) {
  word = Some word.Edit;
  client = Some 0;
  edit = Some (op (Keep 1 ∷ Add (122 ∷ []) ∷ []));
  revision = Some 0;
  state = Some phase.AwaitingConfirm;
  outstanding = Some (op (Keep 1 ∷ Add (122 ∷ []) ∷ []));
  sent = Some (record { revision = 0; operation = op (Keep 1 ∷ Add (122 ∷ []) ∷ []) });
})
first_edit = refl

a_take : line_at weak_order 6 ≡ Some (record (bare 6) {
  word = Some word.Take;
  client = Some 0;
  revision = Some 2;
  appended = Some (op (Keep 2 ∷ Add (122 ∷ []) ∷ []));
})
unfolding apply compose merge first_after second_after
a_take = refl

a_delivery : line_at weak_order 7 ≡ Some (record (bare 7) {
  word = Some word.Deliver;
  client = Some 0;
  revision = Some 1;
  state = Some phase.AwaitingWithBuffer;
  outstanding = Some (op (Keep 2 ∷ Add (122 ∷ []) ∷ []));
  buffer = Some (op (Add (97 ∷ []) ∷ Keep 1 ∷ Skip 1 ∷ Keep 1 ∷ []));
  applied = Some (op (Keep 1 ∷ Add (99 ∷ []) ∷ Keep 1 ∷ []));
})
unfolding apply compose merge first_after second_after
a_delivery = refl

a_read : line_at weak_order 16 ≡ Some (record (bare 16) { word = Some word.ReadServer; document = Some (97 ∷ 99 ∷ 122 ∷ []) })
unfolding apply compose merge first_after second_after
a_read = refl

folds : option_map (λ (q : Place). session_in q.state) (place_at weak_order 12) ≡ Some (session_of (first_lines false weak_order 12))
unfolding apply compose merge first_after second_after
folds = refl

quiet_at_the_end : option_map (λ (q : Place). is_quiet q.state) (place_at weak_order 16) ≡ Some true
unfolding apply compose merge first_after second_after
quiet_at_the_end = refl

-- "aa" stands once in "aaa", twice in "aaaa"; and after the first edit client 0 has "z" once, the others nowhere
overlapping : times (97 ∷ 97 ∷ []) (97 ∷ 97 ∷ 97 ∷ []) ≡ 1
overlapping = refl

side_by_side : times (97 ∷ 97 ∷ []) (97 ∷ 97 ∷ 97 ∷ 97 ∷ []) ≡ 2
side_by_side = refl

found_after_the_edit : counts (122 ∷ []) (session_of (first_lines false weak_order 1)) ≡ 0 ∷ 1 ∷ 0 ∷ []
unfolding apply
found_after_the_edit = refl
