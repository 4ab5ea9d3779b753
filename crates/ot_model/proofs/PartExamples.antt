-- Worked steps on parts, by evaluation. A character is its number: 97 is 'a'.
use Rattle.std.proofs.Common.{◌≡◌, ℕ, List, [], ◌∷◌, length, map, Option, Some, None, refl}
use Rattle.std.specs.Prelude.{option_map, slice_get}
use Rattle.ot_operation.specs.Operation.{apply}
use Rattle.ot_operation.specs.Run.{Keep, Add}
use Rattle.ot_operation.specs.Compose.{compose}
use Rattle.ot_operation.specs.Merge.{merge, first_after, second_after}
use Rattle.ot_isa.specs.Program.{Program}
use Rattle.ot_isa.specs.declared.elements.Tagged.{Tagged}
use Rattle.ot_isa.specs.declared.instruction.Instr.{Instr}
use Rattle.ot_isa.specs.declared.instruction.Instr.TheVariants.{Edit, Take, Deliver, Acknowledge, Read, ReadServer}
use Rattle.ot_model.specs.declared.shown.Refusal.{Refusal}
use Rattle.ot_model.specs.declared.shown.Refusal.TheVariants.{BadBase, LinkEmpty, WrongHead}
use Rattle.ot_model.specs.Runs.{place_at}
use Rattle.ot_model.specs.Part.{Part, PartPerformed, PartRefused, PartNoRow, PartPlace, part_of, part_row, run_part}
use Rattle.ot_model.proofs.Examples.{op, schedule}

abbrev text_of : List Tagged → List ℕ
text_of list = map (λ x. x.ch) list

-- client c's part after a schedule
abbrev part_after : Program → ℕ → Option Part
part_after s c = elim (place_at s (length s.instrs)) [ Some q ↦ option_map (part_of q.state c) (slice_get q.state.clients c) | None ↦ None ]

-- what is seen of a part: revision, text, how many messages are left, at which revision it has sent something, and what was read
record View : Type 0 where
  pub revision : ℕ
  pub text : List ℕ
  pub left : ℕ
  pub sent : Option ℕ
  pub shown : List (List ℕ)

abbrev view : PartPlace → View
view z =
    record {
      revision = z.part.client.revision;
      text = text_of z.part.client.list;
      left = length z.part.incoming;
      sent = option_map (λ m. m.revision) z.part.client.message;
      shown = map (λ s. text_of s.list) z.shown;
    }

-- the same after steps of the part's client
abbrev seen_off : Program → ℕ → List Instr → Option View
seen_off s c is = elim (part_after s c) [ Some p ↦ option_map view (run_part is (record { part = p; shown = [] })) | None ↦ None ]

-- what an instruction comes to on the part
data Answer : Type 0 where
  Done : Answer
  No : Refusal → Answer
  Never : Answer

abbrev answer : Program → ℕ → Instr → Option Answer
answer s c i =
    elim (part_after s c) [ Some p ↦ elim (part_row p i) [ PartPerformed q list ↦ Some Done | PartRefused r ↦ Some (No r) | PartNoRow ↦ Some Never ] | None ↦ None ]

-- "b" is in the log, and the first client has not received it
abbrev one_behind : Program
one_behind = schedule 2 2 [] (Edit 1 (op (Add (98 ∷ []) ∷ [])) ∷ Take 1 ∷ [])

-- it types "a" and then gets "b"
one_behind-seen : seen_off one_behind 0 (Edit 0 (op (Add (97 ∷ []) ∷ [])) ∷ Deliver 0 ∷ Read 0 ∷ []) ≡ Some (record { revision = 1; text = 97 ∷ 98 ∷ []; left = 0; sent = Some 0; shown = (97 ∷ 98 ∷ []) ∷ [] })
unfolding apply compose merge first_after second_after
one_behind-seen = refl

-- refused: an edit of another base, an acknowledgement where an operation is next, and a delivery where nothing is left
one_behind-base : answer one_behind 0 (Edit 0 (op (Keep 1 ∷ []))) ≡ Some (No BadBase)
unfolding apply compose merge first_after second_after
one_behind-base = refl

one_behind-head : answer one_behind 0 (Acknowledge 0) ≡ Some (No WrongHead)
unfolding apply compose merge first_after second_after
one_behind-head = refl

one_behind-end : seen_off one_behind 0 (Deliver 0 ∷ Deliver 0 ∷ []) ≡ None
unfolding apply compose merge first_after second_after
one_behind-end = refl

-- no row: another client's instruction, a Take, a Join, a read of the server
one_behind-other : answer one_behind 0 (Read 1) ≡ Some Never
unfolding apply compose merge first_after second_after
one_behind-other = refl

one_behind-take : answer one_behind 1 (Take 1) ≡ Some Never
unfolding apply compose merge first_after second_after
one_behind-take = refl

one_behind-server : answer one_behind 0 ReadServer ≡ Some Never
unfolding apply compose merge first_after second_after
one_behind-server = refl

-- the second client receives its own acknowledgement, and what it types then goes at the revision after it
one_behind-acknowledged : seen_off one_behind 1 (Edit 1 (op (Keep 1 ∷ Add (99 ∷ []) ∷ [])) ∷ Acknowledge 1 ∷ []) ≡ Some (record { revision = 1; text = 98 ∷ 99 ∷ []; left = 0; sent = Some 1; shown = [] })
unfolding apply compose merge first_after second_after
one_behind-acknowledged = refl

-- an acknowledgement with nothing on the way is refused by the link
fresh-end : answer (schedule 1 1 [] []) 0 (Acknowledge 0) ≡ Some (No LinkEmpty)
unfolding apply compose merge first_after second_after
fresh-end = refl
