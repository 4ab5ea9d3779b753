-- A printed line, read back; lines for some instructions alone; messages; and code points.
use Rattle.std.proofs.Common.{◌≡◌, ℕ, List, [], ◌∷◌, negsuc, true, false, refl, Some, None}
use Rattle.std.specs.Prelude.{codes}
use Rattle.std.specs.Fmt.{digits}
use lib.Utf8.{encode}
use Rattle.json.specs.Print.{escape_byte}
use Rattle.serde_json.specs.Data.{Data, null, number, unsigned, negative, string, array, object, no_items, item, no_members, member}
use Rattle.serde_json.specs.Read.{read}
use Rattle.serde_json.proofs.OnLiterals.{serde_json_on_literals}
use Rattle.ot_operation.specs.Run.{Keep, Add, Skip, operation_of}
use Rattle.ot_steps.specs.Lines.{Line, Take, bare}
use Rattle.ot_steps.specs.Text.{line_text}
use Rattle.ot_conform.proofs.LineTrees.{body_text, line_data}
use Rattle.ot_isa.specs.declared.instruction.Instr.TheVariants as instr
use Rattle.ot_conform.specs.Differences.{Ahead, Wanted, Conforms, Differs, LeftOver, field_of, first_key, over}
use Rattle.ot_conform.specs.Due.{DueLine, Instruction, end_due}
use Rattle.ot_conform.specs.Laws.{place_alone}
use Rattle.ot_conform.specs.Points.{points_of, points_rows}
use Rattle.ot_conform.specs.Ports.{PortLine, Told}
use Rattle.ot_conform.specs.Received.{Received, Taken, Delivered, message_agrees}
use Rattle.ot_steps.specs.declared.key.Key.TheVariants.{At, Document}
use Rattle.ot_conform.specs.declared.meeting.Field.TheVariants.{Key, Message, Stopped}

-- a message is taken, transformed against what the log has gained
abbrev taken : Line
taken = record (bare 6) { word = Some Take; client = Some 0; revision = Some 2; appended = Some (operation_of (Keep 2 ∷ Add (34 ∷ []) ∷ Skip 1 ∷ [])) }

printed : line_text taken ≡ codes "{\"at\":6,\"do\":\"take\",\"client\":0,\"revision\":2,\"appended\":[2,\"\\\"\",-1]}\n"
unfolding digits encode escape_byte
printed = refl

-- members stand in the order of their keys
abbrev taken_data : Data
taken_data =
    object (member (codes "appended") (array (item (number (unsigned 2)) (item (string (34 ∷ [])) (item (number (negative (negsuc 0))) no_items))))
    (member (codes "at") (number (unsigned 6))
    (member (codes "client") (number (unsigned 0))
    (member (codes "do") (string (codes "take"))
    (member (codes "revision") (number (unsigned 2)) no_members)))))

object_is : line_data taken ≡ taken_data
unfolding encode
object_is = refl

read_back : read (body_text taken) ≡ Some taken_data
unfolding serde_json_on_literals digits
read_back = refl

-- ---- three reads, and the end

abbrev reading : ℕ → DueLine
reading at = record { what = Instruction (instr.Read 0); received = None; line = bare at; shown = bare at }

abbrev three : List Ahead
three = Wanted (reading 1) ∷ Wanted (reading 2) ∷ Wanted (reading 3) ∷ Wanted (end_due 3 true) ∷ []

abbrev ended : ℕ → PortLine
ended at = Told (object (member (codes "at") (number (unsigned at)) (member (codes "end") (string (codes "quiet")) no_members)))

-- one line is enough; with a line for each it is of the wrong instruction
second_alone : over true 0 three (place_alone 2 ∷ []) ≡ Conforms
unfolding first_key digits
second_alone = refl

second_first : over false 0 three (place_alone 2 ∷ []) ≡ Differs (reading 1) (Key At) (place_alone 2)
unfolding first_key digits
second_first = refl

-- no line is needed
none_at_all : over true 0 three [] ≡ Conforms
none_at_all = refl

-- a place that does not rise is compared with the one that is due
falls : over true 0 three (place_alone 2 ∷ place_alone 1 ∷ []) ≡ Differs (reading 3) (Key At) (place_alone 1)
unfolding first_key digits
falls = refl

stays : over true 0 three (place_alone 2 ∷ place_alone 2 ∷ []) ≡ Differs (reading 3) (Key At) (place_alone 2)
unfolding first_key digits
stays = refl

-- the end's line passes over the last instruction, and behind it no line is due
ends : over true 0 three (ended 3 ∷ []) ≡ Conforms
unfolding first_key digits encode escape_byte
ends = refl

behind_the_end : over true 0 three (ended 3 ∷ place_alone 4 ∷ []) ≡ LeftOver 3 (place_alone 4)
unfolding first_key digits encode escape_byte
behind_the_end = refl

-- ---- the message that a take receives

abbrev sent : Received
sent = Taken (record { revision = 1; operation = operation_of (Keep 1 ∷ Add (97 ∷ []) ∷ []) })

abbrev operation : List ℕ → Data
operation letters = array (item (number (unsigned 1)) (item (string letters) no_items))

abbrev message : ℕ → Data → Data
message revision op = object (member (codes "operation") op (member (codes "revision") (number (unsigned revision)) no_members))

right : message_agrees (Some sent) (Some (message 1 (operation (97 ∷ [])))) ≡ true
unfolding digits encode escape_byte
right = refl

earlier : message_agrees (Some sent) (Some (message 0 (operation (97 ∷ [])))) ≡ false
unfolding digits encode escape_byte
earlier = refl

changed : message_agrees (Some sent) (Some (message 1 (operation (98 ∷ [])))) ≡ false
unfolding digits encode escape_byte
changed = refl

-- a deliver receives an array
array_alone : message_agrees (Some (Delivered (operation_of (Keep 1 ∷ Add (97 ∷ []) ∷ [])))) (Some (operation (97 ∷ []))) ≡ true
unfolding digits encode escape_byte
array_alone = refl

none_received : message_agrees None (Some null) ≡ true
none_received = refl

-- a wrong message is told, and not the document that comes of it
abbrev taking : DueLine
taking = record { what = Instruction (instr.Take 0); received = Some sent; line = record (bare 1) { document = Some (97 ∷ []) }; shown = bare 1 }

message_first : field_of taking (Told (object (member (codes "at") (number (unsigned 1)) (member (codes "document") (string (98 ∷ [])) (member (codes "message") null no_members))))) ≡ Some Message
unfolding first_key digits
message_first = refl

document_then : field_of taking (Told (object (member (codes "at") (number (unsigned 1)) (member (codes "document") (string (98 ∷ [])) no_members)))) ≡ Some (Key Document)
unfolding first_key digits encode escape_byte
document_then = refl

-- the message that a port stopped over is told before the stop, and a right one is not
abbrev stopping_over : Data → PortLine
stopping_over d = Told (object (member (codes "at") (number (unsigned 0)) (member (codes "message") d (member (codes "stopped") (string (codes "no")) no_members))))

wrong_then_stopped : field_of taking (stopping_over (message 1 (operation (98 ∷ [])))) ≡ Some Message
unfolding digits encode escape_byte
wrong_then_stopped = refl

right_then_stopped : field_of taking (stopping_over (message 1 (operation (97 ∷ [])))) ≡ Some Stopped
unfolding digits encode escape_byte
right_then_stopped = refl

-- an instruction that receives nothing
nothing_received : field_of (reading 1) (stopping_over (operation (97 ∷ []))) ≡ Some Stopped
nothing_received = refl

-- ---- values that may look alike

-- a letter with its accent, in two characters and in one
two_forms : points_rows (points_of (34 ∷ 101 ∷ 769 ∷ 34 ∷ []) (34 ∷ 233 ∷ 34 ∷ [])) ≡ codes "points U+0065 U+0301 U+0022 | U+00E9 U+0022\n"
unfolding digits
two_forms = refl

-- a blank without a width is missing
not_seen : points_rows (points_of (codes "\"ab\"") (34 ∷ 97 ∷ 8203 ∷ 98 ∷ 34 ∷ [])) ≡ codes "points U+0062 U+0022 | U+200B U+0062 U+0022\n"
unfolding digits
not_seen = refl

-- four are told of each, from where they differ
four_of_each : points_rows (points_of (codes "[1,\"abcdef\"]") (91 ∷ 49 ∷ 44 ∷ 34 ∷ 97 ∷ 128512 ∷ 34 ∷ 93 ∷ [])) ≡ codes "points U+0062 U+0063 U+0064 U+0065 | U+1F600 U+0022 U+005D\n"
unfolding digits
four_of_each = refl

-- characters of ASCII are seen, and so is the end
both_seen : points_rows (points_of (codes "[\"a\",1]") (codes "[\"b\",1]")) ≡ []
both_seen = refl

end_seen : points_rows (points_of (codes "1") (codes "12")) ≡ []
end_seen = refl
