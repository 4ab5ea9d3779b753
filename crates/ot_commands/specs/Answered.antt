-- What `conform` answers, in words and as JSON: both are made of one value.
use Rattle.std.specs.Prelude.{◌≡◌, ℕ, Bool, true, false, List, [], ◌∷◌, ◌++◌, get_or, Option, Some, None, codes, decimal, if◌then◌else◌}
use Rattle.std.specs.Str.{is_utf8}
use Rattle.streams.specs.Lines.{lines_of}
use Rattle.ot_isa.specs.Program.{Program}
use Rattle.ot_asm.specs.Comments.{Said, comments_among, cut_text}
use Rattle.ot_asm.specs.Named.{named}
use Rattle.ot_explain.specs.Placed.{places_from}
use Rattle.ot_conform.specs.Json.{in_braces, member, text_member, unknown_member, verdict_members}
use Rattle.ot_conform.specs.Ruled.{Answer, IsAnswer, verdict_text}
use Rattle.ot_conform.specs.Unknown.{unknown_rows}
use Rattle.ot_conform.specs.declared.answers.Owner.{Owner}
use Rattle.ot_conform.specs.declared.answers.Owner.TheVariants as owner
use Rattle.ot_conform.specs.declared.comparison.Verdict.{Verdict}
use Rattle.ot_conform.specs.declared.comparison.Verdict.TheVariants.{Conforms, Differs, Stopped}
use Rattle.ot_conform.specs.declared.reading.Compared.{Compared}
use Rattle.ot_commands.specs.declared.answering.Session as program

-- a schedule as it is read: its lines, what their comments tell, and what they spell
pub record Session : Type 0 where
  pub lines : List (List ℕ)
  pub said : Said
  pub schedule : Program

abbrev pub session_value : program.Session → Session
session_value s = record { lines = lines_of s.text.now; said = s.comments.now; schedule = s.schedule.now }

abbrev pub session_of : List (List ℕ) → Program → Session
session_of lines schedule = record { lines = lines; said = comments_among lines; schedule = schedule }

-- ---- in words

-- the lines of a verdict: of a difference with the clients' names; in the others a number behind `client` is a count
abbrev pub with_names : Said → Verdict → List ℕ → List ℕ
with_names said (Conforms counts) text = text
with_names said (Differs difference) text = named said.names text
with_names said (Stopped place refusal) text = text

-- these lines, the unknown keys, and what tells of the cut
abbrev pub answer_words : Said → Answer → List ℕ
answer_words said a = with_names said a.verdict (verdict_text a.verdict a.explained) ++ (unknown_rows a.unknown ++ cut_text said.cut)

-- ---- as JSON

-- the number of the instruction that a verdict is about
abbrev pub instruction_at : Verdict → Option ℕ
instruction_at (Conforms counts) = None
instruction_at (Differs difference) = difference.instruction
instruction_at (Stopped place refusal) = Some place

-- the line at which it stands
abbrev pub line_member : List ℕ → Option ℕ → List ℕ
line_member places None = []
line_member places (Some number) = member (codes "line") (decimal (get_or places number 0))

-- words of a comment, which are UTF-8
abbrev pub words_member : List ℕ → List ℕ → List ℕ
words_member name words = text_member name (if is_utf8 words then words else [])

abbrev pub name_member : List ℕ → List ℕ
name_member [] = []
name_member (b ∷ bs) = words_member (codes "name") (b ∷ bs)

-- the name of the client whose value differs
abbrev pub owner_name : Said → Owner → List ℕ
owner_name said owner.Nobody = []
owner_name said owner.Server = []
owner_name said (owner.Client c) = get_or said.names c []

abbrev pub verdict_name : Said → Verdict → List ℕ
verdict_name said (Conforms counts) = []
verdict_name said (Differs difference) = owner_name said difference.owner
verdict_name said (Stopped place refusal) = []

abbrev pub cut_member : Option (List ℕ) → List ℕ
cut_member None = []
cut_member (Some words) = words_member (codes "cut") words

-- the members of the object, of a schedule whose instructions stand at these lines
abbrev pub answer_members : List ℕ → Said → Answer → List ℕ
answer_members places said a =
    verdict_members a.verdict a.explained ++ line_member places (instruction_at a.verdict) ++ name_member (verdict_name said a.verdict)
    ++ unknown_member a.unknown ++ cut_member said.cut

abbrev pub answer_json : List (List ℕ) → Said → Answer → List ℕ
answer_json lines said a = in_braces (answer_members (places_from 1 lines) said a) ++ 10 ∷ []

-- ---- the answer

abbrev pub answer_text : Bool → Session → Answer → List ℕ
answer_text false session a = answer_words session.said a
answer_text true session a = answer_json session.lines session.said a

-- of a comparison with the session's run
pub record IsTold (json : Bool) (session : Session) (compared : Compared) (bytes : List ℕ) : Type 0 where
  pub answer : Answer
  pub is_answer : IsAnswer session.schedule compared answer
  pub is : bytes ≡ answer_text json session answer
