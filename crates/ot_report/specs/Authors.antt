-- Who inserted the characters of a document: the edits of a schedule, and the document in spans of one author.
use Rattle.std.specs.Prelude.{◌≡◌, ℕ, suc, ◌<◌, ◌⊎◌, List, [], ◌∷◌, ◌++◌, get_or, map, replicate, slice_get, Bool, true, false, ◌==◌, ◌&&◌, Option, Some, None, codes, decimal, if◌then◌else◌}
use Rattle.std.specs.Option.{option_map}
use Rattle.ot_isa.specs.Program.{Program, IsProgram}
use Rattle.ot_isa.specs.declared.elements.Tag.{Tag}
use Rattle.ot_isa.specs.declared.elements.Tagged.{Tagged}
use Rattle.ot_isa.specs.declared.instruction.Instr.{Instr}
use Rattle.ot_isa.specs.declared.instruction.Instr.TheVariants.{Edit, Take, Deliver, Acknowledge, Read, Join, ReadServer}
use Rattle.ot_machine.specs.Effects.{list_of, IsThere}
use Rattle.ot_model.specs.declared.shown.Reader.{Reader}
use Rattle.ot_model.specs.declared.shown.Reader.TheVariants.{Client}
use Rattle.ot_model.specs.Events.{tags}
use Rattle.ot_model.specs.Operation.{Operation, inserted}
use Rattle.ot_model.specs.Runs.{IsStateAt}
use Rattle.ot_model.specs.Table.{State}
use Rattle.ot_model.specs.Trace.{contains}
use Rattle.ot_report.specs.declared.authors.Author.{Author}
use Rattle.ot_report.specs.declared.spans.Span.{Span}
use Rattle.ot_values.specs.Items.{with_item}

-- ---- the author of a tag

-- how many characters an instruction inserts as client c
abbrev pub inserted_by : ℕ → Instr → ℕ
inserted_by c (Edit d op) = if d == c then inserted op else 0
inserted_by c (Take d) = 0
inserted_by c (Deliver d) = 0
inserted_by c (Acknowledge d) = 0
inserted_by c (Read d) = 0
inserted_by c (Join d) = 0
inserted_by c ReadServer = 0

-- for each character that client c inserts, in the order of their serial numbers, the number of the instruction that inserts it; the first of the instructions has this number
abbrev pub inserters : ℕ → ℕ → List Instr → List ℕ
inserters c number [] = []
inserters c number (i ∷ is) = replicate (inserted_by c i) number ++ inserters c (suc number) is

-- the author that such lists, by client, give a tag
abbrev pub author_in : List (List ℕ) → Tag → Option Author
author_in lists tag = option_map (λ k. record { client = tag.origin; instruction = k }) (slice_get (get_or lists tag.origin []) tag.serial)

-- the author of a tag: the client that is its origin, and the edit that inserts the character of its serial number; none of the start text
abbrev pub author_of : List Instr → Tag → Option Author
author_of instrs tag = option_map (λ k. record { client = tag.origin; instruction = k }) (slice_get (inserters tag.origin 0 instrs) tag.serial)

-- the lists are those of the instructions
abbrev pub AreInserters : List Instr → List (List ℕ) → Type 0
AreInserters instrs lists = (c : ℕ) → get_or lists c [] ≡ inserters c 0 instrs

-- of each character of a list
abbrev pub authors : (Tag → Option Author) → List Tagged → List (Option Author)
authors by list = map (λ (x : Tagged). by x.tag) list

-- ---- what it says of a run

-- the instruction at place k is an edit of client c
abbrev pub IsEdit : Program → ℕ → ℕ → Type 0
IsEdit run c k = (op : Operation ℕ) × (slice_get run.instrs k ≡ Some (Edit c op))

-- the tag is in the document of this reader
abbrev pub IsIn : State → Reader → Tag → Type 0
IsIn s who tag = contains (tags (list_of s who)) tag ≡ true

-- what stands in client c's document after an edit of c, and not before it, has this edit as its author
abbrev pub EditsAreAuthors : Type 0
EditsAreAuthors =
    (run : Program) (k c : ℕ) (s t : State) (tag : Tag) → IsProgram run → IsEdit run c k → IsStateAt run k s → IsStateAt run (suc k) t
    → IsIn t (Client c) tag → (IsIn s (Client c) tag → ⊥) → author_of run.instrs tag ≡ Some (record { client = c; instruction = k })

-- the author is an edit before place p, of the client that it names
pub record IsAuthoredBefore (run : Program) (p : ℕ) (tag : Tag) : Type 0 where
  pub k : ℕ
  pub before : k < p
  pub edit : IsEdit run tag.origin k
  pub author : author_of run.instrs tag ≡ Some (record { client = tag.origin; instruction = k })

-- what stands in a document once p instructions are performed is of the start text, which has no author, or has an edit before p as its author
abbrev pub AllHaveAuthors : Type 0
AllHaveAuthors =
    (run : Program) (p : ℕ) (s : State) (who : Reader) (tag : Tag) → IsProgram run → IsStateAt run p s → IsThere s who → IsIn s who tag
    → ((tag.origin ≡ 65535) × (author_of run.instrs tag ≡ None)) ⊎ IsAuthoredBefore run p tag

-- ---- spans

abbrev pub same_author : Option Author → Option Author → Bool
same_author None None = true
same_author None (Some b) = false
same_author (Some a) None = false
same_author (Some a) (Some b) = (a.client == b.client) && (a.instruction == b.instruction)

-- a span, and the spans of the authors behind it: the first of these go on with it
abbrev pub spans_from : Span → List (Option Author) → List Span
spans_from span [] = span ∷ []
spans_from span (a ∷ others) =
    if same_author a span.author then spans_from (record { count = suc span.count; author = span.author }) others
    else span ∷ spans_from (record { count = 1; author = a }) others

abbrev pub spans_of : List (Option Author) → List Span
spans_of [] = []
spans_of (a ∷ others) = spans_from (record { count = 1; author = a }) others

-- the author of each character of the spans
abbrev pub spelled : List Span → List (Option Author)
spelled [] = []
spelled (s ∷ spans) = replicate s.count s.author ++ spelled spans

-- spelled out, the spans are the authors again
abbrev pub SpansSpell : Type 0
SpansSpell = (all : List (Option Author)) → spelled (spans_of all) ≡ all

-- ---- as JSON

-- the client and the instruction, each behind a comma
abbrev pub author_json : Option Author → List ℕ
author_json None = []
author_json (Some a) = codes "," ++ (decimal a.client ++ (codes "," ++ decimal a.instruction))

-- [count,client,instruction], or [count] of the start text
abbrev pub span_json : Span → List ℕ
span_json s = codes "[" ++ (decimal s.count ++ (author_json s.author ++ codes "]"))

-- with these items more
abbrev pub with_spans : List ℕ → List Span → List ℕ
with_spans items [] = items
with_spans items (s ∷ spans) = with_spans (with_item items (span_json s)) spans

-- the member, behind a comma
abbrev pub by_json : List (Option Author) → List ℕ
by_json all = codes ",\"by\":[" ++ (with_spans [] (spans_of all) ++ codes "]")
