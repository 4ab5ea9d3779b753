-- What the program's words ask for, as `clap` reads them.
use Rattle.std.specs.Prelude.{◌≡◌, ◌==◌, ◌||◌, ℕ, Bool, true, false, List, [], Option, Some, None, is_some, option_and_then, option_map, unwrap_or, codes, if◌then◌else◌}
use Rattle.std.specs.Str.{bytes_eq, chars}
use Rattle.std.specs.List.{after_first, before_first}
use Rattle.clap.specs.Words.{App, Row, Rule, Text, new_app, new_rule, with_rule, with_subcommand, subcommand_of, first_of}
use Rattle.clap.specs.declared.builder.ArgAction.TheVariants.{Set, SetTrue}
use Rattle.ot_asm.specs.Numbers.{number}
use Rattle.ot_generate.specs.Shapes.{shape_if}
use Rattle.ot_every.specs.Listing.{Space}
use Rattle.ot_every.specs.Parts.{part_if, part_in, whole, PartView}
use Rattle.ot_every.specs.Spaces.{space_if, space_of}
use Rattle.ot_words.specs.declared.words.Form.{Form}
use Rattle.ot_words.specs.declared.words.Form.TheVariants as form
use Rattle.ot_words.specs.declared.words.Subject.{Subject}
use Rattle.ot_words.specs.declared.words.Subject.TheVariants as subject
use Rattle.ot_words.specs.declared.words.Request.{Request}
use Rattle.ot_words.specs.declared.words.Request.TheVariants.{Run, Check, Debug, Assemble, Disassemble, Judge, Steps, Explain, Conform, ConformMany, Complete, Generate, ListEvery, CountEvery}
use Rattle.ot_words.specs.declared.words.Asked.{Asked}
use Rattle.ot_words.specs.declared.words.Asked.TheVariants.{Plainly, Threads}

-- the flag `--ID`
abbrev pub flag_rule : Text → Rule
flag_rule id = record (new_rule id) { long = Some id; action = Some SetTrue }

-- the option `--ID VALUE`
abbrev pub option_rule : Text → Rule
option_rule id = record (new_rule id) { long = Some id; value_names = 1; action = Some Set }

-- a subcommand without arguments, and one with one flag
abbrev pub plain_app : Text → App
plain_app name = new_app name

abbrev pub flagged_app : Text → Text → App
flagged_app name flag = with_rule (new_app name) (flag_rule flag)

-- the subcommand `explain`
abbrev pub explain_app : App
explain_app = with_rule (with_rule (with_rule (flagged_app (codes "explain") (codes "trace")) (flag_rule (codes "plan"))) (flag_rule (codes "image"))) (flag_rule (codes "json"))

-- the subcommands `run` and `check`
abbrev pub run_app : App
run_app = with_rule (flagged_app (codes "run") (codes "image")) (flag_rule (codes "json"))

abbrev pub check_app : App
check_app = with_rule (flagged_app (codes "check") (codes "all")) (flag_rule (codes "json"))

-- the subcommand `conform`
abbrev pub conform_app : App
conform_app = with_rule (with_rule (with_rule (flagged_app (codes "conform") (codes "sparse")) (flag_rule (codes "json"))) (flag_rule (codes "many"))) (flag_rule (codes "all"))

-- the words of a session made at random
abbrev pub random_app : App
random_app =
    with_rule (with_rule (with_rule (with_rule (with_rule (with_rule (plain_app (codes "generate"))
    (option_rule (codes "seed"))) (option_rule (codes "clients"))) (option_rule (codes "present"))) (option_rule (codes "instructions"))) (option_rule (codes "start"))) (flag_rule (codes "open"))

-- and those of all small sessions
abbrev pub with_every : App → App
with_every app =
    with_rule (with_rule (with_rule (with_rule (with_rule (with_rule (with_rule app
    (flag_rule (codes "every"))) (option_rule (codes "edits"))) (option_rule (codes "inserts"))) (option_rule (codes "letters"))) (flag_rule (codes "join"))) (flag_rule (codes "count"))) (option_rule (codes "part"))

-- the subcommand `generate`
abbrev pub generate_app : App
generate_app = with_every random_app

-- the program without its subcommands: it prints its version, and requires a subcommand
abbrev pub versioned : App → App
versioned a = record a { top = record a.top { has_version = true } }

abbrev pub required : App → App
required a = record a { top = record a.top { subcommand_required = true } }

abbrev pub top_app : App
top_app = required (versioned (new_app (codes "otbench")))

-- none of the command's arguments is one of its subcommands too
abbrev pub IsPlain : App → Type 0
IsPlain app = app.top.is_plain ≡ true

-- one subcommand more
infixl 10 ◌+>◌
abbrev pub ◌+>◌ : App → App → App
app +> sub = with_subcommand app sub.top

-- the program's command line
unfoldable pub otbench_app : App
otbench_app =
    top_app
    +> run_app
    +> check_app
    +> plain_app (codes "debug")
    +> plain_app (codes "asm")
    +> plain_app (codes "dis")
    +> flagged_app (codes "judge") (codes "json")
    +> flagged_app (codes "steps") (codes "documents")
    +> explain_app
    +> conform_app
    +> plain_app (codes "threads")
    +> plain_app (codes "complete")
    +> generate_app

-- a flag among the rows
abbrev pub is_true : Option Text → Bool
is_true None = false
is_true (Some t) = bytes_eq t (codes "true")

abbrev pub flag_among : Text → List Row → Bool
flag_among id rows = is_true (first_of id rows)

-- the form of the input
abbrev pub form_among : List Row → Form
form_among rows = if flag_among (codes "image") rows then form.Image else form.Text

abbrev pub run_among : List Row → Request
run_among rows = Run (form_among rows) (flag_among (codes "json") rows)

abbrev pub check_among : List Row → Request
check_among rows = Check (flag_among (codes "all") rows) (flag_among (codes "json") rows)

-- what is explained, by whether `--trace`, `--plan`, `--image` and `--json` were given: they exclude one another
abbrev pub subject_of : Bool → Bool → Bool → Bool → Option Subject
subject_of false false false false = Some subject.Schedule
subject_of true false false false = Some subject.Trace
subject_of false true false false = Some subject.Plan
subject_of false false true false = Some subject.Image
subject_of false false false true = Some subject.Outlook
subject_of true true image json = None
subject_of true false true json = None
subject_of false true true json = None
subject_of true false false true = None
subject_of false true false true = None
subject_of false false true true = None

abbrev pub explains : Option Subject → Option Asked
explains None = None
explains (Some what) = Some (Plainly (Explain what))

abbrev pub explain_among : List Row → Option Asked
explain_among rows =
    explains (subject_of (flag_among (codes "trace") rows) (flag_among (codes "plan") rows) (flag_among (codes "image") rows) (flag_among (codes "json") rows))

-- what is compared, by whether `--many` and `--all` were given: one session, or many. `--all` is of many alone
abbrev pub conform_request : Bool → Bool → Bool → Bool → Option Request
conform_request false false sparse json = Some (Conform sparse json)
conform_request false true sparse json = None
conform_request true all sparse json = Some (ConformMany all sparse json)

abbrev pub conform_among : List Row → Option Asked
conform_among rows =
    option_map Plainly (conform_request (flag_among (codes "many") rows) (flag_among (codes "all") rows) (flag_among (codes "sparse") rows) (flag_among (codes "json") rows))

-- the number of an option's text, or this one where there is none
abbrev pub number_or : ℕ → Option Text → Option ℕ
number_or otherwise None = Some otherwise
number_or otherwise (Some t) = number t

abbrev pub number_among : Text → ℕ → List Row → Option ℕ
number_among id otherwise rows = number_or otherwise (first_of id rows)

-- the number of an option's text, where there is one
abbrev pub number_if : Option Text → Option (Option ℕ)
number_if None = Some None
number_if (Some t) = option_map Some (number t)

abbrev pub number_if_among : Text → List Row → Option (Option ℕ)
number_if_among id rows = number_if (first_of id rows)

abbrev pub chars_among : Text → List Row → Option (List ℕ)
chars_among id rows = option_map chars (first_of id rows)

-- the session made at random that is asked for, with this start text: each number is one, and in its range
unfoldable pub session_among : Option (List ℕ) → List Row → Option Request
session_among start rows =
    option_and_then (λ seed. option_and_then (λ clients. option_and_then (λ present. option_and_then (λ instructions.
    option_map (Generate seed) (shape_if (record {
      clients = clients;
      present = present;
      instructions = instructions;
      start = start;
      is_open = flag_among (codes "open") rows;
    })))
    (number_among (codes "instructions") 60 rows)) (number_if_among (codes "present") rows)) (number_among (codes "clients") 4 rows)) (number_among (codes "seed") 1 rows)

-- an option is there
abbrev pub is_given : Text → List Row → Bool
is_given id rows = is_some (first_of id rows)

-- a word is there that only a session made at random has, and one that only all small sessions have
abbrev pub has_random : List Row → Bool
has_random rows = is_given (codes "seed") rows || (is_given (codes "present") rows || (is_given (codes "instructions") rows || flag_among (codes "open") rows))

abbrev pub has_every : List Row → Bool
has_every rows =
    is_given (codes "edits") rows || (is_given (codes "inserts") rows || (is_given (codes "letters") rows || (is_given (codes "part") rows
    || (flag_among (codes "join") rows || flag_among (codes "count") rows))))

-- which small sessions are asked for, with this start text: each number is one, and in its range
unfoldable pub space_among : Option (List ℕ) → List Row → Option Space
space_among start rows =
    option_and_then (λ clients. option_and_then (λ edits. option_and_then (λ inserts. option_and_then (λ letters.
    space_if (space_of clients (flag_among (codes "join") rows) (unwrap_or start []) edits inserts letters))
    (number_among (codes "letters") 1 rows)) (number_among (codes "inserts") 1 rows)) (number_among (codes "edits") 2 rows)) (number_among (codes "clients") 2 rows)

-- the part of two numbers, and of a text I/N
abbrev pub part_of_numbers : Option ℕ → Option ℕ → Option PartView
part_of_numbers number parts = option_and_then (λ n. option_and_then (λ p. part_if (part_in n p)) parts) number

abbrev pub part_of_text : Text → Option PartView
part_of_text t = part_of_numbers (number (before_first (λ byte. byte == 47) t)) (number (after_first (λ byte. byte == 47) t))

-- the part of an option's text, or the whole where there is none
abbrev pub part_or_whole : Option Text → Option PartView
part_or_whole None = Some whole
part_or_whole (Some t) = part_of_text t

-- the sessions of a part, or their number alone
abbrev pub every_request : Bool → Space → PartView → Request
every_request true space part = CountEvery space part
every_request false space part = ListEvery space part

unfoldable pub every_among : Option (List ℕ) → List Row → Option Request
every_among start rows =
    option_and_then (λ space. option_map (every_request (flag_among (codes "count") rows) space) (part_or_whole (first_of (codes "part") rows))) (space_among start rows)

-- what `generate` is asked for, by whether `--every` was given: no word of the other is there
abbrev pub sessions_among : Bool → Option (List ℕ) → List Row → Option Request
sessions_among true start rows = if has_random rows then None else every_among start rows
sessions_among false start rows = if has_every rows then None else session_among start rows

unfoldable pub generate_among : List Row → Option Asked
generate_among rows = option_map Plainly (sessions_among (flag_among (codes "every") rows) (chars_among (codes "start") rows) rows)

-- the request of a subcommand
abbrev pub request_in_rows : Text × List Row → Option Asked
request_in_rows p =
    if bytes_eq p.0 (codes "run") then Some (Plainly (run_among p.1)) else
    (if bytes_eq p.0 (codes "check") then Some (Plainly (check_among p.1)) else
    (if bytes_eq p.0 (codes "debug") then Some (Plainly Debug) else
    (if bytes_eq p.0 (codes "asm") then Some (Plainly Assemble) else
    (if bytes_eq p.0 (codes "dis") then Some (Plainly Disassemble) else
    (if bytes_eq p.0 (codes "judge") then Some (Plainly (Judge (flag_among (codes "json") p.1))) else
    (if bytes_eq p.0 (codes "steps") then Some (Plainly (Steps (flag_among (codes "documents") p.1))) else
    (if bytes_eq p.0 (codes "explain") then explain_among p.1 else
    (if bytes_eq p.0 (codes "conform") then conform_among p.1 else
    (if bytes_eq p.0 (codes "threads") then Some Threads else
    (if bytes_eq p.0 (codes "complete") then Some (Plainly Complete) else
    (if bytes_eq p.0 (codes "generate") then generate_among p.1 else None)))))))))))

abbrev pub request_of : List Text → Option Asked
request_of words = option_and_then request_in_rows (subcommand_of otbench_app words)
