-- The answer as JSON.
use Rattle.std.specs.Prelude.{ℕ, List, [], ◌∷◌, ◌++◌, map, Option, Some, None, codes, decimal, string_bytes}
use Rattle.json.specs.Print.{quoted}
use Rattle.ot_rules.specs.Explained.{Explained}
use Rattle.ot_rules.specs.Text.{Given}
use Rattle.ot_model.specs.declared.shown.Refusal.{Refusal}
use Rattle.ot_values.specs.Items.{with_items}
use Rattle.ot_values.specs.Values.{refusal_text}
use Rattle.ot_conform.specs.Answers.{agreement_word, count_name, field_name, malformed_sentence}
use Rattle.ot_conform.specs.Counted.{counted_keys, is_nothing}
use Rattle.ot_conform.specs.Points.{difference_points}
use Rattle.ot_conform.specs.Unknown.{Named}
use Rattle.ot_conform.specs.declared.answers.Difference.{Difference}
use Rattle.ot_conform.specs.declared.answers.Owner.{Owner}
use Rattle.ot_conform.specs.declared.answers.Owner.TheVariants as owner
use Rattle.ot_conform.specs.declared.comparison.Verdict.{Verdict}
use Rattle.ot_conform.specs.declared.comparison.Verdict.TheVariants.{Conforms, Differs, Stopped}
use Rattle.ot_conform.specs.declared.counts.Counts.{Counts}
use Rattle.ot_conform.specs.declared.malformed.Malformed.{Malformed}
use Rattle.ot_steps.specs.declared.key.Key.{Key}

-- ---- members and items

-- a member of an object that stands behind another one
abbrev pub member : List ℕ → List ℕ → List ℕ
member name value = codes ",\"" ++ (name ++ (codes "\":" ++ value))

abbrev pub text_member : List ℕ → List ℕ → List ℕ
text_member name text = member name (quoted text)

abbrev pub in_brackets : List ℕ → List ℕ
in_brackets items = 91 ∷ (items ++ 93 ∷ [])

abbrev pub in_braces : List ℕ → List ℕ
in_braces members = 123 ∷ (members ++ 125 ∷ [])

abbrev pub array : List (List ℕ) → List ℕ
array items = in_brackets (with_items [] items)

-- ---- the parts of an answer

-- "KEY":N
abbrev pub count_item : List ℕ → ℕ → List ℕ
count_item name n = 34 ∷ (name ++ (34 ∷ 58 ∷ decimal n))

abbrev pub count_items : List Key → List ℕ → List (List ℕ)
count_items [] ns = []
count_items (k ∷ ks) [] = []
count_items (k ∷ ks) (n ∷ ns) = count_item (count_name k) n ∷ count_items ks ns

abbrev pub counts_json : Counts → List ℕ
counts_json c = in_braces (with_items [] (count_items counted_keys c.values))

-- whose value it is: a client's, or the server's
abbrev pub owner_member : Owner → List ℕ
owner_member owner.Nobody = []
owner_member owner.Server = member (codes "client") (codes "null")
owner_member (owner.Client c) = member (codes "client") (decimal c)

abbrev pub place_member : Option ℕ → List ℕ
place_member None = []
place_member (Some n) = member (codes "place") (decimal n)

abbrev pub points_member : Option (List ℕ × List ℕ) → List ℕ
points_member None = []
points_member (Some points) =
    member (codes "points") (in_braces (codes "\"found\":" ++ (array (map decimal points.0) ++ (codes ",\"otjs\":" ++ array (map decimal points.1)))))

abbrev pub given_json : Given → List ℕ
given_json g = in_braces (codes "\"name\":\"" ++ (g.name ++ (codes "\",\"value\":" ++ quoted g.value)))

abbrev pub note_member : Option (List ℕ) → List ℕ
note_member None = []
note_member (Some note) = text_member (codes "note") note

abbrev pub explained_members : Option Explained → List ℕ
explained_members None = []
explained_members (Some e) = text_member (codes "rule") e.rule ++ member (codes "given") (array (map given_json e.given)) ++ note_member e.note

-- what is wrong with the port's line, or else what the rules say
abbrev pub why_members : Option Malformed → Option Explained → List ℕ
why_members None said = explained_members said
why_members (Some m) said = text_member (codes "note") (malformed_sentence m)

abbrev pub where_members : Difference → List ℕ
where_members d =
    member (codes "at") (decimal d.place) ++ text_member (codes "instruction") (string_bytes d.what) ++ owner_member d.owner ++ text_member (codes "key") (field_name d.field)

abbrev pub value_members : Difference → List ℕ
value_members d =
    text_member (codes "found") (string_bytes d.found) ++ text_member (codes "otjs") (string_bytes d.wanted) ++ place_member d.front ++ points_member (difference_points d)

abbrev pub unknown_json : Named → List ℕ
unknown_json n = in_braces (codes "\"key\":" ++ (quoted n.key ++ (codes ",\"line\":" ++ decimal n.line)))

-- ---- the answer

-- the first member of an object
abbrev pub verdict_member : List ℕ → List ℕ
verdict_member word = codes "\"verdict\":" ++ quoted word

abbrev pub agreement_members : Counts → List ℕ
agreement_members c = verdict_member (agreement_word (is_nothing c)) ++ member (codes "compared") (counts_json c)

abbrev pub difference_members : Difference → Option Explained → List ℕ
difference_members d said = verdict_member (codes "differs") ++ where_members d ++ value_members d ++ why_members d.malformed said

abbrev pub stop_members : ℕ → Refusal → List ℕ
stop_members place refusal = verdict_member (codes "stopped") ++ member (codes "at") (decimal place) ++ text_member (codes "refusal") (refusal_text refusal)

-- the verdict, and what belongs to it
abbrev pub verdict_members : Verdict → Option Explained → List ℕ
verdict_members (Conforms counts) said = agreement_members counts
verdict_members (Differs d) said = difference_members d said
verdict_members (Stopped place refusal) said = stop_members place refusal

-- the unknown keys
abbrev pub unknown_member : List Named → List ℕ
unknown_member ns = member (codes "unknown") (array (map unknown_json ns))
