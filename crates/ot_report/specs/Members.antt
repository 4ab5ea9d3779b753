-- Verdicts, and what is not settled, as members of JSON objects.
use Rattle.std.specs.Prelude.{ℕ, Bool, true, false, List, [], ◌∷◌, ◌++◌, Option, Some, None, codes, decimal}
use Rattle.ot_check.specs.declared.outcome.Unsettled.{Unsettled}
use Rattle.ot_check.specs.declared.outcome.Unsettled.TheVariants as unsettled
use Rattle.ot_check.specs.declared.outcome.Convergence.{Convergence}
use Rattle.ot_check.specs.declared.outcome.Convergence.TheVariants.{Quiet, NotQuiet, Differs}
use Rattle.ot_isa.specs.declared.elements.Tag.{Tag}
use Rattle.ot_judge.specs.declared.verdict.Verdict.{Verdict}
use Rattle.ot_judge.specs.declared.verdict.Verdict.TheVariants.{Holds, BadVisibility, Doubled, Missing, Extra, WrongPlace, Reversed}
use Rattle.ot_model.specs.declared.shown.Refusal.{Refusal}
use Rattle.ot_values.specs.Items.{with_item}
use Rattle.ot_values.specs.Values.{refusal_text}
use Rattle.ot_report.specs.Verdicts.{verdict_line}

-- ---- verdicts

-- [origin,serial]
abbrev pub tag_json : Tag → List ℕ
tag_json tag = codes "[" ++ (decimal tag.origin ++ (codes "," ++ (decimal tag.serial ++ codes "]")))

-- a verdict against a trace: its kind, the events, the elements' tags
abbrev pub against : List ℕ → List ℕ → List ℕ → List ℕ
against kind events tags = codes "\"verdict\":\"" ++ (kind ++ (codes "\",\"events\":[" ++ (events ++ (codes "],\"tags\":[" ++ (tags ++ codes "]")))))

-- a verdict on one event and one element
abbrev pub against_one : List ℕ → ℕ → Tag → List ℕ
against_one kind event tag = against kind (decimal event) (tag_json tag)

-- two elements that two events have in both orders
abbrev pub reversed : ℕ → ℕ → Tag → Tag → List ℕ
reversed first second a b = against (codes "reversed") (decimal first ++ (codes "," ++ decimal second)) (tag_json a ++ (codes "," ++ tag_json b))

abbrev pub verdict_members : Verdict → List ℕ
verdict_members Holds = codes "\"verdict\":\"holds\""
verdict_members (BadVisibility event) = against (codes "bad-visibility") (decimal event) []
verdict_members (Doubled event tag) = against_one (codes "doubled") event tag
verdict_members (Missing event tag) = against_one (codes "missing") event tag
verdict_members (Extra event tag) = against_one (codes "extra") event tag
verdict_members (WrongPlace event tag) = against_one (codes "wrong-place") event tag
verdict_members (Reversed first second a b) = reversed first second a b

abbrev pub verdict_json : Verdict → List ℕ
verdict_json verdict = codes "{" ++ (verdict_members verdict ++ codes "}\n")

-- a verdict in words, or as JSON
abbrev pub verdict_text : Bool → Verdict → List ℕ
verdict_text false verdict = verdict_line verdict
verdict_text true verdict = verdict_json verdict

-- of a schedule's trace, which may be too large to be judged
abbrev pub trace_members : Option Verdict → List ℕ
trace_members None = codes "\"verdict\":\"trace full\""
trace_members (Some verdict) = verdict_members verdict

-- ---- a stop

abbrev pub stopped_member : Option (ℕ × Refusal) → List ℕ
stopped_member None = []
stopped_member (Some stop) = codes ",\"stopped\":\"" ++ (refusal_text stop.1 ++ codes "\"")

-- ---- what is not settled

-- {"what":"up","client":0}
abbrev pub waiting_json : List ℕ → ℕ → List ℕ
waiting_json what client = codes "{\"what\":\"" ++ (what ++ (codes "\",\"client\":" ++ (decimal client ++ codes "}")))

abbrev pub unsettled_json : Unsettled → List ℕ
unsettled_json (unsettled.Client c) = waiting_json (codes "client") c
unsettled_json (unsettled.Up c) = waiting_json (codes "up") c
unsettled_json (unsettled.Down c) = waiting_json (codes "down") c

-- {"what":"document","client":1,"place":20}
abbrev pub astray_json : ℕ → ℕ → List ℕ
astray_json client place =
    codes "{\"what\":\"document\",\"client\":" ++ (decimal client ++ (codes ",\"place\":" ++ (decimal place ++ codes "}")))

-- one item more, unless all is quiet
abbrev pub with_unsettled : List ℕ → Convergence → List ℕ
with_unsettled items Quiet = items
with_unsettled items (NotQuiet what) = with_item items (unsettled_json what)
with_unsettled items (Differs client place) = with_item items (astray_json client place)

abbrev pub with_all_unsettled : List ℕ → List Convergence → List ℕ
with_all_unsettled items [] = items
with_all_unsettled items (c ∷ cs) = with_all_unsettled (with_unsettled items c) cs

-- whether there is none
abbrev pub none_word : List ℕ → List ℕ
none_word [] = codes "true"
none_word (b ∷ bs) = codes "false"

abbrev pub quiet_members : List ℕ → List ℕ
quiet_members items = codes ",\"quiet\":" ++ (none_word items ++ (codes ",\"unsettled\":[" ++ (items ++ codes "]")))

abbrev pub unsettled_members : List Convergence → List ℕ
unsettled_members settling = quiet_members (with_all_unsettled [] settling)
