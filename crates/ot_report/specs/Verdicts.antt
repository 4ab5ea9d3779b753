-- The lines of verdicts.
use Rattle.std.specs.Prelude.{ℕ, List, [], ◌∷◌, ◌++◌, codes, decimal}
use Rattle.ot_check.specs.declared.outcome.Unsettled.{Unsettled}
use Rattle.ot_check.specs.declared.outcome.Unsettled.TheVariants as unsettled
use Rattle.ot_check.specs.declared.outcome.Convergence.{Convergence}
use Rattle.ot_check.specs.declared.outcome.Convergence.TheVariants.{Quiet, NotQuiet, Differs}
use Rattle.ot_isa.specs.declared.elements.Tag.{Tag}
use Rattle.ot_judge.specs.declared.verdict.Verdict.{Verdict}
use Rattle.ot_judge.specs.declared.verdict.Verdict.TheVariants.{Holds, BadVisibility, Doubled, Missing, Extra, WrongPlace, Reversed}

-- origin:serial
abbrev pub tag_text : Tag → List ℕ
tag_text tag = decimal tag.origin ++ 58 ∷ decimal tag.serial

abbrev pub at_event : List ℕ → ℕ → Tag → List ℕ
at_event word event tag = word ++ 32 ∷ (decimal event ++ 32 ∷ (tag_text tag ++ 10 ∷ []))

-- the line of a verdict
abbrev pub verdict_line : Verdict → List ℕ
verdict_line Holds = codes "holds" ++ 10 ∷ []
verdict_line (BadVisibility event) = codes "bad-visibility " ++ (decimal event ++ 10 ∷ [])
verdict_line (Doubled event tag) = at_event (codes "doubled") event tag
verdict_line (Missing event tag) = at_event (codes "missing") event tag
verdict_line (Extra event tag) = at_event (codes "extra") event tag
verdict_line (WrongPlace event tag) = at_event (codes "wrong-place") event tag
verdict_line (Reversed first second a b) =
    codes "reversed " ++ (decimal first ++ 32 ∷ (decimal second ++ 32 ∷ (tag_text a ++ 32 ∷ (tag_text b ++ 10 ∷ []))))

-- what is not settled: a client, what it sends, what it is sent
abbrev pub unsettled_text : Unsettled → List ℕ
unsettled_text (unsettled.Client c) = codes "client " ++ (decimal c ++ 10 ∷ [])
unsettled_text (unsettled.Up c) = codes "up " ++ (decimal c ++ 10 ∷ [])
unsettled_text (unsettled.Down c) = codes "down " ++ (decimal c ++ 10 ∷ [])

-- the line of a comparison of all lists
abbrev pub convergence_line : Convergence → List ℕ
convergence_line Quiet = codes "quiet" ++ 10 ∷ []
convergence_line (NotQuiet what) = codes "not quiet: " ++ unsettled_text what
convergence_line (Differs c place) = codes "differs: client " ++ (decimal c ++ (codes " place " ++ (decimal place ++ 10 ∷ [])))

-- the lines of all of these, in order
abbrev pub settling_lines : List Convergence → List ℕ
settling_lines [] = []
settling_lines (c ∷ others) = convergence_line c ++ settling_lines others
