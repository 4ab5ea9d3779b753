-- The printed lines of a run, read as a port's lines, say what the lines say; so they conform.
use Rattle.std.proofs.Common.{◌≡◌, List, [], ◌∷◌, refl, sym, subst}
use Rattle.std.specs.List.{AllByRecursion}
use Rattle.streams.specs.Lines.{lines_of}
use Rattle.ot_steps.specs.Lines.{Line}
use Rattle.ot_steps.specs.Text.{lines_text}
use Rattle.ot_conform.specs.Laws.{PrintedChosenStepsConform, PrintedStepsConform, Say, chosen}
use Rattle.ot_conform.specs.Ports.{counted_lines}
use Rattle.ot_steps.specs.declared.key.Key.TheVariants as key
use Rattle.ot_conform.proofs.Conforming.{steps_conform}
use Rattle.ot_conform.proofs.Selecting.{chosen_all, chosen_steps_conform}
use Rattle.ot_conform.proofs.FormedLines.{run_formed}
use Rattle.ot_conform.proofs.LineSays.{says}
use Rattle.ot_conform.proofs.LineTrees.{IsLineFormed}
use Rattle.ot_conform.proofs.PrintedLines.{line_counted}

no_lines : counted_lines (lines_of (lines_text [])) ≡ []
unfolding lines_of
no_lines = refl

printed_say : (lines : List Line) → AllByRecursion IsLineFormed lines → Say lines (counted_lines (lines_of (lines_text lines)))
printed_say [] h = subst (Say []) (sym no_lines) tt
printed_say (line ∷ others) h =
    let saying = says line in
    subst (Say (line ∷ others)) (sym (line_counted line others h.0 (saying.under key.At))) (saying, printed_say others h.1)

pub printed_steps_conform : PrintedStepsConform
printed_steps_conform documents s stopped lines is are table =
    steps_conform documents s stopped lines (counted_lines (lines_of (lines_text lines))) are table (printed_say lines (run_formed documents s stopped lines is are))

pub printed_chosen_steps_conform : PrintedChosenStepsConform
printed_chosen_steps_conform documents s stopped lines which is are table =
    chosen_steps_conform documents s stopped lines which (counted_lines (lines_of (lines_text (chosen which lines)))) are table
    (printed_say (chosen which lines) (chosen_all IsLineFormed which lines (run_formed documents s stopped lines is are)))
