use Rattle.std.proofs.Common.{◌∙◌, ap, sym, Bool, if◌then◌else◌}
use Rattle.ot_asm.specs.declared.place.Place.{Place}
use Rattle.ot_asm.specs.declared.place.Place.TheVariants.{Apart, Word}
use Rattle.ot_asm.proofs.Runs.{behind_last}
use Rattle.ot_asm.proofs.passing.last_place.Goals as goal

abbrev chosen : Bool → Place
chosen word = if word then Word else Apart

pub returns-then-is_of_word : goal.returns-then-is_of_word
returns-then-is_of_word c =
    sym (
    behind_last c.args.place c.args.bytes.now c.in-Some.byte.now (sym c.in-Some.ensures.value)
    ∙ ap chosen (sym c.is_of_word.ensures ∙ c.if-is_of_word.true)
    )

pub returns-else-is_of_word : goal.returns-else-is_of_word
returns-else-is_of_word c =
    sym (
    behind_last c.args.place c.args.bytes.now c.in-Some.byte.now (sym c.in-Some.ensures.value)
    ∙ ap chosen (sym c.is_of_word.ensures ∙ c.if-is_of_word.false)
    )
