use Rattle.std.proofs.Common.{refl, sym, ◌∙◌}
use Rattle.ot_conform.proofs.comparison.judge.Goals as goal

pub returns-in_ok-differs-in-Some : goal.returns-in_ok-differs-in-Some
returns-in_ok-differs-in-Some c =
    (c.in_ok-differs-in-Some.field-0, (c.in-Some.field, sym c.in_ok-field.ensures ∙ c.in-Some.is, c.in_ok-differs-in-Some.ensures), refl)
