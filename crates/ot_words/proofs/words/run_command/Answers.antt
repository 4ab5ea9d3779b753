use Rattle.std.proofs.Common.{ap, codes, ◌∙◌}
use Rattle.std.proofs.lemmas.Result.{IfOk-weaker}
use Rattle.clap.specs.Words.{App, with_rule}
use Rattle.ot_words.specs.Requests.{flag_rule}
use Rattle.ot_words.proofs.words.run_command.Goals as goal

pub returns : goal.returns
returns c =
    let one = c.in_ok-command.ensures ∙ ap (λ (a : App). with_rule a (flag_rule (codes "image"))) c.plain-command.ensures in
    IfOk-weaker c.flagged-2.result _ _ (λ r h. h ∙ ap (λ (a : App). with_rule a (flag_rule (codes "json"))) one) c.flagged-2.ensures
