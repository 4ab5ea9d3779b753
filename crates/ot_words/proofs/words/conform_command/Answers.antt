use Rattle.std.proofs.Common.{ap, codes, ◌∙◌}
use Rattle.std.proofs.lemmas.Result.{IfOk-weaker}
use Rattle.clap.specs.Words.{App, with_rule}
use Rattle.ot_words.specs.Requests.{flag_rule}
use Rattle.ot_words.proofs.words.conform_command.Goals as goal

pub returns : goal.returns
returns c =
    let one = c.in_ok-command.ensures ∙ ap (λ (a : App). with_rule a (flag_rule (codes "sparse"))) c.plain-command.ensures in
    let two = c.in_ok-command-2.ensures ∙ ap (λ (a : App). with_rule a (flag_rule (codes "json"))) one in
    let three = c.in_ok-command-3.ensures ∙ ap (λ (a : App). with_rule a (flag_rule (codes "many"))) two in
    IfOk-weaker c.flagged-4.result _ _ (λ r h. h ∙ ap (λ (a : App). with_rule a (flag_rule (codes "all"))) three) c.flagged-4.ensures
