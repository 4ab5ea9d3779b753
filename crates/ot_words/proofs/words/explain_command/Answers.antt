use Rattle.std.proofs.Common.{ap, codes, ◌∙◌}
use Rattle.std.proofs.lemmas.Result.{IfOk-weaker}
use Rattle.clap.specs.Words.{App, with_rule}
use Rattle.ot_words.specs.Requests.{flag_rule}
use Rattle.ot_words.proofs.words.explain_command.Goals as goal

pub returns : goal.returns
returns c =
    let one = c.in_ok-command.ensures ∙ ap (λ (a : App). with_rule a (flag_rule (codes "trace"))) c.plain-command.ensures in
    let two = c.in_ok-command-2.ensures ∙ ap (λ (a : App). with_rule a (flag_rule (codes "plan"))) one in
    let three = c.in_ok-command-3.ensures ∙ ap (λ (a : App). with_rule a (flag_rule (codes "image"))) two in
    IfOk-weaker c.flagged-4.result _ _ (λ r h. h ∙ ap (λ (a : App). with_rule a (flag_rule (codes "json"))) three) c.flagged-4.ensures
