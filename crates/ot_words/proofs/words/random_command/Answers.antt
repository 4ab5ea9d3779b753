use Rattle.std.proofs.Common.{ap, codes, ◌∙◌}
use Rattle.std.proofs.lemmas.Result.{IfOk-weaker}
use Rattle.clap.specs.Words.{App, with_rule}
use Rattle.ot_words.specs.Requests.{flag_rule, option_rule}
use Rattle.ot_words.proofs.words.random_command.Goals as goal

pub returns : goal.returns
returns c =
    let one = c.in_ok-command.ensures ∙ ap (λ (a : App). with_rule a (option_rule (codes "seed"))) c.plain-command.ensures in
    let two = c.in_ok-command-2.ensures ∙ ap (λ (a : App). with_rule a (option_rule (codes "clients"))) one in
    let three = c.in_ok-command-3.ensures ∙ ap (λ (a : App). with_rule a (option_rule (codes "present"))) two in
    let four = c.in_ok-command-4.ensures ∙ ap (λ (a : App). with_rule a (option_rule (codes "instructions"))) three in
    let five = c.in_ok-command-5.ensures ∙ ap (λ (a : App). with_rule a (option_rule (codes "start"))) four in
    IfOk-weaker c.flagged.result _ _ (λ r h. h ∙ ap (λ (a : App). with_rule a (flag_rule (codes "open"))) five) c.flagged.ensures
