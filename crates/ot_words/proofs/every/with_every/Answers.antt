use Rattle.std.proofs.Common.{ap, codes, ◌∙◌}
use Rattle.std.proofs.lemmas.Result.{IfOk-weaker}
use Rattle.clap.specs.Words.{App, with_rule}
use Rattle.ot_words.specs.Requests.{flag_rule, option_rule}
use Rattle.ot_words.proofs.every.with_every.Goals as goal

pub returns : goal.returns
returns c =
    let one = c.in_ok-command.ensures in
    let two = c.in_ok-command-2.ensures ∙ ap (λ (a : App). with_rule a (option_rule (codes "edits"))) one in
    let three = c.in_ok-command-3.ensures ∙ ap (λ (a : App). with_rule a (option_rule (codes "inserts"))) two in
    let four = c.in_ok-command-4.ensures ∙ ap (λ (a : App). with_rule a (option_rule (codes "letters"))) three in
    let five = c.in_ok-command-5.ensures ∙ ap (λ (a : App). with_rule a (flag_rule (codes "join"))) four in
    let six = c.in_ok-command-6.ensures ∙ ap (λ (a : App). with_rule a (flag_rule (codes "count"))) five in
    IfOk-weaker c.valued-4.result _ _ (λ r h. h ∙ ap (λ (a : App). with_rule a (option_rule (codes "part"))) six) c.valued-4.ensures
