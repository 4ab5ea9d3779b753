use Rattle.std.proofs.Common.{ap, codes, ◌∙◌}
use Rattle.std.proofs.lemmas.Result.{IfOk-weaker}
use Rattle.clap.specs.Words.{App, with_rule}
use Rattle.ot_words.specs.Requests.{flag_rule}
use Rattle.ot_words.proofs.words.steps_command.Goals as goal

pub returns : goal.returns
returns c = IfOk-weaker c.flagged.result _ _ (λ r h. h ∙ ap (λ (a : App). with_rule a (flag_rule (codes "documents"))) c.plain-command.ensures) c.flagged.ensures
