use Rattle.std.proofs.Common.{ap, ◌∙◌}
use Rattle.std.proofs.lemmas.Result.{IfOk-weaker}
use Rattle.ot_words.specs.Requests.{with_every}
use Rattle.ot_words.proofs.words.generate_command.Goals as goal

pub returns : goal.returns
returns c = IfOk-weaker c.with_every.result _ _ (λ r h. h ∙ ap with_every c.in_ok-command.ensures) c.with_every.ensures
