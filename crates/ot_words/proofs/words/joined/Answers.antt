use Rattle.std.proofs.lemmas.Result.{IfOk-weaker}
use Rattle.ot_words.proofs.Shapes.{third_not}
use Rattle.ot_words.proofs.words.joined.Goals as goal

pub returns : goal.returns
returns c = IfOk-weaker c.subcommand.result _ _ (λ r adds plain. adds.shape (third_not _ _ _ _ plain)) c.subcommand.ensures
