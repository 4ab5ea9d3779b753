use Rattle.std.proofs.Common.{string_bytes}
use Rattle.std.specs.Prelude.{codes}
use Rattle.std.proofs.lemmas.Result.{on_ok_weaker}
use Rattle.ot_explain.specs.Told.{user_words}
use Rattle.ot_explain.proofs.Texts.{pushed, two}
use Rattle.ot_explain.proofs.ends.push_tried.Goals as goal

pub returns : goal.returns
returns c =
    rw c.in-Edit.is (on_ok_weaker c.push_str.result (two (string_bytes c.args.text.now) (user_words c.in-Edit.client c.in-Edit.op) (codes "\n") c.in_ok-push_user.ensures) (pushed c.push_str.result _ _ _ c.push_str.ensures.bytes))
