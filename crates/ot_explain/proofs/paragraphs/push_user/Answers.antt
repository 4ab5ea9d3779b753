use Rattle.std.proofs.Common.{string_bytes}
use Rattle.std.specs.Prelude.{codes}
use Rattle.std.proofs.lemmas.Result.{on_ok_weaker}
use Rattle.ot_explain.specs.Words.{number, operation_words}
use Rattle.ot_explain.proofs.Texts.{two}
use Rattle.ot_explain.proofs.paragraphs.push_user.Goals as goal

pub returns : goal.returns
returns c =
    on_ok_weaker c.push_edit.result
    (two (string_bytes c.args.text.now) (number (codes "  the user of client ") c.args.client (codes " edits ")) (operation_words c.args.op.now) c.in_ok-write.ensures.bytes) c.push_edit.ensures
