use Rattle.std.proofs.Common.{string_bytes}
use Rattle.std.specs.Prelude.{codes}
use Rattle.std.proofs.lemmas.Result.{on_ok_weaker}
use Rattle.ot_explain.specs.Agreeing.{choice_words}
use Rattle.ot_explain.specs.Words.{number}
use Rattle.ot_explain.proofs.Texts.{three}
use Rattle.ot_explain.proofs.agreeing.push_depends.Goals as goal

pub returns : goal.returns
returns c =
    on_ok_weaker c.write.result
    (three (string_bytes c.args.text.now) (codes ". What they become may depend on whose edit the server takes first, ") (choice_words c.args.clients.now) (number (codes "; complete takes client ") c.args.first (codes "'s first.\n")) c.in_ok-push_str.ensures.bytes c.in_ok-push_choice.ensures)
    c.write.ensures.bytes
