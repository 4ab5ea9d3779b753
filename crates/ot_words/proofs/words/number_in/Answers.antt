use Rattle.std.proofs.Common.{ap, sym, ◌∙◌}
use Rattle.clap.specs.Words.{found_of}
use Rattle.ot_asm.specs.Numbers.{number}
use Rattle.ot_words.specs.Requests.{number_or}
use Rattle.ot_words.proofs.Options.{given, missing}
use Rattle.ot_words.proofs.words.number_in.Goals as goal

pub returns-in-Some : goal.returns-in-Some
returns-in-Some c =
    c.read_number.ensures ∙ ap number c.as_bytes.ensures.value
    ∙ sym (ap (number_or c.args.otherwise) (given (found_of c.args.matches.now) c.args.id.now c.in-Some.text.now c.in-Some.ensures))

pub returns-in-None : goal.returns-in-None
returns-in-None c = sym (ap (number_or c.args.otherwise) (missing (found_of c.args.matches.now) c.args.id.now c.in-None.ensures))
