use Rattle.std.proofs.Common.{ap, sym, ◌∙◌, Some, ℕ, List}
use Rattle.std.specs.Prelude.{option_map}
use Rattle.std.specs.Str.{chars}
use Rattle.clap.specs.Words.{found_of}
use Rattle.ot_words.proofs.Options.{given, missing}
use Rattle.ot_words.proofs.words.chars_in.Goals as goal

pub returns-in_ok-text-in-Some : goal.returns-in_ok-text-in-Some
returns-in_ok-text-in-Some c =
    ap (λ (text : List ℕ). Some text) c.in_ok-text-in-Some.ensures ∙ sym (ap (option_map chars) (given (found_of c.args.matches.now) c.args.id.now c.in-Some.text.now c.in-Some.ensures))

pub returns-in-None : goal.returns-in-None
returns-in-None c = sym (ap (option_map chars) (missing (found_of c.args.matches.now) c.args.id.now c.in-None.ensures))
