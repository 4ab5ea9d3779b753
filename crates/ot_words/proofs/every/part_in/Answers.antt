use Rattle.std.proofs.Common.{ap, codes, sym, ◌∙◌, Some}
use Rattle.clap.specs.Words.{found_of}
use Rattle.ot_every.specs.Parts.{PartView}
use Rattle.ot_words.specs.Requests.{part_or_whole}
use Rattle.ot_words.proofs.Options.{given, missing}
use Rattle.ot_words.proofs.every.part_in.Goals as goal

pub returns-in-Some : goal.returns-in-Some
returns-in-Some c = c.part_of_text.ensures ∙ sym (ap part_or_whole (given (found_of c.args.matches.now) (codes "part") c.in-Some.text.now c.in-Some.ensures))

pub returns-in-None : goal.returns-in-None
returns-in-None c = ap (λ (p : PartView). Some p) c.whole.ensures ∙ sym (ap part_or_whole (missing (found_of c.args.matches.now) (codes "part") c.in-None.ensures))
