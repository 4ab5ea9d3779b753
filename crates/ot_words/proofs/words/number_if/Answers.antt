use Rattle.std.proofs.Common.{ap, sym, ◌∙◌, Some, ℕ}
use Rattle.std.specs.Prelude.{option_map, Option}
use Rattle.clap.specs.Words.{found_of}
use Rattle.ot_asm.specs.Numbers.{number}
use Rattle.ot_words.specs.Requests.{number_if}
use Rattle.ot_words.proofs.Options.{given, missing}
use Rattle.ot_words.proofs.words.number_if.Goals as goal

pub returns-in-Some-read_number : goal.returns-in-Some-read_number
returns-in-Some-read_number c =
    ap (λ (n : Option ℕ). option_map (λ (m : ℕ). Some m) n) (c.in-Some-read_number.ensures ∙ ap number c.as_bytes.ensures.value)
    ∙ sym (ap number_if (given (found_of c.args.matches.now) c.args.id.now c.in-Some.text.now c.in-Some.ensures))

pub returns-in-None-read_number : goal.returns-in-None-read_number
returns-in-None-read_number c =
    ap (λ (n : Option ℕ). option_map (λ (m : ℕ). Some m) n) (c.in-None-read_number.ensures ∙ ap number c.as_bytes.ensures.value)
    ∙ sym (ap number_if (given (found_of c.args.matches.now) c.args.id.now c.in-Some.text.now c.in-Some.ensures))

pub returns-in-None : goal.returns-in-None
returns-in-None c = sym (ap number_if (missing (found_of c.args.matches.now) c.args.id.now c.in-None.ensures))
