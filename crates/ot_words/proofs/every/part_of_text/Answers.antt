use Rattle.std.proofs.Common.{ap₂, sym, ◌∙◌, None, Option, Some, ℕ, arith}
use Rattle.std.proofs.lemmas.Str.Pattern.{split_once_first}
use Rattle.ot_words.specs.Requests.{part_of_numbers}
use Rattle.ot_words.proofs.Parts.{no_slash, slash}
use Rattle.ot_words.proofs.every.part_of_text.Goals as goal

pub returns-in-Some : goal.returns-in-Some
returns-in-Some c =
    let parts = split_once_first 47 c.args.text.now (Some (c.in-Some.number, c.in-Some.parts)) c.in-Some.ensures.cases (omega arith) in
    slash c.args.text.now c.in-Some.number.now c.in-Some.parts.now c.part_of_numbers.result parts.1 parts.2
    (c.part_of_numbers.ensures ∙ ap₂ (λ (a b : Option ℕ). part_of_numbers a b) c.number_of-first.ensures c.number_of-second.ensures)

pub returns-in-None : goal.returns-in-None
returns-in-None c =
    let whole = split_once_first 47 c.args.text.now None c.in-None.ensures.cases (omega arith) in
    sym (no_slash c.args.text.now whole)
