use Rattle.std.proofs.Common.{◌≡◌, ◌==◌, true, false, ap, sym, ◌∙◌, rules}
use Rattle.ot_asm.specs.Words.{without_return}
use Rattle.ot_asm.proofs.Ends.{return_last, other_last}
use Rattle.ot_asm.proofs.words.without_return.Goals as goal

pub returns-then-last-eq13 : goal.returns-then-last-eq13
returns-then-last-eq13 c =
    let is = c.in-Some.ensures.cases.0 in
    let yes : (c.in-Some.last.now == 13) ≡ true = search rules in
    sym (ap without_return is ∙ return_last _ _ yes)

pub returns-in-Some : goal.returns-in-Some
returns-in-Some c =
    let is = c.in-Some.ensures.cases.0 in
    let no : (c.in-Some.last.now == 13) ≡ false = search rules in
    is ∙ sym (ap without_return is ∙ other_last _ _ no)
