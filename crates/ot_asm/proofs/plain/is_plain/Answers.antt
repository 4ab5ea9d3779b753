use Rattle.std.proofs.Common.{◌≡◌, ◌∙◌, ap, rules}
use Rattle.std.specs.Str.{chars}
use Rattle.std.proofs.lemmas.Str.{chars_from_encodes}
use Rattle.ot_asm.specs.Plain.{all_seen}
use Rattle.ot_asm.proofs.plain.is_plain.Goals as goal

pub returns-in_ok-letters-in-Some : goal.returns-in_ok-letters-in-Some
returns-in_ok-letters-in-Some c =
    let got : c.in_ok-letters-in-Some.letters.items ≡ chars c.in-Some.text.now = search (rules, chars_from_encodes) in
    rw c.in-Some.ensures.some.1 (rw c.in-Some.ensures.some.0 at (c.all_seen.ensures ∙ ap all_seen (c.as_slice.ensures.value ∙ got)))
