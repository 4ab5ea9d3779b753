use Rattle.std.proofs.Common.{◌≡◌, ℕ, List, [], ◌∷◌, ◌++◌, length, IsUtf8, refl, sym, ap, ◌∙◌, arith}
use Rattle.std.specs.Char.{encode_utf8}
use Rattle.std.specs.Str.{chars}
use Rattle.std.proofs.lemmas.Str.{chars-encodes, cons_from_encodes, encodes_same}
use Rattle.ot_json.proofs.building.only_letter.Goals as goal

none_left : (rest : List ℕ) → length rest ≡ 0 → rest ≡ []
none_left [] e = refl
none_left (b ∷ rest) e = absurd (omega (arith, e))

one_letter : (text rest : List ℕ) (letter : ℕ) → IsUtf8 text → text ≡ encode_utf8 letter ++ rest → length rest ≡ 0 → chars text ≡ letter ∷ []
one_letter text rest letter u e none =
    let first = cons_from_encodes u.0 rest letter (u.1.1 ∙ e) in
    let end : first.0 ≡ [] = encodes_same first.0 [] (first.2 ∙ none_left rest none) in
    ap chars (sym u.1.1) ∙ chars-encodes u.0 u.1.0 ∙ first.1 ∙ ap (λ ls. letter ∷ ls) end

pub returns-in-Some-None : goal.returns-in-Some-None
returns-in-Some-None c =
    let found = c.in-Some-None in
    one_letter c.args.text.now c.next.new.self.rest.now found.letter c.utf8.text (sym c.chars-letters.ensures.rest ∙ found.ensures.steps.0) found.ensures'.steps.0.0
