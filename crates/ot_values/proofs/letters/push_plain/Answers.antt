use Rattle.std.proofs.Common.{◌∙◌, ◌++◌, ap, sym, append_assoc, string_bytes, List, ℕ, map, take}
use Rattle.std.specs.Char.{encode_utf8}
use Rattle.std.specs.Str.{encode_utf8_all}
use Rattle.ot_values.proofs.Escaping.{front_more}
use Rattle.ot_values.proofs.letters.push_plain.Goals as goal

pub loop-item-preserved : goal.loop-item-preserved
loop-item-preserved g c =
    let code = g.T.Letter.code in
    let old = string_bytes c.args.text.now in
    let before = encode_utf8_all (map code (take c.loop-item.item-index c.args.letters.now)) in
    c.in_ok-push.ensures.bytes
    ∙ ap (λ (t : List ℕ). t ++ encode_utf8 c.letter.result) c.loop-item.invariant
    ∙ append_assoc old before (encode_utf8 c.letter.result)
    ∙ ap (λ (n : ℕ). old ++ (before ++ encode_utf8 n)) c.letter.ensures
    ∙ ap (λ (t : List ℕ). old ++ t) (sym (front_more code c.args.letters.now c.loop-item.item-index c.item-item.result c.loop-item-test.true c.item-item.is))
