use Rattle.std.proofs.Common.{◌++◌, ◌∙◌, List, ℕ, ap, get_or, string_bytes}
use Rattle.std.specs.Prelude.{codes}
use Rattle.std.proofs.lemmas.Option.{slice_get-get_or}
use Rattle.ot_explain.specs.Agreeing.{alternative, choice_piece}
use Rattle.ot_explain.specs.Words.{number}
use Rattle.ot_explain.proofs.Sentences.{piece_next}
use Rattle.ot_explain.proofs.Texts.{two}
use Rattle.ot_explain.proofs.agreeing.push_choice.Goals as goal

pub loop-place-preserved : goal.loop-place-preserved
loop-place-preserved c =
    let xs = c.args.clients.now in
    let k = c.loop-place.place in
    let so_far = string_bytes c.loop-place.text in
    piece_next choice_piece xs k (get_or xs k 0) (string_bytes c.args.text.now) so_far (string_bytes c.write.new.self) (slice_get-get_or xs k 0 c.loop-place-test.true) c.loop-place.invariant
    (two so_far (alternative k) (number (codes "client ") (get_or xs k 0) (codes "'s")) (c.in_ok-push_str.ensures.bytes ∙ ap (λ (t : List ℕ). so_far ++ t) c.alternative.ensures) c.in_ok-write.ensures.bytes)
