use Rattle.std.proofs.Common.{◌++◌, ◌∙◌, List, ℕ, ap, get_or, string_bytes}
use Rattle.std.proofs.lemmas.Option.{slice_get-get_or}
use Rattle.ot_verdict.specs.declared.waiting.Waiting.TheVariants.{Sent}
use Rattle.ot_explain.specs.Agreeing.{separator, waiting_piece, waiting_text}
use Rattle.ot_explain.proofs.Sentences.{piece_next}
use Rattle.ot_explain.proofs.Texts.{two}
use Rattle.ot_explain.proofs.agreeing.push_all_waiting.Goals as goal

pub loop-place-preserved : goal.loop-place-preserved
loop-place-preserved c =
    let s = c.args.machine.now in
    let xs = c.args.waiting.now in
    let k = c.loop-place.place in
    let so_far = string_bytes c.loop-place.text in
    piece_next (waiting_piece s) xs k (get_or xs k (Sent 0)) (string_bytes c.args.text.now) so_far (string_bytes c.push_waiting.new.text) (slice_get-get_or xs k (Sent 0) c.loop-place-test.true) c.loop-place.invariant
    (two so_far (separator k) (waiting_text s (get_or xs k (Sent 0))) (c.in_ok-push_str.ensures.bytes ∙ ap (λ (t : List ℕ). so_far ++ t) c.separator.ensures) c.in_ok-push_waiting.ensures)
