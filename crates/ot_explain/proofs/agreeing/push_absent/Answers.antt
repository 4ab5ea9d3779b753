use Rattle.std.proofs.Common.{string_bytes}
use Rattle.std.proofs.lemmas.Option.{slice_get-get_or}
use Rattle.ot_explain.specs.Agreeing.{absent_line}
use Rattle.ot_explain.proofs.Sentences.{piece_next}
use Rattle.ot_explain.proofs.agreeing.push_absent.Goals as goal

pub loop-place-preserved : goal.loop-place-preserved
loop-place-preserved c =
    let xs = c.args.clients.now in
    let k = c.loop-place.place in
    piece_next absent_line xs k _ (string_bytes c.args.text.now) (string_bytes c.loop-place.text) (string_bytes c.write.new.self) (slice_get-get_or xs k 0 c.loop-place-test.true) c.loop-place.invariant c.in_ok-write.ensures.bytes
