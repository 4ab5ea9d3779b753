use Rattle.std.proofs.Common.{string_bytes}
use Rattle.ot_values.proofs.Pieced.{text_piece}
use Rattle.ot_values.proofs.letters.push_texts.Goals as goal

pub loop-piece-preserved : goal.loop-piece-preserved
loop-piece-preserved g c =
    text_piece g.T.Letter.code c.args.pieces c.loop-piece.ahead c.in-Some.piece.now c.next.new.self (string_bytes c.args.text.now) (string_bytes c.loop-piece.text) (string_bytes c.push_text.new.text)
    c.loop-piece.invariant c.in-Some.ensures.next c.in_ok-push_text.ensures
