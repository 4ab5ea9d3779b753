use Rattle.std.proofs.Common.{string_bytes}
use Rattle.ot_values.proofs.Pieced.{pushed_piece}
use Rattle.ot_values.proofs.letters.push_pieces.Goals as goal

pub loop-piece-preserved : goal.loop-piece-preserved
loop-piece-preserved g c =
    pushed_piece g.T.Letter.code c.args.pieces c.loop-piece.ahead c.in-Some.piece.now c.next.new.self (string_bytes c.args.text.now) (string_bytes c.loop-piece.text) (string_bytes c.push_piece.new.text)
    c.loop-piece.invariant c.in-Some.ensures.next (c.in_ok-push_piece.ensures.plain c.if-not-branch.false) (c.in_ok-push_piece.ensures.pushed c.if-not-branch.false)
