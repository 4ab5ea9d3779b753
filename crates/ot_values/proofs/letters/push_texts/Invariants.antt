use Rattle.std.proofs.Common.{length, string_bytes}
use Rattle.ot_values.proofs.Pieced.{IsTextBefore}
use Rattle.ot_values.proofs.letters.push_texts.Given as goal

abbrev pub invariant-loop-piece : goal.invariant-loop-piece
invariant-loop-piece g l = IsTextBefore g.T.Letter.code l.fn.pieces l.ahead (string_bytes l.fn.text) (string_bytes l.text)

abbrev pub decreases-loop-piece : goal.decreases-loop-piece
decreases-loop-piece g l = length l.ahead
