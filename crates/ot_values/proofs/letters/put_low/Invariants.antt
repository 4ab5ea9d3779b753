use Rattle.std.proofs.Common.{◌<◌}
use Rattle.ot_values.proofs.Ascii.{IsPutTo}
use Rattle.ot_values.proofs.letters.put_low.Given as goal

abbrev pub invariant-loop-place : goal.invariant-loop-place
invariant-loop-place g l = l.bits < 128 → IsPutTo g.T.Letter.code l.letters l.place l.bytes
