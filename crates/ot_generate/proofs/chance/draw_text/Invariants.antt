use Rattle.std.proofs.Common.{◌≡◌, length}
use Rattle.ot_generate.proofs.chance.draw_text.Given as goal

abbrev pub invariant-loop-place : goal.invariant-loop-place
invariant-loop-place l = length l.text.items ≡ l.place
