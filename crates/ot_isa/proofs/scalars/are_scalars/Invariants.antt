use Rattle.std.proofs.Common.{◌≡◌, true, take}
use Rattle.std.specs.Str.{all_scalars}
use Rattle.ot_isa.proofs.scalars.are_scalars.Given as goal

abbrev pub invariant-loop-ch : goal.invariant-loop-ch
invariant-loop-ch l = all_scalars (take l.ch-index l.text) ≡ true
