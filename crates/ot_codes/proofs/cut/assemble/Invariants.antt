use Rattle.std.proofs.Common.{drop}
use Rattle.ot_codes.proofs.Assembling.{Assembled}
use Rattle.ot_codes.proofs.cut.assemble.Given as goal

abbrev pub invariant-loop-cut : goal.invariant-loop-cut
invariant-loop-cut g l = Assembled l.cuts l.first l.second l.text.items l.at (drop l.cut-index l.cuts)
