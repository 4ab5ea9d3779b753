use Rattle.std.proofs.Common.{◌≤◌, ◌+◌}
use Rattle.ot_commands.proofs.Keeping.{IsKeptKnown}
use Rattle.ot_commands.proofs.part.keep_part.Given as goal

-- the lines that were taken are kept, and none is a mark
abbrev pub invariant-loop-line : goal.invariant-loop-line
invariant-loop-line g l =
    let remaining = g.R.Read.remaining in
    record {
      kept : IsKeptKnown (remaining l.fn.input) (remaining l.input) l.number l.text.items;
      low : 1 ≤ l.number;
      few : l.number + g.R.Source.left l.input ≤ 1 + g.R.Source.left l.fn.input;
    }

abbrev pub decreases-loop-line : goal.decreases-loop-line
decreases-loop-line g l = g.R.Source.left l.input
