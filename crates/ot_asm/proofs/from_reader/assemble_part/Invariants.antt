use Rattle.std.proofs.Common.{◌≤◌, ◌+◌}
use Rattle.streams.specs.Taken.{Spends}
use Rattle.ot_asm.proofs.Known.{IsTakenKnown}
use Rattle.ot_asm.proofs.from_reader.assemble_part.Given as goal

-- the lines that were taken have no fault, and no mark where marks count
abbrev pub invariant-loop-body : goal.invariant-loop-body
invariant-loop-body g l =
    let remaining = g.R.Read.remaining in
    record {
      taken : IsTakenKnown l.fn.marked (remaining l.fn.reader) (remaining l.reader) l.line l.body;
      spent : Spends (g.R.Source.left l.fn.reader) (g.R.Source.left l.reader) (remaining l.fn.reader) (remaining l.reader);
      low : 1 ≤ l.line;
      few : l.line + g.R.Source.left l.reader ≤ 1 + g.R.Source.left l.fn.reader;
    }

abbrev pub decreases-loop-body : goal.decreases-loop-body
decreases-loop-body g l = g.R.Source.left l.reader
