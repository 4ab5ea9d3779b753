use Rattle.std.proofs.Common.{◌≤◌, ◌+◌}
use Rattle.ot_console.proofs.Loops.{IsLooped}
use Rattle.ot_console.proofs.looping.command_loop.Given as goal

-- the lines that were taken are answered
abbrev pub invariant-loop-taken : goal.invariant-loop-taken
invariant-loop-taken g l =
    let remaining = g.R.Read.remaining in
    let contents = g.W.Write.contents in
    record {
      looped : IsLooped l.fn.debugger l.debugger l.faulted l.taken (remaining l.fn.reader) (remaining l.reader) (contents l.fn.writer) (contents l.writer);
      few : l.taken + g.R.Source.left l.reader ≤ g.R.Source.left l.fn.reader;
    }

abbrev pub decreases-loop-taken : goal.decreases-loop-taken
decreases-loop-taken g l = g.R.Source.left l.reader
