use Rattle.std.proofs.Common.{◌≡◌, ◌+◌, length}
use Rattle.streams.specs.Taken.{may_take, before}
use Rattle.streams.proofs.Ends.{IsPiece}
use Rattle.streams.proofs.ahead.Held.next_line.Given as goal

-- what was taken of the line
abbrev pub invariant-loop-self : goal.invariant-loop-self
invariant-loop-self g l =
    let remaining = g.R.Read.remaining in
    record {
      piece : IsPiece (before l.fn.self (remaining l.fn.reader)) (before l.self (remaining l.reader)) l.line.items;
      count : may_take l.self + length l.line.items ≡ may_take l.fn.self;
    }

abbrev pub decreases-loop-self : goal.decreases-loop-self
decreases-loop-self g l = may_take l.self
