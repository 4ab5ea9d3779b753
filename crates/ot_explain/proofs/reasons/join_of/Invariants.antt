use Rattle.std.proofs.Common.{◌≡◌, drop}
use Rattle.ot_explain.specs.Reasons.{join_from}
use Rattle.ot_explain.proofs.reasons.join_of.Given as goal

-- none of the instructions before is the client's `join`
abbrev pub invariant-loop-number : goal.invariant-loop-number
invariant-loop-number l = join_from l.client l.number (drop l.number l.schedule.instrs) ≡ join_from l.client 0 l.schedule.instrs
