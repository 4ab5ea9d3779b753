use Rattle.std.proofs.Common.{◌≤◌, ◌+◌, ◌^◌}
use Rattle.ot_conform.specs.Summed.{sum_value}
use Rattle.ot_commands.proofs.Walking.{Walked}
use Rattle.ot_commands.proofs.many.find_first.Given as goal

-- the sessions before conform
abbrev pub invariant-taking : goal.invariant-taking
invariant-taking g l =
    let remaining = g.I.Read.remaining in
    record {
      walked : Walked l.sparse (remaining l.fn.input) (remaining l.input) l.sessions l.first (sum_value l.sum);
      low : l.sessions ≤ l.first;
      few : l.first + g.I.Source.left l.input ≤ 2 ^ 51;
    }

abbrev pub decreases-taking : goal.decreases-taking
decreases-taking g l = g.I.Source.left l.input
