use Rattle.std.proofs.Common.{◌≤◌, ◌+◌, ◌^◌}
use Rattle.ot_commands.proofs.Walking.{Told}
use Rattle.ot_commands.proofs.many.write_each.Given as goal

-- the sessions before are answered
abbrev pub invariant-taking : goal.invariant-taking
invariant-taking g l =
    let remaining = g.I.Read.remaining in
    let contents = g.O.Write.contents in
    record {
      told : Told l.sparse l.json (remaining l.fn.input) (remaining l.input) l.sessions l.first l.conform (contents l.fn.output) (contents l.output);
      low : l.sessions ≤ l.first;
      few : l.first + g.I.Source.left l.input ≤ 2 ^ 51;
    }

abbrev pub decreases-taking : goal.decreases-taking
decreases-taking g l = g.I.Source.left l.input
