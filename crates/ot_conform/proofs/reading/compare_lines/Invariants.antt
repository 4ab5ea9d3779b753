use Rattle.std.proofs.Common.{◌≤◌, ◌+◌}
use Rattle.ot_conform.specs.Unknown.{all_named}
use Rattle.ot_conform.proofs.Naming.{IsNaming}
use Rattle.ot_conform.proofs.reading.compare_lines.Given as goal

-- the lines that were taken agree, and their unknown keys are named
abbrev pub invariant-taking : goal.invariant-taking
invariant-taking g l =
    let remaining = g.R.Read.remaining in
    record {
      naming : IsNaming l.sparse l.schedule l.comparison l.taken (remaining l.fn.reader) (remaining l.reader) l.earlier (all_named l.unknown.items);
      few : l.taken + g.R.Source.left l.reader ≤ g.R.Source.left l.fn.reader;
    }

abbrev pub decreases-taking : goal.decreases-taking
decreases-taking g l = g.R.Source.left l.reader
