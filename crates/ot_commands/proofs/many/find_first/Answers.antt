use Rattle.std.proofs.Common.{arith, refl}
use Rattle.ot_conform.specs.Summed.{sum_value}
use Rattle.ot_commands.proofs.Walking.{refused_one, walk_on}
use Rattle.ot_commands.proofs.many.find_first.Goals as goal

pub taking-preserved : goal.taking-preserved
taking-preserved g c =
    let remaining = g.I.Read.remaining in
    let next = rw c.in-Ok-Some.field-0-is at c.in-Ok-Some.ensures.ok in
    let spent = rw c.in-Ok-Some.field-0-is at c.in-Ok-Some.ensures.spent in
    let adds = rw c.in-Ok-true.field-0-test at c.in-Ok-true.ensures in
    record {
      walked = walk_on c.args.sparse (remaining c.args.input.now) (remaining c.taking.input) (remaining c.next_session.new.input) c.taking.sessions c.taking.first c.in-Ok-Some.lines
          (sum_value c.taking.sum) (sum_value c.add_session.new.sum) c.in-Ok-Some.session c.taking.invariant.walked next adds;
      low = omega (arith, spent.0, c.taking.invariant.low);
      few = omega (arith, spent.1, c.taking.invariant.few);
    }

pub returns-in-Err-clause-err : goal.returns-in-Err-clause-err
returns-in-Err-clause-err g c =
    let remaining = g.I.Read.remaining in
    refused_one c.args.sparse (g.I.Source.failed c.next_session.new.input) (remaining c.args.input.now) (remaining c.taking.input) c.taking.sessions c.taking.first _ (sum_value c.taking.sum) c.in-Err.fault c.taking.invariant.walked
    c.in-Err.ensures.err refl
