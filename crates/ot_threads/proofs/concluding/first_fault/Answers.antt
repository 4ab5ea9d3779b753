use Rattle.ot_threads.proofs.Ends.{all_taken, first, one_more}
use Rattle.ot_threads.proofs.concluding.first_fault.Goals as goal

pub returns-in-Some-clause-some : goal.returns-in-Some-clause-some
returns-in-Some-clause-some c = first c.args.ends.now c.loop-end.end-index c.end-item.result c.in-Some.fault c.loop-end-test.true c.end-item.is c.in-Some.is c.loop-end.invariant

pub loop-end-preserved : goal.loop-end-preserved
loop-end-preserved c = one_more c.args.ends.now c.loop-end.end-index c.end-item.result c.loop-end-test.true c.end-item.is c.loop-end.invariant c.in-None.is

pub returns-clause-none : goal.returns-clause-none
returns-clause-none c = all_taken c.args.ends.now c.loop-end.end-index c.loop-end-test.false c.loop-end.invariant
