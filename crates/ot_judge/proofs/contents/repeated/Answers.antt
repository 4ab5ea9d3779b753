use Rattle.ot_judge.proofs.Repeated.{repeated-more, seen-more}
use Rattle.ot_judge.proofs.contents.repeated.Goals as goal

pub loop-a-preserved : goal.loop-a-preserved
loop-a-preserved c = record {
  seen = λ q. seen-more c.args.list.now c.loop-a.a-index q _ _ c.loop-a-test.true (c.loop-a.invariant.seen q) (c.in_ok-note.ensures.seen q);
  again = λ q. repeated-more c.args.list.now c.loop-a.a-index q _ _ _ c.loop-a-test.true (c.loop-a.invariant.again q) (c.loop-a.invariant.seen q) (c.in_ok-note.ensures.again q);
}
