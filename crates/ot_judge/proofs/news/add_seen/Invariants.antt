use Rattle.ot_judge.specs.Turns.{Adds}
use Rattle.ot_judge.specs.Views.{views}
use Rattle.ot_judge.proofs.news.add_seen.Given as goal

abbrev pub invariant-loop-n : goal.invariant-loop-n
invariant-loop-n l = Adds (views l.events) l.e l.last l.replica l.n l.fn.news.items l.news.items
