use Rattle.std.proofs.Common.{◌≡◌, true, length, subst, arith, List, ℕ}
use Rattle.std.proofs.Math.Seq.{take_all}
use Rattle.streams.specs.Lines.{lacks}
use Rattle.streams.proofs.Cuts.{lacks_front, cut}
use Rattle.streams.proofs.splitting.split_line.Goals as goal

pub returns-in-Some-clause-some : goal.returns-in-Some-clause-some
returns-in-Some-clause-some c =
    let text = c.args.text.now in
    let first = c.in-Some.ensures in
    rw (c.split_at.ensures.front, c.split_at-in-Some.ensures.back, c.split_at.ensures.back) (
      lacks_front text c.in-Some.at (omega (arith, first.0.high)) first.0.before,
      cut text c.in-Some.at first.0.high first.1,
    )

pub returns-in-None-clause-none : goal.returns-in-None-clause-none
returns-in-None-clause-none c none =
    let text = c.args.text.now in
    subst (λ (t : List ℕ). lacks t ≡ true) (take_all (length text) text (omega arith)) (lacks_front text (length text) (omega arith) c.in-None.ensures)
