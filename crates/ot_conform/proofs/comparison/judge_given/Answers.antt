use Rattle.std.proofs.Common.{subst}
use Rattle.ot_conform.specs.Alike.{IsJudged}
use Rattle.ot_conform.specs.Due.{due_of}
use Rattle.ot_conform.specs.Ports.{PortLine}
use Rattle.ot_conform.proofs.Settling.{if_ok}
use Rattle.ot_conform.proofs.comparison.judge_given.Goals as goal

pub returns-clause-judged : goal.returns-clause-judged
returns-clause-judged c =
    if_ok c.judge.result _ _ (λ v. subst (λ (line : PortLine). IsJudged c.args.counts.now c.judge.new.counts (due_of c.args.due.now) line v) c.in_ok-line.ensures.read) c.judge.ensures
