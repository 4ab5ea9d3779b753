use Rattle.ot_conform.specs.Due.{opening_due}
use Rattle.ot_conform.specs.Read.{read_as}
use Rattle.ot_conform.specs.declared.comparison.Stage.TheVariants.{Running}
use Rattle.ot_conform.proofs.Going.{goes_opening}
use Rattle.ot_conform.proofs.Settling.{agreed, if_ok, opening_decides}
use Rattle.ot_conform.proofs.comparison.Comparison.take_opening.Goals as goal

pub returns : goal.returns
returns c =
    let here = c.args.self.now in
    let s = c.args.schedule.now in
    let line = read_as c.args.line.now in
    record {
      goes = if_ok c.judge.result _ _
          (λ v judged none. goes_opening s here _ line c.requires.standing c.requires.stage c.requires.opening (agreed here c.judge.new.counts (opening_due s) Running line v judged none)) c.judge.ensures;
      decided = if_ok c.judge.result _ _ (λ v judged. opening_decides s here c.judge.new.counts line v c.requires.stage c.requires.opening judged) c.judge.ensures;
    }
