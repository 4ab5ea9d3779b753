use Rattle.std.proofs.Common.{◌∙◌, ap, sym, arith}
use Rattle.ot_model.specs.Visibility.{is_edit_of}
use Rattle.ot_judge.specs.Views.{views}
use Rattle.ot_judge.proofs.Counts.{numbered-edit}
use Rattle.ot_judge.proofs.Views.{event_at-views, length-views}
use Rattle.ot_judge.proofs.news.find_edit.Goals as goal

pub bounds-numbers-d : goal.bounds-numbers-d
bounds-numbers-d c = omega (arith, c.requires.long, length-views c.args.events.now)

pub returns-then-numbers-d : goal.returns-then-numbers-d
returns-then-numbers-d c =
    let at = event_at-views c.args.events.now c.in_ok-d.d c.index-events-d.result c.if-d-events.true c.index-events-d.is in
    numbered-edit (views c.args.events.now) c.args.numbers.now c.args.replica c.args.n c.in_ok-d.d (omega (arith, c.if-d-events.true, length-views c.args.events.now)) c.requires
    (ap (is_edit_of c.args.replica) at ∙ sym c.is_edit_of.ensures ∙ c.if-is_edit_of.true) c.if-numbers-d.true
