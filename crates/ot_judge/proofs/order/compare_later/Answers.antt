use Rattle.std.proofs.Common.{◌<◌, Global, Vec, arith, below_more}
use Rattle.std.proofs.lemmas.List.{length-map}
use Rattle.ot_isa.specs.declared.elements.Tag.{Tag}
use Rattle.ot_model.specs.TraceLaws.{AgreeInOrder}
use Rattle.ot_model.specs.WeakList.{nth}
use Rattle.ot_judge.proofs.Filtered.{items_of}
use Rattle.ot_judge.proofs.order.compare_later.Goals as goal

pub loop-e-preserved : goal.loop-e-preserved
loop-e-preserved c = λ e later lt.
    let lists = items_of c.args.lists.now in
    let none = rw c.in_default.is at c.in_ok-found.ensures in
    below_more (λ k. c.args.d < k → AgreeInOrder (nth lists c.args.d) (nth lists k)) c.loop-e.e (λ k less after. c.loop-e.invariant k after less) (λ _. none) e lt later

pub returns : goal.returns
returns c = λ e later lt. c.loop-e.invariant e later (omega (arith, lt, c.loop-e-test.false, length-map c.args.lists.now (λ (v : Vec Tag Global). v.items)))
