use Rattle.std.proofs.Common.{Global, Vec, arith, below_more}
use Rattle.std.proofs.lemmas.List.{length-map}
use Rattle.ot_isa.specs.declared.elements.Tag.{Tag}
use Rattle.ot_judge.specs.Ranks.{IsCompared}
use Rattle.ot_judge.proofs.Filtered.{items_of}
use Rattle.ot_judge.proofs.Rising.{agree-none}
use Rattle.ot_judge.proofs.order.compare_all.Goals as goal

pub loop-d-preserved : goal.loop-d-preserved
loop-d-preserved c =
    let none = rw c.in_default.is at c.in_ok-found.ensures in
    below_more (IsCompared (items_of c.args.lists.now)) c.loop-d.d c.loop-d.invariant none

pub returns : goal.returns
returns c = agree-none (items_of c.args.lists.now) (λ d lt e later within. c.loop-d.invariant d (omega (arith, lt, c.loop-d-test.false, length-map c.args.lists.now (λ (v : Vec Tag Global). v.items))) e later within)
