use Rattle.std.proofs.Common.{◌-◌, ◌∙◌, arith}
use Rattle.ot_list.proofs.Moved.{up_more, up_all}
use Rattle.ot_list.proofs.blocks.move_up.Goals as goal

pub loop-ahead-preserved : goal.loop-ahead-preserved
loop-ahead-preserved g c = (
  up_more c.args.items.now c.loop-ahead.items c.args.from c.args.to c.args.count c.loop-ahead.ahead (c.loop-ahead.ahead - 8) c.move_block.new.items c.requires.up c.requires.within
      (omega (arith, c.loop-ahead-test.true)) c.move_block.ensures c.loop-ahead.invariant.0,
  omega (arith, c.loop-ahead.invariant.1),
)

pub returns : goal.returns
returns g c =
    c.copy_within.ensures.after
    ∙ up_all c.args.items.now c.loop-ahead.items c.args.from c.args.to c.args.count c.loop-ahead.ahead c.requires.up c.requires.within c.loop-ahead.invariant.0
