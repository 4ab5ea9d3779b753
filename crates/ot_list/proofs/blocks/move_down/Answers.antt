use Rattle.std.proofs.Common.{◌+◌, ◌≤◌, ◌∙◌, refl, arith}
use Rattle.ot_list.proofs.Moved.{down_more, down_all}
use Rattle.ot_list.proofs.blocks.move_down.Goals as goal

pub loop-done-preserved : goal.loop-done-preserved
loop-done-preserved g c =
    let more : c.loop-done.done + 8 ≤ c.args.count = omega (arith, c.loop-done-test.true, c.loop-done.invariant.1) in (
      down_more c.args.items.now c.loop-done.items c.args.from c.args.to c.args.count c.loop-done.done (c.loop-done.done + 8) c.move_block.new.items c.requires.down c.requires.within
          refl more c.move_block.ensures c.loop-done.invariant.0,
      more,
    )

pub returns : goal.returns
returns g c =
    c.copy_within.ensures.after
    ∙ down_all c.args.items.now c.loop-done.items c.args.from c.args.to c.args.count c.loop-done.done c.requires.down c.requires.within c.loop-done.invariant.0
