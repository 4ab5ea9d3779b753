use Rattle.std.proofs.Common.{arith}
use Rattle.ot_list.proofs.Replacing.{walked_more}
use Rattle.ot_list.proofs.list.List.skip_blocks.Goals as goal

pub loop-place-preserved : goal.loop-place-preserved
loop-place-preserved g c =
    let i = c.loop-place.invariant in
    let more = walked_more c.args.self.now c.args.from c.loop-place.place 8 i.0 in
    (omega (arith, i.0), omega (arith, i.1, c.leaf_count.ensures.count, c.loop-place-test.true), omega (arith, i.2, more, c.block_size-block.ensures, c.if-block-left.false))
