use Rattle.std.proofs.Common.{◌≡◌, ◌-◌, arith}
use Rattle.ot_list.proofs.Replacing.{leaf_more}
use Rattle.ot_list.proofs.list.List.block_size.Goals as goal

pub loop-next-preserved : goal.loop-next-preserved
loop-next-preserved g c =
    let order = c.loop-next.auto.next in
    let more = leaf_more c.args.self.now c.args.place c.loop-next.next c.size-items.result order (omega arith) c.size-items.ensures.value in
    (omega (arith, more, c.loop-next.invariant.0), omega (arith, c.loop-next.invariant.1, c.size-items.ensures.small, c.size-items.ensures.cap, order))

pub returns : goal.returns
returns g c =
    let all : c.loop-next.next - c.args.place ≡ 8 = omega arith in
    rw all at c.loop-next.invariant.0
