use Rattle.std.proofs.Common.{◌<◌, length, arith}
use Rattle.ot_list.proofs.Replacing.{found_more}
use Rattle.ot_list.proofs.list.List.find.Goals as goal

pub loop-place-preserved : goal.loop-place-preserved
loop-place-preserved g c =
    let within : c.loop-place.place < length c.args.self.now = omega arith in
    found_more c.args.self.now c.args.from c.loop-place.place c.loop-place.left c.args.count c.size-items.result (omega (arith, c.loop-place.auto.place, c.skip_blocks-start.ensures.order)) within c.size-items.ensures.value c.if-items-left.false c.loop-place.invariant
