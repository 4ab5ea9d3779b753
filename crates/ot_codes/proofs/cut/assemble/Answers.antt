use Rattle.std.proofs.Common.{◌+◌, arith}
use Rattle.ot_codes.proofs.Assembling.{next_within, assembled_next}
use Rattle.ot_codes.proofs.cut.assemble.Goals as goal

pub add_part-requires : goal.add_part-requires
add_part-requires g c =
    let ends = next_within c.args.cuts.now c.args.first.now c.args.second.now c.loop-cut.text.items c.loop-cut.at c.loop-cut.cut-index (record { at = 0; gone = 0; from = 0; put = 0 }) (omega arith) c.loop-cut.invariant in
    record { order = ends.0; within_first = omega (arith, ends.2); within_second = ends.1 }

pub loop-cut-preserved : goal.loop-cut-preserved
loop-cut-preserved g c =
    assembled_next c.args.cuts.now c.args.first.now c.args.second.now c.loop-cut.text.items c.loop-cut.at c.loop-cut.cut-index (record { at = 0; gone = 0; from = 0; put = 0 }) (omega arith) c.loop-cut.invariant
    (c.loop-cut.cut-index + 1) c.add_part.new.text.items (omega arith) c.in_ok-add_part.ensures
