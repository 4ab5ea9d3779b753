use Rattle.std.proofs.Common.{reverse, append_assoc, refl, ◌∙◌}
use Rattle.ot_list.proofs.Merging.{moved_more}
use Rattle.ot_list.proofs.moves.move_last.Goals as goal

pub loop-moved-preserved : goal.loop-moved-preserved
loop-moved-preserved g c =
    let m = moved_more (reverse c.args.from.now.items) c.loop-moved._moved c.take_last.result c.loop-moved.from.items c.take_last.new.self.items c.loop-moved.invariant.from_is c.take_last.ensures.items in
    record {
      to_is = rw (c.push_reserved.ensures.items, c.loop-moved.invariant.to_is, append_assoc, m.0) refl;
      from_is = m.1;
      to_capacity = c.push_reserved.ensures.capacity ∙ c.loop-moved.invariant.to_capacity;
    }
