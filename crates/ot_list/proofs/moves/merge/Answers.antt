use Rattle.std.proofs.Common.{get_or, reverse, arith}
use Rattle.std.proofs.lemmas.List.{get_or_default}
use Rattle.ot_list.specs.declared.span.Span.{Span}
use Rattle.ot_list.proofs.Merging.{merging_next}
use Rattle.ot_list.proofs.moves.merge.Goals as goal

pub move_last-requires-in-loop-span-clause-room : goal.move_last-requires-in-loop-span-clause-room
move_last-requires-in-loop-span-clause-room g c =
    let none : Span = record { kept = 0; gone = 0; put = 0 } in
    let s : Span = get_or c.args.spans.now c.loop-span.span-index none in
    let n = merging_next c.args.spans.now c.args.list.now.items c.args.others.now.items c.loop-span.span-index (reverse c.loop-span.list.items) (reverse c.loop-span.others.items) c.loop-span.room.list.items c.loop-span.room.gone.items s c.loop-span-test.true
    (get_or_default c.args.spans.now c.loop-span.span-index none s c.loop-span-test.true) c.loop-span.invariant.merging c.requires.fit in
    omega (arith, n.gone_room)
