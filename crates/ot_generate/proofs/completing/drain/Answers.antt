use Rattle.std.proofs.Common.{arith, sym, ◌∷◌, ◌++◌, []}
use Rattle.ot_generate.proofs.Draining.{draining_more, room_left}
use Rattle.ot_generate.proofs.Walking.{longer}
use Rattle.ot_generate.proofs.completing.drain.Goals as goal

pub make_next-requires-clause-room : goal.make_next-requires-clause-room
make_next-requires-clause-room c = room_left c.loop-instr.walk c.is_full.result c.keeps.ensures c.is_full.ensures c.if-is_full.false

pub loop-instr-smaller : goal.loop-instr-smaller
loop-instr-smaller c =
    let less = room_left c.loop-instr.walk c.is_full.result c.keeps.ensures c.is_full.ensures c.if-is_full.false in
    let made = c.in_ok-make_next.ensures in
    let many = longer c.loop-instr.walk c.make_next.new.self c.in-Some.instr made in
    let same = made.room in
    omega arith

pub loop-instr-preserved : goal.loop-instr-preserved
loop-instr-preserved c =
    (c.loop-instr.invariant.0 ++ c.in-Some.instr ∷ [], draining_more c.args.walk.now c.loop-instr.walk c.make_next.new.self c.loop-instr.invariant.0 c.in-Some.instr c.loop-instr.invariant.1 (sym c.in-Some.ensures) c.in_ok-make_next.ensures)
