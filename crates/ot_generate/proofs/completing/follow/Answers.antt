use Rattle.std.proofs.Common.{arith, rules}
use Rattle.ot_generate.proofs.Draining.{follow_room, followed_more, for_clients, refused_at}
use Rattle.ot_generate.proofs.completing.follow.Goals as goal

pub follow-requires-clause-client : goal.follow-requires-clause-client
follow-requires-clause-client c = for_clients c.args.schedule.now c.loop-place.place c.in-Some.instr.now c.loop-place.walk c.clients.ensures.limits c.loop-place.invariant c.in-Some.ensures.some

pub follow-requires-clause-room : goal.follow-requires-clause-room
follow-requires-clause-room c = follow_room c.args.schedule.now c.loop-place.place c.loop-place.walk c.clients.ensures.limits c.loop-place.invariant (omega arith)

pub returns-in-Err : goal.returns-in-Err
returns-in-Err c =
    record {
      ok = tt;
      err = refused_at c.args.schedule.now c.loop-place.place c.loop-place.walk c.in-Some.instr.now c.in-Err.refusal c.loop-place.invariant c.keeps.ensures c.in-Some.ensures.some (c.in-Err.ensures.refused (search rules));
    }

pub loop-place-preserved : goal.loop-place-preserved
loop-place-preserved c = followed_more c.args.schedule.now c.loop-place.place c.loop-place.walk c.follow.new.self c.in-Some.instr.now c.loop-place.invariant c.in-Some.ensures.some c.in-Ok.ensures.ok
