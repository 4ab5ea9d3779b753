use Rattle.std.specs.Prelude.{◌≡◌, ◌<◌, ◌≤◌, ◌+◌}
use Rattle.std.specs.VecDeque.{deque_capacity, deque_len}
use Rattle.ot_debug.specs.Stepping.{undos_in, AreNewest}
use Rattle.ot_debug.proofs.recent.Recent.make_room.Given as goal

abbrev pub invariant-loop-self : goal.invariant-loop-self
invariant-loop-self l =
    record {
      rest : AreNewest (undos_in l.fn.self) (undos_in l.self);
      stay : l.fn.self.size + l.size ≤ l.fn.self.limit → (l.self.size ≡ l.fn.self.size) × (undos_in l.self ≡ undos_in l.fn.self);
      less : l.self.size ≤ l.fn.self.size;
      room : deque_len l.self.records < deque_capacity l.self.records;
      limit : l.self.limit ≡ l.fn.self.limit;
      kept : l.self.kept ≡ l.fn.self.kept;
    }

abbrev pub decreases-loop-self : goal.decreases-loop-self
decreases-loop-self l = deque_len l.self.records
