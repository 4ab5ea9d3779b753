use Rattle.std.proofs.Common.{◌≡◌, ◌+◌, ◌*◌, ◌<◌, ◌≤◌, ℕ}
use Rattle.ot_every.proofs.due.is_reached.Given as goal

abbrev pub invariant-loop-more : goal.invariant-loop-more
invariant-loop-more l = record {
  sum : l.reached ≡ l.least + l._more * l.each;
  within : l.reached ≤ l.room + l.each;
  before : (k : ℕ) → k < l._more → l.room ≡ l.least + k * l.each → ⊥;
}
