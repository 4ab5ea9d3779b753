use Rattle.std.proofs.Common.{◌≡◌, ◌++◌, take}
use Rattle.ot_model.specs.Events.{tags}
use Rattle.ot_check.proofs.event.push_tags.Given as goal

abbrev pub invariant-loop-item : goal.invariant-loop-item
invariant-loop-item l = l.found.items ≡ l.fn.found.items ++ tags (take l.item-index l.piece)
