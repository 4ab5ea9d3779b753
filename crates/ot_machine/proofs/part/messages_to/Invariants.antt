use Rattle.std.proofs.Common.{◌≡◌, map, take}
use Rattle.ot_model.specs.Table.{head_for}
use Rattle.ot_machine.specs.Parts.{head_in}
use Rattle.ot_machine.proofs.part.messages_to.Given as goal

abbrev pub invariant-loop-place : goal.invariant-loop-place
invariant-loop-place l = map head_in l.incoming.items ≡ map (head_for l.client) (take l.place l.entries)
