use Rattle.std.proofs.Common.{◌≡◌, map, take}
use Rattle.ot_machine.specs.Parts.{head_in}
use Rattle.ot_machine.proofs.part.copy_messages.Given as goal

abbrev pub invariant-loop-place : goal.invariant-loop-place
invariant-loop-place l = map head_in l.copies.items ≡ map head_in (take l.place l.messages.items)
