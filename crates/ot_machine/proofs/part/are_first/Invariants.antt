use Rattle.std.proofs.Common.{◌≡◌, map, take}
use Rattle.ot_model.specs.Table.{head_for}
use Rattle.ot_machine.specs.Parts.{head_in}
use Rattle.ot_machine.proofs.part.are_first.Given as goal

abbrev pub invariant-loop-place : goal.invariant-loop-place
invariant-loop-place l = take l.place (map head_in l.incoming.items) ≡ take l.place (map (head_for l.client) l.entries)
