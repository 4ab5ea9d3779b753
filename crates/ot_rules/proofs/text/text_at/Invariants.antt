use Rattle.std.proofs.Common.{◌≡◌, drop, take}
use Rattle.ot_model.specs.Table.{start_list}
use Rattle.ot_rules.specs.Texts.{replayed}
use Rattle.ot_rules.proofs.text.text_at.Given as goal

abbrev pub invariant-loop-number : goal.invariant-loop-number
invariant-loop-number l = replayed l.list (drop l.number (take l.revision l.machine.log)) ≡ replayed (start_list l.schedule.start) (take l.revision l.machine.log)
