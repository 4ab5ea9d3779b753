use Rattle.std.proofs.Common.{◌≡◌, take}
use Rattle.ot_report.specs.Authors.{inserters}
use Rattle.ot_report.proofs.authors.inserters_of.Given as goal

abbrev pub invariant-loop-place : goal.invariant-loop-place
invariant-loop-place l = l.numbers.items ≡ inserters l.client 0 (take l.place l.schedule.instrs)
