use Rattle.std.proofs.Common.{◌≡◌, take, drop}
use Rattle.ot_operation.specs.Steps.{with_runs}
use Rattle.ot_codes.specs.Codes.{runs_of, sum_of}
use Rattle.ot_codes.proofs.codes.Codes.append.Given as goal

abbrev pub invariant-loop-place : goal.invariant-loop-place
invariant-loop-place l = record { written : l.self ≡ with_runs l.fn.self (runs_of (take l.place l.codes)); left_is : l.left ≡ sum_of (drop l.place l.codes) }
