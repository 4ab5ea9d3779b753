use Rattle.std.proofs.Common.{◌≡◌, take, string_bytes}
use Rattle.ot_report.specs.RunJson.{clients_json}
use Rattle.ot_report.proofs.run_json.clients_json.Given as goal

abbrev pub invariant-loop-client : goal.invariant-loop-client
invariant-loop-client l = string_bytes l.text ≡ clients_json 0 (take l.client l.machine.clients)
