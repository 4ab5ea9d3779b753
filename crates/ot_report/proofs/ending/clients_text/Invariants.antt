use Rattle.std.proofs.Common.{◌≡◌, take, string_bytes}
use Rattle.ot_report.specs.Printed.{client_lines}
use Rattle.ot_report.proofs.ending.clients_text.Given as goal

abbrev pub invariant-loop-client : goal.invariant-loop-client
invariant-loop-client l = string_bytes l.text ≡ client_lines 0 (take l.client l.machine.clients)
