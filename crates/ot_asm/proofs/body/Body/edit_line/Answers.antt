use Rattle.std.proofs.Common.{◌≡◌, ℕ, rules}
use Rattle.ot_asm.specs.Stepping.{Answer, with_client, with_edit, operation_of_rest, json_of}
use Rattle.ot_asm.specs.Words.{after_word}
use Rattle.ot_asm.proofs.Starts.{hides_edit}
use Rattle.ot_asm.proofs.body.Body.edit_line.Goals as goal

pub returns-in-Err-clause-memory : goal.returns-in-Err-clause-memory
returns-in-Err-clause-memory c is =
    let program = c.args.self.now.program in
    let rest = c.args.rest.now in
    let clients : c.clients.result ≡ program.clients = search rules in
    let then_do : ℕ → Answer = λ client. with_edit program client (operation_of_rest (after_word rest)) in
    let step : with_client c.clients.result rest then_do ≡ then_do c.in_ok-client.client = c.in_ok-client.ensures.ok then_do in
    let same = rw clients at step in
    rw same (hides_edit program c.in_ok-client.client (json_of (after_word rest)))
