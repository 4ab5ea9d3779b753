use Rattle.std.proofs.Common.{◌++◌, List, ℕ, sym, ap, ◌∙◌, arith, add-one, string_bytes}
use Rattle.ot_report.proofs.Listing.{objects_more}
use Rattle.ot_report.proofs.run_json.clients_json.Goals as goal

pub loop-client-preserved : goal.loop-client-preserved
loop-client-preserved c =
    let i = c.loop-client.client in
    c.in_ok-push_str.ensures.bytes
    ∙ ap (λ (t : List ℕ). string_bytes c.loop-client.text ++ t) c.as_str.ensures.value
    ∙ ap (λ (t : List ℕ). t ++ string_bytes c.in_ok-line.line) c.loop-client.invariant
    ∙ rw (add-one i) (sym (objects_more 0 i i c.args.machine.now.clients (string_bytes c.in_ok-line.line) (omega arith) c.in_ok-line.ensures))
