use Rattle.std.proofs.Common.{List, ℕ, sym, ap, ◌∙◌, Some}
use Rattle.std.proofs.lemmas.Result.{IfOk-weaker}
use Rattle.std.specs.Prelude.{slice_get}
use Rattle.ot_report.specs.RunJson.{client_parts}
use Rattle.ot_report.proofs.Listing.{object_from}
use Rattle.ot_report.proofs.run_json.client_json.Goals as goal

pub returns : goal.returns
returns c =
    let client = c.args.client in
    let revision = c.revision-revision.result in
    let list = c.document.result.now in
    let object = object_from client (slice_get c.args.machine.now.clients client) revision c.phase.result list c.revision-revision.ensures c.phase.ensures c.document.ensures in
    let parts = ap (λ (word : List ℕ). client_parts client revision word list) c.phase_name-phase.ensures in
    IfOk-weaker c.client_parts.result _ _ (λ s e. object ∙ ap (λ (t : List ℕ). Some t) (sym (e ∙ parts))) c.client_parts.ensures
