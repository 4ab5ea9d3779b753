use Rattle.std.proofs.Common.{◌∙◌, ◌++◌, ap, sym, None, Option}
use Rattle.std.proofs.lemmas.List.{append-nil}
use Rattle.ot_model.specs.Table.{Message}
use Rattle.ot_verdict.specs.Pending.{sent_by}
use Rattle.ot_verdict.proofs.Gathering.{has_in}
use Rattle.ot_verdict.proofs.waiting.push_sent.Goals as goal

pub returns-in-None : goal.returns-in-None
returns-in-None c =
    let s = c.args.machine.now in
    let k = c.args.client in
    let list = c.args.list.now.items in
    sym (append-nil list) ∙ ap (λ (m : Option Message). list ++ sent_by k m) (has_in s k (λ x. x.message) None c.in-None.ensures)
