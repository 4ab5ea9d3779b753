use Rattle.std.proofs.Common.{◌∷◌, ◌++◌, [], List, ap, ◌∙◌, append_assoc}
use Rattle.std.specs.Prelude.{codes}
use Rattle.ot_rules.specs.Text.{Given, given_operation, given_values}
use Rattle.ot_rules.proofs.printing.push_pending.Goals as goal

pub returns-in_ok-push_operation-in-Buffered-2 : goal.returns-in_ok-push_operation-in-Buffered-2
returns-in_ok-push_operation-in-Buffered-2 c =
    let buffer : List Given = given_operation (codes "buffer") c.in-Buffered.buffer ∷ [] in
    rw c.in-Buffered.is
    (c.in_ok-push_operation-in-Buffered-2.ensures
    ∙ ap (λ (given : List Given). given ++ buffer) c.in_ok-push_operation-in-Buffered.ensures
    ∙ append_assoc (given_values c.args.given.now.items) _ buffer)
