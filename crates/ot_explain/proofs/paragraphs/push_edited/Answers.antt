use Rattle.std.proofs.Common.{◌∙◌, ◌++◌, string_bytes}
use Rattle.std.proofs.lemmas.Result.{on_ok_weaker}
use Rattle.ot_model.specs.Table.{Client}
use Rattle.ot_machine.specs.Readers.{phase_name}
use Rattle.ot_machine.specs.Effects.{client_in}
use Rattle.ot_explain.specs.Told.{edit_goes, user_words}
use Rattle.ot_explain.proofs.Clients.{has_in}
use Rattle.ot_explain.proofs.Texts.{two}
use Rattle.ot_explain.proofs.paragraphs.push_edited.Goals as goal

pub returns : goal.returns
returns c =
    let m = c.args.machine.now in
    let n = c.args.client in
    let x = client_in m n in
    let mid = string_bytes c.push_user.new.text in
    let revision = has_in m n (λ (x : Client). x.revision) c.revision.result c.revision.ensures in
    let phase = has_in m n (λ (x : Client). phase_name x.phase) c.phase.result c.phase.ensures in
    on_ok_weaker c.push_goes.result
    (λ e. two (string_bytes c.args.text.now) (user_words n c.args.op.now) (edit_goes x.revision (phase_name x.phase)) c.in_ok-push_user.ensures (e ∙ (λ i. mid ++ edit_goes (revision i) (phase i))))
    c.push_goes.ensures
