use Rattle.std.proofs.Common.{◌∙◌, ◌++◌, ◌-◌, ap, length, string_bytes, ℕ, Option, Some, None}
use Rattle.std.specs.Prelude.{codes, decimal}
use Rattle.std.proofs.lemmas.Result.{on_ok_weaker}
use Rattle.ot_client.specs.Client.{message_of}
use Rattle.ot_model.specs.Table.{Client, Message}
use Rattle.ot_steps.specs.Lines.{plain_operation}
use Rattle.ot_explain.specs.Words.{number, operation_words}
use Rattle.ot_explain.specs.Told.{against_log, take_words}
use Rattle.ot_explain.proofs.Clients.{has_in}
use Rattle.ot_explain.proofs.Texts.{four, pushed}
use Rattle.ot_explain.proofs.paragraphs.push_taken.Goals as goal

pub returns-in_default : goal.returns-in_default
returns-in_default c =
    let m = c.args.machine.now in
    let n = c.args.client in
    let old = string_bytes c.args.text.now in
    on_ok_weaker c.push_str.result
    (λ e. e ∙ ap (λ (o : Option Message). old ++ take_words n (length m.log) o) (has_in m n (λ (x : Client). x.message) None c.in_default.ensures)) (pushed c.push_str.result _ _ _ c.push_str.ensures.bytes)

pub returns : goal.returns
returns c =
    let m = c.args.machine.now in
    let n = c.args.client in
    let old = string_bytes c.args.text.now in
    let message = message_of c.in-Some.message.now in
    let r = message.revision in
    let d = string_bytes c.push_operation.new.text in
    on_ok_weaker c.push_against_log.result
    (λ e. four old (number (codes "  the server takes client ") n (codes "'s message of revision ")) (decimal r ++ codes ", ") (operation_words (plain_operation message.op)) (against_log (length m.log - r))
    c.in_ok-write.ensures.bytes c.in_ok-write-2.ensures.bytes c.in_ok-push_operation.ensures
    (e ∙ ap (λ (k : ℕ). d ++ against_log k) (c.saturating_sub.ensures ∙ ap (λ (l : ℕ). l - r) c.server_revision.ensures))
    ∙ ap (λ (o : Option Message). old ++ take_words n (length m.log) o) (has_in m n (λ (x : Client). x.message) (Some message) c.in-Some.ensures))
    c.push_against_log.ensures
