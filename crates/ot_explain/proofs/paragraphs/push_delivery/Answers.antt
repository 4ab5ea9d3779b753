use Rattle.std.proofs.Common.{◌∙◌, ◌++◌, [], ap, string_bytes, Option}
use Rattle.std.specs.Prelude.{codes, slice_get}
use Rattle.std.proofs.lemmas.Result.{on_ok_weaker}
use Rattle.ot_model.specs.Table.{Client, Entry}
use Rattle.ot_machine.specs.Effects.{client_in}
use Rattle.ot_steps.specs.Steps.{buffer_of, outstanding_of}
use Rattle.ot_explain.specs.Words.{entry_text, number, with_operation}
use Rattle.ot_explain.proofs.Clients.{has_in}
use Rattle.ot_explain.proofs.Texts.{four}
use Rattle.ot_explain.proofs.paragraphs.push_delivery.Goals as goal

pub returns : goal.returns
returns c =
    let m = c.args.machine.now in
    let n = c.args.client in
    let x = client_in m n in
    let a = string_bytes c.write.new.self in
    let b = string_bytes c.push_entry.new.text in
    let d = string_bytes c.push_with.new.text in
    let against = codes ", transforms it against its outstanding operation " in
    let more = codes " and its buffer " in
    on_ok_weaker c.push_with-2.result
    (λ e. four (string_bytes c.args.text.now) (number (codes "  client ") n (codes " takes ")) (entry_text (slice_get m.log x.revision)) (with_operation against (outstanding_of x.phase) []) (with_operation more (buffer_of x.phase) [])
    c.in_ok-write.ensures.bytes
    (c.in_ok-push_entry.ensures ∙ ap (λ (o : Option Entry). a ++ entry_text o) (c.entry-entry.ensures ∙ ap (slice_get m.log) (has_in m n (λ (x : Client). x.revision) c.revision.result c.revision.ensures)))
    (c.in_ok-push_with.ensures ∙ (λ i. b ++ with_operation against (c.outstanding-pending.ensures i) []))
    (e ∙ (λ i. d ++ with_operation more (c.buffer.ensures i) [])))
    c.push_with-2.ensures
