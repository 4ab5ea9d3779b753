use Rattle.std.proofs.Common.{◌∙◌, ◌++◌, [], ap, string_bytes, List, ℕ}
use Rattle.std.specs.Prelude.{codes, decimal}
use Rattle.std.proofs.lemmas.Result.{on_ok_weaker}
use Rattle.ot_isa.specs.declared.elements.Tagged.{Tagged}
use Rattle.ot_model.specs.Table.{Client}
use Rattle.ot_machine.specs.Effects.{client_in}
use Rattle.ot_steps.specs.Steps.{buffer_of, outstanding_of}
use Rattle.ot_explain.specs.Words.{document_words, number, with_operation}
use Rattle.ot_explain.proofs.Clients.{has_in}
use Rattle.ot_explain.proofs.Texts.{five}
use Rattle.ot_explain.proofs.paragraphs.push_client.Goals as goal

pub returns : goal.returns
returns c =
    let m = c.args.machine.now in
    let n = c.args.client in
    let y = client_in m n in
    let a = string_bytes c.write.new.self in
    let b = string_bytes c.write-2.new.self in
    let d = string_bytes c.push_with.new.text in
    let f = string_bytes c.push_with-2.new.text in
    let waits = codes " awaits the confirmation of " in
    let more = codes ", with the buffer " in
    on_ok_weaker c.push_document.result
    (λ e. five (string_bytes c.args.text.now) (number (codes "  client ") n (codes " at revision ")) (decimal y.revision) (with_operation waits (outstanding_of y.phase) (codes " is synchronized"))
    (with_operation more (buffer_of y.phase) []) (document_words (codes "; its document is ") y.list) c.in_ok-write.ensures.bytes
    (c.in_ok-write-2.ensures.bytes ∙ ap (λ (r : ℕ). a ++ decimal r) (has_in m n (λ (x : Client). x.revision) c.revision-revision.result c.revision-revision.ensures))
    (c.in_ok-push_with.ensures ∙ (λ i. b ++ with_operation waits (c.outstanding-pending.ensures i) (codes " is synchronized")))
    (c.in_ok-push_with-2.ensures ∙ (λ i. d ++ with_operation more (c.buffer.ensures i) []))
    (e ∙ ap (λ (list : List Tagged). f ++ document_words (codes "; its document is ") list) (has_in m n (λ (x : Client). x.list) c.document.result.now c.document.ensures)))
    c.push_document.ensures
