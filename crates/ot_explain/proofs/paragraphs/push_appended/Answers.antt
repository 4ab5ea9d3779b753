use Rattle.std.proofs.Common.{◌∙◌, ◌++◌, [], ap, length, string_bytes, List, ℕ}
use Rattle.std.specs.Prelude.{codes, decimal}
use Rattle.std.proofs.lemmas.Result.{on_ok_weaker}
use Rattle.ot_isa.specs.declared.elements.Tagged.{Tagged}
use Rattle.ot_steps.specs.Steps.{last_of}
use Rattle.ot_explain.specs.Words.{document_words, with_operation}
use Rattle.ot_explain.proofs.Texts.{three}
use Rattle.ot_explain.proofs.paragraphs.push_appended.Goals as goal

pub returns : goal.returns
returns c =
    let m = c.args.machine.now in
    let old = string_bytes c.args.text.now in
    let b = string_bytes c.push_with.new.text in
    let d = string_bytes c.write.new.self in
    let appends = codes " and appends " in
    let now = codes "\n  the server's document is now " in
    on_ok_weaker c.push_document.result
    (λ e. three old (with_operation appends (last_of m.log) []) (codes " as revision " ++ decimal (length m.log)) (document_words now m.server)
    (c.in_ok-push_with.ensures ∙ (λ i. old ++ with_operation appends (c.last_operation.ensures i) []))
    (c.in_ok-write.ensures.bytes ∙ ap (λ (r : ℕ). b ++ (codes " as revision " ++ decimal r)) c.server_revision-revision.ensures)
    (e ∙ ap (λ (list : List Tagged). d ++ document_words now list) c.server_document.ensures))
    c.push_document.ensures
