use Rattle.std.proofs.Common.{◌∙◌, ◌++◌, ap, string_bytes, List}
use Rattle.std.specs.Prelude.{codes, decimal}
use Rattle.std.proofs.lemmas.Result.{on_ok_weaker}
use Rattle.ot_isa.specs.declared.elements.Tagged.{Tagged}
use Rattle.ot_model.specs.Table.{Client}
use Rattle.ot_machine.specs.Effects.{client_in}
use Rattle.ot_explain.specs.Words.{document_words}
use Rattle.ot_explain.proofs.Clients.{has_in}
use Rattle.ot_explain.proofs.Texts.{two}
use Rattle.ot_explain.proofs.paragraphs.push_after.Goals as goal

pub returns-in_ok-write-in-Read : goal.returns-in_ok-write-in-Read
returns-in_ok-write-in-Read c =
    let m = c.args.machine.now in
    let n = c.in-Read.client in
    let mid = string_bytes c.write.new.self in
    let is = codes "'s document is " in
    rw c.in-Read.is (on_ok_weaker c.push_document.result
    (λ e. two (string_bytes c.args.text.now) (codes "  client " ++ decimal n) (document_words is (client_in m n).list) c.in_ok-write-in-Read.ensures.bytes
    (e ∙ ap (λ (list : List Tagged). mid ++ document_words is list) (has_in m n (λ (x : Client). x.list) c.document.result.now c.document.ensures)))
    c.push_document.ensures)

pub returns-in-ReadServer : goal.returns-in-ReadServer
returns-in-ReadServer c =
    let old = string_bytes c.args.text.now in
    rw c.in-ReadServer.is (on_ok_weaker c.push_document-in-ReadServer.result
    (λ e. e ∙ ap (λ (list : List Tagged). old ++ document_words (codes "  the server's document is ") list) c.server_document.ensures)
    c.push_document-in-ReadServer.ensures)
