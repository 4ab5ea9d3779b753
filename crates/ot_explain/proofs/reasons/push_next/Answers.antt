use Rattle.std.proofs.Common.{◌∙◌, ◌++◌, ap, string_bytes, Option}
use Rattle.std.specs.Prelude.{codes, decimal, slice_get}
use Rattle.std.proofs.lemmas.Result.{on_ok_weaker}
use Rattle.ot_model.specs.Table.{Client, Entry}
use Rattle.ot_machine.specs.Effects.{client_in}
use Rattle.ot_explain.specs.Words.{entry_text, number}
use Rattle.ot_explain.proofs.Clients.{has_in}
use Rattle.ot_explain.proofs.Texts.{three}
use Rattle.ot_explain.proofs.reasons.push_next.Goals as goal

pub returns : goal.returns
returns c =
    let m = c.args.machine.now in
    let n = c.args.client in
    let a = string_bytes c.write.new.self in
    on_ok_weaker c.write-2.result
    (three (string_bytes c.args.text.now) (number (codes "the next message to client ") n (codes " is ")) (entry_text (slice_get m.log (client_in m n).revision)) (codes ": deliver " ++ decimal n)
    c.in_ok-write.ensures.bytes
    (c.in_ok-push_entry.ensures ∙ ap (λ (o : Option Entry). a ++ entry_text o) (c.entry-entry.ensures ∙ ap (slice_get m.log) (has_in m n (λ (x : Client). x.revision) c.revision.result c.revision.ensures))))
    c.write-2.ensures.bytes
