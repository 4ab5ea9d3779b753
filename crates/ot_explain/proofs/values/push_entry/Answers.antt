use Rattle.std.proofs.Common.{◌∙◌, ◌++◌, ap, string_bytes, ℕ}
use Rattle.std.specs.Prelude.{codes}
use Rattle.std.proofs.lemmas.Result.{on_ok_weaker}
use Rattle.ot_isa.specs.declared.elements.Tagged.{Tagged}
use Rattle.ot_model.specs.Operation.{Operation}
use Rattle.ot_steps.specs.Lines.{plain_operation}
use Rattle.ot_explain.specs.Words.{number, operation_words}
use Rattle.ot_explain.proofs.Texts.{two}
use Rattle.ot_explain.proofs.values.push_entry.Goals as goal

pub returns : goal.returns
returns c =
    let old = string_bytes c.args.text.now in
    let mid = string_bytes c.write.new.self in
    let h = c.in-Some.entry.now in
    rw c.in-Some.is (on_ok_weaker c.push_operation.result
    (λ e. two old (number (codes "client ") h.maker (codes "'s operation ")) (operation_words (plain_operation h.op))
    (c.in_ok-write.ensures.bytes ∙ ap (λ (n : ℕ). old ++ number (codes "client ") n (codes "'s operation ")) c.maker-maker.ensures)
    (e ∙ ap (λ (o : Operation Tagged). mid ++ operation_words (plain_operation o)) c.operation.ensures))
    c.push_operation.ensures)
