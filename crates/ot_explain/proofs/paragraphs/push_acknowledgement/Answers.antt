use Rattle.std.proofs.Common.{◌∙◌, ◌++◌, [], string_bytes}
use Rattle.std.specs.Prelude.{codes}
use Rattle.std.proofs.lemmas.Result.{on_ok_weaker}
use Rattle.ot_machine.specs.Effects.{client_in}
use Rattle.ot_steps.specs.Steps.{buffer_of, outstanding_of}
use Rattle.ot_explain.specs.Words.{number, with_operation}
use Rattle.ot_explain.proofs.Texts.{four, pushed}
use Rattle.ot_explain.proofs.paragraphs.push_acknowledgement.Goals as goal

pub returns : goal.returns
returns c =
    let n = c.args.client in
    let x = client_in c.args.machine.now n in
    let a = string_bytes c.write.new.self in
    let b = string_bytes c.push_with.new.text in
    let sends = codes "; it sends its buffer " in
    let none = codes "; it has no buffer" in
    on_ok_weaker c.push_str.result
    (four (string_bytes c.args.text.now) (number (codes "  client ") n (codes " has its outstanding operation confirmed")) (with_operation (codes ", ") (outstanding_of x.phase) []) (with_operation sends (buffer_of x.phase) none) (codes "\n")
    c.in_ok-write.ensures.bytes
    (c.in_ok-push_with.ensures ∙ (λ i. a ++ with_operation (codes ", ") (c.outstanding.ensures i) []))
    (c.in_ok-push_with-2.ensures ∙ (λ i. b ++ with_operation sends (c.buffer-sent.ensures i) none)))
    (pushed c.push_str.result _ _ _ c.push_str.ensures.bytes)
