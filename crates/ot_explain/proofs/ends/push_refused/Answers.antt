use Rattle.std.proofs.Common.{◌∙◌, ◌++◌, ap, string_bytes, List, ℕ}
use Rattle.std.specs.Prelude.{codes}
use Rattle.std.proofs.lemmas.Result.{on_ok_weaker}
use Rattle.ot_values.specs.Values.{refusal_text}
use Rattle.ot_explain.specs.Explained.{line_at}
use Rattle.ot_explain.specs.Told.{heading}
use Rattle.ot_explain.specs.Reasons.{reason, tried}
use Rattle.ot_explain.proofs.Texts.{five, pushed}
use Rattle.ot_explain.proofs.ends.push_refused.Goals as goal

pub returns : goal.returns
returns c =
    let i = c.args.instr.now in
    let r = c.args.refusal in
    let b = string_bytes c.push_tried.new.text in
    on_ok_weaker c.push_str.result
    (five (string_bytes c.args.text.now) (heading (line_at c.args.lines.now c.args.number) c.args.number i) (tried i) (codes "  refused: " ++ (refusal_text r ++ codes ": ")) (reason c.args.lines.now c.args.schedule.now.instrs r i c.args.machine.now) (codes "\n")
    c.in_ok-push_heading.ensures c.in_ok-push_tried.ensures (c.in_ok-write.ensures.bytes ∙ ap (λ (name : List ℕ). b ++ (codes "  refused: " ++ (name ++ codes ": "))) c.refusal_name-name.ensures) c.in_ok-push_reason.ensures)
    (pushed c.push_str.result _ _ _ c.push_str.ensures.bytes)
