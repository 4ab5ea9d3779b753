use Rattle.std.proofs.Common.{◌∙◌, ◌++◌, ◌+◌, ap, length, string_bytes, ℕ}
use Rattle.std.specs.Prelude.{codes, decimal}
use Rattle.std.proofs.lemmas.Result.{on_ok_weaker}
use Rattle.ot_explain.specs.Words.{number}
use Rattle.ot_explain.specs.Reasons.{gap_words, units_words, wide}
use Rattle.ot_explain.proofs.Texts.{five}
use Rattle.ot_explain.proofs.reasons.push_span.Goals as goal

pub returns : goal.returns
returns c =
    let base = c.args.base in
    let list = c.args.list.now in
    let k = length list in
    let b = string_bytes c.write-2.new.self in
    let d = string_bytes c.write-3.new.self in
    let f = string_bytes c.push_gap.new.text in
    let has = codes "; what an edit retains and deletes has to span the whole document: " in
    let count = c.len-count.ensures.value in
    let past = c.in_ok-past.ensures in
    on_ok_weaker c.push_units.result
    (λ e. five (string_bytes c.args.text.now) (number (codes "the edit takes documents of length ") base (codes ", ")) (number (codes "client ") c.args.client (codes "'s has length ")) (decimal k ++ has) (gap_words base k) (units_words base (k + wide list))
    c.in_ok-write.ensures.bytes c.in_ok-write-2.ensures.bytes (c.in_ok-write-3.ensures.bytes ∙ ap (λ (n : ℕ). b ++ (decimal n ++ has)) count)
    (c.in_ok-push_gap.ensures ∙ ap (λ (n : ℕ). d ++ gap_words base n) count)
    (e ∙ (λ i. f ++ units_words base (count i + past i))))
    c.push_units.ensures
