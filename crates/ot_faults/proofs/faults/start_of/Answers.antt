use Rattle.std.proofs.Common.{◌≡◌, ◌∙◌, ℕ, true, false, List, ap}
use Rattle.std.specs.Str.{is_utf8}
use Rattle.std.proofs.lemmas.Str.{is_utf8-from_IsUtf8}
use Rattle.ot_asm.proofs.Texts.{not_utf8}
use Rattle.ot_faults.specs.Faults.{without_words, words_before}
use Rattle.ot_faults.proofs.Starts.{start_in_bytes, start_in_text}
use Rattle.ot_faults.proofs.faults.start_of.Goals as goal

pub returns-in-Ok-clause-value : goal.returns-in-Ok-clause-value
returns-in-Ok-clause-value c =
    let line = c.args.line.now in
    let text : is_utf8 line ≡ true = is_utf8-from_IsUtf8 _ c.in-Ok.ensures.cases.1 in
    let count = c.words_before.ensures ∙ ap (λ (word : List ℕ). words_before c.args.kind word) c.split_word.ensures.word in
    start_in_text c.args.kind line c.without_words-rest.result.now c.saturating_sub.result text
    (c.without_words-rest.ensures ∙ ap (λ (n : ℕ). without_words n line) count) c.saturating_sub.ensures

pub returns-in-Err-clause-value : goal.returns-in-Err-clause-value
returns-in-Err-clause-value c =
    let bytes : is_utf8 c.args.line.now ≡ false = not_utf8 _ c.in-Err.ensures.cases.0 in
    start_in_bytes c.args.kind c.args.line.now c.valid_up_to.result bytes (c.valid_up_to.ensures ∙ c.in-Err.ensures.valid_len)
