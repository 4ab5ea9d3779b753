-- Where a fault begins in its line.
use Rattle.std.proofs.Common.{◌≡◌, ◌∙◌, ◌-◌, ℕ, true, false, List, length, refl, ap}
use Rattle.std.specs.Str.{is_utf8}
use Rattle.std.specs.Str.Lossy.{utf8_valid_len}
use Rattle.ot_asm.specs.Words.{first_word}
use Rattle.ot_asm.specs.declared.fault.Kind.{Kind}
use Rattle.ot_faults.specs.Faults.{start_of, without_words, words_before}

pub start_in_text : (kind : Kind) (line rest : List ℕ) (at : ℕ) → is_utf8 line ≡ true → rest ≡ without_words (words_before kind (first_word line)) line
    → at ≡ length line - length rest → at ≡ start_of kind line
start_in_text kind line rest at text is from = from ∙ ap (λ (r : List ℕ). length line - length r) is ∙ by
  where
    by : length line - length (without_words (words_before kind (first_word line)) line) ≡ start_of kind line
    by = rw text refl

pub start_in_bytes : (kind : Kind) (line : List ℕ) (at : ℕ) → is_utf8 line ≡ false → at ≡ utf8_valid_len line → at ≡ start_of kind line
start_in_bytes kind line at bytes is = rw bytes is
