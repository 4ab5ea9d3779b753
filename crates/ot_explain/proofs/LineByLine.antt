-- The lines of instructions, line by line.
use Rattle.std.proofs.Common.{◌≡◌, ℕ, suc, ◌+◌, ◌≤◌, List, [], ◌∷◌, ◌++◌, length, refl, sym, ap, ◌∙◌, arith, true, add-one, length-append}
use Rattle.std.proofs.lemmas.List.{append_assoc, append-nil}
use Rattle.streams.specs.Lines.{lacks, lines_of}
use Rattle.streams.proofs.Ends.{lines_piece}
use Rattle.ot_asm.proofs.Running.{whole_line}
use Rattle.ot_explain.specs.Placed.{place_of, places, places_from}

-- the lines above the rest are looked at, and the next one has this number
pub record HasFound (text rest : List ℕ) (number : ℕ) (found : List ℕ) : Type 0 where
  pub all : found ++ places_from number (lines_of rest) ≡ places text
  pub few : number + length rest ≤ 1 + length text

pub found_next : (text rest line below : List ℕ) (number : ℕ) (found more : List ℕ) → HasFound text rest number found → lacks line ≡ true → rest ≡ line ++ 10 ∷ below
    → more ≡ found ++ place_of number line → HasFound text below (number + 1) more
found_next text rest line below number found more so_far piece is added =
    let lines : lines_of rest ≡ line ∷ lines_of below = ap lines_of is ∙ lines_piece line below piece in
    let long : length rest ≡ length line + suc (length below) = ap length is ∙ length-append line (10 ∷ below) in
    record {
      all =
          rw (add-one number, added) (append_assoc found (place_of number line) (places_from (suc number) (lines_of below))
          ∙ ap (λ (ls : List (List ℕ)). found ++ places_from number ls) (sym lines) ∙ so_far.all);
      few = let h = so_far.few in omega arith;
    }

-- a piece without a line's end is the last line, or nothing
last_line : (number : ℕ) (rest : List ℕ) → lacks rest ≡ true → places_from number (lines_of rest) ≡ place_of number rest
unfolding lines_of
last_line number [] piece = refl
last_line number (b ∷ rest) piece = ap (places_from number) (whole_line (b ∷ rest) (omega arith) piece) ∙ append-nil (place_of number (b ∷ rest))

pub found_all : (text rest : List ℕ) (number : ℕ) (found more : List ℕ) → HasFound text rest number found → lacks rest ≡ true → more ≡ found ++ place_of number rest → more ≡ places text
found_all text rest number found more so_far piece added = added ∙ ap (λ (ls : List ℕ). found ++ ls) (sym (last_line number rest piece)) ∙ so_far.all
