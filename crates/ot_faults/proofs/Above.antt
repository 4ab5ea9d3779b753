-- The lines above one, line by line.
use Rattle.std.proofs.Common.{◌≡◌, ℕ, zero, suc, true, List, [], ◌∷◌, ◌++◌, take, refl, sym, ap, ◌∙◌, arith, subst}
use Rattle.std.specs.Prelude.{get_or}
use Rattle.streams.specs.Lines.{lacks, lines_of}
use Rattle.streams.proofs.Ends.{lines_piece}
use Rattle.ot_asm.proofs.Running.{whole_line}
use Rattle.ot_faults.specs.Reached.{line_at, passed, reached_at, reached_from}
use Rattle.ot_faults.specs.declared.reached.Reached.{Reached}

-- so many of these lines are above the one of this number
pub record IsAbove (lines rest : List (List ℕ)) (number above : ℕ) (reached : Reached) : Type 0 where
  pub reached_is : reached_from reached (take above rest) ≡ reached_at lines number
  pub line_is : get_or rest above [] ≡ line_at lines number

step : (lines : List (List ℕ)) (line : List ℕ) (below : List (List ℕ)) (number above : ℕ) (reached : Reached) → IsAbove lines (line ∷ below) number (suc above) reached
    → IsAbove lines below number above (passed reached line)
unfolding reached_from
step lines line below number above reached is = record { reached_is = is.reached_is; line_is = is.line_is }

pub stepped : (lines : List (List ℕ)) (rest line below : List ℕ) (number above left : ℕ) (reached : Reached) → IsAbove lines (lines_of rest) number above reached → lacks line ≡ true
    → rest ≡ line ++ 10 ∷ below → above ≡ suc left → IsAbove lines (lines_of below) number left (passed reached line)
stepped lines rest line below number above left reached is piece whole one =
    step lines line (lines_of below) number left reached
    (subst (λ (n : ℕ). IsAbove lines (line ∷ lines_of below) number n reached) one
    (subst (λ (ls : List (List ℕ)). IsAbove lines ls number above reached) (ap lines_of whole ∙ lines_piece line below piece) is))

-- below the last line nothing stands
ended : (lines : List (List ℕ)) (number above : ℕ) (reached : Reached) → IsAbove lines [] number above reached → (reached ≡ reached_at lines number) × ([] ≡ line_at lines number)
unfolding reached_from
ended lines number zero reached is = (is.reached_is, is.line_is)
ended lines number (suc n) reached is = (is.reached_is, is.line_is)

-- a piece without a line's end is the last line, or nothing
last_line : (lines : List (List ℕ)) (rest : List ℕ) (number left : ℕ) (reached : Reached) → IsAbove lines (lines_of rest) number (suc left) reached → lacks rest ≡ true
    → (passed reached rest ≡ reached_at lines number) × ([] ≡ line_at lines number)
unfolding lines_of
last_line lines [] number left reached is piece = ended lines number (suc left) reached is
last_line lines (b ∷ rest) number left reached is piece =
    ended lines number left (passed reached (b ∷ rest))
    (step lines (b ∷ rest) [] number left reached
    (subst (λ (ls : List (List ℕ)). IsAbove lines ls number (suc left) reached) (whole_line (b ∷ rest) (omega arith) piece) is))

pub last : (lines : List (List ℕ)) (rest : List ℕ) (number above left : ℕ) (reached : Reached) → IsAbove lines (lines_of rest) number above reached → lacks rest ≡ true → above ≡ suc left
    → (passed reached rest ≡ reached_at lines number) × ([] ≡ line_at lines number)
last lines rest number above left reached is piece one =
    last_line lines rest number left reached (subst (λ (n : ℕ). IsAbove lines (lines_of rest) number n reached) one is) piece

-- the line itself
pub here : (lines rest : List (List ℕ)) (number above : ℕ) (reached : Reached) → IsAbove lines rest number above reached → above ≡ 0 → (reached ≡ reached_at lines number) × (line_at rest 1 ≡ line_at lines number)
unfolding reached_from
here lines rest number zero reached is none = (is.reached_is, is.line_is)
here lines rest number (suc above) reached is none = absurd (omega (arith, none))

-- the first line of a text
pub first_of : (text line below : List ℕ) → lacks line ≡ true → text ≡ line ++ 10 ∷ below → line ≡ line_at (lines_of text) 1
first_of text line below piece whole = ap (λ (ls : List (List ℕ)). line_at ls 1) (sym (ap lines_of whole ∙ lines_piece line below piece))

pub only_line : (text : List ℕ) → lacks text ≡ true → text ≡ line_at (lines_of text) 1
unfolding lines_of
only_line [] piece = refl
only_line (b ∷ text) piece = ap (λ (ls : List (List ℕ)). line_at ls 1) (sym (whole_line (b ∷ text) (omega arith) piece))
