-- Whether all is quiet, or what is not settled, and the lines of it.
use Rattle.std.proofs.Common.{◌≡◌, ℕ, zero, suc, ◌<◌, List, [], ◌∷◌, ◌++◌, take, length, get_or, refl, sym, ap, ◌∙◌, arith, false}
use Rattle.std.specs.Prelude.{◌==◌}
use Rattle.std.proofs.lemmas.List.{append_assoc, append-nil}
use Rattle.ot_check.specs.declared.outcome.Convergence.{Convergence}
use Rattle.ot_report.specs.Findings.{quiet_if_none}
use Rattle.ot_report.specs.Verdicts.{convergence_line, settling_lines}

-- one more line
pub settled_more : (i : ℕ) (xs : List Convergence) (d : Convergence) → i < length xs → settling_lines (take (suc i) xs) ≡ settling_lines (take i xs) ++ convergence_line (get_or xs i d)
settled_more i [] d there = absurd (omega (arith, there))
settled_more zero (x ∷ xs) d there = append-nil (convergence_line x)
settled_more (suc i) (x ∷ xs) d there =
    ap (λ (t : List ℕ). convergence_line x ++ t) (settled_more i xs d (omega (arith, there)))
    ∙ sym (append_assoc (convergence_line x) (settling_lines (take i xs)) (convergence_line (get_or xs i d)))

pub if_some : (xs : List Convergence) → (length xs == 0) ≡ false → xs ≡ quiet_if_none xs
if_some [] some = absurd (cc)
if_some (x ∷ xs) some = refl
