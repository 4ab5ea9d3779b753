-- Texts that are written piece by piece, and the words of the verdict.
use Rattle.std.proofs.Common.{◌≡◌, ℕ, zero, suc, ◌+◌, ◌≤◌, List, [], ◌∷◌, ◌++◌, length, take, refl, sym, ap, ◌∙◌, arith, true, false, Some, append_assoc}
use Rattle.std.proofs.lemmas.List.{append-nil}
use Rattle.std.proofs.lemmas.Option.{same_Some}
use Rattle.std.specs.Prelude.{codes, slice_get}
use Rattle.ot_model.specs.Table.{State, IsQuiet}
use Rattle.ot_steps.specs.Steps.{is_quiet}
use Rattle.ot_steps.proofs.Quiet.{quiet_is}
use Rattle.ot_explain.specs.Agreeing.{depends_words, ending_words, future_words, pieces}
use Rattle.ot_explain.specs.OutlookJson.{depends_members, document_members, ending_members}
use Rattle.ot_verdict.specs.Ending.{ending}
use Rattle.ot_verdict.specs.First.{first_taken}

-- one piece more
pieces_more : {A : Type 0} (piece : ℕ → A → List ℕ) (first k : ℕ) (xs : List A) (x : A) → slice_get xs k ≡ Some x → pieces piece first (take (suc k) xs) ≡ pieces piece first (take k xs) ++ piece (first + k) x
pieces_more piece first k [] x at = absurd (cc)
pieces_more piece first zero (y ∷ xs) x at =
    let same : first ≡ first + 0 = omega arith in
    append-nil (piece first y) ∙ ap (piece first) (same_Some y x at) ∙ ap (λ (n : ℕ). piece n x) same
pieces_more piece first (suc k) (y ∷ xs) x at =
    let same : suc first + k ≡ first + suc k = omega arith in
    ap (λ (rest : List ℕ). piece first y ++ rest) (pieces_more piece (suc first) k xs x at ∙ ap (λ (n : ℕ). pieces piece (suc first) (take k xs) ++ piece n x) same)
    ∙ sym (append_assoc (piece first y) (pieces piece (suc first) (take k xs)) (piece (first + suc k) x))

pub piece_next : {A : Type 0} (piece : ℕ → A → List ℕ) (xs : List A) (k : ℕ) (x : A) (old so_far now : List ℕ) → slice_get xs k ≡ Some x → so_far ≡ old ++ pieces piece 0 (take k xs) → now ≡ so_far ++ piece k x
    → now ≡ old ++ pieces piece 0 (take (k + 1) xs)
piece_next piece xs k x old so_far now at is added =
    let next : suc k ≡ k + 1 = omega arith in
    let from_zero : k ≡ 0 + k = omega arith in
    added
    ∙ ap (λ (text : List ℕ). text ++ piece k x) is
    ∙ append_assoc old (pieces piece 0 (take k xs)) (piece k x)
    ∙ ap (λ (n : ℕ). old ++ (pieces piece 0 (take k xs) ++ piece n x)) from_zero
    ∙ ap (λ (rest : List ℕ). old ++ rest) (sym (pieces_more piece 0 k xs x at))
    ∙ ap (λ (n : ℕ). old ++ pieces piece 0 (take n xs)) next

-- what the documents become
pub few_words : (s : State) (numbers : List ℕ) → length numbers ≤ 1 → future_words (ending s) ≡ ending_words s numbers
few_words s [] few = refl
few_words s (c ∷ []) few = refl
few_words s (c ∷ d ∷ more) few = absurd (omega arith)

pub many_words : (s : State) (numbers : List ℕ) → 2 ≤ length numbers → depends_words numbers (first_taken s) ≡ ending_words s numbers
many_words s [] many = absurd (omega arith)
many_words s (c ∷ []) many = absurd (omega arith)
many_words s (c ∷ d ∷ more) many = refl

-- the same as JSON
pub few_members : (s : State) (numbers : List ℕ) → length numbers ≤ 1 → document_members (codes "will be") (ending s) ≡ ending_members s numbers
few_members s [] few = refl
few_members s (c ∷ []) few = refl
few_members s (c ∷ d ∷ more) few = absurd (omega arith)

pub many_members : (s : State) (numbers : List ℕ) → 2 ≤ length numbers → depends_members numbers (first_taken s) ≡ ending_members s numbers
many_members s [] many = absurd (omega arith)
many_members s (c ∷ []) many = absurd (omega arith)
many_members s (c ∷ d ∷ more) many = refl

-- whether all is quiet, as the verdict has it
pub agreed_quiet : (s : State) → IsQuiet s → true ≡ is_quiet s
agreed_quiet s quiet = quiet_is true s (λ _. quiet, λ _. refl)

pub differ_quiet : (s : State) → (IsQuiet s → ⊥) → false ≡ is_quiet s
differ_quiet s not_quiet = quiet_is false s (λ e. absurd (let clash = e in cc), λ quiet. absurd (not_quiet quiet))
