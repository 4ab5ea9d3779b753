-- The slots of runs: what they insert at the front, and for each place of the document whether it stays and what follows it.
use Rattle.std.proofs.Common.{◌≡◌, ℕ, suc, zero, ◌+◌, List, [], ◌∷◌, ◌++◌, length, map, replicate, refl, ap, ◌∙◌, arith, length-append, append_assoc}
use Rattle.std.proofs.lemmas.List.{length-replicate, map-append}
use Rattle.ot_operation.specs.Operation.{Old, New, olds}
use Rattle.ot_operation.specs.Run.{Run, base_of, image_from, MayLead, IsNormal, Keep, Add, Skip}
use Rattle.ot_operation.proofs.Slots.{Slot, slots_image, slots_image-gone}
use Rattle.ot_operation.proofs.Slots.Slot.{Stays, Gone}

-- the slots of runs, with the gap before them

abbrev pub stays : {A : Type 0} → ℕ → List A × List (Slot A) → List A × List (Slot A)
stays zero form = form
stays (suc count) form = ([], replicate count (Stays []) ++ (Stays form.0 ∷ form.1))

abbrev pub slots_of_runs : {A : Type 0} → List (Run A) → List A × List (Slot A)
slots_of_runs [] = ([], [])
slots_of_runs (Keep count ∷ runs) = stays count (slots_of_runs runs)
slots_of_runs (Add text ∷ runs) = (text ++ (slots_of_runs runs).0, (slots_of_runs runs).1)
slots_of_runs (Skip count ∷ runs) = ((slots_of_runs runs).0, replicate count Gone ++ (slots_of_runs runs).1)

-- the slots of runs have the runs' base and image

pub length-slots_of_runs : {A : Type 0} (runs : List (Run A)) → length (slots_of_runs runs).1 ≡ base_of runs
length-slots_of_runs [] = refl
length-slots_of_runs (Keep zero ∷ runs) = omega (arith, length-slots_of_runs runs)
length-slots_of_runs (Keep (suc count) ∷ runs) = simp (length-append, length-replicate) (omega (arith, length-slots_of_runs runs))
length-slots_of_runs (Add text ∷ runs) = length-slots_of_runs runs
length-slots_of_runs (Skip count ∷ runs) = simp (length-append, length-replicate) (omega (arith, length-slots_of_runs runs))

stays_image :
    {A : Type 0} (i j count : ℕ) (gap : List A) (slots : List (Slot A)) → suc j ≡ i + suc count
    → slots_image i (replicate count (Stays []) ++ (Stays gap ∷ slots)) ≡ olds i (suc count) ++ (map New gap ++ slots_image (suc j) slots)
stays_image i j zero gap slots e =
    ap (λ k. Old i ∷ map New gap ++ slots_image (suc k) slots) (let same : i ≡ j = omega (arith, e) in same)
stays_image i j (suc count) gap slots e = ap (λ rest. Old i ∷ rest) (stays_image (suc i) j count gap slots (omega (arith, e)))

pub image-slots_of_runs :
    {A : Type 0} (i : ℕ) (runs : List (Run A))
    → map New (slots_of_runs runs).0 ++ slots_image i (slots_of_runs runs).1 ≡ image_from i runs
image-slots_of_runs i [] = refl
image-slots_of_runs i (Keep zero ∷ runs) =
    image-slots_of_runs i runs ∙ ap (λ k. image_from k runs) (let same : i ≡ i + 0 = omega arith in same)
image-slots_of_runs i (Keep (suc count) ∷ runs) =
    stays_image i (i + count) count (slots_of_runs runs).0 (slots_of_runs runs).1 (omega arith)
    ∙ ap (λ rest. olds i (suc count) ++ rest)
    (image-slots_of_runs (suc (i + count)) runs ∙ ap (λ k. image_from k runs) (let same : suc (i + count) ≡ i + suc count = omega arith in same))
image-slots_of_runs i (Add text ∷ runs) =
    rw (map-append New text (slots_of_runs runs).0)
    (append_assoc (map New text) (map New (slots_of_runs runs).0) (slots_image i (slots_of_runs runs).1)
    ∙ ap (λ rest. map New text ++ rest) (image-slots_of_runs i runs))
image-slots_of_runs i (Skip count ∷ runs) =
    ap (λ rest. map New (slots_of_runs runs).0 ++ rest) (slots_image-gone i (i + count) count (slots_of_runs runs).1 refl)
    ∙ image-slots_of_runs (i + count) runs

-- no insertion stands at the front
abbrev pub StartsOtherwise : {A : Type 0} → List (Run A) → Type 0
StartsOtherwise (Add text ∷ runs) = ⊥
StartsOtherwise runs = Unit {0}

pub after_delete : {A : Type 0} (count : ℕ) (runs : List (Run A)) → MayLead (Skip count) runs → StartsOtherwise runs
after_delete count [] may = tt
after_delete count (Keep more ∷ runs) may = tt
after_delete count (Add more ∷ runs) may = may
after_delete count (Skip more ∷ runs) may = tt

pub no_front : {A : Type 0} (runs : List (Run A)) → StartsOtherwise runs → IsNormal runs → (slots_of_runs runs).0 ≡ []
no_front [] otherwise normal = refl
no_front (Keep zero ∷ runs) otherwise normal = absurd (omega (arith, normal.0))
no_front (Keep (suc count) ∷ runs) otherwise normal = refl
no_front (Add text ∷ runs) otherwise normal = absurd otherwise
no_front (Skip count ∷ runs) otherwise normal = no_front runs (after_delete count runs normal.1) normal.2
