-- The parts of a list.
use Rattle.std.proofs.Common.{◌≡◌, ℕ, zero, suc, ◌+◌, ◌-◌, ◌*◌, ◌<◌, List, [], ◌∷◌, refl, sym, ap, ◌∙◌, arith}
use Rattle.std.specs.Prelude.{slice_get}
use Rattle.ot_every.specs.Listing.{each_from, part_of}

pub each_at : {A : Type 0} (gap skipped : ℕ) (xs : List A) (k : ℕ) → slice_get (each_from gap skipped xs) k ≡ slice_get xs (skipped + k * suc gap)
each_at gap skipped [] k = refl
each_at gap zero (x ∷ xs) zero = ap (slice_get (x ∷ xs)) (sym (nothing gap))
  where
    nothing : (gap : ℕ) → zero + zero * suc gap ≡ zero
    nothing gap = omega arith
each_at gap zero (x ∷ xs) (suc k) =
    let there : zero + suc k * suc gap ≡ suc (gap + k * suc gap) = product k gap in
    each_at gap gap xs k ∙ ap (slice_get (x ∷ xs)) (sym there)
  where
    product : (k gap : ℕ) → zero + suc k * suc gap ≡ suc (gap + k * suc gap)
    product k gap = grind arith
each_at gap (suc skipped) (x ∷ xs) k = each_at gap skipped xs k ∙ ap (slice_get (x ∷ xs)) (later skipped (k * suc gap))
  where
    later : (a b : ℕ) → suc (a + b) ≡ suc a + b
    later a b = omega arith

pub parts_at : {A : Type 0} (parts part k : ℕ) (xs : List A) → part < parts → slice_get (part_of parts part xs) k ≡ slice_get xs (part + k * parts)
parts_at zero part k xs less = absurd (omega (arith, less))
parts_at (suc gap) part k xs less =
    let back : suc gap - 1 ≡ gap = omega arith in
    ap (λ n. slice_get (each_from n part xs) k) back ∙ each_at gap part xs k
