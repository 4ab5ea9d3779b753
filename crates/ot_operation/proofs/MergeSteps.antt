-- How the merge of two lists of runs goes on, run by run.
use Rattle.std.proofs.Common.{◌≡◌, ℕ, suc, zero, ◌+◌, List, [], ◌∷◌, ◌++◌, replicate, refl, ap, arith, append_assoc}
use Rattle.ot_operation.specs.Merge.{Merged}
use Rattle.ot_operation.specs.Merge.Merged.{First, Second, Both}
use Rattle.ot_operation.specs.Run.{Run, Add}
use Rattle.ot_operation.proofs.Slots.{Slot, after, placed, slots_merged}
use Rattle.ot_operation.proofs.Slots.Slot.{Stays, Gone}
use Rattle.ot_operation.proofs.RunSlots.{stays, slots_of_runs}

-- the merge of two forms, where the images go on at p and q, and the document at i
abbrev pub forms_merged : {A : Type 0} → ℕ → ℕ → ℕ → List A × List (Slot A) → List A × List (Slot A) → List (Merged A)
forms_merged p q i f g =
    placed First p f.0 ++ (placed Second q g.0 ++ slots_merged (after p f.0) (after q g.0) i f.1 g.1)

abbrev pub runs_merged : {A : Type 0} → ℕ → ℕ → ℕ → List (Run A) → List (Run A) → List (Merged A)
runs_merged p q i a b = forms_merged p q i (slots_of_runs a) (slots_of_runs b)

after-append : {A : Type 0} (place : ℕ) (xs ys : List A) → after place (xs ++ ys) ≡ after (after place xs) ys
after-append place [] ys = refl
after-append place (x ∷ xs) ys = after-append (suc place) xs ys

placed-append :
    {A : Type 0} (mark : ℕ → A → Merged A) (place : ℕ) (xs ys : List A)
    → placed mark place (xs ++ ys) ≡ placed mark place xs ++ placed mark (after place xs) ys
placed-append mark place [] ys = refl
placed-append mark place (x ∷ xs) ys = ap (λ rest. mark place x ∷ rest) (placed-append mark (suc place) xs ys)

-- the first inserts
pub runs_merged-insert_first :
    {A : Type 0} (p q i : ℕ) (text : List A) (a b : List (Run A))
    → runs_merged p q i (Add text ∷ a) b ≡ placed First p text ++ runs_merged (after p text) q i a b
runs_merged-insert_first p q i text a b =
    rw (placed-append First p text (slots_of_runs a).0, after-append p text (slots_of_runs a).0)
    (append_assoc (placed First p text) (placed First (after p text) (slots_of_runs a).0) _)

-- the second inserts, and the first does not
pub runs_merged-insert_second :
    {A : Type 0} (p q i : ℕ) (text : List A) (a b : List (Run A)) → (slots_of_runs a).0 ≡ []
    → runs_merged p q i a (Add text ∷ b) ≡ placed Second q text ++ runs_merged p (after q text) i a b
runs_merged-insert_second p q i text a b no_front =
    rw (no_front, placed-append Second q text (slots_of_runs b).0, after-append q text (slots_of_runs b).0)
    (append_assoc (placed Second q text) (placed Second (after q text) (slots_of_runs b).0) _)

-- Old i, .. in both
abbrev pub boths : {A : Type 0} → ℕ → ℕ → ℕ → ℕ → List (Merged A)
boths i p q zero = []
boths i p q (suc count) = Both i p q ∷ boths (suc i) (suc p) (suc q) count

stays-suc :
    {A : Type 0} (count all : ℕ) (f : List A × List (Slot A)) → all ≡ suc count
    → stays all f ≡ ([], Stays (stays count f).0 ∷ (stays count f).1)
stays-suc zero all f e = rw e refl
stays-suc (suc count) all f e = rw e refl

abbrev pub gone : {A : Type 0} → ℕ → List (Slot A) → List A × List (Slot A)
gone count slots = ([], replicate count Gone ++ slots)

pub both_stay :
    {A : Type 0} (p q i count m n : ℕ) (f g : List A × List (Slot A))
    → forms_merged p q i (stays (count + m) f) (stays (count + n) g)
    ≡ boths i p q count ++ forms_merged (p + count) (q + count) (i + count) (stays m f) (stays n g)
both_stay p q i zero m n f g =
    let ep : p + 0 ≡ p = omega arith in
    let eq : q + 0 ≡ q = omega arith in
    let ei : i + 0 ≡ i = omega arith in
    let em : 0 + m ≡ m = omega arith in
    let en : 0 + n ≡ n = omega arith in
    rw (ep, eq, ei, em, en) refl
both_stay p q i (suc count) m n f g =
    let ep : p + suc count ≡ suc p + count = omega arith in
    let eq : q + suc count ≡ suc q + count = omega arith in
    let ei : i + suc count ≡ suc i + count = omega arith in
    let one_f : stays (suc count + m) f ≡ _ = stays-suc (count + m) (suc count + m) f (omega arith) in
    let one_g : stays (suc count + n) g ≡ _ = stays-suc (count + n) (suc count + n) g (omega arith) in
    rw (one_f, one_g, ep, eq, ei) (ap (λ rest. Both i p q ∷ rest) (both_stay (suc p) (suc q) (suc i) count m n f g))

pub first_goes :
    {A : Type 0} (p q i count m n : ℕ) (slots : List (Slot A)) (g : List A × List (Slot A))
    → forms_merged p q i (gone (count + m) slots) (stays (count + n) g)
    ≡ forms_merged p (q + count) (i + count) (gone m slots) (stays n g)
first_goes p q i zero m n slots g =
    let eq : q + 0 ≡ q = omega arith in
    let ei : i + 0 ≡ i = omega arith in
    let em : 0 + m ≡ m = omega arith in
    let en : 0 + n ≡ n = omega arith in
    rw (eq, ei, em, en) refl
first_goes p q i (suc count) m n slots g =
    let eq : q + suc count ≡ suc q + count = omega arith in
    let ei : i + suc count ≡ suc i + count = omega arith in
    let one_f : suc count + m ≡ suc (count + m) = omega arith in
    let one_g : stays (suc count + n) g ≡ _ = stays-suc (count + n) (suc count + n) g (omega arith) in
    rw (one_f, one_g, eq, ei) (first_goes p (suc q) (suc i) count m n slots g)

pub second_goes :
    {A : Type 0} (p q i count m n : ℕ) (f : List A × List (Slot A)) (slots : List (Slot A))
    → forms_merged p q i (stays (count + m) f) (gone (count + n) slots)
    ≡ forms_merged (p + count) q (i + count) (stays m f) (gone n slots)
second_goes p q i zero m n f slots =
    let ep : p + 0 ≡ p = omega arith in
    let ei : i + 0 ≡ i = omega arith in
    let em : 0 + m ≡ m = omega arith in
    let en : 0 + n ≡ n = omega arith in
    rw (ep, ei, em, en) refl
second_goes p q i (suc count) m n f slots =
    let ep : p + suc count ≡ suc p + count = omega arith in
    let ei : i + suc count ≡ suc i + count = omega arith in
    let one_f : stays (suc count + m) f ≡ _ = stays-suc (count + m) (suc count + m) f (omega arith) in
    let one_g : suc count + n ≡ suc (count + n) = omega arith in
    rw (one_f, one_g, ep, ei) (second_goes (suc p) q (suc i) count m n f slots)

pub both_go :
    {A : Type 0} (p q i count m n : ℕ) (ss ts : List (Slot A))
    → forms_merged p q i (gone (count + m) ss) (gone (count + n) ts)
    ≡ forms_merged p q (i + count) (gone m ss) (gone n ts)
both_go p q i zero m n ss ts =
    let ei : i + 0 ≡ i = omega arith in
    let em : 0 + m ≡ m = omega arith in
    let en : 0 + n ≡ n = omega arith in
    rw (ei, em, en) refl
both_go p q i (suc count) m n ss ts =
    let ei : i + suc count ≡ suc i + count = omega arith in
    let one_f : suc count + m ≡ suc (count + m) = omega arith in
    let one_g : suc count + n ≡ suc (count + n) = omega arith in
    rw (one_f, one_g, ei) (both_go p q (suc i) count m n ss ts)
