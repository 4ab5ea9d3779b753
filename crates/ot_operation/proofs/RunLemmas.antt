-- Lists of runs: what an append, a longer last run and a new run do to the operation and the normal form.
use Rattle.std.proofs.Common.{◌≡◌, ℕ, zero, suc, ◌+◌, ◌-◌, ◌<◌, ◌≤◌, List, [], ◌∷◌, ◌++◌, map, length, max, refl, sym, ap, arith, append_assoc, length-append, add-zero, zero-add}
use Rattle.std.proofs.lemmas.List.{append-nil, map-append, length-map}
use Rattle.ot_operation.specs.Operation.{Item, Old, New, olds, Operation, news, IsTooLong, with_retain, with_insert, with_delete}
use Rattle.ot_operation.specs.Run.{Run, Keep, Add, Skip, base_of, image_from, operation_of, IsFilled, MayFollow, MayLead, IsNormal, Extends, IsSound}

pub length-olds : (A : Type 0) (from count : ℕ) → length (olds {A = A} from count) ≡ count
length-olds A from zero = refl
length-olds A from (suc count) = ap suc (length-olds A (suc from) count)

pub olds-add : {A : Type 0} (from m n : ℕ) → olds {A = A} from (m + n) ≡ olds from m ++ olds (from + m) n
olds-add {A} from zero n =
    let e : zero + n ≡ n = omega arith in
    let f : from + zero ≡ from = omega arith in rw (e, f) refl
olds-add {A} from (suc m) n =
    let e : suc m + n ≡ suc (m + n) = omega arith in
    let f : from + suc m ≡ suc from + m = omega arith in
    rw (e, f) (ap (λ (t : List (Item A)). Old from ∷ t) (olds-add (suc from) m n))

pub base_of-append : {A : Type 0} (rs ss : List (Run A)) → base_of (rs ++ ss) ≡ base_of rs + base_of ss
base_of-append [] ss = omega arith
base_of-append (Keep n ∷ rs) ss = omega (arith, base_of-append rs ss)
base_of-append (Add s ∷ rs) ss = base_of-append rs ss
base_of-append (Skip n ∷ rs) ss = omega (arith, base_of-append rs ss)

pub image_from-append : {A : Type 0} (from : ℕ) (rs ss : List (Run A)) → image_from from (rs ++ ss) ≡ image_from from rs ++ image_from (from + base_of rs) ss
image_from-append from [] ss = ap (λ k. image_from k ss) (let same : from ≡ from + 0 = omega arith in same)
image_from-append from (Keep n ∷ rs) ss =
    let place : from + n + base_of rs ≡ from + (n + base_of rs) = omega arith in
    rw (image_from-append (from + n) rs ss, place) (sym (append_assoc (olds from n) _ _))
image_from-append from (Add s ∷ rs) ss =
    rw (image_from-append from rs ss) (sym (append_assoc (map New s) _ _))
image_from-append from (Skip n ∷ rs) ss =
    let place : from + n + base_of rs ≡ from + (n + base_of rs) = omega arith in
    rw (image_from-append (from + n) rs ss, place) refl

pub same_operation : {A : Type 0} (a b : ℕ) (xs ys : List (Item A)) → a ≡ b → xs ≡ ys → ◌≡◌ {A = Operation A} (record { base = a; image = xs }) (record { base = b; image = ys })
same_operation a b xs ys p q = rw (p, q) refl

-- a longer last run of places that stay
pub longer_keep : {A : Type 0} (front : List (Run A)) (m n : ℕ) → operation_of (front ++ Keep (m + n) ∷ []) ≡ with_retain (operation_of (front ++ Keep m ∷ [])) n
longer_keep front m n =
    same_operation _ _ _ _
    (simp base_of-append (omega arith))
    (simp (image_from-append, base_of-append, append-nil, append_assoc, olds-add, zero-add, add-zero) refl)

-- one more run of places that stay
pub one_more_keep : {A : Type 0} (front : List (Run A)) (n : ℕ) → operation_of (front ++ Keep n ∷ []) ≡ with_retain (operation_of front) n
one_more_keep front n =
    same_operation _ _ _ _
    (simp base_of-append (omega arith))
    (simp (image_from-append, append-nil, zero-add) refl)

-- a longer last run of places that go
pub longer_drop : {A : Type 0} (front : List (Run A)) (m n : ℕ) → operation_of (front ++ Skip (m + n) ∷ []) ≡ with_delete (operation_of (front ++ Skip m ∷ [])) n
longer_drop front m n =
    same_operation _ _ _ _
    (simp base_of-append (omega arith))
    (simp (image_from-append, append-nil) refl)

-- one more run of places that go
pub one_more_drop : {A : Type 0} (front : List (Run A)) (n : ℕ) → operation_of (front ++ Skip n ∷ []) ≡ with_delete (operation_of front) n
one_more_drop front n =
    same_operation _ _ _ _
    (simp base_of-append (omega arith))
    (simp (image_from-append, append-nil) refl)

-- runs that give nothing
abbrev pub GivesNothing : {A : Type 0} → List (Run A) → Type 0
GivesNothing {A} rs = (from : ℕ) → image_from from rs ≡ []

-- a longer last run of new items
pub longer_add : {A : Type 0} (front : List (Run A)) (s t : List A) (back : List (Run A)) → GivesNothing back → operation_of (front ++ Add (s ++ t) ∷ back) ≡ with_insert (operation_of (front ++ Add s ∷ back)) t
longer_add front s t back nothing =
    same_operation _ _ _ _
    (simp base_of-append refl)
    (simp (image_from-append, nothing, map-append, append-nil, append_assoc) refl)

-- one more run of new items
pub one_more_add : {A : Type 0} (front : List (Run A)) (t : List A) (back : List (Run A)) → GivesNothing back → operation_of (front ++ Add t ∷ back) ≡ with_insert (operation_of (front ++ back)) t
one_more_add front t back nothing =
    same_operation _ _ _ _
    (simp base_of-append (omega arith))
    (simp (image_from-append, nothing, append-nil) refl)

-- may the run stand after the last run of the list
abbrev pub MayEnd : {A : Type 0} → List (Run A) → Run A → Type 0
MayEnd [] r = Unit {0}
MayEnd (q ∷ []) r = MayFollow q r
MayEnd (_ ∷ q ∷ rs) r = MayEnd (q ∷ rs) r

-- one more run at the end
pub normal_push : {A : Type 0} (rs : List (Run A)) (r : Run A) → IsNormal rs → MayEnd rs r → IsFilled r → IsNormal (rs ++ r ∷ [])
normal_push [] r n e f = (f, tt, tt)
normal_push (q ∷ []) r n e f = (n.0, e, (f, tt, tt))
normal_push (q ∷ p ∷ rs) r n e f = (n.0, n.1, normal_push (p ∷ rs) r n.2 e f)

-- two runs of one kind
abbrev pub SameKind : {A : Type 0} → Run A → Run A → Type 0
SameKind (Keep _) (Keep _) = Unit {0}
SameKind (Keep _) (Add _) = ⊥
SameKind (Keep _) (Skip _) = ⊥
SameKind (Add _) (Keep _) = ⊥
SameKind (Add _) (Add _) = Unit {0}
SameKind (Add _) (Skip _) = ⊥
SameKind (Skip _) (Keep _) = ⊥
SameKind (Skip _) (Add _) = ⊥
SameKind (Skip _) (Skip _) = Unit {0}

follows_same : {A : Type 0} (q r s : Run A) → SameKind r s → MayFollow q r → MayFollow q s
follows_same (Keep _) (Keep _) (Keep _) k f = f
follows_same (Keep _) (Add _) (Add _) k f = f
follows_same (Keep _) (Skip _) (Skip _) k f = f
follows_same (Add _) (Keep _) (Keep _) k f = f
follows_same (Add _) (Add _) (Add _) k f = f
follows_same (Add _) (Skip _) (Skip _) k f = f
follows_same (Skip _) (Keep _) (Keep _) k f = f
follows_same (Skip _) (Add _) (Add _) k f = f
follows_same (Skip _) (Skip _) (Skip _) k f = f
follows_same _ (Keep _) (Add _) k f = absurd k
follows_same _ (Keep _) (Skip _) k f = absurd k
follows_same _ (Add _) (Keep _) k f = absurd k
follows_same _ (Add _) (Skip _) k f = absurd k
follows_same _ (Skip _) (Keep _) k f = absurd k
follows_same _ (Skip _) (Add _) k f = absurd k

leads_same : {A : Type 0} (r s : Run A) (rs : List (Run A)) → SameKind r s → MayLead r rs → MayLead s rs
leads_same r s [] k l = tt
leads_same (Keep _) (Keep _) (_ ∷ _) k l = l
leads_same (Add _) (Add _) (_ ∷ _) k l = l
leads_same (Skip _) (Skip _) (_ ∷ _) k l = l
leads_same (Keep _) (Add _) (_ ∷ _) k l = absurd k
leads_same (Keep _) (Skip _) (_ ∷ _) k l = absurd k
leads_same (Add _) (Keep _) (_ ∷ _) k l = absurd k
leads_same (Add _) (Skip _) (_ ∷ _) k l = absurd k
leads_same (Skip _) (Keep _) (_ ∷ _) k l = absurd k
leads_same (Skip _) (Add _) (_ ∷ _) k l = absurd k

-- another run of the same kind in place of one
pub normal_replace : {A : Type 0} (front : List (Run A)) (r s : Run A) (back : List (Run A)) → SameKind r s → IsFilled s → IsNormal (front ++ r ∷ back) → IsNormal (front ++ s ∷ back)
normal_replace [] r s back k f n = (f, leads_same r s back k n.1, n.2)
normal_replace (q ∷ []) r s back k f n = (n.0, follows_same q r s k n.1, normal_replace [] r s back k f n.2)
normal_replace (q ∷ p ∷ front) r s back k f n = (n.0, n.1, normal_replace (p ∷ front) r s back k f n.2)

-- new items before a deletion at the end
pub normal_before_drop : {A : Type 0} (front : List (Run A)) (t : List A) (n : ℕ) → 0 < length t → MayEnd front (Add t) → IsNormal (front ++ Skip n ∷ []) → IsNormal (front ++ Add t ∷ Skip n ∷ [])
normal_before_drop [] t n f e h = (f, tt, h)
normal_before_drop (q ∷ []) t n f e h = (h.0, e, (f, tt, h.2))
normal_before_drop (q ∷ p ∷ front) t n f e h = (h.0, h.1, normal_before_drop (p ∷ front) t n f e h.2)

-- in normal form each run may stand after what is before it
pub front_may_end : {A : Type 0} (front : List (Run A)) (r : Run A) (back : List (Run A)) → IsNormal (front ++ r ∷ back) → MayEnd front r
front_may_end [] r back n = tt
front_may_end (q ∷ []) r back n = n.1
front_may_end (q ∷ p ∷ front) r back n = front_may_end (p ∷ front) r back n.2

pub length-news-append : {A : Type 0} (xs ys : List (Item A)) → length (news (xs ++ ys)) ≡ length (news xs) + length (news ys)
length-news-append [] ys = omega arith
length-news-append (Old i ∷ xs) ys = length-news-append xs ys
length-news-append (New x ∷ xs) ys = omega (arith, length-news-append xs ys)

pub length-news-olds : (A : Type 0) (from count : ℕ) → length (news (olds {A = A} from count)) ≡ 0
length-news-olds A from zero = refl
length-news-olds A from (suc count) = length-news-olds A (suc from) count

pub length-news-news : {A : Type 0} (text : List A) → length (news (map New text)) ≡ length text
length-news-news [] = refl
length-news-news (x ∷ text) = omega (arith, length-news-news text)

pub length-news-le : {A : Type 0} (xs : List (Item A)) → length (news xs) ≤ length xs
length-news-le [] = omega arith
length-news-le (Old i ∷ xs) = let h = length-news-le xs in omega arith
length-news-le (New x ∷ xs) = let h = length-news-le xs in omega arith

module _ {A : Type 0} {old new : List (Run A)} {base target inserted : ℕ} (sound : IsSound old base target inserted) where
  pub sound_retain : (n : ℕ) → Extends old new (λ op. with_retain op n) → base + n ≤ 1000000 → target + n ≤ 1000000 → IsSound new (base + n) (target + n) inserted
  sound_retain n e b t =
      let image_is : image_from 0 new ≡ image_from 0 old ++ olds (base_of old) n = ap (λ (op : Operation A). op.image) e.operation in
      let base_is : base_of new ≡ base_of old + n = ap (λ (op : Operation A). op.base) e.operation in
      record {
        normal = e.normal;
        base_is = omega (arith, sound.base_is);
        target_is = rw image_is (omega (arith, length-append (image_from 0 old) (olds (base_of old) n), length-olds A (base_of old) n, sound.target_is));
        inserted_is = rw image_is (omega (arith, length-news-append (image_from 0 old) (olds (base_of old) n), length-news-olds A (base_of old) n, sound.inserted_is));
        base_fits = b;
        target_fits = t;
      }

  pub sound_delete : (n : ℕ) → Extends old new (λ op. with_delete op n) → base + n ≤ 1000000 → IsSound new (base + n) target inserted
  sound_delete n e b =
      let image_is : image_from 0 new ≡ image_from 0 old = ap (λ (op : Operation A). op.image) e.operation in
      let base_is : base_of new ≡ base_of old + n = ap (λ (op : Operation A). op.base) e.operation in
      record {
        normal = e.normal;
        base_is = omega (arith, sound.base_is);
        target_is = rw image_is sound.target_is;
        inserted_is = rw image_is sound.inserted_is;
        base_fits = b;
        target_fits = sound.target_fits;
      }

  pub sound_insert : (text : List A) → Extends old new (λ op. with_insert op text) → target + length text ≤ 1000000 → IsSound new base (target + length text) (inserted + length text)
  sound_insert text e t =
      let image_is : image_from 0 new ≡ image_from 0 old ++ map New text = ap (λ (op : Operation A). op.image) e.operation in
      let base_is : base_of new ≡ base_of old = ap (λ (op : Operation A). op.base) e.operation in
      record {
        normal = e.normal;
        base_is = omega (arith, sound.base_is);
        target_is = rw image_is (omega (arith, length-append (image_from 0 old) (map New text), length-map text (λ (x : A). New x), sound.target_is));
        inserted_is = rw image_is (omega (arith, length-news-append (image_from 0 old) (map New text), length-news-news text, sound.inserted_is));
        base_fits = sound.base_fits;
        target_fits = t;
      }

-- the lengths of the changed operations
pub longest_retain : {A : Type 0} (op : Operation A) (n : ℕ) → max (op.base + n) (length (op.image ++ olds op.base n)) ≡ max op.base (length op.image) + n
longest_retain {A} op n = omega (arith, length-append op.image (olds op.base n), length-olds A op.base n)

pub longest_insert : {A : Type 0} (op : Operation A) (text : List A) → max op.base (length (op.image ++ map New text)) ≡ max op.base (length op.image + length text)
longest_insert {A} op text = omega (arith, length-append op.image (map New text), length-map text (λ (x : A). New x))

-- the longer of a sound list's two lengths
longest_of : {A : Type 0} {rs : List (Run A)} {base target inserted : ℕ} {op : Operation A} → IsSound rs base target inserted → operation_of rs ≡ op → max op.base (length op.image) ≡ max base target
longest_of {A} {rs} sound is =
    let b : base_of rs ≡ _ = ap (λ (o : Operation A). o.base) is in
    let i : image_from 0 rs ≡ _ = ap (λ (o : Operation A). o.image) is in
    rw (← b, ← i, ← sound.base_is, ← sound.target_is) refl

pub sound_fits : {A : Type 0} {rs : List (Run A)} {base target inserted : ℕ} {op : Operation A} → IsSound rs base target inserted → operation_of rs ≡ op → max op.base (length op.image) ≤ 1000000
sound_fits sound is = rw (longest_of sound is) (omega (arith, sound.base_fits, sound.target_fits))

module _ {A : Type 0} {rs : List (Run A)} {base target inserted : ℕ} {op : Operation A} (sound : IsSound rs base target inserted) (is : operation_of rs ≡ op) where
  pub too_long_retain : (n m : ℕ) → m ≡ max base target → 1000000 - m < n → IsTooLong (with_retain op n)
  too_long_retain n m e h = rw (longest_retain op n, longest_of sound is) (omega (arith, sound.base_fits, sound.target_fits))

  pub fits_retain : (n m : ℕ) → m ≡ max base target → n ≤ 1000000 - m → IsTooLong (with_retain op n) → ⊥
  fits_retain n m e h long =
      let l = rw (longest_retain op n, longest_of sound is) at long in omega (arith, l, sound.base_fits, sound.target_fits)

  pub too_long_insert : (text : List A) → 1000000 - target < length text → IsTooLong (with_insert op text)
  too_long_insert text h =
      let i : image_from 0 rs ≡ op.image = ap (λ (o : Operation A). o.image) is in
      rw (longest_insert op text, ← i, ← sound.target_is) (omega (arith, sound.target_fits))

  pub fits_insert : (text : List A) → length text ≤ 1000000 - target → IsTooLong (with_insert op text) → ⊥
  fits_insert text h long =
      let i : image_from 0 rs ≡ op.image = ap (λ (o : Operation A). o.image) is in
      let b : base_of rs ≡ op.base = ap (λ (o : Operation A). o.base) is in
      let l = rw (longest_insert op text, ← i, ← sound.target_is, ← b, ← sound.base_is) at long in omega (arith, l, sound.base_fits, sound.target_fits)

  pub too_long_delete : (n : ℕ) → 1000000 - base < n → IsTooLong (with_delete op n)
  too_long_delete n h =
      let b : base_of rs ≡ op.base = ap (λ (o : Operation A). o.base) is in
      rw (← b, ← sound.base_is) (omega (arith, sound.base_fits))

  pub fits_delete : (n : ℕ) → n ≤ 1000000 - base → IsTooLong (with_delete op n) → ⊥
  fits_delete n h long =
      let i : image_from 0 rs ≡ op.image = ap (λ (o : Operation A). o.image) is in
      let b : base_of rs ≡ op.base = ap (λ (o : Operation A). o.base) is in
      let l = rw (← i, ← sound.target_is, ← b, ← sound.base_is) at long in omega (arith, l, sound.base_fits, sound.target_fits)

-- each run of the normal form takes a place of the base or of the image
pub runs_few : {A : Type 0} (from : ℕ) (rs : List (Run A)) → IsNormal rs → length rs ≤ base_of rs + length (image_from from rs)
runs_few from [] n = omega arith
runs_few {A} from (Keep k ∷ rs) n = omega (arith, n.0, runs_few (from + k) rs n.2, length-append (olds {A = A} from k) (image_from (from + k) rs))
runs_few {A} from (Add s ∷ rs) n = omega (arith, n.0, runs_few from rs n.2, length-append (map New s) (image_from from rs), length-map s (λ (x : A). New x))
runs_few from (Skip k ∷ rs) n = omega (arith, n.0, runs_few (from + k) rs n.2)
