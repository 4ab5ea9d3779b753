-- Loops that append: what one more element adds.
use Rattle.std.proofs.Common.{◌≡◌, ℕ, ◌+◌, ◌<◌, ◌≤◌, List, [], ◌∷◌, ◌++◌, length, get_or, take, drop, map, ap, sym, ◌∙◌, cond, arith, Bool, true, false, refl, append_assoc, below_more, subst, Vec, Global}
use Rattle.std.specs.Prelude.{All, Option, Some, None, option_map, option_and_then}
use Rattle.std.proofs.lemmas.List.{append-nil, drop_all, drop_more, get_or_append_left, get_or_push, map-append, take_more}
use Rattle.std.proofs.lemmas.List.Elements.{All-more}
use Rattle.serde_json.specs.Data.{Data}
use Rattle.serde_json.specs.View.{view, items_view}
use Rattle.serde_json.specs.declared.value.Value.{Value}
use Rattle.ot_isa.specs.declared.elements.Tag.{Tag}
use Rattle.ot_json.specs.Fields.{all_of}

-- ---- what passes a test

pub pushed : {X : Type 0} (start old next kept new : List X) (x : X) (b : Bool) → next ≡ old ++ cond b (x ∷ []) [] → kept ≡ start ++ old → b ≡ true → new ≡ kept ++ x ∷ [] → new ≡ start ++ next
pushed start old next kept new x b more before passes is =
    is ∙ ap (λ ys. ys ++ x ∷ []) before ∙ append_assoc start old (x ∷ []) ∙ ap (λ ys. start ++ ys) (sym (more ∙ ap (λ (t : Bool). old ++ cond t (x ∷ []) []) passes))

pub passed_over : {X : Type 0} (start old next kept : List X) (x : X) (b : Bool) → next ≡ old ++ cond b (x ∷ []) [] → kept ≡ start ++ old → b ≡ false → kept ≡ start ++ next
passed_over start old next kept x b more before fails =
    before ∙ ap (λ ys. start ++ ys) (sym (more ∙ ap (λ (t : Bool). old ++ cond t (x ∷ []) []) fails ∙ append-nil old))

-- ---- what each element gives

pub onto-more : {X Y : Type 0} (f : X → Y) (start now new : List Y) (xs : List X) (i : ℕ) (d : X) → i < length xs → now ≡ start ++ map f (take i xs) → new ≡ now ++ f (get_or xs i d) ∷ [] → new ≡ start ++ map f (take (i + 1) xs)
onto-more f start now new xs i d lt before is =
    is ∙ ap (λ ys. ys ++ f (get_or xs i d) ∷ []) before ∙ append_assoc start (map f (take i xs)) (f (get_or xs i d) ∷ [])
    ∙ ap (λ ys. start ++ ys) (sym (ap (map f) (take_more xs i d lt) ∙ map-append f (take i xs) (get_or xs i d ∷ [])))

pub mapped-more : {X Y Z W : Type 0} (f : X → W) (g : Z → W) (h : Y → Z) (xs new : List X) (ys : List Y) (i : ℕ) (x : X) (y : Y) → i < length ys → y ≡ get_or ys i y → new ≡ xs ++ x ∷ [] → f x ≡ g (h y) → map f xs ≡ map g (map h (take i ys)) → map f new ≡ map g (map h (take (i + 1) ys))
mapped-more f g h xs new ys i x y lt is more same before =
    ap (map f) more ∙ map-append f xs (x ∷ []) ∙ ap (λ ws. ws ++ f x ∷ []) before
    ∙ ap (λ w. map g (map h (take i ys)) ++ w ∷ []) (same ∙ ap (λ z. g (h z)) is)
    ∙ sym (ap (λ zs. map g (map h zs)) (take_more ys i y lt) ∙ ap (map g) (map-append h (take i ys) (get_or ys i y ∷ [])) ∙ map-append g (map h (take i ys)) (h (get_or ys i y) ∷ []))

pub rows-more : (P : List Tag → Type 0) (rows : List (Vec Tag Global)) (i : ℕ) (v : Vec Tag Global) (xs : List Tag) → i < length rows → v ≡ get_or rows i v → xs ≡ v.items → P xs → All (λ (w : Vec Tag Global). P w.items) (take i rows) → All (λ (w : Vec Tag Global). P w.items) (take (i + 1) rows)
rows-more P rows i v xs lt is same here before =
    All-more (λ (w : Vec Tag Global). P w.items) rows i v lt before (subst P (same ∙ ap (λ (w : Vec Tag Global). w.items) is) here)

-- ---- a number for each index

pub each-more : (f : ℕ → ℕ) (numbers new : List ℕ) (d n : ℕ) → length numbers ≡ d → ((k : ℕ) → k < d → get_or numbers k 0 ≡ f k) → n ≡ f d → new ≡ numbers ++ n ∷ [] → (k : ℕ) → k < d + 1 → get_or new k 0 ≡ f k
each-more f numbers new d n long each here is = below_more (λ k. get_or new k 0 ≡ f k) d
    (λ k lt. ap (λ xs. get_or xs k 0) is ∙ get_or_append_left numbers (n ∷ []) 0 k (omega (arith, lt, long)) ∙ each k lt)
    (ap (λ xs. get_or xs d 0) is ∙ get_or_push numbers n 0 d long ∙ here)

-- ---- what each value is

onto : {A : Type 0} (found new : List A) (x : A) (o : Option (List A)) → new ≡ found ++ x ∷ [] → option_map (λ xs. new ++ xs) o ≡ option_map (λ xs. found ++ xs) (option_map (λ xs. x ∷ xs) o)
onto found new x None is = refl
onto found new x (Some xs) is = ap (λ ys. Some ys) (ap (λ ys. ys ++ xs) is ∙ append_assoc found (x ∷ []) xs)

step : {A : Type 0} (f : Data → Option A) (vs : List Value) (i : ℕ) (v : Value) (o : Option A) → i < length vs → v ≡ get_or vs i v → f (view v) ≡ o → all_of f (items_view (drop i vs)) ≡ option_and_then (λ x. option_map (λ xs. x ∷ xs) (all_of f (items_view (drop (i + 1) vs)))) o
step f vs i v o lt at is =
    ap (λ ws. all_of f (items_view ws)) (drop_more vs i v lt)
    ∙ ap (λ w. option_and_then (λ x. option_map (λ xs. x ∷ xs) (all_of f (items_view (drop (i + 1) vs)))) (f (view w))) (sym at)
    ∙ ap (option_and_then (λ x. option_map (λ xs. x ∷ xs) (all_of f (items_view (drop (i + 1) vs))))) is

pub all-start : {A : Type 0} (found : List A) (o : Option (List A)) → found ≡ [] → option_map (λ xs. found ++ xs) o ≡ o
all-start found None empty = refl
all-start found (Some xs) empty = ap (λ ys. Some (ys ++ xs)) empty

pub all-more : {A : Type 0} (f : Data → Option A) (vs : List Value) (i : ℕ) (v : Value) (found new : List A) (x : A) (whole : Option (List A)) → i < length vs → v ≡ get_or vs i v → f (view v) ≡ Some x → new ≡ found ++ x ∷ []
    → option_map (λ xs. found ++ xs) (all_of f (items_view (drop i vs))) ≡ whole → option_map (λ xs. new ++ xs) (all_of f (items_view (drop (i + 1) vs))) ≡ whole
all-more f vs i v found new x whole lt at is more before =
    onto found new x (all_of f (items_view (drop (i + 1) vs))) more ∙ ap (option_map (λ xs. found ++ xs)) (sym (step f vs i v (Some x) lt at is)) ∙ before

pub all-none : {A : Type 0} (f : Data → Option A) (vs : List Value) (i : ℕ) (v : Value) (found : List A) (whole : Option (List A)) → i < length vs → v ≡ get_or vs i v → f (view v) ≡ None → option_map (λ xs. found ++ xs) (all_of f (items_view (drop i vs))) ≡ whole → None ≡ whole
all-none f vs i v found whole lt at is before = ap (option_map (λ xs. found ++ xs)) (sym (step f vs i v None lt at is)) ∙ before

pub all-end : {A : Type 0} (f : Data → Option A) (vs : List Value) (i : ℕ) (found : List A) (whole : Option (List A)) → length vs ≤ i → option_map (λ xs. found ++ xs) (all_of f (items_view (drop i vs))) ≡ whole → Some found ≡ whole
all-end f vs i found whole le before =
    ap (λ xs. Some xs) (sym (append-nil found)) ∙ ap (λ ws. option_map (λ xs. found ++ xs) (all_of f (items_view ws))) (sym (drop_all i vs le)) ∙ before
