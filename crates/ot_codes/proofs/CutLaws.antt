-- Cuts that give the text of a composition by the shapes give it for all operations of these shapes.
use Rattle.std.proofs.Common.{◌≡◌, ℕ, zero, suc, ◌+◌, List, [], ◌∷◌, length, map, Option, Some, refl, sym, ap, ◌∙◌, arith}
use Rattle.std.proofs.lemmas.List.{length-map}
use Rattle.std.specs.List.{slice_get}
use Rattle.ot_operation.specs.Operation.{Item, Old, New, Operation, news}
use Rattle.ot_operation.specs.Compose.{compose}
use Rattle.ot_codes.specs.declared.cut.Cut.{Cut}
use Rattle.ot_codes.specs.Shape.{mapped_item, mapped, blank, shape, filled_image, filled}
use Rattle.ot_codes.specs.Cuts.{Source, assembled, places, size, placed, GiveText}
use Rattle.ot_codes.specs.Cuts.Source.{OfFirst, OfSecond}
use Rattle.ot_codes.proofs.Mapped.{same_parts, news-mapped, compose-mapped}
use Rattle.ot_codes.proofs.Filled.{filled-shape}
use Rattle.ot_codes.proofs.Cutting.{assembled-map}

-- the element at a place of one of two texts
abbrev looked_up : {A : Type 0} → List A → List A → Source → Option A
looked_up first second (OfFirst k) = slice_get first k
looked_up first second (OfSecond k) = slice_get second k

each_place :
    {A : Type 0} (f : Source → Option A) (mark : ℕ → Source) (at : ℕ) (xs : List A) → ((j k : ℕ) → k ≡ at + j → f (mark k) ≡ slice_get xs j)
    → map f (places mark at (length xs)) ≡ map Some xs
each_place f mark at [] found = refl
each_place f mark at (x ∷ xs) found =
    ap (λ o. o ∷ map f (places mark (suc at) (length xs))) (found zero at (omega arith))
    ∙ ap (λ rest. Some x ∷ rest) (each_place f mark (suc at) xs (λ j k is. found (suc j) k (omega (arith, is))))

map_filled : {A B : Type 0} (f : A → B) (image : List (Item (Unit {0}))) (text : List A) → map (mapped_item f) (filled_image image text) ≡ filled_image image (map f text)
map_filled f [] text = refl
map_filled f (Old i ∷ image) text = ap (λ rest. Old i ∷ rest) (map_filled f image text)
map_filled f (New _ ∷ image) [] = map_filled f image []
map_filled f (New _ ∷ image) (x ∷ text) = ap (λ rest. New (f x) ∷ rest) (map_filled f image text)

filled_with : {A B : Type 0} (f : A → B) (image : List (Item A)) → filled_image (map (mapped_item blank) image) (map f (news image)) ≡ map (mapped_item f) image
filled_with f [] = refl
filled_with f (Old i ∷ image) = ap (λ rest. Old i ∷ rest) (filled_with f image)
filled_with f (New x ∷ image) = ap (λ rest. New (f x) ∷ rest) (filled_with f image)

some_apart : {A : Type 0} (xs ys : List A) → map Some xs ≡ map Some ys → xs ≡ ys
some_apart [] [] is = refl
some_apart [] (y ∷ ys) is = cc
some_apart (x ∷ xs) [] is = cc
some_apart (x ∷ xs) (y ∷ ys) is =
    let first : x ≡ y = cc in
    let rest : map Some xs ≡ map Some ys = cc in
    ap (λ z. z ∷ xs) first ∙ ap (λ zs. y ∷ zs) (some_apart xs ys rest)

module _ {A : Type 0} (f : Source → Option A) (mark : ℕ → Source) (op : Operation A) (found : (j k : ℕ) → k ≡ 0 + j → f (mark k) ≡ slice_get (news op.image) j) where
  size_is : size (shape op) ≡ length (news op.image)
  size_is = ap length (news-mapped blank op.image) ∙ length-map (news op.image) blank

  places_found : map f (places mark 0 (size (shape op))) ≡ map Some (news op.image)
  places_found = ap (λ n. map f (places mark 0 n)) size_is ∙ each_place f mark 0 (news op.image) found

  placed_found : mapped f (placed mark (shape op)) ≡ mapped Some op
  placed_found =
      same_parts _ _ _ _ refl
      (map_filled f (shape op).image (places mark 0 (size (shape op))) ∙ ap (filled_image (shape op).image) places_found ∙ filled_with Some op.image)

module _ {A : Type 0} (a b : Operation A) (cuts : List Cut) (given : GiveText cuts (shape a) (shape b)) where
  in_first : (j k : ℕ) → k ≡ 0 + j → looked_up (news a.image) (news b.image) (OfFirst k) ≡ slice_get (news a.image) j
  in_first j k is = ap (slice_get (news a.image)) (let e : k ≡ j = omega (arith, is) in e)

  in_second : (j k : ℕ) → k ≡ 0 + j → looked_up (news a.image) (news b.image) (OfSecond k) ≡ slice_get (news b.image) j
  in_second j k is = ap (slice_get (news b.image)) (let e : k ≡ j = omega (arith, is) in e)

  both : mapped (looked_up (news a.image) (news b.image)) (compose (placed OfFirst (shape a)) (placed OfSecond (shape b))) ≡ mapped Some (compose a b)
  both =
      compose-mapped (looked_up (news a.image) (news b.image)) (placed OfFirst (shape a)) (placed OfSecond (shape b))
      ∙ ap (λ op. compose op (mapped (looked_up (news a.image) (news b.image)) (placed OfSecond (shape b)))) (placed_found (looked_up (news a.image) (news b.image)) OfFirst a in_first)
      ∙ ap (compose (mapped Some a)) (placed_found (looked_up (news a.image) (news b.image)) OfSecond b in_second)
      ∙ sym (compose-mapped Some a b)

  pub cuts_give_text : assembled cuts (news a.image) (news b.image) ≡ news (compose a b).image
  cuts_give_text =
      some_apart _ _
      (assembled-map Some 0 cuts (news a.image) (news b.image)
      ∙ ap (λ xs. assembled cuts xs (map Some (news b.image))) (sym (places_found (looked_up (news a.image) (news b.image)) OfFirst a in_first))
      ∙ ap (assembled cuts (map (looked_up (news a.image) (news b.image)) (places OfFirst 0 (size (shape a))))) (sym (places_found (looked_up (news a.image) (news b.image)) OfSecond b in_second))
      ∙ sym (assembled-map (looked_up (news a.image) (news b.image)) 0 cuts (places OfFirst 0 (size (shape a))) (places OfSecond 0 (size (shape b))))
      ∙ ap (map (looked_up (news a.image) (news b.image))) given.text
      ∙ sym (news-mapped (looked_up (news a.image) (news b.image)) (compose (placed OfFirst (shape a)) (placed OfSecond (shape b))).image)
      ∙ ap (λ (op : Operation (Option A)). news op.image) both
      ∙ news-mapped Some (compose a b).image)

  pub compose_fills : filled (compose (shape a) (shape b)) (assembled cuts (news a.image) (news b.image)) ≡ compose a b
  compose_fills =
      ap (filled (compose (shape a) (shape b))) cuts_give_text
      ∙ ap (λ s. filled s (news (compose a b).image)) (sym (compose-mapped blank a b))
      ∙ filled-shape (compose a b)
