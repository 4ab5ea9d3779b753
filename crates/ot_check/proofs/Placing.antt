-- Insertions component by component.
use Rattle.std.proofs.Common.{◌≡◌, ℕ, zero, suc, ◌+◌, ◌≤◌, List, [], ◌∷◌, ◌++◌, map, length, sym, ap, ◌∙◌, arith, length-append, append_assoc}
use Rattle.std.proofs.lemmas.List.{length-map}
use Rattle.ot_operation.specs.Operation.{Item, New, olds, news}
use Rattle.ot_operation.specs.Run.{Run, Keep, Add, Skip, image_from}
use Rattle.ot_operation.proofs.RunLemmas.{length-olds, length-news-append, length-news-olds, length-news-news}
use Rattle.ot_isa.specs.Tagging.{tagged_items}
use Rattle.ot_model.specs.declared.trace.Placed.{Placed}
use Rattle.ot_model.specs.Events.{insertions_from}
use Rattle.ot_check.specs.Insertions.{placed_run}

abbrev pub placed : ℕ → ℕ → ℕ → Placed
placed origin serial place = record { tag = record { origin = origin; serial = serial }; place = place }

-- one more neighbour
pub placed_run-more : (origin first place count : ℕ) → placed_run origin first place (suc count) ≡ placed_run origin first place count ++ placed origin (first + count) (place + count) ∷ []
placed_run-more origin first place zero =
    let a : first ≡ first + 0 = omega arith in
    let b : place ≡ place + 0 = omega arith in
    ap (λ (s : ℕ). placed origin s place ∷ []) a ∙ ap (λ (p : ℕ). placed origin (first + 0) p ∷ []) b
placed_run-more origin first place (suc count) =
    let a : suc first + count ≡ first + suc count = omega arith in
    let b : suc place + count ≡ place + suc count = omega arith in
    ap (λ (xs : List Placed). placed origin first place ∷ xs)
    (placed_run-more origin (suc first) (suc place) count
    ∙ ap (λ (s : ℕ). placed_run origin (suc first) (suc place) count ++ placed origin s (suc place + count) ∷ []) a
    ∙ ap (λ (p : ℕ). placed_run origin (suc first) (suc place) count ++ placed origin (first + suc count) p ∷ []) b)

pub placed_run-push : (start before after : List Placed) (origin first place count : ℕ) → before ≡ start ++ placed_run origin first place count → after ≡ before ++ placed origin (first + count) (place + count) ∷ [] → after ≡ start ++ placed_run origin first place (count + 1)
placed_run-push start before after origin first place count was is =
    let next : suc count ≡ count + 1 = omega arith in
    is ∙ ap (λ (ps : List Placed). ps ++ placed origin (first + count) (place + count) ∷ []) was
    ∙ append_assoc start (placed_run origin first place count) (placed origin (first + count) (place + count) ∷ [])
    ∙ ap (λ (ps : List Placed). start ++ ps) (sym (placed_run-more origin first place count) ∙ ap (placed_run origin first place) next)

-- neighbours that stay, in front of others
insertions-olds :
    (place origin serial from count : ℕ) (rest : List (Item ℕ))
    → insertions_from place (tagged_items origin serial (olds from count ++ rest)) ≡ insertions_from (place + count) (tagged_items origin serial rest)
insertions-olds place origin serial from zero rest = let e : place ≡ place + 0 = omega arith in ap (λ (p : ℕ). insertions_from p (tagged_items origin serial rest)) e
insertions-olds place origin serial from (suc count) rest =
    let e : suc place + count ≡ place + suc count = omega arith in
    insertions-olds (suc place) origin serial (suc from) count rest ∙ ap (λ (p : ℕ). insertions_from p (tagged_items origin serial rest)) e

-- new ones
insertions-news :
    (place origin serial : ℕ) (text : List ℕ) (rest : List (Item ℕ))
    → insertions_from place (tagged_items origin serial (map New text ++ rest))
    ≡ placed_run origin serial place (length text) ++ insertions_from (place + length text) (tagged_items origin (serial + length text) rest)
insertions-news place origin serial [] rest =
    let e : place ≡ place + 0 = omega arith in
    let f : serial ≡ serial + 0 = omega arith in
    ap (λ (p : ℕ). insertions_from p (tagged_items origin serial rest)) e ∙ ap (λ (s : ℕ). insertions_from (place + 0) (tagged_items origin s rest)) f
insertions-news place origin serial (ch ∷ text) rest =
    let e : suc place + length text ≡ place + suc (length text) = omega arith in
    let f : suc serial + length text ≡ serial + suc (length text) = omega arith in
    let run : List Placed = placed_run origin (suc serial) (suc place) (length text) in
    ap (λ (ps : List Placed). placed origin serial place ∷ ps)
    (insertions-news (suc place) origin (suc serial) text rest
    ∙ ap (λ (p : ℕ). run ++ insertions_from p (tagged_items origin (suc serial + length text) rest)) e
    ∙ ap (λ (s : ℕ). run ++ insertions_from (place + suc (length text)) (tagged_items origin s rest)) f)

-- what the components insert that are passed, and where they end; the others are left
pub record IsPlacedTo (all left : List (Run ℕ)) (origin first serial place : ℕ) (made : List Placed) : Type 0 where
  pub from : ℕ
  pub made_is : made ++ insertions_from place (tagged_items origin serial (image_from from left)) ≡ insertions_from 0 (tagged_items origin first (image_from 0 all))
  pub serial_is : serial + length (news (image_from from left)) ≡ first + length (news (image_from 0 all))
  pub place_is : place + length (image_from from left) ≡ length (image_from 0 all)

module _ {all left next : List (Run ℕ)} {origin first serial place : ℕ} {made : List Placed} (so_far : IsPlacedTo all left origin first serial place made) where
  pub placed_retain : (n : ℕ) → left ≡ Keep n ∷ next → IsPlacedTo all next origin first serial (place + n) made
  placed_retain n is =
      let from = so_far.from in
      let rest = image_from (from + n) next in
      let m = rw (is, insertions-olds) at so_far.made_is in
      let s = rw is at so_far.serial_is in
      let p = rw is at so_far.place_is in
      record {
        from = from + n;
        made_is = m;
        serial_is = omega (arith, s, length-news-append (olds from n) rest, length-news-olds ℕ from n);
        place_is = omega (arith, p, length-append (olds from n) rest, length-olds ℕ from n);
      }

  pub placed_delete : (n : ℕ) → left ≡ Skip n ∷ next → IsPlacedTo all next origin first serial place made
  placed_delete n is =
      record {
        from = so_far.from + n;
        made_is = rw is at so_far.made_is;
        serial_is = rw is at so_far.serial_is;
        place_is = rw is at so_far.place_is;
      }

  pub placed_insert : (text : List ℕ) → left ≡ Add text ∷ next → IsPlacedTo all next origin first (serial + length text) (place + length text) (made ++ placed_run origin serial place (length text))
  placed_insert text is =
      let from = so_far.from in
      let rest = image_from from next in
      let m = rw (is, insertions-news) at so_far.made_is in
      let s = rw is at so_far.serial_is in
      let p = rw is at so_far.place_is in
      record {
        from = from;
        made_is = append_assoc made (placed_run origin serial place (length text)) _ ∙ m;
        serial_is = omega (arith, s, length-news-append (map New text) rest, length-news-news text);
        place_is = omega (arith, p, length-append (map New text) rest, length-map text (λ (x : ℕ). New x));
      }

  -- the room for them
  pub retain_fits : (n : ℕ) → left ≡ Keep n ∷ next → place + n ≤ length (image_from 0 all)
  retain_fits n is = let next = placed_retain n is in let p = next.place_is in omega (arith, p)

  pub insert_fits : (text : List ℕ) → left ≡ Add text ∷ next → place + length text ≤ length (image_from 0 all)
  insert_fits text is = let next = placed_insert text is in let p = next.place_is in omega (arith, p)

  pub serials_fit : (text : List ℕ) → left ≡ Add text ∷ next → serial + length text ≤ first + length (news (image_from 0 all))
  serials_fit text is = let next = placed_insert text is in let s = next.serial_is in omega (arith, s)
