-- Codes of one operation that lie in a single code of the other: what the loop of compose keeps past all of them.
use Rattle.std.proofs.Common.{◌≡◌, ℕ, ◌+◌, ◌-◌, ◌≤◌, List, [], ◌∷◌, ◌++◌, map, nat_eq, Bool, true, false, if◌then◌else◌, refl, sym, ap, subst, ◌∙◌, arith}
use Rattle.std.proofs.lemmas.List.{map-append}
use Rattle.ot_operation.specs.Operation.{Item, New, Operation, olds, news}
use Rattle.ot_operation.specs.Run.{Run, Keep, Add, Skip, image_from}
use Rattle.ot_operation.specs.Steps.{with_runs}
use Rattle.ot_operation.proofs.RunLemmas.{same_operation}
use Rattle.ot_operation.specs.Steps.{target_of}
use Rattle.ot_operation.proofs.KeptRuns.{after_kept}
use Rattle.ot_operation.proofs.ComposeProgress.{ComposeProgress}
use Rattle.ot_codes.specs.declared.code.Code.{Code}
use Rattle.ot_codes.specs.declared.code.Code.TheVariants.{Retain, Insert, Delete}
use Rattle.ot_codes.specs.declared.cut.Cut.{Cut}
use Rattle.ot_codes.specs.Codes.{blanks, runs_of, without, past, kept_in, inserted_in}
use Rattle.ot_codes.specs.Shape.{blank, mapped_item, shape}
use Rattle.ot_codes.specs.Cuts.{Source, assembled, places}
use Rattle.ot_codes.specs.Cuts.Source.{OfFirst, OfSecond}
use Rattle.ot_codes.proofs.Mapped.{olds-mapped}
use Rattle.ot_codes.proofs.Filled.{news_append, news_texts, news_olds}
use Rattle.ot_codes.proofs.Cutting.{within_more, assembled_more}
use Rattle.ot_codes.proofs.Marked.{length-places, places-add, blanks-places, marked, marked-base, marked-target, marked-without_keep}
use Rattle.ot_codes.proofs.Composing.{first_of_codes, second_of_codes, Composing}
use Rattle.ot_codes.proofs.Summing.{inserted-append}
use Rattle.ot_codes.proofs.Skipping.{target_in}
use Rattle.ot_codes.proofs.ComposeSkips.{composed_moved, composed_kept_first}

-- codes with places, of two parts

pub marked-append :
    (mark : ℕ → Source) (at : ℕ) (xs ys : List Code) → marked mark at (xs ++ ys) ≡ marked mark at xs ++ marked mark (at + inserted_in xs) ys
marked-append mark at [] ys = ap (λ k. marked mark k ys) (let e : at ≡ at + 0 = omega arith in e)
marked-append mark at (Retain n ∷ xs) ys = ap (λ rest. Keep n ∷ rest) (marked-append mark at xs ys)
marked-append mark at (Insert n ∷ xs) ys =
    let e : at + n + inserted_in xs ≡ at + (n + inserted_in xs) = omega arith in
    ap (λ rest. Add (places mark at n) ∷ rest) (marked-append mark (at + n) xs ys ∙ ap (λ k. marked mark (at + n) xs ++ marked mark k ys) e)
marked-append mark at (Delete n ∷ xs) ys = ap (λ rest. Skip n ∷ rest) (marked-append mark at xs ys)

-- what they insert, and their shape

pub news_marked : (mark : ℕ → Source) (at i : ℕ) (codes : List Code) → news (image_from i (marked mark at codes)) ≡ places mark at (inserted_in codes)
news_marked mark at i [] = refl
news_marked mark at i (Retain n ∷ codes) =
    news_append (olds i n) (image_from (i + n) (marked mark at codes))
    ∙ ap (λ front. front ++ news (image_from (i + n) (marked mark at codes))) (news_olds Source i n)
    ∙ news_marked mark at (i + n) codes
news_marked mark at i (Insert n ∷ codes) =
    news_append (map New (places mark at n)) (image_from i (marked mark (at + n) codes))
    ∙ ap (λ front. front ++ news (image_from i (marked mark (at + n) codes))) (news_texts (places mark at n))
    ∙ ap (λ rest. places mark at n ++ rest) (news_marked mark (at + n) i codes)
    ∙ sym (places-add mark at n (inserted_in codes))
news_marked mark at i (Delete n ∷ codes) = news_marked mark at (i + n) codes

texts_shape : (text : List Source) → map (mapped_item blank) (map New text) ≡ map New (map blank text)
texts_shape [] = refl
texts_shape (x ∷ text) = ap (λ (rest : List (Item (Unit {0}))). New tt ∷ rest) (texts_shape text)

pub shape_marked :
    (mark : ℕ → Source) (at i : ℕ) (codes : List Code) → map (mapped_item blank) (image_from i (marked mark at codes)) ≡ image_from i (runs_of codes)
shape_marked mark at i [] = refl
shape_marked mark at i (Retain n ∷ codes) =
    map-append (mapped_item blank) (olds i n) (image_from (i + n) (marked mark at codes))
    ∙ ap (λ front. front ++ map (mapped_item blank) (image_from (i + n) (marked mark at codes))) (olds-mapped blank i n)
    ∙ ap (λ rest. olds i n ++ rest) (shape_marked mark at (i + n) codes)
shape_marked mark at i (Insert n ∷ codes) =
    map-append (mapped_item blank) (map New (places mark at n)) (image_from i (marked mark (at + n) codes))
    ∙ ap (λ front. front ++ map (mapped_item blank) (image_from i (marked mark (at + n) codes)))
    (texts_shape (places mark at n) ∙ ap (λ (text : List (Unit {0})). map New text) (blanks-places mark at n))
    ∙ ap (λ (rest : List (Item (Unit {0}))). map New (blanks n) ++ rest) (shape_marked mark (at + n) i codes)
shape_marked mark at i (Delete n ∷ codes) = shape_marked mark at (i + n) codes

pub shape_with :
    (mark : ℕ → Source) (at : ℕ) (pen : Operation (Unit {0})) (built : Operation Source) (codes : List Code) → pen ≡ shape built
    → with_runs pen (runs_of codes) ≡ shape (with_runs built (marked mark at codes))
shape_with mark at pen built codes is =
    ap (λ op. with_runs op (runs_of codes)) is
    ∙ same_operation _ _ _ _ (ap (λ k. built.base + k) (sym (marked-base mark at codes)))
    (ap (λ (rest : List (Item (Unit {0}))). map (mapped_item blank) built.image ++ rest) (sym (shape_marked mark at built.base codes))
    ∙ sym (map-append (mapped_item blank) built.image (image_from built.base (marked mark at codes))))

-- what is left of the single code

marked_by :
    (mark : ℕ → Source) (at : ℕ) (b : Bool) (codes rest : List Code)
    → marked mark at (if b then codes else rest) ≡ (if b then marked mark at codes else marked mark at rest)
marked_by mark at true codes rest = refl
marked_by mark at false codes rest = refl

pub marked-past_keep :
    (mark : ℕ → Source) (at count n : ℕ) (codes : List Code) → marked mark at (past count (Retain n ∷ codes)) ≡ after_kept count (marked mark at (Retain n ∷ codes))
marked-past_keep mark at count n codes =
    marked_by mark at (nat_eq count 0) (Retain n ∷ codes) (without count (Retain n ∷ codes))
    ∙ ap (λ (rest : List (Run Source)). if nat_eq count 0 then marked mark at (Retain n ∷ codes) else rest) (marked-without_keep mark at count n codes)

inserted_by : (b : Bool) (codes rest : List Code) → inserted_in codes ≡ inserted_in rest → inserted_in (if b then codes else rest) ≡ inserted_in codes
inserted_by true codes rest same = refl
inserted_by false codes rest same = sym same

if_same : (b : Bool) (codes : List Code) (code : Code) → inserted_in (code ∷ codes) ≡ inserted_in codes → inserted_in (if b then codes else code ∷ codes) ≡ inserted_in codes
if_same true codes code same = refl
if_same false codes code same = same

pub past_keeps_inserted : (count n : ℕ) (codes : List Code) → inserted_in (past count (Retain n ∷ codes)) ≡ inserted_in codes
past_keeps_inserted count n codes =
    inserted_by (nat_eq count 0) (Retain n ∷ codes) (without count (Retain n ∷ codes)) (sym (if_same (nat_eq count n) codes (Retain (n - count)) refl))

-- past them

module _ (codes_a codes_b : List Code) (pen : Operation (Unit {0})) (cuts : List Cut) (at from : ℕ) (front rest others : List Code) (n : ℕ) where
  -- all that the second inserts
  abbrev pub seconds : List Source
  seconds = places OfSecond 0 (inserted_in codes_b)

  parts : (mark : ℕ → Source) (at count : ℕ) → places mark 0 (at + count) ≡ places mark 0 at ++ places mark at count
  parts mark at count = places-add mark 0 at count ∙ ap (λ k. places mark 0 at ++ places mark k count) (let e : 0 + at ≡ at = omega arith in e)

  -- codes of the first in a retain of the second
  pub composing_kept_first :
      kept_in front + inserted_in front ≤ n → Composing codes_a codes_b pen cuts at from (front ++ rest) (Retain n ∷ others)
      → Composing codes_a codes_b (with_runs pen (runs_of front)) cuts (at + inserted_in front) from rest (past (kept_in front + inserted_in front) (Retain n ∷ others))
  composing_kept_first within w =
      let made : target_of (marked OfFirst at front) ≡ kept_in front + inserted_in front = marked-target OfFirst at front ∙ target_in front in
      let text : List Source = places OfFirst at (inserted_in front) in
      record {
        built = with_runs w.built (marked OfFirst at front);
        progress = composed_moved (first_of_codes codes_a) (second_of_codes codes_b) _ _ _ _ _ _ refl refl
            (ap (λ count. after_kept count (marked OfSecond from (Retain n ∷ others))) made ∙ sym (marked-past_keep OfSecond from (kept_in front + inserted_in front) n others))
            (composed_kept_first (first_of_codes codes_a) (second_of_codes codes_b) w.built (marked OfFirst at front) (marked OfFirst (at + inserted_in front) rest)
            (marked OfSecond from (Retain n ∷ others)) (omega (arith, within, made))
            (subst (λ xs. ComposeProgress (first_of_codes codes_a) (second_of_codes codes_b) w.built xs (marked OfSecond from (Retain n ∷ others))) (marked-append OfFirst at front rest) w.progress));
        pen_is = shape_with OfFirst at pen w.built front w.pen_is;
        text = ap (λ zs. assembled cuts zs seconds) (parts OfFirst at (inserted_in front))
            ∙ assembled_more 0 cuts (places OfFirst 0 at) text seconds at from (omega (arith, length-places OfFirst 0 at)) w.within
            ∙ ap (λ zs. zs ++ text) w.text ∙ ap (λ zs. news w.built.image ++ zs) (sym (news_marked OfFirst at w.built.base front))
            ∙ sym (news_append w.built.image (image_from w.built.base (marked OfFirst at front)));
        within = within_more 0 cuts at from (at + inserted_in front) from (omega arith) (omega arith) w.within;
        left_first = omega (arith, w.left_first, inserted-append front rest);
        left_second = ap (λ k. from + k) (past_keeps_inserted (kept_in front + inserted_in front) n others) ∙ w.left_second;
      }
