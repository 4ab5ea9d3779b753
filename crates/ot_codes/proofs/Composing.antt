-- The invariant of the loop of compose, over codes whose insertions are filled with the places of their own text.
use Rattle.std.proofs.Common.{◌≡◌, ℕ, zero, suc, ◌+◌, ◌-◌, ◌<◌, ◌≤◌, List, [], ◌∷◌, ◌++◌, length, map, max, take, drop, nat_eq, if◌then◌else◌, Some, None, Bool, true, false, refl, sym, ap, subst, ◌∙◌, arith, append-nil}
use Rattle.std.proofs.lemmas.List.{length-map}
use borrow.Author.Tests.{eq-eqb, ne_eqb}
use Rattle.ot_operation.specs.Operation.{New, Operation, olds, IsTooLong, empty, news, with_retain, with_insert, with_delete}
use Rattle.ot_operation.specs.Run.{Keep, Add, base_of, operation_of, IsNormal}
use Rattle.ot_operation.specs.Compose.{compose}
use Rattle.ot_operation.specs.Steps.{appended, target_of, skipped, skipped_made}
use Rattle.ot_operation.proofs.RunLengths.{length-image_from}
use Rattle.ot_operation.proofs.ComposeProgress.{ComposeProgress, ComposeBounds, compose_start, covers_exactly, compose_delete, compose_insert, retain_retain, insert_retain, bounds_of, small}
use Rattle.ot_codes.specs.declared.code.Code.{Code}
use Rattle.ot_codes.specs.declared.code.Code.TheVariants.{Retain, Insert, Delete}
use Rattle.ot_codes.specs.declared.cut.Cut.{Cut}
use Rattle.ot_codes.specs.Codes.{blanks, run_of, runs_of, spelled, length_of, others_of, insertion_of, deletion_of, keeps, without, inserted_in}
use Rattle.ot_codes.specs.Shape.{mapped_item, blank, shape}
use Rattle.ot_codes.specs.Cuts.{Source, assembled, AreWithin, with_cut, places, size, placed, GiveText}
use Rattle.ot_codes.specs.Cuts.Source.{OfFirst, OfSecond}
use Rattle.ot_codes.specs.Splice.{composed_code}
use Rattle.ot_codes.proofs.Mapped.{insert-mapped, retain-mapped, compose-mapped}
use Rattle.ot_codes.proofs.Filled.{filled_fits, news_append, news_texts, news_olds}
use Rattle.ot_codes.proofs.Cutting.{within_more, within_cut, assembled_more, assembled_cut}
use Rattle.ot_codes.proofs.Gone.{retain_gone, insert_gone, none_made}
use Rattle.ot_codes.proofs.Marked.{length-places, places-add, take-places, drop-places, blanks-places, marked, marked-base, marked-target, marked-normal, size-spelled, placed-spelled, marked-otherwise, marked-without_keep, marked-without_skip, marked-without_add}

-- the operations of these codes, with the places of their own texts
abbrev pub first_of_codes : List Code → Operation Source
first_of_codes codes = operation_of (marked OfFirst 0 codes)

abbrev pub second_of_codes : List Code → Operation Source
second_of_codes codes = operation_of (marked OfSecond 0 codes)

-- `pen` is written, and the cuts; `at` and `from` elements of the texts are gone through, and codes are left of both
pub record Composing (codes_a codes_b : List Code) (pen : Operation (Unit {0})) (cuts : List Cut) (at from : ℕ) (xs ys : List Code) : Type 0 where
  pub built : Operation Source
  pub progress : ComposeProgress (first_of_codes codes_a) (second_of_codes codes_b) built (marked OfFirst at xs) (marked OfSecond from ys)
  pub pen_is : pen ≡ shape built
  pub text : assembled cuts (places OfFirst 0 at) (places OfSecond 0 (inserted_in codes_b)) ≡ news built.image
  pub within : AreWithin 0 cuts at from
  pub left_first : at + inserted_in xs ≡ inserted_in codes_a
  pub left_second : from + inserted_in ys ≡ inserted_in codes_b

pub state_moved :
    (codes_a codes_b : List Code) (pen next_pen : Operation (Unit {0})) (cuts next_cuts : List Cut) (at next_at from next_from : ℕ) (xs next_xs ys next_ys : List Code)
    → next_pen ≡ pen → next_cuts ≡ cuts → next_at ≡ at → next_from ≡ from → next_xs ≡ xs → next_ys ≡ ys
    → Composing codes_a codes_b pen cuts at from xs ys → Composing codes_a codes_b next_pen next_cuts next_at next_from next_xs next_ys
state_moved codes_a codes_b pen next_pen cuts next_cuts at next_at from next_from xs next_xs ys next_ys pen_is cuts_is at_is from_is xs_is ys_is w =
    rw (pen_is, cuts_is, at_is, from_is, xs_is, ys_is) w

module _ (codes_a codes_b : List Code) where
  pub composing_start :
      IsNormal (runs_of codes_a) → IsNormal (runs_of codes_b) → length (spelled codes_a).image ≡ (spelled codes_b).base
      → Composing codes_a codes_b empty [] 0 0 codes_a codes_b
  composing_start normal_a normal_b meets =
      let covers : target_of (marked OfFirst 0 codes_a) ≡ base_of (marked OfSecond 0 codes_b) =
      marked-target OfFirst 0 codes_a ∙ sym (length-image_from 0 (runs_of codes_a)) ∙ meets ∙ sym (marked-base OfSecond 0 codes_b) in
      record {
        built = empty;
        progress = compose_start (marked OfFirst 0 codes_a) (marked OfSecond 0 codes_b) (marked-normal OfFirst 0 codes_a normal_a) (marked-normal OfSecond 0 codes_b normal_b)
            (covers_exactly (target_of (marked OfFirst 0 codes_a)) (marked OfSecond 0 codes_b) covers);
        pen_is = refl;
        text = refl;
        within = omega arith;
        left_first = omega arith;
        left_second = omega arith;
      }

  module _ (pen : Operation (Unit {0})) (cuts : List Cut) (at from : ℕ) where
    -- the first deletes
    pub composing_delete :
        (xs ys : List Code) (n : ℕ) → deletion_of xs ≡ Some n → Composing codes_a codes_b pen cuts at from xs ys
        → Composing codes_a codes_b (appended pen (run_of (Delete n))) cuts at from (others_of xs) ys
    composing_delete [] ys n is w = cc
    composing_delete (Retain m ∷ xs) ys n is w = cc
    composing_delete (Insert m ∷ xs) ys n is w = cc
    composing_delete (Delete m ∷ xs) ys n is w =
        let e : m ≡ n = cc in
        subst (λ k. Composing codes_a codes_b (with_delete pen k) cuts at from xs ys) e
        (record {
          built = with_delete w.built m;
          progress = compose_delete (first_of_codes codes_a) (second_of_codes codes_b) w.built m (marked OfFirst at xs) (marked OfSecond from ys) w.progress;
          pen_is = ap (λ op. with_delete op m) w.pen_is;
          text = w.text;
          within = w.within;
          left_first = w.left_first;
          left_second = w.left_second;
        })

    -- the second inserts
    pub composing_insert :
        (xs ys : List Code) (n : ℕ) → insertion_of ys ≡ Some n → Composing codes_a codes_b pen cuts at from xs ys
        → Composing codes_a codes_b (appended pen (run_of (Insert n))) (with_cut cuts (record { at = at; gone = 0; from = from; put = n })) at (from + n) xs (others_of ys)
    composing_insert xs [] n is w = cc
    composing_insert xs (Retain m ∷ ys) n is w = cc
    composing_insert xs (Delete m ∷ ys) n is w = cc
    composing_insert xs (Insert m ∷ ys) n is w =
        let e : m ≡ n = cc in
        subst (λ k. Composing codes_a codes_b (with_insert pen (blanks k)) (with_cut cuts (record { at = at; gone = 0; from = from; put = k })) at (from + k) xs ys) e
        (let next : Cut = record { at = at; gone = 0; from = from; put = m } in
        let text : List Source = places OfSecond from m in
        let all : List Source = places OfSecond 0 (inserted_in codes_b) in
        let start : 0 + from ≡ from = omega arith in
        let part : take m (drop from all) ≡ text =
        ap (take m) (drop-places OfSecond 0 from (inserted_in codes_b) (omega (arith, w.left_second)) ∙ ap (λ k. places OfSecond k (inserted_in codes_b - from)) start)
        ∙ take-places OfSecond from m (inserted_in codes_b - from) (omega (arith, w.left_second)) in
        let here : at ≡ length (places OfFirst 0 at) = sym (length-places OfFirst 0 at) in
        let same : at + 0 ≡ at = omega arith in
        record {
          built = with_insert w.built text;
          progress = compose_insert (first_of_codes codes_a) (second_of_codes codes_b) w.built text (marked OfFirst at xs) (marked OfSecond (from + m) ys) w.progress;
          pen_is = ap (λ op. with_insert op (blanks m)) w.pen_is ∙ ap (with_insert (shape w.built)) (sym (blanks-places OfSecond from m)) ∙ sym (insert-mapped blank w.built text);
          text = ap (λ zs. assembled (with_cut cuts next) zs all) (sym (append-nil (places OfFirst 0 at)))
              ∙ assembled_cut cuts next (places OfFirst 0 at) [] all from w.within here refl
              ∙ ap (λ zs. zs ++ take m (drop from all)) w.text ∙ ap (λ zs. news w.built.image ++ zs) (part ∙ sym (news_texts text))
              ∙ sym (news_append w.built.image (map New text));
          within = subst (λ k. AreWithin 0 (with_cut cuts next) k (from + m)) same (within_cut 0 cuts next w.within);
          left_first = w.left_first;
          left_second = omega (arith, w.left_second);
        })

    -- `count` elements that the first makes

    inserted-without : (count m : ℕ) (xs : List Code) → count ≤ m → inserted_in (without count (Insert m ∷ xs)) + count ≡ m + inserted_in xs
    inserted-without count m xs within = by (m - count) (omega (arith, within))
      where
        by : (k : ℕ) → m ≡ count + k → inserted_in (without count (Insert m ∷ xs)) + count ≡ m + inserted_in xs
        by zero e = rw (eq-eqb count m (omega (arith, e))) (omega (arith, e))
        by (suc k) e = rw (ne_eqb count m (omega (arith, e))) (omega (arith, e))

    same-without : (count m : ℕ) (xs : List Code) → inserted_in (without count (Retain m ∷ xs)) ≡ inserted_in xs
    same-without count m xs = by (nat_eq count m)
      where
        by : (b : Bool) → inserted_in (if b then xs else Retain (m - count) ∷ xs) ≡ inserted_in xs
        by true = refl
        by false = refl

    same-without_delete : (count m : ℕ) (xs : List Code) → inserted_in (without count (Delete m ∷ xs)) ≡ inserted_in xs
    same-without_delete count m xs = by (nat_eq count m)
      where
        by : (b : Bool) → inserted_in (if b then xs else Delete (m - count) ∷ xs) ≡ inserted_in xs
        by true = refl
        by false = refl

    module _ (count : ℕ) (some : 0 < count) (xs : List Code) (d : Code) (ys : List Code) (in_second : count ≤ length_of d) (other : insertion_of (d ∷ ys) ≡ None) where
      pub composing_retain :
          (m : ℕ) → count ≤ m → Composing codes_a codes_b pen cuts at from (Retain m ∷ xs) (d ∷ ys)
          → Composing codes_a codes_b (composed_code pen (Retain m) (keeps d) count) cuts at from (without count (Retain m ∷ xs)) (without count (d ∷ ys))
      composing_retain m in_first w = by d in_second other w
        where
          by :
              (d : Code) → count ≤ length_of d → insertion_of (d ∷ ys) ≡ None → Composing codes_a codes_b pen cuts at from (Retain m ∷ xs) (d ∷ ys)
              → Composing codes_a codes_b (composed_code pen (Retain m) (keeps d) count) cuts at from (without count (Retain m ∷ xs)) (without count (d ∷ ys))
          by (Insert n) in_second other w = cc
          by (Retain n) in_second other w =
              record {
                built = with_retain w.built count;
                progress = rw (marked-without_keep OfFirst at count m xs, marked-without_keep OfSecond from count n ys)
                    (retain_retain (first_of_codes codes_a) (second_of_codes codes_b) w.built count (marked OfFirst at xs) (marked OfSecond from ys) m n in_first in_second w.progress);
                pen_is = ap (λ op. with_retain op count) w.pen_is ∙ sym (retain-mapped blank w.built count);
                text = w.text
                    ∙ sym (news_append w.built.image (olds w.built.base count)
                    ∙ ap (λ zs. news w.built.image ++ zs) (news_olds Source w.built.base count) ∙ append-nil (news w.built.image));
                within = w.within;
                left_first = ap (λ k. at + k) (same-without count m xs) ∙ w.left_first;
                left_second = ap (λ k. from + k) (same-without count n ys) ∙ w.left_second;
              }
          by (Delete n) in_second other w =
              record {
                built = with_delete w.built count;
                progress = rw (marked-without_keep OfFirst at count m xs, marked-without_skip OfSecond from count n ys)
                    (retain_gone (first_of_codes codes_a) (second_of_codes codes_b) w.built count (marked OfFirst at xs) (marked OfSecond from ys) m n in_first in_second w.progress);
                pen_is = ap (λ op. with_delete op count) w.pen_is;
                text = w.text;
                within = w.within;
                left_first = ap (λ k. at + k) (same-without count m xs) ∙ w.left_first;
                left_second = ap (λ k. from + k) (same-without_delete count n ys) ∙ w.left_second;
              }

    module _ (count : ℕ) (some : 0 < count) (xs : List Code) (ys : List Code) (m n : ℕ) (in_first : count ≤ m) (in_second : count ≤ n) where
      start_here : 0 + at ≡ at
      start_here = omega arith

      first_parts : places OfFirst 0 (at + count) ≡ places OfFirst 0 at ++ places OfFirst at count
      first_parts = places-add OfFirst 0 at count ∙ ap (λ k. places OfFirst 0 at ++ places OfFirst k count) start_here

      pub composing_keep :
          Composing codes_a codes_b pen cuts at from (Insert m ∷ xs) (Retain n ∷ ys)
          → Composing codes_a codes_b (with_insert pen (blanks count)) cuts (at + count) from (without count (Insert m ∷ xs)) (without count (Retain n ∷ ys))
      composing_keep w =
          let all : List Source = places OfSecond 0 (inserted_in codes_b) in
          let text : List Source = places OfFirst at count in
          let taken : take count (places OfFirst at m) ≡ text = take-places OfFirst at count m in_first in
          let part =
          insert_retain (first_of_codes codes_a) (second_of_codes codes_b) w.built count (marked OfFirst (at + m) xs) (marked OfSecond from ys) (places OfFirst at m) n
          (omega (arith, in_first, length-places OfFirst at m)) in_second w.progress in
          record {
            built = with_insert w.built text;
            progress = rw (marked-without_add OfFirst at count m xs in_first, marked-without_keep OfSecond from count n ys)
                (subst (λ t. ComposeProgress (first_of_codes codes_a) (second_of_codes codes_b) (with_insert w.built t) (skipped_made count (Add (places OfFirst at m) ∷ marked OfFirst (at + m) xs)) (skipped count (Keep n ∷ marked OfSecond from ys))) taken part);
            pen_is = ap (λ op. with_insert op (blanks count)) w.pen_is ∙ ap (with_insert (shape w.built)) (sym (blanks-places OfFirst at count)) ∙ sym (insert-mapped blank w.built text);
            text = ap (λ zs. assembled cuts zs all) first_parts
                ∙ assembled_more 0 cuts (places OfFirst 0 at) text all at from (omega (arith, length-places OfFirst 0 at)) w.within
                ∙ ap (λ zs. zs ++ text) w.text ∙ ap (λ zs. news w.built.image ++ zs) (sym (news_texts text)) ∙ sym (news_append w.built.image (map New text));
            within = within_more 0 cuts at from (at + count) from (omega arith) (omega arith) w.within;
            left_first = omega (arith, w.left_first, inserted-without count m xs in_first);
            left_second = ap (λ k. from + k) (same-without count n ys) ∙ w.left_second;
          }

      pub composing_cut :
          Composing codes_a codes_b pen cuts at from (Insert m ∷ xs) (Delete n ∷ ys)
          → Composing codes_a codes_b pen (with_cut cuts (record { at = at; gone = count; from = from; put = 0 })) (at + count) from (without count (Insert m ∷ xs)) (without count (Delete n ∷ ys))
      composing_cut w =
          let next : Cut = record { at = at; gone = count; from = from; put = 0 } in
          let all : List Source = places OfSecond 0 (inserted_in codes_b) in
          let same : from + 0 ≡ from = omega arith in
          let part =
          insert_gone (first_of_codes codes_a) (second_of_codes codes_b) w.built count (marked OfFirst (at + m) xs) (marked OfSecond from ys) (places OfFirst at m) n
          (omega (arith, in_first, length-places OfFirst at m)) in_second w.progress in
          record {
            built = w.built;
            progress = rw (marked-without_add OfFirst at count m xs in_first, marked-without_skip OfSecond from count n ys) part;
            pen_is = w.pen_is;
            text = ap (λ zs. assembled (with_cut cuts next) zs all) first_parts
                ∙ assembled_cut cuts next (places OfFirst 0 at) (places OfFirst at count) all from w.within (sym (length-places OfFirst 0 at)) (sym (length-places OfFirst at count))
                ∙ append-nil (assembled cuts (places OfFirst 0 at) all) ∙ w.text;
            within = subst (λ k. AreWithin 0 (with_cut cuts next) (at + count) k) same (within_cut 0 cuts next w.within);
            left_first = omega (arith, w.left_first, inserted-without count m xs in_first);
            left_second = ap (λ k. from + k) (same-without_delete count n ys) ∙ w.left_second;
          }

-- nothing that is written is too long
pub composing_bounds :
    (codes_a codes_b : List Code) → (spelled codes_a).base ≤ 1000000 → length (spelled codes_b).image ≤ 1000000
    → ComposeBounds (first_of_codes codes_a) (second_of_codes codes_b)
composing_bounds codes_a codes_b base_fits target_fits =
    bounds_of (marked OfFirst 0 codes_a) (marked OfSecond 0 codes_b) (omega (arith, marked-base OfFirst 0 codes_a, base_fits))
    (omega (
      arith,
      target_fits,
      length-image_from 0 (marked OfSecond 0 codes_b),
      length-image_from 0 (runs_of codes_b),
      marked-target OfSecond 0 codes_b,
    ))

pub composing_small :
    (codes_a codes_b : List Code) (pen : Operation (Unit {0})) (cuts : List Cut) (at from : ℕ) (xs ys : List Code)
    → ComposeBounds (first_of_codes codes_a) (second_of_codes codes_b) → Composing codes_a codes_b pen cuts at from xs ys → IsTooLong pen → ⊥
composing_small codes_a codes_b pen cuts at from xs ys bounds w long =
    let long_built : 1000000 < max w.built.base (length (map (mapped_item blank) w.built.image)) = subst (λ op. IsTooLong op) w.pen_is long in
    small (first_of_codes codes_a) (second_of_codes codes_b) w.built (marked OfFirst at xs) (marked OfSecond from ys) bounds w.progress
    (omega (arith, long_built, length-map w.built.image (mapped_item {A = Source} blank)))

-- the end

placed_shape : (mark : ℕ → Source) (codes : List Code) → shape (operation_of (marked mark 0 codes)) ≡ spelled codes
placed_shape mark codes =
    ap shape (sym (placed-spelled mark codes)) ∙ (filled_fits (spelled codes) (places mark 0 (size (spelled codes))) (length-places mark 0 (size (spelled codes)))).0

module _ (codes_a codes_b : List Code) (pen : Operation (Unit {0})) (cuts : List Cut) (at from : ℕ) (ys : List Code) where
  pub composing_end :
      insertion_of ys ≡ None → Composing codes_a codes_b pen cuts at from [] ys
      → (pen ≡ compose (spelled codes_a) (spelled codes_b)) × GiveText cuts (spelled codes_a) (spelled codes_b)
  composing_end other w =
      let a : Operation Source = first_of_codes codes_a in
      let b : Operation Source = second_of_codes codes_b in
      let done : w.built ≡ compose a b =
      none_made a b w.built (marked OfSecond from ys) (marked-otherwise OfSecond from ys other) w.progress in
      let first_size : at ≡ size (spelled codes_a) = omega (arith, w.left_first, size-spelled 0 codes_a) in
      let second_size : inserted_in codes_b ≡ size (spelled codes_b) = sym (size-spelled 0 codes_b) in (
        w.pen_is ∙ ap shape done ∙ compose-mapped blank a b
            ∙ ap (λ op. compose op (shape b)) (placed_shape OfFirst codes_a) ∙ ap (compose (spelled codes_a)) (placed_shape OfSecond codes_b),
        record {
          within = within_more 0 cuts at from (size (spelled codes_a)) (size (spelled codes_b)) (omega (arith, first_size)) (omega (arith, second_size, w.left_second)) w.within;
          text = ap (λ n. assembled cuts (places OfFirst 0 n) (places OfSecond 0 (size (spelled codes_b)))) (sym first_size)
              ∙ ap (λ n. assembled cuts (places OfFirst 0 at) (places OfSecond 0 n)) (sym second_size)
              ∙ w.text ∙ ap (λ (op : Operation Source). news op.image) done
              ∙ ap (λ op. news (compose op b).image) (sym (placed-spelled OfFirst codes_a))
              ∙ ap (λ op. news (compose (placed OfFirst (spelled codes_a)) op).image) (sym (placed-spelled OfSecond codes_b));
        },
      )

  -- where nothing is left of the second, nothing is left of the first
  pub composing_none : (c : Code) (xs : List Code) → deletion_of (c ∷ xs) ≡ None → Composing codes_a codes_b pen cuts at from (c ∷ xs) [] → ⊥
  composing_none (Retain m) xs other w = omega (arith, w.progress.covers.0, w.progress.first_normal.0)
  composing_none (Insert m) xs other w = omega (arith, w.progress.covers.0, w.progress.first_normal.0)
  composing_none (Delete m) xs other w = cc
