-- Two readers' knowledge joined, and the list that both make.
use Rattle.std.proofs.Common.{◌≡◌, ℕ, ◌<◌, ◌≤◌, List, [], ◌∷◌, sym, ap, ◌∙◌, subst, arith, inl, inr}
use Rattle.std.proofs.lemmas.Bool.{cases_eq}
use Rattle.std.specs.Prelude.{◌⊎◌, slice_get, Option, Some, None}
use Rattle.std.specs.List.{filter_map, cons_option}
use Rattle.ot_model.specs.Operation.{Item, Old, New, Operation, apply, news, first_after, second_after}
use Rattle.ot_operation.specs.Operation.{value_in}
use Rattle.ot_operation.specs.Operation as text
use Rattle.ot_isa.specs.declared.elements.Tag.{Tag}
use Rattle.ot_isa.specs.declared.elements.Tagged.{Tagged}
use Rattle.ot_model.specs.Sound.{Fits, times}
use Rattle.ot_model.proofs.Algebra.{AlgebraLaws}
use Rattle.ot_model.proofs.Vertices.{Has}
use Rattle.ot_model.specs.Trace.{EventView}
use Rattle.ot_model.proofs.Traces.{Inserts}
use Rattle.ot_model.proofs.Knowledge.{IsInserted, IsDeleted, Holds, IsMerge, Joins, KeepsBoth}
use Rattle.ot_model.proofs.Keeping.{from}

pub same_origin : (a b : Tag) → a.origin ≡ b.origin → a.serial ≡ b.serial → a ≡ b
same_origin a b e f = ap (λ (o : ℕ). record { origin = o; serial = a.serial }) e ∙ ap (λ (k : ℕ). record { origin = b.origin; serial = k }) f

pub same_or : (a b : Tag) → (a ≡ b) ⊎ (a ≡ b → ⊥)
same_or a b = elim (cases_eq a.origin b.origin) [
  | inl origin ↦ elim (cases_eq a.serial b.serial) [ inl serial ↦ inl (same_origin a b origin serial) | inr other ↦ inr (λ e. other (ap (λ (t : Tag). t.serial) e)) ]
  | inr other ↦ inr (λ e. other (ap (λ (t : Tag). t.origin) e))
]

pub has_or : (t : Tag) (w : List Tagged) → Has t w ⊎ (Has t w → ⊥)
has_or t [] = inr (λ h. h)
has_or t (x ∷ w) = elim (same_or x.tag t) [
  | inl is ↦ inl (inl is)
  | inr not_here ↦ elim (has_or t w) [ inl there ↦ inl (inr there) | inr none ↦ inr (λ h. elim h [ inl here ↦ not_here here | inr there ↦ none there ]) ]
]

Has_behind : (t : Tag) (o : Option Tagged) (xs : List Tagged) → Has t xs → Has t (cons_option o xs)
Has_behind t None xs h = h
Has_behind t (Some x) xs h = inr h

has_news_items : (items : List (Item Tagged)) (d : List Tagged) (t : Tag) → Has t (text.news items) → Has t (filter_map (value_in d) items)
has_news_items [] d t h = h
has_news_items (Old i ∷ items) d t h = Has_behind t (slice_get d i) (filter_map (value_in d) items) (has_news_items items d t h)
has_news_items (New x ∷ items) d t (inl here) = inl here
has_news_items (New x ∷ items) d t (inr there) = inr (has_news_items items d t there)

-- what is new stands in the result
pub has_news : (z : Operation Tagged) (d : List Tagged) (t : Tag) → Has t (news z) → Has t (apply z d)
unfolding apply
has_news z d t h = has_news_items z.image d t h

pub IsMerge_same : (d v : List Tagged) → IsMerge d d v v
IsMerge_same d v =
    record {
      both = λ t h k m. m;
      first = λ t h out. absurd (out h);
      second = λ t h out. h;
      from = λ t h. elim (has_or t d) [ inl old ↦ inl (old, h) | inr out ↦ inr (inr (h, out)) ];
    }

module _ (laws : AlgebraLaws) (keeps_both : KeepsBoth) where
  open laws use {first_fits, second_fits, same, first_news, second_news}

  -- transform merges
  pub merge_apply : (z e : Operation Tagged) (d : List Tagged) → Fits z d → Fits e d → ((t : Tag) → times t d ≤ 1) → ((t : Tag) → Has t d → Has t (news z) → ⊥) → ((t : Tag) → Has t d → Has t (news e) → ⊥)
      → IsMerge d (apply z d) (apply e d) (apply (first_after z e) (apply e d))
  merge_apply z e d z_fits e_fits once z_new e_new =
      let bases = z_fits.base ∙ sym e_fits.base in
      let mine = first_news z e z_fits.rising e_fits.rising bases in
      let theirs = second_news z e z_fits.rising e_fits.rising bases in
      let one = same z e d z_fits e_fits in
      let w = apply (first_after z e) (apply e d) in
      let left : (t : Tag) → Has t w → Has t (apply e d) ⊎ Has t (news z) = λ t h. elim (from (first_after z e) (apply e d) t (first_fits z e d z_fits e_fits) h) [ inl old ↦ inl old | inr new ↦ inr (rw mine at new) ] in
      let right : (t : Tag) → Has t w → Has t (apply z d) ⊎ Has t (news e) = λ t h. elim (from (second_after z e) (apply z d) t (second_fits z e d z_fits e_fits) (subst (λ (l : List Tagged). Has t l) (sym one) h)) [ inl old ↦ inl old | inr new ↦ inr (rw theirs at new) ] in
      record {
        both = λ t h k m. keeps_both z e d t z_fits e_fits (once t) h k m;
        first = λ t h out. elim (from z d t z_fits h) [ inl old ↦ absurd (out old) | inr new ↦ has_news (first_after z e) (apply e d) t (rw mine new) ];
        second = λ t h out. elim (from e d t e_fits h) [ inl old ↦ absurd (out old) | inr new ↦ subst (λ (l : List Tagged). Has t l) one (has_news (second_after z e) (apply z d) t (rw theirs new)) ];
        from = λ t h. elim (has_or t d) [
          | inl old ↦ elim (left t h) [
            | inl in_e ↦ elim (right t h) [ inl in_z ↦ inl (in_z, in_e) | inr new ↦ absurd (e_new t old new) ]
            | inr new ↦ absurd (z_new t old new)
          ]
          | inr out ↦ elim (left t h) [ inl in_e ↦ inr (inr (in_e, out)) | inr new ↦ inr (inl (has_news z d t new, out)) ]
        ];
      }

module _ (start : List Tag) (trace : List EventView) where
  pub inserted_more : (f g : ℕ → ℕ) (t : Tag) → ((q : ℕ) → f q ≤ g q) → IsInserted start trace f t → IsInserted start trace g t
  inserted_more f g t le (inl first) = inl first
  inserted_more f g t le (inr (r, k, below, by)) = let more = le r in inr (r, k, omega arith, by)

  pub deleted_more : (f g : ℕ → ℕ) (t : Tag) → ((q : ℕ) → f q ≤ g q) → IsDeleted trace f t → IsDeleted trace g t
  deleted_more f g t le (r, k, below, by) = let more = le r in (r, k, omega arith, by)

  -- the same knowledge under another name
  pub Holds_as : (f g : ℕ → ℕ) (w : List Tagged) → ((q : ℕ) → f q ≡ g q) → Holds start trace f w → Holds start trace g w
  Holds_as f g w e holds =
      let up : (q : ℕ) → f q ≤ g q = λ q. let s = e q in omega arith in
      let down : (q : ℕ) → g q ≤ f q = λ q. let s = e q in omega arith in
      record {
        inserted = λ t h. inserted_more f g t up (holds.inserted t h);
        kept = λ t h goes. holds.kept t h (deleted_more g f t down goes);
        here = λ t h stays. holds.here t (inserted_more g f t down h) (λ goes. stays (deleted_more f g t up goes));
      }

  module _ (f g h u : ℕ → ℕ) (joins : Joins f g h u) (origin : (r k : ℕ) (t : Tag) → k < u r → Inserts trace r k t → t.origin ≡ r) where
    f_g : (q : ℕ) → f q ≤ g q
    f_g q = elim (joins q) [ inl left ↦ let e = left.0 in omega arith | inr right ↦ right.2 ]

    f_h : (q : ℕ) → f q ≤ h q
    f_h q = elim (joins q) [ inl left ↦ left.2 | inr right ↦ let e = right.0 in omega arith ]

    g_u : (q : ℕ) → g q ≤ u q
    g_u q = elim (joins q) [ inl left ↦ let e = left.0 in let k = left.1 in let le = left.2 in omega arith | inr right ↦ let e = right.1 in omega arith ]

    h_u : (q : ℕ) → h q ≤ u q
    h_u q = elim (joins q) [ inl left ↦ let e = left.1 in omega arith | inr right ↦ let e = right.0 in let k = right.1 in let le = right.2 in omega arith ]

    split : (k q : ℕ) → k < u q → (k < g q) ⊎ (k < h q)
    split k q below = elim (joins q) [ inl left ↦ let e = left.1 in inr (omega arith) | inr right ↦ let e = right.1 in inl (omega arith) ]

    split_inserted : (t : Tag) → IsInserted start trace u t → IsInserted start trace g t ⊎ IsInserted start trace h t
    split_inserted t (inl first) = inl (inl first)
    split_inserted t (inr (r, k, below, by)) = elim (split k r below) [ inl left ↦ inl (inr (r, k, left, by)) | inr right ↦ inr (inr (r, k, right, by)) ]

    split_deleted : (t : Tag) → IsDeleted trace u t → IsDeleted trace g t ⊎ IsDeleted trace h t
    split_deleted t (r, k, below, by) = elim (split k r below) [ inl left ↦ inl (r, k, left, by) | inr right ↦ inr (r, k, right, by) ]

    -- what both insert, is older than either
    common : (t : Tag) → IsInserted start trace g t → IsInserted start trace h t → IsInserted start trace f t
    common t (inl first) other = inl first
    common t (inr mine) (inl first) = inl first
    common t (inr (r, k, below, by)) (inr (r', k', below', by')) =
        let up = g_u r in
        let up' = h_u r' in
        let same : r' ≡ r = sym (origin r' k' t (omega arith) by') ∙ origin r k t (omega arith) by in
        elim (joins r) [
          | inl left ↦ let e = left.0 in inr (r, k, omega arith, by)
          | inr right ↦
              let low : k' < h r = subst (λ (q : ℕ). k' < h q) same below' in
              let e = right.0 in
              inr (r, k', omega arith, subst (λ (q : ℕ). Inserts trace q k' t) same by')
        ]

    -- the list that both make holds what both know
    pub square : (d v w x : List Tagged) → ((t : Tag) → IsDeleted trace g t → IsInserted start trace g t) → ((t : Tag) → IsDeleted trace h t → IsInserted start trace h t)
        → Holds start trace f d → Holds start trace g v → Holds start trace h w → IsMerge d v w x → Holds start trace u x
    square d v w x g_causal h_causal base left right merge =
        let older : (t : Tag) → IsInserted start trace f t → (IsDeleted trace f t → ⊥) → (Has t d → ⊥) → ⊥ = λ t m stays out. out (base.here t m stays) in
        record {
          inserted = λ t m. elim (merge.from t m) [
            | inl both ↦ inserted_more g u t g_u (left.inserted t both.0)
            | inr (inl one) ↦ inserted_more g u t g_u (left.inserted t one.0)
            | inr (inr two) ↦ inserted_more h u t h_u (right.inserted t two.0)
          ];
          kept = λ t m goes. elim (merge.from t m) [
            | inl both ↦ elim (split_deleted t goes) [ inl by ↦ left.kept t both.0 by | inr by ↦ right.kept t both.1 by ]
            | inr (inl one) ↦ elim (split_deleted t goes) [
              | inl by ↦ left.kept t one.0 by
              | inr by ↦ older t (common t (left.inserted t one.0) (h_causal t by)) (λ old. left.kept t one.0 (deleted_more f g t f_g old)) one.1
            ]
            | inr (inr two) ↦ elim (split_deleted t goes) [
              | inl by ↦ older t (common t (g_causal t by) (right.inserted t two.0)) (λ old. right.kept t two.0 (deleted_more f h t f_h old)) two.1
              | inr by ↦ right.kept t two.0 by
            ]
          ];
          here = λ t known stays.
              let not_g : IsDeleted trace g t → ⊥ = λ by. stays (deleted_more g u t g_u by) in
              let not_h : IsDeleted trace h t → ⊥ = λ by. stays (deleted_more h u t h_u by) in
              elim (has_or t d) [
                | inl old ↦
                    let first = base.inserted t old in
                    merge.both t old (left.here t (inserted_more f g t f_g first) not_g) (right.here t (inserted_more f h t f_h first) not_h)
                | inr out ↦ elim (split_inserted t known) [
                  | inl by ↦ merge.first t (left.here t by not_g) out
                  | inr by ↦ merge.second t (right.here t by not_h) out
                ]
              ];
        }
