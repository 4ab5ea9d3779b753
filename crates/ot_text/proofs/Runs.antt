-- Codes with a text, as runs.
use Rattle.std.proofs.Common.{◌≡◌, ℕ, zero, suc, ◌+◌, ◌≤◌, List, [], ◌∷◌, ◌++◌, length, map, take, drop, Some, refl, sym, ap, ◌∙◌, arith, length-take, length-drop, append_assoc}
use Rattle.std.proofs.lemmas.List.{map-append}
use Rattle.ot_operation.specs.Operation.{Item, Old, New, Operation, olds, news}
use Rattle.ot_operation.specs.Run.{Run, Keep, Add, Skip, base_of, image_from, operation_of, MayLead, IsNormal, normal_runs}
use Rattle.ot_operation.proofs.Normal.{runs_are}
use Rattle.ot_operation.proofs.RunLemmas.{length-news-append, length-news-olds, length-news-news}
use Rattle.ot_codes.specs.declared.code.Code.{Code}
use Rattle.ot_codes.specs.declared.code.Code.TheVariants.{Retain, Insert, Delete}
use Rattle.ot_codes.specs.Codes.{blanks, runs_of, spelled, first_of, others_of}
use Rattle.ot_codes.specs.Shape.{filled_image, filled}
use Rattle.ot_codes.proofs.Put.{length-blanks}
use Rattle.ot_codes.proofs.Mapped.{same_parts}
use Rattle.ot_text.specs.declared.components.Component.{Component}
use Rattle.ot_text.specs.Components.{runs_with, insertions, run_of_list}

-- how many elements they insert
pub insertions_are : (i : ℕ) (codes : List Code) → length (news (image_from i (runs_of codes))) ≡ insertions codes
insertions_are i [] = refl
insertions_are i (Retain n ∷ codes) =
    omega (arith, insertions_are (i + n) codes, length-news-append (olds {A = Unit {0}} i n) (image_from (i + n) (runs_of codes)), length-news-olds (Unit {0}) i n)
insertions_are i (Insert n ∷ codes) =
    omega (arith, insertions_are i codes, length-news-append (map New (blanks n)) (image_from i (runs_of codes)), length-news-news (blanks n), length-blanks n)
insertions_are i (Delete n ∷ codes) = insertions_are (i + n) codes

-- they spell the shape, filled with the text

fill_olds : {A : Type 0} (i n : ℕ) (image : List (Item (Unit {0}))) (text : List A) → filled_image (olds i n ++ image) text ≡ olds i n ++ filled_image image text
fill_olds i zero image text = refl
fill_olds i (suc n) image text = ap (λ rest. Old i ∷ rest) (fill_olds (suc i) n image text)

fill_news :
    {A : Type 0} (n : ℕ) (image : List (Item (Unit {0}))) (text : List A) → n ≤ length text
    → filled_image (map New (blanks n) ++ image) text ≡ map New (take n text) ++ filled_image image (drop n text)
fill_news zero image text within = refl
fill_news (suc n) image [] within = absurd (omega (arith, within))
fill_news (suc n) image (x ∷ text) within = ap (λ rest. New x ∷ rest) (fill_news n image text (omega (arith, within)))

image_with :
    {A : Type 0} (i : ℕ) (codes : List Code) (text : List A) → insertions codes ≤ length text
    → image_from i (runs_with codes text) ≡ filled_image (image_from i (runs_of codes)) text
image_with i [] text within = refl
image_with i (Retain n ∷ codes) text within =
    ap (λ rest. olds i n ++ rest) (image_with (i + n) codes text within) ∙ sym (fill_olds i n (image_from (i + n) (runs_of codes)) text)
image_with i (Insert n ∷ codes) text within =
    ap (λ rest. map New (take n text) ++ rest) (image_with i codes (drop n text) (omega (arith, within, length-drop n text)))
    ∙ sym (fill_news n (image_from i (runs_of codes)) text (omega (arith, within)))
image_with i (Delete n ∷ codes) text within = image_with (i + n) codes text within

base_with : {A : Type 0} (codes : List Code) (text : List A) → base_of (runs_with codes text) ≡ base_of (runs_of codes)
base_with [] text = refl
base_with (Retain n ∷ codes) text = ap (λ k. n + k) (base_with codes text)
base_with (Insert n ∷ codes) text = base_with codes (drop n text)
base_with (Delete n ∷ codes) text = ap (λ k. n + k) (base_with codes text)

pub spelled_with : {A : Type 0} (codes : List Code) (text : List A) → length text ≡ insertions codes → operation_of (runs_with codes text) ≡ filled (spelled codes) text
spelled_with codes text long = same_parts _ _ _ _ (base_with codes text) (image_with 0 codes text (omega (arith, long)))

-- in normal form

lead_keep : {A : Type 0} (m : ℕ) (codes : List Code) (text : List A) → MayLead (Keep m) (runs_of codes) → MayLead (Keep m) (runs_with codes text)
lead_keep m [] text may = tt
lead_keep m (Retain n ∷ codes) text may = may
lead_keep m (Insert n ∷ codes) text may = tt
lead_keep m (Delete n ∷ codes) text may = tt

lead_skip : {A : Type 0} (m : ℕ) (codes : List Code) (text : List A) → MayLead (Skip m) (runs_of codes) → MayLead (Skip m) (runs_with codes text)
lead_skip m [] text may = tt
lead_skip m (Retain n ∷ codes) text may = tt
lead_skip m (Insert n ∷ codes) text may = may
lead_skip m (Delete n ∷ codes) text may = may

lead_add : {A : Type 0} (s : List (Unit {0})) (t : List A) (codes : List Code) (text : List A) → MayLead (Add s) (runs_of codes) → MayLead (Add t) (runs_with codes text)
lead_add s t [] text may = tt
lead_add s t (Retain n ∷ codes) text may = tt
lead_add s t (Insert n ∷ codes) text may = may
lead_add s t (Delete n ∷ codes) text may = tt

pub normal_with : {A : Type 0} (codes : List Code) (text : List A) → insertions codes ≤ length text → IsNormal (runs_of codes) → IsNormal (runs_with codes text)
normal_with [] text within normal = tt
normal_with (Retain n ∷ codes) text within normal = (normal.0, lead_keep n codes text normal.1, normal_with codes text within normal.2)
normal_with (Insert n ∷ codes) text within normal = (
  omega (arith, normal.0, length-blanks n, length-take n text, within),
  lead_add (blanks n) (take n text) codes (drop n text) normal.1,
  normal_with codes (drop n text) (omega (arith, within, length-drop n text)) normal.2,
)
normal_with (Delete n ∷ codes) text within normal = (normal.0, lead_skip n codes text normal.1, normal_with codes text within normal.2)

-- the first one

module _ {A : Type 0} (codes rest : List Code) (text : List A) (rest_is : rest ≡ others_of codes) (long : length text ≡ insertions codes) where
  pub first_retain : (n : ℕ) → first_of codes ≡ Some (Retain n) → (runs_with codes text ≡ Keep n ∷ runs_with rest text) × (length text ≡ insertions rest)
  first_retain n is = rw rest_is (by codes is long)
    where
      by :
          (codes : List Code) → first_of codes ≡ Some (Retain n) → length text ≡ insertions codes
          → (runs_with codes text ≡ Keep n ∷ runs_with (others_of codes) text) × (length text ≡ insertions (others_of codes))
      by [] is long = cc
      by (Retain m ∷ codes) is long = let e : m ≡ n = cc in (ap (λ k. Keep k ∷ runs_with codes text) e, long)
      by (Insert m ∷ codes) is long = cc
      by (Delete m ∷ codes) is long = cc

  pub first_delete : (n : ℕ) → first_of codes ≡ Some (Delete n) → (runs_with codes text ≡ Skip n ∷ runs_with rest text) × (length text ≡ insertions rest)
  first_delete n is = rw rest_is (by codes is long)
    where
      by :
          (codes : List Code) → first_of codes ≡ Some (Delete n) → length text ≡ insertions codes
          → (runs_with codes text ≡ Skip n ∷ runs_with (others_of codes) text) × (length text ≡ insertions (others_of codes))
      by [] is long = cc
      by (Retain m ∷ codes) is long = cc
      by (Insert m ∷ codes) is long = cc
      by (Delete m ∷ codes) is long = let e : m ≡ n = cc in (ap (λ k. Skip k ∷ runs_with codes text) e, long)

  pub first_within : (n : ℕ) → first_of codes ≡ Some (Insert n) → n ≤ length text
  first_within n is = by codes is long
    where
      by : (codes : List Code) → first_of codes ≡ Some (Insert n) → length text ≡ insertions codes → n ≤ length text
      by [] is long = cc
      by (Retain m ∷ codes) is long = cc
      by (Insert m ∷ codes) is long = let e : m ≡ n = cc in omega (arith, long, e)
      by (Delete m ∷ codes) is long = cc

  pub first_insert :
      (n : ℕ) (front back : List A) → first_of codes ≡ Some (Insert n) → front ≡ take n text → back ≡ drop n text
      → (runs_with codes text ≡ Add front ∷ runs_with rest back) × (length back ≡ insertions rest)
  first_insert n front back is front_is back_is = rw (rest_is, front_is, back_is) (by codes is long)
    where
      by :
          (codes : List Code) → first_of codes ≡ Some (Insert n) → length text ≡ insertions codes
          → (runs_with codes text ≡ Add (take n text) ∷ runs_with (others_of codes) (drop n text)) × (length (drop n text) ≡ insertions (others_of codes))
      by [] is long = cc
      by (Retain m ∷ codes) is long = cc
      by (Insert m ∷ codes) is long =
          let e : m ≡ n = cc in
          (ap (λ k. Add (take k text) ∷ runs_with codes (drop k text)) e, omega (arith, long, e, length-drop n text))
      by (Delete m ∷ codes) is long = cc

-- all that codes and a text give of an operation

module _ {A : Type 0} (codes : Operation (Unit {0})) (cs : List Code) (text slice : List A) (op : Operation A) (spells : spelled cs ≡ codes) (same : slice ≡ text)
    (long : length text ≡ length (news codes.image)) where
  pub enough : length slice ≡ insertions cs
  enough = ap length same ∙ long ∙ ap (λ (o : Operation (Unit {0})). length (news o.image)) (sym spells) ∙ insertions_are 0 cs

  module _ (is : filled codes text ≡ op) where
    pub all_spell : operation_of (runs_with cs slice) ≡ op
    all_spell = spelled_with cs slice enough ∙ ap (λ o. filled o slice) spells ∙ ap (filled codes) same ∙ is

    module _ (normal : IsNormal (runs_of cs)) where
      pub all_normal : IsNormal (runs_with cs slice)
      all_normal = normal_with cs slice (omega (arith, enough)) normal

      pub all_form : runs_with cs slice ≡ normal_runs op
      all_form = runs_are (runs_with cs slice) op all_normal all_spell

-- components in a list of their own
pub listed :
    {A : Type 0} (list made : List (Component A)) (copy : Component A) (run : Run A) (all rest whole : List (Run A))
    → made ≡ list ++ copy ∷ [] → run_of_list copy ≡ run → all ≡ run ∷ rest → map run_of_list list ++ all ≡ whole → map run_of_list made ++ rest ≡ whole
listed list made copy run all rest whole made_is copy_is all_is w =
    ap (λ m. map run_of_list m ++ rest) made_is ∙ ap (λ t. t ++ rest) (map-append run_of_list list (copy ∷ []))
    ∙ append_assoc (map run_of_list list) (run_of_list copy ∷ []) rest
    ∙ ap (λ r. map run_of_list list ++ (r ∷ rest)) copy_is ∙ ap (λ rs. map run_of_list list ++ rs) (sym all_is) ∙ w
