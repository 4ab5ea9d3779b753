-- Lists of codes, gone through one by one: two that are compared, and one that is copied.
use Rattle.std.proofs.Common.{◌≡◌, ◌↔◌, IsTrue, Bool, true, false, not, is_some, ◌+◌, ◌≤◌, List, [], ◌∷◌, ◌++◌, length, max, Some, None, refl, sym, ap, subst, ◌∙◌, arith, append_assoc, append-nil, length-append}
use Rattle.ot_operation.specs.Operation.{Operation, IsTooLong}
use Rattle.ot_operation.specs.Run.{Run, Add, base_of, image_from, operation_of, IsNormal}
use Rattle.ot_operation.proofs.Normal.{normal_unique}
use Rattle.ot_operation.proofs.RunLemmas.{base_of-append, image_from-append, one_more_keep, one_more_add, one_more_drop}
use Rattle.ot_operation.specs.Steps.{appended}
use Rattle.ot_codes.specs.declared.code.Code.{Code}
use Rattle.ot_codes.specs.declared.code.Code.TheVariants.{Retain, Insert, Delete}
use Rattle.ot_codes.specs.Codes.{blanks, run_of, runs_of, spelled, first_of, others_of}
use Rattle.ot_codes.proofs.Put.{length-blanks}
use Rattle.ot_codes.proofs.Read.{none_left}

pub first_is : (codes : List Code) (code : Code) → first_of codes ≡ Some code → codes ≡ code ∷ others_of codes
first_is [] code is = cc
first_is (c ∷ codes) code is = let e : c ≡ code = cc in ap (λ k. k ∷ codes) e

-- codes that spell one shape are equal

code_of : (c d : Code) → run_of c ≡ run_of d → c ≡ d
code_of (Retain m) (Retain n) is = let e : m ≡ n = cc in ap Retain e
code_of (Retain m) (Insert n) is = cc
code_of (Retain m) (Delete n) is = cc
code_of (Insert m) (Retain n) is = cc
code_of (Insert m) (Insert n) is =
    let texts : blanks m ≡ blanks n = cc in
    let e : m ≡ n = sym (length-blanks m) ∙ ap length texts ∙ length-blanks n in ap Insert e
code_of (Insert m) (Delete n) is = cc
code_of (Delete m) (Retain n) is = cc
code_of (Delete m) (Insert n) is = cc
code_of (Delete m) (Delete n) is = let e : m ≡ n = cc in ap Delete e

runs_apart : (cs ds : List Code) → runs_of cs ≡ runs_of ds → cs ≡ ds
runs_apart [] [] is = refl
runs_apart [] (d ∷ ds) is = cc
runs_apart (c ∷ cs) [] is = cc
runs_apart (c ∷ cs) (d ∷ ds) is =
    let first : run_of c ≡ run_of d = cc in
    let rest : runs_of cs ≡ runs_of ds = cc in
    ap (λ k. k ∷ cs) (code_of c d first) ∙ ap (λ ks. d ∷ ks) (runs_apart cs ds rest)

pub same_spelled : (cs ds : List Code) → IsNormal (runs_of cs) → IsNormal (runs_of ds) → spelled cs ≡ spelled ds → cs ≡ ds
same_spelled cs ds first second is = runs_apart cs ds (normal_unique (runs_of cs) (runs_of ds) first second is)

-- all codes are the same exactly where those that are left are
pub record AreAsFar (cs ds xs ys : List Code) : Type 0 where
  pub to : cs ≡ ds → xs ≡ ys
  pub back : xs ≡ ys → cs ≡ ds

pub begin_same : (cs ds : List Code) → AreAsFar cs ds cs ds
begin_same cs ds = record { to = λ e. e; back = λ e. e }

-- a copy: `pen` is written, and `left` is to come

pub record IsCopied (codes left : List Code) (pen : Operation (Unit {0})) : Type 0 where
  pub front : List (Run (Unit {0}))
  pub pen_is : pen ≡ operation_of front
  pub all : runs_of codes ≡ front ++ runs_of left

one_more : (front : List (Run (Unit {0}))) (code : Code) → operation_of (front ++ run_of code ∷ []) ≡ appended (operation_of front) (run_of code)
one_more front (Retain n) = one_more_keep front n
one_more front (Insert n) = one_more_add front (blanks n) [] (λ from. refl) ∙ ap (λ rs. appended (operation_of rs) (Add (blanks n))) (append-nil front)
one_more front (Delete n) = one_more_drop front n

module _ (codes left : List Code) (pen : Operation (Unit {0})) (code : Code) (first : first_of left ≡ Some code) (w : IsCopied codes left pen) where
  pub next_copy : (next : List Code) (made : Operation (Unit {0})) → next ≡ others_of left → made ≡ appended pen (run_of code) → IsCopied codes next made
  next_copy next made next_is made_is =
      record {
        front = w.front ++ run_of code ∷ [];
        pen_is = made_is ∙ ap (λ op. appended op (run_of code)) w.pen_is ∙ sym (one_more w.front code);
        all = w.all ∙ ap (λ cs. w.front ++ runs_of cs) (first_is left code first ∙ ap (λ cs. code ∷ cs) (sym next_is))
            ∙ sym (append_assoc w.front (run_of code ∷ []) (runs_of next));
      }

  pub next_short : (op : Operation (Unit {0})) → spelled codes ≡ op → max op.base (length op.image) ≤ 1000000 → IsTooLong (appended pen (run_of code)) → ⊥
  next_short op is fits long =
      let done : IsCopied codes (others_of left) (appended pen (run_of code)) = next_copy (others_of left) (appended pen (run_of code)) refl refl in
      let base : base_of (runs_of codes) ≡ base_of done.front + base_of (runs_of (others_of left)) = ap base_of done.all ∙ base_of-append done.front (runs_of (others_of left)) in
      let image : length (image_from 0 (runs_of codes)) ≡ length (image_from 0 done.front) + length (image_from (0 + base_of done.front) (runs_of (others_of left))) =
      ap (λ rs. length (image_from 0 rs)) done.all ∙ ap length (image_from-append 0 done.front (runs_of (others_of left)))
      ∙ length-append (image_from 0 done.front) (image_from (0 + base_of done.front) (runs_of (others_of left))) in
      let whole_base : base_of (runs_of codes) ≡ op.base = ap (λ (o : Operation (Unit {0})). o.base) is in
      let whole_image : length (image_from 0 (runs_of codes)) ≡ length op.image = ap (λ (o : Operation (Unit {0})). length o.image) is in
      let l = subst (λ (o : Operation (Unit {0})). IsTooLong o) done.pen_is long in
      omega (arith, l, base, image, whole_base, whole_image, fits)

-- what is decided of the codes is decided of the shapes

module _ (cs ds : List Code) (a b : Operation (Unit {0})) (first : IsNormal (runs_of cs)) (second : IsNormal (runs_of ds)) (is_a : spelled cs ≡ a) (is_b : spelled ds ≡ b) where
  pub decided : {P : Type 0} → (P → cs ≡ ds) → (cs ≡ ds → P) → P ↔ (a ≡ b)
  decided to back = (λ p. sym is_a ∙ ap spelled (to p) ∙ is_b, λ e. back (same_spelled cs ds first second (is_a ∙ e ∙ sym is_b)))

  module _ (xs ys : List Code) (w : AreAsFar cs ds xs ys) where
    pub end_same : (answer : Bool) → is_some (first_of ys) ≡ not answer → first_of xs ≡ None → IsTrue answer ↔ (a ≡ b)
    end_same answer is none = by answer ys is w
      where
        by : (answer : Bool) (ys : List Code) → is_some (first_of ys) ≡ not answer → AreAsFar cs ds xs ys → IsTrue answer ↔ (a ≡ b)
        by true [] is w = decided (λ _. w.back (none_left xs none)) (λ _. refl)
        by false [] is w = cc
        by true (y ∷ ys) is w = cc
        by false (y ∷ ys) is w = decided (λ t. absurd (cc t)) (λ e. absurd (cc (none_left xs none, w.to e)))

    pub end_apart : (c : Code) → first_of xs ≡ Some c → first_of ys ≡ None → IsTrue false ↔ (a ≡ b)
    end_apart c is none = decided (λ t. absurd (cc t)) (λ e. absurd (cc (ap first_of (w.to e), is, none)))

    pub other_codes :
        (c d : Code) (answer : Bool) → first_of xs ≡ Some c → first_of ys ≡ Some d → IsTrue answer ↔ (c ≡ d) → answer ≡ false → IsTrue false ↔ (a ≡ b)
    other_codes c d answer c_is d_is same is =
        decided (λ t. absurd (cc t))
        (λ e.
        let one : c ≡ d = cc (ap first_of (w.to e), c_is, d_is) in
        absurd (cc (same.1 one, is)))
