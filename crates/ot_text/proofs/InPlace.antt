-- Codes that are carried out where the list lies.
use Rattle.std.proofs.Common.{◌≡◌, ℕ, zero, suc, Option, Bool, true, not, ◌+◌, ◌-◌, ◌<◌, ◌≤◌, List, [], ◌∷◌, ◌++◌, length, take, drop, set, get_or, refl, sym, ap, ◌∙◌, arith, append_assoc, append-nil, length-append, get_or-set_same, take-add, subst}
use Rattle.std.specs.Prelude.{unwrap_or, is_some}
use Rattle.std.proofs.lemmas.Bool.{eq-eqb, ne_eqb}
use Rattle.std.proofs.lemmas.List.{take_all, take_more, length-drop, length-take-le, drop-drop, take-set-le, length-set, set-set, set-get_or, take-append-drop}
use Rattle.std.proofs.Math.Seq.{take-append-add, drop-append-add, take-append_seam, drop-append_seam}
use Rattle.ot_operation.specs.Operation.{Operation, news, apply}
use Rattle.ot_operation.specs.Run.{Run, Keep, Skip, base_of, operation_of}
use Rattle.ot_codes.specs.declared.code.Code.{Code}
use Rattle.ot_codes.specs.declared.code.Code.TheVariants.{Retain, Insert, Delete}
use Rattle.ot_codes.specs.Codes.{runs_of, spelled, length_of, retain_of, insertion_of, deletion_of, first_of, past, without}
use Rattle.ot_codes.specs.Shape.{shape, filled}
use Rattle.ot_codes.proofs.Filled.{filled-shape}
use Rattle.ot_list.specs.Leaves.{concatenated, with_run, replaced}
use Rattle.ot_list.proofs.Leaved.{concatenated-append}
use Rattle.ot_list.proofs.Replacing.{concatenated-replaced, length-with_run}
use Rattle.ot_text.specs.Components.{runs_with, insertions}
use Rattle.ot_text.specs.InPlace.{made_of, changed_behind, brought_back, HasPassed}
use Rattle.ot_text.specs.Places.{start_of, IsBehind}
use Rattle.ot_text.proofs.Changed.{apply-none, apply-keep, apply-add, apply-skip}
use Rattle.ot_text.proofs.Parts.{length-news-shape}
use Rattle.ot_text.proofs.Runs.{insertions_are, spelled_with}

-- a code gone past
past_code : (code : Code) (codes : List Code) → 0 < length_of code → past (length_of code) (code ∷ codes) ≡ codes
past_code code codes some = rw (ne_eqb (length_of code) 0 (omega arith), eq-eqb (length_of code) (length_of code) refl) refl

-- a run in two parts

kept_parts :
    {A : Type 0} (runs : List (Run A)) (d : List A) (n m : ℕ)
    → apply (operation_of (Keep (n + m) ∷ runs)) d ≡ take n d ++ apply (operation_of (Keep m ∷ runs)) (drop n d)
kept_parts {A} runs d n m =
    let rest : apply (operation_of (Keep m ∷ runs)) (drop n d) ≡ take m (drop n d) ++ apply (operation_of runs) (drop (n + m) d) =
    apply-keep runs (drop n d) m ∙ ap (λ (t : List A). take m (drop n d) ++ apply (operation_of runs) t) (drop-drop m n d) in
    apply-keep runs d (n + m) ∙ ap (λ (t : List A). t ++ apply (operation_of runs) (drop (n + m) d)) (take-add n m d)
    ∙ append_assoc (take n d) (take m (drop n d)) (apply (operation_of runs) (drop (n + m) d)) ∙ ap (λ (t : List A). take n d ++ t) (sym rest)

skipped_parts :
    {A : Type 0} (runs : List (Run A)) (d : List A) (n m : ℕ) → apply (operation_of (Skip (n + m) ∷ runs)) d ≡ apply (operation_of (Skip m ∷ runs)) (drop n d)
skipped_parts {A} runs d n m =
    apply-skip runs d (n + m) ∙ ap (λ (t : List A). apply (operation_of runs) t) (sym (drop-drop m n d)) ∙ sym (apply-skip runs (drop n d) m)

-- a part of a retain, an insertion, or a part of a deletion gone past, if there is one

module _ {A : Type 0} (d text : List A) where
  pub past_retain :
      (codes rest : List Code) (n : ℕ) → n ≤ unwrap_or (retain_of codes) 0 → rest ≡ past n codes
      → (made_of codes text d ≡ take n d ++ made_of rest text (drop n d)) × (base_of (runs_of codes) ≡ n + base_of (runs_of rest)) × (insertions codes ≡ insertions rest)
  past_retain codes rest zero within is = rw is (refl, omega arith, refl)
  past_retain [] rest (suc n) within is = absurd (omega (arith, within))
  past_retain (Insert m ∷ codes) rest (suc n) within is = absurd (omega (arith, within))
  past_retain (Delete m ∷ codes) rest (suc n) within is = absurd (omega (arith, within))
  past_retain (Retain m ∷ codes) rest (suc n) within is = rw (is, ne_eqb (suc n) 0 (omega arith)) (by (m - suc n) (omega (arith, within)))
    where
      by :
          (left : ℕ) → m ≡ suc n + left
          → (made_of (Retain m ∷ codes) text d ≡ take (suc n) d ++ made_of (without (suc n) (Retain m ∷ codes)) text (drop (suc n) d))
          × (base_of (runs_of (Retain m ∷ codes)) ≡ suc n + base_of (runs_of (without (suc n) (Retain m ∷ codes))))
          × (insertions (Retain m ∷ codes) ≡ insertions (without (suc n) (Retain m ∷ codes)))
      by zero e =
          let all : m ≡ suc n = omega (arith, e) in
          rw (all, eq-eqb (suc n) (suc n) refl) (apply-keep (runs_with codes text) d (suc n), refl, refl)
      by (suc left) e =
          let more : m - suc n ≡ suc left = omega (arith, e) in
          rw (ne_eqb (suc n) m (omega (arith, e)), more, e) (kept_parts (runs_with codes text) d (suc n) (suc left), omega arith, refl)

  pub past_insertion :
      (codes rest : List Code) (n : ℕ) → n ≡ unwrap_or (insertion_of codes) 0 → rest ≡ past n codes
      → (made_of codes text d ≡ take n text ++ made_of rest (drop n text) d) × (base_of (runs_of codes) ≡ base_of (runs_of rest)) × (insertions codes ≡ n + insertions rest)
  past_insertion codes rest n is rest_is = rw (rest_is, is) (by codes)
    where
      by :
          (codes : List Code)
          → (made_of codes text d ≡ take (unwrap_or (insertion_of codes) 0) text ++ made_of (past (unwrap_or (insertion_of codes) 0) codes) (drop (unwrap_or (insertion_of codes) 0) text) d)
          × (base_of (runs_of codes) ≡ base_of (runs_of (past (unwrap_or (insertion_of codes) 0) codes)))
          × (insertions codes ≡ unwrap_or (insertion_of codes) 0 + insertions (past (unwrap_or (insertion_of codes) 0) codes))
      by [] = (refl, refl, refl)
      by (Retain n ∷ codes) = (refl, refl, omega arith)
      by (Insert zero ∷ codes) = (refl, refl, omega arith)
      by (Insert (suc n) ∷ codes) =
          rw (past_code (Insert (suc n)) codes (omega arith)) (apply-add (runs_with codes (drop (suc n) text)) d (take (suc n) text), refl, refl)
      by (Delete n ∷ codes) = (refl, refl, omega arith)

  pub past_deletion :
      (codes rest : List Code) (n : ℕ) → n ≤ unwrap_or (deletion_of codes) 0 → rest ≡ past n codes
      → (made_of codes text d ≡ made_of rest text (drop n d)) × (base_of (runs_of codes) ≡ n + base_of (runs_of rest)) × (insertions codes ≡ insertions rest)
  past_deletion codes rest zero within is = rw is (refl, omega arith, refl)
  past_deletion [] rest (suc n) within is = absurd (omega (arith, within))
  past_deletion (Retain m ∷ codes) rest (suc n) within is = absurd (omega (arith, within))
  past_deletion (Insert m ∷ codes) rest (suc n) within is = absurd (omega (arith, within))
  past_deletion (Delete m ∷ codes) rest (suc n) within is = rw (is, ne_eqb (suc n) 0 (omega arith)) (by (m - suc n) (omega (arith, within)))
    where
      by :
          (left : ℕ) → m ≡ suc n + left
          → (made_of (Delete m ∷ codes) text d ≡ made_of (without (suc n) (Delete m ∷ codes)) text (drop (suc n) d))
          × (base_of (runs_of (Delete m ∷ codes)) ≡ suc n + base_of (runs_of (without (suc n) (Delete m ∷ codes))))
          × (insertions (Delete m ∷ codes) ≡ insertions (without (suc n) (Delete m ∷ codes)))
      by zero e =
          let all : m ≡ suc n = omega (arith, e) in
          rw (all, eq-eqb (suc n) (suc n) refl) (apply-skip (runs_with codes text) d (suc n), refl, refl)
      by (suc left) e =
          let more : m - suc n ≡ suc left = omega (arith, e) in
          rw (ne_eqb (suc n) m (omega (arith, e)), more, e) (skipped_parts (runs_with codes text) d (suc n) (suc left), omega arith, refl)

-- what is left of codes

pub passed_retain :
    {A : Type 0} (codes rest : List Code) (text text_left : List A) (n : ℕ) → n ≡ unwrap_or (retain_of codes) 0 → rest ≡ past n codes → text_left ≡ text
    → HasPassed codes rest text text_left n (take n)
passed_retain codes rest text text_left n is rest_is same =
    let here = past_retain text text codes rest n (omega (arith, is)) rest_is in
    record {
      text_is = rw (same, here.2) (λ long. long);
      base_is = here.1;
      made = λ d. rw same ((past_retain d text codes rest n (omega (arith, is)) rest_is).0);
    }

pub passed_insertion :
    {A : Type 0} (codes rest : List Code) (text text_left come : List A) (n : ℕ) → n ≡ unwrap_or (insertion_of codes) 0 → rest ≡ past n codes
    → come ≡ take n text → text_left ≡ drop n text → HasPassed codes rest text text_left 0 (λ _. come)
passed_insertion codes rest text text_left come n is rest_is come_is left_is =
    let here = past_insertion text text codes rest n is rest_is in
    record {
      text_is = λ long. rw left_is (omega (arith, long, here.2, length-drop n text));
      base_is = omega (arith, here.1);
      made = λ d. rw (come_is, left_is) ((past_insertion d text codes rest n is rest_is).0);
    }

pub passed_deletion :
    {A : Type 0} (codes rest : List Code) (text text_left : List A) (n : ℕ) → n ≤ unwrap_or (deletion_of codes) 0 → rest ≡ past n codes → text_left ≡ text
    → HasPassed codes rest text text_left n (λ _. [])
passed_deletion codes rest text text_left n within rest_is same =
    let here = past_deletion text text codes rest n within rest_is in
    record {
      text_is = rw (same, here.2) (λ long. long);
      base_is = here.1;
      made = λ d. rw same ((past_deletion d text codes rest n within rest_is).0);
    }

-- an insertion, a deletion and a retain, each of which may be none
pub record IsStep {A : Type 0} (codes third : List Code) (text back come : List A) (gone kept : ℕ) : Type 0 where
  pub text_is : length text ≡ insertions codes → length back ≡ insertions third
  pub base_is : base_of (runs_of codes) ≡ gone + (kept + base_of (runs_of third))
  pub made : (d : List A) → made_of codes text d ≡ come ++ (take kept (drop gone d) ++ made_of third back (drop kept (drop gone d)))

pub step :
    {A : Type 0} {codes first second third : List Code} {text front middle back : List A} {kept : ℕ} (come : List A) (gone : ℕ)
    → HasPassed codes first text front 0 (λ _. come) → HasPassed first second front middle gone (λ _. []) → HasPassed second third middle back kept (take kept)
    → IsStep codes third text back come gone kept
step {A} come gone add skip keep = record {
  text_is = λ long. keep.text_is (skip.text_is (add.text_is long));
  base_is = let a = add.base_is in let s = skip.base_is in let k = keep.base_is in omega (arith, a, s, k);
  made = λ d. add.made d ∙ ap (λ (t : List A). come ++ t) (skip.made d ∙ keep.made (drop gone d));
}

-- an operation from a place of a list on, of which one step is carried out
module _ {A : Type 0} {codes third : List Code} {text back come : List A} {gone kept : ℕ} (old : List (List A)) (leaf offset : ℕ)
    (there : leaf < length old) (within : offset ≤ length (get_or old leaf [])) (fits : gone ≤ length (get_or old leaf []) - offset)
    (base : start_of old leaf offset + base_of (runs_of codes) ≡ length (concatenated old)) (s : IsStep codes third text back come gone kept) where
  abbrev count : ℕ
  count = start_of old leaf offset

  abbrev rest : List A
  rest = drop (count + gone) (concatenated old)

  bases : base_of (runs_of codes) ≡ gone + (kept + base_of (runs_of third))
  bases = s.base_is

  makes : made_of codes text (drop count (concatenated old)) ≡ come ++ (take kept rest ++ made_of third back (drop kept rest))
  makes = s.made (drop count (concatenated old)) ∙ rw (drop-drop gone count (concatenated old)) refl

  one_is : concatenated (replaced old leaf offset gone come) ≡ with_run (concatenated old) count gone come
  one_is = concatenated-replaced old leaf offset gone come there (omega (arith, within, fits))

  -- where no code is left
  pub changed_one : (new : List (List A)) → third ≡ [] → new ≡ replaced old leaf offset gone come → concatenated new ≡ changed_behind count codes text (concatenated old)
  changed_one new none is =
      let nothing : base_of (runs_of third) ≡ 0 = rw none refl in
      let all : take kept rest ≡ rest = take_all kept rest (omega (arith, base, bases, nothing, length-drop (count + gone) (concatenated old))) in
      let whole : made_of codes text (drop count (concatenated old)) ≡ come ++ rest = makes ∙ rw (all, none, apply-none (drop kept rest), append-nil) refl in
      let one : concatenated new ≡ with_run (concatenated old) count gone come = rw is one_is in
      one ∙ append_assoc (take count (concatenated old)) come rest ∙ ap (λ (t : List A). take count (concatenated old) ++ t) (sym whole)

  module _ (one : List (List A)) (is : one ≡ replaced old leaf offset gone come) where
    pub there_one : leaf < length one
    there_one = rw is (omega (arith, there, length-set old leaf (with_run (get_or old leaf []) offset gone come)))

    leaf_one : get_or one leaf [] ≡ with_run (get_or old leaf []) offset gone come
    leaf_one = rw is (get_or-set_same old leaf (with_run (get_or old leaf []) offset gone come) [] there)

    pub within_one : offset + length come ≤ length (get_or one leaf [])
    within_one = omega (arith, within, fits, ap length leaf_one, length-with_run (get_or old leaf []) offset gone come (omega (arith, within, fits)))

    start_one : start_of one leaf (offset + length come) ≡ count + length come
    start_one =
        let same : take leaf one ≡ take leaf old = rw is (take-set-le leaf old leaf (with_run (get_or old leaf []) offset gone come) (omega arith)) in
        rw same (omega arith)

    size_one : length (concatenated one) ≡ count + length come + kept + base_of (runs_of third)
    size_one =
        let all : concatenated one ≡ with_run (concatenated old) count gone come = rw is one_is in
        omega (arith, base, bases, ap length all, length-with_run (concatenated old) count gone come (omega (arith, base, bases)))

    pub fits_one : start_of one leaf (offset + length come) + kept ≤ length (concatenated one)
    fits_one = omega (arith, start_one, size_one)

    module _ (next at : ℕ) (place : IsBehind one next at (start_of one leaf (offset + length come) + kept)) where
      pub base_one : start_of one next at + base_of (runs_of third) ≡ length (concatenated one)
      base_one = let c = place.count_is in omega (arith, c, start_one, size_one)

      pub changed_more : (new : List (List A)) → concatenated new ≡ changed_behind (start_of one next at) third back (concatenated one) → concatenated new ≡ changed_behind count codes text (concatenated old)
      changed_more new made =
          let c = place.count_is in
          let done : List A = take count (concatenated old) ++ come in
          let size : length done ≡ count + length come = omega (arith, base, length-append (take count (concatenated old)) come, length-take-le count (concatenated old) (omega (arith, base))) in
          let behind : start_of one next at ≡ length done + kept = omega (arith, c, start_one, size) in
          let all : concatenated one ≡ done ++ rest = rw is one_is in
          let end : List A = made_of third back (drop kept rest) in
          made ∙ rw (behind, all, take-append-add done rest kept, drop-append-add done rest kept)
          (append_assoc done (take kept rest) end ∙ append_assoc (take count (concatenated old)) come (take kept rest ++ end)
          ∙ ap (λ (t : List A). take count (concatenated old) ++ t) (sym makes))

-- a leaf brought back

run_of_parts : {A : Type 0} (front run behind come : List A) → with_run (front ++ run ++ behind) (length front) (length run) come ≡ front ++ come ++ behind
run_of_parts {A} front run behind come =
    let at : take (length front) (front ++ run ++ behind) ≡ front = rw (append_assoc front run behind) (take-append_seam front (run ++ behind)) in
    let all : drop (length front + length run) (front ++ run ++ behind) ≡ behind = rw (← length-append front run) (drop-append_seam (front ++ run) behind) in
    rw (at, all) refl

pub brought_run : {A : Type 0} (leaf come saved : List A) (at gone : ℕ) → at + gone ≤ length leaf → gone ≤ length come → saved ≡ take gone (drop at leaf) → brought_back (gone - length come) saved (with_run (with_run leaf at gone come) at (length come) saved) ≡ leaf
brought_run {A} leaf come saved at gone within less is =
    let none : gone - length come ≡ 0 = omega (arith, less) in
    let front : List A = take at leaf in
    let behind : List A = drop (at + gone) leaf in
    let long : length front ≡ at = length-take-le at leaf (omega (arith, within)) in
    let parts : front ++ saved ++ behind ≡ leaf = rw (is, ← take-add at gone leaf) (take-append-drop (at + gone) leaf) in
    let back : with_run (front ++ come ++ behind) at (length come) saved ≡ front ++ saved ++ behind =
    subst (λ (n : ℕ). with_run (front ++ come ++ behind) n (length come) saved ≡ front ++ saved ++ behind) long (run_of_parts front come behind saved) in
    rw none (back ∙ parts)

-- the list with the leaf that is brought back
pub restored : {A : Type 0} (old one now : List (List A)) (leaf at gone : ℕ) (come saved : List A) → leaf < length old → now ≡ one → one ≡ replaced old leaf at gone come
    → brought_back (gone - length come) saved (with_run (with_run (get_or old leaf []) at gone come) at (length come) saved) ≡ get_or old leaf [] → set now leaf (brought_back (gone - length come) saved (with_run (get_or now leaf []) at (length come) saved)) ≡ old
restored {A} old one now leaf at gone come saved there same one_is back =
    let all : now ≡ replaced old leaf at gone come = same ∙ one_is in
    rw (all, get_or-set_same old leaf (with_run (get_or old leaf []) at gone come) [] there, back) (set-set old leaf (with_run (get_or old leaf []) at gone come) (get_or old leaf []) ∙ set-get_or old leaf [])

-- the place behind more items

module _ {A : Type 0} (leaves : List (List A)) (leaf offset count next at : ℕ) (there : leaf < length leaves) (within : offset ≤ length (get_or leaves leaf []))
    (passed : length (get_or leaves leaf []) - offset ≤ count) (order : leaf + 1 ≤ next)
    (walked : length (concatenated (take (next - (leaf + 1)) (drop (leaf + 1) leaves))) + at ≡ count - (length (get_or leaves leaf []) - offset)) where
  start_next : start_of leaves next at ≡ start_of leaves leaf offset + count
  start_next =
      let more : List (List A) = take (next - (leaf + 1)) (drop (leaf + 1) leaves) in
      let sum : (leaf + 1) + (next - (leaf + 1)) ≡ next = omega (arith, order) in
      let parts : concatenated (take next leaves) ≡ concatenated (take leaf leaves) ++ (get_or leaves leaf [] ++ []) ++ concatenated more =
      ap (λ (n : ℕ). concatenated (take n leaves)) (sym sum) ∙ ap (λ (t : List (List A)). concatenated t) (take-add (leaf + 1) (next - (leaf + 1)) leaves) ∙ concatenated-append (take (leaf + 1) leaves) more
      ∙ rw (take_more leaves leaf [] there, concatenated-append (take leaf leaves) (get_or leaves leaf [] ∷ [])) refl in
      let long : length (concatenated (take next leaves)) ≡ length (concatenated (take leaf leaves)) + length (get_or leaves leaf []) + length (concatenated more) =
      ap length parts ∙ rw (append-nil, length-append, length-append) refl in
      let on : length (concatenated more) + at ≡ count - (length (get_or leaves leaf []) - offset) = walked in
      omega (arith, long, on, within, passed)

  pub ahead_inside : next < length leaves → at < length (get_or leaves next []) → IsBehind leaves next at (start_of leaves leaf offset + count)
  ahead_inside is_there inside = record { there = is_there; within = omega (arith, inside); count_is = start_next }

  pub ahead_last :
      (size : ℕ) → length leaves ≤ next → next ≤ length leaves → size ≡ length (get_or leaves (next - 1) []) → start_of leaves leaf offset + count ≤ length (concatenated leaves)
      → IsBehind leaves (next - 1) size (start_of leaves leaf offset + count)
  ahead_last size most least size_is fits =
      let last : (next - 1) + 1 ≡ next = omega (arith, order) in
      let all : take next leaves ≡ leaves = take_all next leaves most in
      let same : take ((next - 1) + 1) leaves ≡ leaves = ap (λ (n : ℕ). take n leaves) last ∙ all in
      let parts : concatenated leaves ≡ concatenated (take (next - 1) leaves) ++ (get_or leaves (next - 1) [] ++ []) =
      ap (λ (t : List (List A)). concatenated t) (sym same ∙ take_more leaves (next - 1) [] (omega (arith, order, least))) ∙ concatenated-append (take (next - 1) leaves) (get_or leaves (next - 1) [] ∷ []) in
      let long : length (concatenated leaves) ≡ length (concatenated (take (next - 1) leaves)) + length (get_or leaves (next - 1) []) = ap length parts ∙ rw (append-nil, length-append) refl in
      record {
        there = omega (arith, order, least);
        within = omega (arith, size_is);
        count_is = omega (arith, long, size_is, fits, start_next, ap (λ (t : List (List A)). length (concatenated t)) all);
      }

pub none_left : (codes : List Code) (head : Option Code) (answer : Bool) → head ≡ first_of codes → is_some head ≡ not answer → answer ≡ true → codes ≡ []
none_left [] head answer is none ended = refl
none_left (code ∷ codes) head answer is none ended = cc

pub all_made :
    {A : Type 0} (op : Operation A) (codes : List Code) (d : List A) → spelled codes ≡ shape op
    → (length (news op.image) ≡ insertions codes) × (base_of (runs_of codes) ≡ op.base) × (made_of codes (news op.image) d ≡ apply op d)
all_made {A} op codes d spells =
    let long : length (news op.image) ≡ insertions codes = sym (length-news-shape op) ∙ ap (λ (o : Operation (Unit {0})). length (news o.image)) (sym spells) ∙ insertions_are 0 codes in (
      long,
      ap (λ (o : Operation (Unit {0})). o.base) spells,
      ap (λ (o : Operation A). apply o d) (spelled_with codes (news op.image) long ∙ ap (λ o. filled o (news op.image)) spells ∙ filled-shape op),
    )

pub all_changed :
    {A : Type 0} (op : Operation A) (codes rest : List Code) (text d new : List A) (kept start : ℕ) → spelled codes ≡ shape op → HasPassed codes rest (news op.image) text kept (take kept)
    → start ≡ kept → new ≡ changed_behind start rest text d → new ≡ apply op d
all_changed op codes rest text d new kept start spells keep start_is made =
    let behind : new ≡ changed_behind kept rest text d = rw start_is at made in
    behind ∙ sym (keep.made d) ∙ (all_made op codes d spells).2
