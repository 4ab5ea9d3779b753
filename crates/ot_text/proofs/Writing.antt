-- A writer, step by step.
use Rattle.std.proofs.Common.{◌≡◌, ℕ, suc, ◌+◌, ◌-◌, ◌<◌, ◌≤◌, List, [], ◌∷◌, ◌++◌, length, take, drop, get_or, refl, sym, ap, ◌∙◌, arith, append_assoc}
use Rattle.std.proofs.lemmas.List.{append-nil, length-drop, drop-drop, drop_at, take_at, take-append-drop}
use Rattle.std.proofs.Math.Seq.{take-add, drop-append-add}
use Rattle.ot_operation.specs.Operation.{apply}
use Rattle.ot_operation.specs.Run.{Run, Keep, Add, Skip, base_of, operation_of}
use Rattle.ot_list.specs.Leaves.{concatenated}
use Rattle.ot_list.specs.Written.{written, place_of, IsDraft, Continues}
use Rattle.ot_list.proofs.Leaved.{concatenated-append}
use Rattle.ot_text.proofs.Changed.{apply-none, apply-keep, apply-add, apply-skip}
use Rattle.ot_text.proofs.Reading.{front_part, left_split}
use Rattle.ot_text.specs.declared.writer.Writer.{Writer}
use Rattle.ot_text.specs.Places.{rest_at, left_at, IsInside}
use Rattle.ot_text.specs.Writing.{left_of, IsWriter, HasWritten}

-- whole leaves walked over

leaves_split : {A : Type 0} (leaves : List (List A)) (from to : ℕ) → from ≤ to → concatenated (drop from leaves) ≡ concatenated (take (to - from) (drop from leaves)) ++ concatenated (drop to leaves)
leaves_split {A} leaves from to order =
    let k : ℕ = to - from in
    let there : from + k ≡ to = omega arith in
    let behind : drop k (drop from leaves) ≡ drop to leaves = drop-drop k from leaves ∙ rw there refl in
    ap (λ (t : List (List A)). concatenated t) (sym (take-append-drop k (drop from leaves)))
    ∙ concatenated-append (take k (drop from leaves)) (drop k (drop from leaves))
    ∙ rw behind refl

pub found_left :
    {A : Type 0} (leaves : List (List A)) (from to left count : ℕ) → from ≤ to → length (concatenated (take (to - from) (drop from leaves))) + left ≡ count
    → drop left (concatenated (drop to leaves)) ≡ drop count (concatenated (drop from leaves))
found_left {A} leaves from to left count order fits =
    let front : List A = concatenated (take (to - from) (drop from leaves)) in
    let behind : List A = concatenated (drop to leaves) in
    sym
    (rw (leaves_split leaves from to order, ← fits) (sym (drop-drop left (length front) (front ++ behind)) ∙ ap (λ (t : List A). drop left t) (drop_at front behind (length front) refl)))

-- the rest of a leaf, and leaves behind it, walked over
pub skipped :
    {A : Type 0} (leaves : List (List A)) (k o to left count n : ℕ) → k < length leaves → o ≤ length (get_or leaves k []) → n ≡ length (rest_at leaves k o) → n ≤ count → k + 1 ≤ to
    → length (concatenated (take (to - (k + 1)) (drop (k + 1) leaves))) + left ≡ count - n → left_at leaves to left ≡ drop count (left_at leaves k o)
skipped {A} leaves k o to left count n there inside size within order fits =
    let next : k + 1 ≡ suc k = omega arith in
    let rest : List A = rest_at leaves k o in
    let sum : count ≡ length rest + (count - n) = omega (arith, size) in
    let behind : drop count (rest ++ concatenated (drop (k + 1) leaves)) ≡ drop (count - n) (concatenated (drop (k + 1) leaves)) =
    ap (λ (m : ℕ). drop m (rest ++ concatenated (drop (k + 1) leaves))) sum ∙ drop-append-add rest (concatenated (drop (k + 1) leaves)) (count - n) in
    found_left leaves (k + 1) to left (count - n) order fits
    ∙ sym (rw (left_split leaves k o there inside, ← next) behind)

pub found_front :
    {A : Type 0} (leaves : List (List A)) (from to left count n : ℕ) → from ≤ to → length (concatenated (take (to - from) (drop from leaves))) + left ≡ count → n + left ≡ count
    → take n (concatenated (drop from leaves)) ≡ concatenated (take (to - from) (drop from leaves))
found_front {A} leaves from to left count n order fits is =
    let front : List A = concatenated (take (to - from) (drop from leaves)) in
    rw (leaves_split leaves from to order) (take_at front (concatenated (drop to leaves)) n (omega (arith, fits, is)))

module _ {T S : Type 0} (cap : ℕ) (total : List T → S) (old : List (List T)) where
  -- what is written of the next elements, and then of those behind
  pub kept_more :
      (a b c : Writer T S) (m n : ℕ) → HasWritten cap total old a b (take m (left_of old a)) m → HasWritten cap total old b c (take n (left_of old b)) n
      → HasWritten cap total old a c (take (m + n) (left_of old a)) (m + n)
  kept_more a b c m n first second =
      let parts : take m (left_of old a) ++ take n (drop m (left_of old a)) ≡ take (m + n) (left_of old a) = sym (take-add m n (left_of old a)) in
      record {
        writer = second.writer;
        text_is = second.text_is ∙ rw (first.text_is, first.left_is, append_assoc (written old a.draft) (take m (left_of old a)) (take n (drop m (left_of old a))), parts) refl;
        left_is = second.left_is ∙ rw first.left_is (drop-drop n m (left_of old a));
      }

  -- whole leaves are written as they are
  pub kept_leaves :
      (w w' : Writer T S) (to left count : ℕ) → IsWriter cap total old w → w.place.offset ≡ 0 → w.place.leaf < to
      → length (concatenated (take (to - w.place.leaf) (drop w.place.leaf old))) + left ≡ count → (to < length old → left < length (get_or old to []))
      → IsDraft cap total old w'.draft → written old w'.draft ≡ written old w.draft ++ concatenated (take (to - w.place.leaf) (drop w.place.leaf old)) → place_of w'.draft ≡ to
      → w'.place.leaf ≡ to → w'.place.offset ≡ 0 → HasWritten cap total old w w' (take (count - left) (left_of old w)) (count - left)
  kept_leaves w w' to left count h at order fits next draft text place leaf offset =
      let n : ℕ = count - left in
      let from : ℕ = w.place.leaf in
      let sum : n + left ≡ count = omega arith in
      let whole : length (concatenated (take (to - from) (drop from old))) + 0 ≡ n = omega arith in
      let run : take n (concatenated (drop from old)) ≡ concatenated (take (to - from) (drop from old)) = found_front old from to left count n (omega arith) fits sum in
      let behind : concatenated (drop to old) ≡ drop n (concatenated (drop from old)) = found_left old from to 0 n (omega arith) whole in
      record {
        writer = record { draft = draft; inside = rw (leaf, offset) (λ f. let m = next f in omega arith); behind = omega arith };
        text_is = rw (at, run) text;
        left_is = rw (at, leaf, offset) behind;
      }

  -- a part of a leaf is written
  pub kept_part :
      (w w' : Writer T S) (step : ℕ) (rest : List T) → IsWriter cap total old w → take (length rest) (left_of old w) ≡ rest → step ≤ length rest
      → Continues cap total old w.draft w'.draft (take step rest) → IsInside old w'.place.leaf w'.place.offset → left_of old w' ≡ drop step (left_of old w)
      → w.place.leaf ≤ w'.place.leaf → HasWritten cap total old w w' (take step (left_of old w)) step
  kept_part w w' step rest h front within more inside left later =
      let b = h.behind in
      let p = more.place in
      record {
        writer = record { draft = more.draft; inside = inside; behind = omega arith };
        text_is = rw (front_part (left_of old w) rest step front within) more.text_is;
        left_is = left;
      }

  -- something else is written
  pub put_text : (w w' : Writer T S) (text : List T) → IsWriter cap total old w → Continues cap total old w.draft w'.draft text → w'.place ≡ w.place → HasWritten cap total old w w' text 0
  put_text w w' text h more same =
      let b = h.behind in
      let p = more.place in
      record {
        writer = record { draft = more.draft; inside = rw same h.inside; behind = rw same (omega arith) };
        text_is = more.text_is;
        left_is = rw same refl;
      }

  -- nothing is written
  pub gone_over :
      (w w' : Writer T S) (count : ℕ) → IsWriter cap total old w → w'.draft ≡ w.draft → IsInside old w'.place.leaf w'.place.offset → left_of old w' ≡ drop count (left_of old w)
      → w.place.leaf ≤ w'.place.leaf → HasWritten cap total old w w' [] count
  gone_over w w' count h same inside left later =
      let b = h.behind in
      record {
        writer = record { draft = rw same h.draft; inside = inside; behind = rw same (omega arith) };
        text_is = rw same (sym (append-nil (written old w.draft)));
        left_is = left;
      }

  pub kept_none : (a : Writer T S) → IsWriter cap total old a → HasWritten cap total old a a (take 0 (left_of old a)) 0
  kept_none a w = record { writer = w; text_is = sym (append-nil (written old a.draft)); left_is = refl }

  -- what runs make of what is left is the rest of `whole`
  pub record IsOnWay (w : Writer T S) (runs : List (Run T)) (whole : List T) : Type 0 where
    pub writer : IsWriter cap total old w
    pub base : base_of runs ≡ length (left_of old w)
    pub made : written old w.draft ++ apply (operation_of runs) (left_of old w) ≡ whole

  pub on_way_none : (w : Writer T S) (runs : List (Run T)) → IsWriter cap total old w → base_of runs ≡ length (left_of old w) → IsOnWay w runs (written old w.draft ++ apply (operation_of runs) (left_of old w))
  on_way_none w runs h fits = record { writer = h; base = fits; made = refl }

  module _ (w : Writer T S) (left next : List (Run T)) (whole : List T) (before : IsOnWay w left whole) where
    pub keep_within : (n : ℕ) → left ≡ Keep n ∷ next → n ≤ length (left_of old w)
    keep_within n is = let f = rw is at before.base in omega (arith, f)

    pub skip_within : (n : ℕ) → left ≡ Skip n ∷ next → n ≤ length (left_of old w)
    skip_within n is = let f = rw is at before.base in omega (arith, f)

    module _ (w' : Writer T S) where
      pub on_way_keep : (n : ℕ) → left ≡ Keep n ∷ next → HasWritten cap total old w w' (take n (left_of old w)) n → IsOnWay w' next whole
      on_way_keep n is step =
          let f = rw is at before.base in
          let m = rw (is, apply-keep next (left_of old w) n) at before.made in
          record {
            writer = step.writer;
            base = rw step.left_is (omega (arith, f, length-drop n (left_of old w)));
            made = rw (step.text_is, step.left_is, append_assoc (written old w.draft) (take n (left_of old w)) (apply (operation_of next) (drop n (left_of old w)))) m;
          }

      pub on_way_add : (text : List T) → left ≡ Add text ∷ next → HasWritten cap total old w w' text 0 → IsOnWay w' next whole
      on_way_add text is step =
          let f = rw is at before.base in
          let m = rw (is, apply-add next (left_of old w) text) at before.made in
          record {
            writer = step.writer;
            base = rw step.left_is f;
            made = rw (step.text_is, step.left_is, append_assoc (written old w.draft) text (apply (operation_of next) (left_of old w))) m;
          }

      pub on_way_skip : (n : ℕ) → left ≡ Skip n ∷ next → HasWritten cap total old w w' [] n → IsOnWay w' next whole
      on_way_skip n is step =
          let f = rw is at before.base in
          let m = rw (is, apply-skip next (left_of old w) n) at before.made in
          record {
            writer = step.writer;
            base = rw step.left_is (omega (arith, f, length-drop n (left_of old w)));
            made = rw (step.text_is, step.left_is, append-nil (written old w.draft)) m;
          }

    pub on_way_all : left ≡ [] → written old w.draft ≡ whole
    on_way_all none = sym (append-nil (written old w.draft)) ∙ rw (none, apply-none (left_of old w)) at before.made
