-- Items moved within a list, eight at a time.
use Rattle.std.proofs.Common.{◌≡◌, ℕ, ◌+◌, ◌-◌, ◌≤◌, List, [], ◌++◌, length, take, drop, refl, sym, ap, ◌∙◌, append_assoc, arith}
use Rattle.std.proofs.lemmas.List.{append-nil, take-append-drop, drop-take, take-take, drop-drop, length-take-le, length-drop, length-append}
use Rattle.std.proofs.Math.Seq.{take-add, take-append_seam, drop-append_seam, drop-length}
use Rattle.std.specs.List.{copy_within}

-- a block in the place of eight items
abbrev pub with_block : {A : Type 0} → List A → ℕ → List A → List A
with_block s to block = take to s ++ block ++ drop (to + 8) s

module _ {A : Type 0} where
  -- what lies below a place is that of another list
  below : (s d : List A) (m i j : ℕ) → take m s ≡ take m d → i + j ≤ m → take j (drop i s) ≡ take j (drop i d)
  below s d m i j same within =
      sym (drop-take i j s)
      ∙ ap (drop i) (sym (take-take (i + j) m s within) ∙ ap (take (i + j)) same ∙ take-take (i + j) m d within)
      ∙ drop-take i j d

  -- what lies behind a place is that of another list
  behind : (s d : List A) (m i : ℕ) → drop m s ≡ drop m d → m ≤ i → drop i s ≡ drop i d
  behind s d m i same within =
      let on : m + (i - m) ≡ i = omega (arith, within) in
      ap (λ (k : ℕ). drop k s) (sym on) ∙ sym (drop-drop (i - m) m s) ∙ ap (drop (i - m)) same ∙ drop-drop (i - m) m d ∙ ap (λ (k : ℕ). drop k d) on

  front_put : (s block : List A) (k : ℕ) → k ≤ length s → take k (with_block s k block) ≡ take k s
  front_put s block k within =
      ap (take k) (append_assoc (take k s) block (drop (k + 8) s))
      ∙ ap (λ (n : ℕ). take n (take k s ++ (block ++ drop (k + 8) s))) (sym (length-take-le k s within))
      ∙ take-append_seam (take k s) (block ++ drop (k + 8) s)

  back_put : (s block : List A) (k : ℕ) → k ≤ length s → drop k (with_block s k block) ≡ block ++ drop (k + 8) s
  back_put s block k within =
      ap (drop k) (append_assoc (take k s) block (drop (k + 8) s))
      ∙ ap (λ (n : ℕ). drop n (take k s ++ (block ++ drop (k + 8) s))) (sym (length-take-le k s within))
      ∙ drop-append_seam (take k s) (block ++ drop (k + 8) s)

  head_put : (s block : List A) (k : ℕ) → k ≤ length s → length block ≡ 8 → take (k + 8) (with_block s k block) ≡ take k s ++ block
  head_put s block k within size =
      let long : length (take k s ++ block) ≡ k + 8 = length-append (take k s) block ∙ omega (arith, length-take-le k s within, size) in
      ap (λ (n : ℕ). take n (with_block s k block)) (sym long) ∙ take-append_seam (take k s ++ block) (drop (k + 8) s)

  tail_put : (s block : List A) (k : ℕ) → k ≤ length s → length block ≡ 8 → drop (k + 8) (with_block s k block) ≡ drop (k + 8) s
  tail_put s block k within size =
      let long : length (take k s ++ block) ≡ k + 8 = length-append (take k s) block ∙ omega (arith, length-take-le k s within, size) in
      ap (λ (n : ℕ). drop n (with_block s k block)) (sym long) ∙ drop-append_seam (take k s ++ block) (drop (k + 8) s)

  long_put : (s block : List A) (k : ℕ) → k + 8 ≤ length s → length block ≡ 8 → length (with_block s k block) ≡ length s
  long_put s block k within size =
      length-append (take k s ++ block) (drop (k + 8) s)
      ∙ omega (arith, length-append (take k s) block, length-take-le k s (omega (arith, within)), size, length-drop (k + 8) s, within)

  block_long : (s : List A) (from : ℕ) → from + 8 ≤ length s → length (take 8 (drop from s)) ≡ 8
  block_long s from within = length-take-le 8 (drop from s) (omega (arith, length-drop from s, within))

-- up: what lies from `to + ahead` on is moved, and what lies below is as it was
pub record IsUp {A : Type 0} (d s : List A) (from to count ahead : ℕ) : Type 0 where
  pub long : length s ≡ length d
  pub part : ahead ≤ count
  pub front : take (to + ahead) s ≡ take (to + ahead) d
  pub back : drop (to + ahead) s ≡ drop ahead (take count (drop from d)) ++ drop (to + count) d

module _ {A : Type 0} (d s : List A) (from to count : ℕ) where
  pub up_none : from ≤ to → to + count ≤ length d → IsUp d d from to count count
  up_none up within =
      let size = length-take-le count (drop from d) (omega (arith, length-drop from d, up, within)) in
      record {
        long = refl;
        part = omega arith;
        front = refl;
        back = ap (λ t. t ++ drop (to + count) d) (sym (none_left size));
      }
    where
      none_left : length (take count (drop from d)) ≡ count → drop count (take count (drop from d)) ≡ []
      none_left size = ap (λ (n : ℕ). drop n (take count (drop from d))) (sym size) ∙ drop-length (take count (drop from d))

  pub up_more : (ahead n : ℕ) (t : List A) → from ≤ to → to + count ≤ length d → ahead ≡ n + 8 → t ≡ with_block s (to + n) (take 8 (drop (from + n) s)) → IsUp d s from to count ahead → IsUp d t from to count n
  up_more ahead n t up within next put so_far =
      let room : to + n + 8 ≤ length s = omega (arith, so_far.long, so_far.part, next, within) in
      let size = block_long s (from + n) (omega (arith, room, up)) in
      let block : List A = take 8 (drop (from + n) s) in
      let m : List A = take count (drop from d) in
      let here : to + ahead ≡ to + n + 8 = omega (arith, next) in
      let old : take (to + n + 8) s ≡ take (to + n + 8) d = ap (λ (k : ℕ). take k s) (sym here) ∙ so_far.front ∙ ap (λ (k : ℕ). take k d) here in
      let rest : count ≡ n + (8 + (count - ahead)) = omega (arith, so_far.part, next) in
      let first : take 8 (drop n m) ≡ block =
      below m (drop from d) count n 8 (take-take count count (drop from d) (omega arith)) (omega (arith, so_far.part, next))
      ∙ ap (take 8) (drop-drop n from d)
      ∙ sym (below s d (to + n + 8) (from + n) 8 old (omega (arith, up)))
      in
      record {
        long = ap length put ∙ long_put s block (to + n) room size ∙ so_far.long;
        part = omega (arith, so_far.part, next);
        front = ap (take (to + n)) put
            ∙ front_put s block (to + n) (omega (arith, room))
            ∙ sym (take-take (to + n) (to + n + 8) s (omega arith))
            ∙ ap (take (to + n)) old
            ∙ take-take (to + n) (to + n + 8) d (omega arith);
        back = ap (drop (to + n)) put
            ∙ back_put s block (to + n) (omega (arith, room))
            ∙ ap (λ l. block ++ l) (ap (λ (k : ℕ). drop k s) (sym here) ∙ so_far.back)
            ∙ sym (append_assoc block (drop ahead m) (drop (to + count) d))
            ∙ ap (λ l. l ++ drop (to + count) d) (
            ap (λ l. l ++ drop ahead m) (sym first)
            ∙ ap (λ l. take 8 (drop n m) ++ l) (ap (λ (k : ℕ). drop k m) next ∙ sym (drop-drop 8 n m))
            ∙ take-append-drop 8 (drop n m)
            );
      }

  pub up_all : (ahead : ℕ) → from ≤ to → to + count ≤ length d → IsUp d s from to count ahead → copy_within s from (from + ahead) to ≡ copy_within d from (from + count) to
  up_all ahead up within so_far =
      let m : List A = take count (drop from d) in
      let a : from + ahead - from ≡ ahead = omega arith in
      let c : from + count - from ≡ count = omega arith in
      let low : take to s ≡ take to d = sym (take-take to (to + ahead) s (omega arith)) ∙ ap (take to) so_far.front ∙ take-take to (to + ahead) d (omega arith) in
      let first : take ahead (drop from s) ≡ take ahead m = below s d (to + ahead) from ahead so_far.front (omega (arith, up)) ∙ sym (take-take ahead count (drop from d) so_far.part) in
      ap (λ (k : ℕ). take to s ++ take k (drop from s) ++ drop (to + k) s) a
      ∙ ap (λ l. l ++ take ahead (drop from s) ++ drop (to + ahead) s) low
      ∙ ap (λ l. take to d ++ l ++ drop (to + ahead) s) first
      ∙ ap (λ l. take to d ++ take ahead m ++ l) so_far.back
      ∙ sym (append_assoc (take to d ++ take ahead m) (drop ahead m) (drop (to + count) d))
      ∙ ap (λ l. l ++ drop (to + count) d) (append_assoc (take to d) (take ahead m) (drop ahead m) ∙ ap (λ l. take to d ++ l) (take-append-drop ahead m))
      ∙ ap (λ (k : ℕ). take to d ++ take k (drop from d) ++ drop (to + k) d) (sym c)

-- down: what lies below `to + done` is moved, and what lies behind is as it was
pub record IsDown {A : Type 0} (d s : List A) (from to count done : ℕ) : Type 0 where
  pub long : length s ≡ length d
  pub part : done ≤ count
  pub front : take (to + done) s ≡ take to d ++ take done (drop from d)
  pub back : drop (to + done) s ≡ drop (to + done) d

module _ {A : Type 0} (d s : List A) (from to count : ℕ) where
  pub down_none : to ≤ from → from + count ≤ length d → IsDown d d from to count 0
  down_none down within = record { long = refl; part = omega arith; front = ap (λ (k : ℕ). take k d) (omega arith) ∙ sym (append-nil (take to d)); back = refl }

  pub down_more : (done n : ℕ) (t : List A) → to ≤ from → from + count ≤ length d → n ≡ done + 8 → n ≤ count → t ≡ with_block s (to + done) (take 8 (drop (from + done) s)) → IsDown d s from to count done → IsDown d t from to count n
  down_more done n t down within next fits put so_far =
      let room : from + done + 8 ≤ length s = omega (arith, so_far.long, within, next, fits) in
      let size = block_long s (from + done) room in
      let block : List A = take 8 (drop (from + done) s) in
      let at : to + n ≡ to + done + 8 = omega (arith, next) in
      let is : block ≡ take 8 (drop done (drop from d)) = ap (take 8) (behind s d (to + done) (from + done) so_far.back (omega (arith, down)) ∙ sym (drop-drop done from d)) in
      record {
        long = ap length put ∙ long_put s block (to + done) (omega (arith, room, down)) size ∙ so_far.long;
        part = fits;
        front = ap (λ (k : ℕ). take k t) at
            ∙ ap (take (to + done + 8)) put
            ∙ head_put s block (to + done) (omega (arith, room, down)) size
            ∙ ap (λ l. l ++ block) so_far.front
            ∙ append_assoc (take to d) (take done (drop from d)) block
            ∙ ap (λ l. take to d ++ l) (
            ap (λ l. take done (drop from d) ++ l) is
            ∙ sym (take-add done 8 (drop from d))
            ∙ ap (λ (k : ℕ). take k (drop from d)) (sym next)
            );
        back = ap (λ (k : ℕ). drop k t) at
            ∙ ap (drop (to + done + 8)) put
            ∙ tail_put s block (to + done) (omega (arith, room, down)) size
            ∙ behind s d (to + done) (to + done + 8) so_far.back (omega arith)
            ∙ ap (λ (k : ℕ). drop k d) (sym at);
      }

  pub down_all : (done : ℕ) → to ≤ from → from + count ≤ length d → IsDown d s from to count done → copy_within s (from + done) (from + count) (to + done) ≡ copy_within d from (from + count) to
  down_all done down within so_far =
      let a : from + count - (from + done) ≡ count - done = omega arith in
      let c : from + count - from ≡ count = omega arith in
      let all : done + (count - done) ≡ count = omega (arith, so_far.part) in
      let end : to + done + (count - done) ≡ to + count = omega (arith, so_far.part) in
      let part : take (count - done) (drop (from + done) s) ≡ take (count - done) (drop done (drop from d)) = ap (take (count - done)) (behind s d (to + done) (from + done) so_far.back (omega (arith, down)) ∙ sym (drop-drop done from d)) in
      ap (λ (k : ℕ). take (to + done) s ++ take k (drop (from + done) s) ++ drop (to + done + k) s) a
      ∙ ap (λ l. l ++ take (count - done) (drop (from + done) s) ++ drop (to + done + (count - done)) s) so_far.front
      ∙ ap (λ l. take to d ++ take done (drop from d) ++ l ++ drop (to + done + (count - done)) s) part
      ∙ ap (λ l. l ++ drop (to + done + (count - done)) s) (
      append_assoc (take to d) (take done (drop from d)) (take (count - done) (drop done (drop from d)))
      ∙ ap (λ l. take to d ++ l) (sym (take-add done (count - done) (drop from d)) ∙ ap (λ (k : ℕ). take k (drop from d)) all)
      )
      ∙ ap (λ l. take to d ++ take count (drop from d) ++ l) (ap (λ (k : ℕ). drop k s) end ∙ behind s d (to + done) (to + count) so_far.back (omega (arith, so_far.part)))
      ∙ ap (λ (k : ℕ). take to d ++ take k (drop from d) ++ drop (to + k) d) (sym c)
