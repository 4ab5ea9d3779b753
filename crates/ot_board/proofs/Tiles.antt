-- Lists of receipts, walked over from the front.
use Rattle.std.proofs.Common.{◌≡◌, ℕ, zero, suc, [], ◌∷◌, drop, ◌+◌, ◌-◌, ◌<◌, ◌≤◌, List, length, take, refl, sym, ap, ◌∙◌, subst, arith, Some}
use Rattle.std.proofs.lemmas.List.{take_all, length-map}
use Rattle.std.proofs.lemmas.List.Sums.{sum_by_more}
use Rattle.std.proofs.lemmas.List.Elements.{All-more}
use Rattle.std.proofs.lemmas.Option.{slice_get_read, slice_get_within, same_Some, get_or_from_slice_get, slice_get-map}
use Rattle.std.specs.Option.{option_map}
use Rattle.std.specs.Prelude.{slice_get, slice_index_or, Vec, vec_items}
use Rattle.std.specs.List.{All}
use Rattle.std.specs.declared.alloc.Global.{Global}
use Rattle.ot_board.specs.declared.receipt.Receipt.{Receipt}
use Rattle.ot_isa.specs.declared.instruction.Instr.{Instr}
use Rattle.ot_board.specs.declared.auditing.AuditFault.{AuditFault}
use Rattle.ot_board.specs.declared.auditing.AuditFault.TheVariants.{Missing, Backwards, Doubled, Uncovered, Memory}
use Rattle.ot_board.specs.Tiling.{lists, end_of, times_in, times_covered, capped, IsThere, IsBackwards, AreRising, IsTiling, IsFault}

-- what holds of as many as there are holds of all
pub all_taken : {X : Type 0} (P : X → Type 0) (xs : List X) (i : ℕ) → length xs ≤ i → All P (take i xs) → All P xs
all_taken P xs i past all = subst (λ ys. All P ys) (take_all i xs past) all

-- and of one more
pub one_more : {X : Type 0} (P : X → Type 0) (xs : List X) (i : ℕ) (x : X) → i < length xs → x ≡ slice_index_or xs i x → All P (take i xs) → P x → All P (take (i + 1) xs)
one_more P xs i x within is all here = All-more P xs i x within all (subst P is here)

pub read_at : {X : Type 0} (xs : List X) (i : ℕ) (x : X) → i < length xs → x ≡ slice_index_or xs i x → slice_get xs i ≡ Some x
read_at xs i x within is = slice_get_read xs (length xs) i x refl within is

-- the same over workers
pub worker_at : (workers : List (Vec Receipt Global)) (w : ℕ) (v : Vec Receipt Global) → w < length workers → v ≡ slice_index_or workers w v → slice_get (lists workers) w ≡ Some v.items
worker_at workers w v within is = slice_get-map vec_items workers w ∙ ap (option_map vec_items) (read_at workers w v within is)

pub one_more_worker : (P : List Receipt → Type 0) (workers : List (Vec Receipt Global)) (w : ℕ) (v : Vec Receipt Global) → w < length workers → v ≡ slice_index_or workers w v → All P (take w (lists workers)) → P v.items → All P (take (w + 1) (lists workers))
one_more_worker P workers w v within is all here =
    let below : w < length (lists workers) = rw length-map within in
    one_more P (lists workers) w v.items below (sym (get_or_from_slice_get (lists workers) w v.items v.items (worker_at workers w v within is))) all here

pub all_workers : (P : List Receipt → Type 0) (workers : List (Vec Receipt Global)) (w : ℕ) → length workers ≤ w → All P (take w (lists workers)) → All P (lists workers)
all_workers P workers w past all = all_taken P (lists workers) w (rw length-map past) all

-- blocks that do not overlap at a place
module _ (xs : List Receipt) (i : ℕ) (last next : Receipt) (from : 1 ≤ i) (within : i < length xs) (last_is : last ≡ slice_index_or xs (i - 1) last) (next_is : next ≡ slice_index_or xs i next) where
  last_at : slice_get xs (i - 1) ≡ Some last
  last_at = read_at xs (i - 1) last (omega arith) last_is

  pub overlap : next.first < end_of last → IsBackwards xs i
  overlap here =
      record { last = last; next = next; place = i - 1; follows = omega arith; last_is = last_at; next_is = read_at xs i next within next_is; overlaps = here }

  pub no_overlap : (next.first < end_of last → ⊥) → IsBackwards xs i → ⊥
  no_overlap not b =
      let place : b.place ≡ i - 1 = (let e = b.follows in omega arith) in
      let before : b.last ≡ last = same_Some b.last last (sym b.last_is ∙ ap (λ k. slice_get xs k) place ∙ last_at) in
      let here : b.next ≡ next = same_Some b.next next (sym b.next_is ∙ read_at xs i next within next_is) in
      not (rw (← before, ← here) b.overlaps)

pub rising : (xs : List Receipt) (i : ℕ) → length xs ≤ i → ((j : ℕ) → j < i → IsBackwards xs j → ⊥) → AreRising xs
rising xs i past none j b =
    let within = slice_get_within xs j b.next b.next_is in
    none j (omega arith) b

-- what holds of all receipts holds of a worker's
pub worker_has : (P : List Receipt → Type 0) (workers : List (Vec Receipt Global)) (w : ℕ) (v : Vec Receipt Global) → w < length workers → v ≡ slice_index_or workers w v → All P (lists workers) → P v.items
worker_has P workers w v within is all =
    let at = get_or_from_slice_get (lists workers) w v.items v.items (worker_at workers w v within is) in
    subst P at (all w v.items (rw length-map within))

-- one more worker's blocks
pub covered_more : (at : ℕ) (workers : List (Vec Receipt Global)) (w : ℕ) (v : Vec Receipt Global) → w < length workers → v ≡ slice_index_or workers w v → times_covered at (take (w + 1) (lists workers)) ≡ times_covered at (take w (lists workers)) + times_in at v.items
covered_more at workers w v within is =
    let read = get_or_from_slice_get (lists workers) w v.items v.items (worker_at workers w v within is) in
    sum_by_more (times_in at) (lists workers) w v.items (rw length-map within) ∙ ap (λ rs. times_covered at (take w (lists workers)) + times_in at rs) read

pub marked_more : (n b : ℕ) → capped (capped n + b) ≡ capped (n + b)
marked_more n b = omega arith

-- two lists with equal fronts, and with equal items after these
pub front_more : {X : Type 0} (xs ys : List X) (i : ℕ) (x : X) → take i xs ≡ take i ys → slice_get xs i ≡ Some x → slice_get ys i ≡ Some x → take (i + 1) xs ≡ take (i + 1) ys
front_more {X = X} xs ys i x same here there = let n : i + 1 ≡ suc i = omega arith in rw n (go xs ys i same here there)
  where
    go : (xs ys : List X) (i : ℕ) → take i xs ≡ take i ys → slice_get xs i ≡ Some x → slice_get ys i ≡ Some x → take (suc i) xs ≡ take (suc i) ys
    go [] ys i same here there = absurd (cc)
    go (a ∷ xs) [] i same here there = absurd (cc)
    go (a ∷ xs) (b ∷ ys) zero same here there = cc
    go (a ∷ xs) (b ∷ ys) (suc i) same here there =
        let first : a ≡ b = cc in
        let rest : take i xs ≡ take i ys = cc in
        ap (λ (z : X). z ∷ take (suc i) xs) first ∙ ap (λ (zs : List X). b ∷ zs) (go xs ys i rest here there)

-- what stands behind the front
pub behind_at : {X : Type 0} (xs : List X) (first i : ℕ) → slice_get (drop first xs) i ≡ slice_get xs (first + i)
behind_at xs zero i = ap (slice_get xs) (let e : i ≡ 0 + i = omega arith in e)
behind_at [] (suc first) i = refl
behind_at (x ∷ xs) (suc first) i = behind_at xs first i ∙ (let e : suc first + i ≡ suc (first + i) = omega arith in ap (slice_get (x ∷ xs)) (sym e))

-- what holds of all holds of each
at_in : {X : Type 0} (P : X → Type 0) (xs : List X) (i : ℕ) (x : X) → All P xs → slice_get xs i ≡ Some x → P x
at_in P xs i x all is = subst P (get_or_from_slice_get xs i x x is) (all i x (slice_get_within xs i x is))

-- where receipts tile a record, no fault is found but out of memory
pub tiled_fault : (log : List Instr) (workers : List (List Receipt)) → IsTiling log workers → (f : AuditFault) → IsFault log workers f → f ≡ Memory
tiled_fault log workers tiles (Missing w i) first =
    let missing = first.bad in
    absurd (missing.missing (at_in (IsThere log) first.receipts i missing.receipt (at_in (All (IsThere log)) workers w first.receipts tiles.there first.receipts_are) missing.receipt_is))
tiled_fault log workers tiles (Backwards w i) (there, first) = absurd (at_in AreRising workers w first.receipts tiles.rising first.receipts_are i first.bad.backwards)
tiled_fault log workers tiles (Doubled at) (there, rising, times, more, uneven) =
    let once = tiles.once at uneven.within in
    let is = uneven.times_are in
    absurd (omega arith)
tiled_fault log workers tiles (Uncovered at) (there, rising, uneven) =
    let once = tiles.once at uneven.within in
    let is = uneven.times_are in
    absurd (omega arith)
tiled_fault log workers tiles Memory both = refl
