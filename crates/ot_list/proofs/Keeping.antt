-- Old leaves that follow as they are, and the end of a draft.
use Rattle.std.proofs.Common.{◌≡◌, ℕ, zero, suc, ◌+◌, ◌-◌, ◌<◌, ◌≤◌, List, [], ◌∷◌, ◌++◌, map, length, take, drop, get_or, refl, sym, ap, ◌∙◌, arith}
use Rattle.std.proofs.lemmas.List.{append-nil, length-drop, drop_more, drop_all, nil_from_length, take-append-drop}
use Rattle.std.specs.Prelude.{true, false}
use Rattle.std.proofs.Math.Seq.{drop-nil}
use Rattle.ot_list.specs.declared.span.Span.{Span}
use Rattle.ot_list.specs.declared.draft.Draft.{Draft}
use Rattle.ot_list.specs.Leaves.{concatenated, AreLeaves, MayEnd, last_leaf}
use Rattle.ot_list.specs.Spans.{reach, all_put, merged, through, Fit}
use Rattle.ot_list.specs.Written.{last_span, spans_of, made_by, place_of, front_of, written, AreApart, IsDraft, HasFlushed, MayFollow}
use Rattle.ot_list.proofs.Leaved.{concatenated-append, leaves_append, leaves_drop, leaves_take, may_end_by_last, leaf_small}
use Rattle.ot_list.proofs.Through.{reach-push, all_put-push, merged-through, through_run, through_next, same_last, apart_same, apart_other, apart_push}
use Rattle.ot_list.proofs.Drafted.{sum_at, numbers, last_kept, last_none}

-- two neighbours
pub pair_at : {A : Type 0} (cap : ℕ) (cs : List (List A)) (k : ℕ) → AreLeaves cap cs → suc k < length cs → cap < length (get_or cs k []) + length (get_or cs (suc k) [])
pair_at cap [] k p h = absurd (omega arith)
pair_at cap (c ∷ []) k p h = absurd (omega arith)
pair_at cap (c ∷ d ∷ cs) zero p h = p.2
pair_at cap (c ∷ d ∷ cs) (suc k) p h = pair_at cap (d ∷ cs) k p.3 (omega arith)

-- leaves in a row stand behind others, where the first of them may
pub run_behind : {A : Type 0} (cap : ℕ) (front cs : List (List A)) (from n : ℕ) → AreLeaves cap front → AreLeaves cap cs → 0 < n → from < length cs → MayEnd cap front (length (get_or cs from [])) → AreLeaves cap (front ++ take n (drop from cs))
run_behind cap front cs from zero p q s h e = absurd (omega arith)
run_behind {A} cap front cs from (suc n) p q s h e =
    let run : drop from cs ≡ get_or cs from [] ∷ drop (from + 1) cs = drop_more cs from [] h in
    let all : AreLeaves cap (take (suc n) (drop from cs)) = leaves_take cap (suc n) (drop from cs) (leaves_drop cap from cs q) in
    rw run (leaves_append cap front (get_or cs from []) (take n (drop (from + 1) cs)) p (rw run at all) e)

module _ {T S : Type 0} (cap : ℕ) (total : List T → S) (old : List (List T)) where
  -- a draft whose whole leaves are those of another, with a run of old leaves behind them
  kept_text : (d d' : Draft T S) (from n : ℕ) → d.pending.items ≡ [] → d'.pending.items ≡ [] → front_of old d' ≡ front_of old d ++ take n (drop from old) → written old d' ≡ written old d ++ concatenated (take n (drop from old))
  kept_text d d' from n none none' front = rw (none, none', append-nil, append-nil, front) (concatenated-append (front_of old d) (take n (drop from old)))

  end_here : (d : Draft T S) (from : ℕ) → IsDraft cap total old d → AreLeaves cap old → length d.leaves.items ≤ d.first → reach d.spans.items + d.kept ≡ from → from < length old → 0 < length (last_leaf (front_of old d)) → (k : ℕ) → d.kept ≡ k → cap < length (last_leaf (front_of old d)) + length (get_or old from [])
  end_here d from h whole none at within some zero e = let z : length (last_leaf (front_of old d)) ≡ 0 = ap length (last_none cap total old d h none e) in absurd (omega arith)
  end_here d zero h whole none at within some (suc k) e = absurd (omega arith)
  end_here d (suc from) h whole none at within some (suc k) e =
      let m = numbers cap total old d h in
      let place = m.place_is in
      let p : d.place - 1 ≡ from = omega arith in
      let l0 = last_kept cap total old d h none (omega arith) in
      let l = rw p at l0 in
      rw l (pair_at cap old from whole within)

  -- where nothing was written behind the old leaves that are kept, they go on
  pub kept_on : (d d' : Draft T S) (from n : ℕ) → IsDraft cap total old d → AreLeaves cap old → length d.leaves.items ≤ d.first → d.pending.items ≡ [] → d.place ≡ from → 0 < n → from + n ≤ length old → d'.pending.items ≡ d.pending.items → d'.spans.items ≡ d.spans.items → d'.leaves.items ≡ d.leaves.items → d'.sums.items ≡ d.sums.items → d'.first ≡ d.first → d'.kept ≡ d.kept + n → d'.place ≡ from + n → IsDraft cap total old d' × (written old d' ≡ written old d ++ concatenated (take n (drop from old))) × (place_of d' ≡ from + n)
  kept_on d d' from n h whole none_put none at some within pending spans leaves sums first kept place =
      let m = numbers cap total old d h in
      let m_within = m.within in
      let m_place = m.place_is in
      let put : length d.leaves.items - d.first ≡ 0 = omega arith in
      let here : reach d.spans.items + d.kept ≡ from = omega arith in
      let t0 = through_run d.spans.items d.kept n old (made_by d) in
      let t = rw here at t0 in
      let front : front_of old d' ≡ front_of old d ++ take n (drop from old) = rw (spans, kept, first, leaves, put) t in
      let r = reach-push d.spans.items (last_span d) in
      let r' : place_of d' ≡ reach d.spans.items + (d'.kept + 0) = rw spans (reach-push d.spans.items (last_span d')) in
      let end : MayEnd cap (front_of old d) (length (get_or old from [])) = may_end_by_last cap (front_of old d) (length (get_or old from [])) h.leaves (λ l. end_here d from h whole none_put here (omega arith) l d.kept refl) in
      let apart : AreApart (spans_of d') = rw spans (apart_other d.spans.items (last_span d) (last_span d') (omega arith) h.apart) in
      let at_place : place_of d' ≡ from + n = omega arith in (
        record {
          within = omega arith;
          place_is = omega arith;
          first_is = rw (spans, first) h.first_is;
          first_within = rw (leaves, first) h.first_within;
          sums = rw (sums, leaves) h.sums;
          leaves = rw front (run_behind cap (front_of old d) old from n h.leaves whole some (omega arith) end);
          apart = apart;
          short = rw (pending, none) (omega arith);
        },
        kept_text d d' from n none (pending ∙ none) front,
        at_place,
      )

  apart_as : (d : Draft T S) (s : Span) → IsDraft cap total old d → d.kept ≡ s.kept → AreApart (d.spans.items ++ s ∷ [])
  apart_as d s h e = apart_same d.spans.items (last_span d) s e h.apart

  -- behind what is flushed the next span begins
  pub kept_next : (d d' : Draft T S) (from n : ℕ) → IsDraft cap total old d → AreLeaves cap old → d.pending.items ≡ [] → MayEnd cap (front_of old d) (length (get_or old from [])) → place_of d ≤ from → 0 < n → from + n ≤ length old → d'.pending.items ≡ d.pending.items → d'.spans.items ≡ d.spans.items ++ record { kept = d.kept; gone = from - d.place; put = length d.leaves.items - d.first } ∷ [] → d'.leaves.items ≡ d.leaves.items → d'.sums.items ≡ d.sums.items → d'.first ≡ length d.leaves.items → d'.kept ≡ n → d'.place ≡ from + n → IsDraft cap total old d' × (written old d' ≡ written old d ++ concatenated (take n (drop from old))) × (place_of d' ≡ from + n)
  kept_next d d' from n h whole none end before some within pending spans leaves sums first kept place =
      let m = numbers cap total old d h in
      let m_within = m.within in
      let m_place = m.place_is in
      let f = h.first_is in
      let g = h.first_within in
      let s : Span = record { kept = d.kept; gone = from - d.place; put = length d.leaves.items - d.first } in
      let p = h.place_is in
      let reached : reach d.spans.items + (d.kept + (from - d.place)) ≡ from = omega arith in
      let put : length d'.leaves.items - d'.first ≡ 0 = rw (leaves, first) (omega arith) in
      let t0 = through_next d.spans.items s n old (made_by d) in
      let t = rw reached at t0 in
      let front : front_of old d' ≡ front_of old d ++ take n (drop from old) = rw (put, spans, kept, leaves) t in
      let r : reach d'.spans.items ≡ from = rw spans (reach-push d.spans.items s ∙ reached) in
      let a : all_put d'.spans.items ≡ all_put d.spans.items + (length d.leaves.items - d.first) = rw spans (all_put-push d.spans.items s) in
      let r' = reach-push d'.spans.items (last_span d') in
      let apart : AreApart (spans_of d') = rw spans (apart_push (d.spans.items ++ s ∷ []) (last_span d') (apart_as d s h refl) (omega arith)) in (
        record {
          within = omega arith;
          place_is = omega arith;
          first_is = omega arith;
          first_within = rw (leaves, first) (omega arith);
          sums = rw (sums, leaves) h.sums;
          leaves = rw front (run_behind cap (front_of old d) old from n h.leaves whole some (omega arith) end);
          apart = apart;
          short = rw (pending, none) (omega arith);
        },
        kept_text d d' from n none (pending ∙ none) front,
        omega arith,
      )

  -- the list that the finished spans make
  pub finished_more : (d : Draft T S) (spans : List Span) (made : List (List T)) → IsDraft cap total old d → d.pending.items ≡ [] → spans ≡ d.spans.items ++ record { kept = d.kept; gone = length old - d.place; put = length d.leaves.items - d.first } ∷ [] → made ≡ made_by d → Fit spans old made × (merged spans old made ≡ front_of old d)
  finished_more d spans made h none is leaves =
      let m = numbers cap total old d h in
      let m_within = m.within in
      let m_place = m.place_is in
      let put_is = m.put_is in
      let s : Span = record { kept = d.kept; gone = length old - d.place; put = length d.leaves.items - d.first } in
      let reached : reach spans ≡ length old = rw is (reach-push d.spans.items s ∙ omega arith) in
      let a : all_put spans ≡ length made = rw (is, leaves) (all_put-push d.spans.items s ∙ put_is) in
      let rest : drop (reach spans) old ≡ [] = drop_all (reach spans) old (omega arith) in
      let t : through spans old made ≡ front_of old d = rw (is, leaves) (same_last d.spans.items s old (made_by d)) in
      (record { within = omega arith; all = a }, merged-through spans old made ∙ rw (rest, append-nil) t)

  stand_by : (d m : Draft T S) (next : ℕ) → IsDraft cap total old d → HasFlushed cap total old d m next → MayFollow cap old d next → (k : ℕ) → length d.pending.items ≡ k → MayEnd cap (front_of old m) next
  stand_by d m next h f may zero e = rw (f.none e) (may_end_by_last cap (front_of old d) next h.leaves (may.last e))
  stand_by d m next h f may (suc k) e = f.end (omega arith) (may.pending (omega arith))

  -- what may stand behind all that is written may stand behind what is flushed
  pub may_stand : (d m : Draft T S) (next : ℕ) → IsDraft cap total old d → HasFlushed cap total old d m next → MayFollow cap old d next → MayEnd cap (front_of old m) next
  may_stand d m next h f may = stand_by d m next h f may (length d.pending.items) refl

  -- how many items the leaf has that follows
  pub next_count : (count_of : S → ℕ) → ((items : List T) → length items ≤ cap → count_of (total items) ≡ length items) → AreLeaves cap old → (from : ℕ) → from < length old → (s : S) → s ≡ get_or (map total old) from s → (n : ℕ) → n ≡ count_of s → n ≡ length (get_or old from [])
  next_count count_of counts whole from h s is n e = e ∙ rw (sum_at total old from s h is) (counts (get_or old from []) (leaf_small cap old from whole))

-- over no leaves the draft's own are all
take_none : {A : Type 0} (n : ℕ) → take {A = A} n [] ≡ []
take_none zero = refl
take_none (suc n) = refl

through_none : {A : Type 0} (ss : List Span) (new : List A) → all_put ss ≡ length new → through ss [] new ≡ new
through_none [] new e = sym (nil_from_length new (sym e))
through_none {A} (s ∷ ss) new e =
    let rest = through_none ss (drop s.put new) (rw length-drop (omega arith)) in
    rw (take_none s.kept, drop-nil {A = A} (s.kept + s.gone), rest) (take-append-drop s.put new)

pub over_none : {T S : Type 0} (cap : ℕ) (total : List T → S) (d : Draft T S) → IsDraft cap total [] d → front_of [] d ≡ made_by d
over_none cap total d h =
    let n = numbers cap total [] d h in
    let p = n.put_is in
    let a = all_put-push d.spans.items (last_span d) in
    through_none (spans_of d) (made_by d) (omega arith)

pub true_false : true ≡ false → ⊥
true_false e = cc
