-- Ends of blocks.
use Rattle.std.proofs.Common.{◌≡◌, ℕ, zero, suc, ◌+◌, ◌-◌, ◌<◌, ◌≤◌, List, [], ◌∷◌, ◌++◌, length, take, drop, set, get_or, refl, sym, ap, subst, ◌∙◌, arith, length-append, length-drop}
use Rattle.std.proofs.lemmas.List.{take-append-le, drop-append-le, take-set-le, drop-set-add, length-set}
use Rattle.std.proofs.Math.Seq.{take-add}
use Rattle.ot_codes.specs.declared.code.Code.{Code}
use Rattle.ot_codes.specs.declared.code.Sum.{Sum}
use Rattle.ot_codes.specs.declared.end.End.{End}
use Rattle.ot_codes.specs.Codes.{HasPart, added, lessened, sum_of}
use Rattle.ot_codes.specs.Ends.{start, between, IsBlock, AreEnds, last_end}
use Rattle.ot_codes.proofs.Summing.{same_sum, sum-append, front_last, has_last, less_last}

pub last_is : (done : End) (ends : List End) (k : ℕ) (e : End) → k + 1 ≡ length ends → get_or ends k e ≡ last_end done ends
last_is done [] k e h = absurd (omega (arith, h))
last_is done (end ∷ []) zero e h = refl
last_is done (end ∷ []) (suc k) e h = absurd (omega (arith, h))
last_is done (end ∷ next ∷ ends) zero e h = absurd (omega (arith, h))
last_is done (end ∷ next ∷ ends) (suc k) e h = last_is end (next ∷ ends) k e (omega (arith, h))

-- where the last end lies
pub record Reach (done : End) (codes : List Code) (ends : List End) : Type 0 where
  pub later : done.count ≤ (last_end done ends).count
  pub within : (last_end done ends).count ≤ done.count + length codes
  pub few : done.count + length codes ≤ (last_end done ends).count + 64
  pub two : 0 < (last_end done ends).count → (last_end done ends).count + 1 < done.count + length codes

pub reach : (done : End) (codes : List Code) (ends : List End) → AreEnds done codes ends → Reach done codes ends
reach done codes [] are = record { later = omega arith; within = omega arith; few = omega (arith, are.0); two = λ some. omega (arith, are.1 some) }
reach done codes (end ∷ ends) are =
    let b = are.0 in
    let r = reach end (drop (between done end) codes) ends are.1 in
    let rest = length-drop (between done end) codes in
    record {
      later = omega (arith, b.some, r.later);
      within = omega (arith, b.some, b.within, r.within, rest);
      few = omega (arith, b.some, b.within, r.few, rest);
      two = λ some. omega (arith, b.some, b.within, r.two some, rest);
    }

pub block_longer : (done : End) (codes more : List Code) (end : End) → IsBlock done codes end → IsBlock done (codes ++ more) end
block_longer done codes more end b =
    record {
      some = b.some;
      two = b.two;
      few = b.few;
      within = omega (arith, b.within, length-append codes more);
      sum_is = b.sum_is ∙ ap (λ (cs : List Code). added done.sum (sum_of cs)) (sym (take-append-le (between done end) codes more b.within));
    }

-- more codes in the last block
pub longer :
    (done : End) (codes more : List Code) (ends : List End) → AreEnds done codes ends
    → done.count + (length codes + length more) ≤ (last_end done ends).count + 64 → AreEnds done (codes ++ more) ends
longer done codes more [] are few = (omega (arith, few, length-append codes more), λ some. omega (arith, are.1 some, length-append codes more))
longer done codes more (end ∷ ends) are few =
    let b = are.0 in (
      block_longer done codes more end b,
      subst (λ (cs : List Code). AreEnds end cs ends) (sym (drop-append-le (between done end) codes more b.within))
          (longer end (drop (between done end) codes) more ends are.1 (omega (arith, few, b.some, b.within, length-drop (between done end) codes))),
    )

pub added_added : (a b c : Sum) → added a (added b c) ≡ added (added a b) c
added_added a b c = same_sum _ _ _ _ _ _ (omega arith) (omega arith) (omega arith)

-- the sum before an end, from a later one on
sum_from :
    (done next end : End) (codes : List Code) → IsBlock done codes next → between done end ≡ between done next + between next end
    → end.sum ≡ added done.sum (sum_of (take (between done end) codes)) → end.sum ≡ added next.sum (sum_of (take (between next end) (drop (between done next) codes)))
sum_from done next end codes b apart is =
    let front : List Code = take (between done next) codes in
    let back : List Code = take (between next end) (drop (between done next) codes) in
    is ∙ ap (λ (k : ℕ). added done.sum (sum_of (take k codes))) apart
    ∙ ap (λ (cs : List Code). added done.sum (sum_of cs)) (take-add (between done next) (between next end) codes)
    ∙ ap (λ (s : Sum). added done.sum s) (sym (sum-append front back))
    ∙ added_added done.sum (sum_of front) (sum_of back)
    ∙ ap (λ (s : Sum). added s (sum_of back)) (sym b.sum_is)

-- one more end, and more codes behind it
pub ended :
    (done : End) (codes more : List Code) (ends : List End) (end : End) → AreEnds done codes ends → (last_end done ends).count < end.count
    → (0 < (last_end done ends).count → (last_end done ends).count + 1 < end.count)
    → end.count ≤ done.count + length codes → end.sum ≡ added done.sum (sum_of (take (between done end) codes))
    → done.count + (length codes + length more) ≤ end.count + 64 → end.count + 1 < done.count + (length codes + length more)
    → AreEnds done (codes ++ more) (ends ++ end ∷ [])
ended done codes more [] end are later apart within sum_is few two =
    let all = length-append codes more in
    let rest = length-drop (between done end) (codes ++ more) in (
      block_longer done codes more end (record { some = later; two = λ some. omega (arith, apart some); few = omega (arith, are.0, within); within = omega (arith, within); sum_is = sum_is }),
      (omega (arith, all, rest, few, within, later), λ some. omega (arith, all, rest, two, within, later)),
    )
ended done codes more (next ∷ ends) end are later two_more within sum_is few two =
    let b = are.0 in
    let r = reach next (drop (between done next) codes) ends are.1 in
    let rest = length-drop (between done next) codes in
    let apart : between done end ≡ between done next + between next end = omega (arith, b.some, r.later, later) in (
      block_longer done codes more next b,
      subst (λ (cs : List Code). AreEnds next cs (ends ++ end ∷ [])) (sym (drop-append-le (between done next) codes more b.within))
          (ended next (drop (between done next) codes) more ends end are.1 later two_more (omega (arith, within, b.some, b.within, rest)) (sum_from done next end codes b apart sum_is)
          (omega (arith, few, b.some, b.within, rest)) (omega (arith, two, b.some, b.within, rest))),
    )

-- another code in the place of one of the last two
pub set_late :
    (done : End) (codes : List Code) (ends : List End) (k : ℕ) (code : Code) → AreEnds done codes ends → length codes ≤ k + 2 → AreEnds done (set codes k code) ends
set_late done codes [] k code are late = (omega (arith, are.0, length-set codes k code), λ some. omega (arith, are.1 some, length-set codes k code))
set_late done codes (end ∷ ends) k code are late =
    let b = are.0 in
    let r = reach end (drop (between done end) codes) ends are.1 in
    let rest = length-drop (between done end) codes in
    let some : 0 < (last_end end ends).count = omega (arith, b.some, r.later) in
    let behind : between done end ≤ k = omega (arith, r.two some, r.later, b.some, b.within, rest, late) in
    let place : k ≡ between done end + (k - between done end) = omega arith in (
      record {
        some = b.some;
        two = b.two;
        few = b.few;
        within = omega (arith, b.within, length-set codes k code);
        sum_is = b.sum_is ∙ ap (λ (cs : List Code). added done.sum (sum_of cs)) (sym (take-set-le (between done end) codes k code behind));
      },
      subst (λ (cs : List Code). AreEnds end cs ends)
          (sym (ap (λ (i : ℕ). drop (between done end) (set codes i code)) place ∙ drop-set-add (between done end) codes (k - between done end) code))
          (set_late end (drop (between done end) codes) ends (k - between done end) code are.1 (omega (arith, late, behind, rest))),
    )

pub none_added : (s : Sum) → s ≡ added start.sum s
none_added s = same_sum s.kept (0 + s.kept) s.deleted (0 + s.deleted) s.inserted (0 + s.inserted) (omega arith) (omega arith) (omega arith)

-- the last end, of a block of up to 64 codes, and the codes behind it
module _
    (codes : List Code) (ends : List End) (before : ℕ) (before_is : before ≡ (last_end start ends).count) (are : AreEnds start codes ends) where
  pub before_few : before ≤ length codes
  before_few = omega (arith, (reach start codes ends are).within, before_is)

  pub more_codes : (more : List Code) → length codes - before + length more ≤ 64 → AreEnds start (codes ++ more) ends
  more_codes more few = longer start codes more ends are (omega (arith, few, before_few, before_is))

  pub before_two : 0 < before → before + 1 < length codes
  before_two some = omega (arith, (reach start codes ends are).two (omega (arith, some, before_is)), before_is)

  pub more_ends :
      (more : List Code) (end : End) → before < end.count → (0 < before → before + 1 < end.count) → end.count ≤ length codes → end.sum ≡ sum_of (take end.count codes) → length codes + length more ≤ end.count + 64
      → end.count + 1 < length codes + length more → AreEnds start (codes ++ more) (ends ++ end ∷ [])
  more_ends more end later two_more within sum_is few two =
      let whole : end.count - 0 ≡ end.count = omega arith in
      ended start codes more ends end are (omega (arith, later, before_is)) (λ some. omega (arith, two_more (omega (arith, some, before_is)), before_is)) (omega (arith, within))
      (sum_is ∙ none_added (sum_of (take end.count codes)) ∙ ap (λ (k : ℕ). added start.sum (sum_of (take k codes))) (sym whole))
      (omega (arith, few)) (omega (arith, two))

-- an end before the last code of a block that is full
pub end_before_last :
    (codes : List Code) (i : ℕ) (total less : Sum) (last : Code) → i + 1 ≡ length codes → total ≡ sum_of codes → last ≡ get_or codes i last → less ≡ lessened total last
    → less ≡ sum_of (take i codes)
end_before_last codes i total less last h total_is last_is less_is =
    less_is ∙ ap (λ (s : Sum). lessened s last) (total_is ∙ ap sum_of (front_last codes i last h ∙ ap (λ (c : Code). take i codes ++ c ∷ []) (sym last_is)))
    ∙ less_last (take i codes) last

pub last_counted :
    (codes : List Code) (i : ℕ) (total : Sum) (last : Code) → i + 1 ≡ length codes → total ≡ sum_of codes → last ≡ get_or codes i last → HasPart total last
last_counted codes i total last h total_is last_is =
    subst (λ (s : Sum). HasPart s last)
    (sym (total_is ∙ ap sum_of (front_last codes i last h ∙ ap (λ (c : Code). take i codes ++ c ∷ []) (sym last_is))))
    (has_last (take i codes) last)
