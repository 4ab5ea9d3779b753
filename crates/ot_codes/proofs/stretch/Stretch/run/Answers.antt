use Rattle.std.proofs.Common.{◌≡◌, ◌-◌, ◌<◌, ℕ, suc, List, take, drop, length, get_or, refl, ◌∙◌, ap, subst, sym, arith}
use Rattle.ot_codes.specs.declared.code.Code.{Code}
use Rattle.ot_codes.specs.declared.end.End.{End}
use Rattle.ot_codes.specs.Codes.{total_of}
use Rattle.ot_codes.specs.Ends.{start, AreEnds}
use Rattle.ot_codes.proofs.Stretches.{end_at, behind_done, sum_between, front_ends, back_ends, rest_of, small_front, small_back}
use Rattle.ot_codes.proofs.stretch.Stretch.run.Goals as goal

pub overflow_sub-count : goal.overflow_sub-count
overflow_sub-count c =
    let s = c.self.inside in
    let e = end_at s.done s.codes.now s.ends.now (c.fitting-blocks.result - 1) start _ c.self.invariant.0 (omega (arith, c.if-blocks-eq0.false, c.fitting-blocks.ensures.within)) refl in
    omega (arith, e.later)

pub prove-unreachable-requires : goal.prove-unreachable-requires
prove-unreachable-requires c =
    let s = c.self.inside in
    let e = end_at s.done s.codes.now s.ends.now (c.fitting-blocks.result - 1) start _ c.self.invariant.0 (omega (arith, c.if-blocks-eq0.false, c.fitting-blocks.ensures.within)) refl in
    omega (arith, c.if-prove.true, e.within)

pub invariant_of-front : goal.invariant_of-front
invariant_of-front c =
    let s = c.self.inside in
    let count = (get_or s.ends.now (c.fitting-blocks.result - 1) start).count - s.done.count in (
      front_ends s.done s.codes.now s.ends.now (c.fitting-blocks.result - 1) start _ c.self.invariant.0 (omega (arith, c.if-blocks-eq0.false, c.fitting-blocks.ensures.within)) refl,
      small_front s.codes.now count c.self.invariant.1,
    )

pub minus-requires-clause-kept : goal.minus-requires-clause-kept
minus-requires-clause-kept c =
    let s = c.self.inside in
    (behind_done s.done s.codes.now _
    (end_at s.done s.codes.now s.ends.now (c.fitting-blocks.result - 1) start _ c.self.invariant.0 (omega (arith, c.if-blocks-eq0.false, c.fitting-blocks.ensures.within)) refl)).kept

pub minus-requires-clause-deleted : goal.minus-requires-clause-deleted
minus-requires-clause-deleted c =
    let s = c.self.inside in
    (behind_done s.done s.codes.now _
    (end_at s.done s.codes.now s.ends.now (c.fitting-blocks.result - 1) start _ c.self.invariant.0 (omega (arith, c.if-blocks-eq0.false, c.fitting-blocks.ensures.within)) refl)).deleted

pub minus-requires-clause-inserted : goal.minus-requires-clause-inserted
minus-requires-clause-inserted c =
    let s = c.self.inside in
    (behind_done s.done s.codes.now _
    (end_at s.done s.codes.now s.ends.now (c.fitting-blocks.result - 1) start _ c.self.invariant.0 (omega (arith, c.if-blocks-eq0.false, c.fitting-blocks.ensures.within)) refl)).inserted

pub invariant_of-behind : goal.invariant_of-behind
invariant_of-behind c =
    let s = c.self.inside in
    let blocks = c.fitting-blocks.result in
    let end = get_or s.ends.now (blocks - 1) start in
    let count = end.count - s.done.count in
    let next : suc (blocks - 1) ≡ blocks = omega (arith, c.if-blocks-eq0.false) in
    subst (λ (codes : List Code). AreEnds end codes (take (length s.ends.now - blocks) (drop blocks s.ends.now)) × (total_of codes < 67108864)) (sym (rest_of s.codes.now count)) (
      subst (λ (ends : List End). AreEnds end (drop count s.codes.now) ends) (ap (λ (k : ℕ). drop k s.ends.now) next ∙ sym (rest_of s.ends.now blocks))
          (back_ends s.done s.codes.now s.ends.now (blocks - 1) start _ c.self.invariant.0 (omega (arith, c.if-blocks-eq0.false, c.fitting-blocks.ensures.within)) refl),
      small_back s.codes.now count c.self.invariant.1,
    )

pub returns-clause-sum : goal.returns-clause-sum
returns-clause-sum c =
    let s = c.self.inside in
    c.minus.ensures
    ∙ sum_between s.done s.codes.now _
    (end_at s.done s.codes.now s.ends.now (c.fitting-blocks.result - 1) start _ c.self.invariant.0 (omega (arith, c.if-blocks-eq0.false, c.fitting-blocks.ensures.within)) refl)
