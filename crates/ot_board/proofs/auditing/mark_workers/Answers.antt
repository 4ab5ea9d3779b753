use Rattle.std.proofs.Common.{◌+◌, ◌<◌, ◌≤◌, length, arith, subst, sym, ap, ◌∙◌, List, ℕ, take}
use Rattle.std.specs.List.{All}
use Rattle.ot_board.specs.declared.receipt.Receipt.{Receipt}
use Rattle.ot_board.specs.Tiling.{end_of, capped, times_in, times_covered, lists}
use Rattle.ot_board.proofs.Tiles.{worker_has, covered_more, marked_more}
use Rattle.ot_board.proofs.auditing.mark_workers.Goals as goal

pub mark_all-requires-clause-within : goal.mark_all-requires-clause-within
mark_all-requires-clause-within c =
    let lie : All (λ (r : Receipt). end_of r ≤ length c.args.marks.now) c.index-workers-w.result.items =
    worker_has (All (λ (r : Receipt). end_of r ≤ length c.args.marks.now)) c.args.workers.now c.loop-w.w _ c.loop-w-test.true c.index-workers-w.is c.requires.within in
    subst (λ (n : ℕ). All (λ (r : Receipt). end_of r ≤ n) c.as_slice.result.now) (sym c.loop-w.auto.marks)
    (subst (λ (rs : List Receipt). All (λ (r : Receipt). end_of r ≤ length c.args.marks.now) rs) (sym c.as_slice.ensures.value) lie)

pub loop-w-preserved : goal.loop-w-preserved
loop-w-preserved c = λ at below.
    let within : at < length c.loop-w.marks = omega arith in
    let before = times_covered at (take c.loop-w.w (lists c.args.workers.now)) in
    c.mark_all.ensures at below
    ∙ ap (λ (n : ℕ). capped (n + times_in at c.as_slice.result.now)) (c.loop-w.invariant at within)
    ∙ ap (λ (rs : List Receipt). capped (capped before + times_in at rs)) c.as_slice.ensures.value
    ∙ marked_more before (times_in at c.index-workers-w.result.items)
    ∙ ap capped (sym (covered_more at c.args.workers.now c.loop-w.w c.index-workers-w.result c.loop-w-test.true c.index-workers-w.is))
