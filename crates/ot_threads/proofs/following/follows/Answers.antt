use Rattle.std.proofs.Common.{◌≡◌, sym, ◌∙◌, subst, rules, arith}
use Rattle.std.specs.Prelude.{IsTrue}
use Rattle.ot_threads.specs.Stepping.{AreComplete}
use Rattle.ot_threads.proofs.Followed.{IsAllFollowed, all-followed, begun, followed, next-from, not-refused, quiet-from, complete-from, follows-from, never}
use Rattle.ot_threads.proofs.following.follows.Goals as goal

pub loop-place-init : goal.loop-place-init
loop-place-init c =
    begun c.args.plan.now c.args.schedule.now c.in_ok-machine.machine c.in_ok-counts.counts.items _ _ _
    c.clients-clients.ensures.value c.present-present.ensures c.start-2.ensures c.in_ok-machine.ensures c.in_ok-counts.ensures

pub returns-then-not-branch : goal.returns-then-not-branch
returns-then-not-branch c =
    (never, λ all. subst IsTrue c.if-not-branch.true (c.in_ok-is_next.ensures.next.1 (next-from c.args.plan.now c.args.schedule.now c.loop-place.place c.loop-place.machine c.loop-place.counts.items c.in-Some.instr.now c.loop-place.invariant c.in-Some.ensures.some all)))

pub returns-then-not-branch-2 : goal.returns-then-not-branch-2
returns-then-not-branch-2 c =
    let no_step = c.in_ok-perform.ensures.refused c.if-not-branch-2.true in
    (never, λ all. absurd (not-refused c.args.plan.now c.args.schedule.now c.loop-place.place c.loop-place.machine c.loop-place.counts.items c.in-Some.instr.now no_step.0 c.loop-place.invariant c.in-Some.ensures.some no_step.1 all))

pub loop-place-preserved : goal.loop-place-preserved
loop-place-preserved c =
    let moved = c.in_ok-perform.ensures.performed c.if-not-branch-2.false in
    followed c.args.plan.now c.args.schedule.now c.loop-place.place c.loop-place.machine c.perform.new.machine c.loop-place.counts.items c.is_next.new.counts.items c.in-Some.instr.now moved.0
    c.clients-clients.ensures.limits c.loop-place.invariant c.in-Some.ensures.some (c.in_ok-is_next.ensures.next.0 c.if-not-branch.false) moved.1 (c.in_ok-is_next.ensures.counts c.if-not-branch.false)

pub returns : goal.returns
returns c =
    let f : IsAllFollowed c.args.plan.now c.args.schedule.now c.loop-place.machine c.loop-place.counts.items =
    all-followed c.args.plan.now c.args.schedule.now c.loop-place.place c.loop-place.machine c.loop-place.counts.items c.loop-place.invariant (search rules) (search rules) in (
      λ t. follows-from c.args.plan.now c.args.schedule.now c.loop-place.machine c.loop-place.counts.items (search rules) (search rules) (search rules) f
          (c.is_over.ensures.quiet t) (subst (AreComplete c.args.plan.now) c.as_slice.ensures.value (c.is_over.ensures.complete t)),
      λ all. c.is_over.ensures.over (quiet-from c.args.plan.now c.args.schedule.now c.loop-place.machine c.loop-place.counts.items f all)
          (subst (AreComplete c.args.plan.now) (sym c.as_slice.ensures.value) (complete-from c.args.plan.now c.args.schedule.now c.loop-place.machine c.loop-place.counts.items f all)),
    )
