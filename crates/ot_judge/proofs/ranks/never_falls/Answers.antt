use Rattle.std.proofs.Common.{◌≡◌, ℕ, length, arith, subst}
use Rattle.ot_judge.proofs.TagLemmas.{no_tag}
use Rattle.ot_judge.proofs.Filtered.{RisesTo, rises-to-none, rises-to-more, rises-to-all}
use Rattle.ot_judge.proofs.ranks.never_falls.Goals as goal

pub loop-i-init : goal.loop-i-init
loop-i-init c = rises-to-none c.args.ranks.now c.args.xs.now

pub loop-i-preserved : goal.loop-i-preserved
loop-i-preserved c = rises-to-more c.args.ranks.now c.args.xs.now c.loop-i.i c.loop-i.highest c.place_in-rank.result no_tag c.loop-i-test.true c.place_in-rank.ensures c.if-rank-highest.false c.loop-i.invariant

pub returns : goal.returns
returns c = λ h.
    let all : c.loop-i.i ≡ length c.args.xs.now = omega arith in
    rises-to-all c.args.ranks.now c.args.xs.now c.loop-i.highest (subst (λ (n : ℕ). RisesTo c.args.ranks.now c.args.xs.now n c.loop-i.highest) all c.loop-i.invariant)
