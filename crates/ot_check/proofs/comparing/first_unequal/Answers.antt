use Rattle.std.proofs.Common.{sym, ◌∙◌, ap, arith, refl}
use Rattle.ot_check.specs.Convergence.{first_unequal}
use Rattle.ot_check.proofs.FirstUnequal.{first_unequal-refl, first_unequal-at, first_unequal-end}
use Rattle.ot_check.proofs.comparing.first_unequal.Goals as goal

pub returns-then-equals : goal.returns-then-equals
returns-then-equals c = sym (ap (first_unequal c.args.a.now) (sym (c.if-equals.ensures.0 refl)) ∙ first_unequal-refl c.args.a.now)

pub returns-then-not-same_at : goal.returns-then-not-same_at
returns-then-not-same_at c =
    sym (first_unequal-at c.args.a.now c.args.b.now c.loop-place.place c.loop-place.invariant (omega arith) (omega arith)
    (λ e. let h = c.if-not-same_at.ensures.1 e in cc))

pub returns : goal.returns
returns c =
    sym (first_unequal-end c.args.a.now c.args.b.now c.min-shorter.result (omega arith) (λ i lt. c.loop-place.invariant i (omega arith))
    (λ e. let h = c.if-equals.ensures.1 e in cc))
