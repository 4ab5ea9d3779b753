use Rattle.std.proofs.Common.{◌+◌, ◌-◌, ◌/◌, ◌≤◌, ℕ, List, arith, subst, sym}
use Rattle.ot_judge.specs.Seats.{KeepsFalls}
use Rattle.ot_judge.proofs.Seated.{agrees-halves, agrees-kept, agrees-nowhere}
use Rattle.ot_judge.proofs.falls.+falls_at.Goals as goal

pub returns-then-falls_nowhere : goal.returns-then-falls_nowhere
returns-then-falls_nowhere t c = λ _. agrees-nowhere c.args.seats.now c.args.xs.now c.args.from c.args.to (c.falls_nowhere.ensures c.if-falls_nowhere.true)

pub returns : goal.returns
returns t c = λ none.
    let seats = c.args.seats.now in
    let xs = c.args.xs.now in
    let from = c.args.from in
    let to = c.args.to in
    let middle : ℕ = from + (to - from) / 2 in
    let low : from ≤ middle = omega (arith, c.if-to-from.false) in
    let high : middle ≤ to = omega (arith, c.if-to-from.false) in
    let one = subst (λ (ys : List ℕ). KeepsFalls seats from to xs ys) (sym c.as_slice.ensures.value) c.in_ok-kept.ensures in
    let two = subst (λ (ys : List ℕ). KeepsFalls seats from to xs ys) (sym c.as_slice-2.ensures.value) c.in_ok-kept.ensures in
    agrees-halves seats xs from middle to
    (agrees-kept seats xs c.as_slice.result.now from to from middle one (omega arith) high (c.in_ok-turn.ensures c.in_default.is))
    (agrees-kept seats xs c.as_slice-2.result.now from to middle to two low (omega arith) (c.in_ok-later.ensures none))
