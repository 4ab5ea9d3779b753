use Rattle.std.proofs.Common.{◌≡◌, ◌<◌, ◌≤◌, ℕ, arith, get_or, length, refl, subst}
use Rattle.std.proofs.lemmas.Bool.{both_ways}
use Rattle.std.proofs.lemmas.List.{get_or_default}
use Rattle.ot_judge.specs.declared.seats.Seat.{Seat}
use Rattle.ot_judge.specs.Seats.{IsIn}
use Rattle.ot_judge.proofs.Seated.{KeptFalls, kept-all, kept-more, kept-past}
use Rattle.ot_judge.proofs.falls.fallen.Goals.{then-is_fallen+in_ok-push, else-is_fallen}
use Rattle.ot_judge.proofs.falls.fallen.Goals as goal

pub loop-i-preserved : goal.loop-i-preserved
loop-i-preserved c =
    let seats = c.args.seats.now in
    let xs = c.args.xs.now in
    let from = c.args.from in
    let to = c.args.to in
    let behind = c.in_ok-behind.behind.items in
    let x = get_or xs c.loop-i.i 0 in
    let at = get_or_default behind c.loop-i.i c.index.result.now 0 (omega (arith, c.loop-i-test.true, c.in_ok-behind.ensures.long)) in
    let high = subst (λ (s : Seat). IsIn s from to → s.place ≤ c.raised-highest.result) c.seat_of-seat.ensures c.raised-highest.ensures.here in
    elim c.if-is_fallen.branch [
      | then-is_fallen+in_ok-push w ↦ rw w.kept-is (kept-more seats xs behind c.loop-i.kept.items w.push.new.self.items from to c.loop-i.i c.loop-i.highest c.raised-highest.result x c.loop-i-test.true refl w.in_ok-push.ensures.items c.raised-highest.ensures.more high c.in_ok-behind.ensures.least c.loop-i.invariant)
      | else-is_fallen w ↦
          let not_behind = subst (λ (s : Seat). IsIn s from to → ¬ (s.place < c.loop-i.highest)) c.seat_of-seat.ensures (λ stands less. both_ways c.is_fallen.result w.if-is_fallen.false (c.is_fallen.ensures.behind stands less)) in
          let not_before = subst (λ (s : Seat). IsIn s from to → ¬ (get_or behind c.loop-i.i 0 < s.place)) c.seat_of-seat.ensures (λ stands less. both_ways c.is_fallen.result w.if-is_fallen.false (c.is_fallen.ensures.before stands (omega (arith, less, at, c.index.ensures)))) in
          rw w.kept-is (kept-past seats xs behind c.loop-i.kept.items from to c.loop-i.i c.loop-i.highest c.raised-highest.result x c.loop-i-test.true refl c.raised-highest.ensures.more high not_behind not_before c.loop-i.invariant)
    ]

pub returns : goal.returns
returns c =
    let all : c.loop-i.i ≡ length c.args.xs.now = omega arith in
    kept-all c.args.seats.now c.args.xs.now c.in_ok-behind.behind.items c.loop-i.kept.items c.args.from c.args.to c.loop-i.highest
    (subst (λ (n : ℕ). KeptFalls c.args.seats.now c.args.xs.now c.in_ok-behind.behind.items c.loop-i.kept.items c.args.from c.args.to n c.loop-i.highest) all c.loop-i.invariant)
