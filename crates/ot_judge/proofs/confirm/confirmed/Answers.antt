use Rattle.std.proofs.Common.{◌≡◌, ◌∙◌, ap, sym, arith, get_or, length, List, Bool, false}
use Rattle.std.proofs.lemmas.Bool.{both_ways}
use Rattle.ot_judge.proofs.Exactly.{written}
use Rattle.ot_judge.proofs.confirm.confirmed.Goals as goal

pub loop-replica-init : goal.loop-replica-init
loop-replica-init c = record {
  long = c.in_ok-marks.ensures.long;
  holds = λ k h. absurd (both_ways (get_or c.in_ok-marks.marks.items k false) (c.in_ok-marks.ensures.none k) h);
}

pub loop-replica-preserved : goal.loop-replica-preserved
loop-replica-preserved c =
    let was : length c.loop-replica.marks.items ≡ c.loop-replica.marks.len = omega (arith, c.loop-replica.marks.ok.0) in
    let now : length c.confirm_replica.new.marks ≡ c.loop-replica.marks.len = omega (arith, c.confirm_replica.auto.marks, c.as_mut_slice.ensures.len) in
    rw (written c.loop-replica.marks.len c.confirm_replica.new.marks c.loop-replica.marks.items now was) (record {
      long = omega (arith, now, was, c.loop-replica.invariant.long);
      holds = c.in_ok-confirm_replica.ensures (λ k h. c.loop-replica.invariant.holds k (sym (ap (λ (ms : List Bool). get_or ms k false) c.as_mut_slice.ensures.value) ∙ h));
    })
