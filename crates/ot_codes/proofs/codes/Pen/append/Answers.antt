use Rattle.std.proofs.Common.{length, ap, arith, append-nil}
use Rattle.ot_codes.proofs.codes.Pen.append.Goals as goal

pub invariant_of-self-2 : goal.invariant_of-self-2
invariant_of-self-2 c = λ long.
    omega (arith, long, c.sum.ensures.base, c.sum.ensures.target, c.sum.ensures.base_fits, c.sum.ensures.target_fits, ap length (append-nil c.append_run-done.new.self.image))
