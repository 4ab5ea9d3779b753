use Rattle.std.proofs.Common.{◌≡◌, ◌+◌, ◌-◌, ◌≤◌, ℕ, arith}
use Rattle.ot_text.proofs.Writing.{kept_more}
use Rattle.ot_text.proofs.writer.Writer.keep.Goals as goal

pub loop-ahead-preserved : goal.loop-ahead-preserved
loop-ahead-preserved g c =
    let m : ℕ = c.args.count - c.loop-ahead.ahead in
    let n : ℕ = c.in_ok-ahead.field-0 in
    let k : ℕ = c.in_ok-ahead-2.field-0 in
    let before : c.loop-ahead.ahead ≤ c.args.count = c.loop-ahead.invariant.within in
    let leaves : n ≤ c.loop-ahead.ahead = c.in_ok-ahead.ensures.most in
    let part : k ≤ c.loop-ahead.ahead - n = c.in_ok-ahead-2.ensures.most in
    let first = kept_more g.T.Item.CAP g.T.Item.total c.args.old.now c.args.self.now c.loop-ahead.self c.keep_leaves.new.self m n c.loop-ahead.invariant.written c.in_ok-ahead.ensures.written in
    let second = kept_more g.T.Item.CAP g.T.Item.total c.args.old.now c.args.self.now c.keep_leaves.new.self c.keep_part.new.self (m + n) k first c.in_ok-ahead-2.ensures.written in
    let all : c.args.count - ((c.loop-ahead.ahead - n) - k) ≡ (m + n) + k = omega arith in
    record { written = rw all second; within = omega arith }
