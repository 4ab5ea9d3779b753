use Rattle.std.proofs.Common.{◌+◌, ◌/◌, ◌%◌, ◌++◌, ◌∙◌, ℕ, List, ap, arith, sym, take}
use Rattle.std.proofs.lemmas.Fmt.{IsAscii-decimal, decimal_digit}
use Rattle.std.proofs.lemmas.Grind.{take-set_at}
use Rattle.ot_steps.proofs.Short.{put_two, two_digits}
use Rattle.ot_steps.proofs.operations.put_digits.Goals as goal

pub returns-then-number-lt10-clause-put : goal.returns-then-number-lt10-clause-put
returns-then-number-lt10-clause-put c =
    let n = c.args.number in
    take-set_at c.args.bytes.now c.args.at (c.args.at + 1) (48 + n) (omega arith) (omega (arith, c.requires))
    ∙ ap (λ (t : List ℕ). take c.args.at c.args.bytes.now ++ t) (sym (decimal_digit n c.if-number-lt10.true))

pub returns-then-number-lt100-clause-put : goal.returns-then-number-lt100-clause-put
returns-then-number-lt100-clause-put c =
    let n = c.args.number in
    put_two c.args.bytes.now c.args.at (48 + n / 10) (48 + n % 10) c.requires
    ∙ ap (λ (t : List ℕ). take c.args.at c.args.bytes.now ++ t) (sym (two_digits n c.if-number-lt10.false c.if-number-lt100.true))

pub returns-then-number-lt10-clause-ascii : goal.returns-then-number-lt10-clause-ascii
returns-then-number-lt10-clause-ascii c = IsAscii-decimal c.args.number c.ranges.number.fits

pub returns-then-number-lt100-clause-ascii : goal.returns-then-number-lt100-clause-ascii
returns-then-number-lt100-clause-ascii c = IsAscii-decimal c.args.number c.ranges.number.fits

pub returns-clause-ascii : goal.returns-clause-ascii
returns-clause-ascii c = IsAscii-decimal c.args.number c.ranges.number.fits
