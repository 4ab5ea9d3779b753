use Rattle.std.proofs.Common.{◌≡◌, ◌+◌, ◌<◌, ◌∷◌, [], ◌∙◌, ℕ, ap, arith, sym}
use Rattle.std.specs.Prelude.{decimal}
use Rattle.std.specs.Char.{encode_utf8}
use Rattle.std.proofs.lemmas.Fmt.{decimal_digit}
use Rattle.ot_steps.proofs.operations.digit_of.Goals as goal

written : (number digit : ℕ) → digit < 10 → number ≡ digit → (48 + digit) ∷ [] ≡ decimal number
written number digit low is = sym (ap decimal is ∙ decimal_digit digit low)

pub returns-in-0 : goal.returns-in-0
unfolding encode_utf8
returns-in-0 c = written c.args.number 0 (omega arith) c.in-0.is

pub returns-in-1 : goal.returns-in-1
unfolding encode_utf8
returns-in-1 c = written c.args.number 1 (omega arith) c.in-1.is

pub returns-in-2 : goal.returns-in-2
unfolding encode_utf8
returns-in-2 c = written c.args.number 2 (omega arith) c.in-2.is

pub returns-in-3 : goal.returns-in-3
unfolding encode_utf8
returns-in-3 c = written c.args.number 3 (omega arith) c.in-3.is

pub returns-in-4 : goal.returns-in-4
unfolding encode_utf8
returns-in-4 c = written c.args.number 4 (omega arith) c.in-4.is

pub returns-in-5 : goal.returns-in-5
unfolding encode_utf8
returns-in-5 c = written c.args.number 5 (omega arith) c.in-5.is

pub returns-in-6 : goal.returns-in-6
unfolding encode_utf8
returns-in-6 c = written c.args.number 6 (omega arith) c.in-6.is

pub returns-in-7 : goal.returns-in-7
unfolding encode_utf8
returns-in-7 c = written c.args.number 7 (omega arith) c.in-7.is

pub returns-in-8 : goal.returns-in-8
unfolding encode_utf8
returns-in-8 c = written c.args.number 8 (omega arith) c.in-8.is

pub returns-in-9 : goal.returns-in-9
unfolding encode_utf8
returns-in-9 c = written c.args.number 9 (omega arith) c.in-9.is
