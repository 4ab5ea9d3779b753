use Rattle.std.proofs.Common.{◌++◌, ◌∙◌, ℕ, List, ap, arith, sym, take}
use Rattle.ot_steps.proofs.Short.{letter_ascii, letter_quoted, put_three}
use Rattle.ot_steps.proofs.operations.put_letter.Goals as goal

pub returns-clause-put : goal.returns-clause-put
returns-clause-put c =
    put_three c.args.bytes.now c.args.at 34 c.args.letter 34 c.requires
    ∙ ap (λ (t : List ℕ). take c.args.at c.args.bytes.now ++ t)
    (sym (letter_quoted c.args.letter c.if-letter-lt32.false (omega (arith, c.if-letter-gt126.false)) c.if-letter-eq34.false c.if-letter-eq92.false))

pub returns-clause-ascii : goal.returns-clause-ascii
returns-clause-ascii c = letter_ascii c.args.letter c.if-letter-lt32.false (omega (arith, c.if-letter-gt126.false)) c.if-letter-eq34.false c.if-letter-eq92.false
