use Rattle.std.proofs.Common.{refl}
use Rattle.ot_faults.proofs.Above.{first_of, only_line}
use Rattle.ot_faults.proofs.reached.first_line.Goals as goal

pub returns-in-Some : goal.returns-in-Some
returns-in-Some c =
    let some = c.in-Some.ensures.some in
    first_of c.args.text.now c.in-Some.line.now c.in-Some.field-0-1.now some.0 some.1

pub returns-in-None : goal.returns-in-None
returns-in-None c = only_line c.args.text.now (c.in-None.ensures.none refl)
