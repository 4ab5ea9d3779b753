use Rattle.std.proofs.Common.{ap}
use Rattle.ot_text.specs.Components.{run_of}
use Rattle.ot_steps.proofs.Short.{ascii_if, retained_ascii, skipped_ascii}
use Rattle.ot_steps.proofs.operations.put_item.Goals as goal

pub returns-in-Retain-clause-ascii : goal.returns-in-Retain-clause-ascii
returns-in-Retain-clause-ascii g c =
    ascii_if c.put_digits.result _ (retained_ascii g.T.Letter.code (run_of c.args.component) c.in-Retain.count (ap run_of c.in-Retain.is) c.put_digits.ensures.ascii)

pub returns-in-Delete-clause-ascii : goal.returns-in-Delete-clause-ascii
returns-in-Delete-clause-ascii g c =
    ascii_if c.put_digits-in-Delete.result _
    (skipped_ascii g.T.Letter.code (run_of c.args.component) c.in-Delete.count (ap run_of c.in-Delete.is) c.requires.filled c.put_digits-in-Delete.ensures.ascii)
