use Rattle.ot_commands.proofs.ListedSessions.{always_err, listed, listed_part, lists_nothing}
use Rattle.ot_commands.proofs.listing.print_sessions.Goals as goal

pub returns-in_err-printer-clause-err : goal.returns-in_err-printer-clause-err
returns-in_err-printer-clause-err g c =
    always_err c.from_residual.result (lists_nothing g.O.Write.contents g.O.Sink.failed c.args.space.now c.args.part.now c.args.output.now)

pub returns-in_err-visit_part-clause-err : goal.returns-in_err-visit_part-clause-err
returns-in_err-visit_part-clause-err g c =
    let e = c.in_err-visit_part.ensures.err in
    always_err c.from_residual-in_err-visit_part.result
    (listed_part g.O.Write.contents g.O.Sink.failed c.args.space.now c.args.part.now c.in_ok-printer.printer e.0 c.args.output.now c.visit_part.new.output c.in_ok-printer.ensures e.1)

pub returns-clause-ok : goal.returns-clause-ok
returns-clause-ok g c =
    listed g.O.Write.contents g.O.Sink.failed c.args.space.now c.args.part.now c.in_ok-printer.printer c.in_ok-visit_part.field-0 c.args.output.now c.visit_part.new.output c.in_ok-printer.ensures c.in_ok-visit_part.ensures.ok
