use Rattle.ot_commands.proofs.Looped.{debugged}
use Rattle.ot_commands.proofs.debugging.debug_text.Goals as goal

pub returns-in-Ok : goal.returns-in-Ok
returns-in-Ok g c =
    debugged (g.I.Read.remaining c.args.input.now) (g.I.Read.remaining c.assemble_until_mark.new.reader)
    (g.I.Source.failed c.answer_commands.new.input) c.in-Ok.schedule c.in-Ok.taken c.answer_commands.result _ c.in-Ok.ensures.part c.in-Ok.ensures.ok c.answer_commands.ensures
