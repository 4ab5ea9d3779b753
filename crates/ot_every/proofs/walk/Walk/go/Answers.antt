use Rattle.std.proofs.Common.{rules, subst, sym}
use Rattle.ot_every.specs.Walking.{GoesOrStays}
use Rattle.ot_every.proofs.Stepping.{went}
use Rattle.ot_every.proofs.walk.Walk.go.Goals as goal

pub returns-in-Ok : goal.returns-in-Ok
returns-in-Ok c =
    subst (GoesOrStays c.args.self.now c.args.instr.now c.record.new.self) (sym c.into_undo.ensures)
    (went c.args.self.now c.record.new.self c.args.instr.now c.perform.new.self _ c.in_ok-mark.mark c.in-Ok.effect.undo
    (c.in-Ok.ensures.undo (search rules)) c.in-Ok.ensures.effect.led c.in_ok-record-in-Ok.ensures.machine c.in_ok-record-in-Ok.ensures.instrs c.in_ok-record-in-Ok.ensures.marks c.in_ok-mark.ensures)
