use Rattle.std.proofs.Common.{subst, sym}
use Rattle.std.specs.Prelude.{not}
use Rattle.ot_isa.specs.declared.instruction.Instr.TheVariants.{Edit}
use Rattle.ot_model.specs.Table.{step}
use Rattle.ot_debug.specs.Changes.{Foretells}
use Rattle.ot_debug.specs.declared.command.Watched.TheVariants as watched
use Rattle.ot_debug.proofs.Foretelling.{edit_goes_on, edit_waits}
use Rattle.ot_debug.proofs.watching.edit_moves.Goals.{in-AwaitingWithBuffer, in_default}
use Rattle.ot_debug.proofs.watching.edit_moves.Goals as goal

pub returns : goal.returns
returns c = λ op.
    elim c.match-matches.branch [
      | in-AwaitingWithBuffer w ↦
          subst (λ b. Foretells (step c.args.machine.now (Edit c.args.own op)) c.args.machine.now (watched.State c.args.own) (not b)) (sym w.matches-is)
          (edit_waits c.args.machine.now c.args.own c.phase.result op c.phase.ensures w.in-AwaitingWithBuffer.is)
      | in_default w ↦
          subst (λ b. Foretells (step c.args.machine.now (Edit c.args.own op)) c.args.machine.now (watched.State c.args.own) (not b)) (sym w.matches-is)
          (edit_goes_on c.args.machine.now c.args.own c.phase.result op c.phase.ensures w.in_default.not-AwaitingWithBuffer)
    ]
