use Rattle.std.proofs.Common.{◌≡◌, arith, refl, sym, ap, ◌∙◌, subst, [], ◌∷◌, length}
use Rattle.ot_isa.specs.Program.{Program, with_instr}
use Rattle.ot_board.specs.declared.receipt.Receipt.{Receipt}
use Rattle.ot_board.specs.Boards.{BoardView, HasRoomFor, IsRecorded, board_in, with_steps}
use Rattle.ot_board.proofs.Boarding.{kept}
use Rattle.ot_board.proofs.board.Board.record_step.Goals as goal

pub invariant_of-self-2 : goal.invariant_of-self-2
invariant_of-self-2 c =
    let b = board_in c.self.inside.machine c.self.inside.recorded.program c.self.inside.out.items c.self.inside.slots.items in
    let a = board_in c.perform.new.machine c.append.new.builder.program c.self.inside.out.items c.self.inside.slots.items in
    let recorded : a.recorded ≡ with_steps b.recorded (c.args.instr ∷ []) =
    c.append.ensures.program ∙ ap (λ (p : Program). with_instr p c.args.instr) c.reserve.ensures.program in
    let room = subst (λ (v : BoardView). HasRoomFor v 1) (sym c.self.view_is) c.requires.room in
    kept b a (c.args.instr ∷ []) c.self.invariant recorded c.in_ok-perform.ensures.ran (omega arith) refl refl c.self.invariant.waiting

pub returns-clause-ok : goal.returns-clause-ok
returns-clause-ok c =
    let b = board_in c.self.inside.machine c.self.inside.recorded.program c.self.inside.out.items c.self.inside.slots.items in
    let a = board_in c.perform.new.machine c.append.new.builder.program c.self.inside.out.items c.self.inside.slots.items in
    let recorded : a.recorded ≡ with_steps b.recorded (c.args.instr ∷ []) =
    c.append.ensures.program ∙ ap (λ (p : Program). with_instr p c.args.instr) c.reserve.ensures.program in
    let receipt : Receipt = record { first = length c.instrs-first.result.now; steps = c.in_ok-steps.steps } in
    subst (λ (v : BoardView). IsRecorded v (c.args.instr ∷ []) v.out a receipt) c.self.view_is (record {
      first = ap length c.instrs-first.ensures.value ∙ ap (λ (p : Program). length p.instrs) c.reserve.ensures.program;
      steps_are = c.in_ok-steps.ensures;
      recorded = recorded;
      ran = c.in_ok-perform.ensures.ran;
      out_is = refl;
      parked_is = refl;
    })
