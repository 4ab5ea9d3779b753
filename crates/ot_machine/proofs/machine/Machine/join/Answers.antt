use Rattle.std.proofs.Common.{false, refl}
use Rattle.ot_isa.specs.declared.instruction.Instr.TheVariants.{Join}
use Rattle.ot_machine.proofs.RowLaws.{of_value}
use Rattle.ot_machine.proofs.Effects.{did, found}
use Rattle.ot_machine.proofs.Joining.{join_done}
use Rattle.ot_machine.proofs.Keeping.{join_record}
use Rattle.ot_machine.proofs.machine.Machine.join.Goals as goal

pub invariant_of-self-2 : goal.invariant_of-self-2
invariant_of-self-2 g c =
    let here = found c.self.inside.server c.self.inside.seats.items c.self.inside.steps c.args.client c.index_mut-seat.result.now false c.args.self.now c.self.view_is c.requires c.index_mut-seat.ensures.value in
    (join_done c.self.inside.server c.self.inside.seats.items c.self.inside.steps c.args.client c.index_mut-seat.result.now c.join.new.seat c.revision-revision.result c.document.result.now c.self.invariant
    here.at here.below here.on c.revision-revision.ensures.value c.document.ensures c.in_ok-join.ensures.ok c.in_ok-join.ensures.down).kept

pub returns-clause-effect : goal.returns-clause-effect
returns-clause-effect g c =
    let here = found c.self.inside.server c.self.inside.seats.items c.self.inside.steps c.args.client c.index_mut-seat.result.now false c.args.self.now c.self.view_is c.requires c.index_mut-seat.ensures.value in
    rw c.undone_by.ensures
    (did _ _ (Join c.args.client) _ _ _
    (of_value _ _ (Join c.args.client) _ c.self.view_is
    (join_done c.self.inside.server c.self.inside.seats.items c.self.inside.steps c.args.client c.index_mut-seat.result.now c.join.new.seat c.revision-revision.result c.document.result.now c.self.invariant
    here.at here.below here.on c.revision-revision.ensures.value c.document.ensures c.in_ok-join.ensures.ok c.in_ok-join.ensures.down).row) refl refl refl)

pub returns-clause-undo : goal.returns-clause-undo
returns-clause-undo g c = λ yes.
    let here = found c.self.inside.server c.self.inside.seats.items c.self.inside.steps c.args.client c.index_mut-seat.result.now false c.args.self.now c.self.view_is c.requires c.index_mut-seat.ensures.value in
    rw (c.undone_by.ensures, c.of.ensures.kept yes)
    (join_record c.self.inside.server c.self.inside.seats.items c.self.inside.steps c.args.client c.index_mut-seat.result.now c.join.new.seat c.args.self.now c.self.invariant here.at here.on c.self.view_is)
