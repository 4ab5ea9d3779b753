use Rattle.std.proofs.Common.{◌≡◌, ◌+◌, ◌≤◌, ◌∙◌, ap, arith, refl, rules, subst, sym}
use Rattle.ot_machine.proofs.RowLaws.{edit_is, edit_done, follows, sends, client_at, tagged_inserts, wanting, performs, joined_of, of_value}
use Rattle.ot_model.specs.Table.{Client, step}
use Rattle.ot_model.specs.Operation.{inserted}
use Rattle.ot_isa.specs.declared.instruction.Instr.TheVariants.{Edit}
use Rattle.ot_machine.specs.Answers.{IsPerformed}
use Rattle.ot_machine.specs.Effects.{is_synchronized}
use Rattle.ot_machine.specs.Seats.{client_of}
use Rattle.ot_machine.proofs.Effects.{client_is, did, receiver}
use Rattle.ot_machine.proofs.Keeping.{client_record}
use Rattle.ot_machine.proofs.machine.Machine.edit.Goals as goal

pub edit-requires-clause-follows : goal.edit-requires-clause-follows
edit-requires-clause-follows g c =
    let here = receiver c.self.inside.server c.self.inside.seats.items c.self.inside.steps c.args.client c.index_mut-seat.result.now c.args.self.now c.self.invariant c.self.view_is c.requires c.index_mut-seat.ensures.value in
    follows c.self.inside.server c.self.inside.seats.items c.self.inside.steps c.args.client c.index_mut-seat.result.now c.in_ok-op.op.base c.self.invariant here.at (joined_of _ here.on) (search rules)

pub edit-requires-clause-sends : goal.edit-requires-clause-sends
edit-requires-clause-sends g c =
    let here = receiver c.self.inside.server c.self.inside.seats.items c.self.inside.steps c.args.client c.index_mut-seat.result.now c.args.self.now c.self.invariant c.self.view_is c.requires c.index_mut-seat.ensures.value in
    sends c.self.inside.server c.self.inside.seats.items c.self.inside.steps c.args.client c.index_mut-seat.result.now c.self.invariant here.at

pub edit-requires-clause-count : goal.edit-requires-clause-count
edit-requires-clause-count g c =
    let many : inserted c.in_ok-op.op ≡ inserted c.args.op.now = rw c.in_ok-op.ensures (tagged_inserts _ _ c.args.op.now) in
    let fits : c.index_mut-seat.result.now.count + inserted c.args.op.now ≤ 15000 = search rules in
    omega (arith, many, fits)

pub returns-in_err-before-clause-refused : goal.returns-in_err-before-clause-refused
returns-in_err-before-clause-refused g c =
    let here = receiver c.self.inside.server c.self.inside.seats.items c.self.inside.steps c.args.client c.index_mut-seat.result.now c.args.self.now c.self.invariant c.self.view_is c.requires c.index_mut-seat.ensures.value in
    wanting c.from_residual-in_err-before.result _ c.from_residual-in_err-before.ensures.1
    (subst (λ s. IsPerformed (step s (Edit c.args.client c.args.op.now))) c.self.view_is
    (performs _ _ _ (edit_is _ c.args.client (client_of c.index_mut-seat.result.now) c.args.op.now
    (client_at c.self.inside.seats.items c.args.client c.index_mut-seat.result.now here.at) here.below (joined_of _ here.on) (search rules) (search rules))))

pub invariant_of-self-2 : goal.invariant_of-self-2
invariant_of-self-2 g c =
    let here = receiver c.self.inside.server c.self.inside.seats.items c.self.inside.steps c.args.client c.index_mut-seat.result.now c.args.self.now c.self.invariant c.self.view_is c.requires c.index_mut-seat.ensures.value in
    (edit_done c.self.inside.server c.self.inside.seats.items c.self.inside.steps c.args.client c.index_mut-seat.result.now c.edit.new.seat c.args.op.now c.in_ok-op.op
    c.self.invariant here.at here.below here.on c.base_len.ensures.operation (search rules) (search rules)
    c.in_ok-op.ensures c.in_ok-before.ensures.ok c.in_ok-before.ensures.down).kept

pub returns-clause-effect : goal.returns-clause-effect
returns-clause-effect g c =
    let here = receiver c.self.inside.server c.self.inside.seats.items c.self.inside.steps c.args.client c.index_mut-seat.result.now c.args.self.now c.self.invariant c.self.view_is c.requires c.index_mut-seat.ensures.value in
    rw c.undone_by-effect.ensures
    (did _ _ (Edit c.args.client c.args.op.now) _ _ _
    (of_value _ _ (Edit c.args.client c.args.op.now) _ c.self.view_is
    (edit_done c.self.inside.server c.self.inside.seats.items c.self.inside.steps c.args.client c.index_mut-seat.result.now c.edit.new.seat c.args.op.now c.in_ok-op.op
    c.self.invariant here.at here.below here.on c.base_len.ensures.operation (search rules) (search rules)
    c.in_ok-op.ensures c.in_ok-before.ensures.ok c.in_ok-before.ensures.down).row) refl
    (c.is_synchronized-sent.ensures ∙ ap (λ (x : Client). is_synchronized x.phase) (sym (client_is c.self.inside.server c.self.inside.seats.items c.self.inside.steps c.args.client c.index_mut-seat.result.now c.args.self.now c.self.view_is here.at))) refl)

pub returns-clause-undo : goal.returns-clause-undo
returns-clause-undo g c = λ yes.
    let here = receiver c.self.inside.server c.self.inside.seats.items c.self.inside.steps c.args.client c.index_mut-seat.result.now c.args.self.now c.self.invariant c.self.view_is c.requires c.index_mut-seat.ensures.value in
    rw (c.undone_by-effect.ensures, c.of.ensures.kept yes)
    (client_record c.self.inside.server c.self.inside.seats.items c.self.inside.steps c.args.client c.index_mut-seat.result.now c.edit.new.seat c.in_ok-before.before c.args.self.now c.self.invariant here.at c.self.view_is (c.in_ok-before.ensures.kept yes))
