use Rattle.std.proofs.Common.{◌≡◌, refl, rules, ◌∙◌}
use Rattle.ot_machine.proofs.Taking.{sender_receivable, sender_performs, sender_done, kept_same, state_same}
use Rattle.ot_machine.proofs.RowLaws.{wanting, of_value}
use Rattle.ot_isa.specs.declared.instruction.Instr.TheVariants.{Take}
use Rattle.ot_machine.proofs.Effects.{did, receiver, sender_of}
use Rattle.ot_machine.proofs.Keeping.{sender_sends, kept_take}
use Rattle.ot_machine.proofs.machine.Machine.take.Goals as goal

pub take_in-requires-clause-accepts : goal.take_in-requires-clause-accepts
take_in-requires-clause-accepts g c =
    let sender = sender_of c.self.inside.server c.self.inside.seats.items c.self.inside.steps c.args.client c.index.result.now (receiver c.self.inside.server c.self.inside.seats.items c.self.inside.steps c.args.client c.index.result.now c.args.self.now c.self.invariant c.self.view_is c.requires c.index.ensures) (search rules) in
    sender_receivable c.self.inside.server c.self.inside.seats.items c.self.inside.steps c.args.client c.index.result.now sender

pub take_in-requires-clause-sends : goal.take_in-requires-clause-sends
take_in-requires-clause-sends g c =
    let sender = sender_of c.self.inside.server c.self.inside.seats.items c.self.inside.steps c.args.client c.index.result.now (receiver c.self.inside.server c.self.inside.seats.items c.self.inside.steps c.args.client c.index.result.now c.args.self.now c.self.invariant c.self.view_is c.requires c.index.ensures) (search rules) in
    sender_sends c.self.inside.server c.self.inside.seats.items c.self.inside.steps c.args.client c.index.result.now sender

pub invariant_of-self : goal.invariant_of-self
invariant_of-self g c =
    kept_same c.self.inside.server c.take_in.new.server c.self.inside.seats.items c.take_in.new.seats.items c.self.inside.steps c.self.invariant c.in_err-taken.ensures.server c.in_err-taken.ensures.seats

pub returns-in_err-taken-clause-refused : goal.returns-in_err-taken-clause-refused
returns-in_err-taken-clause-refused g c =
    let sender = sender_of c.self.inside.server c.self.inside.seats.items c.self.inside.steps c.args.client c.index.result.now (receiver c.self.inside.server c.self.inside.seats.items c.self.inside.steps c.args.client c.index.result.now c.args.self.now c.self.invariant c.self.view_is c.requires c.index.ensures) (search rules) in
    wanting c.from_residual.result _ c.from_residual.ensures.1 (sender_performs c.self.inside.server c.self.inside.seats.items c.self.inside.steps c.args.client c.index.result.now c.args.self.now sender c.self.view_is)

pub returns-in_err-taken-clause-unchanged : goal.returns-in_err-taken-clause-unchanged
returns-in_err-taken-clause-unchanged g c =
    let same : _ ≡ c.args.self.now = state_same c.self.inside.server c.take_in.new.server c.self.inside.seats.items c.take_in.new.seats.items c.self.inside.steps c.in_err-taken.ensures.server c.in_err-taken.ensures.seats ∙ c.self.view_is in
    search (rules, same)

pub invariant_of-self-2 : goal.invariant_of-self-2
invariant_of-self-2 g c =
    let sender = sender_of c.self.inside.server c.self.inside.seats.items c.self.inside.steps c.args.client c.index.result.now (receiver c.self.inside.server c.self.inside.seats.items c.self.inside.steps c.args.client c.index.result.now c.args.self.now c.self.invariant c.self.view_is c.requires c.index.ensures) (search rules) in
    (sender_done c.self.inside.server c.take_in.new.server c.self.inside.seats.items c.take_in.new.seats.items c.self.inside.steps c.args.client c.index.result.now sender c.in_ok-taken.ensures.ok c.in_ok-taken.ensures.views).kept

pub returns-clause-effect : goal.returns-clause-effect
returns-clause-effect g c =
    let sender = sender_of c.self.inside.server c.self.inside.seats.items c.self.inside.steps c.args.client c.index.result.now (receiver c.self.inside.server c.self.inside.seats.items c.self.inside.steps c.args.client c.index.result.now c.args.self.now c.self.invariant c.self.view_is c.requires c.index.ensures) (search rules) in
    rw c.undone_by.ensures
    (did _ _ (Take c.args.client) _ _ _
    (of_value _ _ (Take c.args.client) _ c.self.view_is
    (sender_done c.self.inside.server c.take_in.new.server c.self.inside.seats.items c.take_in.new.seats.items c.self.inside.steps c.args.client c.index.result.now sender c.in_ok-taken.ensures.ok c.in_ok-taken.ensures.views).row) refl refl refl)

pub returns-clause-undo : goal.returns-clause-undo
returns-clause-undo g c = λ yes.
    let sender = sender_of c.self.inside.server c.self.inside.seats.items c.self.inside.steps c.args.client c.index.result.now (receiver c.self.inside.server c.self.inside.seats.items c.self.inside.steps c.args.client c.index.result.now c.args.self.now c.self.invariant c.self.view_is c.requires c.index.ensures) (search rules) in
    rw (c.undone_by.ensures, c.of_take.ensures)
    (kept_take c.self.inside.server c.take_in.new.server c.self.inside.seats.items c.take_in.new.seats.items c.self.inside.steps c.args.client c.index.result.now c.in_ok-taken.taken.0 c.in_ok-taken.taken.1 c.args.self.now sender
    c.in_ok-taken.ensures.ok c.in_ok-taken.ensures.views c.in_ok-taken.ensures.message (c.in_ok-taken.ensures.undo yes) c.self.view_is)
