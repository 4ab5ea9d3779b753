use Rattle.std.proofs.Common.{ap, arith, rules, sym, subst, true, ◌≡◌, ◌≤◌, Some}
use Rattle.ot_isa.specs.declared.instruction.Instr.TheVariants.{Acknowledge}
use Rattle.ot_model.specs.Table.{Client, is_joined}
use Rattle.ot_machine.specs.Readers.{ClientHas, head_at}
use Rattle.ot_machine.specs.declared.state.Head.TheVariants.{Ack}
use Rattle.ot_generate.specs.Left.{drain_due}
use Rattle.ot_generate.specs.Walks.{WalkView, HasReceived, HasSpare, MayMake}
use Rattle.ot_generate.proofs.Moving.{has_received, may_acknowledge}
use Rattle.ot_generate.proofs.walk.Walk.receipt.Goals as goal

pub returns-in-Some-Ack-clause-some : goal.returns-in-Some-Ack-clause-some
returns-in-Some-Ack-clause-some c =
    let w : WalkView = record { recorded = c.self.inside.recorded.program; state = c.self.inside.machine; room = c.self.inside.room; is_open = c.self.inside.is_open } in
    let spare = subst (λ (v : WalkView). HasSpare v c.args.spare) (sym c.self.view_is) c.requires.spare in
    let same = ap (λ (v : WalkView). drain_due v.is_open) c.self.view_is in
    let is_due = c.drain_due.ensures in
    let due : drain_due w.is_open ≤ c.args.spare = omega arith in
    let on : c.joined.result ≡ true = search rules in
    let joined = subst (λ b. ClientHas w.state c.args.client (λ (x : Client). is_joined x.phase) b) on c.joined.ensures in
    let head : ClientHas w.state c.args.client (head_at w.state c.args.client 0) (Some Ack) = rw c.in-Some-Ack.field-0-is at c.in-Some-Ack.ensures.entry in
    subst (λ (v : WalkView). MayMake v (Acknowledge c.args.client)) c.self.view_is (may_acknowledge w c.args.client c.args.spare c.self.invariant spare due joined head)

pub returns-in-None-clause-none : goal.returns-in-None-clause-none
returns-in-None-clause-none c = λ _ _. subst (λ (v : WalkView). HasReceived v.state c.args.client) c.self.view_is (has_received c.self.inside.machine c.args.client c.in-None.ensures.entry)
