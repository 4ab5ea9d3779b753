use Rattle.std.proofs.Common.{◌∙◌, sym, subst, arith, length, inl, inr, refl}
use Rattle.std.specs.Prelude.{◌⊎◌, ◌≤◌, ◌<◌, ◌+◌}
use Rattle.ot_isa.specs.declared.instruction.Instr.{Instr}
use Rattle.ot_isa.specs.declared.instruction.Instr.TheVariants.{Read}
use Rattle.ot_model.specs.Table.{step}
use Rattle.ot_model.specs.Events.{tags}
use Rattle.ot_check.specs.Rows.{read_event}
use Rattle.ot_check.specs.Following.{counts_of, LeadsTo, Overflows, Follows}
use Rattle.ot_check.specs.declared.tracing.Tracer.{Tracer}
use Rattle.ot_check.proofs.Noting.{read_is, follows_event, overflows_event, length-tags}
use Rattle.ot_check.proofs.tracing.Tracer.read.Goals as goal

pub returns-in_err-self-clause-full : goal.returns-in_err-self-clause-full
returns-in_err-self-clause-full c =
    let old = c.args.self.now in
    let leads = subst (λ (i : Instr). LeadsTo (step old.machine i) c.perform.new.machine) c.requires.is c.in_ok-perform.ensures.done in
    let made = read_event c.args.client (tags c.document-document.result.now) c.in_ok-seen.seen.items in
    let same = read_is old.machine c.perform.new.machine (counts_of old.ledger) c.args.client c.document-document.result.now c.in_ok-seen.seen.items leads c.document-document.ensures c.in_ok-seen.ensures in
    let full : (4000 ≤ length old.events.items) ⊎ (4000000 < old.entries + c.len-2.result) = elim c.in_err-self.ensures.full [ inl many ↦ inl (omega (arith, many, c.len.ensures)) | inr much ↦ inr much ] in
    λ e. subst (λ (i : Instr). Overflows old i c.perform.new.machine) (sym c.requires.is)
    (overflows_event old (Read c.args.client) c.perform.new.machine made c.len-2.result (length-tags c.document-document.result.now ∙ sym c.len-2.ensures.value) same c.requires.within leads full)

pub returns-clause-follows : goal.returns-clause-follows
returns-clause-follows c =
    let old = c.args.self.now in
    let new : Tracer = record { machine = c.perform.new.machine; ledger = record { made = old.ledger.made; buffered = old.ledger.buffered; rows = old.ledger.rows }; events = c.push.new.self; entries = c.in_ok-self.field-0 } in
    let leads = subst (λ (i : Instr). LeadsTo (step old.machine i) c.perform.new.machine) c.requires.is c.in_ok-perform.ensures.done in
    let made = read_event c.args.client (tags c.document-document.result.now) c.in_ok-seen.seen.items in
    let same = read_is old.machine c.perform.new.machine (counts_of old.ledger) c.args.client c.document-document.result.now c.in_ok-seen.seen.items leads c.document-document.ensures c.in_ok-seen.ensures in
    subst (Follows old new) (sym c.requires.is)
    (follows_event old new (Read c.args.client) c.in_ok-event.event made c.len-2.result c.in_ok-event.ensures (length-tags c.document-document.result.now ∙ sym c.len-2.ensures.value) same c.requires.within leads refl c.in_ok-push.ensures.items
    c.in_ok-self.ensures.ok.0 (omega (arith, c.in_ok-self.ensures.ok.1, c.len.ensures)) c.in_ok-self.ensures.ok.2)
