use Rattle.std.proofs.Common.{◌∙◌, sym, ap, subst, arith, length, inl, inr}
use Rattle.std.specs.Prelude.{◌⊎◌, ◌≤◌, ◌<◌, ◌+◌}
use Rattle.ot_isa.specs.declared.instruction.Instr.{Instr}
use Rattle.ot_isa.specs.declared.instruction.Instr.TheVariants.{Edit}
use Rattle.ot_isa.specs.Tagging.{tagged_operation}
use Rattle.ot_model.specs.Table.{step}
use Rattle.ot_model.specs.Events.{tags}
use Rattle.ot_check.specs.Rows.{edit_made}
use Rattle.ot_check.specs.Following.{counts_of, LeadsTo, Overflows, Follows}
use Rattle.ot_check.specs.declared.tracing.Tracer.{Tracer}
use Rattle.ot_check.proofs.Noting.{EditRead, edit_is, edit_counted, follows_event, overflows_event, length-tags}
use Rattle.ot_check.proofs.tracing.Tracer.edit.Goals as goal

pub returns-in_err-self-clause-full : goal.returns-in_err-self-clause-full
returns-in_err-self-clause-full c =
    let old = c.args.self.now in
    let leads = subst (λ (i : Instr). LeadsTo (step old.machine i) c.perform.new.machine) c.requires.is c.in_ok-perform.ensures.done in
    let read : EditRead old.machine (counts_of old.ledger) c.args.client c.inserted-first.result c.phase-phase.result c.document.result.now c.in_ok-before.before.items c.in_ok-seen.seen.items =
    record { list_has = c.document.ensures; before_is = c.in_ok-before.ensures; first_has = c.inserted-first.ensures; phase_has = c.phase-phase.ensures; seen_is = c.in_ok-seen.ensures } in
    let same = edit_is old.machine c.perform.new.machine (counts_of old.ledger) c.args.client c.inserted-first.result c.args.op.now c.phase-phase.result c.document.result.now c.document-document.result.now c.in_ok-before.before.items c.in_ok-seen.seen.items
    c.requires.client read leads c.document-document.ensures in
    let made = edit_made c.args.client (tagged_operation c.args.op.now c.args.client c.inserted-first.result) c.in_ok-before.before.items (tags c.document-document.result.now) c.in_ok-seen.seen.items in
    let full : (4000 ≤ length old.events.items) ⊎ (4000000 < old.entries + c.len-2.result) = elim c.in_err-self.ensures.full [ inl many ↦ inl (omega (arith, many, c.len.ensures)) | inr much ↦ inr much ] in
    λ e. subst (λ (i : Instr). Overflows old i c.perform.new.machine) (sym c.requires.is)
    (overflows_event old (Edit c.args.client c.args.op.now) c.perform.new.machine made c.len-2.result (length-tags c.document-document.result.now ∙ sym c.len-2.ensures.value) same c.requires.within leads full)

pub returns-clause-follows : goal.returns-clause-follows
returns-clause-follows c =
    let old = c.args.self.now in
    let new : Tracer = record { machine = c.perform.new.machine; ledger = c.edit.new.self; events = c.push.new.self; entries = c.in_ok-self.field-0 } in
    let leads = subst (λ (i : Instr). LeadsTo (step old.machine i) c.perform.new.machine) c.requires.is c.in_ok-perform.ensures.done in
    let read : EditRead old.machine (counts_of old.ledger) c.args.client c.inserted-first.result c.phase-phase.result c.document.result.now c.in_ok-before.before.items c.in_ok-seen.seen.items =
    record { list_has = c.document.ensures; before_is = c.in_ok-before.ensures; first_has = c.inserted-first.ensures; phase_has = c.phase-phase.ensures; seen_is = c.in_ok-seen.ensures } in
    let same = edit_is old.machine c.perform.new.machine (counts_of old.ledger) c.args.client c.inserted-first.result c.args.op.now c.phase-phase.result c.document.result.now c.document-document.result.now c.in_ok-before.before.items c.in_ok-seen.seen.items
    c.requires.client read leads c.document-document.ensures in
    let made = edit_made c.args.client (tagged_operation c.args.op.now c.args.client c.inserted-first.result) c.in_ok-before.before.items (tags c.document-document.result.now) c.in_ok-seen.seen.items in
    let event = c.in_ok-event.ensures ∙ ap (λ b. edit_made c.args.client (tagged_operation c.args.op.now c.args.client c.inserted-first.result) b (tags c.document-document.result.now) c.in_ok-seen.seen.items) c.as_slice.ensures.value in
    let counted = edit_counted old.machine old.ledger c.edit.new.self c.args.client c.args.op.now c.phase-phase.result c.phase-phase.ensures c.edit.ensures.made c.edit.ensures.buffered c.edit.ensures.rows in
    subst (Follows old new) (sym c.requires.is)
    (follows_event old new (Edit c.args.client c.args.op.now) c.in_ok-event.event made c.len-2.result event (length-tags c.document-document.result.now ∙ sym c.len-2.ensures.value) same c.requires.within leads counted c.in_ok-push.ensures.items
    c.in_ok-self.ensures.ok.0 (omega (arith, c.in_ok-self.ensures.ok.1, c.len.ensures)) c.in_ok-self.ensures.ok.2)
