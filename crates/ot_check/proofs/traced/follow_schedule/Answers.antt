use Rattle.std.proofs.Common.{arith, ◌∙◌, ap, sym, subst, ℕ, refl}
use Rattle.std.specs.Prelude.{Err, Some}
use Rattle.ot_model.specs.declared.shown.Refusal.{Refusal}
use Rattle.ot_check.specs.declared.traced.Followed.TheVariants.{Whole}
use Rattle.ot_check.specs.Following.{IsFollowed}
use Rattle.ot_isa.specs.Program.{IsForClients}
use Rattle.ot_check.proofs.Ending.{instr_at}
use Rattle.ot_check.proofs.Followed.{come_next, followed_stop, followed_end, followed_full}
use Rattle.ot_check.proofs.traced.follow_schedule.Goals as goal

pub follow-requires-clause-client : goal.follow-requires-clause-client
follow-requires-clause-client c =
    subst (λ (k : ℕ). IsForClients k c.in-Some.instr.now) (sym c.loop-place.invariant.traced.clients)
    (instr_at c.args.schedule.now c.loop-place.place c.in-Some.instr.now c.clients-clients.ensures.limits c.in-Some.ensures.some).0

pub returns-in-Err-Refused : goal.returns-in-Err-Refused
returns-in-Err-Refused c =
    subst (λ (r : Refusal). IsFollowed c.args.schedule.now (Whole c.follow.new.self (Some (c.loop-place.place, r)))) (sym c.in-Err-Refused.refusal-is)
    (followed_stop c.args.schedule.now c.loop-place.place c.loop-place.tracer c.follow.new.self c.in-Some.instr.now c.in-Err-Refused.refusal c.clients-clients.ensures.limits c.loop-place.invariant c.in-Some.ensures.some
    (c.follow.ensures.refused c.in-Err-Refused.refusal (c.in-Err-Refused.is ∙ ap Err c.in-Err-Refused.field-0-is)))

pub returns-in-Err-Full : goal.returns-in-Err-Full
returns-in-Err-Full c =
    followed_full c.args.schedule.now c.loop-place.place _ c.loop-place.tracer c.in-Some.instr.now c.follow.new.self.machine c.clients-clients.ensures.limits refl c.loop-place.invariant c.in-Some.ensures.some
    (c.follow.ensures.full (c.in-Err-Full.is ∙ ap Err c.in-Err-Full.field-0-is))

pub loop-place-preserved : goal.loop-place-preserved
loop-place-preserved c =
    come_next c.args.schedule.now c.loop-place.place _ c.loop-place.tracer c.follow.new.self c.in-Some.instr.now c.clients-clients.ensures.limits refl c.loop-place.invariant c.in-Some.ensures.some
    c.in-Ok.ensures.follows

pub returns : goal.returns
returns c =
    followed_end c.args.schedule.now c.loop-place.place c.loop-place.tracer c.clients-clients.ensures.limits (omega (arith, c.loop-place-test.false, c.len-place-end.ensures)) (omega (arith, c.loop-place.auto.place-end, c.len-place-end.ensures)) c.loop-place.invariant
