use Rattle.std.proofs.Common.{rules, ap, refl, subst, sym, length, ◌∙◌, false, true, ◌≡◌, List, Some}
use Rattle.std.specs.Prelude.{slice_get}
use Rattle.std.proofs.lemmas.Result.{err_from_is_err_and}
use Rattle.ot_model.specs.Table.{Refused}
use Rattle.ot_machine.specs.declared.seat.Seat.{Seat}
use Rattle.ot_machine.proofs.Effects.{full_named, ready, refused_at}
use Rattle.ot_machine.proofs.RowLaws.{seat_at}
use Rattle.ot_machine.proofs.machine.Machine.check.Goals as goal

pub returns-in_err-check_steps-clause-refused : goal.returns-in_err-check_steps-clause-refused
returns-in_err-check_steps-clause-refused c =
    let p = err_from_is_err_and c.from_residual.result c.from_residual.ensures.1 in
    let full = c.in_err-check_steps.ensures.full in
    rw (p.1, p.2)
    (full_named c.self.inside.server c.self.inside.seats.items c.self.inside.steps c.in-Some.client c.in-Some-get.seat.now c.args.instr.now c.args.self.now
    (record { value = c.self.view_is; named = search rules; at = subst (λ (xs : List Seat). slice_get xs c.in-Some.client ≡ Some c.in-Some-get.seat.now) c.deref.ensures.value (seat_at c.deref.result.now c.in-Some.client (length c.deref.result.now) c.in-Some-get.seat.now refl c.in-Some-get.ensures.lookup.3.0 c.in-Some-get.ensures.lookup.1) }) full.1 ∙ ap Refused (sym full.0))

pub returns-then-joined-is_join-clause-ready : goal.returns-then-joined-is_join-clause-ready
returns-then-joined-is_join-clause-ready c =
    ready c.self.inside.server c.self.inside.seats.items c.self.inside.steps c.in-Some.client c.in-Some-get.seat.now c.args.instr.now c.args.self.now
    (record { value = c.self.view_is; named = search rules; at = subst (λ (xs : List Seat). slice_get xs c.in-Some.client ≡ Some c.in-Some-get.seat.now) c.deref.ensures.value (seat_at c.deref.result.now c.in-Some.client (length c.deref.result.now) c.in-Some-get.seat.now refl c.in-Some-get.ensures.lookup.3.0 c.in-Some-get.ensures.lookup.1) }) (search rules) (search rules)

pub returns-then-joined-clause-refused : goal.returns-then-joined-clause-refused
returns-then-joined-clause-refused c =
    refused_at c.self.inside.server c.self.inside.seats.items c.self.inside.steps c.in-Some.client c.in-Some-get.seat.now c.args.instr.now c.args.self.now true
    (record { value = c.self.view_is; named = search rules; at = subst (λ (xs : List Seat). slice_get xs c.in-Some.client ≡ Some c.in-Some-get.seat.now) c.deref.ensures.value (seat_at c.deref.result.now c.in-Some.client (length c.deref.result.now) c.in-Some-get.seat.now refl c.in-Some-get.ensures.lookup.3.0 c.in-Some-get.ensures.lookup.1) }) (search rules) (search rules) (search rules)

pub returns-clause-refused : goal.returns-clause-refused
returns-clause-refused c =
    refused_at c.self.inside.server c.self.inside.seats.items c.self.inside.steps c.in-Some.client c.in-Some-get.seat.now c.args.instr.now c.args.self.now false
    (record { value = c.self.view_is; named = search rules; at = subst (λ (xs : List Seat). slice_get xs c.in-Some.client ≡ Some c.in-Some-get.seat.now) c.deref.ensures.value (seat_at c.deref.result.now c.in-Some.client (length c.deref.result.now) c.in-Some-get.seat.now refl c.in-Some-get.ensures.lookup.3.0 c.in-Some-get.ensures.lookup.1) }) (search rules) (search rules) (search rules)
