use Rattle.std.proofs.Common.{rules, ◌≡◌, ◌+◌, ◌∙◌, Some, slice_get, arith, length, refl, sym, subst}
use Rattle.std.proofs.lemmas.Option.{slice_get_within, same_Some}
use Rattle.ot_machine.specs.declared.seat.Seat.{Seat}
use Rattle.ot_machine.specs.Common.{IsSynchronizedAt}
use Rattle.ot_machine.specs.Seats.{client_of}
use Rattle.ot_machine.proofs.RowLaws.{seat_at}
use Rattle.ot_machine.proofs.Sharing.{at_rest, common_server, common_other}
use Rattle.ot_machine.proofs.machine.Machine.common_list.Goals as goal

pub returns-then-revision-newest-clause-list : goal.returns-then-revision-newest-clause-list
returns-then-revision-newest-clause-list c =
    let seats = c.self.inside.seats.items in
    let seat = c.index-seat.result.now in
    common_server c.self.inside.server seats c.self.inside.steps c.args.client c.revision-revision.result seat c.args.self.now c.in_common_with_server.result
    c.self.invariant (seat_at seats c.args.client c.len.result seat (search rules) (search rules) c.index-seat.ensures)
    (at_rest seat c.revision-revision.result c.in-Some-Synchronized.here (search rules) (search rules)) c.self.view_is
    (c.if-revision-newest.true ∙ c.revision-newest.ensures.value) c.in_common_with_server.ensures.copy

pub index_mut-requires : goal.index_mut-requires
index_mut-requires c =
    let found = c.in-Some.ensures in
    let within = slice_get_within c.self.inside.seats.items c.in-Some.other found.0 (search rules) in
    omega (arith, within)

pub returns-clause-list : goal.returns-clause-list
returns-clause-list c =
    let seats = c.self.inside.seats.items in
    let seat = c.index-seat.result.now in
    let found = c.in-Some.ensures in
    let d = c.in-Some.other in
    let other = c.index_mut.result.now in
    let is : slice_get seats d ≡ Some found.0 = rw c.as_slice-2.ensures.value at found.1 in
    let there = seat_at seats d (length seats) other refl (slice_get_within seats d found.0 is) c.index_mut.ensures.value in
    let same : found.0 ≡ other = same_Some found.0 other (sym is ∙ there) in
    common_other c.self.inside.server seats c.self.inside.steps c.args.client c.revision-revision.result d seat other c.args.self.now c.in_common.result
    c.self.invariant (seat_at seats c.args.client c.len.result seat (search rules) (search rules) c.index-seat.ensures)
    (at_rest seat c.revision-revision.result c.in-Some-Synchronized.here (search rules) (search rules)) c.self.view_is
    there (subst (λ (s : Seat). IsSynchronizedAt (c.revision-revision.result + 1) (client_of s)) same found.2) c.in_common.ensures.copy
