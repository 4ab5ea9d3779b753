use Rattle.std.proofs.Common.{rules, refl, length, ap, sym, ◌∙◌, ◌<◌, map}
use Rattle.std.specs.Option.{option_map}
use Rattle.ot_client.specs.Client.{message_of}
use Rattle.ot_machine.proofs.Carrying.{outstanding_read, receivable, emptied_read, still_there}
use Rattle.ot_machine.proofs.Reverting.{message_read, some_message}
use Rattle.ot_machine.specs.Seats.{view_of, queued, received_from}
use Rattle.ot_machine.proofs.seat.take_in.Goals as goal

pub receive_outstanding-requires : goal.receive_outstanding-requires
receive_outstanding-requires g c =
    receivable c.args.server.now _ _ c.requires.accepts
    (outstanding_read c.reserve_all.new.seats.items c.args.seats.now.items c.args.client (length c.reserve_all.new.seats.items) c.index.result.now c.reserve_all.ensures.same refl (search rules) (search rules))

pub returns-clause-ok : goal.returns-clause-ok
returns-clause-ok g c =
    c.in_ok-inverse.ensures.ok
    ∙ ap (received_from c.args.server.now c.args.client)
    (sym (outstanding_read c.reserve_all.new.seats.items c.args.seats.now.items c.args.client (length c.reserve_all.new.seats.items) c.index.result.now c.reserve_all.ensures.same refl (search rules) (search rules)))

pub returns-clause-views : goal.returns-clause-views
returns-clause-views g c =
    let there : c.args.client < length c.reserve_all.new.seats.items = search rules in
    emptied_read c.send_all.new.seats.items (map (queued (length c.args.server.now.log)) (map view_of c.args.seats.now.items)) c.args.client (length c.send_all.new.seats.items) c.index_mut.result.now _
    (c.send_all.ensures ∙ ap (λ vs. map (queued c.revision-number.result) vs) c.reserve_all.ensures.same ∙ ap (λ n. map (queued n) (map view_of c.args.seats.now.items)) c.revision-number.ensures.value)
    refl (still_there c.send_all.new.seats.items c.reserve_all.new.seats.items (queued c.revision-number.result) c.args.client c.send_all.ensures there) c.index_mut.ensures.value (rw c.pop.ensures.rest refl)

pub unreachable-requires-in_default : goal.unreachable-requires-in_default
unreachable-requires-in_default g c =
    let there : c.args.client < length c.reserve_all.new.seats.items = search rules in
    some_message c.index_mut.result.now.up _ c.requires.sends
    (message_read c.send_all.new.seats.items c.reserve_all.new.seats.items c.args.seats.now.items c.args.client c.revision-number.result (length c.send_all.new.seats.items) c.index_mut.result.now
    c.send_all.ensures c.reserve_all.ensures.same refl (still_there c.send_all.new.seats.items c.reserve_all.new.seats.items (queued c.revision-number.result) c.args.client c.send_all.ensures there) c.index_mut.ensures.value)
    (sym c.pop.ensures.value ∙ c.in_default.is)

pub returns-clause-message : goal.returns-clause-message
returns-clause-message g c =
    let there : c.args.client < length c.reserve_all.new.seats.items = search rules in
    message_read c.send_all.new.seats.items c.reserve_all.new.seats.items c.args.seats.now.items c.args.client c.revision-number.result (length c.send_all.new.seats.items) c.index_mut.result.now
    c.send_all.ensures c.reserve_all.ensures.same refl (still_there c.send_all.new.seats.items c.reserve_all.new.seats.items (queued c.revision-number.result) c.args.client c.send_all.ensures there) c.index_mut.ensures.value
    ∙ ap (option_map message_of) (sym c.in-Some.ensures.value)
