use Rattle.std.proofs.Common.{◌-◌, List, [], ◌++◌, map, replicate, ap, ◌∙◌}
use Rattle.ot_isa.specs.declared.elements.Tagged.{Tagged}
use Rattle.ot_server.specs.History.{History}
use Rattle.ot_model.specs.Table.{present_with, absent}
use Rattle.ot_machine.specs.Seats.{view_of, idle}
use Rattle.ot_machine.proofs.Opening.{opened}
use Rattle.ot_machine.proofs.machine.Machine.with_present.Goals as goal

abbrev document_only : List Tagged → History Tagged
document_only document = record { document = document; log = [] }

pub invariant_of-result : goal.invariant_of-result
invariant_of-result c =
    (opened c.args.clients c.args.present c.args.start.now c.new.result c.add_vacant.new.seats.items c.requires.clients.1 c.requires.clients.2 c.requires.start
    (c.new.ensures ∙ ap document_only c.in_ok-document.ensures.value)
    (c.in_ok-add_vacant.ensures
    ∙ ap (λ vs. vs ++ replicate (c.args.clients - c.args.present) (idle absent))
    (c.in_ok-add_present.ensures
    ∙ ap (λ seats. map view_of seats ++ replicate c.args.present (idle (present_with c.in_ok-document.document))) c.new-seats.ensures.items
    ∙ ap (λ d. replicate c.args.present (idle (present_with d))) c.in_ok-document.ensures.value))).kept

pub returns : goal.returns
returns c =
    (opened c.args.clients c.args.present c.args.start.now c.new.result c.add_vacant.new.seats.items c.requires.clients.1 c.requires.clients.2 c.requires.start
    (c.new.ensures ∙ ap document_only c.in_ok-document.ensures.value)
    (c.in_ok-add_vacant.ensures
    ∙ ap (λ vs. vs ++ replicate (c.args.clients - c.args.present) (idle absent))
    (c.in_ok-add_present.ensures
    ∙ ap (λ seats. map view_of seats ++ replicate c.args.present (idle (present_with c.in_ok-document.document))) c.new-seats.ensures.items
    ∙ ap (λ d. replicate c.args.present (idle (present_with d))) c.in_ok-document.ensures.value))).state
