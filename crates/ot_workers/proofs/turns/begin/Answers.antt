use Rattle.std.proofs.Common.{rules, arith, ◌≡◌, ℕ, ◌<◌, ◌≤◌, List, Option, Some, length, ◌∙◌, sym, subst, ap, inr}
use Rattle.std.specs.Vec.{with_items}
use Rattle.std.proofs.lemmas.List.{with_items_is}
use Rattle.ot_board.specs.declared.lent.Lent.{Lent}
use Rattle.ot_board.specs.Lents.{session_of}
use Rattle.ot_model.specs.Table.{State}
use Rattle.ot_plan.specs.declared.typing.Typing.{Typing}
use Rattle.ot_workers.specs.Choosing.{choice, IsTaskFor}
use Rattle.ot_workers.specs.declared.choosing.Seat.{Seat}
use Rattle.ot_workers.specs.declared.fault.WorkFault.{WorkFault}
use Rattle.ot_workers.specs.Turns.{is_any_out, IsHadFrom, IsNotBegun, IsShortage, next_action}
use Rattle.ot_workers.proofs.Receipted.{receipts_more}
use Rattle.ot_workers.proofs.Round.{chosen_at}
use Rattle.ot_workers.proofs.Seen.{by_residual, chosen_seat, cut_off, looked_at}
use Rattle.ot_workers.proofs.turns.begin.Goals as goal

pub returns-in_err-lent-in-Some-clause-receipts : goal.returns-in_err-lent-in-Some-clause-receipts
returns-in_err-lent-in-Some-clause-receipts c =
    receipts_more c.args.inside.now.board c.take_all.new.board c.have.new.board c.args.receipts.now.items c.take_all.new.receipts.items c.have.new.receipts.items
    c.take_all.ensures.receipts c.have.ensures.receipts

pub returns-in_ok-lent-in-Some-clause-next : goal.returns-in_ok-lent-in-Some-clause-next
returns-in_ok-lent-in-Some-clause-next c =
    let b = c.take_all.new.board in
    let number : c.in-Ok.number ≡ c.in-Some.client = search (rules, c.in-Ok.ensures) in
    let seats = with_items c.args.inside.now.seats c.look.new.seats in
    let size : length c.look.new.seats ≡ c.args.inside.now.seats.len = search (rules, c.look.auto.seats, c.as_mut_slice.ensures.len) in
    let shown : seats.items ≡ c.look.new.seats = with_items_is c.args.inside.now.seats c.look.new.seats size in
    let first : c.choose.result ≡ choice seats.items c.args.worker c.args.turn =
    c.choose.ensures ∙ ap (λ (l : List Seat). choice l c.args.worker c.args.turn) c.as_slice-2.ensures.value in
    let chosen : choice seats.items c.args.worker c.args.turn ≡ Some (c.in-Some.client, c.in-Some.way) =
    sym first ∙ c.in-Some.is in
    let action = c.next_action-action.ensures ∙ ap (λ (l : List ℕ). next_action c.args.typing.now l c.in-Some.client) c.as_slice-in-Some.ensures.value in
    let long : length c.look.new.seats ≡ length c.args.inside.now.seats.items = search (rules, c.look.auto.seats, c.as_mut_slice.ensures) in
    record {
      board = b;
      looked = looked_at c.args.typing.now c.args.inside.now b c.args.receipts.now.items c.take_all.new.receipts.items c.as_slice.result.now seats.items c.look.new.seats
          c.if-inside.false c.take_all.ensures.takes c.in_ok-take_all.ensures.taken c.take_all.ensures.receipts c.as_slice.ensures.value shown long c.look.ensures;
      client = c.in-Some.client;
      way = c.in-Some.way;
      chosen = chosen;
      had = subst (λ (l : Lent). IsHadFrom b c.in-Some.client c.in-Some.way (session_of l) c.have.new.board) (sym c.in_hand.ensures.lent)
          (subst (λ k. IsHadFrom b k c.in-Some.way (session_of c.in_ok-lent-in-Some.lent) c.have.new.board) number c.in_ok-lent-in-Some.ensures.had);
      task = subst (λ (o : Option Typing). IsTaskFor c.in-Some.way o c.in_hand.result.task) action c.in_hand.ensures.task;
    }

pub returns-in_ok-lent-in-Some-clause-receipts : goal.returns-in_ok-lent-in-Some-clause-receipts
returns-in_ok-lent-in-Some-clause-receipts c =
    receipts_more c.args.inside.now.board c.take_all.new.board c.have.new.board c.args.receipts.now.items c.take_all.new.receipts.items c.have.new.receipts.items
    c.take_all.ensures.receipts c.have.ensures.receipts

pub unreachable-requires : goal.unreachable-requires
unreachable-requires c =
    let b = c.take_all.new.board in
    let seats = with_items c.args.inside.now.seats c.look.new.seats in
    let size : length c.look.new.seats ≡ c.args.inside.now.seats.len = search (rules, c.look.auto.seats, c.as_mut_slice.ensures.len) in
    let shown : seats.items ≡ c.look.new.seats = with_items_is c.args.inside.now.seats c.look.new.seats size in
    let first : c.choose.result ≡ choice seats.items c.args.worker c.args.turn =
    c.choose.ensures ∙ ap (λ (l : List Seat). choice l c.args.worker c.args.turn) c.as_slice-2.ensures.value in
    let long : length c.look.new.seats ≡ length c.args.inside.now.seats.items = search (rules, c.look.auto.seats, c.as_mut_slice.ensures) in
    let looked = looked_at c.args.typing.now c.args.inside.now b c.args.receipts.now.items c.take_all.new.receipts.items c.as_slice.result.now seats.items c.look.new.seats
    c.if-inside.false c.take_all.ensures.takes c.in_ok-take_all.ensures.taken c.take_all.ensures.receipts c.as_slice.ensures.value shown long c.look.ensures in
    let chosen : choice seats.items c.args.worker c.args.turn ≡ Some (c.in-Some.client, c.in-Some.way) =
    sym first ∙ c.in-Some.is in
    let below = (chosen_at seats.items c.args.worker c.args.turn c.in-Some.client c.in-Some.way chosen).0 in
    let few : length b.state.clients ≤ 64 = subst (λ (s : State). length s.clients ≤ 64) c.machine.ensures.value c.clients-few.ensures.sound.2.few in
    c.in_default.ensures (omega (arith, below, few, looked.places, c.steps-kept.ensures.kept.clients))

pub returns-in_err-lent-in-Some-clause-fault : goal.returns-in_err-lent-in-Some-clause-fault
returns-in_err-lent-in-Some-clause-fault c =
    let b = c.take_all.new.board in
    let seats = with_items c.args.inside.now.seats c.look.new.seats in
    let size : length c.look.new.seats ≡ c.args.inside.now.seats.len = search (rules, c.look.auto.seats, c.as_mut_slice.ensures.len) in
    let shown : seats.items ≡ c.look.new.seats = with_items_is c.args.inside.now.seats c.look.new.seats size in
    let first : c.choose.result ≡ choice seats.items c.args.worker c.args.turn =
    c.choose.ensures ∙ ap (λ (l : List Seat). choice l c.args.worker c.args.turn) c.as_slice-2.ensures.value in
    let long : length c.look.new.seats ≡ length c.args.inside.now.seats.items = search (rules, c.look.auto.seats, c.as_mut_slice.ensures) in
    let looked = looked_at c.args.typing.now c.args.inside.now b c.args.receipts.now.items c.take_all.new.receipts.items c.as_slice.result.now seats.items c.look.new.seats
    c.if-inside.false c.take_all.ensures.takes c.in_ok-take_all.ensures.taken c.take_all.ensures.receipts c.as_slice.ensures.value shown long c.look.ensures in
    let chosen : choice seats.items c.args.worker c.args.turn ≡ Some (c.in-Some.client, c.in-Some.way) =
    sym first ∙ c.in-Some.is in
    let number : c.in-Ok.number ≡ c.in-Some.client = search (rules, c.in-Ok.ensures) in
    let fault = c.in_err-lent-in-Some.field-0.0 in
    let seat = chosen_seat c.args.typing.now c.args.inside.now b seats.items c.args.worker c.args.turn c.in-Some.client c.in-Ok.number c.in-Some.way c.steps-kept.ensures.kept.clients looked chosen number in
    let short : IsShortage c.have.new.board fault = c.in_err-lent-in-Some.ensures.short seat.1 seat.0 seat.2 seat.3 in
    let cut = cut_off c.args.typing.now c.args.inside.now b c.have.new.board seats.items c.args.worker c.args.turn c.in-Some.client c.in-Ok.number c.in-Some.way looked chosen number c.in_err-lent-in-Some.ensures.joined in
    by_residual c.from_residual-in_err-lent-in-Some.result (λ f. f ≡ fault) (λ f. IsNotBegun c.args.typing.now c.args.worker c.args.turn c.args.inside.now seats.items c.have.new.board f)
    c.from_residual-in_err-lent-in-Some.ensures.1
    (λ f is. inr (c.if-inside.false, cut, subst (λ (g : WorkFault). IsShortage c.have.new.board g) (sym is) short))

pub returns-then-is_any_out-clause-next : goal.returns-then-is_any_out-clause-next
returns-then-is_any_out-clause-next c =
    let b = c.take_all.new.board in
    let seats = with_items c.args.inside.now.seats c.look.new.seats in
    let size : length c.look.new.seats ≡ c.args.inside.now.seats.len = search (rules, c.look.auto.seats, c.as_mut_slice.ensures.len) in
    let shown : seats.items ≡ c.look.new.seats = with_items_is c.args.inside.now.seats c.look.new.seats size in
    let first : c.choose.result ≡ choice seats.items c.args.worker c.args.turn =
    c.choose.ensures ∙ ap (λ (l : List Seat). choice l c.args.worker c.args.turn) c.as_slice-2.ensures.value in
    let long : length c.look.new.seats ≡ length c.args.inside.now.seats.items = search (rules, c.look.auto.seats, c.as_mut_slice.ensures) in
    let looked = looked_at c.args.typing.now c.args.inside.now b c.args.receipts.now.items c.take_all.new.receipts.items c.as_slice.result.now seats.items c.look.new.seats
    c.if-inside.false c.take_all.ensures.takes c.in_ok-take_all.ensures.taken c.take_all.ensures.receipts c.as_slice.ensures.value shown long c.look.ensures in
    (record { looked = looked; nobody = sym first ∙ c.in-None.is }, sym (ap is_any_out c.as_slice-in-None.ensures.value) ∙ sym c.if-is_any_out.ensures)
