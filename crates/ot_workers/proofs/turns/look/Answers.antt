use Rattle.std.proofs.Common.{rules, ◌≡◌, ◌<◌, ◌+◌, ℕ, length, set, subst, ap, ◌∙◌, arith}
use Rattle.std.specs.Prelude.{option_copied}
use Rattle.ot_model.specs.Table.{State}
use Rattle.ot_workers.specs.Turns.{IsSeen, next_action}
use Rattle.ot_workers.proofs.Seen.{seen_more, some_shown}
use Rattle.ot_workers.proofs.turns.look.Goals as goal

pub loop-client-preserved : goal.loop-client-preserved
loop-client-preserved c =
    let n : ℕ = c.loop-client.client in
    let b = c.args.board.now in
    let place : c.from-place.result ≡ n = search (rules, c.from-place.ensures) in
    let end : c.clients-client-end.result ≡ length b.state.clients = c.clients-client-end.ensures.value ∙ ap (λ (s : State). length s.clients) c.machine.ensures.value in
    let inside = c.loop-client-test.true in
    let below : n < length b.state.clients = omega (arith, inside, end) in
    let next : option_copied c.next_action.result ≡ next_action c.args.typing.now c.args.typed.now n =
    c.next_action.ensures ∙ ap (λ k. next_action c.args.typing.now c.args.typed.now k) place in
    let untyped = some_shown c.next_action.result (next_action c.args.typing.now c.args.typed.now n) c.is_some-untyped.result c.is_some-untyped.ensures next in
    seen_more b c.args.typing.now c.args.typed.now n (n + 1) c.loop-client.seats c.show.new.seats c.seat_of.result (omega arith)
    (subst (λ k. c.show.new.seats ≡ set c.loop-client.seats k c.seat_of.result) place c.show.ensures)
    (subst (λ t. IsSeen b t n c.seat_of.result) untyped (c.seat_of.ensures below))
    c.loop-client.invariant
