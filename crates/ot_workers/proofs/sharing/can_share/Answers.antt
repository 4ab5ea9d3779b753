use Rattle.std.proofs.Common.{◌≡◌, ℕ, List, length, map, arith, rules, subst, ap, ◌∙◌, get_or}
use Rattle.ot_plan.specs.declared.typing.Typing.{Typing}
use Rattle.ot_plan.specs.Typing.{action_view}
use Rattle.ot_workers.specs.Sharing.{MayType}
use Rattle.ot_workers.proofs.Counted.{first_all, first_more}
use Rattle.ot_workers.proofs.sharing.can_share.Goals as goal

pub loop-client-preserved : goal.loop-client-preserved
loop-client-preserved c =
    let b = c.args.board.now in
    let typing = c.args.typing.now in
    let n = c.loop-client.client in
    let row = c.index-typing-place.result in
    let place : c.from-place.result ≡ n = search (rules, c.from-place.ensures) in
    let row_is : row ≡ get_or typing n row = c.index-typing-place.is ∙ ap (λ (k : ℕ). get_or typing k row) place in
    let many : length typing ≡ c.from.result = search (rules, c.if-typing-from.false) in
    let wide : c.from.result ≡ c.clients-clients.result = search (rules, c.from.ensures) in
    let below = c.loop-client-test.true in
    let may : MayType b n (map action_view c.as_slice.result.now) = c.may_type.ensures.0 (search rules) in
    first_more b typing n _ row (omega arith) (omega arith) row_is (subst (λ (actions : List Typing). MayType b n (map action_view actions)) c.as_slice.ensures.value may) c.loop-client.invariant

pub returns : goal.returns
returns c =
    let b = c.args.board.now in
    let typing = c.args.typing.now in
    let many : length typing ≡ c.from.result = search (rules, c.if-typing-from.false) in
    let wide : c.from.result ≡ c.clients-clients.result = search (rules, c.from.ensures) in
    let there = c.clients-clients.ensures.value in
    let state = ap length (ap (λ s. s.clients) c.machine.ensures.value) in
    let kept = c.steps-kept.ensures.kept.clients in
    let past = c.loop-client-test.false in
    ((λ _. first_all b typing c.loop-client.client (omega arith) (omega arith) c.loop-client.invariant), (λ _. search rules))
