use Rattle.std.proofs.Common.{ap, arith, length, subst}
use borrow.Author.Count.{below_more}
use Rattle.ot_generate.specs.Walks.{IsAtRest, IsWalk, WalkView}
use Rattle.ot_generate.proofs.Resting.{none_before, none_next, rests, used_up}
use Rattle.ot_generate.proofs.walk.Walk.choose.Goals as goal

pub loop-client-preserved : goal.loop-client-preserved
loop-client-preserved c = (
  c.offer.ensures.best,
  λ none closed. below_more (λ k. IsAtRest c.args.self.now.state k) c.loop-client.client (c.loop-client.invariant.1 (c.offer.ensures.none none) closed) (c.offer.ensures.rest none closed),
)

pub returns-clause-full : goal.returns-clause-full
returns-clause-full c none =
    let w = c.args.self.now in
    let kept : IsWalk w = subst IsWalk c.self.view_is c.self.invariant in
    let before = none_before c.loop-client.choice.best c.read_server.result c.offer-2.new.self.best c.offer-2.ensures none in
    let last = none_next c.loop-client.choice.best c.read_server.result c.offer-2.new.self.best c.offer-2.ensures none in
    let same = ap (λ (v : WalkView). length v.state.clients) c.self.view_is in
    let many = c.clients-client-end.ensures.value in
    used_up w c.spare-spare.result kept c.spare-spare.ensures (c.read_server.ensures.none last)
    (λ closed. rests w.state kept.sound (λ k below. c.loop-client.invariant.1 before closed k (omega arith)))

pub returns-clause-quiet : goal.returns-clause-quiet
returns-clause-quiet c none closed =
    let w = c.args.self.now in
    let kept : IsWalk w = subst IsWalk c.self.view_is c.self.invariant in
    let before = none_before c.loop-client.choice.best c.read_server.result c.offer-2.new.self.best c.offer-2.ensures none in
    let same = ap (λ (v : WalkView). length v.state.clients) c.self.view_is in
    let many = c.clients-client-end.ensures.value in
    rests w.state kept.sound (λ k below. c.loop-client.invariant.1 before closed k (omega arith))
