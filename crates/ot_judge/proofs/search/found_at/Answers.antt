use Rattle.std.proofs.Common.{ℕ, Global, List, Vec, arith, length, map, subst, sym}
use Rattle.std.proofs.lemmas.List.{length-map}
use Rattle.ot_judge.specs.Replicas.{IsOwn}
use Rattle.ot_judge.proofs.Settled.{settled}
use Rattle.ot_judge.proofs.search.found_at.Goals as goal

pub returns : goal.returns
returns c = λ none.
    let lists = map (λ (v : Vec ℕ Global). v.items) c.args.lists.now in
    let long = length-map c.args.lists.now (λ (v : Vec ℕ Global). v.items) in
    let owns = subst (λ (n : ℕ). IsOwn c.args.actors.now n c.args.replica c.as_slice-own.result.now) (sym long) (subst (λ (own : List ℕ). IsOwn c.args.actors.now (length c.args.lists.now) c.args.replica own) (sym c.as_slice-own.ensures.value) c.in_ok-all.ensures) in
    settled c.as_slice-seats.result.now c.args.actors.now c.args.sizes.now c.as_slice-own.result.now lists c.args.replica owns (c.first_unseated.ensures c.in_default.is) (λ d lt. c.in_ok-found.ensures none d (omega (arith, lt, long)))
