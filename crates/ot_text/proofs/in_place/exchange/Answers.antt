use Rattle.std.proofs.Common.{◌≡◌, ◌+◌, ◌-◌, [], take, drop, get_or, ap, ◌∙◌, arith}
use Rattle.ot_text.proofs.InPlace.{brought_run}
use Rattle.ot_text.proofs.in_place.exchange.Goals as goal

pub returns-clause-leaf : goal.returns-clause-leaf
returns-clause-leaf g c =
    let leaf = get_or c.args.list.now c.args.place.leaf [] in
    let count : (c.args.place.offset + c.args.gone) - c.args.place.offset ≡ c.args.gone = omega arith in
    brought_run leaf c.args.come.now c.in_ok-saved.saved.items c.args.place.offset c.args.gone c.requires.within (omega (arith, c.if-gone-come.false))
    (c.in_ok-saved.ensures.items ∙ rw c.leaf.ensures (ap (λ n. take n (drop c.args.place.offset leaf)) count))
