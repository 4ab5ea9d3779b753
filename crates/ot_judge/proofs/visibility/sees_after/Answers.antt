use Rattle.std.proofs.Common.{◌<◌, ap, arith, length, refl}
use Rattle.ot_model.specs.Visibility.{seen_of}
use Rattle.ot_judge.specs.Views.{views}
use Rattle.ot_judge.proofs.Counts.{sees-after}
use Rattle.ot_judge.proofs.Views.{event_at-views, length-views}
use Rattle.ot_judge.proofs.visibility.sees_after.Goals as goal

pub returns : goal.returns
returns c = λ h.
    let at = event_at-views c.args.events.now c.args.e c.index-events-e.result c.requires.within c.index-events-e.is in
    let within : c.args.e < length (views c.args.events.now) = omega (arith, c.requires.within, length-views c.args.events.now) in
    sees-after (views c.args.events.now) c.args.e c.args.last within c.requires.last
    (omega (arith, ap (λ x. seen_of x x.replica) at, c.seen_of.ensures, c.if-seen_of-numbers.false, c.requires.numbered.each c.args.e within))
    (c.if-not-sees_on.ensures refl) (c.all_backed.ensures h)
