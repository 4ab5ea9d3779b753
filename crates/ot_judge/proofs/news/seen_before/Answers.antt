use Rattle.std.proofs.Common.{◌∙◌, ap, arith, ℕ}
use Rattle.std.specs.Prelude.{Option}
use Rattle.ot_model.specs.Visibility.{seen_of}
use Rattle.ot_judge.specs.Turns.{knew}
use Rattle.ot_judge.specs.Views.{views}
use Rattle.ot_judge.proofs.Newly.{knew-seen}
use Rattle.ot_judge.proofs.Views.{event_at-views}
use Rattle.ot_judge.proofs.news.seen_before.Goals as goal

pub returns-in-Some : goal.returns-in-Some
returns-in-Some c = λ d edit few.
    let within = c.requires in
    let at = event_at-views c.args.events.now c.in-Some.p c.index-events-p.result (rw c.in-Some.is at within) c.index-events-p.is in
    ap (λ (o : Option ℕ). knew (views c.args.events.now) o d) c.in-Some.is ∙ knew-seen (views c.args.events.now) c.in-Some.p d c.args.replica edit (omega (arith, few, c.seen_of.ensures, ap (λ x. seen_of x c.args.replica) at))
