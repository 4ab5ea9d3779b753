use Rattle.std.proofs.Common.{sym, arith, length}
use Rattle.std.proofs.lemmas.Bool.{lt-ltb}
use Rattle.ot_judge.specs.Views.{event_view}
use Rattle.ot_report.specs.Causes.{more_at}
use Rattle.ot_report.proofs.Below.{first-found, number-yes}
use Rattle.ot_report.proofs.causes.first_lacked.Goals as goal

pub returns-then-seen_of : goal.returns-then-seen_of
returns-then-seen_of c =
    let y = event_view c.args.y.now in
    sym (first-found (more_at y (event_view c.args.x.now)) (length y.seen) c.loop-r.r c.loop-r.r (omega (arith, c.len-r-end.ensures)) c.loop-r.invariant
    (number-yes _ c.loop-r.r (lt-ltb _ _ (omega (arith, c.seen_of.ensures, c.seen_of-in-loop-r.ensures, c.if-seen_of.true)))))
