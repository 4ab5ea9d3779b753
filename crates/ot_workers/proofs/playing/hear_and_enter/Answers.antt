use Rattle.std.proofs.Common.{sym, subst}
use Rattle.std.specs.Prelude.{IfErr, IfOk, Some}
use Rattle.std.proofs.lemmas.Result.{IfErr-weaker, IfOk-weaker}
use Rattle.ot_board.specs.declared.lent.Lent.{Lent}
use Rattle.ot_board.specs.Lents.{session_of}
use Rattle.ot_plan.specs.Typing.{action_view}
use Rattle.ot_workers.specs.Playing.{turn_steps, HasMade, IsCutShort}
use Rattle.ot_workers.specs.declared.playing.Task.TheVariants.{Enter}
use Rattle.ot_workers.proofs.Heard.{heard_few, turn_made, turn_short}
use Rattle.ot_workers.proofs.playing.hear_and_enter.Goals as goal

pub enter-requires : goal.enter-requires
enter-requires c = heard_few (session_of c.args.lent) (session_of c.in-Ok.lent) c.requires c.in-Ok.ensures.ok

pub returns-in-Some-clause-ok : goal.returns-in-Some-clause-ok
returns-in-Some-clause-ok c =
    let x = session_of c.args.lent in
    let y = session_of c.in-Ok.lent in
    subst (λ o. IfOk c.enter.result (λ next. HasMade x (turn_steps x (Enter o)) (session_of next))) (sym c.in-Some.is)
    (IfOk-weaker c.enter.result _ _ (λ next step. turn_made x y (session_of next) (action_view c.in-Some.action.now) c.in-Ok.ensures.ok step) c.enter.ensures.ok)

pub returns-in-Some-clause-short : goal.returns-in-Some-clause-short
returns-in-Some-clause-short c =
    let x = session_of c.args.lent in
    let y = session_of c.in-Ok.lent in
    subst (λ o. IfErr c.enter.result (λ back. IsCutShort x (turn_steps x (Enter o)) (session_of back.1))) (sym c.in-Some.is)
    (IfErr-weaker c.enter.result _ _
    (λ back same. subst (λ (l : Lent). IsCutShort x (turn_steps x (Enter (Some c.in-Some.action))) (session_of l)) (sym same) (turn_short x y (action_view c.in-Some.action.now) c.in-Ok.ensures.ok))
    c.enter.ensures.back)
