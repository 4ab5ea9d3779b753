use Rattle.std.proofs.Common.{sym, ◌∙◌, subst}
use Rattle.std.proofs.lemmas.Result.{IfOk-at_ok}
use Rattle.ot_board.specs.Lents.{session_of}
use Rattle.ot_workers.specs.Playing.{turn_steps, HasMade}
use Rattle.ot_workers.specs.declared.playing.Task.{Task}
use Rattle.ot_workers.specs.declared.playing.Task.TheVariants.{Enter, Read}
use Rattle.ot_workers.proofs.playing.make_steps.Goals.{in-Enter, in-Read}
use Rattle.ot_workers.proofs.playing.make_steps.Goals as goal

pub returns-in-Ok-clause-done : goal.returns-in-Ok-clause-done
returns-in-Ok-clause-done c =
    let x = session_of c.args.lent in
    elim c.match-task.branch [
      | in-Enter w ↦
          subst (λ (t : Task). HasMade x (turn_steps x t) (session_of c.in-Ok.lent)) (sym w.in-Enter.is)
          (IfOk-at_ok (λ next. HasMade x (turn_steps x (Enter w.in-Enter.action)) (session_of next)) (sym w.played-is ∙ c.in-Ok.is) w.hear_and_enter-played.ensures.ok)
      | in-Read w ↦
          subst (λ (t : Task). HasMade x (turn_steps x t) (session_of c.in-Ok.lent)) (sym w.in-Read.is)
          (IfOk-at_ok (λ next. HasMade x (turn_steps x Read) (session_of next)) (sym w.played-is ∙ c.in-Ok.is) w.look_once-played.ensures.ok)
    ]
