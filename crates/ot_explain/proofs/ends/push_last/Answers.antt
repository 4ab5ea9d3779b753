use Rattle.std.proofs.Common.{string_bytes}
use Rattle.std.proofs.lemmas.Result.{on_ok_weaker}
use Rattle.ot_steps.specs.Steps.{is_quiet}
use Rattle.ot_explain.specs.Agreeing.{verdict_words}
use Rattle.ot_explain.specs.Explained.{end_words, stop_text}
use Rattle.ot_explain.proofs.Texts.{three}
use Rattle.ot_explain.proofs.ends.push_last.Goals as goal

pub returns : goal.returns
returns c =
    let s = c.args.machine.now in
    on_ok_weaker c.push_verdict.result
    (three (string_bytes c.args.text.now) (stop_text c.args.lines.now c.args.schedule.now s c.args.stopped) (end_words (is_quiet s)) (verdict_words s) c.in_ok-push_stop.ensures c.in_ok-push_end.ensures)
    c.push_verdict.ensures
