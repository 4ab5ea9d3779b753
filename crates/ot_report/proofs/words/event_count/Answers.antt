use Rattle.std.proofs.Common.{◌∙◌, List, ap, length, sym}
use Rattle.ot_judge.proofs.Views.{length-views}
use Rattle.ot_model.specs.Trace.{EventView}
use Rattle.ot_report.proofs.words.event_count.Goals as goal

pub returns : goal.returns
returns c = sym (length-views c.events.result.now) ∙ ap (λ (xs : List EventView). length xs) c.events.ensures
