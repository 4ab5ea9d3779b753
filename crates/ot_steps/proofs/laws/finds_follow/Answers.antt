use Rattle.std.proofs.Common.{◌≡◌, ◌∷◌, ap, ◌∙◌}
use Rattle.std.proofs.lemmas.Simd.{map-map}
use Rattle.ot_isa.specs.Tagging.{chars_of}
use Rattle.ot_steps.specs.Fold.{ClientText, Session, client_text}
use Rattle.ot_steps.specs.Found.{counts, times}
use Rattle.ot_steps.proofs.Running.{lines_fold_within}
use Rattle.ot_steps.proofs.laws.finds_follow.Goals as goal

pub returns : goal.returns
returns c documents s stopped lines are p q le here text =
    ap (counts text) (lines_fold_within documents s stopped lines are p q le here)
    ∙ ap (λ ns. times text (chars_of q.state.server) ∷ ns) (map-map (λ (x : ClientText). times text x.document) client_text q.state.clients)
