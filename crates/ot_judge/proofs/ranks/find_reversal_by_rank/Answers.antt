use Rattle.std.proofs.Common.{◌∙◌, ap, refl}
use Rattle.ot_judge.specs.Ranks.{is_crowded}
use Rattle.ot_judge.proofs.Filtered.{search-by-rank, distinct-kept, items_of}
use Rattle.ot_judge.proofs.ranks.find_reversal_by_rank.Goals as goal

pub find_reversal-requires-2 : goal.find_reversal-requires-2
find_reversal-requires-2 c =
    distinct-kept (is_crowded c.args.ranks.now c.in_ok-crowded.crowded) c.args.lists.now c.as_slice.result.now (ap items_of c.as_slice.ensures.value ∙ c.in_ok-parts.ensures) c.requires

pub returns : goal.returns
returns c =
    search-by-rank c.args.ranks.now c.args.owners.now c.in_ok-crowded.crowded c.args.lists.now c.as_slice.result.now c.in_ok-found.found
    (c.if-not-never_fall.ensures refl) c.in_ok-crowded.ensures c.requires (ap items_of c.as_slice.ensures.value ∙ c.in_ok-parts.ensures) c.in_ok-found.ensures
