use Rattle.std.proofs.Common.{◌∙◌, ℕ, Global, Vec, ap, map}
use Rattle.ot_judge.specs.Ranks.{rank_of}
use Rattle.ot_judge.proofs.Filtered.{items_of}
use Rattle.ot_judge.proofs.Settled.{none-numbered}
use Rattle.ot_judge.proofs.search.find_reversal.Goals as goal

pub returns-in_default : goal.returns-in_default
returns-in_default c =
    none-numbered (rank_of c.args.numbers.now) (items_of c.args.lists.now) (map (λ (v : Vec ℕ Global). v.items) c.as_slice.result.now)
    (ap (map (λ (v : Vec ℕ Global). v.items)) c.as_slice.ensures.value ∙ c.in_ok-all.ensures) (c.in_ok-pair.ensures c.in_default.is)
