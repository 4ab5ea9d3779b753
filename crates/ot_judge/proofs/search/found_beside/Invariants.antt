use Rattle.std.proofs.Common.{◌<◌, ℕ, length, map}
use Rattle.ot_model.specs.WeakList.{nth}
use Rattle.ot_judge.specs.Replicas.{Leads, entry_of}
use Rattle.ot_judge.specs.Seats.{AgreesAt}
use Rattle.ot_judge.proofs.search.found_beside.Given as goal

abbrev pub invariant-loop-d : goal.invariant-loop-d
invariant-loop-d l = (d : ℕ) → d < l.d → Leads l.sizes l.replica (entry_of l.actors d) → AgreesAt l.seats (nth (map (λ v. v.items) l.lists) d) 0 (length l.own)
