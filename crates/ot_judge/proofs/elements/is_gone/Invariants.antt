use Rattle.std.proofs.Common.{◌≡◌, ◌<◌, ℕ, false, get_or}
use Rattle.std.specs.Prelude.{Some}
use Rattle.ot_model.specs.WeakList.{knows}
use Rattle.ot_judge.specs.Views.{views}
use Rattle.ot_judge.proofs.elements.is_gone.Given as goal

abbrev pub invariant-loop-d : goal.invariant-loop-d
invariant-loop-d l = record {
  first : (k : ℕ) → l.x.last ≡ Some k → knows (views l.events) l.e k ≡ false;
  others : (i : ℕ) → i < l.d-index → knows (views l.events) l.e (get_or l.x.others.items i 0) ≡ false;
}
