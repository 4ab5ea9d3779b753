-- Small traces, judged by evaluation.
use Rattle.std.proofs.Common.{◌≡◌, ℕ, List, [], ◌∷◌, refl, true, false, arith}
use Rattle.std.specs.Prelude.{Some, None}
use Rattle.ot_isa.specs.declared.elements.Tag.{Tag}
use Rattle.ot_model.specs.Trace.{EventView, event_at}
use Rattle.ot_model.specs.Visibility.{SeesRightly}
use Rattle.ot_model.specs.WeakList.{required, IsReversed, lists}
use Rattle.ot_judge.specs.Contents.{first_doubled, first_outside, first_misplaced}

abbrev a : Tag
a = record { origin = 0; serial = 0 }

abbrev b : Tag
b = record { origin = 1; serial = 0 }

abbrev s : Tag
s = record { origin = 65535; serial = 0 }

abbrev inserts : ℕ → List ℕ → Tag → ℕ → List Tag → EventView
inserts replica seen tag place list = record { replica = replica; edit = true; seen = seen; inserted = record { tag = tag; place = place } ∷ []; deleted = []; list = list }

abbrev deletes : ℕ → List ℕ → Tag → List Tag → EventView
deletes replica seen tag list = record { replica = replica; edit = true; seen = seen; inserted = []; deleted = tag ∷ []; list = list }

abbrev reads : ℕ → List ℕ → List Tag → EventView
reads replica seen list = record { replica = replica; edit = false; seen = seen; inserted = []; deleted = []; list = list }

abbrev two_orders : List EventView
two_orders =
    inserts 0 (0 ∷ 0 ∷ 0 ∷ []) a 0 (a ∷ []) ∷ inserts 1 (0 ∷ 0 ∷ 0 ∷ []) b 0 (b ∷ []) ∷ reads 0 (1 ∷ 1 ∷ 0 ∷ []) (a ∷ b ∷ [])
    ∷ reads 2 (0 ∷ 0 ∷ 0 ∷ []) [] ∷ reads 1 (1 ∷ 1 ∷ 0 ∷ []) (b ∷ a ∷ []) ∷ []

two_orders-reversed : IsReversed (lists two_orders) 2 4 a b
two_orders-reversed = record {
  later = omega arith;
  forth = record { first = 0; second = 1; order = omega arith; within = omega arith; here = refl; there = refl };
  back = record { first = 0; second = 1; order = omega arith; within = omega arith; here = refl; there = refl };
}

two_orders-required : required [] two_orders 4 ≡ a ∷ b ∷ []
two_orders-required = refl

two_orders-unseen : required [] two_orders 3 ≡ []
two_orders-unseen = refl

abbrev kept_after_deletion : List EventView
kept_after_deletion = inserts 0 (0 ∷ []) a 0 (a ∷ []) ∷ deletes 0 (1 ∷ []) a (a ∷ []) ∷ []

kept_after_deletion-extra : first_outside (required [] kept_after_deletion 1) (event_at kept_after_deletion 1).list ≡ Some a
kept_after_deletion-extra = refl

abbrev lost_after_insertion : List EventView
lost_after_insertion = inserts 0 (0 ∷ []) a 0 (a ∷ []) ∷ reads 0 (1 ∷ []) [] ∷ []

lost_after_insertion-missing : first_outside (event_at lost_after_insertion 1).list (required [] lost_after_insertion 1) ≡ Some a
lost_after_insertion-missing = refl

abbrev behind_start : List EventView
behind_start = inserts 0 (0 ∷ []) a 0 (s ∷ a ∷ []) ∷ []

behind_start-exact : (first_outside (event_at behind_start 0).list (required (s ∷ []) behind_start 0) ≡ None) × (first_outside (required (s ∷ []) behind_start 0) (event_at behind_start 0).list ≡ None)
behind_start-exact = (refl, refl)

behind_start-misplaced : first_misplaced (event_at behind_start 0) ≡ Some a
behind_start-misplaced = refl

abbrev ahead : List EventView
ahead = reads 0 (1 ∷ []) [] ∷ []

ahead-unsound : SeesRightly ahead 0 → ⊥
ahead-unsound h = let clash : 1 ≡ 0 = h.own in omega (arith, clash)

abbrev doubled : List EventView
doubled = inserts 0 (0 ∷ []) a 0 (a ∷ a ∷ []) ∷ []

doubled-doubled : first_doubled (event_at doubled 0).list ≡ Some a
doubled-doubled = refl

first-of-two : first_doubled (a ∷ b ∷ b ∷ a ∷ []) ≡ Some a
first-of-two = refl
