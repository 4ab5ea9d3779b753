-- The laws of instructions in other orders.
use Rattle.std.specs.Prelude.{◌≡◌, ℕ, suc, ◌<◌, ◌≤◌, ◌⊎◌, List, ◌∷◌, ◌++◌, length, count_by, Bool, Option, Some, None}
use Rattle.ot_isa.specs.declared.instruction.Instr.{Instr}
use Rattle.ot_model.specs.declared.shown.Shown.{Shown}
use Rattle.ot_model.specs.declared.shown.Refusal.TheVariants.{LinkEmpty}
use Rattle.ot_model.specs.Table.{State, Place, Performed, Refused, step, begin, run}
use Rattle.ot_model.specs.Sound.{IsSound, AreInstrs}
use Rattle.ot_model.specs.Orders.{IsIndependent, AreSameOrders, AreSameShown, awaits}
use Rattle.ot_isa.specs.declared.builder.TheConstants.{CLIENT_LIMIT, START_LIMIT}
use Rattle.ot_model.specs.declared.limits.TheConstants.{STEP_LIMIT}

-- of two independent instructions, each performed in a sound state, either can come first, and they lead to the same state and
-- show the same lists
abbrev pub Commute : Type 0
Commute =
    (s : State) (i j : Instr) (t u : State) (a b : Option Shown)
    → IsSound s → IsIndependent i j → suc s.steps < STEP_LIMIT
    → step s i ≡ Performed t a → step s j ≡ Performed u b
    → (v : State) × (step t j ≡ Performed v b) × (step u i ≡ Performed v a)

-- two neighbours that are independent can be exchanged where the second is performed in the first one's state
abbrev pub Exchange : Type 0
Exchange =
    (s : State) (i j : Instr) (t u v : State) (a b b' : Option Shown)
    → IsSound s → IsIndependent i j
    → step s i ≡ Performed t a → step t j ≡ Performed v b → step s j ≡ Performed u b'
    → (b' ≡ b) × (step u i ≡ Performed v a)

-- two runs of the same instructions, with each machine's in the same order, lead to the same state, and each machine shows the
-- same lists in the same order
abbrev pub AnyOrder : Type 0
AnyOrder =
    (clients present : ℕ) (text : List ℕ) (is js : List Instr) (q r : Place)
    → clients ≤ CLIENT_LIMIT → present ≤ clients → length text ≤ START_LIMIT → AreInstrs is → AreSameOrders is js
    → run is (begin clients present text) ≡ Some q → run js (begin clients present text) ≡ Some r
    → (q.state ≡ r.state) × AreSameShown q.shown r.shown

-- the run from p comes to an instruction that receives what is not sent yet: a take with no message under way, or a delivery or an
-- acknowledgement with nothing in the log behind what its client has seen; and one that may send it stands behind
pub record IsTooEarly (is : List Instr) (p : Place) : Type 0 where
  pub before : List Instr
  pub early : Instr
  pub after : List Instr
  pub split : is ≡ before ++ early ∷ after
  pub place : Place
  pub reached : run before p ≡ Some place
  pub refused : step place.state early ≡ Refused LinkEmpty
  pub awaited : 1 ≤ count_by (awaits early) after

-- another order of a run's instructions, with each machine's in the same order, is a run to the same place, or it comes to an
-- instruction that receives what is not sent yet; nothing else is ever refused
abbrev pub AnyOrderRuns : Type 0
AnyOrderRuns =
    (clients present : ℕ) (text : List ℕ) (is js : List Instr) (q : Place)
    → clients ≤ CLIENT_LIMIT → present ≤ clients → length text ≤ START_LIMIT → AreInstrs is → AreSameOrders is js
    → run is (begin clients present text) ≡ Some q
    → ((r : Place) × (run js (begin clients present text) ≡ Some r) × (q.state ≡ r.state) × AreSameShown q.shown r.shown)
    ⊎ IsTooEarly js (begin clients present text)

-- a run that comes to such an instruction does not reach its end
abbrev pub TooEarlyStops : Type 0
TooEarlyStops = (is : List Instr) (p : Place) → IsTooEarly is p → run is p ≡ None

-- where each machine has the same instructions in the same order, all together are the same instructions, each as often (a join
-- stands at two machines and is counted once)
abbrev pub SameInstructions : Type 0
SameInstructions = (is js : List Instr) → AreSameOrders is js → (p : Instr → Bool) → count_by p is ≡ count_by p js

-- where each machine shows the same lists in the same order, all together are the same lists, each as often
abbrev pub SameMultiset : Type 0
SameMultiset = (xs ys : List Shown) → AreSameShown xs ys → (p : Shown → Bool) → count_by p xs ≡ count_by p ys
