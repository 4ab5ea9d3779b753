-- Run-length form of an operation, and its normal form.
use Rattle.std.specs.Prelude.{◌≡◌, ℕ, zero, suc, ◌+◌, ◌-◌, ◌<◌, ◌≤◌, List, [], ◌∷◌, ◌++◌, map, length}
use Rattle.ot_operation.specs.Operation.{Item, Old, New, olds, Operation, news}
use Rattle.ot_operation.specs.declared.TheConstants.{LIMIT}

-- a run of retained places, of new items, or of deleted places
pub data Run (A : Type 0) : Type 0 where
  Keep : ℕ → Run A
  Add : List A → Run A
  Skip : ℕ → Run A

-- how many places of the base the runs take
abbrev pub base_of : {A : Type 0} → List (Run A) → ℕ
base_of [] = 0
base_of (Keep count ∷ runs) = count + base_of runs
base_of (Add text ∷ runs) = base_of runs
base_of (Skip count ∷ runs) = count + base_of runs

-- what the runs make of the base from the place `from` on
abbrev pub image_from : {A : Type 0} → ℕ → List (Run A) → List (Item A)
image_from from [] = []
image_from from (Keep count ∷ runs) = olds from count ++ image_from (from + count) runs
image_from from (Add text ∷ runs) = map New text ++ image_from from runs
image_from from (Skip count ∷ runs) = image_from (from + count) runs

-- the operation that runs spell
abbrev pub operation_of : {A : Type 0} → List (Run A) → Operation A
operation_of runs = record { base = base_of runs; image = image_from 0 runs }

-- no run is empty
abbrev pub IsFilled : {A : Type 0} → Run A → Type 0
IsFilled (Keep count) = 0 < count
IsFilled (Add text) = 0 < length text
IsFilled (Skip count) = 0 < count

-- may the second run stand directly after the first: no two of one kind, no insertion after a deletion
abbrev pub MayFollow : {A : Type 0} → Run A → Run A → Type 0
MayFollow (Keep _) (Keep _) = ⊥
MayFollow (Keep _) (Add _) = Unit {0}
MayFollow (Keep _) (Skip _) = Unit {0}
MayFollow (Add _) (Keep _) = Unit {0}
MayFollow (Add _) (Add _) = ⊥
MayFollow (Add _) (Skip _) = Unit {0}
MayFollow (Skip _) (Keep _) = Unit {0}
MayFollow (Skip _) (Add _) = ⊥
MayFollow (Skip _) (Skip _) = ⊥

-- the first run, if there is one, may stand after `run`
abbrev pub MayLead : {A : Type 0} → Run A → List (Run A) → Type 0
MayLead run [] = Unit {0}
MayLead run (next ∷ runs) = MayFollow run next

-- the normal form
abbrev pub IsNormal : {A : Type 0} → List (Run A) → Type 0
IsNormal [] = Unit {0}
IsNormal (run ∷ runs) = IsFilled run × MayLead run runs × IsNormal runs

-- one more place that stays, in front
abbrev pub with_keep : {A : Type 0} → List (Run A) → List (Run A)
with_keep [] = Keep 1 ∷ []
with_keep (Keep n ∷ rs) = Keep (1 + n) ∷ rs
with_keep (Add s ∷ rs) = Keep 1 ∷ Add s ∷ rs
with_keep (Skip n ∷ rs) = Keep 1 ∷ Skip n ∷ rs

-- one more new item, in front
abbrev pub with_new : {A : Type 0} → A → List (Run A) → List (Run A)
with_new x [] = Add (x ∷ []) ∷ []
with_new x (Keep n ∷ rs) = Add (x ∷ []) ∷ Keep n ∷ rs
with_new x (Add s ∷ rs) = Add (x ∷ s) ∷ rs
with_new x (Skip n ∷ rs) = Add (x ∷ []) ∷ Skip n ∷ rs

-- so many places that go, in front
abbrev pub with_skip : {A : Type 0} → ℕ → List (Run A) → List (Run A)
with_skip zero rs = rs
with_skip (suc n) rs = Skip (suc n) ∷ rs

-- the normal runs of a list of items, from a place of the base up to its end
abbrev pub normal_runs_from : {A : Type 0} → ℕ → List (Item A) → ℕ → List (Run A)
normal_runs_from from [] end = with_skip (end - from) []
normal_runs_from from (New x ∷ items) end = with_new x (normal_runs_from from items end)
normal_runs_from from (Old i ∷ items) end = with_skip (i - from) (with_keep (normal_runs_from (suc i) items end))

-- the runs in normal form that spell an operation
abbrev pub normal_runs : {A : Type 0} → Operation A → List (Run A)
normal_runs op = normal_runs_from 0 op.image op.base

-- the last run is a deletion
abbrev pub EndsInSkip : {A : Type 0} → List (Run A) → Type 0
EndsInSkip [] = ⊥
EndsInSkip (Keep _ ∷ []) = ⊥
EndsInSkip (Add _ ∷ []) = ⊥
EndsInSkip (Skip _ ∷ []) = Unit {0}
EndsInSkip (_ ∷ r ∷ rs) = EndsInSkip (r ∷ rs)

-- the new runs are in normal form and spell the changed operation
pub record Extends {A : Type 0} (old new : List (Run A)) (change : Operation A → Operation A) : Type 0 where
  pub normal : IsNormal new
  pub operation : operation_of new ≡ change (operation_of old)

-- the runs are in normal form and within the limits, and the three lengths are theirs
pub record IsSound {A : Type 0} (rs : List (Run A)) (base target inserted : ℕ) : Type 0 where
  pub normal : IsNormal rs
  pub base_is : base ≡ base_of rs
  pub target_is : target ≡ length (image_from 0 rs)
  pub inserted_is : inserted ≡ length (news (image_from 0 rs))
  pub base_fits : base ≤ LIMIT
  pub target_fits : target ≤ LIMIT
