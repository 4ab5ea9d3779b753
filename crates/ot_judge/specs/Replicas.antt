-- Lists of several replicas: whose each is, and which replicas' lists are held beside which.
use Rattle.std.specs.Prelude.{ℕ, List, ◌≡◌, ◌<◌, ◌⊎◌, length, slice_index_or}
use Rattle.ot_model.specs.WeakList.{nth}
use Rattle.ot_judge.specs.Seats.{Agree}

-- the number at a place of a table: of a list the replica whose it is, of a replica the size of its lists
abbrev pub entry_of : List ℕ → ℕ → ℕ
entry_of table k = slice_index_or table k 0

-- each list of the replica stands at one of these places
abbrev pub IsOwn : List ℕ → ℕ → ℕ → List ℕ → Type 0
IsOwn actors count replica own = (e : ℕ) → e < count → entry_of actors e ≡ replica → (k : ℕ) × (k < length own) × (entry_of own k ≡ e)

-- the lists of s are held beside those of r: they are shorter in all, or as long and of an earlier replica
abbrev pub Leads : List ℕ → ℕ → ℕ → Type 0
Leads sizes r s = (entry_of sizes s < entry_of sizes r) ⊎ ((entry_of sizes s ≡ entry_of sizes r) × (s < r))

-- each list of this replica agrees with all of it, and with those that are held beside them
abbrev pub IsSettled : List ℕ → List ℕ → List (List ℕ) → ℕ → Type 0
IsSettled actors sizes lists replica =
    (d e : ℕ) → d < length lists → e < length lists → entry_of actors e ≡ replica → (entry_of actors d ≡ replica) ⊎ Leads sizes replica (entry_of actors d)
    → Agree (nth lists d) (nth lists e)
