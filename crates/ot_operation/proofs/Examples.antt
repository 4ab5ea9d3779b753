-- Small cases, each by computation. An element is a number: 97 is 'a'.
use Rattle.std.proofs.Common.{◌≡◌, ℕ, List, [], ◌∷◌, refl}
use Rattle.ot_operation.specs.Operation.{Item, Operation, apply, invert, Old, New}
use Rattle.ot_operation.specs.Compose.{compose}
use Rattle.ot_operation.specs.Merge.{transform, first_after, second_after, merge, merged}
use Rattle.ot_operation.specs.Run.{Run, operation_of, normal_runs, Keep, Add, Skip}

op : ℕ → List (Item ℕ) → Operation ℕ
op base image = record { base = base; image = image }

-- both insert into the empty document: the log is ["a"], ["b",1], and both sides end at "ba"
tie : transform (op 0 (New 98 ∷ [])) (op 0 (New 97 ∷ [])) ≡ (op 1 (New 98 ∷ Old 0 ∷ []), op 1 (Old 0 ∷ New 97 ∷ []))
unfolding op apply compose invert merge merged first_after second_after
tie = refl

tie-server : apply (op 1 (New 98 ∷ Old 0 ∷ [])) (97 ∷ []) ≡ 98 ∷ 97 ∷ []
unfolding op apply compose invert merge merged first_after second_after
tie-server = refl

tie-client : apply (op 1 (Old 0 ∷ New 97 ∷ [])) (98 ∷ []) ≡ 98 ∷ 97 ∷ []
unfolding op apply compose invert merge merged first_after second_after
tie-client = refl

-- both delete the one element: neither deletes it again
deleted_twice : transform {A = ℕ} (op 1 []) (op 1 []) ≡ (op 0 [], op 0 [])
unfolding op apply compose invert merge merged first_after second_after
deleted_twice = refl

-- compose([1,"a",1], [-1,2]) is ["a",-1,1]
composed : compose (op 2 (Old 0 ∷ New 97 ∷ Old 1 ∷ [])) (op 3 (Old 1 ∷ Old 2 ∷ [])) ≡ op 2 (New 97 ∷ Old 1 ∷ [])
unfolding op apply compose invert merge merged first_after second_after
composed = refl

-- transform(["a",-1,1], ["c",2]) is (["a",1,-1,1], [1,"c",1])
transformed :
    transform (op 2 (New 97 ∷ Old 1 ∷ [])) (op 2 (New 99 ∷ Old 0 ∷ Old 1 ∷ []))
    ≡ (op 3 (New 97 ∷ Old 0 ∷ Old 2 ∷ []), op 2 (Old 0 ∷ New 99 ∷ Old 1 ∷ []))
unfolding op apply compose invert merge merged first_after second_after
transformed = refl

-- [1,"c",-1] on "ab" is "ac", and its inverse is [1,"b",-1]
applied : apply (op 2 (Old 0 ∷ New 99 ∷ [])) (97 ∷ 98 ∷ []) ≡ 97 ∷ 99 ∷ []
unfolding op apply compose invert merge merged first_after second_after
applied = refl

inverted : invert (op 2 (Old 0 ∷ New 99 ∷ [])) (97 ∷ 98 ∷ []) ≡ op 2 (Old 0 ∷ New 98 ∷ [])
unfolding op apply compose invert merge merged first_after second_after
inverted = refl

-- the run whose lists are cx, xaz, acz: "x"; client 0 types z, a, and deletes x; client 1 types c.
-- the buffer [1,"a",1] then [-1,2] is ["a",-1,1]
buffer : compose (op 2 (Old 0 ∷ New 97 ∷ Old 1 ∷ [])) (op 3 (Old 1 ∷ Old 2 ∷ [])) ≡ op 2 (New 97 ∷ Old 1 ∷ [])
unfolding op apply compose invert merge merged first_after second_after
buffer = refl

-- outstanding [1,"z"] over ["c",1]: the log's second entry is [2,"z"], and client 0 gets ["c",2]
outstanding :
    transform (op 1 (Old 0 ∷ New 122 ∷ [])) (op 1 (New 99 ∷ Old 0 ∷ []))
    ≡ (op 2 (Old 0 ∷ Old 1 ∷ New 122 ∷ []), op 2 (New 99 ∷ Old 0 ∷ Old 1 ∷ []))
unfolding op apply compose invert merge merged first_after second_after
outstanding = refl

-- the buffer over ["c",2] is ["a",1,-1,1], and client 0's list "az" becomes "acz"
delivered : apply (op 2 (Old 0 ∷ New 99 ∷ Old 1 ∷ [])) (97 ∷ 122 ∷ []) ≡ 97 ∷ 99 ∷ 122 ∷ []
unfolding op apply compose invert merge merged first_after second_after
delivered = refl

server : apply (op 3 (New 97 ∷ Old 0 ∷ Old 2 ∷ [])) (99 ∷ 120 ∷ 122 ∷ []) ≡ 97 ∷ 99 ∷ 122 ∷ []
unfolding op apply compose invert merge merged first_after second_after
server = refl

-- runs as the builder leaves them: ["a",-1,"b"] is ["ab",-1], [1,-1,"c"] is [1,"c",-1], [1,2] is [3], [""] is []
as_built : List (Run ℕ) → List (Run ℕ)
as_built runs = normal_runs (operation_of runs)

built : as_built (Add (97 ∷ []) ∷ Skip 1 ∷ Add (98 ∷ []) ∷ []) ≡ Add (97 ∷ 98 ∷ []) ∷ Skip 1 ∷ []
unfolding as_built
built = refl

built_after_delete : as_built (Keep 1 ∷ Skip 1 ∷ Add (99 ∷ []) ∷ []) ≡ Keep 1 ∷ Add (99 ∷ []) ∷ Skip 1 ∷ []
unfolding as_built
built_after_delete = refl

built_neighbours : as_built (Keep 1 ∷ Keep 2 ∷ []) ≡ Keep 3 ∷ []
unfolding as_built
built_neighbours = refl

built_empty : as_built (Add [] ∷ []) ≡ []
unfolding as_built
built_empty = refl

-- transform(["a",-1,1], ["c",2]), as runs
first_runs : List (Run ℕ) → List (Run ℕ) → List (Run ℕ)
first_runs a b = normal_runs (first_after (operation_of a) (operation_of b))

second_runs : List (Run ℕ) → List (Run ℕ) → List (Run ℕ)
second_runs a b = normal_runs (second_after (operation_of a) (operation_of b))

transformed_first : first_runs (Add (97 ∷ []) ∷ Skip 1 ∷ Keep 1 ∷ []) (Add (99 ∷ []) ∷ Keep 2 ∷ []) ≡ Add (97 ∷ []) ∷ Keep 1 ∷ Skip 1 ∷ Keep 1 ∷ []
unfolding first_runs apply compose invert merge merged first_after second_after
transformed_first = refl

transformed_second : second_runs (Add (97 ∷ []) ∷ Skip 1 ∷ Keep 1 ∷ []) (Add (99 ∷ []) ∷ Keep 2 ∷ []) ≡ Keep 1 ∷ Add (99 ∷ []) ∷ Keep 1 ∷ []
unfolding second_runs apply compose invert merge merged first_after second_after
transformed_second = refl
