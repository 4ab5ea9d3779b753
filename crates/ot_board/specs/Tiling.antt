-- How receipts, listed by worker, tile a record: each step of the record stands in exactly one block.
use Rattle.std.specs.Prelude.{◌≡◌, ℕ, suc, ◌+◌, ◌<◌, ◌≤◌, ◌&&◌, min, nat_le, nat_lt, slice_index, Bool, List, length, map, take, drop, slice_get, count_by, sum_by, Some}
use Rattle.std.specs.List.{All}
use Rattle.std.specs.Prelude.{Vec, vec_items}
use Rattle.std.specs.declared.alloc.Global.{Global}
use Rattle.ot_isa.specs.declared.instruction.Instr.{Instr}
use Rattle.ot_board.specs.declared.receipt.Receipt.{Receipt}
use Rattle.ot_board.specs.declared.auditing.AuditFault.{AuditFault}
use Rattle.ot_board.specs.declared.auditing.AuditFault.TheVariants.{Missing, Backwards, Doubled, Uncovered, Memory}

-- the workers' receipts, as lists
abbrev pub lists : List (Vec Receipt Global) → List (List Receipt)
lists workers = map vec_items workers

-- where a receipt's block ends
abbrev pub end_of : Receipt → ℕ
end_of r = r.first + length r.steps.items

-- the block lies in the record, and the record has the receipt's steps there
pub record IsThere (log : List Instr) (r : Receipt) : Type 0 where
  pub within : end_of r ≤ length log
  pub steps : take (length r.steps.items) (drop r.first log) ≡ r.steps.items

-- the block of a worker's i-th receipt begins before the one of the receipt before it ended
pub record IsBackwards (receipts : List Receipt) (i : ℕ) : Type 0 where
  pub last : Receipt
  pub next : Receipt
  pub place : ℕ
  pub follows : i ≡ suc place
  pub last_is : slice_get receipts place ≡ Some last
  pub next_is : slice_get receipts i ≡ Some next
  pub overlaps : next.first < end_of last

-- a worker's blocks rise without overlap
abbrev pub AreRising : List Receipt → Type 0
AreRising receipts = (i : ℕ) → IsBackwards receipts i → ⊥

-- a place of the record lies in the block
abbrev pub covers : ℕ → Receipt → Bool
covers at r = nat_le r.first at && nat_lt at (end_of r)

-- in how many blocks of all workers a place lies
abbrev pub times_in : ℕ → List Receipt → ℕ
times_in at receipts = count_by (covers at) receipts

abbrev pub times_covered : ℕ → List (List Receipt) → ℕ
times_covered at workers = sum_by (times_in at) workers

-- each block is there, each worker's blocks rise, and each place of the record lies in exactly one block
pub record IsTiling (log : List Instr) (workers : List (List Receipt)) : Type 0 where
  pub there : All (All (IsThere log)) workers
  pub rising : All AreRising workers
  pub once : (at : ℕ) → at < length log → times_covered at workers ≡ 1

-- the worker's i-th receipt is not in the record, and those before it are
pub record IsFirstMissing (log : List Instr) (receipts : List Receipt) (i : ℕ) : Type 0 where
  pub receipt : Receipt
  pub receipt_is : slice_get receipts i ≡ Some receipt
  pub missing : IsThere log receipt → ⊥
  pub before : All (IsThere log) (take i receipts)

-- the worker's i-th block begins too early, and those before it do not
pub record IsFirstBackwards (receipts : List Receipt) (i : ℕ) : Type 0 where
  pub backwards : IsBackwards receipts i
  pub before : (j : ℕ) → j < i → IsBackwards receipts j → ⊥

-- of the workers' lists, this is the first that is bad, and it is so at i
pub record IsFirst (IsBad : List Receipt → ℕ → Type 0) (IsGood : List Receipt → Type 0) (workers : List (List Receipt)) (w i : ℕ) : Type 0 where
  pub receipts : List Receipt
  pub receipts_are : slice_get workers w ≡ Some receipts
  pub bad : IsBad receipts i
  pub before : All IsGood (take w workers)

-- the place is covered some other number of times than once, and those before it once
pub record IsFirstUneven (log : List Instr) (workers : List (List Receipt)) (at times : ℕ) : Type 0 where
  pub within : at < length log
  pub times_are : times_covered at workers ≡ times
  pub before : (k : ℕ) → k < at → times_covered k workers ≡ 1

-- the fault is there, and none that is looked for before it
abbrev pub IsFault : List Instr → List (List Receipt) → AuditFault → Type 0
IsFault log workers (Missing w i) = IsFirst (IsFirstMissing log) (All (IsThere log)) workers w i
IsFault log workers (Backwards w i) = All (All (IsThere log)) workers × IsFirst IsFirstBackwards AreRising workers w i
IsFault log workers (Doubled at) =
    All (All (IsThere log)) workers × All AreRising workers × (times : ℕ) × (1 < times) × IsFirstUneven log workers at times
IsFault log workers (Uncovered at) = All (All (IsThere log)) workers × All AreRising workers × IsFirstUneven log workers at 0
IsFault log workers Memory = All (All (IsThere log)) workers × All AreRising workers

-- what the audit keeps of a number of blocks: none, one, or more
abbrev pub capped : ℕ → ℕ
capped n = min 2 n

-- each place is marked with the number of blocks that it lies in
abbrev pub AreMarks : List ℕ → List (List Receipt) → Type 0
AreMarks marks workers = (at : ℕ) → at < length marks → slice_index marks at ≡ capped (times_covered at workers)

-- the first mark that is not one, as a fault
abbrev pub IsUneven : List ℕ → AuditFault → Type 0
IsUneven marks (Missing w i) = ⊥
IsUneven marks (Backwards w i) = ⊥
IsUneven marks (Doubled at) = (at < length marks) × (1 < slice_index marks at) × ((k : ℕ) → k < at → slice_index marks k ≡ 1)
IsUneven marks (Uncovered at) = (at < length marks) × (slice_index marks at ≡ 0) × ((k : ℕ) → k < at → slice_index marks k ≡ 1)
IsUneven marks Memory = ⊥
