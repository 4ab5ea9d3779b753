-- Why an operation is not received.
use Rattle.std.specs.Prelude.{◌≡◌, ℕ, ◌+◌, List, [], ◌∷◌, length, drop, Option, Some, None, Result, Ok, Err, ◌==◌, nat_lt, nat_le, not, if◌then◌else◌}
use Rattle.ot_operation.specs.Operation.{Operation, news}
use Rattle.ot_operation.specs.declared.TheConstants.{LIMIT}
use Rattle.ot_server.specs.History.{Entry, History}
use Rattle.ot_server.specs.declared.fault.ServerFault.{ServerFault}
use Rattle.ot_server.specs.declared.fault.ServerFault.TheVariants.{NotInHistory, BadBase, LogFull, TooLong, Memory}
use Rattle.ot_server.specs.declared.TheConstants.{LOG_LIMIT}

-- the length of the documents that these entries take, which lead to one of length `end`
abbrev pub base_at : {A : Type 0} → List (Entry A) → ℕ → ℕ
base_at [] end = end
base_at (entry ∷ log) end = entry.op.base

-- each entry makes what the next one takes, and the last one the document
abbrev pub IsChain : {A : Type 0} → List (Entry A) → ℕ → Type 0
IsChain [] end = Unit {0}
IsChain (entry ∷ log) end = (length entry.op.image ≡ base_at log end) × IsChain log end

-- how much the entries insert
abbrev pub inserted_in : {A : Type 0} → List (Entry A) → ℕ
inserted_in [] = 0
inserted_in (entry ∷ log) = length (news entry.op.image) + inserted_in log

-- the length of the document at a revision
abbrev pub length_at : {A : Type 0} → History A → ℕ → ℕ
length_at server revision = base_at (drop revision server.log) (length server.document)

-- that length, what the log has inserted since, and what the operation inserts
abbrev pub longest_at : {A : Type 0} → History A → ℕ → Operation A → ℕ
longest_at server revision op = length_at server revision + inserted_in (drop revision server.log) + length (news op.image)

-- why an operation is not received, if it is not
abbrev pub fault_of : {A : Type 0} → History A → ℕ → Operation A → Option ServerFault
fault_of server revision op =
    if nat_lt (length server.log) revision then Some NotInHistory
    else if not (op.base == length_at server revision) then Some BadBase
    else if nat_le LOG_LIMIT (length server.log) then Some LogFull
    else if nat_lt LIMIT (longest_at server revision op) then Some TooLong
    else None

-- the answer names the fault if there is one; if memory runs out, it may refuse what has none
abbrev pub Names : {X : Type 0} → Result X ServerFault → Option ServerFault → Type 0
Names (Ok x) fault = fault ≡ None
Names (Err Memory) fault = fault ≡ None
Names (Err NotInHistory) fault = fault ≡ Some NotInHistory
Names (Err BadBase) fault = fault ≡ Some BadBase
Names (Err LogFull) fault = fault ≡ Some LogFull
Names (Err TooLong) fault = fault ≡ Some TooLong
