-- The server: a document and the log of the operations that led to it, and what a received operation does.
use Rattle.std.specs.Prelude.{ℕ, List, [], ◌∷◌, ◌++◌, drop}
use Rattle.ot_operation.specs.Operation.{Operation, apply}
use Rattle.ot_operation.specs.Merge.{first_after}

-- an operation as it was applied, and the client that made it
pub record Entry (A : Type 0) : Type 0 where
  pub maker : ℕ
  pub op : Operation A

-- a document, and the operations that led to it, oldest first
pub record History (A : Type 0) : Type 0 where
  pub document : List A
  pub log : List (Entry A)

-- an operation after the entries, which its maker did not have
abbrev pub transform_over : {A : Type 0} → Operation A → List (Entry A) → Operation A
transform_over op [] = op
transform_over op (entry ∷ log) = transform_over (first_after op entry.op) log

-- the history with this operation applied and appended
abbrev pub with_entry : {A : Type 0} → History A → ℕ → Operation A → History A
with_entry server maker op = record { document = apply op server.document; log = server.log ++ record { maker = maker; op = op } ∷ [] }

-- the history after an operation that `maker` made at `revision`
abbrev pub received : {A : Type 0} → History A → ℕ → ℕ → Operation A → History A
received server maker revision op = with_entry server maker (transform_over op (drop revision server.log))
