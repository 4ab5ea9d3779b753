-- When an operation undoes the last entry.
use Rattle.std.specs.Prelude.{◌≡◌, length}
use Rattle.ot_operation.specs.Operation.{Operation, IsOperation, invert}
use Rattle.ot_server.specs.History.{Entry, History, with_entry}

-- the last entry led from the earlier history to this one, and `undo` undoes it
pub record IsUndo {A : Type 0} (earlier server : History A) (undo : Operation A) : Type 0 where
  pub last : Entry A
  pub operation : IsOperation last.op
  pub fits : last.op.base ≡ length earlier.document
  pub led : server ≡ with_entry earlier last.maker last.op
  pub undo_is : undo ≡ invert last.op earlier.document

-- the operation undoes the last entry
abbrev pub IsRetractable : {A : Type 0} → History A → Operation A → Type 0
IsRetractable {A} server undo = (earlier : History A) × IsUndo earlier server undo
