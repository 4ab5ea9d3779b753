-- How the loop of compose writes cuts.
use Rattle.std.specs.Prelude.{◌≡◌, ℕ, ◌+◌, Bool, true, false}
use Rattle.ot_operation.specs.Operation.{Operation, with_retain, with_insert, with_delete}
use Rattle.ot_codes.specs.Codes.{blanks}
use Rattle.ot_codes.specs.Cuts.{with_cut}
use Rattle.ot_codes.specs.declared.code.Code.{Code}
use Rattle.ot_codes.specs.declared.code.Code.TheVariants.{Retain, Insert, Delete}
use Rattle.ot_codes.specs.declared.cut.Splice.{Splice}

pub record HasKept (old new : Splice) (count : ℕ) : Type 0 where
  pub cuts : new.cuts.items ≡ old.cuts.items
  pub at : new.at ≡ old.at + count
  pub from : new.from ≡ old.from

pub record HasDeleted (old new : Splice) (count : ℕ) : Type 0 where
  pub cuts : new.cuts.items ≡ with_cut old.cuts.items (record { at = old.at; gone = count; from = old.from; put = 0 })
  pub at : new.at ≡ old.at + count
  pub from : new.from ≡ old.from

pub record HasInserted (old new : Splice) (count : ℕ) : Type 0 where
  pub cuts : new.cuts.items ≡ with_cut old.cuts.items (record { at = old.at; gone = 0; from = old.from; put = count })
  pub at : new.at ≡ old.at
  pub from : new.from ≡ old.from + count

-- an operation with `count` elements that the first one's code makes, which the second keeps or not
abbrev pub composed_code : Operation (Unit {0}) → Code → Bool → ℕ → Operation (Unit {0})
composed_code op (Retain all) true count = with_retain op count
composed_code op (Retain all) false count = with_delete op count
composed_code op (Insert all) true count = with_insert op (blanks count)
composed_code op (Insert all) false count = op
composed_code op (Delete all) keeps count = op

-- and what comes of the text
abbrev pub SplicesCode : Code → Bool → ℕ → Splice → Splice → Type 0
SplicesCode (Retain all) keeps count old new = HasKept old new 0
SplicesCode (Insert all) true count old new = HasKept old new count
SplicesCode (Insert all) false count old new = HasDeleted old new count
SplicesCode (Delete all) keeps count old new = HasKept old new 0

-- the first code makes elements
abbrev pub inserts : Code → ℕ
inserts (Retain count) = 0
inserts (Insert count) = count
inserts (Delete count) = 0
