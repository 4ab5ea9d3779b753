-- The codes of an operation: its components without their elements. They spell an operation whose elements are all the one of the unit type.
use Rattle.std.specs.Prelude.{◌≡◌, ℕ, zero, suc, ◌+◌, ◌-◌, ◌<◌, ◌≤◌, List, [], ◌∷◌, ◌++◌, map, replicate, Bool, true, false, Option, Some, None, nat_eq, if◌then◌else◌}
use Rattle.ot_operation.specs.Operation.{Operation}
use Rattle.ot_operation.specs.Run.{Run, Keep, Add, Skip, operation_of, MayFollow, IsNormal, IsSound}
use Rattle.ot_codes.specs.declared.code.Sum.{Sum}
use Rattle.ot_codes.specs.declared.code.Code.{Code}
use Rattle.ot_codes.specs.declared.code.Code.TheVariants.{Retain, Insert, Delete}

-- so many elements, of which nothing else is known
abbrev pub blanks : ℕ → List (Unit {0})
blanks count = replicate count tt

abbrev pub run_of : Code → Run (Unit {0})
run_of (Retain count) = Keep count
run_of (Insert count) = Add (blanks count)
run_of (Delete count) = Skip count

abbrev pub runs_of : List Code → List (Run (Unit {0}))
runs_of codes = map run_of codes

-- the operation that codes spell
abbrev pub spelled : List Code → Operation (Unit {0})
spelled codes = operation_of (runs_of codes)

-- how many elements a code retains, inserts or deletes
abbrev pub length_of : Code → ℕ
length_of (Retain count) = count
length_of (Insert count) = count
length_of (Delete count) = count

abbrev pub first_of : List Code → Option Code
first_of [] = None
first_of (code ∷ codes) = Some code

-- how much the first code inserts, if it inserts
abbrev pub insertion_of : List Code → Option ℕ
insertion_of [] = None
insertion_of (Retain count ∷ codes) = None
insertion_of (Insert count ∷ codes) = Some count
insertion_of (Delete count ∷ codes) = None

-- how much it deletes, if it deletes
abbrev pub deletion_of : List Code → Option ℕ
deletion_of [] = None
deletion_of (Retain count ∷ codes) = None
deletion_of (Insert count ∷ codes) = None
deletion_of (Delete count ∷ codes) = Some count

-- how much it retains, if it retains
abbrev pub retain_of : List Code → Option ℕ
retain_of [] = None
retain_of (Retain count ∷ codes) = Some count
retain_of (Insert count ∷ codes) = None
retain_of (Delete count ∷ codes) = None

abbrev pub others_of : List Code → List Code
others_of [] = []
others_of (code ∷ codes) = codes

-- a code of the same kind
abbrev pub with_length : Code → ℕ → Code
with_length (Retain all) count = Retain count
with_length (Insert all) count = Insert count
with_length (Delete all) count = Delete count

-- the codes without the first `count` elements of their first code
abbrev pub without : ℕ → List Code → List Code
without count [] = []
without count (code ∷ codes) = if nat_eq count (length_of code) then codes else with_length code (length_of code - count) ∷ codes

-- the first code has `count` elements at least, and `count` is not 0
abbrev pub HasFirst : ℕ → List Code → Type 0
HasFirst count [] = ⊥
HasFirst count (code ∷ codes) = (0 < count) × (count ≤ length_of code)

-- the code is a retain
abbrev pub keeps : Code → Bool
keeps (Retain count) = true
keeps (Insert count) = false
keeps (Delete count) = false

-- what is left at a cursor: the code at hand, and those behind it
abbrev pub codes_left : Option Code → List Code → List Code
codes_left None rest = []
codes_left (Some code) rest = code ∷ rest

-- two codes of one kind as one
abbrev pub joined : Code → Code → Option Code
joined (Retain first) (Retain second) = Some (Retain (first + second))
joined (Retain first) (Insert second) = None
joined (Retain first) (Delete second) = None
joined (Insert first) (Retain second) = None
joined (Insert first) (Insert second) = Some (Insert (first + second))
joined (Insert first) (Delete second) = None
joined (Delete first) (Retain second) = None
joined (Delete first) (Insert second) = None
joined (Delete first) (Delete second) = Some (Delete (first + second))

-- the code is an insertion, and the last one a deletion
abbrev pub stands_before : Code → Code → Bool
stands_before (Retain count) last = false
stands_before (Delete count) last = false
stands_before (Insert count) (Retain last) = false
stands_before (Insert count) (Insert last) = false
stands_before (Insert count) (Delete last) = true

-- the next code may stand directly behind the first: it is of another kind, and no insertion behind a deletion
abbrev pub precedes : Code → Code → Bool
precedes (Retain count) (Retain next) = false
precedes (Retain count) (Insert next) = true
precedes (Retain count) (Delete next) = true
precedes (Insert count) (Retain next) = true
precedes (Insert count) (Insert next) = false
precedes (Insert count) (Delete next) = true
precedes (Delete count) (Retain next) = true
precedes (Delete count) (Insert next) = false
precedes (Delete count) (Delete next) = false

-- that code, a deletion, stands at the end
abbrev pub EndsWithDelete : List Code → Code → Type 0
EndsWithDelete codes last = (front : List Code) × (count : ℕ) × (codes ≡ front ++ Delete count ∷ []) × (last ≡ Delete count)

-- an insertion may stand before the deletion at the end
abbrev pub MayGoBefore : List Code → ℕ → Type 0
MayGoBefore codes count =
    (front : List Code) (last : ℕ) → codes ≡ front ++ Delete last ∷ [] → IsNormal (runs_of (front ++ Insert count ∷ Delete last ∷ []))

-- how many elements codes retain, insert and delete
abbrev pub total_of : List Code → ℕ
total_of [] = 0
total_of (code ∷ codes) = length_of code + total_of codes

-- a sum with one more code
abbrev pub counted : Sum → Code → Sum
counted sum (Retain count) = record sum { kept = sum.kept + count }
counted sum (Insert count) = record sum { inserted = sum.inserted + count }
counted sum (Delete count) = record sum { deleted = sum.deleted + count }

-- the code may be one of those that the sum counts
abbrev pub HasPart : Sum → Code → Type 0
HasPart sum (Retain count) = count ≤ sum.kept
HasPart sum (Insert count) = count ≤ sum.inserted
HasPart sum (Delete count) = count ≤ sum.deleted

-- a sum without one of its codes
abbrev pub lessened : Sum → Code → Sum
lessened sum (Retain count) = record sum { kept = sum.kept - count }
lessened sum (Insert count) = record sum { inserted = sum.inserted - count }
lessened sum (Delete count) = record sum { deleted = sum.deleted - count }

-- codes in normal form and within the limits, and their sum
abbrev pub AreSound : List Code → Sum → Type 0
AreSound codes sum = IsSound (runs_of codes) (sum.kept + sum.deleted) (sum.kept + sum.inserted) sum.inserted

-- how many elements codes retain, delete and insert
abbrev pub kept_in : List Code → ℕ
kept_in [] = 0
kept_in (Retain count ∷ codes) = count + kept_in codes
kept_in (Insert count ∷ codes) = kept_in codes
kept_in (Delete count ∷ codes) = kept_in codes

abbrev pub deleted_in : List Code → ℕ
deleted_in [] = 0
deleted_in (Retain count ∷ codes) = deleted_in codes
deleted_in (Insert count ∷ codes) = deleted_in codes
deleted_in (Delete count ∷ codes) = count + deleted_in codes

abbrev pub inserted_in : List Code → ℕ
inserted_in [] = 0
inserted_in (Retain count ∷ codes) = inserted_in codes
inserted_in (Insert count ∷ codes) = count + inserted_in codes
inserted_in (Delete count ∷ codes) = inserted_in codes

abbrev pub sum_of : List Code → Sum
sum_of codes = record { kept = kept_in codes; deleted = deleted_in codes; inserted = inserted_in codes }

-- two sums together
abbrev pub added : Sum → Sum → Sum
added sum more = record { kept = sum.kept + more.kept; deleted = sum.deleted + more.deleted; inserted = sum.inserted + more.inserted }

-- what a sum has more than another
abbrev pub subtracted : Sum → Sum → Sum
subtracted sum less = record { kept = sum.kept - less.kept; deleted = sum.deleted - less.deleted; inserted = sum.inserted - less.inserted }

-- the code may stand directly behind these
abbrev pub MayEndWith : List Code → Code → Type 0
MayEndWith [] code = Unit {0}
MayEndWith (last ∷ []) code = MayFollow (run_of last) (run_of code)
MayEndWith (first ∷ next ∷ codes) code = MayEndWith (next ∷ codes) code

-- the codes without the first `count` elements of their first code, or all of them
abbrev pub past : ℕ → List Code → List Code
past count codes = if nat_eq count 0 then codes else without count codes

-- the code at hand of codes that are read; a retain of no elements where there is none
abbrev pub head_of : List Code → Code
head_of [] = Retain 0
head_of (code ∷ codes) = code

-- the codes from one at hand on; none, where it is a retain of no elements
abbrev pub read_from : Code → List Code → List Code
read_from (Retain zero) codes = []
read_from (Retain (suc count)) codes = Retain (suc count) ∷ codes
read_from (Insert count) codes = Insert count ∷ codes
read_from (Delete count) codes = Delete count ∷ codes
