-- What functions that read fields return.
use Rattle.std.specs.Prelude.{◌≡◌, ◌≤◌, Result, Ok, Err, Some, None}
use Rattle.ot_image.specs.Reading.{Spot}
use Rattle.ot_operation.specs.declared.TheConstants.{LIMIT}
use Rattle.ot_image.specs.declared.refusal.Refusal.{Refusal}
use Rattle.ot_image.specs.declared.shape.Shape.{Shape}
use Rattle.ot_image.specs.declared.spot.Spot as program
use Rattle.ot_image.specs.Fields.{Named, first_refusal}

-- both lengths keep their limit
abbrev pub IsWithin : Shape → Type 0
IsWithin shape = (shape.base ≤ LIMIT) × (shape.target ≤ LIMIT)

-- what a spot of the program stands for
abbrev pub seen : program.Spot → Spot
seen s = record { at = s.at; rest = s.rest.now }

-- what a function returned, seen by view, is what reading gives
abbrev pub IsRead : {X Y : Type 0} → (X → Y) → Result X Refusal → Result Y Refusal → Type 0
IsRead view (Ok x) read = read ≡ Ok (view x)
IsRead view (Err r) read = read ≡ Err r

-- These fields were read, with what was returned, and reading goes on behind them; or the first field that is refused is one of them.
abbrev pub Reads : {R X : Type 0} → (R → X × Spot) → ((X → Named) → Named) → Spot → Result R Refusal → Type 0
Reads {R} {X} view fields s (Ok x) = (next : X → Named) → first_refusal (fields next) s ≡ first_refusal (next (view x).0) (view x).1
Reads {R} {X} view fields s (Err r) = (next : X → Named) → first_refusal (fields next) s ≡ Some r

-- The same of fields with nothing to return.
abbrev pub Passes : {R : Type 0} → (R → Spot) → (Named → Named) → Spot → Result R Refusal → Type 0
Passes view fields s (Ok x) = (after : Named) → first_refusal (fields after) s ≡ first_refusal after (view x)
Passes view fields s (Err r) = (after : Named) → first_refusal (fields after) s ≡ Some r

-- The same of all that is left.
abbrev pub Ends : {R : Type 0} → Named → Spot → Result R Refusal → Type 0
Ends fields s (Ok x) = first_refusal fields s ≡ None
Ends fields s (Err r) = first_refusal fields s ≡ Some r
