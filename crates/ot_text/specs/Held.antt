-- The list of a document, its own or in common with others.
use Rattle.std.specs.Prelude.{List}
use Rattle.std.specs.Arc.{arc_value}
use Rattle.ot_text.specs.declared.held.Held.{Held}
use Rattle.ot_text.specs.declared.held.Held.TheVariants.{Own, Shared}

abbrev pub leaves_of : {T S : Type 0} → Held T S → List (List T)
leaves_of (Own list) = list
leaves_of (Shared list) = arc_value list

-- it has no other owner
abbrev pub IsOwn : {T S : Type 0} → Held T S → Type 0
IsOwn (Own list) = Unit {0}
IsOwn (Shared list) = ⊥
