-- The text of an operation.
use Rattle.std.specs.Prelude.{List, [], ◌∷◌}
use Rattle.ot_text.specs.declared.text.Elements.{Elements}
use Rattle.ot_text.specs.declared.text.Elements.TheVariants.{One, Many}

-- the elements that are held: the one, or those of the list
abbrev pub held_text : {A : Type 0} → Elements A → List A
held_text (One element) = element ∷ []
held_text (Many list) = list.items
