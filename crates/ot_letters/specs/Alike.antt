-- Alike: texts, schedules and states that differ in their letters alone. With one letter in the place of all, they are the same.
use Rattle.std.specs.Prelude.{◌≡◌, ℕ, List, map}
use Rattle.ot_isa.specs.declared.instruction.Instr.{Instr}
use Rattle.ot_model.specs.Table.{State, Outcome, Place}
use Rattle.ot_letters.specs.Letters.{mapped_instr, mapped_instrs, mapped_state, mapped_outcome, mapped_place}

-- the one letter
abbrev pub blank : ℕ → ℕ
blank letter = 0

abbrev pub AreAlikeTexts : List ℕ → List ℕ → Type 0
AreAlikeTexts text other = map blank text ≡ map blank other

abbrev pub AreAlikeInstrs : Instr → Instr → Type 0
AreAlikeInstrs i j = mapped_instr blank i ≡ mapped_instr blank j

-- two schedules: each instruction is like the other's at its place
abbrev pub AreAlike : List Instr → List Instr → Type 0
AreAlike is js = mapped_instrs blank is ≡ mapped_instrs blank js

abbrev pub AreAlikeStates : State → State → Type 0
AreAlikeStates s t = mapped_state blank s ≡ mapped_state blank t

-- the same refusal, or alike states and alike lists that are shown
abbrev pub AreAlikeOutcomes : Outcome → Outcome → Type 0
AreAlikeOutcomes x y = mapped_outcome blank x ≡ mapped_outcome blank y

abbrev pub AreAlikePlaces : Place → Place → Type 0
AreAlikePlaces p q = mapped_place blank p ≡ mapped_place blank q
