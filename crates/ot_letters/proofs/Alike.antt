-- Schedules, texts and states that differ in their letters alone.
use Rattle.std.proofs.Common.{◌≡◌, ℕ, List, [], ◌∷◌, map, length, refl, sym, ap, ◌∙◌, subst, arith}
use Rattle.std.proofs.lemmas.List.{length-map}
use Rattle.std.specs.Prelude.{◌↔◌, option_map}
use Rattle.std.specs.List.{AllZip}
use Rattle.ot_codes.specs.Shape.{mapped_item, mapped, shape}
use Rattle.ot_codes.specs.Shape as shapes
use Rattle.ot_codes.proofs.Mapped.{same_parts}
use Rattle.ot_operation.specs.Operation.{Item, Old, New, Operation}
use Rattle.ot_isa.specs.declared.instruction.Instr.{Instr}
use Rattle.ot_isa.specs.declared.instruction.Instr.TheVariants.{Edit}
use Rattle.ot_model.specs.Table.{State, Place, begin, step, run, performed, IsQuiet}
use Rattle.ot_letters.specs.Letters.{mapped_instr, mapped_instrs, mapped_state, mapped_place, refusal_in}
use Rattle.ot_letters.specs.Alike.{blank, AreAlikeTexts, AreAlikeInstrs, AreAlike, AreAlikeStates, AreAlikeOutcomes, AreAlikePlaces}
use Rattle.ot_letters.specs.Laws.{AreAlikeRuns}
use Rattle.ot_letters.proofs.Steps.{step-mapped}
use Rattle.ot_letters.proofs.Runs.{run-mapped, performed-mapped, refusal-mapped, begin-mapped, quiet-mapped, from_Some}

-- ---- what being alike is

texts_alike : (text other : List ℕ) → length text ≡ length other → map blank text ≡ map blank other
texts_alike [] [] e = refl
texts_alike [] (y ∷ other) e = absurd (omega (arith, e))
texts_alike (x ∷ text) [] e = absurd (omega (arith, e))
texts_alike (x ∷ text) (y ∷ other) e = ap (λ (rest : List ℕ). 0 ∷ rest) (texts_alike text other (omega (arith, e)))

pub alike_is_length : (text other : List ℕ) → AreAlikeTexts text other ↔ (length text ≡ length other)
alike_is_length text other = (λ e. sym (length-map text blank) ∙ ap length e ∙ length-map other blank, texts_alike text other)

items_twice : {A B C : Type 0} (g : B → C) (f : A → B) (image : List (Item A)) → map (mapped_item g) (map (mapped_item f) image) ≡ map (mapped_item (λ x. g (f x))) image
items_twice g f [] = refl
items_twice g f (Old i ∷ image) = ap (λ rest. Old i ∷ rest) (items_twice g f image)
items_twice g f (New x ∷ image) = ap (λ rest. New (g (f x)) ∷ rest) (items_twice g f image)

mapped_twice : {A B C : Type 0} (g : B → C) (f : A → B) (op : Operation A) → mapped g (mapped f op) ≡ mapped (λ x. g (f x)) op
mapped_twice g f op = same_parts _ _ _ _ refl (items_twice g f op.image)

zero_of : Unit {0} → ℕ
zero_of t = 0

same_edits : (c d : ℕ) (a b : Operation ℕ) → ◌≡◌ {A = Instr} (Edit c a) (Edit d b) → (c ≡ d) × (a ≡ b)
same_edits c d a b e = (cc, cc)

pub alike_is_shape : (c d : ℕ) (a b : Operation ℕ) → AreAlikeInstrs (Edit c a) (Edit d b) ↔ ((c ≡ d) × (shape a ≡ shape b))
unfolding zero_of
alike_is_shape c d a b = (
  λ e.
      let same = same_edits c d (mapped blank a) (mapped blank b) e in
      (same.0, sym (mapped_twice shapes.blank blank a) ∙ ap shape same.1 ∙ mapped_twice shapes.blank blank b),
  λ e.
      ap (λ (n : ℕ). Edit n (mapped blank a)) e.0
      ∙ ap (Edit d) (sym (mapped_twice zero_of shapes.blank a) ∙ ap (mapped zero_of) e.1 ∙ mapped_twice zero_of shapes.blank b),
)

same_heads : (i j : Instr) (is js : List Instr) → ◌≡◌ {A = List Instr} (i ∷ is) (j ∷ js) → (i ≡ j) × (is ≡ js)
same_heads i j is js e = (cc, cc)

pub alike_is_each : (is js : List Instr) → AreAlike is js ↔ AllZip AreAlikeInstrs is js
alike_is_each [] [] = (λ e. tt, λ e. refl)
alike_is_each [] (j ∷ js) = (λ e. absurd (cc), λ e. absurd e)
alike_is_each (i ∷ is) [] = (λ e. absurd (cc), λ e. absurd e)
alike_is_each (i ∷ is) (j ∷ js) = (
  λ e. let same = same_heads (mapped_instr blank i) (mapped_instr blank j) (mapped_instrs blank is) (mapped_instrs blank js) e in (same.0, (alike_is_each is js).0 same.1),
  λ e. ap (λ (k : Instr). k ∷ mapped_instrs blank is) e.0 ∙ ap (λ (ks : List Instr). mapped_instr blank j ∷ ks) ((alike_is_each is js).1 e.1),
)

-- ---- what alike schedules do

pub openings_are_alike : (clients present : ℕ) (text other : List ℕ) → AreAlikeTexts text other → AreAlikePlaces (begin clients present text) (begin clients present other)
openings_are_alike clients present text other e =
    sym (begin-mapped blank clients present text) ∙ ap (begin clients present) e ∙ begin-mapped blank clients present other

pub steps_are_alike : (s t : State) (i j : Instr) → AreAlikeStates s t → AreAlikeInstrs i j → AreAlikeOutcomes (step s i) (step t j)
steps_are_alike s t i j states instrs =
    sym (step-mapped blank s i)
    ∙ ap (λ (u : State). step u (mapped_instr blank i)) states
    ∙ ap (step (mapped_state blank t)) instrs
    ∙ step-mapped blank t j

pub quiet_is_alike : (s t : State) → AreAlikeStates s t → IsQuiet s ↔ IsQuiet t
quiet_is_alike s t e = (
  λ quiet. (quiet-mapped blank t).0 (subst IsQuiet e ((quiet-mapped blank s).1 quiet)),
  λ quiet. (quiet-mapped blank s).0 (subst IsQuiet (sym e) ((quiet-mapped blank t).1 quiet)),
)

runs_alike : (is js : List Instr) (p q : Place) → AreAlike is js → AreAlikePlaces p q → option_map (mapped_place blank) (run is p) ≡ option_map (mapped_place blank) (run js q)
runs_alike is js p q instrs places =
    sym (run-mapped blank is p)
    ∙ ap (λ (xs : List Instr). run xs (mapped_place blank p)) instrs
    ∙ ap (run (mapped_instrs blank js)) places
    ∙ run-mapped blank js q

pub runs_are_alike : (is js : List Instr) (p q : Place) → AreAlike is js → AreAlikePlaces p q → AreAlikeRuns is js p q
runs_are_alike is js p q instrs places =
    record {
      performed =
          sym (performed-mapped blank is p.state)
          ∙ ap (λ (xs : List Instr). performed xs (mapped_state blank p.state)) instrs
          ∙ ap (λ (r : Place). performed (mapped_instrs blank js) r.state) places
          ∙ performed-mapped blank js q.state;
      refusal =
          sym (refusal-mapped blank is p.state)
          ∙ ap (λ (xs : List Instr). refusal_in xs (mapped_state blank p.state)) instrs
          ∙ ap (λ (r : Place). refusal_in (mapped_instrs blank js) r.state) places
          ∙ refusal-mapped blank js q.state;
      ends = λ e at.
          let found = from_Some (mapped_place blank) (run js q) (mapped_place blank e) (sym (runs_alike is js p q instrs places) ∙ ap (option_map (mapped_place blank)) at) in
          (found.0, found.1, sym found.2, quiet_is_alike e.state found.0.state (ap (λ (r : Place). r.state) (sym found.2)));
    }
