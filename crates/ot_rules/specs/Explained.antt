-- What is said of a port's first difference: the call, and a note.
use Rattle.std.specs.Prelude.{◌≡◌, ℕ, List, [], ◌∷◌, ◌++◌, codes, option_map, slice_get, Bool, true, false, Option, Some, None}
use Rattle.ot_isa.specs.Program.{Program}
use Rattle.ot_isa.specs.declared.instruction.Instr.{Instr}
use Rattle.ot_model.specs.Runs.{place_at}
use Rattle.ot_model.specs.Table.{Outcome, Performed, Refused, NoRow, Place, State, step}
use Rattle.ot_steps.specs.declared.key.Key.{Key}
use Rattle.ot_steps.specs.declared.key.Key.TheVariants as key
use Rattle.ot_rules.specs.declared.explaining.Explained as program
use Rattle.ot_rules.specs.declared.note.Note.{Note}
use Rattle.ot_rules.specs.Call.{Call}
use Rattle.ot_rules.specs.Calling.{call_of}
use Rattle.ot_rules.specs.Notes.{Asked, Difference, IsFirst, sentence}
use Rattle.ot_rules.specs.Text.{Given, given_of, given_rows, given_values, rule_text}
use Rattle.ot_rules.specs.Texts.{text_for}

-- a rule of ot.js makes the value; the place, the instruction and its client are the schedule's
abbrev pub has_rule : Option Key → Bool
has_rule (Some key.At) = false
has_rule (Some key.Do) = false
has_rule (Some key.Client) = false
has_rule _ = true

-- what is said: the method's name, what it is given, and the sentence of a note
pub record Explained : Type 0 where
  pub rule : List ℕ
  pub given : List Given
  pub note : Option (List ℕ)

abbrev pub explained_value : program.Explained → Explained
explained_value e = record { rule = e.rule.now; given = given_values e.given.items; note = option_map (λ t. t.now) e.note }

-- as lines
abbrev pub note_row : Option (List ℕ) → List ℕ
note_row None = []
note_row (Some text) = codes "note " ++ (text ++ 10 ∷ [])

abbrev pub explained_text : Option Explained → List ℕ
explained_text None = []
explained_text (Some e) = codes "rule " ++ (e.rule ++ 10 ∷ (given_rows e.given ++ note_row e.note))

-- what notes are asked of, at an instruction that is this call
abbrev pub asked_of : Program → State → Instr → Call → Difference → Asked
asked_of s state i call d = record { call = call; text = text_for s.start state i call d.key; difference = d }

abbrev pub state_in : Place → State
state_in q = q.state

-- the call, and the first note that is true
pub record IsExplained (a : Asked) (said : Explained) : Type 0 where
  pub note : Option Note
  pub first : IsFirst note a
  pub is : said ≡ record { rule = rule_text a.call; given = given_of a.call; note = option_map (λ n. sentence n a.difference.key) note }

abbrev pub IsSaid : Asked → Option Explained → Type 0
IsSaid a None = ⊥
IsSaid a (Some said) = IsExplained a said

abbrev pub IsCallExplained : Program → State → Instr → Option Call → Difference → Option Explained → Type 0
IsCallExplained s state i None d said = said ≡ None
IsCallExplained s state i (Some call) d said = IsSaid (asked_of s state i call d) said

-- where the instruction is performed
abbrev pub IsOutcomeExplained : Program → State → Instr → Outcome → Difference → Option Explained → Type 0
IsOutcomeExplained s state i (Performed t shown) d said = IsCallExplained s state i (call_of state i) d said
IsOutcomeExplained s state i (Refused r) d said = said ≡ None
IsOutcomeExplained s state i NoRow d said = said ≡ None

-- of an instruction in the state before it
abbrev pub IsStepExplained : Program → State → Instr → Difference → Option Explained → Type 0
IsStepExplained s state i d said = IsOutcomeExplained s state i (step state i) d said

abbrev pub IsInstrExplained : Program → Option Instr → Option Place → Difference → Option Explained → Type 0
IsInstrExplained s None q d said = said ≡ None
IsInstrExplained s (Some i) None d said = said ≡ None
IsInstrExplained s (Some i) (Some q) d said = IsStepExplained s q.state i d said

-- of the instruction at a place of the run
abbrev pub IsPlaceExplained : Program → ℕ → Difference → Bool → Option Explained → Type 0
IsPlaceExplained s place d true said = IsInstrExplained s (slice_get s.instrs place) (place_at s place) d said
IsPlaceExplained s place d false said = said ≡ None

abbrev pub Explains : Program → ℕ → Difference → Option Explained → Type 0
Explains s place d said = IsPlaceExplained s place d (has_rule d.key) said
