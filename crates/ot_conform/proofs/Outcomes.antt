-- What comes of the lines that are left, one step at a time.
use Rattle.std.proofs.Common.{◌≡◌, ℕ, suc, ◌≤◌, Bool, ◌&&◌, List, [], ◌∷◌, length, drop, true, false, Option, Some, None, refl, sym, ap, ◌∙◌, subst, inl, inr, drop-cons}
use Rattle.std.specs.Prelude.{slice_get, ◌⊎◌}
use Rattle.std.proofs.lemmas.List.{drop_all}
use Rattle.std.proofs.lemmas.Option.{get_or_from_slice_get, slice_get_within}
use Rattle.ot_isa.specs.declared.instruction.Instr.{Instr}
use Rattle.ot_model.specs.declared.shown.Refusal.{Refusal}
use Rattle.ot_model.specs.declared.shown.Refusal.TheVariants.{NoSuchClient, StepsFull, NotJoined, AlreadyJoined, BadBase, ClientFull, LinkEmpty, WrongHead, Memory}
use Rattle.ot_model.specs.declared.shown.Shown.{Shown}
use Rattle.ot_model.specs.Table.{Performed, Refused, State, step}
use Rattle.ot_machine.specs.Answers.{IsRefusal}
use Rattle.ot_machine.specs.Effects.{sends}
use Rattle.ot_steps.specs.Steps.{applies}
use Rattle.ot_conform.specs.Answers.{IsCompared, IsDifferenceOf}
use Rattle.ot_conform.specs.Differences as differences
use Rattle.ot_conform.specs.Differences.{Ahead, Wanted, Limit, Outcome, ahead_from, ending, field_of, is_limit, over, stopping}
use Rattle.ot_conform.specs.Due.{DueLine, What, Opening, Instruction, End, step_due, stop_due}
use Rattle.ot_conform.specs.Passed.{passes}
use Rattle.ot_conform.specs.Ports.{PortLine, Told, OtherForm, NoText, Nothing, front}
use Rattle.ot_conform.specs.Received.{receives}
use Rattle.ot_conform.specs.Standing.{IsVerdict}
use Rattle.ot_conform.specs.declared.comparison.Comparison.{Comparison}
use Rattle.ot_conform.specs.declared.comparison.Verdict.{Verdict}
use Rattle.ot_conform.specs.declared.comparison.Verdict.TheVariants.{Conforms, Differs, Stopped}
use Rattle.ot_conform.specs.declared.answers.Difference.{Difference}
use Rattle.ot_conform.specs.declared.meeting.Field.{Field}
use Rattle.ot_conform.specs.declared.meeting.Field.TheVariants as field

-- ---- a line that agrees, one that does not, and one that passes over what is due

pub over_agrees : (sparse : Bool) (last : ℕ) (due : DueLine) (ahead : List Ahead) (line : PortLine) (lines : List PortLine) → passes sparse due line ≡ false → field_of due line ≡ None
    → over sparse last (Wanted due ∷ ahead) (line ∷ lines) ≡ over sparse due.line.at ahead lines
over_agrees sparse last due ahead line lines kept none = rw (kept, none) refl

over_differs : (sparse : Bool) (last : ℕ) (due : DueLine) (ahead : List Ahead) (line : PortLine) (lines : List PortLine) (f : Field) → passes sparse due line ≡ false → field_of due line ≡ Some f
    → over sparse last (Wanted due ∷ ahead) (line ∷ lines) ≡ differences.Differs due f line
over_differs sparse last due ahead line lines f kept some = rw (kept, some) refl

pub over_passes : (sparse : Bool) (last : ℕ) (due : DueLine) (ahead : List Ahead) (line : PortLine) (lines : List PortLine) → passes sparse due line ≡ true
    → over sparse last (Wanted due ∷ ahead) (line ∷ lines) ≡ over sparse due.line.at ahead (line ∷ lines)
over_passes sparse last due ahead line lines passed = rw passed refl

-- of lines for some instructions alone none is missing
pub nothing_left : (last : ℕ) (ahead : List Ahead) → over true last ahead [] ≡ differences.Conforms
nothing_left last [] = refl
nothing_left last (Wanted due ∷ ahead) = may_miss due.what due
  where
    may_miss : (what : What) (due : DueLine) → differences.missing true what due ≡ differences.Conforms
    may_miss Opening due = refl
    may_miss (Instruction i) due = refl
    may_miss End due = refl
nothing_left last (Limit at r ∷ ahead) = refl

-- the opening's line and the end's are passed over by none
pub never : (b : Bool) → (b && false) ≡ false
never true = refl
never false = refl

-- the port may leave out no line but the end's
abbrev pub IsNeeded : What → Type 0
IsNeeded Opening = Unit {0}
IsNeeded (Instruction i) = Unit {0}
IsNeeded End = ⊥

abbrev pub IsThere : PortLine → Type 0
IsThere (Told d) = Unit {0}
IsThere (OtherForm bytes) = Unit {0}
IsThere NoText = Unit {0}
IsThere Nothing = ⊥

missing_is : (sparse : Bool) (what : What) (due : DueLine) → IsNeeded what → sparse ≡ false → differences.missing sparse what due ≡ differences.Differs due field.Line Nothing
missing_is sparse Opening due needed dense = rw dense refl
missing_is sparse (Instruction i) due needed dense = rw dense refl
missing_is sparse End due needed dense = absurd needed

pub front_differs : (sparse : Bool) (last : ℕ) (due : DueLine) (ahead : List Ahead) (line : PortLine) (lines : List PortLine) (f : Field) → IsNeeded due.what ⊎ IsThere line → (line ≡ Nothing → sparse ≡ false)
    → passes sparse due line ≡ false → field_of due line ≡ Some f → over sparse last (Wanted due ∷ ahead) (front line lines) ≡ differences.Differs due f line
front_differs sparse last due ahead (Told d) lines f which there kept some = over_differs sparse last due ahead (Told d) lines f kept some
front_differs sparse last due ahead (OtherForm bytes) lines f which there kept some = over_differs sparse last due ahead (OtherForm bytes) lines f kept some
front_differs sparse last due ahead NoText lines f which there kept some = over_differs sparse last due ahead NoText lines f kept some
front_differs sparse last due ahead Nothing lines f which there kept some = go which
  where
    named : field.Line ≡ f
    named = cc

    go : IsNeeded due.what ⊎ ⊥ → over sparse last (Wanted due ∷ ahead) [] ≡ differences.Differs due f Nothing
    go (inl needed) = missing_is sparse due.what due needed (there refl) ∙ ap (λ (g : Field). differences.Differs due g Nothing) named
    go (inr h) = absurd h

-- so the verdict is that difference
pub is_difference : (c : Comparison) (last : ℕ) (due : DueLine) (ahead : List Ahead) (line : PortLine) (lines : List PortLine) (d : Difference) (v : Verdict)
    → IsNeeded due.what ⊎ IsThere line → (line ≡ Nothing → c.sparse ≡ false) → passes c.sparse due line ≡ false → IsCompared due line d → v ≡ Differs d
    → IsVerdict c line (over c.sparse last (Wanted due ∷ ahead) (front line lines)) v
is_difference c last due ahead line lines d v which there kept found is =
    let e = front_differs c.sparse last due ahead line lines found.0 which there kept found.1 in
    let told : IsDifferenceOf (over c.sparse last (Wanted due ∷ ahead) (front line lines)) d = subst (λ (o : Outcome). IsDifferenceOf o d) (sym e) found.2 in
    subst (λ (w : Verdict). IsVerdict c line (over c.sparse last (Wanted due ∷ ahead) (front line lines)) w) (sym is) told

-- ---- what is ahead

-- the instruction at a place is the first of those that are left
pub at_place : (is : List Instr) (p : ℕ) (i : Instr) → slice_get is p ≡ Some i → drop p is ≡ i ∷ drop (suc p) is
at_place is p i at =
    drop-cons is p i (slice_get_within is p i at)
    ∙ ap (λ (j : Instr). j ∷ drop (suc p) is) (get_or_from_slice_get is p i i at)

ahead_cons : (at : ℕ) (s t : State) (i : Instr) (is : List Instr) (shown : Option Shown) → step s i ≡ Performed t shown
    → ahead_from at s (i ∷ is) ≡ Wanted (step_due (suc at) i (sends i s) (applies i s) (receives i s) t) ∷ ahead_from (suc at) t is
ahead_cons at s t i is shown e = rw (ahead_from, e) refl

pub ahead_performed : (at : ℕ) (s t : State) (i : Instr) (is : List Instr) (shown : Option Shown) → slice_get is at ≡ Some i → step s i ≡ Performed t shown
    → ahead_from at s (drop at is) ≡ Wanted (step_due (suc at) i (sends i s) (applies i s) (receives i s) t) ∷ ahead_from (suc at) t (drop (suc at) is)
ahead_performed at s t i is shown here e = ap (ahead_from at s) (at_place is at i here) ∙ ahead_cons at s t i (drop (suc at) is) shown e

ahead_stop : (at : ℕ) (s : State) (i : Instr) (is : List Instr) (r : Refusal) → step s i ≡ Refused r → ahead_from at s (i ∷ is) ≡ stopping at s i r
ahead_stop at s i is r e = rw (ahead_from, e) refl

pub ahead_refused : (at : ℕ) (s : State) (i : Instr) (is : List Instr) (r : Refusal) → slice_get is at ≡ Some i → step s i ≡ Refused r
    → ahead_from at s (drop at is) ≡ stopping at s i r
ahead_refused at s i is r here e = ap (ahead_from at s) (at_place is at i here) ∙ ahead_stop at s i (drop (suc at) is) r e

pub ahead_past : (at : ℕ) (s : State) (is : List Instr) → length is ≤ at → ahead_from at s (drop at is) ≡ ending at s
ahead_past at s is past = ap (ahead_from at s) (drop_all at is past)

-- ---- refusals: the table's, or out of memory

pub table_or_memory : (s : State) (i : Instr) (r : Refusal) → IsRefusal (step s i) r → (step s i ≡ Refused r) ⊎ (r ≡ Memory)
table_or_memory s i NoSuchClient is = inl is
table_or_memory s i StepsFull is = inl is
table_or_memory s i NotJoined is = inl is
table_or_memory s i AlreadyJoined is = inl is
table_or_memory s i BadBase is = inl is
table_or_memory s i ClientFull is = inl is
table_or_memory s i LinkEmpty is = inl is
table_or_memory s i WrongHead is = inl is
table_or_memory s i Memory is = inr refl

-- at a limit the comparison stops, where a line is left or each instruction has one
pub stops : (sparse : Bool) (last at : ℕ) (s : State) (i : Instr) (r : Refusal) (line : PortLine) (lines : List PortLine) → (line ≡ Nothing → sparse ≡ false) → is_limit r ≡ true
    → over sparse last (stopping at s i r) (front line lines) ≡ differences.Stopped at r
stops sparse last at s i r (Told d) lines there limit = rw limit refl
stops sparse last at s i r (OtherForm bytes) lines there limit = rw limit refl
stops sparse last at s i r NoText lines there limit = rw limit refl
stops sparse last at s i r Nothing lines there limit = let dense : sparse ≡ false = there refl in rw (limit, dense) refl

pub stops_all : (last at : ℕ) (s : State) (i : Instr) (r : Refusal) (lines : List PortLine) → is_limit r ≡ true → over false last (stopping at s i r) lines ≡ differences.Stopped at r
stops_all last at s i r [] limit = rw limit refl
stops_all last at s i r (line ∷ lines) limit = rw limit refl

pub goes_on : (at : ℕ) (s : State) (i : Instr) (r : Refusal) → is_limit r ≡ false → stopping at s i r ≡ Wanted (stop_due at i r) ∷ ending at s
goes_on at s i r none = rw none refl
