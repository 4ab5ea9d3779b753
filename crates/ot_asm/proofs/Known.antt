-- Running over the lines of a reader whose bytes may be known.
use Rattle.std.proofs.Common.{◌≡◌, ◌≢◌, ◌⊎◌, inl, inr, ◌+◌, ◌-◌, ◌&&◌, ℕ, List, [], length, Bool, true, false, Option, Some, None, Result, Ok, Err, refl, ap, ◌∙◌, arith}
use Rattle.std.specs.Prelude.{IfSome, OnOk, ⊤}
use Rattle.streams.specs.Lines.{lines_of}
use Rattle.streams.specs.Taken.{TakesLine, Spends}
use Rattle.ot_isa.specs.Program.{Program}
use Rattle.ot_asm.specs.Stepping.{BodyView, line_step, ended, outcome_of_lines, HidesOnlyJson, OutOfMemoryIn}
use Rattle.ot_asm.specs.Words.{trimmed, first_word, keyword_of}
use Rattle.ot_asm.specs.Parts.{is_mark, lines_before, TakesPart}
use Rattle.ot_asm.specs.declared.fault.Kind.{Kind}
use Rattle.ot_asm.specs.declared.fault.Kind.TheVariants.{Memory}
use Rattle.ot_asm.specs.declared.fault.AsmFault.{AsmFault}
use Rattle.ot_asm.proofs.Running.{IsTaken, taken_start, taken_step, taken_fault, taken_want, taken_mark, mark_behind, taken_end, end_behind, fault_is, no_lines}

-- the lines before line number `line` made the draft, where the bytes are known
abbrev pub IsTakenKnown : Bool → Option (List ℕ) → Option (List ℕ) → ℕ → Option BodyView → Type 0
IsTakenKnown marked None rest line draft = ⊤
IsTakenKnown marked (Some text) None line draft = ⊥
IsTakenKnown marked (Some text) (Some rest) line draft = IsTaken marked (lines_of text) (lines_of rest) line draft

pub started_known : (marked : Bool) (text : Option (List ℕ)) → IsTakenKnown marked text text 1 None
started_known marked None = tt
started_known marked (Some text) = taken_start marked (lines_of text)

pub stepped_known : (marked : Bool) (text now next : Option (List ℕ)) (l : List ℕ) (line : ℕ) (draft after : Option BodyView) → IsTakenKnown marked text now line draft → TakesLine now next true l → (marked && is_mark l) ≡ false → line_step draft l ≡ Ok after → IsTakenKnown marked text next (line + 1) after
stepped_known marked None now next l line draft after h t other e = tt
stepped_known marked (Some text) None next l line draft after h t other e = absurd h
stepped_known marked (Some text) (Some now) None l line draft after h t other e = absurd t
stepped_known marked (Some text) (Some now) (Some next) l line draft after h t other e = let taken = rw t at h in taken_step l (lines_of next) taken other e

pub faulted_known : (marked : Bool) (text now next : Option (List ℕ)) (l : List ℕ) (line : ℕ) (draft : Option BodyView) (kind : Kind) → IsTakenKnown marked text now line draft → TakesLine now next true l → (marked && is_mark l) ≡ false → line_step draft l ≡ Err kind → IfSome text (λ t. outcome_of_lines (lines_before marked (lines_of t)) ≡ Err (record { line = line; kind = kind }))
faulted_known marked None now next l line draft kind h t other e = tt
faulted_known marked (Some text) None next l line draft kind h t other e = absurd h
faulted_known marked (Some text) (Some now) None l line draft kind h t other e = absurd t
faulted_known marked (Some text) (Some now) (Some next) l line draft kind h t other e = let taken = rw t at h in taken_fault l (lines_of next) taken other e

pub wanting_known : (marked : Bool) (text now next : Option (List ℕ)) (l : List ℕ) (line : ℕ) (draft : Option BodyView) → IsTakenKnown marked text now line draft → TakesLine now next true l → (marked && is_mark l) ≡ false → HidesOnlyJson (keyword_of (first_word (trimmed l))) (line_step draft l) → IfSome text (λ t. OutOfMemoryIn (lines_before marked (lines_of t)) line)
wanting_known marked None now next l line draft h t other hides = tt
wanting_known marked (Some text) None next l line draft h t other hides = absurd h
wanting_known marked (Some text) (Some now) None l line draft h t other hides = absurd t
wanting_known marked (Some text) (Some now) (Some next) l line draft h t other hides = let taken = rw t at h in taken_want l (lines_of next) taken other hides

pub marked_known : (marked : Bool) (text now next : Option (List ℕ)) (l : List ℕ) (line : ℕ) (draft : Option BodyView) (result : Result Program AsmFault) → IsTakenKnown marked text now line draft → TakesLine now next true l → (marked && is_mark l) ≡ true → ((count : ℕ) → count + 1 ≡ line → ended count (Ok draft) ≡ result) → IfSome text (λ t. outcome_of_lines (lines_before marked (lines_of t)) ≡ result)
marked_known marked None now next l line draft result h t mark e = tt
marked_known marked (Some text) None next l line draft result h t mark e = absurd h
marked_known marked (Some text) (Some now) None l line draft result h t mark e = absurd t
marked_known marked (Some text) (Some now) (Some next) l line draft result h t mark e = let taken = rw t at h in taken_mark l (lines_of next) taken mark e

pub marked_part : (marked : Bool) (text now next : Option (List ℕ)) (l : List ℕ) (line : ℕ) (draft : Option BodyView) → IsTakenKnown marked text now line draft → TakesLine now next true l → (marked && is_mark l) ≡ true → TakesPart marked text next line
marked_part marked None now next l line draft h t mark = tt
marked_part marked (Some text) None next l line draft h t mark = absurd h
marked_part marked (Some text) (Some now) None l line draft h t mark = absurd t
marked_part marked (Some text) (Some now) (Some next) l line draft h t mark = let taken = rw t at h in mark_behind l (lines_of next) taken mark

pub ended_known : (marked : Bool) (text now next : Option (List ℕ)) (l : List ℕ) (line : ℕ) (draft : Option BodyView) (result : Result Program AsmFault) → IsTakenKnown marked text now line draft → TakesLine now next false l → ((count : ℕ) → count + 1 ≡ line → ended count (Ok draft) ≡ result) → IfSome text (λ t. outcome_of_lines (lines_before marked (lines_of t)) ≡ result)
ended_known marked None now next l line draft result h t e = tt
ended_known marked (Some text) None next l line draft result h t e = absurd h
ended_known marked (Some text) (Some now) None l line draft result h t e = absurd t
ended_known marked (Some text) (Some now) (Some next) l line draft result h t e =
    let none : lines_of now ≡ [] = no_lines now (omega (arith, ap length t.0)) in
    let taken = rw none at h in
    taken_end taken e

pub ended_part : (marked : Bool) (text now next : Option (List ℕ)) (l : List ℕ) (line : ℕ) (draft : Option BodyView) → IsTakenKnown marked text now line draft → TakesLine now next false l → TakesPart marked text next (line - 1)
ended_part marked None now next l line draft h t = tt
ended_part marked (Some text) None next l line draft h t = absurd h
ended_part marked (Some text) (Some now) None l line draft h t = absurd t
ended_part marked (Some text) (Some now) (Some next) l line draft h t =
    let none : lines_of now ≡ [] = no_lines now (omega (arith, ap length t.0)) in
    let left : lines_of next ≡ [] = no_lines next (omega (arith, ap length t.1)) in
    let taken = rw none at h in
    rw left (end_behind taken)

pub spends_none : (most : ℕ) (text : Option (List ℕ)) → Spends most most text text
spends_none most None = tt
spends_none most (Some text) = refl

pub spends_more : (most now left : ℕ) (text rest next : Option (List ℕ)) → Spends most now text rest → Spends now left rest next → Spends most left text next
spends_more most now left None rest next p q = tt
spends_more most now left (Some text) None next p q = absurd p
spends_more most now left (Some text) (Some rest) None p q = absurd q
spends_more most now left (Some text) (Some rest) (Some next) p q = omega (arith, p, q)

pub other_fault : {kind : Kind} {P : Type 0} → kind ≢ Memory → (kind ≡ Memory) ⊎ P → P
other_fault n (inl e) = absurd (n e)
other_fault n (inr p) = p

-- a fault of known bytes, with its number
pub named : (marked : Bool) (fault : AsmFault) (line : ℕ) (text : Option (List ℕ)) → fault.line ≡ line → IfSome text (λ t. outcome_of_lines (lines_before marked (lines_of t)) ≡ Err (record { line = line; kind = fault.kind })) → IfSome text (λ t. outcome_of_lines (lines_before marked (lines_of t)) ≡ Err fault)
named marked fault line None e h = tt
named marked fault line (Some t) e h = h ∙ fault_is fault line e

pub on_ok : {T E P : Type 0} (r : Result T E) → P → OnOk r P
on_ok (Ok x) p = p
on_ok (Err e) p = tt
