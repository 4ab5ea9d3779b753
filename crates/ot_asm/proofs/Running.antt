-- Running over lines, one after another.
use Rattle.std.proofs.Common.{◌⊎◌, inl, inr, ◌≡◌, ◌+◌, ◌-◌, ◌<◌, ◌&&◌, ℕ, Bool, true, false, List, [], ◌∷◌, ◌++◌, length, take, drop, Option, None, Result, Ok, Err, refl, sym, ap, ◌∙◌, arith, append_assoc, append-nil, length-append}
use Rattle.std.specs.Prelude.{IfOk}
use Rattle.std.proofs.Math.Seq.{take-append-add, drop-append-add}
use Rattle.streams.specs.Lines.{lines_of, lacks}
use Rattle.streams.proofs.Ends.{lines_last}
use Rattle.ot_asm.specs.Stepping.{BodyView, line_step, go_on, run, ended, outcome_of_lines, IsFaultlessBefore, HidesOnlyJson, OutOfMemoryIn}
use Rattle.ot_asm.specs.Words.{trimmed, first_word, keyword_of}
use Rattle.ot_asm.specs.Parts.{is_mark, lines_before, lines_behind}
use Rattle.ot_isa.specs.Program.{Program}
use Rattle.ot_asm.specs.declared.fault.Kind.{Kind}
use Rattle.ot_asm.specs.declared.fault.Kind.TheVariants.{Memory}
use Rattle.ot_asm.specs.declared.fault.AsmFault.{AsmFault}

-- the lines before line number `line`, which is the first of `rest`, have no fault and make the draft
pub record HasRead (lines rest : List (List ℕ)) (line : ℕ) (draft : Option BodyView) : Type 0 where
  pub before : List (List ℕ)
  pub all : lines ≡ before ++ rest
  pub number : line ≡ 1 + length before
  pub drafted_is : run 1 None before ≡ Ok draft

run_append : (before rest : List (List ℕ)) (line : ℕ) (draft next : Option BodyView) → run line draft before ≡ Ok next → run line draft (before ++ rest) ≡ run (line + length before) next rest
unfolding run
run_append [] rest line draft next e =
    let same : draft ≡ next = cc in
    let z : line + 0 ≡ line = omega arith in
    rw (same, z) refl
run_append (l ∷ before) rest line draft next e = by (λ d g. run_append before rest (line + 1) d next g) (line_step draft l) e
  where
    by : ((d : Option BodyView) → run (line + 1) d before ≡ Ok next → run (line + 1) d (before ++ rest) ≡ run ((line + 1) + length before) next rest) → (answer : Result (Option BodyView) Kind) → go_on line answer (λ d. run (line + 1) d before) ≡ Ok next → go_on line answer (λ d. run (line + 1) d (before ++ rest)) ≡ run (line + length (l ∷ before)) next rest
    by again (Ok d) g =
        let z : (line + 1) + length before ≡ line + length (l ∷ before) = omega arith in
        rw (← z) (again d g)
    by again (Err k) g = absurd (cc g)

nothing : run 1 None [] ≡ Ok None
unfolding run
nothing = refl

one_line : (l : List ℕ) (line : ℕ) (draft next : Option BodyView) → line_step draft l ≡ Ok next → run line draft (l ∷ []) ≡ Ok next
unfolding run
one_line l line draft next e = rw e refl

pub started : (lines : List (List ℕ)) → HasRead lines lines 1 None
started lines = record { before = []; all = refl; number = omega arith; drafted_is = nothing }

rest_of : {lines rest : List (List ℕ)} {line : ℕ} {draft : Option BodyView} → HasRead lines rest line draft → run 1 None lines ≡ run line draft rest
rest_of {lines} {rest} {line} {draft} h = rw (h.all, h.number) (run_append h.before rest 1 None draft h.drafted_is)

pub faulted : {lines : List (List ℕ)} (l : List ℕ) (below : List (List ℕ)) {line : ℕ} {draft : Option BodyView} {kind : Kind} → HasRead lines (l ∷ below) line draft → line_step draft l ≡ Err kind → outcome_of_lines lines ≡ Err (record { line = line; kind = kind })
unfolding run
faulted l below h e = rw (rest_of h, e) refl

pub stepped : {lines : List (List ℕ)} (l : List ℕ) (below : List (List ℕ)) {line : ℕ} {draft next : Option BodyView} → HasRead lines (l ∷ below) line draft → line_step draft l ≡ Ok next → HasRead lines below (line + 1) next
stepped {lines} l below {line} {draft} {next} h e = record {
  before = h.before ++ l ∷ [];
  all = h.all ∙ sym (append_assoc h.before (l ∷ []) below);
  number = omega (arith, h.number, length-append h.before (l ∷ []));
  drafted_is = run_append h.before (l ∷ []) 1 None draft h.drafted_is ∙ one_line l (1 + length h.before) draft next e;
}

pub line_number : {lines : List (List ℕ)} {line : ℕ} {draft : Option BodyView} → HasRead lines [] line draft → length lines + 1 ≡ line
line_number h = omega (arith, h.number, ap length h.all, length-append h.before [])

pub at_last : {lines : List (List ℕ)} {line : ℕ} {draft : Option BodyView} {result : Result Program AsmFault} → HasRead lines [] line draft → ((count : ℕ) → count + 1 ≡ line → ended count (Ok draft) ≡ result) → outcome_of_lines lines ≡ result
unfolding run
at_last {lines} h e = rw (rest_of h) (e (length lines) (line_number h))

front_of : (before rest : List (List ℕ)) → take (length before) (before ++ rest) ≡ before
front_of before rest =
    let z : length before + 0 ≡ length before = omega arith in
    rw (← z) (take-append-add before rest 0) ∙ append-nil before

pub faultless : {lines rest : List (List ℕ)} {line : ℕ} {draft : Option BodyView} → HasRead lines rest line draft → IsFaultlessBefore lines line
faultless {lines} {rest} {line} {draft} h =
    let back : line - 1 ≡ length h.before = omega (arith, h.number) in
    let front : take (line - 1) lines ≡ h.before = rw (back, h.all) (front_of h.before rest) in (
      omega (arith, h.number, ap length h.all, length-append h.before rest),
      rw (front, h.drafted_is) refl,
    )

back_of : (front rest : List (List ℕ)) → drop (length front) (front ++ rest) ≡ rest
back_of front rest =
    let z : length front + 0 ≡ length front = omega arith in
    rw (← z) (drop-append-add front rest 0)

-- memory ran out in the line after those that were read
pub wanting : {lines : List (List ℕ)} (l : List ℕ) (below : List (List ℕ)) {line : ℕ} {draft : Option BodyView} → HasRead lines (l ∷ below) line draft → HidesOnlyJson (keyword_of (first_word (trimmed l))) (line_step draft l) → OutOfMemoryIn lines line
wanting l below {line} {draft} h hides =
    let back : line - 1 ≡ length h.before = omega (arith, h.number) in
    record {
      draft = draft;
      before = rw (back, h.all, front_of h.before (l ∷ below)) h.drafted_is;
      text = l;
      below = below;
      here = rw (back, h.all) (back_of h.before (l ∷ below));
      hides = hides;
    }

pub fault_of : {R : Type 0} (kind : Kind) {P : Type 0} → (kind ≡ Memory) ⊎ P → (P → R) → (kind ≡ Memory) ⊎ R
fault_of kind (inl e) f = inl e
fault_of kind (inr p) f = inr (f p)

pub no_lines : (text : List ℕ) → length text ≡ 0 → lines_of text ≡ []
unfolding lines_of
no_lines [] e = refl
no_lines (b ∷ bs) e = absurd (omega (arith, e))

-- `front` was taken of the lines, without a mark where marks count, and has no fault
pub record IsTaken (marked : Bool) (lines rest : List (List ℕ)) (line : ℕ) (draft : Option BodyView) : Type 0 where
  pub read : HasRead (lines_before marked lines) (lines_before marked rest) line draft
  pub behind : lines_behind marked rest ≡ lines_behind marked lines
  pub front : List (List ℕ)
  pub all : lines ≡ front ++ rest
  pub number : line ≡ 1 + length front

pub taken_start : (marked : Bool) (lines : List (List ℕ)) → IsTaken marked lines lines 1 None
taken_start marked lines = record { read = started (lines_before marked lines); behind = refl; front = []; all = refl; number = omega arith }

before_other : (marked : Bool) (l : List ℕ) (ls : List (List ℕ)) → (marked && is_mark l) ≡ false → lines_before marked (l ∷ ls) ≡ l ∷ lines_before marked ls
unfolding lines_before
before_other marked l ls e = rw e refl

behind_other : (marked : Bool) (l : List ℕ) (ls : List (List ℕ)) → (marked && is_mark l) ≡ false → lines_behind marked (l ∷ ls) ≡ lines_behind marked ls
unfolding lines_behind
behind_other marked l ls e = rw e refl

before_mark : (marked : Bool) (l : List ℕ) (ls : List (List ℕ)) → (marked && is_mark l) ≡ true → lines_before marked (l ∷ ls) ≡ []
unfolding lines_before
before_mark marked l ls e = rw e refl

behind_mark : (marked : Bool) (l : List ℕ) (ls : List (List ℕ)) → (marked && is_mark l) ≡ true → lines_behind marked (l ∷ ls) ≡ ls
unfolding lines_behind
behind_mark marked l ls e = rw e refl

before_none : (marked : Bool) → lines_before marked [] ≡ []
unfolding lines_before
before_none marked = refl

behind_none : (marked : Bool) → lines_behind marked [] ≡ []
unfolding lines_behind
behind_none marked = refl

-- where marks do not count, all lines are taken
pub all_before : (lines : List (List ℕ)) → lines_before false lines ≡ lines
unfolding lines_before
all_before [] = refl
all_before (l ∷ ls) = ap (λ t. l ∷ t) (all_before ls)

pub taken_step : {marked : Bool} {lines : List (List ℕ)} (l : List ℕ) (ls : List (List ℕ)) {line : ℕ} {draft next : Option BodyView} → IsTaken marked lines (l ∷ ls) line draft → (marked && is_mark l) ≡ false → line_step draft l ≡ Ok next → IsTaken marked lines ls (line + 1) next
taken_step {marked} {lines} l ls h other e =
    let read = rw (before_other marked l ls other) at h.read in
    record {
      read = stepped l (lines_before marked ls) read e;
      behind = sym (behind_other marked l ls other) ∙ h.behind;
      front = h.front ++ l ∷ [];
      all = h.all ∙ sym (append_assoc h.front (l ∷ []) ls);
      number = omega (arith, h.number, length-append h.front (l ∷ []));
    }

pub taken_fault : {marked : Bool} {lines : List (List ℕ)} (l : List ℕ) (ls : List (List ℕ)) {line : ℕ} {draft : Option BodyView} {kind : Kind} → IsTaken marked lines (l ∷ ls) line draft → (marked && is_mark l) ≡ false → line_step draft l ≡ Err kind → outcome_of_lines (lines_before marked lines) ≡ Err (record { line = line; kind = kind })
taken_fault {marked} l ls h other e = let read = rw (before_other marked l ls other) at h.read in faulted l (lines_before marked ls) read e

pub taken_want : {marked : Bool} {lines : List (List ℕ)} (l : List ℕ) (ls : List (List ℕ)) {line : ℕ} {draft : Option BodyView} → IsTaken marked lines (l ∷ ls) line draft → (marked && is_mark l) ≡ false → HidesOnlyJson (keyword_of (first_word (trimmed l))) (line_step draft l) → OutOfMemoryIn (lines_before marked lines) line
taken_want {marked} l ls h other hides = let read = rw (before_other marked l ls other) at h.read in wanting l (lines_before marked ls) read hides

pub taken_mark : {marked : Bool} {lines : List (List ℕ)} (l : List ℕ) (ls : List (List ℕ)) {line : ℕ} {draft : Option BodyView} {result : Result Program AsmFault} → IsTaken marked lines (l ∷ ls) line draft → (marked && is_mark l) ≡ true → ((count : ℕ) → count + 1 ≡ line → ended count (Ok draft) ≡ result) → outcome_of_lines (lines_before marked lines) ≡ result
taken_mark {marked} l ls h mark e = let read = rw (before_mark marked l ls mark) at h.read in at_last read e

pub mark_behind : {marked : Bool} {lines : List (List ℕ)} (l : List ℕ) (ls : List (List ℕ)) {line : ℕ} {draft : Option BodyView} → IsTaken marked lines (l ∷ ls) line draft → (marked && is_mark l) ≡ true → (ls ≡ lines_behind marked lines) × (length lines ≡ line + length ls)
mark_behind {marked} l ls h mark = (sym (behind_mark marked l ls mark) ∙ h.behind, omega (arith, h.number, ap length h.all, length-append h.front (l ∷ ls)))

pub taken_end : {marked : Bool} {lines : List (List ℕ)} {line : ℕ} {draft : Option BodyView} {result : Result Program AsmFault} → IsTaken marked lines [] line draft → ((count : ℕ) → count + 1 ≡ line → ended count (Ok draft) ≡ result) → outcome_of_lines (lines_before marked lines) ≡ result
taken_end {marked} h e = let read = rw (before_none marked) at h.read in at_last read e

pub end_behind : {marked : Bool} {lines : List (List ℕ)} {line : ℕ} {draft : Option BodyView} → IsTaken marked lines [] line draft → ([] ≡ lines_behind marked lines) × (length lines ≡ (line - 1) + length {A = List ℕ} [])
end_behind {marked} h = (sym (behind_none marked) ∙ h.behind, omega (arith, h.number, ap length h.all, length-append h.front []))

pub rest_is : {marked : Bool} {lines rest : List (List ℕ)} {line : ℕ} {draft : Option BodyView} → IsTaken marked lines rest line draft → drop (line - 1) lines ≡ rest
rest_is {marked} {lines} {rest} {line} h =
    let back : line - 1 ≡ length h.front = omega (arith, h.number) in
    rw (back, h.all) (back_of h.front rest)

-- the fault of a line, with its number
pub fault_is : (fault : AsmFault) (line : ℕ) → fault.line ≡ line → ◌≡◌ {A = Result Program AsmFault} (Err (record { line = line; kind = fault.kind })) (Err fault)
fault_is fault line e = ap (λ (n : ℕ). Err (record { line = n; kind = fault.kind })) (sym e)

pub ok_of_two : {T E : Type 0} (r : Result T E) (P Q R : T → Type 0) → ((x : T) → P x → Q x → R x) → IfOk r P → IfOk r Q → IfOk r R
ok_of_two (Ok x) P Q R f p q = f x p q
ok_of_two (Err e) P Q R f p q = tt

-- a text without an LF is one line
pub whole_line : (text : List ℕ) → 0 < length text → lacks text ≡ true → lines_of text ≡ text ∷ lines_of []
unfolding lines_of
whole_line [] some h = absurd (omega (arith, some))
whole_line (b ∷ bs) some h = lines_last b bs h
