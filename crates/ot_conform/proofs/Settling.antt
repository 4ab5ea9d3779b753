-- What comes of a line once it is compared.
use Rattle.std.proofs.Common.{◌≡◌, ℕ, suc, List, [], ◌∷◌, length, drop, Bool, true, false, Option, Some, None, refl, sym, ap, ◌∙◌, subst, inl, inr, arith}
use Rattle.std.specs.Prelude.{slice_get, ◌⊎◌, ◌≤◌, ◌<◌, ◌+◌, ◌&&◌, IfOk, IfSome, IsSome, Result, Ok, Err}
use Rattle.ot_isa.specs.Program.{Program}
use Rattle.ot_isa.specs.declared.instruction.Instr.{Instr}
use Rattle.ot_model.specs.declared.shown.Refusal.{Refusal}
use Rattle.ot_model.specs.declared.shown.Refusal.TheVariants.{Memory}
use Rattle.ot_model.specs.declared.shown.Shown.{Shown}
use Rattle.ot_model.specs.Table.{Performed, Refused, State, step}
use Rattle.ot_machine.specs.Answers.{IsRefusal}
use Rattle.ot_machine.specs.Effects.{sends}
use Rattle.ot_steps.specs.Steps.{applies, is_quiet}
use Rattle.ot_conform.specs.Alike.{IsJudged}
use Rattle.ot_conform.specs.Differences.{Ahead, Wanted, Outcome, ahead_from, ending, field_of, is_limit, over}
use Rattle.ot_conform.specs.Due.{DueLine, end_due, opening_due, step_due, stop_due}
use Rattle.ot_conform.specs.Passed.{passes, passes_step, passes_stop}
use Rattle.ot_conform.specs.Ports.{PortLine, Told, OtherForm, NoText, Nothing, front, is_nothing, is_opening_line}
use Rattle.ot_conform.specs.Read.{read_as}
use Rattle.ot_conform.specs.Received.{receives}
use Rattle.ot_conform.specs.Standing.{AgreesAt, EndsAt, Goes, IsStanding, IsVerdict, rest, rest_at}
use Rattle.ot_conform.proofs.Outcomes.{IsNeeded, IsThere, ahead_past, ahead_performed, ahead_refused, goes_on, is_difference, never, over_passes, stops, table_or_memory}
use Rattle.ot_conform.proofs.Going.{ahead_of, front_there, goes_last, goes_step, is_opening_there, passed_next, rest_opened, rest_passed, running}
use Rattle.ot_conform.specs.declared.counts.Counts.{Counts}
use Rattle.ot_conform.specs.declared.comparison.Comparison.{Comparison}
use Rattle.ot_conform.specs.declared.comparison.Stage.{Stage}
use Rattle.ot_conform.specs.declared.comparison.Stage.TheVariants.{Opening, Running, Over}
use Rattle.ot_conform.specs.declared.comparison.Verdict.{Verdict}
use Rattle.ot_conform.specs.declared.comparison.Verdict.TheVariants.{Conforms, Stopped}
use Rattle.ot_conform.specs.declared.lines.PortLine as read
use Rattle.ot_conform.specs.declared.lines.PortLine.TheVariants as port

pub if_some : {T : Type 0} (o : Option T) (P Q : T → Type 0) → ((x : T) → P x → Q x) → IfSome o P → IfSome o Q
if_some None P Q f p = tt
if_some (Some x) P Q f p = f x p

pub if_ok : {T E : Type 0} (r : Result T E) (P Q : T → Type 0) → ((x : T) → P x → Q x) → IfOk r P → IfOk r Q
if_ok (Ok x) P Q f p = f x p
if_ok (Err e) P Q f p = tt

-- a line that was read is there, unless it is none
pub is_there : (line : read.PortLine) → (line ≡ port.Nothing → ⊥) → IsThere (read_as line)
is_there (port.Told value) other = tt
is_there (port.OtherForm text) other = tt
is_there port.NoText other = tt
is_there port.Nothing other = absurd (other refl)

-- ---- whether a line is there

-- a line that is there is none of none
pub there_not : (line : PortLine) → IsThere line → {A : Type 0} → line ≡ Nothing → A
there_not line there none = absurd (subst IsThere none there)

-- no line is left of lines for some instructions alone
pub passed_all : (s : Program) (c : Comparison) (line : PortLine) → (c.sparse && is_nothing line) ≡ true → (lines : List PortLine) → IsVerdict c line (rest s c (front line lines)) (Conforms c.counts)
passed_all s c line e lines = go c.sparse refl line e
  where
    none : c.sparse ≡ true → IsVerdict c Nothing (rest s c []) (Conforms c.counts)
    none sparse = (rest_passed s c sparse, refl, refl)

    go : (b : Bool) → c.sparse ≡ b → (line : PortLine) → (b && is_nothing line) ≡ true → IsVerdict c line (rest s c (front line lines)) (Conforms c.counts)
    go true sparse (Told d) e = absurd (cc)
    go true sparse (OtherForm bytes) e = absurd (cc)
    go true sparse NoText e = absurd (cc)
    go true sparse Nothing e = none sparse
    go false sparse line e = absurd (cc)

-- ---- one line

pub settled : (c : Comparison) (counts : Counts) (last : ℕ) (due : DueLine) (ahead : List Ahead) (line : PortLine) (result : Option Verdict)
    → IsNeeded due.what ⊎ IsThere line → (line ≡ Nothing → c.sparse ≡ false) → passes c.sparse due line ≡ false → IsJudged c.counts counts due line result
    → IfSome result (λ v. (lines : List PortLine) → IsVerdict c line (over c.sparse last (Wanted due ∷ ahead) (front line lines)) v)
settled c counts last due ahead line None which there kept judged = tt
settled c counts last due ahead line (Some v) which there kept judged =
    λ (lines : List PortLine). is_difference c last due ahead line lines judged.0 v which there kept judged.1 judged.2

pub agreed : (c : Comparison) (counts : Counts) (due : DueLine) (stage : Stage) (line : PortLine) (result : Option Verdict) → IsJudged c.counts counts due line result → result ≡ None
    → AgreesAt due stage c line (record c { stage = stage; counts = counts })
agreed c counts due stage line result judged none =
    let both = subst (IsJudged c.counts counts due line) none judged in
    record { agrees = both.0; is = ap (λ (counts : Counts). record c { stage = stage; counts = counts }) both.1 }

-- ---- the opening's line

pub opening_decides : (s : Program) (c : Comparison) (counts : Counts) (line : PortLine) (result : Option Verdict) → c.stage ≡ Opening → is_opening_line line ≡ true → IsJudged c.counts counts (opening_due s) line result
    → IfSome result (λ v. (lines : List PortLine) → IsVerdict c line (rest s c (front line lines)) v)
opening_decides s c counts line result is on judged =
    let there = is_opening_there line on in
    if_some result _ _ (λ v given lines. subst (λ (o : Outcome). IsVerdict c line o v) (sym (rest_opened s c line lines is on)) (given lines))
    (settled c counts 0 (opening_due s) (ahead_of s c) line result (inl tt) (there_not line there) (never c.sparse) judged)

-- ---- the end's line

pub end_judged : (c : Comparison) (counts : Counts) (line : PortLine) (quiet : Bool) (result : Option Verdict) → quiet ≡ is_quiet c.machine → IsJudged c.counts counts (end_due c.place quiet) line result
    → IsJudged c.counts counts (end_due c.place (is_quiet c.machine)) line result
end_judged c counts line quiet result is judged = subst (λ (q : Bool). IsJudged c.counts counts (end_due c.place q) line result) is judged

-- ---- the line of an instruction that is refused

-- the line passes over it
stop_there : (at : ℕ) (line : PortLine) (sparse : Bool) → (sparse && passes_stop at line) ≡ true → IsThere line
stop_there at (Told d) sparse passed = tt
stop_there at (OtherForm bytes) true passed = absurd (cc)
stop_there at (OtherForm bytes) false passed = absurd (cc)
stop_there at NoText true passed = absurd (cc)
stop_there at NoText false passed = absurd (cc)
stop_there at Nothing true passed = absurd (cc)
stop_there at Nothing false passed = absurd (cc)

pub past_decides : (c : Comparison) (i : Instr) (r : Refusal) (line : PortLine) (v : Verdict) → passes c.sparse (stop_due c.place i r) line ≡ true
    → ((lines : List PortLine) → IsVerdict c line (over c.sparse c.place (ending c.place c.machine) (front line lines)) v)
    → (lines : List PortLine) → IsVerdict c line (over c.sparse c.place (Wanted (stop_due c.place i r) ∷ ending c.place c.machine) (front line lines)) v
past_decides c i r line v passed given lines =
    let there : front line lines ≡ line ∷ lines = front_there line lines (stop_there c.place line c.sparse passed) in
    let same : over c.sparse c.place (Wanted (stop_due c.place i r) ∷ ending c.place c.machine) (front line lines) ≡ over c.sparse c.place (ending c.place c.machine) (front line lines) =
    ap (over c.sparse c.place (Wanted (stop_due c.place i r) ∷ ending c.place c.machine)) there
    ∙ over_passes c.sparse c.place (stop_due c.place i r) (ending c.place c.machine) line lines passed
    ∙ ap (over c.sparse c.place (ending c.place c.machine)) (sym there) in
    subst (λ (o : Outcome). IsVerdict c line o v) (sym same) (given lines)

no_memory : (r : Refusal) → r ≡ Memory → is_limit r ≡ false → ⊥
no_memory r is none = let e : true ≡ false = sym (ap is_limit is) ∙ none in cc

pub stop_goes : (s : Program) (c c' : Comparison) (line : PortLine) (i : Instr) (r : Refusal) → IsStanding s (running c) → slice_get s.instrs c.place ≡ Some i → IsRefusal (step c.machine i) r → is_limit r ≡ false
    → EndsAt c i r line c' → Goes s (running c) line c'
stop_goes s c c' line i r standing here refused none went = go (table_or_memory c.machine i r refused)
  where
    go : (step c.machine i ≡ Refused r) ⊎ (r ≡ Memory) → Goes s (running c) line c'
    go (inl e) = goes_last s c c' line i r standing here e none went
    go (inr e) = absurd (no_memory r e none)

pub stop_verdict : (s : Program) (c : Comparison) (line : PortLine) (i : Instr) (r : Refusal) (v : Verdict) → slice_get s.instrs c.place ≡ Some i → IsRefusal (step c.machine i) r → is_limit r ≡ false
    → ((lines : List PortLine) → IsVerdict c line (over c.sparse c.place (Wanted (stop_due c.place i r) ∷ ending c.place c.machine) (front line lines)) v)
    → (lines : List PortLine) → IsVerdict c line (rest s (running c) (front line lines)) v
stop_verdict s c line i r v here refused none given lines = go (table_or_memory c.machine i r refused)
  where
    go : (step c.machine i ≡ Refused r) ⊎ (r ≡ Memory) → IsVerdict c line (rest s (running c) (front line lines)) v
    go (inl e) =
        subst (λ (ahead : List Ahead). IsVerdict c line (over c.sparse c.place ahead (front line lines)) v) (sym (ahead_refused c.place c.machine i s.instrs r here e ∙ goes_on c.place c.machine i r none)) (given lines)
    go (inr e) = absurd (no_memory r e none)

-- a limit of the bench
pub limit_verdict : (s : Program) (c : Comparison) (line : PortLine) (i : Instr) (r : Refusal) → slice_get s.instrs c.place ≡ Some i → IsRefusal (step c.machine i) r → is_limit r ≡ true → (line ≡ Nothing → c.sparse ≡ false)
    → (lines : List PortLine) → IsVerdict c line (rest s (running c) (front line lines)) (Stopped c.place r)
limit_verdict s c line i r here refused limit there lines = go (table_or_memory c.machine i r refused)
  where
    go : (step c.machine i ≡ Refused r) ⊎ (r ≡ Memory) → IsVerdict c line (rest s (running c) (front line lines)) (Stopped c.place r)
    go (inl e) =
        inl (ap (λ (ahead : List Ahead). over c.sparse c.place ahead (front line lines)) (ahead_refused c.place c.machine i s.instrs r here e)
        ∙ stops c.sparse c.place c.place c.machine i r line lines there limit)
    go (inr e) = inr (inl refl, e)

-- the machine is as it was
pub same_refused : (s : Program) (c mid : Comparison) (c' : Comparison) (line : PortLine) → mid ≡ c → Goes s (running mid) line c' → Goes s (running c) line c'
same_refused s c mid c' line same goes = subst (λ (x : Comparison). Goes s (running x) line c') same goes

pub same_verdict : (s : Program) (c mid : Comparison) (line : PortLine) (v : Verdict) → mid ≡ c → ((lines : List PortLine) → IsVerdict mid line (rest s (running mid) (front line lines)) v)
    → (lines : List PortLine) → IsVerdict c line (rest s (running c) (front line lines)) v
same_verdict s c mid line v same given = subst (λ (x : Comparison). (lines : List PortLine) → IsVerdict x line (rest s (running x) (front line lines)) v) same given

-- ---- the line of an instruction that is performed

pub step_decides : (s : Program) (c : Comparison) (counts : Counts) (line : PortLine) (i : Instr) (t : State) (shown : Option Shown) (due : DueLine) (result : Option Verdict)
    → slice_get s.instrs c.place ≡ Some i → step c.machine i ≡ Performed t shown → due ≡ step_due (suc c.place) i (sends i c.machine) (applies i c.machine) (receives i c.machine) t → (line ≡ Nothing → c.sparse ≡ false)
    → (c.sparse && passes_step (c.place + 1) line) ≡ false → IsJudged c.counts counts due line result
    → IfSome result (λ v. (lines : List PortLine) → IsVerdict c line (over c.sparse c.place (ahead_of s c) (front line lines)) v)
step_decides s c counts line i t shown due result here performed is there kept judged =
    let P : List Ahead → Type 0 = λ ahead. IfSome result (λ v. (lines : List PortLine) → IsVerdict c line (over c.sparse c.place ahead (front line lines)) v) in
    subst P (sym (ahead_performed c.place c.machine t i s.instrs shown here performed))
    (settled c counts c.place (step_due (suc c.place) i (sends i c.machine) (applies i c.machine) (receives i c.machine) t) (ahead_from (suc c.place) t (drop (suc c.place) s.instrs)) line result (inl tt) there
    (passed_next c line false kept) (subst (λ (d : DueLine). IsJudged c.counts counts d line result) is judged))

-- where an instruction stands at the place, the line does not pass over it
pub not_passed : (b : Bool) (count place : ℕ) → (b ≡ true → count ≤ place) → place < count → b ≡ false
not_passed true count place kept less = absurd (let most = kept refl in omega (arith, most, less))
not_passed false count place kept less = refl

-- ---- behind the end

pub rest_over : (s : Program) (c : Comparison) (line : PortLine) (lines : List PortLine) (v : Verdict) → c.stage ≡ Over → IsVerdict c line (over c.sparse c.place [] lines) v → IsVerdict c line (rest s c lines) v
rest_over s c line lines v is given = subst (λ (o : Outcome). IsVerdict c line o v) (sym (ap (λ (x : Stage). rest_at s c x lines) is)) given

-- no line agrees where none is left
pub nothing_judged : (c c' : Counts) (due : DueLine) (line : PortLine) (result : Option Verdict) → IsJudged c c' due line result → line ≡ Nothing → IsSome result
nothing_judged c c' due line None judged none = absurd (let e : field_of due Nothing ≡ None = subst (λ (l : PortLine). field_of due l ≡ None) none judged.0 in cc)
nothing_judged c c' due line (Some v) judged none = refl

-- ---- where a line is judged

pub step_goes : (s : Program) (c : Comparison) (counts : Counts) (line : PortLine) (i : Instr) (t : State) (shown : Option Shown) (due : DueLine) (result : Option Verdict) → IsStanding s (running c)
    → slice_get s.instrs c.place ≡ Some i → step c.machine i ≡ Performed t shown → due ≡ step_due (suc c.place) i (sends i c.machine) (applies i c.machine) (receives i c.machine) t
    → (c.sparse && passes_step (c.place + 1) line) ≡ false → IsJudged c.counts counts due line result → result ≡ None
    → Goes s (running c) line (record c { machine = t; place = c.place + 1; stage = Running; counts = counts })
step_goes s c counts line i t shown due result standing here performed is kept judged none =
    let both = subst (IsJudged c.counts counts due line) none judged in
    goes_step s c _ line i t shown due standing here performed is kept both.0 (ap (λ (n : Counts). record c { machine = t; place = c.place + 1; stage = Running; counts = n }) both.1)

-- the end's line, where no instruction is left
pub end_verdict : (s : Program) (c : Comparison) (line : PortLine) (v : Verdict) → length s.instrs ≤ c.place → ((lines : List PortLine) → IsVerdict c line (over c.sparse c.place (ending c.place c.machine) (front line lines)) v)
    → (lines : List PortLine) → IsVerdict c line (rest s (running c) (front line lines)) v
end_verdict s c line v past given lines = subst (λ (ahead : List Ahead). IsVerdict c line (over c.sparse c.place ahead (front line lines)) v) (sym (ahead_past c.place c.machine s.instrs past)) (given lines)
