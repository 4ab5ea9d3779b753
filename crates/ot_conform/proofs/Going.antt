-- A line that agrees leads to the rest of the lines.
use Rattle.std.proofs.Common.{◌≡◌, ℕ, suc, ◌+◌, ◌≤◌, List, [], ◌∷◌, drop, Bool, true, false, Option, Some, None, refl, sym, ap, ◌∙◌, subst, add-one, arith, inl, inr}
use Rattle.std.specs.Prelude.{slice_get, ◌&&◌}
use Rattle.ot_isa.specs.Program.{Program}
use Rattle.ot_isa.specs.declared.instruction.Instr.{Instr}
use Rattle.ot_model.specs.declared.shown.Refusal.{Refusal}
use Rattle.ot_model.specs.declared.shown.Shown.{Shown}
use Rattle.ot_model.specs.Operation.{Operation}
use Rattle.ot_model.specs.Runs.{place_at}
use Rattle.ot_model.specs.Table.{Performed, Refused, State, step, with_shown}
use Rattle.ot_model.proofs.Runs.{place_at-next}
use Rattle.ot_machine.specs.Effects.{sends}
use Rattle.ot_steps.specs.Steps.{applies, is_quiet}
use Rattle.ot_conform.specs.Counted.{with_port_line}
use Rattle.ot_conform.specs.Differences as differences
use Rattle.ot_conform.specs.Differences.{Ahead, Wanted, ahead_from, ending, field_of, from_opening, is_limit, over}
use Rattle.ot_conform.specs.Due.{DueLine, end_due, opening_due, step_due, stop_due}
use Rattle.ot_conform.specs.Passed.{passes, passes_step}
use Rattle.ot_conform.specs.Ports.{PortLine, Told, OtherForm, NoText, Nothing, front, is_opening_line}
use Rattle.ot_conform.specs.Received.{Received, receives}
use Rattle.ot_conform.specs.Standing.{AgreesAt, EndsAt, Goes, IsAtOpening, IsPassed, IsStanding, IsVerdict, Passes, rest, rest_at}
use Rattle.ot_conform.proofs.Outcomes.{IsThere, ahead_performed, ahead_refused, goes_on, never, nothing_left, over_agrees, over_passes}
use Rattle.ot_conform.specs.declared.comparison.Comparison.{Comparison}
use Rattle.ot_conform.specs.declared.comparison.Stage.{Stage}
use Rattle.ot_conform.specs.declared.comparison.Verdict.{Verdict}
use Rattle.ot_conform.specs.declared.comparison.Verdict.TheVariants.{Conforms, Differs, Stopped}
use Rattle.ot_conform.specs.declared.comparison.Stage.TheVariants.{Opening, Running, Ending, Over}

abbrev pub running : Comparison → Comparison
running c = record c { stage = Running }

-- what is ahead of a comparison that runs
abbrev pub ahead_of : Program → Comparison → List Ahead
ahead_of s c = ahead_from c.place c.machine (drop c.place s.instrs)

-- ---- the opening's line

pub is_opening_there : (line : PortLine) → is_opening_line line ≡ true → IsThere line
is_opening_there (Told d) on = tt
is_opening_there (OtherForm bytes) on = absurd (cc)
is_opening_there NoText on = absurd (cc)
is_opening_there Nothing on = absurd (cc)

pub front_there : (line : PortLine) (lines : List PortLine) → IsThere line → front line lines ≡ line ∷ lines
front_there (Told d) lines there = refl
front_there (OtherForm bytes) lines there = refl
front_there NoText lines there = refl
front_there Nothing lines there = absurd there

opens : (sparse : Bool) (opening : DueLine) (ahead : List Ahead) (line : PortLine) (lines : List PortLine) → is_opening_line line ≡ true
    → from_opening sparse opening ahead (line ∷ lines) ≡ over sparse 0 (Wanted opening ∷ ahead) (line ∷ lines)
opens sparse opening ahead line lines on = rw on refl

pub rest_opened : (s : Program) (c : Comparison) (line : PortLine) (lines : List PortLine) → c.stage ≡ Opening → is_opening_line line ≡ true
    → rest s c (front line lines) ≡ over c.sparse 0 (Wanted (opening_due s) ∷ ahead_of s c) (front line lines)
rest_opened s c line lines is on =
    let there : front line lines ≡ line ∷ lines = front_there line lines (is_opening_there line on) in
    ap (rest s c) there ∙ ap (λ (x : Stage). rest_at s c x (line ∷ lines)) is ∙ opens c.sparse (opening_due s) (ahead_of s c) line lines on
    ∙ ap (over c.sparse 0 (Wanted (opening_due s) ∷ ahead_of s c)) (sym there)

stands_at_0 : (c : Comparison) → IsAtOpening c.stage c.place → c.stage ≡ Opening → c.place ≡ 0
stands_at_0 c at is = let P : Stage → Type 0 = λ st. IsAtOpening st c.place in subst P is at

pub at_0 : (s : Program) (c : Comparison) → IsStanding s c → c.stage ≡ Opening → c.place ≡ 0
at_0 s c standing is = stands_at_0 c standing.opening is

-- a comparison that runs stands where it stood
pub runs_on : (s : Program) (c : Comparison) → IsStanding s c → IsStanding s (running c)
runs_on s c standing = record { shown = standing.shown; at = standing.at; opening = tt }

pub goes_opening : (s : Program) (c c' : Comparison) (line : PortLine) → IsStanding s c → c.stage ≡ Opening → is_opening_line line ≡ true → AgreesAt (opening_due s) Running c line c' → Goes s c line c'
goes_opening s c c' line standing is on a =
    let to : Comparison = record c { stage = Running; counts = with_port_line c.counts line } in
    let goes : Goes s c line to = record {
      standing = record { shown = standing.shown; at = standing.at; opening = tt };
      rest_is = λ (lines : List PortLine).
          ap (λ (x : Stage). rest_at s c x (line ∷ lines)) is ∙ opens c.sparse (opening_due s) (ahead_of s c) line lines on
          ∙ over_agrees c.sparse 0 (opening_due s) (ahead_of s c) line lines (never c.sparse) a.agrees
          ∙ ap (λ (n : ℕ). over c.sparse n (ahead_of s c) lines) (sym (at_0 s c standing is));
      counts_are = refl;
      sparse_is = refl;
    } in
    subst (λ (x : Comparison). Goes s c line x) (sym a.is) goes

-- ---- the end's line

-- ---- the line of an instruction that is refused

-- what is due then
refused_ahead : (s : Program) (c : Comparison) (i : Instr) (r : Refusal) → slice_get s.instrs c.place ≡ Some i → step c.machine i ≡ Refused r → is_limit r ≡ false
    → ahead_of s c ≡ Wanted (stop_due c.place i r) ∷ ending c.place c.machine
refused_ahead s c i r here refused none = ahead_refused c.place c.machine i s.instrs r here refused ∙ goes_on c.place c.machine i r none

goes_stop : (s : Program) (c c' : Comparison) (line : PortLine) (i : Instr) (r : Refusal) → IsStanding s (running c) → slice_get s.instrs c.place ≡ Some i → step c.machine i ≡ Refused r → is_limit r ≡ false
    → passes c.sparse (stop_due c.place i r) line ≡ false → AgreesAt (stop_due c.place i r) Ending c line c' → Goes s (running c) line c'
goes_stop s c c' line i r standing here refused none kept a =
    let to : Comparison = record c { stage = Ending; counts = with_port_line c.counts line } in
    let goes : Goes s (running c) line to = record {
      standing = record { shown = standing.shown; at = standing.at; opening = tt };
      rest_is = λ (lines : List PortLine).
          ap (λ (ahead : List Ahead). over c.sparse c.place ahead (line ∷ lines)) (refused_ahead s c i r here refused none)
          ∙ over_agrees c.sparse c.place (stop_due c.place i r) (ending c.place c.machine) line lines kept a.agrees;
      counts_are = refl;
      sparse_is = refl;
    } in
    subst (λ (x : Comparison). Goes s (running c) line x) (sym a.is) goes

-- the line passes over it
goes_past_stop : (s : Program) (c c' : Comparison) (line : PortLine) (i : Instr) (r : Refusal) → IsStanding s (running c) → slice_get s.instrs c.place ≡ Some i → step c.machine i ≡ Refused r → is_limit r ≡ false
    → passes c.sparse (stop_due c.place i r) line ≡ true → AgreesAt (end_due c.place (is_quiet c.machine)) Over c line c' → Goes s (running c) line c'
goes_past_stop s c c' line i r standing here refused none passed a =
    let to : Comparison = record c { stage = Over; counts = with_port_line c.counts line } in
    let goes : Goes s (running c) line to = record {
      standing = record { shown = standing.shown; at = standing.at; opening = tt };
      rest_is = λ (lines : List PortLine).
          ap (λ (ahead : List Ahead). over c.sparse c.place ahead (line ∷ lines)) (refused_ahead s c i r here refused none)
          ∙ over_passes c.sparse c.place (stop_due c.place i r) (ending c.place c.machine) line lines passed
          ∙ over_agrees c.sparse c.place (end_due c.place (is_quiet c.machine)) [] line lines (never c.sparse) a.agrees;
      counts_are = refl;
      sparse_is = refl;
    } in
    subst (λ (x : Comparison). Goes s (running c) line x) (sym a.is) goes

pub goes_last : (s : Program) (c c' : Comparison) (line : PortLine) (i : Instr) (r : Refusal) → IsStanding s (running c) → slice_get s.instrs c.place ≡ Some i → step c.machine i ≡ Refused r → is_limit r ≡ false
    → EndsAt c i r line c' → Goes s (running c) line c'
goes_last s c c' line i r standing here refused none (inl at) = goes_stop s c c' line i r standing here refused none at.0 at.1
goes_last s c c' line i r standing here refused none (inr at) = goes_past_stop s c c' line i r standing here refused none at.0 at.1

-- ---- the line of an instruction that is performed

-- what is due then
pub due_is : (at : ℕ) (i : Instr) (sent : Bool) (delivered : Option (Operation ℕ)) (received : Option Received) (s t : State) → sent ≡ sends i s → delivered ≡ applies i s → received ≡ receives i s
    → step_due (at + 1) i sent delivered received t ≡ step_due (suc at) i (sends i s) (applies i s) (receives i s) t
due_is at i sent delivered received s t is_sent is_delivered is_received =
    ap (λ (n : ℕ). step_due n i sent delivered received t) (add-one at)
    ∙ ap (λ (b : Bool). step_due (suc at) i b delivered received t) is_sent
    ∙ ap (λ (o : Option (Operation ℕ)). step_due (suc at) i (sends i s) o received t) is_delivered
    ∙ ap (λ (o : Option Received). step_due (suc at) i (sends i s) (applies i s) o t) is_received

-- whether the line passes over it
pub passed_next : (c : Comparison) (line : PortLine) (b : Bool) → (c.sparse && passes_step (c.place + 1) line) ≡ b → (c.sparse && passes_step (suc c.place) line) ≡ b
passed_next c line b is = subst (λ (n : ℕ). (c.sparse && passes_step n line) ≡ b) (add-one c.place) is

-- where a comparison stands then
pub stands_next : (s : Program) (c : Comparison) (i : Instr) (t : State) (shown : Option Shown) → IsStanding s (running c) → slice_get s.instrs c.place ≡ Some i → step c.machine i ≡ Performed t shown
    → IsStanding s (record c { machine = t; place = c.place + 1; stage = Running })
stands_next s c i t shown standing here performed =
    record {
      shown = with_shown standing.shown shown;
      at = ap (place_at s) (add-one c.place) ∙ place_at-next s c.place (record { state = c.machine; shown = standing.shown }) i t shown standing.at here performed;
      opening = tt;
    }

pub goes_step : (s : Program) (c c' : Comparison) (line : PortLine) (i : Instr) (t : State) (shown : Option Shown) (due : DueLine) → IsStanding s (running c) → slice_get s.instrs c.place ≡ Some i → step c.machine i ≡ Performed t shown
    → due ≡ step_due (suc c.place) i (sends i c.machine) (applies i c.machine) (receives i c.machine) t → (c.sparse && passes_step (c.place + 1) line) ≡ false → field_of due line ≡ None
    → c' ≡ record c { machine = t; place = c.place + 1; stage = Running; counts = with_port_line c.counts line } → Goes s (running c) line c'
goes_step s c c' line i t shown due standing here performed due_is kept agrees is =
    let to : Comparison = record c { machine = t; place = c.place + 1; stage = Running; counts = with_port_line c.counts line } in
    let wanted : DueLine = step_due (suc c.place) i (sends i c.machine) (applies i c.machine) (receives i c.machine) t in
    let agrees' : field_of wanted line ≡ None = subst (λ (d : DueLine). field_of d line ≡ None) due_is agrees in
    let next : c.place + 1 ≡ suc c.place = add-one c.place in
    let stands = stands_next s c i t shown standing here performed in
    let goes : Goes s (running c) line to = record {
      standing = record { shown = stands.shown; at = stands.at; opening = tt };
      rest_is = λ (lines : List PortLine).
          ap (λ (ahead : List Ahead). over c.sparse c.place ahead (line ∷ lines)) (ahead_performed c.place c.machine t i s.instrs shown here performed)
          ∙ over_agrees c.sparse c.place wanted (ahead_from (suc c.place) t (drop (suc c.place) s.instrs)) line lines (passed_next c line false kept) agrees'
          ∙ ap (λ (n : ℕ). over c.sparse n (ahead_from n t (drop n s.instrs)) lines) (sym next);
      counts_are = refl;
      sparse_is = refl;
    } in
    subst (λ (x : Comparison). Goes s (running c) line x) (sym is) goes

-- ---- instructions that the line passes over

passes_there : (at : ℕ) (line : PortLine) → passes_step at line ≡ true → IsThere line
passes_there at (Told d) passed = tt
passes_there at (OtherForm bytes) passed = absurd (cc)
passes_there at NoText passed = absurd (cc)
passes_there at Nothing passed = absurd (cc)

both : (a b : Bool) → (a && b) ≡ true → (a ≡ true) × (b ≡ true)
both true b e = (refl, e)
both false b e = absurd (cc)

passes_one : (s : Program) (c : Comparison) (line : PortLine) (i : Instr) (t : State) (shown : Option Shown) → IsStanding s (running c) → slice_get s.instrs c.place ≡ Some i → step c.machine i ≡ Performed t shown
    → (c.sparse && passes_step (c.place + 1) line) ≡ true → Passes s (running c) line (record c { machine = t; place = c.place + 1; stage = Running })
passes_one s c line i t shown standing here performed passed =
    let to : Comparison = record c { machine = t; place = c.place + 1; stage = Running } in
    let wanted : DueLine = step_due (suc c.place) i (sends i c.machine) (applies i c.machine) (receives i c.machine) t in
    let next : c.place + 1 ≡ suc c.place = add-one c.place in
    let parts = both c.sparse (passes_step (c.place + 1) line) passed in
    let at : (lines : List PortLine) → rest s (running c) (line ∷ lines) ≡ rest s to (line ∷ lines) = λ (lines : List PortLine).
    ap (λ (ahead : List Ahead). over c.sparse c.place ahead (line ∷ lines)) (ahead_performed c.place c.machine t i s.instrs shown here performed)
    ∙ over_passes c.sparse c.place wanted (ahead_from (suc c.place) t (drop (suc c.place) s.instrs)) line lines (passed_next c line true passed)
    ∙ ap (λ (n : ℕ). over c.sparse n (ahead_from n t (drop n s.instrs)) (line ∷ lines)) (sym next) in
    record {
      standing = stands_next s c i t shown standing here performed;
      rest_is = at;
      front_is = λ (lines : List PortLine).
          let there : front line lines ≡ line ∷ lines = front_there line lines (passes_there (c.place + 1) line parts.1) in
          ap (rest s (running c)) there ∙ at lines ∙ ap (rest s to) (sym there);
      place_is = inr (parts.0, omega arith, parts.1);
      counts_are = refl;
      sparse_is = refl;
    }

-- one more behind others
pub passes_more : (s : Program) (a c : Comparison) (line : PortLine) (i : Instr) (t : State) (shown : Option Shown) → Passes s (running a) line (running c) → slice_get s.instrs c.place ≡ Some i → step c.machine i ≡ Performed t shown
    → (c.sparse && passes_step (c.place + 1) line) ≡ true → Passes s (running a) line (record c { machine = t; place = c.place + 1; stage = Running })
passes_more s a c line i t shown before here performed passed =
    let one = passes_one s c line i t shown before.standing here performed passed in
    let parts = both c.sparse (passes_step (c.place + 1) line) passed in
    record {
      standing = one.standing;
      rest_is = λ (lines : List PortLine). before.rest_is lines ∙ one.rest_is lines;
      front_is = λ (lines : List PortLine). before.front_is lines ∙ one.front_is lines;
      place_is = inr (sym before.sparse_is ∙ parts.0, further before.place_is, parts.1);
      counts_are = before.counts_are;
      sparse_is = before.sparse_is;
    }
  where
    further : IsPassed (running a) line c.place → a.place ≤ c.place + 1
    further (inl e) = omega (arith, e)
    further (inr e) = omega (arith, e.1)

-- the line is compared behind them
pub goes_past : (s : Program) (a b c' : Comparison) (line : PortLine) → Passes s (running a) line (running b) → Goes s (running b) line c' → Goes s (running a) line c'
goes_past s a b c' line before goes =
    record {
      standing = goes.standing;
      rest_is = λ (lines : List PortLine). before.rest_is lines ∙ goes.rest_is lines;
      counts_are = goes.counts_are ∙ ap (λ counts. with_port_line counts line) before.counts_are;
      sparse_is = goes.sparse_is ∙ before.sparse_is;
    }

pub verdict_past : (s : Program) (a b : Comparison) (line : PortLine) (v : Verdict) → Passes s (running a) line (running b)
    → ((lines : List PortLine) → IsVerdict b line (rest s (running b) (front line lines)) v) → (lines : List PortLine) → IsVerdict a line (rest s (running a) (front line lines)) v
verdict_past s a b line v before given lines = subst (λ (o : differences.Outcome). IsVerdict a line o v) (sym (before.front_is lines)) (at v (given lines))
  where
    earlier : (place : ℕ) → IsPassed b line place → IsPassed (running a) line b.place → IsPassed a line place
    earlier place (inl e) (inl f) = inl (e ∙ f)
    earlier place (inl e) (inr f) = subst (λ (n : ℕ). IsPassed a line n) (sym e) (inr f)
    earlier place (inr e) (inl f) = inr (sym before.sparse_is ∙ e.0, omega (arith, e.1, f), e.2)
    earlier place (inr e) (inr f) = inr (sym before.sparse_is ∙ e.0, omega (arith, e.1, f.1), e.2)

    at : (v : Verdict) → IsVerdict b line (rest s (running b) (front line lines)) v → IsVerdict a line (rest s (running b) (front line lines)) v
    at (Conforms counts) is = (is.0, is.1 ∙ before.counts_are, is.2)
    at (Differs d) is = is
    at (Stopped place refusal) (inl e) = inl e
    at (Stopped place refusal) (inr e) = inr (earlier place e.0 before.place_is, e.1)

-- ---- no line is left of lines for some instructions alone

pub rest_passed : (s : Program) (c : Comparison) → c.sparse ≡ true → rest s c [] ≡ differences.Conforms
rest_passed s c sparse = go c.stage
  where
    at : (last : ℕ) (ahead : List Ahead) → over c.sparse last ahead [] ≡ differences.Conforms
    at last ahead = ap (λ (b : Bool). over b last ahead []) sparse ∙ nothing_left last ahead

    go : (st : Stage) → rest_at s c st [] ≡ differences.Conforms
    go Opening = at 0 (ahead_of s c)
    go Running = at c.place (ahead_of s c)
    go Ending = at c.place (ending c.place c.machine)
    go Over = at c.place []
