-- Where the commands that move stop.
use Rattle.std.proofs.Common.{◌≡◌, ◌≢◌, ℕ, suc, ◌+◌, ◌-◌, ◌<◌, ◌≤◌, length, refl, ap, sym, ◌∙◌, subst, arith, inl, inr}
use Rattle.std.proofs.lemmas.Bool.{cases_eq}
use Rattle.std.specs.Prelude.{◌⊎◌, slice_get}
use Rattle.ot_isa.specs.Program.{Program}
use Rattle.ot_model.specs.declared.shown.Refusal.{Refusal}
use Rattle.ot_model.specs.declared.shown.Refusal.TheVariants as refusal
use Rattle.ot_model.specs.Table.{Performed, Refused}
use Rattle.ot_model.specs.Runs.{done, opening_of}
use Rattle.ot_model.proofs.Runs.{performed-length}
use Rattle.ot_debug.specs.declared.command.Why.{Why}
use Rattle.ot_debug.specs.declared.command.Why.TheVariants as why
use Rattle.ot_debug.specs.declared.command.Reply.{Reply}
use Rattle.ot_debug.specs.declared.command.Reply.TheVariants as reply
use Rattle.ot_debug.specs.Session.{Session, IsBreak}
use Rattle.ot_debug.specs.Stops.{ChangesWatch, ChangesNone, ChangesFirst, StepChanges, IsRefusedAt, IsPassed, IsReason, IsRunStop, IsStepStop}
use Rattle.ot_debug.specs.Answers.{Keeps, MovesForth}
use Rattle.ot_debug.specs.Stepping.{Advances}
use Rattle.ot_debug.proofs.Places.{there, led}

-- a performed instruction is not refused
pub not_refused : (s : Program) (p : ℕ) (r : Refusal) → suc p ≤ done s → ¬ IsRefusedAt s p r
not_refused s p r far is =
    let next = there s (suc p) far in
    let moved = led s p is.instr is.place next.0 is.here is.at next.1 in
    let never : Performed moved.state moved.list ≡ Refused r = sym moved.step ∙ is.refused in
    absurd (cc)

-- two sessions of one schedule with the same watches
to_later : (x y : Session) (q k : ℕ) → Keeps x y → ChangesWatch x q k → ChangesWatch y q k
to_later x y q k keeps is =
    record {
      watch = is.watch;
      here = ap (λ ws. slice_get ws k) keeps.watches ∙ is.here;
      changes = subst (λ (s : Program). StepChanges s q is.watch) (sym keeps.schedule) is.changes;
    }

to_earlier : (x y : Session) (q k : ℕ) → Keeps x y → ChangesWatch y q k → ChangesWatch x q k
to_earlier x y q k keeps is =
    record {
      watch = is.watch;
      here = ap (λ ws. slice_get ws k) (sym keeps.watches) ∙ is.here;
      changes = subst (λ (s : Program). StepChanges s q is.watch) keeps.schedule is.changes;
    }

none_earlier : (x y : Session) (q : ℕ) → Keeps x y → ChangesNone y q → ChangesNone x q
none_earlier x y q keeps none k is = none k (to_later x y q k keeps is)

first_earlier : (x y : Session) (q k : ℕ) → Keeps x y → ChangesFirst y q k → ChangesFirst x q k
first_earlier x y q k keeps first =
    record { changes = to_earlier x y q k keeps first.changes; first = λ less below is. first.first less below (to_later x y q less keeps is) }

pub keeps_on : (x y z : Session) → Keeps x y → Keeps y z → Keeps x z
keeps_on x y z a b = record { schedule = b.schedule ∙ a.schedule; breaks = b.breaks ∙ a.breaks; watches = b.watches ∙ a.watches }

pub keeps_same : (x y z : Session) → Keeps x y → z ≡ y → Keeps x z
keeps_same x y z a e = subst (λ (w : Session). Keeps x w) (sym e) a

-- a run of session x stands at a place where nothing has stopped it yet
pub record IsOnWay (x y : Session) (place : ℕ) : Type 0 where
  pub keeps : Keeps x y
  pub at : y.position ≡ place
  pub onward : x.position ≤ place
  pub least : (r : ℕ) (other : Why) → x.position ≤ r → r < place → ¬ IsReason x x.position r other
  pub passed : IsPassed x x.position place

pub begun : (x : Session) → IsOnWay x x x.position
begun x =
    record {
      keeps = record { schedule = refl; breaks = refl; watches = refl };
      at = refl;
      onward = omega arith;
      least = λ r other from less. absurd (omega arith);
      passed = record { unwatched = λ less. absurd (omega arith); unbroken = λ less. absurd (omega arith) };
    }

-- the run goes past a place whose instruction is performed
goes_on : (x y : Session) (place : ℕ) → IsOnWay x y place → place < length x.schedule.instrs → suc place ≤ done x.schedule → (other : Why) → ¬ IsReason x x.position place other
goes_on x y place way less far (why.Watch number) is = way.passed.unwatched is.0 number is.1.changes
goes_on x y place way less far why.Break is = way.passed.unbroken is.0 is.1
goes_on x y place way less far why.End is = let e = is.0 in absurd (omega arith)
goes_on x y place way less far (why.Refused r) is = not_refused x.schedule place r far is.0
goes_on x y place way less far why.Count is = is

far_enough : (x y z : Session) (place : ℕ) → IsOnWay x y place → Advances y z → suc place ≤ done x.schedule
far_enough x y z place way on =
    let all : z.position ≤ done z.schedule = on.reached in
    let same : done z.schedule ≡ done x.schedule = ap done (on.keeps.schedule ∙ way.keeps.schedule) in
    let next : z.position ≡ suc y.position = on.next in
    let at : y.position ≡ place = way.at in
    omega arith

least_next :
    (x y z : Session) (place : ℕ) → IsOnWay x y place → place < length x.schedule.instrs → Advances y z
    → (r : ℕ) (other : Why) → x.position ≤ r → r < place + 1 → ¬ IsReason x x.position r other
least_next x y z place way less on r other from below is =
    elim (cases_eq r place) [
      | inl same ↦ goes_on x y place way less (far_enough x y z place way on) other (subst (λ (n : ℕ). IsReason x x.position n other) same is)
      | inr differs ↦ let under : r < place = omega (arith, differs) in way.least r other from under is
    ]

-- the instruction before the next place
before : (place : ℕ) → place + 1 - 1 ≡ place
before place = omega arith

none_next : (x y : Session) (place : ℕ) → IsOnWay x y place → ChangesNone y y.position → ChangesNone x (place + 1 - 1)
none_next x y place way none = subst (λ (n : ℕ). ChangesNone x n) (way.at ∙ sym (before place)) (none_earlier x y y.position way.keeps none)

unbroken : (x y z : Session) (q : ℕ) → Keeps x y → Keeps y z → ¬ IsBreak z q → ¬ IsBreak x q
unbroken x y z q a b none is = none (ap (λ bs. slice_get bs q) (b.breaks ∙ a.breaks) ∙ is)

broken : (x y z : Session) (q : ℕ) → Keeps x y → Keeps y z → IsBreak z q → IsBreak x q
broken x y z q a b is = ap (λ bs. slice_get bs q) (sym (b.breaks ∙ a.breaks)) ∙ is

pub on_way_next :
    (x y z : Session) (place : ℕ) → IsOnWay x y place → place < length x.schedule.instrs → Advances y z → ChangesNone y y.position → ¬ IsBreak z (place + 1) → IsOnWay x z (place + 1)
on_way_next x y z place way less on none clear =
    record {
      keeps = keeps_on x y z way.keeps on.keeps;
      at = let at : y.position ≡ place = way.at in let next : z.position ≡ suc y.position = on.next in omega arith;
      onward = let le : x.position ≤ place = way.onward in omega arith;
      least = least_next x y z place way less on;
      passed = record { unwatched = λ _. none_next x y place way none; unbroken = λ _. unbroken x y z (place + 1) way.keeps on.keeps clear };
    }

abbrev pub IsStop : Session → ℕ → Why → Type 0
IsStop s q reason = IsRunStop s s.position q reason

at_next : (x y z : Session) (place : ℕ) → IsOnWay x y place → Advances y z → z.position ≡ place + 1
at_next x y z place way on = let at : y.position ≡ place = way.at in let next : z.position ≡ suc y.position = on.next in omega arith

pub stop_watch :
    (x y z : Session) (place number : ℕ) → IsOnWay x y place → place < length x.schedule.instrs → Advances y z → ChangesFirst y y.position number
    → MovesForth IsStop x (reply.Stopped (place + 1) (why.Watch number)) z
stop_watch x y z place number way less on first = (
  keeps_on x y z way.keeps on.keeps,
  at_next x y z place way on,
  record {
    onward = let le : x.position ≤ place = way.onward in omega arith;
    is = (let le : x.position ≤ place = way.onward in omega arith, subst (λ (n : ℕ). ChangesFirst x n number) (way.at ∙ sym (before place)) (first_earlier x y y.position number way.keeps first));
    least = least_next x y z place way less on;
  },
)

pub stop_break :
    (x y z : Session) (place : ℕ) → IsOnWay x y place → place < length x.schedule.instrs → Advances y z → ChangesNone y y.position → IsBreak z (place + 1)
    → MovesForth IsStop x (reply.Stopped (place + 1) why.Break) z
stop_break x y z place way less on none set = (
  keeps_on x y z way.keeps on.keeps,
  at_next x y z place way on,
  record {
    onward = let le : x.position ≤ place = way.onward in omega arith;
    is = (let le : x.position ≤ place = way.onward in omega arith, broken x y z (place + 1) way.keeps on.keeps set, none_next x y place way none);
    least = least_next x y z place way less on;
  },
)

refused_here : (x y : Session) (place : ℕ) (r : Refusal) → IsOnWay x y place → IsRefusedAt y.schedule y.position r → IsRefusedAt x.schedule place r
refused_here x y place r way is = subst (λ (s : Program). IsRefusedAt s place r) way.keeps.schedule (subst (λ (n : ℕ). IsRefusedAt y.schedule n r) way.at is)

pub stop_refused :
    (x y z : Session) (place : ℕ) (r : Refusal) → IsOnWay x y place → z ≡ y → IsRefusedAt y.schedule y.position r → MovesForth IsStop x (reply.Stopped place (why.Refused r)) z
stop_refused x y z place r way same is = (
  keeps_same x y z way.keeps same,
  ap (λ (w : Session). w.position) same ∙ way.at,
  record { onward = way.onward; is = (refused_here x y place r way is, way.passed); least = way.least },
)

pub stop_memory : (x y z : Session) (place : ℕ) → IsOnWay x y place → z ≡ y → MovesForth IsStop x reply.Memory z
stop_memory x y z place way same =
    let at : z.position ≡ place = ap (λ (w : Session). w.position) same ∙ way.at in
    let le : x.position ≤ place = way.onward in (
      keeps_same x y z way.keeps same,
      omega arith,
      λ q reason stop. let not_less : ¬ (q < place) = λ less. way.least q reason stop.onward less stop.is in omega arith,
    )

-- the next instruction is not performed, because memory runs out or the table refuses it
is_memory : (r : Refusal) → (r ≡ refusal.Memory) ⊎ (r ≢ refusal.Memory)
is_memory refusal.NoSuchClient = inr (λ e. absurd (cc))
is_memory refusal.StepsFull = inr (λ e. absurd (cc))
is_memory refusal.NotJoined = inr (λ e. absurd (cc))
is_memory refusal.AlreadyJoined = inr (λ e. absurd (cc))
is_memory refusal.BadBase = inr (λ e. absurd (cc))
is_memory refusal.ClientFull = inr (λ e. absurd (cc))
is_memory refusal.LinkEmpty = inr (λ e. absurd (cc))
is_memory refusal.WrongHead = inr (λ e. absurd (cc))
is_memory refusal.Memory = inl refl

pub stop_halted :
    (x y z : Session) (place : ℕ) (r : Refusal) (answer : Reply) → IsOnWay x y place → z ≡ y → (r ≢ refusal.Memory → IsRefusedAt y.schedule y.position r)
    → (r ≡ refusal.Memory → answer ≡ reply.Memory) → (r ≢ refusal.Memory → answer ≡ reply.Stopped place (why.Refused r)) → MovesForth IsStop x answer z
stop_halted x y z place r answer way same is memory other =
    elim (is_memory r) [
      | inl here ↦ subst (λ (a : Reply). MovesForth IsStop x a z) (sym (memory here)) (stop_memory x y z place way same)
      | inr not_here ↦ subst (λ (a : Reply). MovesForth IsStop x a z) (sym (other not_here)) (stop_refused x y z place r way same (is not_here))
    ]

-- so many steps
pub record IsStepped (x y : Session) (count : ℕ) : Type 0 where
  pub keeps : Keeps x y
  pub at : y.position ≡ x.position + count
  pub reached : y.position ≤ done x.schedule

abbrev pub IsStepsEnd : ℕ → Session → ℕ → Why → Type 0
IsStepsEnd n s q reason = IsStepStop s s.position n q reason

pub steps_ended :
    (x y : Session) (count n at : ℕ) → IsStepped x y count → count < n → at ≡ y.position → length x.schedule.instrs ≤ at → MovesForth (IsStepsEnd n) x (reply.Stopped at why.End) y
steps_ended x y count n at stepped less at_is past =
    let here : y.position ≡ x.position + count = stepped.at in
    let le : y.position ≤ done x.schedule = stepped.reached in
    let few : done x.schedule ≤ length x.schedule.instrs = performed-length x.schedule.instrs (opening_of x.schedule) in
    (stepped.keeps, sym at_is, inr (omega arith, omega arith, omega arith))

pub steps_refused :
    (x y z : Session) (count n : ℕ) (r : Refusal) → IsStepped x y count → count < n → z ≡ y → IsRefusedAt y.schedule y.position r → MovesForth (IsStepsEnd n) x (reply.Stopped y.position (why.Refused r)) z
steps_refused x y z count n r stepped less same is =
    let at : y.position ≡ x.position + count = stepped.at in
    let le : y.position ≤ done x.schedule = stepped.reached in
    let here : IsRefusedAt x.schedule y.position r = subst (λ (s : Program). IsRefusedAt s y.position r) stepped.keeps.schedule is in
    let no_further : ¬ (suc y.position ≤ done x.schedule) = λ far. not_refused x.schedule y.position r far here in
    (keeps_same x y z stepped.keeps same, ap (λ (w : Session). w.position) same, inr (omega arith, omega arith, here))

stop_after : (x : Session) (n k q : ℕ) (reason : Why) → k ≤ n → x.position + k ≤ done x.schedule → IsStepsEnd n x q reason → x.position + k ≤ q
stop_after x n k q reason le far (inl stop) = let e = stop.1 in omega arith
stop_after x n k q reason le far (inr stop) = let e = stop.1 in omega arith

pub steps_memory : (x y z : Session) (count n : ℕ) → IsStepped x y count → count < n → z ≡ y → MovesForth (IsStepsEnd n) x reply.Memory z
steps_memory x y z count n stepped less same =
    let at : z.position ≡ x.position + count = ap (λ (w : Session). w.position) same ∙ stepped.at in
    let here : y.position ≡ x.position + count = stepped.at in
    let le : y.position ≤ done x.schedule = stepped.reached in (
      keeps_same x y z stepped.keeps same,
      omega arith,
      λ q reason stop. let after : x.position + count ≤ q = stop_after x n count q reason (omega arith) (omega arith) stop in omega arith,
    )

pub steps_halted :
    (x y z : Session) (count n at : ℕ) (r : Refusal) (answer : Reply) → IsStepped x y count → count < n → z ≡ y → at ≡ y.position → (r ≢ refusal.Memory → IsRefusedAt y.schedule y.position r)
    → (r ≡ refusal.Memory → answer ≡ reply.Memory) → (r ≢ refusal.Memory → answer ≡ reply.Stopped at (why.Refused r)) → MovesForth (IsStepsEnd n) x answer z
steps_halted x y z count n at r answer stepped less same at_is is memory other =
    elim (is_memory r) [
      | inl here ↦ subst (λ (a : Reply). MovesForth (IsStepsEnd n) x a z) (sym (memory here)) (steps_memory x y z count n stepped less same)
      | inr not_here ↦
          subst (λ (a : Reply). MovesForth (IsStepsEnd n) x a z) (sym (other not_here ∙ ap (λ k. reply.Stopped k (why.Refused r)) at_is))
          (steps_refused x y z count n r stepped less same (is not_here))
    ]
