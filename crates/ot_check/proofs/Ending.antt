-- A traced run, instruction by instruction and at its end.
use Rattle.std.proofs.Common.{◌≡◌, ℕ, suc, ◌+◌, ◌≤◌, List, [], ◌∷◌, ◌++◌, length, drop, get_or, refl, sym, ap, ◌∙◌, subst, arith, true, false, inl, inr, length-append, append_assoc, Some}
use Rattle.std.specs.Prelude.{slice_get, nat_lt}
use Rattle.std.proofs.lemmas.Bool.{le-ltb, lt-ltb, or_left, or_right}
use Rattle.std.proofs.lemmas.List.{append-nil, drop_all}
use Rattle.std.proofs.lemmas.List.Sums.{sum_by-append}
use Rattle.std.proofs.lemmas.Option.{same_Some, slice_get_within, slice_get-get_or}
use Rattle.ot_isa.specs.Program.{Program, IsProgram, IsForClients}
use Rattle.ot_isa.specs.declared.instruction.Instr.{Instr}
use Rattle.ot_isa.specs.declared.elements.Tag.{Tag}
use Rattle.ot_model.specs.Events.{tags}
use Rattle.ot_judge.specs.declared.trace.Event.{Event}
use Rattle.ot_judge.specs.Views.{trace_view, views}
use Rattle.ot_model.specs.Table.{start_list, State, Outcome, Performed, Refused, NoRow, step}
use Rattle.ot_model.specs.Sound.{IsInstr}
use Rattle.ot_model.specs.Runs.{opening_of}
use Rattle.ot_model.specs.Trace.{EventView, TraceView}
use Rattle.ot_model.specs.Events as events
use Rattle.ot_model.proofs.States.{drop_entry}
use Rattle.ot_model.proofs.Traced.{is_instr, runnable}
use Rattle.ot_judge.specs.Making.{entries, is_full}
use Rattle.ot_check.specs.declared.tracing.Tracer.{Tracer}
use Rattle.ot_check.specs.Rows.{Counts, no_counts, counts_after, acting, event_at, events_by}
use Rattle.ot_check.specs.Following.{LeadsTo, IsStuck, Follows, Overflows, FitsState, IsWithin, PassLimits, IsTracedTo, counts_of, events_of}
use Rattle.ot_check.proofs.Stepping.{next, fits_after}
use Rattle.ot_check.proofs.Same.{trace_events}

-- an instruction of a schedule
pub instr_at : (s : Program) (place : ℕ) (i : Instr) → IsProgram s → slice_get s.instrs place ≡ Some i → IsForClients s.clients i × IsInstr i
instr_at s place i is at =
    let inside = slice_get_within s.instrs place i at in
    let is_of = is.instrs_are place i inside in
    let same : get_or s.instrs place i ≡ i = same_Some _ i (sym (slice_get-get_or s.instrs place i inside) ∙ at) in
    subst (λ (j : Instr). IsForClients s.clients j × IsInstr j) same (is_of.0, is_instr _ is_of.1)

-- what a performed instruction gives, and what one that is refused
events-performed : (s t : State) (l : Counts) (i : Instr) (is : List Instr) → LeadsTo (step s i) t → events_by s l (i ∷ is) ≡ event_at s l i ++ events_by t (counts_after l i (acting s i)) is
events-performed s t l i is (shown, e) =
    ap (λ (o : Outcome). elim o [ Performed t shown ↦ event_at s l i ++ events_by t (counts_after l i (acting s i)) is | Refused r ↦ [] | NoRow ↦ [] ]) e

events-stuck : (s : State) (l : Counts) (i : Instr) (is : List Instr) → IsStuck (step s i) → events_by s l (i ∷ is) ≡ []
events-stuck s l i is stuck = go (step s i) stuck
  where
    go : (o : Outcome) → IsStuck o → ◌≡◌ {A = List EventView} (elim o [ Performed t shown ↦ event_at s l i ++ events_by t (counts_after l i (acting s i)) is | Refused r ↦ [] | NoRow ↦ [] ]) []
    go (Performed t shown) stuck = absurd stuck
    go (Refused r) stuck = refl
    go NoRow stuck = refl

-- one more instruction
pub traced_next : (s : Program) (place n : ℕ) (old new : Tracer) (i : Instr) → IsProgram s → n ≡ place + 1 → IsTracedTo s place old → slice_get s.instrs place ≡ Some i → Follows old new i → IsTracedTo s n new
traced_next s place n old new i is next_place traced at follows =
    let instr = instr_at s place i is at in
    let inside : IsForClients (length old.machine.clients) i = subst (λ (k : ℕ). IsForClients k i) (sym traced.clients) instr.0 in
    let after = next old.machine new.machine i follows.performed in
    let counts : Counts = counts_of old.ledger in
    let behind : drop place s.instrs ≡ i ∷ drop n s.instrs = drop_entry s.instrs place i at ∙ ap (λ (k : ℕ). i ∷ drop k s.instrs) (let e : suc place ≡ n = omega arith in e) in
    record {
      clients = after.clients ∙ traced.clients;
      fits = subst (λ (l : Counts). FitsState new.machine l) (sym follows.counted) (fits_after old.machine new.machine counts i traced.fits instr.1 inside follows.performed);
      within = follows.within;
      rest =
          ap (λ (xs : List EventView). xs ++ events_by new.machine (counts_of new.ledger) (drop n s.instrs)) follows.noted
          ∙ ap (λ (l : Counts). (events_of old ++ event_at old.machine counts i) ++ events_by new.machine l (drop n s.instrs)) follows.counted
          ∙ append_assoc (events_of old) (event_at old.machine counts i) (events_by new.machine (counts_after counts i (acting old.machine i)) (drop n s.instrs))
          ∙ ap (λ (xs : List EventView). events_of old ++ xs) (sym (events-performed old.machine new.machine counts i (drop n s.instrs) follows.performed))
          ∙ ap (λ (js : List Instr). events_of old ++ events_by old.machine counts js) (sym behind)
          ∙ traced.rest;
    }

-- ---- the end

full_of : (t : TraceView) → PassLimits t.events → is_full t ≡ true
full_of t (inl many) = or_left (nat_lt 4000 (length t.events)) (nat_lt 4000000 (entries t.events)) (lt-ltb 4000 (length t.events) many)
full_of t (inr much) = or_right (nat_lt 4000 (length t.events)) (nat_lt 4000000 (entries t.events)) (lt-ltb 4000000 (entries t.events) much)

room_of : (t : TraceView) (count : ℕ) → IsWithin t.events count → is_full t ≡ false
room_of t count within =
    let few = within.few_events in
    let much = within.few_entries in
    let is = within.count_is in
    rw (le-ltb 4000 (length t.events) few, le-ltb 4000000 (entries t.events) (omega arith)) refl

passed-more : (xs ys : List EventView) → PassLimits xs → PassLimits (xs ++ ys)
passed-more xs ys (inl many) = inl (let long = length-append xs ys in omega arith)
passed-more xs ys (inr much) = inr (let more = sum_by-append (λ (y : EventView). length y.list) xs ys in omega arith)

-- where the events are the whole trace's
pub record IsWhole (s : Program) (t : Tracer) : Type 0 where
  pub all : events_of t ≡ (events.trace_of s).events
  pub room : is_full (events.trace_of s) ≡ false

whole_of : (s : Program) (t : Tracer) → IsProgram s → IsWithin (events_of t) t.entries → events_of t ≡ events_by (opening_of s) (no_counts s.clients) s.instrs → IsWhole s t
whole_of s t is within all =
    let same = all ∙ trace_events s (runnable s is) in
    record { all = same; room = room_of (events.trace_of s) t.entries (subst (λ (xs : List EventView). IsWithin xs t.entries) same within) }

pub whole_end : (s : Program) (place : ℕ) (t : Tracer) → IsProgram s → length s.instrs ≤ place → IsTracedTo s place t → IsWhole s t
whole_end s place t is past traced =
    whole_of s t is traced.within
    (sym (ap (λ (js : List Instr). events_of t ++ events_by t.machine (counts_of t.ledger) js) (drop_all place s.instrs past) ∙ append-nil (events_of t)) ∙ traced.rest)

pub whole_stuck : (s : Program) (place : ℕ) (t : Tracer) (i : Instr) → IsProgram s → IsTracedTo s place t → slice_get s.instrs place ≡ Some i → IsStuck (step t.machine i) → IsWhole s t
whole_stuck s place t i is traced at stuck =
    whole_of s t is traced.within
    (sym (ap (λ (js : List Instr). events_of t ++ events_by t.machine (counts_of t.ledger) js) (drop_entry s.instrs place i at)
    ∙ ap (λ (xs : List EventView). events_of t ++ xs) (events-stuck t.machine (counts_of t.ledger) i (drop (suc place) s.instrs) stuck)
    ∙ append-nil (events_of t)) ∙ traced.rest)

pub full_at : (s : Program) (place : ℕ) (t : Tracer) (i : Instr) (state : State) → IsProgram s → IsTracedTo s place t → slice_get s.instrs place ≡ Some i → Overflows t i state → is_full (events.trace_of s) ≡ true
full_at s place t i state is traced at over =
    let counts : Counts = counts_of t.ledger in
    let behind = events_by state (counts_after counts i (acting t.machine i)) (drop (suc place) s.instrs) in
    let whole : (events_of t ++ event_at t.machine counts i) ++ behind ≡ (events.trace_of s).events =
    append_assoc (events_of t) (event_at t.machine counts i) behind
    ∙ ap (λ (xs : List EventView). events_of t ++ xs) (sym (events-performed t.machine state counts i (drop (suc place) s.instrs) over.performed))
    ∙ ap (λ (js : List Instr). events_of t ++ events_by t.machine counts js) (sym (drop_entry s.instrs place i at))
    ∙ traced.rest ∙ trace_events s (runnable s is) in
    full_of (events.trace_of s) (subst PassLimits whole (passed-more (events_of t ++ event_at t.machine counts i) behind over.past))

-- the parts of the trace
pub trace_parts : (s : Program) (replicas : ℕ) (start : List Tag) (found : List Event) → replicas ≡ suc s.clients → start ≡ tags (start_list s.start) → views found ≡ (events.trace_of s).events → trace_view replicas start found ≡ events.trace_of s
trace_parts s replicas start found n tags_are events_are =
    let made : ℕ → List Tag → List EventView → TraceView = λ r t e. record { replicas = r; start = t; events = e } in
    ap (λ r. made r start (views found)) n ∙ ap (λ t. made (suc s.clients) t (views found)) tags_are ∙ ap (made (suc s.clients) (tags (start_list s.start))) events_are
