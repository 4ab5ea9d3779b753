-- What the documents are once everything has arrived.
use Rattle.std.proofs.Common.{◌≡◌, ℕ, suc, ◌≤◌, List, [], ◌∷◌, length, refl, sym, ap, ◌∙◌, subst, arith, Bool, Option, Some, None}
use Rattle.std.proofs.lemmas.Option.{get_or_from_slice_get, same_Some}
use Rattle.std.specs.Prelude.{slice_get, if◌then◌else◌, true, false}
use Rattle.std.specs.Option.{option_map}
use Rattle.ot_isa.specs.declared.elements.Tagged.{Tagged}
use Rattle.ot_isa.specs.declared.instruction.Instr.{Instr}
use Rattle.ot_isa.specs.declared.instruction.Instr.TheVariants.{Edit, Take, Deliver, Acknowledge, Join, Read, ReadServer}
use Rattle.ot_model.specs.declared.shown.Shown.{Shown}
use Rattle.ot_model.specs.Sound.{AreInstrs, IsInstr, IsOutcomeSound, IsSound}
use Rattle.ot_model.specs.Table.{Client, absent, Entry, Message, Place, State, Outcome, Performed, Refused, NoRow, is_joined, run, step, with_shown, IsQuiet}
use Rattle.ot_model.proofs.Algebra.{laws}
use Rattle.ot_model.proofs.Steps.{quiet_same, step_sound}
use Rattle.ot_machine.specs.declared.state.Head.{Head}
use Rattle.ot_machine.specs.declared.state.Head.TheVariants.{Ack, Op}
use Rattle.ot_machine.specs.Readers.{ClientHas, head_at}
use Rattle.ot_generate.specs.Completed.{Drains, first_of, next_of, or_next, receipt_next, receipt_of, take_next, taking}
use Rattle.ot_generate.proofs.Draining.{quiet_at_last}
use Rattle.ot_generate.proofs.Resting.{rests}
use Rattle.ot_verdict.specs.Pending.{untaken}
use Rattle.ot_verdict.specs.Ending.{ending_of, list_after, received}
use Rattle.ot_verdict.specs.Laws.{AllAre, AreNoEdits, EndsIn, HasArrived, IsNoEdit, EveryOrderEnds, CompletionEnds}
use Rattle.ot_verdict.proofs.Idle.{IsOnly, all_idle, only, untaken_joined}
use Rattle.ot_verdict.proofs.Keeping.{IsOne, IsStill, Kept, one_kept, still}

-- ---- runs without an edit

no_edit_is : (i : Instr) → IsNoEdit i → IsInstr i
no_edit_is (Edit c op) free = absurd free
no_edit_is (Take c) free = tt
no_edit_is (Deliver c) free = tt
no_edit_is (Acknowledge c) free = tt
no_edit_is (Join c) free = tt
no_edit_is (Read c) free = tt
no_edit_is ReadServer free = tt

pub no_edits_are : (is : List Instr) → AreNoEdits is → AreInstrs is
no_edits_are [] free = tt
no_edits_are (i ∷ is) free = (no_edit_is i free.0, no_edits_are is free.1)

-- what each instruction keeps, the whole run keeps
run_keeps : (P : State → Type 0) → ((s : State) (i : Instr) → IsNoEdit i → IsSound s → P s → Kept P (step s i))
    → (is : List Instr) (p q : Place) → AreNoEdits is → IsSound p.state → P p.state → run is p ≡ Some q → IsSound q.state × P q.state
run_keeps P keeps [] p q free sound holds e = (subst (λ (w : Place). IsSound w.state) (same_Some p q e) sound, subst (λ (w : Place). P w.state) (same_Some p q e) holds)
run_keeps P keeps (i ∷ is) p q free sound holds e =
    go (λ r fine more f. run_keeps P keeps is r q free.1 fine more f) (step p.state i) (step_sound laws p.state i sound (no_edit_is i free.0)) (keeps p.state i free.0 sound holds) e
  where
    go : ((r : Place) → IsSound r.state → P r.state → run is r ≡ Some q → IsSound q.state × P q.state) → (o : Outcome) → IsOutcomeSound o → Kept P o
        → (elim o [ Performed t list ↦ run is (record { state = t; shown = with_shown p.shown list }) | Refused r ↦ None | NoRow ↦ None ]) ≡ Some q → IsSound q.state × P q.state
    go on (Performed t list) fine more f = on (record { state = t; shown = with_shown p.shown list }) fine more f
    go on (Refused r) fine more f = absurd (cc)
    go on NoRow fine more f = absurd fine

-- ---- where everything has arrived

pub arrived_quiet : (t : State) → IsSound t → HasArrived t → IsQuiet t
arrived_quiet t sound arrived = rests t sound (λ c less. ((λ x at on. (arrived c x at on).0), (λ x at on. (arrived c x at on).1)))

all_are : (list : List Tagged) (t : State) → IsSound t → IsQuiet t → t.server ≡ list → AllAre t list
all_are list t sound quiet same = (quiet, same, quiet_same t sound quiet)

-- the client's list is the server's then
one_ends : (c : ℕ) (list : List Tagged) (t : State) → IsSound t → IsQuiet t → IsOne c list t → t.server ≡ list
one_ends c list t sound quiet one =
    let q = quiet c one.client one.at one.joined in
    let whole : received t c one.client ≡ (one.client).list = ap (λ (ahead : List Entry). list_after c ahead (one.client).phase (one.client).list) q.no_downlink in
    sym (quiet_same t sound quiet c one.client one.at one.joined) ∙ sym whole ∙ one.ends

-- ---- the clients with edits that the server has not taken

abbrev EndsFrom : State → List ℕ → Type 0
EndsFrom s numbers = EndsIn s (ending_of s numbers)

one_from : (s : State) (c : ℕ) → IsSound s → IsOnly 0 s.clients c → IsOne c (ending_of s (c ∷ [])) s
one_from s c sound found =
    let e = found.number in
    let same : found.index ≡ c = omega arith in
    let here : slice_get s.clients c ≡ Some found.client = ap (slice_get s.clients) (sym same) ∙ found.at in
    record {
      client = found.client;
      at = here;
      joined = untaken_joined s c found.client sound here found.has;
      ends = ap (received s c) (sym (get_or_from_slice_get s.clients c found.client absent here));
      others = λ d x at other. found.others d x at (λ e. other (e ∙ same));
    }

ends_from : (s : State) → IsSound s → (numbers : List ℕ) → untaken s ≡ numbers → length numbers ≤ 1 → EndsFrom s numbers
ends_from s sound [] none few is t free (shown, e) arrived =
    let end = run_keeps (IsStill s.server) (λ u i edit fine holds. still s.server u i edit holds) is (record { state = s; shown = [] }) (record { state = t; shown = shown }) free sound (refl, all_idle 0 s.clients none) e in
    all_are s.server t end.0 (arrived_quiet t end.0 arrived) end.1.0
ends_from s sound (c ∷ []) one few is t free (shown, e) arrived =
    let list = ending_of s (c ∷ []) in
    let end = run_keeps (IsOne c list) (one_kept c list) is (record { state = s; shown = [] }) (record { state = t; shown = shown }) free sound (one_from s c sound (only 0 s.clients c one)) e in
    let quiet = arrived_quiet t end.0 arrived in
    all_are list t end.0 quiet (one_ends c list t end.0 quiet end.1)
ends_from s sound (c ∷ d ∷ more) two few is t free runs arrived = absurd (omega arith)

pub every_order_ends : EveryOrderEnds
every_order_ends s sound few = ends_from s sound (untaken s) refl few

-- ---- what `complete` makes

by_first : (Q : Instr → Type 0) (next : ℕ → Client → Option Instr) → ((c : ℕ) (x : Client) (j : Instr) → next c x ≡ Some j → Q j)
    → (c : ℕ) (clients : List Client) (i : Instr) → first_of next c clients ≡ Some i → Q i
by_first Q next each c [] i e = absurd (cc)
by_first Q next each c (x ∷ clients) i e = go (by_first Q next each (suc c) clients i) (next c x) refl e
  where
    go : (first_of next (suc c) clients ≡ Some i → Q i) → (o : Option Instr) → next c x ≡ o → or_next o (first_of next (suc c) clients) ≡ Some i → Q i
    go further None none f = further f
    go further (Some j) some f = subst Q (same_Some j i f) (each c x j some)

take_is : (c : ℕ) (x : Client) (j : Instr) → take_next c x ≡ Some j → IsNoEdit j
take_is c x j e = go (is_joined x.phase) x.message e
  where
    go : (b : Bool) (o : Option Message) → (if b then taking c o else None) ≡ Some j → IsNoEdit j
    go true (Some m) f = subst IsNoEdit (same_Some (Take c) j f) tt
    go true None f = absurd (cc)
    go false o f = absurd (cc)

receipt_is : (s : State) (c : ℕ) (x : Client) (j : Instr) → receipt_next s c x ≡ Some j → IsNoEdit j
receipt_is s c x j e = go (head_at s c 0 x) e
  where
    go : (o : Option Head) → option_map (receipt_of c) o ≡ Some j → IsNoEdit j
    go None f = absurd (cc)
    go (Some Ack) f = subst IsNoEdit (same_Some (Acknowledge c) j f) tt
    go (Some (Op n)) f = subst IsNoEdit (same_Some (Deliver c) j f) tt

next_is : (s : State) (i : Instr) → next_of s ≡ Some i → IsNoEdit i
next_is s i e = go (first_of take_next 0 s.clients) refl e
  where
    go : (o : Option Instr) → first_of take_next 0 s.clients ≡ o → or_next o (first_of (receipt_next s) 0 s.clients) ≡ Some i → IsNoEdit i
    go None none f = by_first IsNoEdit (receipt_next s) (receipt_is s) 0 s.clients i f
    go (Some j) some f = subst IsNoEdit (same_Some j i f) (by_first IsNoEdit take_next take_is 0 s.clients j some)

drains_no_edits : (s t : State) (is : List Instr) → Drains s is t → AreNoEdits is
drains_no_edits s t [] drains = tt
drains_no_edits s t (i ∷ is) (next, mid, shown, row, rest) = (next_is s i next, drains_no_edits mid t is rest)

-- they are performed, whatever was shown before
drains_run : (s t : State) (is : List Instr) (before : List Shown) → Drains s is t → (after : List Shown) × (run is (record { state = s; shown = before }) ≡ Some (record { state = t; shown = after }))
drains_run s t [] before same = (before, ap (λ (u : State). Some (record { state = u; shown = before })) same)
drains_run s t (i ∷ is) before (next, mid, shown, row, rest) =
    let end = drains_run mid t is (with_shown before shown) rest in
    (end.0, rw (run, row) end.1)

pub completion_ends : CompletionEnds
completion_ends s t is sound few drains none =
    let free = drains_no_edits s t is drains in
    let runs = drains_run s t is [] drains in
    let end = run_keeps IsSound (λ u i edit fine holds. sound_kept u i edit fine) is (record { state = s; shown = [] }) (record { state = t; shown = runs.0 }) free sound sound runs.1 in
    let quiet = quiet_at_last t end.0 none in
    every_order_ends s sound few is t free (runs.0, runs.1) (λ c x at on. let q = quiet c x at on in (q.no_message, q.no_downlink))
  where
    kept : (o : Outcome) → IsOutcomeSound o → Kept IsSound o
    kept (Performed t shown) fine = fine
    kept (Refused r) fine = tt
    kept NoRow fine = absurd fine

    sound_kept : (u : State) (i : Instr) → IsNoEdit i → IsSound u → Kept IsSound (step u i)
    sound_kept u i edit fine = kept (step u i) (step_sound laws u i fine (no_edit_is i edit))

-- the client whose list is taken has joined
pub only_joined : (s : State) (c : ℕ) (numbers : List ℕ) → IsSound s → numbers ≡ untaken s → length numbers ≤ 1 → slice_get numbers 0 ≡ Some c → ClientHas s c (λ x. is_joined x.phase) true
only_joined s c [] sound is few first = absurd (cc)
only_joined s c (d ∷ []) sound is few first =
    let found = only 0 s.clients d (sym is) in
    let e = found.number in
    let same : found.index ≡ c = omega (arith, e, same_Some d c first) in
    let here : slice_get s.clients c ≡ Some found.client = ap (slice_get s.clients) (sym same) ∙ found.at in
    ap (option_map (λ (x : Client). is_joined x.phase)) here ∙ ap Some (untaken_joined s c found.client sound here found.has)
only_joined s c (d ∷ e ∷ more) sound is few first = absurd (omega arith)
