-- What keeps a board a board.
use Rattle.std.proofs.Common.{◌≡◌, ℕ, zero, suc, ◌+◌, ◌*◌, ◌≤◌, ◌≢◌, List, [], ◌∷◌, ◌++◌, length, map, set, refl, sym, ap, ◌∙◌, subst, Option, Some, None, true, false, Bool, cond, arith, length-set, replicate, ◌-◌}
use Rattle.std.proofs.lemmas.List.Recursion.{is_count_by}
use Rattle.std.proofs.lemmas.List.{length-append, map-set, length-replicate}
use Rattle.std.proofs.lemmas.Option.{same_Some, slice_get-map}
use Rattle.std.specs.Prelude.{slice_get}
use Rattle.ot_isa.specs.declared.instruction.Instr.{Instr}
use Rattle.ot_isa.specs.declared.instruction.Instr.TheVariants.{Edit, Take, Deliver, Acknowledge, Join, Read, ReadServer}
use Rattle.ot_isa.specs.Program.{Program}
use Rattle.ot_model.specs.declared.shown.Shown.{Shown}
use Rattle.ot_model.specs.Table.{Client, State, Place, Outcome, start_list, present_with, absent, Performed, Refused, NoRow, acknowledged, with_row, with_shown, step, run}
use Rattle.ot_model.specs.Runs.{opening_of}
use Rattle.ot_model.specs.Session.{Session, RunsTo}
use Rattle.ot_model.proofs.Outcomes.{by_edit, by_take, by_deliver, by_acknowledge, by_join, by_read, by_read_server}
use Rattle.ot_model.proofs.Runs.{run_performed}
use Rattle.ot_model.proofs.Sessions.{runs_on}
use Rattle.std.specs.Option.{option_map}
use Rattle.ot_model.proofs.States.{slice_get-set_other}
use Rattle.ot_board.specs.declared.lent.Lent.{Lent}
use Rattle.ot_board.specs.Lents.{session_of}
use Rattle.ot_board.specs.Boards.{BoardView, IsBoard, AreWaiting, outside, with_steps, fresh}

-- an instruction that is performed adds one to the steps, and no client comes or goes
abbrev Counts : State → Outcome → Type 0
Counts s (Performed t shown) = (length t.clients ≡ length s.clients) × (t.steps ≡ suc s.steps)
Counts s (Refused r) = Unit {0}
Counts s NoRow = Unit {0}

counts_row : (s : State) (c : ℕ) (o : Option Client) → Counts s (with_row s c o)
counts_row s c None = tt
counts_row s c (Some y) = (length-set s.clients c y, refl)

counts : (s : State) (i : Instr) → Counts s (step s i)
counts s (Edit c op) = by_edit (Counts s) (λ r. tt) s c op (λ x at below on base few. (length-set s.clients c _, refl))
counts s (Take c) = by_take (Counts s) (λ r. tt) s c (λ x m at below on is. (length-set s.clients c _, refl))
counts s (Deliver c) = by_deliver (Counts s) (λ r. tt) s c (λ x h at below on head other. (length-set s.clients c _, refl))
counts s (Acknowledge c) = by_acknowledge (Counts s) (λ r. tt) s c (λ x h at below on head own. counts_row s c (acknowledged x x.phase))
counts s (Join c) = by_join (Counts s) (λ r. tt) s c (λ x at below off. (length-set s.clients c _, refl))
counts s (Read c) = by_read (Counts s) (λ r. tt) s c (λ x at below on. (refl, refl))
counts s ReadServer = by_read_server (Counts s) (λ r. tt) s (λ below. (refl, refl))

pub run_counts : (is : List Instr) (p q : Place) → run is p ≡ Some q → (length q.state.clients ≡ length p.state.clients) × (q.state.steps ≡ length is + p.state.steps)
run_counts [] p q e =
    let same = same_Some p q e in
    (ap (λ (w : Place). length w.state.clients) (sym same), ap (λ (w : Place). w.state.steps) (sym same) ∙ omega arith)
run_counts (i ∷ is) p q e = go (λ t list f. run_counts is (record { state = t; shown = with_shown p.shown list }) q f) (step p.state i) (counts p.state i) e
  where
    go : ((t : State) (list : Option Shown) → run is (record { state = t; shown = with_shown p.shown list }) ≡ Some q → (length q.state.clients ≡ length t.clients) × (q.state.steps ≡ length is + t.steps))
        → (o : Outcome) → Counts p.state o
        → (elim o [ Performed t list ↦ run is (record { state = t; shown = with_shown p.shown list }) | Refused r ↦ None | NoRow ↦ None ]) ≡ Some q
        → (length q.state.clients ≡ length p.state.clients) × (q.state.steps ≡ suc (length is) + p.state.steps)
    go on (Performed t list) c f = let left = on t list f in (left.0 ∙ c.0, (let a = left.1 in let b = c.1 in omega arith))
    go on (Refused r) c f = absurd (cc)
    go on NoRow c f = absurd (cc)

-- one instruction as a run
pub runs_one : (s t : State) (i : Instr) (shown : Option Shown) → step s i ≡ Performed t shown → RunsTo s (i ∷ []) t
runs_one s t i shown row = (with_shown [] shown, run_performed i (record { state = s; shown = [] }) t shown row)

-- steps appended to the record and performed
pub kept :
    (b a : BoardView) (steps : List Instr) → IsBoard b → a.recorded ≡ with_steps b.recorded steps → RunsTo b.state steps a.state
    → length b.recorded.instrs + length steps + 64 * outside a.out ≤ 100000 → length a.out ≡ length b.out → a.parked ≡ b.parked → AreWaiting a.out b.parked → IsBoard a
kept b a steps board recorded ran fits outs parked waiting =
    let many = run_counts steps (record { state = b.state; shown = [] }) (record { state = a.state; shown = ran.0 }) ran.1 in
    let clients : a.recorded.clients ≡ b.recorded.clients = ap (λ (p : Program). p.clients) recorded in
    let longer : length a.recorded.instrs ≡ length b.recorded.instrs + length steps = ap (λ (p : Program). length p.instrs) recorded ∙ length-append b.recorded.instrs steps in
    let counted = board.counted in
    let more = many.1 in
    record {
      replays = subst (λ (p : Program). RunsTo (opening_of p) p.instrs a.state) (sym recorded) (runs_on (opening_of b.recorded) b.state a.state b.recorded.instrs steps board.replays ran);
      fits = omega arith;
      counted = omega arith;
      clients = many.0 ∙ board.clients ∙ sym clients;
      outs = outs ∙ board.outs ∙ sym clients;
      slots = ap length parked ∙ board.slots ∙ sym clients;
      waiting = subst (AreWaiting a.out) (sym parked) waiting;
    }

-- a client more that is out, and one less
outs : List Bool → ℕ
outs [] = 0
outs (x ∷ out) = cond x (1 + outs out) (outs out)

outs_is : (out : List Bool) → outs out ≡ outside out
unfolding outs
outs_is out = is_count_by outs (λ b. b) refl (λ x xs. refl) out

outs_more : (out : List Bool) (c : ℕ) → slice_get out c ≡ Some false → outs (set out c true) ≡ suc (outs out)
unfolding outs
outs_more [] c at = absurd (cc)
outs_more (true ∷ out) zero at = absurd (cc)
outs_more (false ∷ out) zero at = let e : 1 + outs out ≡ suc (outs out) = omega arith in e
outs_more (true ∷ out) (suc c) at =
    let more = outs_more out c at in
    let e : 1 + outs (set out c true) ≡ suc (1 + outs out) = omega arith in e
outs_more (false ∷ out) (suc c) at = outs_more out c at

outs_less : (out : List Bool) (c : ℕ) → slice_get out c ≡ Some true → suc (outs (set out c false)) ≡ outs out
unfolding outs
outs_less [] c at = absurd (cc)
outs_less (true ∷ out) zero at = let e : suc (outs out) ≡ 1 + outs out = omega arith in e
outs_less (false ∷ out) zero at = absurd (cc)
outs_less (true ∷ out) (suc c) at =
    let less = outs_less out c at in
    let e : suc (1 + outs (set out c false)) ≡ 1 + outs out = omega arith in e
outs_less (false ∷ out) (suc c) at = outs_less out c at

pub outside_more : (out : List Bool) (c : ℕ) → slice_get out c ≡ Some false → outside (set out c true) ≡ suc (outside out)
outside_more out c at = sym (outs_is (set out c true)) ∙ outs_more out c at ∙ ap suc (outs_is out)

pub outside_less : (out : List Bool) (c : ℕ) → slice_get out c ≡ Some true → suc (outside (set out c false)) ≡ outside out
outside_less out c at = ap suc (sym (outs_is (set out c false))) ∙ outs_less out c at ∙ outs_is out

still_out : (out : List Bool) (c d : ℕ) → slice_get out d ≡ Some true → slice_get (set out c true) d ≡ Some true
still_out [] c d at = absurd (cc)
still_out (x ∷ out) zero zero at = refl
still_out (x ∷ out) zero (suc d) at = at
still_out (x ∷ out) (suc c) zero at = at
still_out (x ∷ out) (suc c) (suc d) at = still_out out c d at

each_set : {X : Type 0} (P : ℕ → X → Type 0) (xs : List X) (c : ℕ) (y : X) → ((d : ℕ) (x : X) → slice_get xs d ≡ Some x → P d x) → P c y → (d : ℕ) (x : X) → slice_get (set xs c y) d ≡ Some x → P d x
each_set P [] c y all here d x at = absurd (cc)
each_set P (z ∷ xs) zero y all here zero x at = subst (P zero) (same_Some y x at) here
each_set P (z ∷ xs) zero y all here (suc d) x at = all (suc d) x at
each_set P (z ∷ xs) (suc c) y all here zero x at = all zero x at
each_set P (z ∷ xs) (suc c) y all here (suc d) x at = each_set (λ n. P (suc n)) xs c y (λ e v h. all (suc e) v h) here d x at

-- what a session that waits in the slot of c has
abbrev pub IsWaitingAt : List Bool → ℕ → Option Session → Type 0
IsWaitingAt out c o = (x : Session) → o ≡ Some x → (slice_get out c ≡ Some true) × (x.start.number ≡ c)

waiting_set : (out : List Bool) (parked : List (Option Session)) (c : ℕ) (o : Option Session) → AreWaiting out parked → IsWaitingAt out c o → AreWaiting out (set parked c o)
waiting_set out parked c o all here d x at =
    each_set (IsWaitingAt out) parked c o (λ e v h z is. all e z (h ∙ ap Some is)) here d (Some x) at x refl

-- who is out and which sessions are parked, with the record and the machine as they were
pub kept_same :
    (b : BoardView) (out : List Bool) (parked : List (Option Session)) → IsBoard b → length b.recorded.instrs + 64 * outside out ≤ 100000
    → length out ≡ length b.out → length parked ≡ length b.parked → AreWaiting out parked
    → IsBoard (record { recorded = b.recorded; state = b.state; out = out; parked = parked })
kept_same b out parked board fits outs slots waiting =
    record {
      replays = board.replays;
      fits = fits;
      counted = board.counted;
      clients = board.clients;
      outs = outs ∙ board.outs;
      slots = slots ∙ board.slots;
      waiting = waiting;
    }

pub kept_parked : (b : BoardView) (parked : List (Option Session)) (c : ℕ) (o : Option Session) → IsBoard b → parked ≡ set b.parked c o → IsWaitingAt b.out c o
    → IsBoard (record { recorded = b.recorded; state = b.state; out = b.out; parked = parked })
kept_parked b parked c o board is here =
    kept_same b b.out parked board board.fits refl (ap length is ∙ length-set b.parked c o) (subst (AreWaiting b.out) (sym is) (waiting_set b.out b.parked c o board.waiting here))

pub kept_lent : (b : BoardView) (c : ℕ) → IsBoard b → slice_get b.out c ≡ Some false → length b.recorded.instrs + 64 * outside b.out + 64 ≤ 100000
    → IsBoard (record { recorded = b.recorded; state = b.state; out = set b.out c true; parked = b.parked })
kept_lent b c board off room =
    let more = outside_more b.out c off in
    kept_same b (set b.out c true) b.parked board (omega arith) (length-set b.out c true) refl (λ d x at. let w = board.waiting d x at in (still_out b.out c d w.0, w.1))

-- the clients that are still out when one is settled that is not parked
pub waiting_less : (b : BoardView) (c : ℕ) → IsBoard b → slice_get b.parked c ≡ Some None → AreWaiting (set b.out c false) b.parked
waiting_less b c board none d x at =
    let w = board.waiting d x at in
    let other : d ≢ c = λ e. (let same = sym at ∙ ap (λ (n : ℕ). slice_get b.parked n) e ∙ none in absurd (cc)) in
    (slice_get-set_other b.out c d false other ∙ w.0, w.1)

-- the slots as they are seen
pub slots_set : (slots : List (Option Lent)) (c : ℕ) (o : Option Lent) → map (option_map session_of) (set slots c o) ≡ set (map (option_map session_of) slots) c (option_map session_of o)
slots_set slots c o = map-set (option_map session_of) slots c o

pub slot_at : (slots : List (Option Lent)) (c : ℕ) (o : Option Lent) → slice_get slots c ≡ Some o → slice_get (map (option_map session_of) slots) c ≡ Some (option_map session_of o)
slot_at slots c o at = slice_get-map (option_map session_of) slots c ∙ ap (option_map (option_map session_of)) at

abbrev pub with_slots : BoardView → List (Option Session) → BoardView
with_slots b slots = record { recorded = b.recorded; state = b.state; out = b.out; parked = slots }

none_out : (n : ℕ) → outs (replicate n false) ≡ 0
unfolding outs
none_out zero = refl
none_out (suc n) = none_out n

none_parked : (n c : ℕ) (x : Session) → slice_get (replicate {A = Option Session} n None) c ≡ Some (Some x) → ⊥
none_parked zero c x at = cc
none_parked (suc n) zero x at = cc
none_parked (suc n) (suc c) x at = none_parked n c x at

pub replicate_more : {X : Type 0} (n : ℕ) (x : X) → replicate n x ++ x ∷ [] ≡ replicate (suc n) x
replicate_more zero x = refl
replicate_more {X = X} (suc n) x = ap (λ (xs : List X). x ∷ xs) (replicate_more n x)

pub none_seen : (n : ℕ) → map (option_map session_of) (replicate n None) ≡ replicate n None
none_seen zero = refl
none_seen (suc n) = ap (λ (xs : List (Option Session)). None ∷ xs) (none_seen n)

-- a board with nothing recorded is one
pub fresh_kept : (clients present : ℕ) (start : List ℕ) → present ≤ clients → IsBoard (fresh clients present start)
fresh_kept clients present start most =
    let nobody : outside (replicate clients false) ≡ 0 = sym (outs_is (replicate clients false)) ∙ none_out clients in
    let document = start_list start in
    record {
      replays = ([], refl);
      fits = omega (arith, nobody);
      counted = refl;
      clients = length-append (replicate present (present_with document)) (replicate (clients - present) absent) ∙ omega (arith, length-replicate present (present_with document), length-replicate (clients - present) absent);
      outs = length-replicate clients false;
      slots = length-replicate {A = Option Session} clients None;
      waiting = λ c x at. absurd (none_parked clients c x at);
    }

pub same_board : (p q : Program) (s t : State) (o r : List Bool) (a b : List (Option Session)) → p ≡ q → s ≡ t → o ≡ r → a ≡ b
    → ◌≡◌ {A = BoardView} (record { recorded = p; state = s; out = o; parked = a }) (record { recorded = q; state = t; out = r; parked = b })
same_board p q s t o r a b e f g h = cc
