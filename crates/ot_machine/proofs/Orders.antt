-- A schedule's run, where another order of its instructions is performed whole.
use Rattle.std.proofs.Common.{◌≡◌, ℕ, suc, ◌+◌, ◌<◌, ◌≤◌, List, [], ◌∷◌, ◌++◌, length, take, drop, refl, sym, ap, ◌∙◌, subst, arith, inl, inr, Option, Some, None}
use Rattle.std.proofs.lemmas.List.{take_all}
use Rattle.std.proofs.lemmas.Option.{slice_get_within, same_Some}
use Rattle.std.proofs.Math.Seq.{take-append_seam, drop-append-add}
use Rattle.std.specs.Prelude.{◌⊎◌, slice_get, IsSome, count_by}
use Rattle.ot_isa.specs.Program.{Program, IsProgram}
use Rattle.ot_isa.specs.declared.instruction.Instr.{Instr}
use Rattle.ot_model.specs.declared.shown.Refusal.{Refusal}
use Rattle.ot_model.specs.declared.shown.Refusal.TheVariants.{NoSuchClient, StepsFull, NotJoined, AlreadyJoined, BadBase, ClientFull, LinkEmpty, WrongHead, Memory}
use Rattle.ot_model.specs.Table.{State, Place, Outcome, Performed, Refused, NoRow, step, run, performed, begin}
use Rattle.ot_model.specs.Runs.{done, place_at, opening_of}
use Rattle.ot_model.specs.Orders.{AreSameShown, awaits}
use Rattle.ot_model.specs.OrderLaws.{IsTooEarly}
use Rattle.ot_model.proofs.Reordering.{any_order_runs}
use Rattle.ot_model.proofs.Runs.{reaches, performed-append, performed-length}
use Rattle.ot_machine.specs.declared.outcome.Run.{Run}
use Rattle.ot_machine.specs.Ended.{IsStop, IsStopAt, IsRefusedIn, IsRun, reached}
use Rattle.ot_machine.specs.Orders.{AreReordered, IsWhole, EndAlike, StopsEarly, IsBeside}
use Rattle.ot_machine.proofs.RunLaws.{instrs_are}

abbrev start_of : Program → Place
start_of s = begin s.clients s.present s.start

-- the place at a schedule's end is where its instructions lead to
at_end : (s : Program) → place_at s (length s.instrs) ≡ run s.instrs (start_of s)
at_end s = ap (λ (is : List Instr). run is (start_of s)) (take_all (length s.instrs) s.instrs (omega arith))

there_is : (o : Option Place) → IsSome o → (q : Place) × (o ≡ Some q)
there_is None some = absurd (cc)
there_is (Some q) some = (q, refl)

ended : (s : Program) → IsWhole s → (q : Place) × (place_at s (length s.instrs) ≡ Some q)
ended s whole = there_is (place_at s (length s.instrs)) ((reaches s (length s.instrs) (omega arith)).0 (omega (arith, whole)))

same_start : (s t : Program) → AreReordered s t → start_of s ≡ start_of t
same_start s t same =
    ap (λ (n : ℕ). begin n s.present s.start) same.clients
    ∙ ap (λ (n : ℕ). begin t.clients n s.start) same.present
    ∙ ap (λ (text : List ℕ). begin t.clients t.present text) same.start

get_seam : (xs : List Instr) (y : Instr) (ys : List Instr) → slice_get (xs ++ y ∷ ys) (length xs) ≡ Some y
get_seam [] y ys = refl
get_seam (x ∷ xs) y ys = get_seam xs y ys

stuck : (i : Instr) (is : List Instr) (q : State) → step q i ≡ Refused LinkEmpty → performed (i ∷ is) q ≡ 0
stuck i is q refused = rw (performed, refused) refl

-- the run stops there
done_before : (s : Program) (e : IsTooEarly s.instrs (start_of s)) → done s ≡ length e.before
done_before s e =
    let all : done s ≡ length e.before + performed (e.early ∷ e.after) e.place.state =
    ap (λ (is : List Instr). performed is (opening_of s)) e.split ∙ performed-append e.before (e.early ∷ e.after) (start_of s) e.place e.reached in
    let none = stuck e.early e.after e.place.state e.refused in
    omega arith

stops : (s : Program) → IsTooEarly s.instrs (start_of s) → StopsEarly s
stops s e =
    let here = done_before s e in
    let behind : drop (suc (done s)) s.instrs ≡ e.after =
    ap (λ (n : ℕ). drop n s.instrs) (let n = here in let m : suc (done s) ≡ length e.before + 1 = omega arith in m)
    ∙ ap (λ (is : List Instr). drop (length e.before + 1) is) e.split
    ∙ drop-append-add e.before (e.early ∷ e.after) 1 in
    record {
      place = e.place;
      early = e.early;
      reached =
          ap (place_at s) here
          ∙ ap (λ (is : List Instr). run (take (length e.before) is) (start_of s)) e.split
          ∙ ap (λ (is : List Instr). run is (start_of s)) (take-append_seam e.before (e.early ∷ e.after))
          ∙ e.reached;
      next = ap (slice_get s.instrs) here ∙ ap (λ (is : List Instr). slice_get is (length e.before)) e.split ∙ get_seam e.before e.early e.after;
      refused = e.refused;
      awaited = subst (λ (is : List Instr). 1 ≤ count_by (awaits e.early) is) (sym behind) e.awaited;
    }

pub ends : (s t : Program) → IsProgram s → AreReordered s t → IsWhole s → EndAlike s t ⊎ StopsEarly t
ends s t is same whole =
    let end = ended s whole in
    let start = same_start s t same in
    elim (any_order_runs s.clients s.present s.start s.instrs t.instrs end.0 is.clients_to is.present_to is.start_fits (instrs_are s.clients s.instrs is.instrs_are) same.orders (sym (at_end s) ∙ end.1)) [
      | inl (r, second, state, shown) ↦ inl (record { one = end.0; other = r; at_one = end.1; at_other = at_end t ∙ ap (run t.instrs) (sym start) ∙ second; state = state; shown = shown })
      | inr early ↦ inr (stops t (subst (IsTooEarly t.instrs) start early))
    ]

-- a run that stops has an instruction left
pub not_both : (s t : Program) → EndAlike s t → StopsEarly t → ⊥
not_both s t alike stop = absurd (let within = reach t (rest t stop.early stop.next) alike.other alike.at_other in omega arith)
  where
    rest : (t : Program) (i : Instr) → slice_get t.instrs (done t) ≡ Some i → done t < length t.instrs
    rest t i at = slice_get_within t.instrs (done t) i at

    reach : (t : Program) → done t < length t.instrs → (q : Place) → place_at t (length t.instrs) ≡ Some q → length t.instrs < length t.instrs
    reach t less q at = let all = (reaches t (length t.instrs) (omega arith)).1 (subst IsSome (sym at) refl) in omega (arith, all, less)

-- the program's runs
same_run : (o : Option Place) (one other : Place) (q r : Place) → o ≡ Some one → o ≡ Some q → q.state ≡ r.state → AreSameShown q.shown r.shown → (p : Option Place) → p ≡ Some other → p ≡ Some r
    → (one.state ≡ other.state) × AreSameShown one.shown other.shown
same_run o one other q r at_one at_q state shown p at_other at_r =
    let first : q ≡ one = same_Some q one (sym at_q ∙ at_one) in
    let second : r ≡ other = same_Some r other (sym at_r ∙ at_other) in (
      sym (ap (λ (w : Place). w.state) first) ∙ state ∙ ap (λ (w : Place). w.state) second,
      subst (λ (w : Place). AreSameShown one.shown w.shown) second (subst (λ (w : Place). AreSameShown w.shown r.shown) first shown),
    )

refusal_or : Refusal → Outcome → Refusal
refusal_or d (Performed t list) = d
refusal_or d (Refused r) = r
refusal_or d NoRow = d

same_refusal : (o : Outcome) (r : Refusal) → o ≡ Refused LinkEmpty → o ≡ Refused r → r ≡ LinkEmpty
unfolding refusal_or
same_refusal o r early at = ap (refusal_or r) (sym at ∙ early)

-- a stop for any reason but memory is the table's, so that it is the early instruction's
stopped_early : (t : Program) (other : Run) (place : ℕ) (r : Refusal) → StopsEarly t → place_at t place ≡ Some (record { state = other.machine; shown = other.shown.items })
    → (place ≡ done t) × IsRefusedIn t other.machine place r → r ≡ LinkEmpty
stopped_early t other place r stop at (there, (i, next, refused)) =
    let here : Place = record { state = other.machine; shown = other.shown.items } in
    let one : here ≡ stop.place = same_Some here stop.place (sym at ∙ ap (place_at t) there ∙ stop.reached) in
    let same : i ≡ stop.early = same_Some i stop.early (sym next ∙ ap (slice_get t.instrs) there ∙ stop.next) in
    same_refusal (step other.machine i) r (ap (λ (w : Place). step w.state i) one ∙ ap (step stop.place.state) same ∙ stop.refused) refused

stopped_whole : (t : Program) (state : State) (place : ℕ) (r : Refusal) → IsWhole t → (place ≡ done t) × IsRefusedIn t state place r → ⊥
stopped_whole t state place r whole (there, (i, next, refused)) = absurd (let within = slice_get_within t.instrs place i next in omega (arith, within, there, whole))

-- the table's stops, and memory
by_reason : (P : ℕ → Refusal → Type 0) (t : Program) (state : State) (place : ℕ) (r : Refusal) → IsStopAt t state place r
    → ((x : Refusal) → (place ≡ done t) × IsRefusedIn t state place x → P place x) → P place Memory → P place r
by_reason P t state place NoSuchClient stop table memory = table NoSuchClient stop
by_reason P t state place StepsFull stop table memory = table StepsFull stop
by_reason P t state place NotJoined stop table memory = table NotJoined stop
by_reason P t state place AlreadyJoined stop table memory = table AlreadyJoined stop
by_reason P t state place BadBase stop table memory = table BadBase stop
by_reason P t state place ClientFull stop table memory = table ClientFull stop
by_reason P t state place LinkEmpty stop table memory = table LinkEmpty stop
by_reason P t state place WrongHead stop table memory = table WrongHead stop
by_reason P t state place Memory stop table memory = memory

whole_of : (s t : Program) → EndAlike s t → IsWhole t
whole_of s t alike = let all = (reaches t (length t.instrs) (omega arith)).1 (subst IsSome (sym alike.at_other) refl) in let most = performed-length t.instrs (opening_of t) in omega (arith, all, most)

beside_alike : (s t : Program) (one other : Run) → EndAlike s t → place_at s (length s.instrs) ≡ Some (record { state = one.machine; shown = one.shown.items })
    → (stop : Option (ℕ × Refusal)) → place_at t (reached t stop) ≡ Some (record { state = other.machine; shown = other.shown.items }) → IsStop t other.machine stop → IsBeside one other stop
beside_alike s t one other alike at_one None at_other is =
    same_run (place_at s (length s.instrs)) (record { state = one.machine; shown = one.shown.items }) (record { state = other.machine; shown = other.shown.items }) alike.one alike.other
    at_one alike.at_one alike.state alike.shown (place_at t (length t.instrs)) at_other alike.at_other
beside_alike s t one other alike at_one (Some (place, r)) at_other is =
    by_reason (λ n x. (x ≡ LinkEmpty) ⊎ (x ≡ Memory)) t other.machine place r is
    (λ x stop. absurd (stopped_whole t other.machine place x (whole_of s t alike) stop))
    (inr refl)

beside_early : (t : Program) (one other : Run) → StopsEarly t
    → (stop : Option (ℕ × Refusal)) → place_at t (reached t stop) ≡ Some (record { state = other.machine; shown = other.shown.items }) → IsStop t other.machine stop → IsBeside one other stop
beside_early t one other early None at_other is = absurd (let within = slice_get_within t.instrs (done t) early.early early.next in omega (arith, within, is))
beside_early t one other early (Some (place, r)) at_other is =
    by_reason (λ n x. (x ≡ LinkEmpty) ⊎ (x ≡ Memory)) t other.machine place r is
    (λ x stop. inl (stopped_early t other place x early at_other stop))
    (inr refl)

pub beside : (s t : Program) (one other : Run) → IsProgram s → AreReordered s t → IsRun s one → IsRun t other → one.stopped ≡ None → IsBeside one other other.stopped
beside s t one other is same first second none =
    let whole : length s.instrs ≡ done s = subst (IsStop s one.machine) none first.stop in
    let at_one = subst (λ (stop : Option (ℕ × Refusal)). place_at s (reached s stop) ≡ Some (record { state = one.machine; shown = one.shown.items })) none first.at in
    elim (ends s t is same (sym whole)) [
      | inl alike ↦ beside_alike s t one other alike at_one other.stopped second.at second.stop
      | inr early ↦ beside_early t one other early other.stopped second.at second.stop
    ]
