-- What the contracts of the parts say, in the words of the theorem.
use Rattle.std.proofs.Common.{◌≡◌, ◌⊎◌, ℕ, zero, suc, ◌<◌, ◌≤◌, List, [], ◌∷◌, length, take, refl, subst, inl, inr, Option, Some, None, Result, Ok, Err, arith}
use Rattle.std.specs.Prelude.{slice_get, IfErr, IfOk, IfSome}
use Rattle.std.proofs.lemmas.List.{take_all}
use Rattle.ot_isa.specs.Program.{Program}
use Rattle.ot_isa.specs.declared.instruction.Instr.{Instr}
use Rattle.ot_model.specs.declared.shown.Refusal.{Refusal}
use Rattle.ot_model.specs.declared.shown.Refusal.TheVariants.{NoSuchClient, StepsFull, NotJoined, AlreadyJoined, BadBase, ClientFull, LinkEmpty, WrongHead, Memory}
use Rattle.ot_model.specs.declared.shown.Shown.{Shown}
use Rattle.ot_model.specs.Runs.{done, opening_of, place_at}
use Rattle.ot_model.specs.Table.{Outcome, Place, State, begin, run, step, NoRow, Performed, Refused}
use Rattle.ot_model.proofs.Runs.{performed-length}
use Rattle.ot_machine.specs.Answers.{IsPerformed, IsRefusal}
use Rattle.ot_machine.specs.Ended.{IsRun, IsStop, IsStopAt, reached}
use Rattle.ot_machine.specs.declared.outcome.Run.{Run}
use Rattle.ot_debug.proofs.Places.{there, led}

performed_is : (o : Outcome) → IsPerformed o → (s : State) × (list : Option Shown) × (o ≡ Performed s list)
performed_is (Performed s list) is = (s, list, refl)
performed_is (Refused r) is = absurd is
performed_is NoRow is = absurd is

-- memory runs out where the table performs
pub memory_is : (o : Outcome) (r : Refusal) → IsRefusal o r → r ≡ Memory → (s : State) × (list : Option Shown) × (o ≡ Performed s list)
memory_is o r is e = performed_is o (subst (IsRefusal o) e is)

pub memory_if : {X : Type 0} (o : Outcome) (a : Result X Refusal) → IfErr a (IsRefusal o) → IfErr a (λ r. r ≡ Memory → (s : State) × (list : Option Shown) × (o ≡ Performed s list))
memory_if o (Ok x) is = tt
memory_if o (Err r) is = memory_is o r is

-- a run without a stop has performed all
pub ran_whole : (s : Program) (r : Run) → IsRun s r → r.stopped ≡ None → run s.instrs (begin s.clients s.present s.start) ≡ Some (record { state = r.machine; shown = r.shown.items })
ran_whole s r is none =
    let at : run (take (length s.instrs) s.instrs) (begin s.clients s.present s.start) ≡ Some (record { state = r.machine; shown = r.shown.items }) =
    subst (λ (o : Option (ℕ × Refusal)). place_at s (reached s o) ≡ Some (record { state = r.machine; shown = r.shown.items })) none is.at in
    subst (λ (is : List Instr). run is (begin s.clients s.present s.start) ≡ Some (record { state = r.machine; shown = r.shown.items })) (take_all (length s.instrs) s.instrs (omega arith)) at

-- the instructions of a run that has not ended
instr_at : (is : List Instr) (n : ℕ) → n < length is → (i : Instr) × (slice_get is n ≡ Some i)
instr_at [] n below = absurd (omega (arith, below))
instr_at (i ∷ is) zero below = (i, refl)
instr_at (i ∷ is) (suc n) below = instr_at is n (omega (arith, below))

-- a run with a stop has performed what stands before it. At the stop is an instruction that the table refuses, or performs where memory ran out
abbrev pub IsStopOf : Program → State → ℕ → Refusal → Type 0
IsStopOf s state place r =
    (i : Instr) × (slice_get s.instrs place ≡ Some i) × ((step state i ≡ Refused r) ⊎ ((r ≡ Memory) × ((t : State) × (list : Option Shown) × (step state i ≡ Performed t list))))

performed_at : (s : Program) (q : Place) (place : ℕ) → place < done s → place_at s place ≡ Some q
    → (i : Instr) × (slice_get s.instrs place ≡ Some i) × ((t : State) × (list : Option Shown) × (step q.state i ≡ Performed t list))
performed_at s q place below at =
    let few : done s ≤ length s.instrs = performed-length s.instrs (opening_of s) in
    let here = instr_at s.instrs place (omega (arith, below, few)) in
    let next = there s (suc place) (omega (arith, below)) in
    let moved = led s place here.0 q next.0 here.1 at next.1 in
    (here.0, here.1, (moved.state, moved.list, moved.step))

stop_at : (s : Program) (q : Place) (place : ℕ) (r : Refusal) → place_at s place ≡ Some q → IsStopAt s q.state place r → IsStopOf s q.state place r
stop_at s q place NoSuchClient at is = (is.1.0, is.1.1, inl is.1.2)
stop_at s q place StepsFull at is = (is.1.0, is.1.1, inl is.1.2)
stop_at s q place NotJoined at is = (is.1.0, is.1.1, inl is.1.2)
stop_at s q place AlreadyJoined at is = (is.1.0, is.1.1, inl is.1.2)
stop_at s q place BadBase at is = (is.1.0, is.1.1, inl is.1.2)
stop_at s q place ClientFull at is = (is.1.0, is.1.1, inl is.1.2)
stop_at s q place LinkEmpty at is = (is.1.0, is.1.1, inl is.1.2)
stop_at s q place WrongHead at is = (is.1.0, is.1.1, inl is.1.2)
stop_at s q place Memory at is = let here = performed_at s q place is at in (here.0, here.1, inr (refl, here.2))

pub ran_to : (s : Program) (r : Run) (stop : ℕ × Refusal) → IsRun s r → r.stopped ≡ Some stop
    → (run (take stop.0 s.instrs) (begin s.clients s.present s.start) ≡ Some (record { state = r.machine; shown = r.shown.items })) × IsStopOf s r.machine stop.0 stop.1
ran_to s r stop is some =
    let at : place_at s stop.0 ≡ Some (record { state = r.machine; shown = r.shown.items }) =
    subst (λ (o : Option (ℕ × Refusal)). place_at s (reached s o) ≡ Some (record { state = r.machine; shown = r.shown.items })) some is.at in
    (at, stop_at s (record { state = r.machine; shown = r.shown.items }) stop.0 stop.1 at (subst (IsStop s r.machine) some is.stop))

pub ran_whole_if : {E : Type 0} (s : Program) (a : Result Run E) → IfOk a (IsRun s)
    → IfOk a (λ r. r.stopped ≡ None → run s.instrs (begin s.clients s.present s.start) ≡ Some (record { state = r.machine; shown = r.shown.items }))
ran_whole_if s (Ok r) is = ran_whole s r is
ran_whole_if s (Err e) is = tt

stops_if : (s : Program) (r : Run) (stop : Option (ℕ × Refusal)) → IsRun s r → r.stopped ≡ stop
    → IfSome stop (λ it. (run (take it.0 s.instrs) (begin s.clients s.present s.start) ≡ Some (record { state = r.machine; shown = r.shown.items })) × IsStopOf s r.machine it.0 it.1)
stops_if s r None is e = tt
stops_if s r (Some stop) is e = ran_to s r stop is e

pub ran_to_if : {E : Type 0} (s : Program) (a : Result Run E) → IfOk a (IsRun s)
    → IfOk a (λ r. IfSome r.stopped (λ it. (run (take it.0 s.instrs) (begin s.clients s.present s.start) ≡ Some (record { state = r.machine; shown = r.shown.items })) × IsStopOf s r.machine it.0 it.1))
ran_to_if s (Ok r) is = stops_if s r r.stopped is refl
ran_to_if s (Err e) is = tt
