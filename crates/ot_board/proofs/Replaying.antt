-- A recorded schedule, run again.
use Rattle.std.proofs.Common.{◌≡◌, ℕ, ◌+◌, List, [], ◌++◌, length, take, refl, sym, ap, ◌∙◌, arith, Option, Some, None}
use Rattle.std.proofs.lemmas.List.{append-nil, take_all}
use Rattle.std.proofs.lemmas.Option.{same_Some, slice_get_within}
use Rattle.ot_isa.specs.declared.instruction.Instr.{Instr}
use Rattle.ot_isa.specs.Program.{Program}
use Rattle.ot_model.specs.declared.shown.Refusal.{Refusal}
use Rattle.ot_model.specs.declared.shown.Refusal.TheVariants.{NoSuchClient, StepsFull, NotJoined, AlreadyJoined, BadBase, ClientFull, LinkEmpty, WrongHead, Memory}
use Rattle.ot_model.specs.declared.shown.Shown.{Shown}
use Rattle.ot_model.specs.Table.{State, Place, begin, run, performed}
use Rattle.ot_model.specs.Runs.{done, opening_of, place_at}
use Rattle.ot_model.specs.Session.{RunsTo}
use Rattle.ot_model.proofs.Runs.{performed-append}
use Rattle.ot_machine.specs.Ended.{reached, IsRefusedIn, IsStop, IsStopAt}
use Rattle.ot_board.specs.Boards.{EndsIn, RunsEndIn}

module _ (s : Program) (state : State) (shown : List Shown) (ran : run s.instrs (begin s.clients s.present s.start) ≡ Some (record { state = state; shown = shown })) where
  abbrev first : Place
  first = begin s.clients s.present s.start

  -- every instruction is performed
  all_done : done s ≡ length s.instrs
  all_done =
      let more : performed (s.instrs ++ []) (opening_of s) ≡ length s.instrs + 0 = performed-append s.instrs [] first (record { state = state; shown = shown }) ran in
      ap (λ (is : List Instr). performed is (opening_of s)) (sym (append-nil s.instrs)) ∙ more ∙ omega arith

  -- none is refused
  none_refused : (at : State) (place : ℕ) (r : Refusal) → (place ≡ done s) × IsRefusedIn s at place r → ⊥
  none_refused at place r (here, (i, there, row)) =
      let within = slice_get_within s.instrs place i there in
      let all = all_done in
      omega arith

  only_memory : (at : State) (place : ℕ) (r : Refusal) → IsStopAt s at place r → r ≡ Memory
  only_memory at place NoSuchClient stop = absurd (none_refused at place NoSuchClient stop)
  only_memory at place StepsFull stop = absurd (none_refused at place StepsFull stop)
  only_memory at place NotJoined stop = absurd (none_refused at place NotJoined stop)
  only_memory at place AlreadyJoined stop = absurd (none_refused at place AlreadyJoined stop)
  only_memory at place BadBase stop = absurd (none_refused at place BadBase stop)
  only_memory at place ClientFull stop = absurd (none_refused at place ClientFull stop)
  only_memory at place LinkEmpty stop = absurd (none_refused at place LinkEmpty stop)
  only_memory at place WrongHead stop = absurd (none_refused at place WrongHead stop)
  only_memory at place Memory stop = refl

  ends : (stopped : Option (ℕ × Refusal)) (at : State) (lists : List Shown) → place_at s (reached s stopped) ≡ Some (record { state = at; shown = lists }) → IsStop s at stopped → EndsIn stopped at state
  ends None at lists there stop =
      let whole : take (length s.instrs) s.instrs ≡ s.instrs = take_all (length s.instrs) s.instrs (omega arith) in
      let same = sym there ∙ ap (λ (is : List Instr). run is first) whole ∙ ran in
      ap (λ (p : Place). p.state) (same_Some (record { state = at; shown = lists }) (record { state = state; shown = shown }) same)
  ends (Some stop) at lists there is = only_memory at stop.0 stop.1 is

-- a record that leads to a state, run again
pub replayed : (s : Program) (state : State) → RunsTo (opening_of s) s.instrs state → RunsEndIn s state
replayed s state (shown, ran) = λ again is. ends s state shown ran again.stopped again.machine again.shown.items is.at is.stop
