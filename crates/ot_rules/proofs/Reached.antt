-- The machine on its way through a run, and the log against which a message is transformed.
use Rattle.std.proofs.Common.{◌≡◌, ◌≢◌, ℕ, suc, ◌+◌, ◌-◌, ◌<◌, ◌≤◌, List, [], ◌∷◌, ◌++◌, length, drop, take, refl, sym, ap, ◌∙◌, subst, arith, Option, Some, None, Bool, true, false, inl, inr}
use Rattle.std.specs.Prelude.{map, slice_get, ◌==◌, ◌↔◌, IsTrue, if◌then◌else◌}
use Rattle.std.specs.Option.{option_map}
use Rattle.std.proofs.lemmas.Bool.{eq-eqb, ne_eqb, iff_false}
use Rattle.std.proofs.Math.Nat.{min-le_left, min-le_right}
use Rattle.std.proofs.lemmas.Option.{slice_get_cases}
use Rattle.std.proofs.lemmas.List.{append_assoc, append-nil, drop-take, drop_all, length-take}
use Rattle.ot_isa.specs.Program.{Program}
use Rattle.ot_isa.specs.declared.elements.Tagged.{Tagged}
use Rattle.ot_isa.specs.declared.instruction.Instr.{Instr}
use Rattle.ot_model.specs.declared.shown.Refusal.{Refusal}
use Rattle.ot_model.specs.declared.shown.Refusal.TheVariants.{NoSuchClient, StepsFull, NotJoined, AlreadyJoined, BadBase, ClientFull, LinkEmpty, WrongHead, Memory}
use Rattle.ot_model.specs.Operation.{Operation, apply}
use Rattle.ot_model.specs.Runs.{done, place_at, IsStateAt}
use Rattle.ot_model.specs.Table.{Entry, Place, State, step}
use Rattle.ot_model.proofs.Runs.{reaches}
use Rattle.ot_model.proofs.States.{drop_entry}
use Rattle.ot_machine.specs.Answers.{IsRefusal}
use Rattle.ot_machine.specs.Ended.{IsStopAt}
use Rattle.ot_machine.proofs.Stopping.{stopped_at}
use Rattle.ot_steps.specs.Lines.{plain_operation}
use Rattle.ot_rules.specs.Calling.{entry_operation}
use Rattle.ot_rules.specs.Explained.{state_in}
use Rattle.ot_rules.specs.Texts.{replayed}

-- ---- the run

pub is_there : (s : Program) (p place : ℕ) (state : State) → place ≤ p → p ≤ place → IsStateAt s p state → Some state ≡ option_map state_in (place_at s place)
is_there s p place state le ge is =
    let same : p ≡ place = omega arith in
    sym (ap (λ (n : ℕ). option_map state_in (place_at s n)) (sym same) ∙ ap (option_map state_in) is.at)

done_is : (s : Program) (state : State) (p : ℕ) (r : Refusal) → r ≢ Memory → IsStopAt s state p r → p ≡ done s
done_is s state p NoSuchClient other stop = stop.0
done_is s state p StepsFull other stop = stop.0
done_is s state p NotJoined other stop = stop.0
done_is s state p AlreadyJoined other stop = stop.0
done_is s state p BadBase other stop = stop.0
done_is s state p ClientFull other stop = stop.0
done_is s state p LinkEmpty other stop = stop.0
done_is s state p WrongHead other stop = stop.0
done_is s state p Memory other stop = absurd (other refl)

-- behind a refusal there is no place
pub is_nowhere : (s : Program) (p place : ℕ) (i : Instr) (r : Refusal) (state : State) → IsStateAt s p state → slice_get s.instrs p ≡ Some i → IsRefusal (step state i) r → r ≢ Memory → p < place → place ≤ length s.instrs
    → None ≡ option_map state_in (place_at s place)
is_nowhere s p place i r state is at refused other before within = go (place_at s place) refl
  where
    ended : p ≡ done s
    ended = done_is s state p r other (stopped_at s p (record { state = state; shown = is.shown }) i r is.at at refused)

    go : (o : Option Place) → place_at s place ≡ o → None ≡ option_map state_in o
    go None e = refl
    go (Some q) e = let reached : place ≤ done s = (reaches s place within).1 (rw e refl) in let stop = ended in absurd (omega arith)

-- ---- the log

entries_here : (log : List Entry) (i r : ℕ) (h : Entry) → i < r → slice_get log i ≡ Some h → drop i (take r log) ≡ h ∷ drop (i + 1) (take r log)
entries_here log i r h before at =
    let k : ℕ = r - suc i in
    let long : r ≡ i + suc k = omega arith in
    let later : r ≡ suc i + k = omega arith in
    let next : suc i ≡ i + 1 = omega arith in
    ap (λ (n : ℕ). drop i (take n log)) long
    ∙ drop-take i (suc k) log
    ∙ ap (take (suc k)) (drop_entry log i h at)
    ∙ ap (λ (rest : List Entry). h ∷ rest) (sym (drop-take (suc i) k log))
    ∙ ap (λ (n : ℕ). h ∷ drop (suc i) (take n log)) (sym later)
    ∙ ap (λ (n : ℕ). h ∷ drop n (take r log)) next

replayed_step : (list : List Tagged) (h : Entry) (rest : List Entry) (b : Bool) → (h.op.base == length list) ≡ b → replayed list (h ∷ rest) ≡ (if b then replayed (apply h.op list) rest else None)
replayed_step list h rest b e = ap (λ (t : Bool). if t then replayed (apply h.op list) rest else None) e

module _ (log : List Entry) (list : List Tagged) (h : Entry) (i r : ℕ) (all : Option (List Tagged)) (before : i < r) (at : slice_get log i ≡ Some h)
    (so_far : replayed list (drop i (take r log)) ≡ all) where
  left : replayed list (h ∷ drop (i + 1) (take r log)) ≡ all
  left = ap (replayed list) (sym (entries_here log i r h before at)) ∙ so_far

  pub replay_ends : (op : Operation Tagged) (fits : Bool) → op ≡ h.op → (IsTrue fits ↔ (op.base ≡ length list)) → fits ≡ false → None ≡ all
  replay_ends op fits op_is exact off =
      let other : h.op.base ≡ length list → ⊥ = iff_false (subst (λ (o : Operation Tagged). IsTrue fits ↔ (o.base ≡ length list)) op_is exact) off in
      sym (replayed_step list h (drop (i + 1) (take r log)) false (ne_eqb h.op.base (length list) other)) ∙ left

  pub replay_more : (op other : Operation Tagged) (fits : Bool) (next : List Tagged) → op ≡ h.op → other ≡ h.op → (IsTrue fits ↔ (op.base ≡ length list)) → fits ≡ true → next ≡ apply other list
      → replayed next (drop (i + 1) (take r log)) ≡ all
  replay_more op other fits next op_is other_is exact on is =
      let base : h.op.base ≡ length list = subst (λ (o : Operation Tagged). o.base ≡ length list) op_is (exact.0 on) in
      ap (λ (d : List Tagged). replayed d (drop (i + 1) (take r log))) (is ∙ ap (λ (o : Operation Tagged). apply o list) other_is)
      ∙ sym (replayed_step list h (drop (i + 1) (take r log)) true (eq-eqb h.op.base (length list) base)) ∙ left

-- the operations of the entries from a revision on
pub gathered : (items next : List (Operation ℕ)) (log : List Entry) (i : ℕ) (all : List (Operation ℕ)) (h : Entry) (op : Operation ℕ) (tagged : Operation Tagged) → slice_get log i ≡ Some h
    → tagged ≡ h.op → op ≡ plain_operation tagged → items ++ map entry_operation (drop i log) ≡ all → next ≡ items ++ op ∷ [] → next ++ map entry_operation (drop (i + 1) log) ≡ all
gathered items next log i all h op tagged at op_is plain so_far is =
    let later : suc i ≡ i + 1 = omega arith in
    let here : drop i log ≡ h ∷ drop (i + 1) log = drop_entry log i h at ∙ ap (λ (n : ℕ). h ∷ drop n log) later in
    ap (λ (ops : List (Operation ℕ)). ops ++ map entry_operation (drop (i + 1) log)) (is ∙ ap (λ (o : Operation ℕ). items ++ o ∷ []) (plain ∙ ap plain_operation op_is))
    ∙ append_assoc items (entry_operation h ∷ []) (map entry_operation (drop (i + 1) log))
    ∙ ap (λ (rest : List Entry). items ++ map entry_operation rest) (sym here)
    ∙ so_far

pub gathered_all : (items : List (Operation ℕ)) (log : List Entry) (i : ℕ) (all : List (Operation ℕ)) → length log ≤ i → items ++ map entry_operation (drop i log) ≡ all → items ≡ all
gathered_all items log i all past so_far =
    sym (append-nil items) ∙ ap (λ (rest : List Entry). items ++ map entry_operation rest) (sym (drop_all i log past)) ∙ so_far

-- the last entry is behind
replay_all : (log : List Entry) (list : List Tagged) (i r : ℕ) (all : Option (List Tagged)) → length (take r log) ≤ i → replayed list (drop i (take r log)) ≡ all → Some list ≡ all
replay_all log list i r all past so_far = ap (replayed list) (sym (drop_all i (take r log) past)) ∙ so_far

pub replay_whole : (log : List Entry) (list : List Tagged) (i r : ℕ) (all : Option (List Tagged)) → r ≤ i → replayed list (drop i (take r log)) ≡ all → Some list ≡ all
replay_whole log list i r all past = replay_all log list i r all (let l = length-take r log in let few = min-le_left r (length log) in omega arith)

pub replay_past : (log : List Entry) (list : List Tagged) (i r : ℕ) (all : Option (List Tagged)) → i < r → slice_get log i ≡ None → replayed list (drop i (take r log)) ≡ all → Some list ≡ all
replay_past log list i r all within none =
    let past : length log ≤ i = elim (slice_get_cases log i).1 [ inl found ↦ absurd (let here = found.2 in cc) | inr past ↦ past.0 ] in
    let l = length-take r log in
    let few = min-le_right r (length log) in
    replay_all log list i r all (omega arith)
