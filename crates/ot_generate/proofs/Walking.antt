-- A session keeps its type invariant.
use Rattle.std.proofs.Common.{◌≡◌, ℕ, suc, ◌≤◌, List, [], ◌∷◌, ◌++◌, length, replicate, ◌-◌, refl, sym, ap, ◌∙◌, subst, arith, Bool}
use Rattle.std.proofs.lemmas.List.{length_push, length-append, length-replicate}
use Rattle.ot_isa.specs.declared.instruction.Instr.{Instr}
use Rattle.ot_isa.specs.Program.{Program}
use Rattle.ot_model.specs.Sound.{IsSound}
use Rattle.ot_model.specs.Table.{State, present_with, absent, start_list, with_shown, opening}
use Rattle.ot_model.specs.Runs.{opening_of}
use Rattle.ot_model.specs.Session.{RunsTo}
use Rattle.ot_model.proofs.Runs.{run_performed}
use Rattle.ot_model.proofs.Sessions.{runs_on}
use Rattle.ot_generate.specs.Left.{owed}
use Rattle.ot_generate.specs.Walks.{WalkView, IsAlong, IsMade, IsWalk, MayMake, begun}
use Rattle.ot_generate.proofs.Owing.{owes, owes_nothing, paid}

pub begins : (clients present room : ℕ) (start : List ℕ) (is_open : Bool) → present ≤ clients → room ≤ 100000 → IsSound (opening clients present start) → IsWalk (begun clients present start room is_open)
begins clients present room start is_open few most sound =
    let none = owes_nothing is_open clients present start in
    let document = start_list start in
    record {
      replays = ([], refl);
      counted = refl;
      clients = length-append (replicate present (present_with document)) (replicate (clients - present) absent) ∙ omega (arith, length-replicate present (present_with document), length-replicate (clients - present) absent);
      fits = omega arith;
      most = most;
      sound = sound;
    }

pub longer : (a b : WalkView) (i : Instr) → IsMade a i b → length b.recorded.instrs ≡ suc (length a.recorded.instrs)
longer a b i made =
    let more = length_push a.recorded.instrs i in
    let same = ap (λ (p : Program). length p.instrs) made.recorded in
    omega arith

pub along : (a b : WalkView) (i : Instr) → IsMade a i b → IsAlong a b
along a b i made =
    record {
      clients = ap (λ (p : Program). p.clients) made.recorded;
      present = ap (λ (p : Program). p.present) made.recorded;
      start = ap (λ (p : Program). p.start) made.recorded;
      room = made.room;
      is_open = made.is_open;
    }

pub goes_on : (a b : WalkView) (i : Instr) → IsWalk a → MayMake a i → IsMade a i b → IsSound b.state → IsWalk b
goes_on a b i kept may made sound =
    let one : RunsTo a.state (i ∷ []) b.state = (with_shown [] made.shown, run_performed i (record { state = a.state; shown = [] }) b.state made.shown made.row) in
    let all : RunsTo (opening_of a.recorded) (a.recorded.instrs ++ i ∷ []) b.state = runs_on (opening_of a.recorded) a.state b.state a.recorded.instrs (i ∷ []) kept.replays one in
    let most = longer a b i made in
    let fact = paid a.state b.state i made.shown made.row in
    let steps = fact.steps in
    let counted = kept.counted in
    let owing = owes a.is_open a.state b.state i made.shown made.row in
    let same_owed : owed b.is_open b.state ≡ owed a.is_open b.state = ap (λ o. owed o b.state) made.is_open in
    let room = may.room in
    let same_room = made.room in
    let small = kept.most in
    record {
      replays = subst (λ (p : Program). RunsTo (opening_of p) p.instrs b.state) (sym made.recorded) all;
      counted = omega arith;
      clients = fact.clients ∙ kept.clients ∙ sym (ap (λ (p : Program). p.clients) made.recorded);
      fits = omega arith;
      most = omega arith;
      sound = sound;
    }

pub same_walk : (p q : Program) (s t : State) (room : ℕ) (is_open : Bool) → p ≡ q → s ≡ t
    → ◌≡◌ {A = WalkView} (record { recorded = p; state = s; room = room; is_open = is_open }) (record { recorded = q; state = t; room = room; is_open = is_open })
same_walk p q s t room is_open e f = cc
