-- A record that is printed.
use Rattle.std.proofs.Common.{◌≡◌, ℕ, ◌≤◌, List, length, ap, sym, ◌∙◌, arith, refl}
use Rattle.std.specs.Prelude.{Option, Some, IsSome}
use Rattle.std.proofs.lemmas.List.{take_all}
use Rattle.ot_isa.specs.Program.{Program}
use Rattle.ot_model.specs.Table.{State, Place, begin, run}
use Rattle.ot_model.specs.Runs.{done, opening_of, place_at}
use Rattle.ot_model.specs.Session.{RunsTo}
use Rattle.ot_model.proofs.Runs.{performed-length, reaches}
use Rattle.ot_plan.specs.Plan.{PlanView}
use Rattle.ot_threads.specs.Follows.{Follows}
use Rattle.ot_threads.specs.Record.{IsPrinted, IsRecord}

pub recorded : (p : PlanView) (s : Program) (t : State) (text : List ℕ) → Follows p s → RunsTo (opening_of s) s.instrs t → IsPrinted s t text → IsRecord p s text
recorded p s t text follows runs printed =
    let whole : place_at s (length s.instrs) ≡ Some (record { state = t; shown = runs.0 }) =
    ap (λ is. run is (begin s.clients s.present s.start)) (take_all (length s.instrs) s.instrs (omega arith)) ∙ runs.1 in
    let reached : length s.instrs ≤ done s = (reaches s (length s.instrs) (omega arith)).1 (some (place_at s (length s.instrs)) _ whole) in
    let short : done s ≤ length s.instrs = performed-length s.instrs (opening_of s) in
    let all : done s ≡ length s.instrs = omega (arith, reached, short) in
    record {
      follows = follows;
      end = record { state = t; shown = runs.0 };
      is_end = ap (place_at s) all ∙ whole;
      printed = printed;
    }
  where
    some : (o : Option Place) (q : Place) → o ≡ Some q → IsSome o
    some o q e = rw e refl
