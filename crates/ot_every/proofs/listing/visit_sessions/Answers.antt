use Rattle.std.proofs.Common.{◌≡◌, List, ap, arith, refl, suc, ℕ}
use Rattle.ot_isa.specs.declared.instruction.Instr.{Instr}
use Rattle.std.specs.List.{flat_map, range_with_len}
use Rattle.ot_every.specs.Listing.{most, sessions_of}
use Rattle.ot_every.proofs.Stepping.{always_err, range_next, range_part}
use Rattle.ot_every.proofs.Visiting.{part_none, visits_same}
use Rattle.ot_every.proofs.listing.visit_sessions.Goals as goal

pub returns-in_err-walk-clause-err : goal.returns-in_err-walk-clause-err
returns-in_err-walk-clause-err g c = always_err c.from_residual.result (part_none g.V.Visitor.visits g.V.Visitor.stops c.args.visitor.now c.args.output.now _)

pub returns-in_err-visit_edits-clause-err : goal.returns-in_err-visit_edits-clause-err
returns-in_err-visit_edits-clause-err g c =
    let f : ℕ → List (List Instr) = λ edits. flat_map (sessions_of c.args.space.now edits) (range_with_len 0 (suc (most c.args.space.now edits))) in
    always_err c.from_residual-in_err-visit_edits.result
    (range_part g.V.Visitor.visits g.V.Visitor.stops f c.loop-edits.edits (suc (c.args.space.now).edits)
    c.args.visitor.now c.loop-edits.visitor c.visit_edits.new.visitor c.args.output.now c.loop-edits.output c.visit_edits.new.output (f c.loop-edits.edits)
    (omega (arith, c.loop-edits-test.true, c.edits-edits-end.ensures.value)) refl c.loop-edits.invariant.visited c.in_err-visit_edits.ensures.err)

pub loop-edits-preserved : goal.loop-edits-preserved
loop-edits-preserved g c =
    let f : ℕ → List (List Instr) = λ edits. flat_map (sessions_of c.args.space.now edits) (range_with_len 0 (suc (most c.args.space.now edits))) in
    record {
      begun = c.in_ok-visit_edits.ensures.same;
      visited = range_next g.V.Visitor.visits g.V.Visitor.stops f c.loop-edits.edits
          c.args.visitor.now c.loop-edits.visitor c.visit_edits.new.visitor c.args.output.now c.loop-edits.output c.visit_edits.new.output (f c.loop-edits.edits)
          refl c.loop-edits.invariant.visited c.in_ok-visit_edits.ensures.ok;
    }

pub returns-clause-ok : goal.returns-clause-ok
returns-clause-ok g c =
    let f : ℕ → List (List Instr) = λ edits. flat_map (sessions_of c.args.space.now edits) (range_with_len 0 (suc (most c.args.space.now edits))) in
    let all : c.loop-edits.edits ≡ suc (c.args.space.now).edits = omega (arith, c.loop-edits-test.false, c.loop-edits.auto.edits-end, c.edits-edits-end.ensures.value) in
    visits_same g.V.Visitor.visits g.V.Visitor.stops c.args.visitor.now c.loop-edits.visitor c.args.output.now c.loop-edits.output
    (flat_map f (range_with_len 0 c.loop-edits.edits)) (flat_map f (range_with_len 0 (suc (c.args.space.now).edits)))
    (ap (λ n. flat_map f (range_with_len 0 n)) all) c.loop-edits.invariant.visited
