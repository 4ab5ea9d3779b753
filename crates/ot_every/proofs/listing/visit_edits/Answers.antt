use Rattle.std.proofs.Common.{◌≡◌, ◌∙◌, [], ap, arith, map, suc, subst, sym}
use Rattle.std.specs.Prelude.{vec_items}
use Rattle.std.specs.List.{flat_map, range_with_len}
use Rattle.ot_every.specs.Listing.{most, sessions_from, sessions_of, texts_from}
use Rattle.ot_every.specs.Walking.{AreShort, behind_all}
use Rattle.ot_every.proofs.Short.{texts_short}
use Rattle.ot_every.proofs.Stepping.{always_err, opening_few, begun_marks, begun_same, begun_sessions, range_next, range_part}
use Rattle.ot_every.proofs.Visiting.{part_none, visits_same}
use Rattle.ot_every.proofs.listing.visit_edits.Goals as goal

pub returns-in_err-texts-clause-err : goal.returns-in_err-texts-clause-err
returns-in_err-texts-clause-err g c = always_err c.from_residual.result (part_none g.V.Visitor.visits g.V.Visitor.stops c.args.visitor.now c.args.output.now _)

pub returns-in_err-visit_from-clause-err : goal.returns-in_err-visit_from-clause-err
returns-in_err-visit_from-clause-err g c =
    let texts = ap (map vec_items) c.as_slice.ensures.value ∙ c.in_ok-texts.ensures ∙ ap (λ n. texts_from n 0 c.args.edits) c.letters.ensures.value in
    let here = begun_sessions c.args.space.now c.loop-room.walk c.args.edits c.loop-room.room c.inserts.result (map vec_items c.as_slice.result.now) c.loop-room.invariant.begun texts c.inserts.ensures.value in
    always_err c.from_residual-in_err-visit_from.result
    (range_part g.V.Visitor.visits g.V.Visitor.stops (sessions_of c.args.space.now c.args.edits) c.loop-room.room (suc (most c.args.space.now c.args.edits))
    c.args.visitor.now c.loop-room.visitor c.visit_from.new.visitor c.args.output.now c.loop-room.output c.visit_from.new.output
    (behind_all c.loop-room.walk.instrs.items (sessions_from c.inserts.result c.loop-room.room (map vec_items c.as_slice.result.now) [] c.loop-room.walk.machine))
    (omega (arith, c.loop-room-test.true, c.most-room-end.ensures.value)) here c.loop-room.invariant.visited
    (c.in_err-visit_from.ensures.err [] (begun_marks c.args.space.now c.loop-room.walk c.loop-room.invariant.begun)))

pub loop-room-preserved : goal.loop-room-preserved
loop-room-preserved g c =
    let texts = ap (map vec_items) c.as_slice.ensures.value ∙ c.in_ok-texts.ensures ∙ ap (λ n. texts_from n 0 c.args.edits) c.letters.ensures.value in
    let here = begun_sessions c.args.space.now c.loop-room.walk c.args.edits c.loop-room.room c.inserts.result (map vec_items c.as_slice.result.now) c.loop-room.invariant.begun texts c.inserts.ensures.value in
    record {
      begun = begun_same c.args.space.now c.loop-room.walk c.visit_from.new.walk c.loop-room.invariant.begun c.in_ok-visit_from.ensures.same;
      visited = range_next g.V.Visitor.visits g.V.Visitor.stops (sessions_of c.args.space.now c.args.edits) c.loop-room.room
          c.args.visitor.now c.loop-room.visitor c.visit_from.new.visitor c.args.output.now c.loop-room.output c.visit_from.new.output
          (behind_all c.loop-room.walk.instrs.items (sessions_from c.inserts.result c.loop-room.room (map vec_items c.as_slice.result.now) [] c.loop-room.walk.machine))
          here c.loop-room.invariant.visited (c.in_ok-visit_from.ensures.ok [] (begun_marks c.args.space.now c.loop-room.walk c.loop-room.invariant.begun));
    }

pub returns-clause-ok : goal.returns-clause-ok
returns-clause-ok g c =
    let all : c.loop-room.room ≡ suc (most c.args.space.now c.args.edits) = omega (arith, c.loop-room-test.false, c.loop-room.auto.room-end, c.most-room-end.ensures.value) in
    visits_same g.V.Visitor.visits g.V.Visitor.stops c.args.visitor.now c.loop-room.visitor c.args.output.now c.loop-room.output
    (flat_map (sessions_of c.args.space.now c.args.edits) (range_with_len 0 c.loop-room.room)) (flat_map (sessions_of c.args.space.now c.args.edits) (range_with_len 0 (suc (most c.args.space.now c.args.edits))))
    (ap (λ n. flat_map (sessions_of c.args.space.now c.args.edits) (range_with_len 0 n)) all) c.loop-room.invariant.visited

pub visit_from-requires-clause-few : goal.visit_from-requires-clause-few
visit_from-requires-clause-few g c =
    let space = c.args.space.now in
    (opening_few space.clients space.present space.start c.loop-room.walk.machine c.loop-room.invariant.begun.machine c.most-room-end.ensures.clients.0 c.most-room-end.ensures.clients.1, c.inserts.ensures.few)

pub visit_from-requires-clause-short : goal.visit_from-requires-clause-short
visit_from-requires-clause-short g c =
    let texts = ap (map vec_items) c.as_slice.ensures.value ∙ c.in_ok-texts.ensures in
    subst AreShort (sym texts) (texts_short c.letters.result 0 c.args.edits c.letters.ensures.few)
