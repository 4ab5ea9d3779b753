use Rattle.std.proofs.Common.{◌≡◌, ◌∙◌, ◌∷◌, ◌-◌, ◌≤◌, rules, List, Some, ap, arith, drop, length, map, refl, subst, sym, take}
use Rattle.std.specs.Prelude.{slice_get, flat_map, vec_items}
use Rattle.std.proofs.lemmas.List.{length-map, take_all}
use Rattle.std.proofs.lemmas.Option.{slice_get_read}
use Rattle.ot_isa.specs.declared.instruction.Instr.{Instr}
use Rattle.ot_generate.proofs.Owing.{paid}
use Rattle.ot_model.specs.Table.{State}
use Rattle.ot_every.specs.Listing.{Earlier, sessions_from}
use Rattle.ot_every.specs.Walking.{AreMarks, AreShort, Goes, GoesOrStays, behind_all, sessions_by}
use Rattle.ot_every.specs.declared.marks.Mark.{Mark}
use Rattle.ot_every.proofs.Stepping.{always_err, ends_never, ends_short, goes_next, gone_back, gone_marks, gone_sessions, part_here, part_inside, part_whole, visits_none, whole_sessions}
use Rattle.ot_every.proofs.Visiting.{part_none, part_same, visits_same}
use Rattle.ot_every.proofs.listing.+visit_from.Goals as goal

pub returns-then-made-texts-clause-ok : goal.returns-then-made-texts-clause-ok
returns-then-made-texts-clause-ok g t c path are =
    let many = length-map c.args.texts.now vec_items in
    let a0 = c.args.walk.now in
    visits_none g.V.Visitor.visits g.V.Visitor.stops c.args.visitor.now c.args.output.now a0.instrs.items
    (sessions_from c.args.inserts c.args.room (drop c.args.made (map vec_items c.args.texts.now)) path a0.machine)
    (ends_short c.args.inserts c.args.room c.args.made (map vec_items c.args.texts.now) path a0.machine c.if-room-eq0.true (omega (arith, c.if-made-texts.true, many)))

pub returns-then-not-may_end-clause-ok : goal.returns-then-not-may_end-clause-ok
returns-then-not-may_end-clause-ok g t c path are =
    let a0 = c.args.walk.now in
    visits_none g.V.Visitor.visits g.V.Visitor.stops c.args.visitor.now c.args.output.now a0.instrs.items
    (sessions_from c.args.inserts c.args.room (drop c.args.made (map vec_items c.args.texts.now)) path a0.machine)
    (ends_never c.args.inserts c.args.room c.args.made c.edits_left.result c.args.texts.now path a0.machine c.may_end.ensures.sound c.edits_left.ensures (c.may_end.ensures.ends c.if-not-may_end.true))

pub returns-in_err-all-clause-err : goal.returns-in_err-all-clause-err
returns-in_err-all-clause-err g t c path are = always_err c.from_residual.result (part_none g.V.Visitor.visits g.V.Visitor.stops c.args.visitor.now c.args.output.now _)

pub returns-in_err-undo-clause-err : goal.returns-in_err-undo-clause-err
returns-in_err-undo-clause-err g t c path are =
    let R = g.V.Visitor.visits in
    let S = g.V.Visitor.stops in
    let a0 = c.args.walk.now in
    let texts = drop c.args.made (map vec_items c.args.texts.now) in
    let f = sessions_by c.args.inserts (c.args.room - 1) texts path a0.machine in
    let before = a0.instrs.items in
    let marked : AreMarks path (length c.as_slice-2.result.now) c.as_slice-2.result.now = subst (λ (ms : List Mark). AreMarks path (length ms) ms) (sym c.as_slice-2.ensures.value) are in
    let tried = ap (flat_map (sessions_by c.args.inserts (c.args.room - 1) texts path a0.machine)) c.as_slice-next.ensures.value ∙ c.in_ok-all.ensures (c.args.room - 1) path marked in
    let items = c.as_slice-next.result.now in
    let whole = whole_sessions before c.args.inserts c.args.room (c.args.room - 1) texts path a0.machine items tried (omega (arith, c.if-room-eq0.false)) in
    let at : slice_get items c.loop-place.place ≡ Some c.index-next-place.result =
    slice_get_read items (length items) c.loop-place.place c.index-next-place.result refl (omega (arith, c.loop-place-test.true)) c.index-next-place.is in
    always_err c.from_residual-in_err-undo.result
    (part_same R S c.args.visitor.now c.loop-place.visitor c.args.output.now c.loop-place.output (behind_all before (flat_map f items))
    (behind_all before (sessions_from c.args.inserts c.args.room texts path a0.machine)) whole
    (part_here R S before f c.loop-place.place items c.index-next-place.result c.args.visitor.now c.loop-place.visitor c.args.output.now c.loop-place.output at (c.loop-place.invariant.visited path are)))

pub returns-in_err-visit_from-clause-err : goal.returns-in_err-visit_from-clause-err
returns-in_err-visit_from-clause-err g t c path are =
    let R = g.V.Visitor.visits in
    let S = g.V.Visitor.stops in
    let a0 = c.args.walk.now in
    let texts = drop c.args.made (map vec_items c.args.texts.now) in
    let f = sessions_by c.args.inserts (c.args.room - 1) texts path a0.machine in
    let before = a0.instrs.items in
    let marked : AreMarks path (length c.as_slice-2.result.now) c.as_slice-2.result.now = subst (λ (ms : List Mark). AreMarks path (length ms) ms) (sym c.as_slice-2.ensures.value) are in
    let tried = ap (flat_map (sessions_by c.args.inserts (c.args.room - 1) texts path a0.machine)) c.as_slice-next.ensures.value ∙ c.in_ok-all.ensures (c.args.room - 1) path marked in
    let items = c.as_slice-next.result.now in
    let whole = whole_sessions before c.args.inserts c.args.room (c.args.room - 1) texts path a0.machine items tried (omega (arith, c.if-room-eq0.false)) in
    let at : slice_get items c.loop-place.place ≡ Some c.index-next-place.result =
    slice_get_read items (length items) c.loop-place.place c.index-next-place.result refl (omega (arith, c.loop-place-test.true)) c.index-next-place.is in
    let goes : Goes c.loop-place.walk c.index-next-place.result c.go.new.self c.in-Some.undo =
    subst (GoesOrStays c.loop-place.walk c.index-next-place.result c.go.new.self) c.in-Some.is c.in_ok-undo.ensures in
    let p : Earlier = record { before = a0.machine; instr = c.index-next-place.result } in
    let xs = behind_all c.go.new.self.instrs.items (sessions_from c.args.inserts (c.args.room - 1) (drop c.made_after-made_then.result (map vec_items c.args.texts.now)) (p ∷ path) c.go.new.self.machine) in
    let same : xs ≡ behind_all before (f c.index-next-place.result) =
    gone_sessions a0 c.loop-place.walk c.go.new.self c.index-next-place.result c.in-Some.undo c.args.inserts (c.args.room - 1) c.args.made c.made_after-made_then.result (map vec_items c.args.texts.now) path
    c.loop-place.invariant.same goes c.made_after-made_then.ensures.texts in
    let marks = gone_marks a0 c.loop-place.walk c.go.new.self c.index-next-place.result c.in-Some.undo path c.loop-place.invariant.same goes are in
    always_err c.from_residual-in_err-visit_from.result
    (part_same R S c.args.visitor.now c.visit_from.new.visitor c.args.output.now c.visit_from.new.output (behind_all before (flat_map f items))
    (behind_all before (sessions_from c.args.inserts c.args.room texts path a0.machine)) whole
    (part_inside R S before f c.loop-place.place items c.index-next-place.result xs c.args.visitor.now c.loop-place.visitor c.visit_from.new.visitor c.args.output.now c.loop-place.output c.visit_from.new.output
    at same (c.loop-place.invariant.visited path are) (c.in_err-visit_from.ensures.err (p ∷ path) marks)))

pub returns-in_err-back-clause-err : goal.returns-in_err-back-clause-err
returns-in_err-back-clause-err g t c path are =
    let R = g.V.Visitor.visits in
    let S = g.V.Visitor.stops in
    let a0 = c.args.walk.now in
    let texts = drop c.args.made (map vec_items c.args.texts.now) in
    let f = sessions_by c.args.inserts (c.args.room - 1) texts path a0.machine in
    let before = a0.instrs.items in
    let marked : AreMarks path (length c.as_slice-2.result.now) c.as_slice-2.result.now = subst (λ (ms : List Mark). AreMarks path (length ms) ms) (sym c.as_slice-2.ensures.value) are in
    let tried = ap (flat_map (sessions_by c.args.inserts (c.args.room - 1) texts path a0.machine)) c.as_slice-next.ensures.value ∙ c.in_ok-all.ensures (c.args.room - 1) path marked in
    let items = c.as_slice-next.result.now in
    let whole = whole_sessions before c.args.inserts c.args.room (c.args.room - 1) texts path a0.machine items tried (omega (arith, c.if-room-eq0.false)) in
    let at : slice_get items c.loop-place.place ≡ Some c.index-next-place.result =
    slice_get_read items (length items) c.loop-place.place c.index-next-place.result refl (omega (arith, c.loop-place-test.true)) c.index-next-place.is in
    let goes : Goes c.loop-place.walk c.index-next-place.result c.go.new.self c.in-Some.undo =
    subst (GoesOrStays c.loop-place.walk c.index-next-place.result c.go.new.self) c.in-Some.is c.in_ok-undo.ensures in
    let p : Earlier = record { before = a0.machine; instr = c.index-next-place.result } in
    let xs = behind_all c.go.new.self.instrs.items (sessions_from c.args.inserts (c.args.room - 1) (drop c.made_after-made_then.result (map vec_items c.args.texts.now)) (p ∷ path) c.go.new.self.machine) in
    let same : xs ≡ behind_all before (f c.index-next-place.result) =
    gone_sessions a0 c.loop-place.walk c.go.new.self c.index-next-place.result c.in-Some.undo c.args.inserts (c.args.room - 1) c.args.made c.made_after-made_then.result (map vec_items c.args.texts.now) path
    c.loop-place.invariant.same goes c.made_after-made_then.ensures.texts in
    let marks = gone_marks a0 c.loop-place.walk c.go.new.self c.index-next-place.result c.in-Some.undo path c.loop-place.invariant.same goes are in
    always_err c.from_residual-in_err-back.result
    (part_same R S c.args.visitor.now c.visit_from.new.visitor c.args.output.now c.visit_from.new.output (behind_all before (flat_map f items))
    (behind_all before (sessions_from c.args.inserts c.args.room texts path a0.machine)) whole
    (part_inside R S before f c.loop-place.place items c.index-next-place.result xs c.args.visitor.now c.loop-place.visitor c.visit_from.new.visitor c.args.output.now c.loop-place.output c.visit_from.new.output
    at same (c.loop-place.invariant.visited path are)
    (part_whole R S c.loop-place.visitor c.visit_from.new.visitor c.loop-place.output c.visit_from.new.output xs (c.in_ok-visit_from.ensures.ok (p ∷ path) marks))))

pub loop-place-preserved : goal.loop-place-preserved
loop-place-preserved g t c =
    let goes : Goes c.loop-place.walk c.index-next-place.result c.go.new.self c.in-Some.undo =
    subst (GoesOrStays c.loop-place.walk c.index-next-place.result c.go.new.self) c.in-Some.is c.in_ok-undo.ensures in
    record {
      same = gone_back c.args.walk.now c.loop-place.walk c.go.new.self c.visit_from.new.walk c.back.new.self c.index-next-place.result c.in-Some.undo
          c.loop-place.invariant.same goes c.in_ok-visit_from.ensures.same c.in_ok-back.ensures.machine c.in_ok-back.ensures.instrs c.in_ok-back.ensures.marks;
      visited = λ path are.
          let R = g.V.Visitor.visits in
          let S = g.V.Visitor.stops in
          let a0 = c.args.walk.now in
          let texts = drop c.args.made (map vec_items c.args.texts.now) in
          let f = sessions_by c.args.inserts (c.args.room - 1) texts path a0.machine in
          let before = a0.instrs.items in
          let items = c.as_slice-next.result.now in
          let at : slice_get items c.loop-place.place ≡ Some c.index-next-place.result =
          slice_get_read items (length items) c.loop-place.place c.index-next-place.result refl (omega (arith, c.loop-place-test.true)) c.index-next-place.is in
          let p : Earlier = record { before = a0.machine; instr = c.index-next-place.result } in
          let xs = behind_all c.go.new.self.instrs.items (sessions_from c.args.inserts (c.args.room - 1) (drop c.made_after-made_then.result (map vec_items c.args.texts.now)) (p ∷ path) c.go.new.self.machine) in
          let same : xs ≡ behind_all before (f c.index-next-place.result) =
          gone_sessions a0 c.loop-place.walk c.go.new.self c.index-next-place.result c.in-Some.undo c.args.inserts (c.args.room - 1) c.args.made c.made_after-made_then.result (map vec_items c.args.texts.now) path
          c.loop-place.invariant.same goes c.made_after-made_then.ensures.texts in
          let marks = gone_marks a0 c.loop-place.walk c.go.new.self c.index-next-place.result c.in-Some.undo path c.loop-place.invariant.same goes are in
          goes_next R S before f c.index-next-place.result c.loop-place.place items xs c.args.visitor.now c.loop-place.visitor c.visit_from.new.visitor c.args.output.now c.loop-place.output c.visit_from.new.output
          at same (c.loop-place.invariant.visited path are) (c.in_ok-visit_from.ensures.ok (p ∷ path) marks);
    }

pub returns-clause-ok : goal.returns-clause-ok
returns-clause-ok g t c path are =
    let R = g.V.Visitor.visits in
    let S = g.V.Visitor.stops in
    let a0 = c.args.walk.now in
    let texts = drop c.args.made (map vec_items c.args.texts.now) in
    let f = sessions_by c.args.inserts (c.args.room - 1) texts path a0.machine in
    let before = a0.instrs.items in
    let marked : AreMarks path (length c.as_slice-2.result.now) c.as_slice-2.result.now = subst (λ (ms : List Mark). AreMarks path (length ms) ms) (sym c.as_slice-2.ensures.value) are in
    let tried = ap (flat_map (sessions_by c.args.inserts (c.args.room - 1) texts path a0.machine)) c.as_slice-next.ensures.value ∙ c.in_ok-all.ensures (c.args.room - 1) path marked in
    let items = c.as_slice-next.result.now in
    let whole = whole_sessions before c.args.inserts c.args.room (c.args.room - 1) texts path a0.machine items tried (omega (arith, c.if-room-eq0.false)) in
    visits_same R S c.args.visitor.now c.loop-place.visitor c.args.output.now c.loop-place.output (behind_all before (flat_map f (take c.loop-place.place items)))
    (behind_all before (sessions_from c.args.inserts c.args.room texts path a0.machine))
    (ap (λ (is : List Instr). behind_all before (flat_map f is)) (take_all c.loop-place.place items (omega (arith, c.loop-place-test.false))) ∙ whole)
    (c.loop-place.invariant.visited path are)

pub visit_from-requires : goal.visit_from-requires
visit_from-requires g t c =
    let goes : Goes c.loop-place.walk c.index-next-place.result c.go.new.self c.in-Some.undo =
    subst (GoesOrStays c.loop-place.walk c.index-next-place.result c.go.new.self) c.in-Some.is c.in_ok-undo.ensures in
    let many = (paid c.loop-place.walk.machine c.go.new.self.machine c.index-next-place.result goes.shown goes.led).clients in
    let same = ap (λ (s : State). length s.clients) c.loop-place.invariant.same.machine in
    let few : length c.go.new.self.machine.clients ≤ 4 = omega (arith, many, same, c.requires.few.0) in
    let inserts : c.args.inserts ≤ 8 = c.requires.few.1 in
    let short : AreShort (map vec_items c.args.texts.now) = c.requires.short in
    search rules
