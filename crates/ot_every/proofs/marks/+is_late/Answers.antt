use Rattle.std.proofs.Common.{◌≡◌, ◌∙◌, ◌-◌, Some, arith, length, refl, sym}
use Rattle.std.proofs.lemmas.Option.{slice_get_read}
use Rattle.std.specs.Prelude.{slice_get}
use Rattle.ot_every.proofs.Late.{late_before, late_later, late_none, late_stops}
use Rattle.ot_every.proofs.marks.+is_late.Goals as goal

pub returns-then-count-eq0 : goal.returns-then-count-eq0
returns-then-count-eq0 t c path are = late_none path c.args.count c.args.client c.args.joins c.args.receives c.args.marks.now are c.if-count-eq0.true

pub returns-then-stops : goal.returns-then-stops
returns-then-stops t c path are =
    let at : slice_get c.args.marks.now (c.args.count - 1) ≡ Some c.index-marks-count.result =
    slice_get_read c.args.marks.now (length c.args.marks.now) (c.args.count - 1) c.index-marks-count.result refl (omega (arith, c.requires, c.if-count-eq0.false)) c.index-marks-count.is in
    late_stops path c.args.count (c.args.count - 1) c.args.client c.args.joins c.args.receives c.args.marks.now c.index-marks-count.result are (omega (arith, c.if-count-eq0.false)) at
    (λ p is. sym c.if-stops.true ∙ c.stops.ensures p is)

pub returns-then-is_later : goal.returns-then-is_later
returns-then-is_later t c path are =
    let at : slice_get c.args.marks.now (c.args.count - 1) ≡ Some c.index-marks-count.result =
    slice_get_read c.args.marks.now (length c.args.marks.now) (c.args.count - 1) c.index-marks-count.result refl (omega (arith, c.requires, c.if-count-eq0.false)) c.index-marks-count.is in
    late_later path c.args.count (c.args.count - 1) c.args.client c.args.joins c.args.receives c.args.marks.now c.index-marks-count.result are (omega (arith, c.if-count-eq0.false)) at
    (λ p is. sym c.if-stops.false ∙ c.stops.ensures p is) (λ p is. sym c.if-is_later.true ∙ c.is_later.ensures p is)

pub returns : goal.returns
returns t c path are =
    let at : slice_get c.args.marks.now (c.args.count - 1) ≡ Some c.index-marks-count.result =
    slice_get_read c.args.marks.now (length c.args.marks.now) (c.args.count - 1) c.index-marks-count.result refl (omega (arith, c.requires, c.if-count-eq0.false)) c.index-marks-count.is in
    late_before path c.args.count (c.args.count - 1) c.args.client c.args.joins c.args.receives c.args.marks.now c.index-marks-count.result c.is_late.result are (omega (arith, c.if-count-eq0.false)) at
    (λ p is. sym c.if-stops.false ∙ c.stops.ensures p is) (λ p is. sym c.if-is_later.false ∙ c.is_later.ensures p is) c.is_late.ensures
