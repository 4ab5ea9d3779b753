use Rattle.std.proofs.Common.{◌+◌, arith}
use Rattle.std.proofs.lemmas.Result.{err_from_is_err_and}
use Rattle.ot_image.specs.Views.{seen}
use Rattle.ot_image.proofs.Steps.{retain_fits, insert_fits}
use Rattle.ot_image.specs.Reading.{filled_at}
use Rattle.ot_image.proofs.Loop.{reaches_before}
use Rattle.ot_image.proofs.Onward.{filled_onward}
use Rattle.ot_image.proofs.edits.filled.Goals as goal

pub grown-requires : goal.grown-requires
grown-requires c = λ k. retain_fits c.args.op.now c.args.code c.args.count c.if-code-eq16.true c.requires.base c.requires.target (c.retain.ensures.too_long.0 k)

pub grown-requires-2 : goal.grown-requires-2
grown-requires-2 c = λ k.
    let long = rw c.as_slice.ensures.value at c.insert.ensures.too_long.0 k in
    insert_fits c.args.op.now c.args.code c.args.count (seen c.args.spot) (seen c.in_ok-text.after) c.in_ok-text.text.items (λ e. c.if-code-eq18.false e) (omega arith) c.requires.target c.in_ok-text.ensures.read long

pub returns-in_err-grown-3 : goal.returns-in_err-grown-3
returns-in_err-grown-3 c =
    let p = err_from_is_err_and c.from_residual-in_err-grown-3.result c.from_residual-in_err-grown-3.ensures.1 in
    rw (p.1, p.2, c.in_err-grown-3.ensures.err) (reaches_before (c.args.at + 1) c.args.spot.at (filled_at c.args.code c.args.count c.args.op.now (seen c.args.spot)) (omega (arith, c.requires.place)) (filled_onward c.args.code c.args.count c.args.op.now (seen c.args.spot)))
