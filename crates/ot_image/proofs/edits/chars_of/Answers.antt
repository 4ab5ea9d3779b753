use Rattle.std.proofs.Common.{◌≡◌, ◌++◌, ◌∷◌, [], rules, arith}
use Rattle.std.proofs.lemmas.Result.{err_from_is_err_and}
use Rattle.ot_image.specs.Reading.{Reaches, times, push_scalar}
use Rattle.ot_image.specs.declared.fault.ReadError.TheVariants as errors
use Rattle.ot_image.specs.Views.{seen}
use Rattle.ot_image.proofs.Loop.{goes_on, goes_past, ends, is_done, times_onward}
use Rattle.ot_image.proofs.Onward.{push_scalar_onward}
use Rattle.ot_image.proofs.Fields.{scalar_pushed, scalar_refused, chars_length}
use Rattle.ot_image.proofs.edits.chars_of.Goals as goal

pub returns-in_err-scalar-clause-read : goal.returns-in_err-scalar-clause-read
returns-in_err-scalar-clause-read c =
    let p = err_from_is_err_and c.from_residual.result c.from_residual.ensures.1 in
    rw (p.1, p.2) (ends push_scalar push_scalar_onward (errors.Fault c.in_err-scalar.field-0.0) c.args.count c.loop.counter c.loop.chars.items (seen c.loop.rest) _ c.loop-test.true (scalar_refused c.loop.chars.items (seen c.loop.rest) _ c.in_err-scalar.ensures.read) c.loop.invariant)

pub loop-preserved : goal.loop-preserved
loop-preserved c =
    let n = c.in_ok-scalar.scalar in
    let items : c.push.new.self.items ≡ c.loop.chars.items ++ n ∷ [] = search rules in
    rw items (goes_on push_scalar c.args.count c.loop.counter c.loop.chars.items (seen c.loop.rest) _ (seen c.in_ok-scalar.after) _ c.loop-test.true (scalar_pushed c.loop.chars.items (seen c.loop.rest) n _ c.in_ok-scalar.ensures.read) c.loop.invariant)

pub returns-clause-read : goal.returns-clause-read
returns-clause-read c = is_done push_scalar c.args.count c.loop.counter c.loop.chars.items (seen c.loop.rest) _ c.loop-test.false c.loop.invariant

pub returns-then-is_err-clause-read : goal.returns-then-is_err-clause-read
returns-then-is_err-clause-read c =
    let n = c.in_ok-scalar.scalar in
    goes_past push_scalar push_scalar_onward c.args.count c.loop.counter c.loop.chars.items (seen c.loop.rest) (c.loop.chars.items ++ n ∷ []) (seen c.in_ok-scalar.after) _ c.loop-test.true (scalar_pushed c.loop.chars.items (seen c.loop.rest) n _ c.in_ok-scalar.ensures.read) c.in_ok-scalar.ensures.onward c.loop.invariant

pub returns-clause-len : goal.returns-clause-len
returns-clause-len c = omega (arith, chars_length c.args.count [] (seen c.args.spot) _ _ (is_done push_scalar c.args.count c.loop.counter c.loop.chars.items (seen c.loop.rest) _ c.loop-test.false c.loop.invariant))

pub returns-clause-onward : goal.returns-clause-onward
returns-clause-onward c =
    let read = is_done push_scalar c.args.count c.loop.counter c.loop.chars.items (seen c.loop.rest) _ c.loop-test.false c.loop.invariant in
    let on : Reaches c.args.spot.at (times push_scalar c.args.count [] (seen c.args.spot)) = times_onward push_scalar push_scalar_onward c.args.count [] (seen c.args.spot) in
    rw read at on
