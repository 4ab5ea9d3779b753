use Rattle.std.proofs.Common.{◌≡◌, take, ℕ, sym, arith}
use Rattle.ot_text.specs.Places.{left_at}
use Rattle.ot_text.proofs.Reading.{front_part, reading_none, reading_more, reading_all, reading_rest}
use Rattle.ot_text.proofs.place.Place.read.Goals as goal

pub loop-ahead-init : goal.loop-ahead-init
loop-ahead-init g c = record { reading = reading_none _ _ _ _ _ c.requires.inside c.requires.within; later = omega arith }

pub rest-rest-requires-clause-inside : goal.rest-rest-requires-clause-inside
rest-rest-requires-clause-inside g c = c.loop-ahead.invariant.reading.inside

pub rest-rest-requires-clause-some : goal.rest-rest-requires-clause-some
rest-rest-requires-clause-some g c = let h = c.loop-ahead.invariant.reading.within in omega (arith, h)

pub loop-ahead-preserved : goal.loop-ahead-preserved
loop-ahead-preserved g c =
    let left = left_at c.args.list.now c.loop-ahead.self.leaf c.loop-ahead.self.offset in
    let step : ℕ = c.min-step.result in
    let x : take step left ≡ take step c.rest-rest.result.now = front_part left c.rest-rest.result.now step c.rest-rest.ensures.front (omega arith) in
    let later = c.loop-ahead.invariant.later in
    let on = c.advance.ensures.later in record {
      reading =
          rw c.in_ok-extend_from_slice.ensures.items (reading_more _ _ _ _ _ _ _ _ _ _ _ c.loop-ahead.invariant.reading (omega arith) c.advance.ensures.inside c.advance.ensures.left (sym x));
      later = omega (arith, later, on);
    }

pub returns-clause-read : goal.returns-clause-read
returns-clause-read g c = reading_all _ _ _ _ _ _ _ c.loop-ahead.invariant.reading (omega arith)

pub returns-clause-inside : goal.returns-clause-inside
returns-clause-inside g c = c.loop-ahead.invariant.reading.inside

pub returns-clause-left : goal.returns-clause-left
returns-clause-left g c = reading_rest _ _ _ _ _ _ _ c.loop-ahead.invariant.reading (omega arith)

pub returns-clause-later : goal.returns-clause-later
returns-clause-later g c = c.loop-ahead.invariant.later
