use Rattle.std.proofs.Common.{not}
use Rattle.std.proofs.lemmas.Bool.{not-true, or_parts, OnTrue_from}
use Rattle.ot_values.proofs.Ascii.{free_all, free_more, free_none}
use Rattle.ot_values.proofs.letters.are_free.Goals as goal

pub loop-place-init : goal.loop-place-init
loop-place-init c = λ _. free_none c.args.bytes.now

pub loop-place-preserved : goal.loop-place-preserved
loop-place-preserved c = λ all.
    let both = or_parts c.loop-place.escaped c.is_escaped-escaped.result all in
    let is = c.is_escaped-escaped.ensures in
    free_more c.args.bytes.now c.loop-place.place c.loop-place-test.true (is.printable both.1) (is.unquoted both.1) (is.unescaped both.1) (c.loop-place.invariant both.0)

pub returns : goal.returns
returns c = OnTrue_from (not c.loop-place.escaped) _ (λ free. free_all c.args.bytes.now c.loop-place.place (c.loop-place.invariant (not-true c.loop-place.escaped free)) c.loop-place-test.false)
