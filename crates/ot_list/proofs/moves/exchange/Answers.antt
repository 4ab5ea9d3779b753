use Rattle.std.proofs.Common.{get_or}
use Rattle.std.proofs.lemmas.List.{get_or_default}
use Rattle.ot_list.specs.declared.span.Span.{Span}
use Rattle.ot_list.proofs.Merging.{exchanging_more}
use Rattle.ot_list.proofs.moves.exchange.Goals as goal

pub loop-span-preserved : goal.loop-span-preserved
loop-span-preserved g c =
    let none : Span = record { kept = 0; gone = 0; put = 0 } in
    let s : Span = get_or c.args.spans.now c.loop-span.span-index none in
    exchanging_more c.args.spans.now _ _ c.loop-span.span-index c.loop-span.at c.loop-span.from c.loop-span.list c.loop-span.others _ _ s c.loop-span-test.true
    (get_or_default c.args.spans.now c.loop-span.span-index none s c.loop-span-test.true) c.loop-span.invariant (c.requires.even c.loop-span.span-index none c.loop-span-test.true)
    c.exchange_run.ensures.list c.exchange_run.ensures.others
