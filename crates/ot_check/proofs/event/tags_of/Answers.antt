use Rattle.ot_check.proofs.Tags.{tags_piece}
use Rattle.ot_check.proofs.event.tags_of.Goals as goal

pub loop-piece-preserved : goal.loop-piece-preserved
loop-piece-preserved c =
    tags_piece c.args.document.now c.loop-piece.ahead c.in-Some.piece.now c.next.new.self c.loop-piece.found.items c.push_tags.new.found.items
    c.loop-piece.invariant c.in-Some.ensures.next c.in_ok-push_tags.ensures
