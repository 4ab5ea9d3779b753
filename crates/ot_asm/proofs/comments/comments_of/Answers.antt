use Rattle.std.proofs.Common.{◌∙◌, ap, refl, List, ℕ}
use Rattle.ot_asm.specs.Comments.{with_words}
use Rattle.ot_asm.proofs.Reading.{all_read, none_read, one_read}
use Rattle.ot_asm.proofs.comments.comments_of.Goals as goal

pub loop-line-init : goal.loop-line-init
loop-line-init c = rw c.new-comments.ensures (none_read c.args.text.now)

pub loop-line-preserved : goal.loop-line-preserved
loop-line-preserved c =
    let some = c.in-Some.ensures.some in
    one_read c.args.text.now c.loop-line.rest.now c.in-Some.line.now c.in-Some.below.now c.loop-line.comments c.add.new.self
    c.loop-line.invariant some.0 some.1 (c.in_ok-add.ensures ∙ ap (λ (w : List ℕ). with_words c.loop-line.comments w) c.comment_words.ensures)

pub returns : goal.returns
returns c =
    all_read c.args.text.now c.loop-line.rest.now c.loop-line.comments c.add-2.new.self
    c.loop-line.invariant (c.in_default.ensures.none refl) (c.in_ok-add-2.ensures ∙ ap (λ (w : List ℕ). with_words c.loop-line.comments w) c.comment_words-2.ensures)
