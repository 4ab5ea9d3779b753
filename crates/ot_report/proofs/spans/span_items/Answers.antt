use Rattle.std.proofs.Common.{sym, ◌∙◌, string_bytes}
use Rattle.ot_report.specs.Authors.{author_in}
use Rattle.ot_report.proofs.Spelling.{one_longer, one_more}
use Rattle.ot_report.proofs.spans.span_items.Goals.{then-same_author, else-same_author+in_ok-push_span}
use Rattle.ot_report.proofs.spans.span_items.Goals as goal

pub loop-item-preserved : goal.loop-item-preserved
loop-item-preserved c =
    let by = author_in c.args.authors.now in
    let list = c.args.list.now in
    let i = c.loop-item.item-index in
    let items = string_bytes c.loop-item.items in
    elim c.if-same_author.branch [
      | then-same_author w ↦
          rw (w.items-is, w.span-is)
          (one_longer by list i items c.loop-item.span c.loop-item.invariant _ c.author-author.result c.loop-item-test.true c.author-author.ensures (sym c.same_author.ensures ∙ w.if-same_author.true))
      | else-same_author+in_ok-push_span w ↦
          rw (w.items-is, w.span-is, w.in_ok-push_span.ensures)
          (one_more by list i items c.loop-item.span c.loop-item.invariant _ c.author-author.result c.loop-item-test.true c.author-author.ensures (sym c.same_author.ensures ∙ w.if-same_author.false))
    ]
