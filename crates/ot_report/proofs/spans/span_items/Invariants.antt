use Rattle.std.proofs.Common.{string_bytes}
use Rattle.ot_report.specs.Authors.{author_in}
use Rattle.ot_report.proofs.Spelling.{AreSpans}
use Rattle.ot_report.proofs.spans.span_items.Given as goal

abbrev pub invariant-loop-item : goal.invariant-loop-item
invariant-loop-item l = AreSpans (author_in l.authors) l.list l.item-index (string_bytes l.items) l.span
