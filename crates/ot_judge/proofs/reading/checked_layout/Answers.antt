use Rattle.std.proofs.Common.{sym, ◌∙◌, inl, inr, arith, length}
use Rattle.serde_json.specs.View.{view}
use Rattle.ot_judge.proofs.Spelled.{IsPast, shaped, past-limits, within-limits}
use Rattle.ot_judge.proofs.reading.checked_layout.Goals.{then-x-gt-MOST_EVENTS-via-then-x-gt-MOST_EVENTS, then-x-gt-MOST_EVENTS-via-else-x-gt-MOST_EVENTS+then-entries-gt-MOST_ENTRIES}
use Rattle.ot_judge.proofs.reading.checked_layout.Goals as goal

pub returns-then-x-gt-MOST_EVENTS-clause-err : goal.returns-then-x-gt-MOST_EVENTS-clause-err
returns-then-x-gt-MOST_EVENTS-clause-err c =
    let x = c.in-Some.x in
    let n = c.in-Some-entries_of.entries in
    let s = shaped x n c.in-Some.ensures.range (sym c.are_tags.ensures ∙ c.if-not-are_tags.false) c.in-Some-entries_of.ensures in
    let past : IsPast (length x.events.now) n = elim c.then-x-gt-MOST_EVENTS.branch [
      | then-x-gt-MOST_EVENTS-via-then-x-gt-MOST_EVENTS w ↦ inl (omega arith)
      | then-x-gt-MOST_EVENTS-via-else-x-gt-MOST_EVENTS+then-entries-gt-MOST_ENTRIES w ↦ inr (omega arith)
    ] in
    past-limits (view c.args.value.now) x n c.in-Some.ensures.fields s past

pub returns-clause-ok : goal.returns-clause-ok
returns-clause-ok c =
    let x = c.in-Some.x in
    let n = c.in-Some-entries_of.entries in
    let s = shaped x n c.in-Some.ensures.range (sym c.are_tags.ensures ∙ c.if-not-are_tags.false) c.in-Some-entries_of.ensures in
    (sym c.in-Some.ensures.fields, within-limits x n s (omega arith) (omega arith))
