use Rattle.std.proofs.Common.{◌∙◌, sym, ap, arith}
use Rattle.serde_json.specs.View.{view}
use Rattle.ot_conform.specs.Differences.{field_of_key}
use Rattle.ot_conform.specs.Due.{due_of}
use Rattle.ot_conform.proofs.FirstKey.{key_agrees, key_differs, no_key}
use Rattle.ot_conform.proofs.meeting.first_field.Goals as goal

pub returns-then-not-branch : goal.returns-then-not-branch
returns-then-not-branch c =
    sym (ap field_of_key (c.loop-key.invariant
    ∙ key_differs c.args.keys.now c.loop-key.key-index _ (due_of c.args.due.now).line (view c.args.line.now) c.loop-key-test.true (sym c.in_ok-agrees_at.ensures ∙ c.if-not-branch.true)))

pub loop-key-preserved : goal.loop-key-preserved
loop-key-preserved c =
    c.loop-key.invariant
    ∙ key_agrees c.args.keys.now c.loop-key.key-index _ (due_of c.args.due.now).line (view c.args.line.now) c.loop-key-test.true (sym c.in_ok-agrees_at.ensures ∙ c.if-not-branch.false)

pub returns : goal.returns
returns c = sym (ap field_of_key (c.loop-key.invariant ∙ no_key c.args.keys.now c.loop-key.key-index (due_of c.args.due.now).line (view c.args.line.now) (omega (arith, c.loop-key-test.false))))
