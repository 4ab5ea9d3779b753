use Rattle.std.proofs.Common.{◌∙◌, arith, sym}
use Rattle.ot_faults.proofs.Bytes.{went_right, went_through, went_wrong}
use Rattle.ot_faults.proofs.causes.cause_behind.Goals as goal

pub returns-in-Err-clause-value : goal.returns-in-Err-clause-value
returns-in-Err-clause-value c =
    let is = rw c.split_at.ensures.back at c.in-Err.ensures.err in
    sym (went_wrong c.args.is_array c.args.json.now c.loop-at.at c.loop-at.before c.in-Err.words.now (omega (arith, c.loop-at-test.true)) is) ∙ c.loop-at.invariant.value

pub loop-at-preserved : goal.loop-at-preserved
loop-at-preserved c =
    let is = rw c.split_at.ensures.back at c.in-Ok.ensures.ok in
    record {
      value = sym (went_right c.args.is_array c.args.json.now c.loop-at.at c.loop-at.before c.in-Ok.after (omega (arith, c.loop-at-test.true)) is) ∙ c.loop-at.invariant.value;
      within = omega (arith, c.loop-at-test.true);
    }

pub returns-clause-value : goal.returns-clause-value
returns-clause-value c =
    c.end_note.ensures.value ∙ sym (went_through c.args.is_array c.args.json.now c.loop-at.at c.loop-at.before (omega (arith, c.loop-at-test.false))) ∙ c.loop-at.invariant.value

pub returns-clause-within : goal.returns-clause-within
returns-clause-within c = omega (arith, c.end_note.ensures.within, c.loop-at.invariant.within)
