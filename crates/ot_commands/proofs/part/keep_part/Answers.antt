use Rattle.std.proofs.Common.{rules, arith, ◌≡◌, ◌-◌, true, false, ◌∙◌, sym}
use Rattle.ot_asm.specs.Parts.{is_mark}
use Rattle.ot_commands.proofs.Keeping.{kept_start, kept_more, kept_mark, kept_end, on_ok, taken_ended, taken_lines, taken_marked, taken_part}
use Rattle.ot_commands.proofs.part.keep_part.Goals as goal

pub loop-line-init : goal.loop-line-init
loop-line-init g c = record { kept = kept_start (g.R.Read.remaining c.args.input.now) c.clear.new.self.items c.clear.ensures.items; low = omega arith; few = omega arith }

pub returns-in-Ok-false-clause-ok : goal.returns-in-Ok-false-clause-ok
returns-in-Ok-false-clause-ok g c =
    let remaining = g.R.Read.remaining in
    let taken = rw c.in-Ok-false.field-0-test at c.in-Ok-false.ensures.ok in
    taken_lines (remaining c.args.input.now) (remaining c.next_line.new.self) c.loop-line.text.items false (c.loop-line.number - 1)
    (kept_end (remaining c.args.input.now) (remaining c.loop-line.input) (remaining c.next_line.new.self) c.next_line.new.line.items c.loop-line.number c.loop-line.text.items c.loop-line.invariant.kept taken)

pub returns-in-Ok-false-clause-ended : goal.returns-in-Ok-false-clause-ended
returns-in-Ok-false-clause-ended g c =
    let remaining = g.R.Read.remaining in
    let taken = rw c.in-Ok-false.field-0-test at c.in-Ok-false.ensures.ok in
    taken_ended (remaining c.args.input.now) (remaining c.next_line.new.self) c.loop-line.text.items false (c.loop-line.number - 1)
    (kept_end (remaining c.args.input.now) (remaining c.loop-line.input) (remaining c.next_line.new.self) c.next_line.new.line.items c.loop-line.number c.loop-line.text.items c.loop-line.invariant.kept taken)

pub returns-in-Ok-false-clause-part : goal.returns-in-Ok-false-clause-part
returns-in-Ok-false-clause-part g c =
    let remaining = g.R.Read.remaining in
    let taken = rw c.in-Ok-false.field-0-test at c.in-Ok-false.ensures.ok in
    taken_part (remaining c.args.input.now) (remaining c.next_line.new.self) c.loop-line.text.items false (c.loop-line.number - 1)
    (kept_end (remaining c.args.input.now) (remaining c.loop-line.input) (remaining c.next_line.new.self) c.next_line.new.line.items c.loop-line.number c.loop-line.text.items c.loop-line.invariant.kept taken)

pub returns-in-Ok-false-clause-marked : goal.returns-in-Ok-false-clause-marked
returns-in-Ok-false-clause-marked g c =
    let remaining = g.R.Read.remaining in
    let taken = rw c.in-Ok-false.field-0-test at c.in-Ok-false.ensures.ok in
    taken_marked (remaining c.args.input.now) (remaining c.next_line.new.self) c.loop-line.text.items false (c.loop-line.number - 1)
    (kept_end (remaining c.args.input.now) (remaining c.loop-line.input) (remaining c.next_line.new.self) c.next_line.new.line.items c.loop-line.number c.loop-line.text.items c.loop-line.invariant.kept taken)

pub returns-then-is_mark-clause-ok : goal.returns-then-is_mark-clause-ok
returns-then-is_mark-clause-ok g c =
    let remaining = g.R.Read.remaining in
    let taken = rw c.in-Ok-true.field-0-test at c.in-Ok-true.ensures.ok in
    let mark : is_mark c.next_line.new.line.items ≡ true = search rules in
    taken_lines (remaining c.args.input.now) (remaining c.next_line.new.self) c.loop-line.text.items true (c.loop-line.number)
    (kept_mark (remaining c.args.input.now) (remaining c.loop-line.input) (remaining c.next_line.new.self) c.next_line.new.line.items c.loop-line.number c.loop-line.text.items c.loop-line.invariant.kept taken mark)

pub returns-then-is_mark-clause-ended : goal.returns-then-is_mark-clause-ended
returns-then-is_mark-clause-ended g c =
    let remaining = g.R.Read.remaining in
    let taken = rw c.in-Ok-true.field-0-test at c.in-Ok-true.ensures.ok in
    let mark : is_mark c.next_line.new.line.items ≡ true = search rules in
    taken_ended (remaining c.args.input.now) (remaining c.next_line.new.self) c.loop-line.text.items true (c.loop-line.number)
    (kept_mark (remaining c.args.input.now) (remaining c.loop-line.input) (remaining c.next_line.new.self) c.next_line.new.line.items c.loop-line.number c.loop-line.text.items c.loop-line.invariant.kept taken mark)

pub returns-then-is_mark-clause-part : goal.returns-then-is_mark-clause-part
returns-then-is_mark-clause-part g c =
    let remaining = g.R.Read.remaining in
    let taken = rw c.in-Ok-true.field-0-test at c.in-Ok-true.ensures.ok in
    let mark : is_mark c.next_line.new.line.items ≡ true = search rules in
    taken_part (remaining c.args.input.now) (remaining c.next_line.new.self) c.loop-line.text.items true (c.loop-line.number)
    (kept_mark (remaining c.args.input.now) (remaining c.loop-line.input) (remaining c.next_line.new.self) c.next_line.new.line.items c.loop-line.number c.loop-line.text.items c.loop-line.invariant.kept taken mark)

pub returns-then-is_mark-clause-marked : goal.returns-then-is_mark-clause-marked
returns-then-is_mark-clause-marked g c =
    let remaining = g.R.Read.remaining in
    let taken = rw c.in-Ok-true.field-0-test at c.in-Ok-true.ensures.ok in
    let mark : is_mark c.next_line.new.line.items ≡ true = search rules in
    taken_marked (remaining c.args.input.now) (remaining c.next_line.new.self) c.loop-line.text.items true (c.loop-line.number)
    (kept_mark (remaining c.args.input.now) (remaining c.loop-line.input) (remaining c.next_line.new.self) c.next_line.new.line.items c.loop-line.number c.loop-line.text.items c.loop-line.invariant.kept taken mark)

pub loop-line-preserved : goal.loop-line-preserved
loop-line-preserved g c =
    let remaining = g.R.Read.remaining in
    let taken = rw c.in-Ok-true.field-0-test at c.in-Ok-true.ensures.ok in
    let other : is_mark c.next_line.new.line.items ≡ false = search rules in
    let done = sym c.is_err.ensures.value ∙ c.if-is_err.false in
    let keeps = on_ok c.keep_line.result done c.keep_line.ensures.ok in
    record {
      kept = kept_more (remaining c.args.input.now) (remaining c.loop-line.input) (remaining c.next_line.new.self) c.next_line.new.line.items c.loop-line.number c.loop-line.text.items c.keep_line.new.text.items c.loop-line.invariant.kept taken other keeps;
      low = omega arith;
      few = omega (arith, c.in-Ok-true.ensures.less c.in-Ok-true.field-0-test, c.loop-line.invariant.few);
    }
