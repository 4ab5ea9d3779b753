use Rattle.std.proofs.Common.{◌≡◌, ◌+◌, ◌-◌, ◌^◌, ◌<◌, min, ap, arith, subst, List, [], ◌∷◌, ℕ}
use Rattle.ot_conform.specs.Compared.{Leads}
use Rattle.ot_conform.specs.Ports.{counted_lines}
use Rattle.ot_conform.specs.Unknown.{all_named, line_number}
use Rattle.ot_conform.proofs.Leading.{decided, finished, memory_at_first}
use Rattle.ot_conform.proofs.Naming.{decided_named, finished_named, names_more, names_none}
use Rattle.ot_conform.proofs.reading.compare_lines.Goals as goal

pub taking-init : goal.taking-init
taking-init g c =
    record {
      naming = names_none c.args.sparse c.args.schedule.now c.in-Ok.comparison (g.R.Read.remaining c.args.reader.now) c.args.earlier (all_named c.new-unknown.result.items) c.in-Ok.ensures (ap all_named c.new-unknown.ensures.items);
      few = omega arith;
    }

pub finish-requires : goal.finish-requires
finish-requires g c = c.taking.invariant.naming.way.leads.standing

pub take_bytes-requires : goal.take_bytes-requires
take_bytes-requires g c = c.taking.invariant.naming.way.leads.standing

pub returns-in_default-clause-err : goal.returns-in_default-clause-err
returns-in_default-clause-err g c =
    let number : c.saturating_add.result ≡ min (c.args.earlier + 1) (2 ^ 64 - 1) = omega arith in
    memory_at_first c.args.sparse c.args.schedule.now c.args.earlier c.saturating_add.result (g.R.Read.remaining c.args.reader.now) number

pub returns-in-Ok-false-clause-ok : goal.returns-in-Ok-false-clause-ok
returns-in-Ok-false-clause-ok g c =
    let remaining = g.R.Read.remaining in
    let none = rw c.in-Ok-false.field-0-test at c.in-Ok-false.ensures.ok in
    finished c.args.sparse c.args.schedule.now c.taking.comparison c.taking.taken (remaining c.args.reader.now) (remaining c.taking.reader) (remaining c.next_line.new.self)
    c.next_line.new.line.items c.in_ok-verdict-in-Ok-false.verdict c.taking.invariant.naming.way none c.in_ok-verdict-in-Ok-false.ensures.ok

pub returns-in-Ok-false-clause-unknown : goal.returns-in-Ok-false-clause-unknown
returns-in-Ok-false-clause-unknown g c =
    let remaining = g.R.Read.remaining in
    let none = rw c.in-Ok-false.field-0-test at c.in-Ok-false.ensures.ok in
    finished_named c.args.sparse c.args.schedule.now c.taking.comparison c.taking.taken (remaining c.args.reader.now) (remaining c.taking.reader) (remaining c.next_line.new.self)
    c.args.earlier (all_named c.taking.unknown.items) c.next_line.new.line.items c.in_ok-verdict-in-Ok-false.verdict c.taking.invariant.naming none c.in_ok-verdict-in-Ok-false.ensures.ok

pub taking-preserved : goal.taking-preserved
taking-preserved g c =
    let remaining = g.R.Read.remaining in
    let more = rw c.in-Ok-true.field-0-test at c.in-Ok-true.ensures.ok in
    let less : g.R.Source.left c.next_line.new.self < g.R.Source.left c.taking.reader = c.in-Ok-true.ensures.less c.in-Ok-true.field-0-test in
    let leads = subst (λ (bytes : List ℕ). Leads c.args.schedule.now c.taking.comparison (counted_lines (bytes ∷ [])) c.take_bytes.new.comparison) c.as_slice-bytes.ensures.value (c.in-Ok-None.ensures.goes c.in-Ok-None.field-0-is) in
    let number : c.saturating_add-number.result ≡ line_number (c.args.earlier + c.taking.taken) = omega arith in
    record {
      naming = names_more c.args.sparse c.args.schedule.now c.taking.comparison c.take_bytes.new.comparison c.taking.taken c.saturating_add-number.result (remaining c.args.reader.now) (remaining c.taking.reader)
          (remaining c.next_line.new.self) c.args.earlier (all_named c.taking.unknown.items) (all_named c.take_bytes.new.keys.items) c.next_line.new.line.items c.taking.invariant.naming more leads number
          (rw c.as_slice-bytes.ensures.value at c.in-Ok-None.ensures.noted);
      few = omega (arith, less, c.taking.invariant.few);
    }

pub returns-in-Ok-Some-clause-ok : goal.returns-in-Ok-Some-clause-ok
returns-in-Ok-Some-clause-ok g c =
    let remaining = g.R.Read.remaining in
    let more = rw c.in-Ok-true.field-0-test at c.in-Ok-true.ensures.ok in
    let given = rw (c.in-Ok-Some.field-0-is, c.as_slice-bytes.ensures.value) at c.in-Ok-Some.ensures.decided in
    decided c.args.sparse c.args.schedule.now c.taking.comparison c.taking.taken (remaining c.args.reader.now) (remaining c.taking.reader) (remaining c.next_line.new.self)
    c.next_line.new.line.items _ c.taking.invariant.naming.way more given

pub returns-in-Ok-Some-clause-unknown : goal.returns-in-Ok-Some-clause-unknown
returns-in-Ok-Some-clause-unknown g c =
    let remaining = g.R.Read.remaining in
    let more = rw c.in-Ok-true.field-0-test at c.in-Ok-true.ensures.ok in
    let given = rw (c.in-Ok-Some.field-0-is, c.as_slice-bytes.ensures.value) at c.in-Ok-Some.ensures.decided in
    let number : c.saturating_add-number.result ≡ line_number (c.args.earlier + c.taking.taken) = omega arith in
    decided_named c.args.sparse c.args.schedule.now c.taking.comparison c.taking.taken c.saturating_add-number.result (remaining c.args.reader.now) (remaining c.taking.reader) (remaining c.next_line.new.self)
    c.args.earlier (all_named c.taking.unknown.items) (all_named c.take_bytes.new.keys.items) c.next_line.new.line.items _ c.taking.invariant.naming more given number (rw c.as_slice-bytes.ensures.value at c.in-Ok-Some.ensures.noted)
