use Rattle.std.proofs.Common.{subst, string_bytes, List, ℕ}
use Rattle.std.specs.Io.KnownBytes.{Appends}
use Rattle.streams.specs.Streams.{WritesPart}
use Rattle.ot_report.specs.Written.{WritesReportUpTo}
use Rattle.streams.specs.declared.OutputFault.{OutputFault}
use Rattle.streams.specs.declared.OutputFault.TheVariants.{Memory, WriteFault}
use Rattle.ot_report.proofs.Progress.{err_is}
use Rattle.ot_report.proofs.Reported.{all_reported, end_cut, nothing_read, reads_cut_short, text_cut}
use Rattle.ot_report.proofs.writing.write_report.Goals as goal

pub returns-in_err-machine-clause-err : goal.returns-in_err-machine-clause-err
returns-in_err-machine-clause-err g c =
    let s = c.args.schedule.now in
    let old = g.W.Write.contents c.args.output.now in
    err_is c.from_residual.result Memory (λ (f : OutputFault). WritesReportUpTo f c.args.json s old old) c.from_residual.ensures.1 (nothing_read c.args.json s old)

pub returns-in_err-authors-clause-err : goal.returns-in_err-authors-clause-err
returns-in_err-authors-clause-err g c =
    let s = c.args.schedule.now in
    let old = g.W.Write.contents c.args.output.now in
    err_is c.from_residual-in_err-authors.result Memory (λ (f : OutputFault). WritesReportUpTo f c.args.json s old old) c.from_residual-in_err-authors.ensures.1 (nothing_read c.args.json s old)

pub returns-in_err-stopped-clause-err : goal.returns-in_err-stopped-clause-err
returns-in_err-stopped-clause-err g c =
    let s = c.args.schedule.now in
    let old = g.W.Write.contents c.args.output.now in
    let new = g.W.Write.contents c.write_reads.new.output in
    let f = c.in_err-stopped.field-0.0 in
    err_is c.from_residual-in_err-stopped.result f (λ (e : OutputFault). WritesReportUpTo e c.args.json s old new) c.from_residual-in_err-stopped.ensures.1
    (reads_cut_short f c.args.json c.args.alloc s c.clients-clients.ensures.limits old new c.in_err-stopped.ensures.err)

pub returns-in_err-put-clause-err : goal.returns-in_err-put-clause-err
returns-in_err-put-clause-err g c =
    let s = c.args.schedule.now in
    let old = g.W.Write.contents c.args.output.now in
    let mid = g.W.Write.contents c.write_reads.new.output in
    let new = g.W.Write.contents c.put.new.self in
    let written = subst (λ (bytes : List ℕ). WritesPart mid new bytes) c.as_bytes.ensures.value c.in_err-put.ensures.err in
    err_is c.from_residual-in_err-put.result WriteFault (λ (f : OutputFault). WritesReportUpTo f c.args.json s old new) c.from_residual-in_err-put.ensures.1
    (text_cut c.args.json c.args.alloc s c.clients-clients.ensures.limits c.in_ok-stopped.stopped c.write_reads.new.machine (string_bytes c.write_reads.new.text) old mid c.in_ok-stopped.ensures.ok
    (string_bytes c.push_stop.new.text) (string_bytes c.in_ok-end.end) c.in_ok-push_stop.ensures c.in_ok-end.ensures new written)

pub returns-in_err-put-2-clause-err : goal.returns-in_err-put-2-clause-err
returns-in_err-put-2-clause-err g c =
    let s = c.args.schedule.now in
    let old = g.W.Write.contents c.args.output.now in
    let mid = g.W.Write.contents c.write_reads.new.output in
    let later = g.W.Write.contents c.put.new.self in
    let new = g.W.Write.contents c.put-2.new.self in
    let before = subst (λ (bytes : List ℕ). Appends mid later bytes) c.as_bytes.ensures.value c.in_ok-put.ensures.ok in
    let written = subst (λ (bytes : List ℕ). WritesPart later new bytes) c.as_bytes-2.ensures.value c.in_err-put-2.ensures.err in
    err_is c.from_residual-in_err-put-2.result WriteFault (λ (f : OutputFault). WritesReportUpTo f c.args.json s old new) c.from_residual-in_err-put-2.ensures.1
    (end_cut c.args.json c.args.alloc s c.clients-clients.ensures.limits c.in_ok-stopped.stopped c.write_reads.new.machine (string_bytes c.write_reads.new.text) old mid c.in_ok-stopped.ensures.ok
    (string_bytes c.push_stop.new.text) (string_bytes c.in_ok-end.end) c.in_ok-push_stop.ensures c.in_ok-end.ensures later new before written)

pub returns-clause-ok : goal.returns-clause-ok
returns-clause-ok g c =
    let s = c.args.schedule.now in
    let old = g.W.Write.contents c.args.output.now in
    let mid = g.W.Write.contents c.write_reads.new.output in
    let later = g.W.Write.contents c.put.new.self in
    let new = g.W.Write.contents c.put-2.new.self in
    let before = subst (λ (bytes : List ℕ). Appends mid later bytes) c.as_bytes.ensures.value c.in_ok-put.ensures.ok in
    let written = subst (λ (bytes : List ℕ). Appends later new bytes) c.as_bytes-2.ensures.value c.in_ok-put-2.ensures.ok in
    all_reported c.args.json c.args.alloc s c.clients-clients.ensures.limits c.in_ok-stopped.stopped c.write_reads.new.machine (string_bytes c.write_reads.new.text) old mid c.in_ok-stopped.ensures.ok
    (string_bytes c.push_stop.new.text) (string_bytes c.in_ok-end.end) c.in_ok-push_stop.ensures c.in_ok-end.ensures later new before written
