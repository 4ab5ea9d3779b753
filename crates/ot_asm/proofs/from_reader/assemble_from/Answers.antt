use Rattle.std.proofs.Common.{refl, Ok, Err}
use Rattle.ot_asm.proofs.Whole.{whole_outcome, whole_spells, whole_faultless}
use Rattle.ot_asm.proofs.Only.{only_known}
use Rattle.ot_asm.proofs.from_reader.assemble_from.Goals as goal

pub returns-in-Ok-clause-ok : goal.returns-in-Ok-clause-ok
returns-in-Ok-clause-ok g c = whole_outcome (g.R.Read.remaining c.args.reader.now) (Ok c.in-Ok.schedule) c.in-Ok.ensures.ok

pub returns-in-Ok-clause-spells : goal.returns-in-Ok-clause-spells
returns-in-Ok-clause-spells g c =
    let read = whole_outcome (g.R.Read.remaining c.args.reader.now) (Ok c.in-Ok.schedule) c.in-Ok.ensures.ok in
    whole_spells (g.R.Read.remaining c.args.reader.now) c.in-Ok.schedule read c.clients-clients.ensures.limits

pub returns-in-Ok-clause-end : goal.returns-in-Ok-clause-end
returns-in-Ok-clause-end g c = c.in-Ok.ensures.end refl

pub returns-in-Err-clause-err : goal.returns-in-Err-clause-err
returns-in-Err-clause-err g c not_memory not_read = whole_outcome (g.R.Read.remaining c.args.reader.now) (Err c.in-Err.fault) (c.in-Err.ensures.err not_memory not_read)

pub returns-in-Err-clause-faultless : goal.returns-in-Err-clause-faultless
returns-in-Err-clause-faultless g c = whole_faultless (g.R.Read.remaining c.args.reader.now) c.in-Err.fault.line c.in-Err.ensures.faultless

pub returns-in-Ok-clause-only : goal.returns-in-Ok-clause-only
returns-in-Ok-clause-only g c = λ p.
    let read = whole_outcome (g.R.Read.remaining c.args.reader.now) (Ok c.in-Ok.schedule) c.in-Ok.ensures.ok in
    only_known (g.R.Read.remaining c.args.reader.now) (Ok c.in-Ok.schedule) p read tt

pub returns-in-Err-clause-only : goal.returns-in-Err-clause-only
returns-in-Err-clause-only g c = λ p.
    only_known (g.R.Read.remaining c.args.reader.now) (Err c.in-Err.fault) p tt
    (λ not_memory not_read. whole_outcome (g.R.Read.remaining c.args.reader.now) (Err c.in-Err.fault) (c.in-Err.ensures.err not_memory not_read))
