use Rattle.std.proofs.Common.{◌∙◌}
use Rattle.std.specs.Int.{w32}
use Rattle.std.proofs.lemmas.Result.{err_from_is_err_and}
use Rattle.ot_image.specs.declared.refusal.Place.TheVariants as place
use Rattle.ot_image.specs.Fields.{End, after_magic, body, instructions, instrs_objection, start}
use Rattle.ot_image.specs.Reads.{seen}
use Rattle.ot_image.proofs.FieldSteps.{clients_err, clients_ok, ends_on, field_err, field_ok}
use Rattle.ot_image.proofs.whole.after_magic_of.Goals as goal

pub returns-in_err-clients : goal.returns-in_err-clients
returns-in_err-clients c =
    let p = err_from_is_err_and c.from_residual.result c.from_residual.ensures.1 in
    rw (p.1, p.2) (clients_err c.args.version (seen c.args.spot) _ c.in_err-clients.ensures.read)

pub returns-in_err-start : goal.returns-in_err-start
returns-in_err-start c =
    let p = err_from_is_err_and c.from_residual-in_err-start.result c.from_residual-in_err-start.ensures.1 in
    rw (p.1, p.2) (clients_ok c.args.version (seen c.args.spot) (seen c.in_ok-clients.present) c.in_ok-clients.clients c.in_ok-clients.ensures.read
    ∙ c.in_err-start.ensures (start (body c.args.version c.in_ok-clients.clients)))

pub returns-in_err-instrs : goal.returns-in_err-instrs
returns-in_err-instrs c =
    let p = err_from_is_err_and c.from_residual-in_err-instrs.result c.from_residual-in_err-instrs.ensures.1 in
    rw (p.1, p.2) (clients_ok c.args.version (seen c.args.spot) (seen c.in_ok-clients.present) c.in_ok-clients.clients c.in_ok-clients.ensures.read
    ∙ c.in_ok-start.ensures (start (body c.args.version c.in_ok-clients.clients))
    ∙ c.in_err-instrs.ensures (body c.args.version c.in_ok-clients.clients))

pub returns-in_err-count : goal.returns-in_err-count
returns-in_err-count c =
    let p = err_from_is_err_and c.from_residual-in_err-count.result c.from_residual-in_err-count.ensures.1 in
    rw (p.1, p.2) (clients_ok c.args.version (seen c.args.spot) (seen c.in_ok-clients.present) c.in_ok-clients.clients c.in_ok-clients.ensures.read
    ∙ c.in_ok-start.ensures (start (body c.args.version c.in_ok-clients.clients))
    ∙ c.in_ok-instrs.ensures (body c.args.version c.in_ok-clients.clients)
    ∙ field_err place.InstrCount w32 instrs_objection (λ n. instructions c.args.version c.in_ok-clients.clients 0 n End) (seen c.in_ok-instrs.instrs) _ c.in_err-count.ensures)

pub returns-in_err-end : goal.returns-in_err-end
returns-in_err-end c =
    let p = err_from_is_err_and c.from_residual-in_err-end.result c.from_residual-in_err-end.ensures.1 in
    rw (p.1, p.2) (clients_ok c.args.version (seen c.args.spot) (seen c.in_ok-clients.present) c.in_ok-clients.clients c.in_ok-clients.ensures.read
    ∙ c.in_ok-start.ensures (start (body c.args.version c.in_ok-clients.clients))
    ∙ c.in_ok-instrs.ensures (body c.args.version c.in_ok-clients.clients)
    ∙ field_ok place.InstrCount w32 instrs_objection (λ n. instructions c.args.version c.in_ok-clients.clients 0 n End) (seen c.in_ok-instrs.instrs) c.in_ok-count.count (seen c.in_ok-count.first) c.in_ok-count.ensures
    ∙ c.in_err-end.ensures End)

pub returns : goal.returns
returns c =
    ends_on (after_magic c.args.version) End (seen c.args.spot) (seen c.in_ok-end.end) c.end_of.result
    (clients_ok c.args.version (seen c.args.spot) (seen c.in_ok-clients.present) c.in_ok-clients.clients c.in_ok-clients.ensures.read
    ∙ c.in_ok-start.ensures (start (body c.args.version c.in_ok-clients.clients))
    ∙ c.in_ok-instrs.ensures (body c.args.version c.in_ok-clients.clients)
    ∙ field_ok place.InstrCount w32 instrs_objection (λ n. instructions c.args.version c.in_ok-clients.clients 0 n End) (seen c.in_ok-instrs.instrs) c.in_ok-count.count (seen c.in_ok-count.first) c.in_ok-count.ensures
    ∙ c.in_ok-end.ensures End)
    c.end_of.ensures
