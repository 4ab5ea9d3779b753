use Rattle.std.specs.Int.{w8}
use Rattle.std.proofs.lemmas.Result.{err_from_is_err_and}
use Rattle.ot_image.specs.declared.refusal.Place.TheVariants as place
use Rattle.ot_image.specs.declared.spot.Spot.{Spot}
use Rattle.ot_image.specs.Fields.{instr_objection, instruction, operands}
use Rattle.ot_image.specs.Reads.{seen}
use Rattle.ot_image.proofs.FieldSteps.{field_err, field_ok, passes_on}
use Rattle.ot_image.proofs.whole.instruction_of.Goals as goal

pub returns-in_err-code : goal.returns-in_err-code
returns-in_err-code c =
    let p = err_from_is_err_and c.from_residual.result c.from_residual.ensures.1 in
    rw (p.1, p.2) (λ after.
    field_err (place.InstrKind c.args.instr) w8 (instr_objection c.args.version) (λ code. operands c.args.clients c.args.instr code after) (seen c.args.spot) _ c.in_err-code.ensures)

pub returns : goal.returns
returns c =
    passes_on (λ (t : Spot). seen t) (instruction c.args.version c.args.clients c.args.instr) (operands c.args.clients c.args.instr c.in_ok-code.code) (seen c.args.spot) (seen c.in_ok-code.after) c.operands_of.result
    (λ after. field_ok (place.InstrKind c.args.instr) w8 (instr_objection c.args.version) (λ code. operands c.args.clients c.args.instr code after) (seen c.args.spot) c.in_ok-code.code (seen c.in_ok-code.after) c.in_ok-code.ensures)
    c.operands_of.ensures
