use Rattle.std.proofs.Common.{◌∙◌, ap, subst, sym, arith}
use Rattle.ot_operation.specs.Run.{IsNormal, operation_of}
use Rattle.ot_text.proofs.Parts.{parts_of, same_base, same_target}
use Rattle.ot_text.proofs.Runs.{enough, all_spell, all_normal, all_form}
use Rattle.ot_text.proofs.TextOp.components.Goals as goal

pub new-requires : goal.new-requires
new-requires g c = enough c.self.inside.codes c.cursor.result c.self.inside.text c.as_slice.result.now c.args.self.now c.cursor.ensures.spells c.as_slice.ensures c.self.invariant

pub returns-clause-normal : goal.returns-clause-normal
returns-clause-normal g c =
    subst IsNormal (sym c.new.ensures)
    (all_normal c.self.inside.codes c.cursor.result c.self.inside.text c.as_slice.result.now c.args.self.now c.cursor.ensures.spells c.as_slice.ensures c.self.invariant c.self.view_is c.cursor.ensures.normal)

pub returns-clause-spells : goal.returns-clause-spells
returns-clause-spells g c =
    ap operation_of c.new.ensures
    ∙ all_spell c.self.inside.codes c.cursor.result c.self.inside.text c.as_slice.result.now c.args.self.now c.cursor.ensures.spells c.as_slice.ensures c.self.invariant c.self.view_is

pub returns-clause-fits : goal.returns-clause-fits
returns-clause-fits g c =
    let parts = (parts_of c.self.inside.codes c.self.inside.text c.args.self.now c.self.invariant c.self.view_is) in
    omega (arith, c.cursor.ensures.fits, same_base parts, same_target parts)

pub returns-clause-form : goal.returns-clause-form
returns-clause-form g c =
    c.new.ensures
    ∙ all_form c.self.inside.codes c.cursor.result c.self.inside.text c.as_slice.result.now c.args.self.now c.cursor.ensures.spells c.as_slice.ensures c.self.invariant c.self.view_is c.cursor.ensures.normal
