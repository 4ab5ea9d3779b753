use Rattle.std.proofs.Common.{subst, sym, IfOk}
use Rattle.ot_isa.specs.declared.instruction.Instr.TheVariants.{Edit}
use Rattle.ot_generate.proofs.Moving.{may_make_edit}
use Rattle.ot_generate.specs.Walks.{WalkView, MayEdit, MayMake}
use Rattle.ot_generate.proofs.walk.Walk.draw.Goals as goal

pub returns : goal.returns
returns c =
    let w : WalkView = record { recorded = c.self.inside.recorded.program; state = c.self.inside.machine; room = c.self.inside.room; is_open = c.self.inside.is_open } in
    let may = subst (λ (v : WalkView). MayEdit v c.args.client) (sym c.self.view_is) c.requires in
    subst (λ (v : WalkView). IfOk c.draw_edit.result (λ op. MayMake v (Edit c.args.client op))) c.self.view_is (may_make_edit w c.args.client c.inserted-inserted.result c.len-size.result c.document.result.now c.draw_edit.result c.self.invariant may c.document.ensures c.inserted-inserted.ensures c.len-size.ensures.value c.draw_edit.ensures.base c.draw_edit.ensures.few)
