use Rattle.std.proofs.Common.{◌∙◌, length, ap, sym}
use Rattle.ot_operation.specs.Operation.{news}
use Rattle.ot_codes.specs.Shape.{filled}
use Rattle.ot_text.proofs.Parts.{parts_of}
use Rattle.ot_text.proofs.TextOp.exchange_codes.Goals as goal

pub invariant_of-self : goal.invariant_of-self
invariant_of-self g c =
    let parts = parts_of c.self.inside.codes c.self.inside.text c.args.self.now c.self.invariant c.self.view_is in
    ap length parts.text_is ∙ sym c.requires ∙ ap (λ o. length (news o.image)) (sym c.swap.ensures.x_after)

pub returns-clause-op : goal.returns-clause-op
returns-clause-op g c =
    let parts = parts_of c.self.inside.codes c.self.inside.text c.args.self.now c.self.invariant c.self.view_is in
    ap (λ o. filled o c.self.inside.text) c.swap.ensures.x_after ∙ ap (filled c.args.codes.now) parts.text_is

pub returns-clause-codes : goal.returns-clause-codes
returns-clause-codes g c =
    let parts = parts_of c.self.inside.codes c.self.inside.text c.args.self.now c.self.invariant c.self.view_is in
    c.swap.ensures.y_after ∙ parts.codes_are
