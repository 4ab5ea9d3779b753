use Rattle.std.proofs.Common.{ap, sym, subst, ◌∙◌}
use Rattle.ot_isa.specs.Program.{Program}
use Rattle.ot_generate.specs.Generated.{IsGenerated}
use Rattle.ot_generate.specs.Shapes.{ShapeView}
use Rattle.ot_generate.proofs.Reading.{generated_open}
use Rattle.ot_generate.proofs.generating.generate.Goals as goal

pub end_quiet-requires-clause-quiet : goal.end_quiet-requires-clause-quiet
end_quiet-requires-clause-quiet c = c.in_ok-walk.ensures.quiet (c.in_ok-walk.ensures.is_open ∙ ap (λ (v : ShapeView). v.is_open) (sym c.shape.view_is) ∙ c.if-shape.false)

pub returns-then-shape : goal.returns-then-shape
returns-then-shape c =
    subst (λ (p : Program). IsGenerated c.args.shape.now p) (sym c.finish.ensures.value)
    (generated_open c.args.shape.now c.in_ok-walk.walk c.in_ok-walk.ensures c.finish.ensures.kept (ap (λ (v : ShapeView). v.is_open) (sym c.shape.view_is) ∙ c.if-shape.true))
