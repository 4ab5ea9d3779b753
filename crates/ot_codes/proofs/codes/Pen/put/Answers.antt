use Rattle.std.proofs.Common.{◌∙◌, ap, subst, sym}
use Rattle.ot_operation.specs.Operation.{Operation, IsTooLong, with_retain}
use Rattle.ot_operation.specs.Steps.{appended}
use Rattle.ot_operation.proofs.KeptRuns.{retain-more}
use Rattle.ot_codes.specs.declared.code.Code.{Code}
use Rattle.ot_codes.specs.Codes.{run_of}
use Rattle.ot_codes.proofs.codes.Pen.put.Goals as goal

pub invariant_of-self : goal.invariant_of-self
invariant_of-self c =
    subst (λ (op : Operation (Unit {0})). IsTooLong op → ⊥)
    (sym
    (sym (retain-more c.self.inside.written c.self.inside.kept c.in-Retain.count) ∙ ap (λ (op : Operation (Unit {0})). with_retain op c.in-Retain.count) c.self.view_is
    ∙ ap (λ (code : Code). appended c.args.self.now (run_of code)) (sym c.in-Retain.is)))
    c.requires

pub returns-in-Retain-clause-ok : goal.returns-in-Retain-clause-ok
returns-in-Retain-clause-ok c =
    sym (retain-more c.self.inside.written c.self.inside.kept c.in-Retain.count) ∙ ap (λ (op : Operation (Unit {0})). with_retain op c.in-Retain.count) c.self.view_is
    ∙ ap (λ (code : Code). appended c.args.self.now (run_of code)) (sym c.in-Retain.is)
