use Rattle.std.proofs.Common.{refl, sym, ap, subst, ◌∙◌}
use Rattle.ot_operation.specs.Operation.{IsTooLong}
use Rattle.ot_operation.specs.Steps.{appended}
use Rattle.ot_codes.specs.Codes.{AreSound, run_of}
use Rattle.ot_codes.proofs.Appending.{may_end}
use Rattle.ot_codes.proofs.Put.{pushed}
use Rattle.ot_codes.proofs.Sound.{sound_put}
use Rattle.ot_codes.proofs.codes.Codes.put_behind.Goals as goal

pub invariant_of-self-2 : goal.invariant_of-self-2
invariant_of-self-2 c =
    let old = c.self.inside.list in
    let behind = pushed old c.push_behind.new.self c.args.code (c.if-not-push_behind.ensures.yes refl) c.requires.filled (may_end old c.args.code (c.if-not-push_behind.ensures.may refl)) c.self.invariant.normal in
    subst (λ sum. AreSound c.push_behind.new.self sum) (sym c.with-self-inside.ensures)
    (sound_put old c.push_behind.new.self c.self.inside.sum c.args.code c.self.invariant behind
    (subst (λ op. IsTooLong (appended op (run_of c.args.code)) → ⊥) (sym c.self.view_is) c.requires.short))

pub returns-clause-yes : goal.returns-clause-yes
returns-clause-yes c = λ yes.
    let old = c.self.inside.list in
    let behind = pushed old c.push_behind.new.self c.args.code (c.if-not-push_behind.ensures.yes refl) c.requires.filled (may_end old c.args.code (c.if-not-push_behind.ensures.may refl)) c.self.invariant.normal in
    behind.operation ∙ ap (λ op. appended op (run_of c.args.code)) c.self.view_is
