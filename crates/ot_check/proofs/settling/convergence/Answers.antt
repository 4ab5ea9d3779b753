use Rattle.std.proofs.Common.{sym, ◌∙◌, refl}
use Rattle.ot_check.proofs.FirstAnswer.{settled-quiet, quiet-settled, quiet-one}
use Rattle.ot_check.proofs.settling.convergence.Goals as goal

pub returns-in-Some-clause-quiet : goal.returns-in-Some-clause-quiet
returns-in-Some-clause-quiet c =
    (λ e. absurd (cc), λ quiet. absurd (let none = sym (quiet-settled c.args.machine.now quiet) ∙ sym c.first_unsettled.ensures.value ∙ c.in-Some.is in cc))

pub returns-in-Some-first_astray-clause-never : goal.returns-in-Some-first_astray-clause-never
returns-in-Some-first_astray-clause-never c =
    let s = c.args.machine.now in
    let quiet = settled-quiet s (sym c.first_unsettled.ensures.value ∙ c.in_default.is) in
    let none = sym (quiet-one s c.first_unsettled.ensures.sound quiet) ∙ sym c.first_astray.ensures ∙ c.in-Some-first_astray.is in
    λ d k e. cc none

pub returns-in-Some-first_astray-clause-quiet : goal.returns-in-Some-first_astray-clause-quiet
returns-in-Some-first_astray-clause-quiet c =
    let s = c.args.machine.now in
    let quiet = settled-quiet s (sym c.first_unsettled.ensures.value ∙ c.in_default.is) in
    let none = sym (quiet-one s c.first_unsettled.ensures.sound quiet) ∙ sym c.first_astray.ensures ∙ c.in-Some-first_astray.is in
    absurd (cc none)

pub returns-clause-quiet : goal.returns-clause-quiet
returns-clause-quiet c =
    (λ e. settled-quiet c.args.machine.now (sym c.first_unsettled.ensures.value ∙ c.in_default.is), λ quiet. refl)
