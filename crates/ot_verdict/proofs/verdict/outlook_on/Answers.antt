use Rattle.std.proofs.Common.{◌≤◌, ◌∙◌, List, ap, arith, length, refl, subst, sym}
use Rattle.ot_isa.specs.declared.elements.Tagged.{Tagged}
use Rattle.ot_verdict.specs.Laws.{EndsIn}
use Rattle.ot_verdict.specs.Pending.{untaken}
use Rattle.ot_verdict.proofs.Ending.{every_order_ends}
use Rattle.ot_verdict.proofs.First.{someone}
use Rattle.ot_verdict.proofs.verdict.outlook_on.Goals as goal

pub returns-then-is_quiet : goal.returns-then-is_quiet
returns-then-is_quiet c = (c.if-is_quiet.ensures.exact.0 refl, sym (c.in_ok-copy.ensures ∙ c.server_document.ensures), c.if-is_quiet.ensures.converged refl)

pub returns : goal.returns
returns c =
    let s = c.args.machine.now in
    let many = ap length c.in_ok-clients.ensures in
    let counted = c.len.ensures in
    let few : length (untaken s) ≤ 1 = omega (arith, many, counted, c.if-len-gt1.false) in (
      λ quiet. absurd (let clash = c.if-is_quiet.ensures.exact.1 quiet in cc),
      few,
      c.in_ok-ending.ensures,
      subst (λ (list : List Tagged). EndsIn s list) (sym c.in_ok-ending.ensures) (every_order_ends s c.clients.ensures.sound few),
    )

pub unreachable-requires : goal.unreachable-requires
unreachable-requires c =
    let s = c.args.machine.now in
    let many = ap length c.in_ok-clients.ensures in
    let counted = c.len.ensures in
    let some : 1 ≤ length (untaken s) = omega (arith, many, counted, c.if-len-gt1.true) in
    absurd (someone s some (sym c.in_default.ensures))
