use Rattle.std.proofs.Common.{◌≡◌, sym, ◌∙◌, ap, subst}
use Rattle.std.specs.Prelude.{Some, None, option_map}
use Rattle.ot_json.proofs.Lists.{some-same}
use Rattle.ot_plan.specs.Plan.{IsPlan}
use Rattle.ot_plan.specs.Typing.{typing_view}
use Rattle.ot_plan.proofs.Surveyed.{ready, made-is}
use Rattle.ot_plan.proofs.reading.plan_from.Goals as goal

pub unreachable-requires : goal.unreachable-requires
unreachable-requires c =
    let r = ready c.args.x.now c.requires in
    let clash : None ≡ Some r.plan.typing = ap (option_map (λ v. typing_view v.items)) (sym c.in_default.is) ∙ c.in_ok-typing.ensures ∙ r.rows in
    cc

pub invariant_of-result : goal.invariant_of-result
invariant_of-result c =
    let r = ready c.args.x.now c.requires in
    let rows : typing_view c.in-Some.typing.items ≡ r.plan.typing = some-same _ _ (ap (option_map (λ v. typing_view v.items)) (sym c.in-Some.is) ∙ c.in_ok-typing.ensures ∙ r.rows) in
    subst IsPlan (made-is c.args.x.now r c.in_ok-start.start.items (typing_view c.in-Some.typing.items) c.in_ok-start.ensures rows) r.good

pub returns : goal.returns
returns c =
    let r = ready c.args.x.now c.requires in
    let rows : typing_view c.in-Some.typing.items ≡ r.plan.typing = some-same _ _ (ap (option_map (λ v. typing_view v.items)) (sym c.in-Some.is) ∙ c.in_ok-typing.ensures ∙ r.rows) in
    r.is ∙ ap (λ p. Some p) (made-is c.args.x.now r c.in_ok-start.start.items (typing_view c.in-Some.typing.items) c.in_ok-start.ensures rows)
