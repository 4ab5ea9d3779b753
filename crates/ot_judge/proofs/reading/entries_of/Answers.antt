use Rattle.std.proofs.Common.{◌≡◌, ◌-◌, ◌+◌, ◌^◌, ap, sym, ◌∙◌, arith, drop, [], List, min}
use Rattle.std.specs.Prelude.{Some, option_map}
use Rattle.std.proofs.lemmas.List.{drop_all}
use Rattle.serde_json.specs.View.{items_view}
use Rattle.serde_json.specs.declared.value.Value.{Value}
use Rattle.ot_judge.specs.Layout.{entries_of}
use Rattle.ot_judge.proofs.reading.entries_of.Goals as goal

pub returns : goal.returns
returns c =
    let here : drop c.loop-value.value-index c.args.items.now ≡ [] = drop_all c.loop-value.value-index c.args.items.now (omega arith) in
    let small : c.loop-value.count ≡ min (c.loop-value.count + 0) (2 ^ 64 - 1) = omega (arith, c.loop-value.invariant.small) in
    ap (λ n. Some n) small
    ∙ ap (λ (vs : List Value). option_map (λ n. min (c.loop-value.count + n) (2 ^ 64 - 1)) (entries_of c.args.replicas (items_view vs))) (sym here)
    ∙ c.loop-value.invariant.left
