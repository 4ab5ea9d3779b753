use Rattle.std.proofs.Common.{◌≡◌, ◌≤◌, ℕ, ap, ◌∙◌, arith, length, Ok, refl}
use Rattle.std.specs.List.{All}
use Rattle.std.proofs.lemmas.Result.{IfOk-weaker}
use Rattle.std.proofs.lemmas.List.Elements.{All-nil, All-cons, All-head, All-tail}
use Rattle.serde_json.specs.Data.{array}
use Rattle.serde_json.specs.View.{view, items_of}
use Rattle.serde_json.specs.Written.{has_float, compact_text}
use Rattle.serde_json.specs.declared.value.Value.TheVariants.{Array}
use Rattle.serde_json.proofs.Views.{view-Array}
use Rattle.ot_operation.specs.Operation.{Operation}
use Rattle.ot_operation.specs.Run.{base_of, image_from, normal_runs}
use Rattle.ot_json.specs.Reading.{operation_of_text}
use Rattle.ot_json.specs.Writing.{data_of, array_of, IsCounted, HasScalars}
use Rattle.ot_json.proofs.Built.{text_back, no_floats}
use Rattle.ot_json.proofs.Counted.{counted, forms, one_written, all_written}
use Rattle.ot_json.proofs.writing.write_op.Goals as goal

pub loop-component-init : goal.loop-component-init
loop-component-init c =
    let form = c.into_iter-component-iterator.ensures.into_iter_gives ∙ c.components-component-items.ensures.form in
    let base = ap (λ (op : Operation ℕ). op.base) c.components-component-items.ensures.spells in
    record {
      values = rw (c.new-items.ensures.items, form) refl;
      counted = rw c.into_iter-component-iterator.ensures.into_iter_gives (counted _ c.components-component-items.ensures.normal (omega (arith, base, c.components-component-items.ensures.fits)));
      scalars = λ h. (rw form at h);
    }

pub value_of-requires : goal.value_of-requires
value_of-requires c = All-head IsCounted _ _ (rw c.in-Some.ensures.steps at c.loop-component.invariant.counted)

pub loop-component-preserved : goal.loop-component-preserved
loop-component-preserved c = record {
  values = one_written view data_of _ _ _ _ _ _ _ c.in_ok-push.ensures.items c.in_ok-value_of.ensures.value c.in-Some.ensures.steps c.loop-component.invariant.values;
  counted = All-tail IsCounted _ _ (rw c.in-Some.ensures.steps at c.loop-component.invariant.counted);
  scalars = λ h. c.loop-component.invariant.scalars (rw c.in-Some.ensures.steps (All-cons HasScalars _ _ c.in_ok-value_of.ensures.scalars h));
}

pub returns-clause-text : goal.returns-clause-text
returns-clause-text c =
    let rs = normal_runs c.args.op.now in
    let all = all_written view data_of _ _ _ c.in-None.ensures.steps.0 c.loop-component.invariant.values in
    let is : view (Array c.loop-component.items) ≡ array_of rs = view-Array c.loop-component.items ∙ ap (λ ds. array (items_of ds)) all in
    IfOk-weaker c.to_string.result _ _ (λ s text. text (ap has_float is ∙ no_floats rs) ∙ ap compact_text is) c.to_string.ensures.text

pub returns-clause-reads_back : goal.returns-clause-reads_back
returns-clause-reads_back c =
    let rs = normal_runs c.args.op.now in
    let all = all_written view data_of _ _ _ c.in-None.ensures.steps.0 c.loop-component.invariant.values in
    let is : view (Array c.loop-component.items) ≡ array_of rs = view-Array c.loop-component.items ∙ ap (λ ds. array (items_of ds)) all in
    let form = c.components-component-items.ensures.form in
    let spells = rw form at c.components-component-items.ensures.spells in
    let normal = rw form at c.components-component-items.ensures.normal in
    let base : base_of rs ≤ 1000000 = omega (arith, ap (λ (op : Operation _). op.base) spells, c.components-component-items.ensures.fits) in
    let target : length (image_from 0 rs) ≤ 1000000 = omega (arith, ap (λ (op : Operation _). length op.image) spells, c.components-component-items.ensures.fits) in
    let scalars : All HasScalars rs = c.loop-component.invariant.scalars (rw c.in-None.ensures.steps.0 (All-nil HasScalars)) in
    let back : operation_of_text (compact_text (array_of rs)) ≡ Ok c.args.op.now = text_back rs (forms rs (counted rs normal base) scalars) base target ∙ ap (λ (op : Operation _). Ok op) spells in
    IfOk-weaker c.to_string.result _ _ (λ s text. ap operation_of_text (text (ap has_float is ∙ no_floats rs) ∙ ap compact_text is) ∙ back) c.to_string.ensures.text
