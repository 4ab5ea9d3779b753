use Rattle.std.proofs.Common.{◌∙◌}
use Rattle.std.proofs.lemmas.Result.{IfOk-weaker}
use Rattle.ot_list.specs.Leaves.{concatenated}
use Rattle.ot_text.specs.Places.{start_of}
use Rattle.ot_text.proofs.InPlace.{all_made, all_changed}
use Rattle.ot_text.proofs.in_place.change_in_place.Goals as goal

pub change_from-requires-clause-text : goal.change_from-requires-clause-text
change_from-requires-clause-text g c =
    let made = all_made c.args.op.now c.cursor.result (concatenated c.args.list.now) (c.cursor.ensures.spells ∙ c.codes.ensures.value) in
    c.retain-kept.ensures.text_is (rw c.text.ensures made.0)

pub returns-clause-made : goal.returns-clause-made
returns-clause-made g c =
    IfOk-weaker c.change_from.result _ _
    (λ made is yes.
    all_changed c.args.op.now c.cursor.result c.retain-kept.new.self.codes c.retain-kept.new.self.text.now (concatenated c.args.list.now) (concatenated c.change_from.new.list) c.retain-kept.result
    (start_of c.args.list.now c.in-Some.place.leaf c.in-Some.place.offset) (c.cursor.ensures.spells ∙ c.codes.ensures.value) (rw c.text.ensures at c.retain-kept.ensures) c.in-Some.ensures.count_is (is yes))
    c.change_from.ensures.made
