use Rattle.std.proofs.Common.{length, refl, ap, ◌∙◌, arith}
use Rattle.std.proofs.lemmas.Result.{IfOk-weaker}
use Rattle.ot_list.proofs.Leaved.{leaf_small}
use Rattle.ot_text.proofs.InPlace.{step, changed_one, within_one, fits_one, base_one, changed_more, restored, none_left}
use Rattle.ot_text.proofs.in_place.+change_from.Goals as goal

pub returns-then-is_none-clause-made : goal.returns-then-is_none-clause-made
returns-then-is_none-clause-made g t c =
    IfOk-weaker c.replace_in_leaf.result _ _
    (λ made is yes.
    changed_one c.args.list.now c.args.place.leaf c.args.place.offset c.requires.there c.requires.within (omega (arith, c.delete-gone.ensures.most, ap length c.leaf.ensures)) c.requires.base (step c.insert-come.result.now c.delete-gone.result c.insert-come.ensures c.delete-gone.ensures.passed c.retain-kept.ensures)
    c.replace_in_leaf.new.self (none_left c.retain-kept.new.self.codes c.head.result c.is_none.result c.head.ensures c.is_none.ensures c.if-is_none.true) (is yes))
    c.replace_in_leaf.ensures.made

pub overflow_add-behind : goal.overflow_add-behind
overflow_add-behind g t c =
    let is = rw c.in-Some.is at c.in_ok-before.ensures.made in
    let within =
    within_one c.args.list.now c.args.place.leaf c.args.place.offset c.requires.there c.requires.within (omega (arith, c.delete-gone.ensures.most, ap length c.leaf.ensures)) c.requires.base (step c.insert-come.result.now c.delete-gone.result c.insert-come.ensures c.delete-gone.ensures.passed c.retain-kept.ensures) c.exchange.new.list is in
    let small = leaf_small g.T.Item.CAP c.exchange.new.list c.args.place.leaf c.leaf_count-second.ensures.leaves in
    let bounds = g.met.T.Item.bounds in
    omega (arith, within, small, bounds.2)

pub ahead-requires-clause-within : goal.ahead-requires-clause-within
ahead-requires-clause-within g t c =
    let is = rw c.in-Some.is at c.in_ok-before.ensures.made in
    within_one c.args.list.now c.args.place.leaf c.args.place.offset c.requires.there c.requires.within (omega (arith, c.delete-gone.ensures.most, ap length c.leaf.ensures)) c.requires.base (step c.insert-come.result.now c.delete-gone.result c.insert-come.ensures c.delete-gone.ensures.passed c.retain-kept.ensures) c.exchange.new.list is

pub ahead-requires-clause-fits : goal.ahead-requires-clause-fits
ahead-requires-clause-fits g t c =
    let is = rw c.in-Some.is at c.in_ok-before.ensures.made in
    fits_one c.args.list.now c.args.place.leaf c.args.place.offset c.requires.there c.requires.within (omega (arith, c.delete-gone.ensures.most, ap length c.leaf.ensures)) c.requires.base (step c.insert-come.result.now c.delete-gone.result c.insert-come.ensures c.delete-gone.ensures.passed c.retain-kept.ensures) c.exchange.new.list is

pub change_from-requires : goal.change_from-requires
change_from-requires g t c κs within =
    let is = rw c.in-Some.is at c.in_ok-before.ensures.made in
    let base =
    base_one c.args.list.now c.args.place.leaf c.args.place.offset c.requires.there c.requires.within (omega (arith, c.delete-gone.ensures.most, ap length c.leaf.ensures)) c.requires.base (step c.insert-come.result.now c.delete-gone.result c.insert-come.ensures c.delete-gone.ensures.passed c.retain-kept.ensures) c.exchange.new.list is c.ahead.result.leaf c.ahead.result.offset c.ahead.ensures in
    let text = c.retain-kept.ensures.text_is (c.delete-gone.ensures.passed.text_is (c.insert-come.ensures.text_is c.requires.text)) in
    (omega (arith, c.if-most-eq0.false), (within.0, (within.1, (c.ahead.ensures.there, (c.ahead.ensures.within, (base, text))))))

pub bring_back-requires-clause-within : goal.bring_back-requires-clause-within
bring_back-requires-clause-within g t c =
    let is = rw c.in-Some.is at c.in_ok-before.ensures.made in
    rw (c.in-Ok-false.ensures.not c.in-Ok-false.field-0-test)
    (within_one c.args.list.now c.args.place.leaf c.args.place.offset c.requires.there c.requires.within (omega (arith, c.delete-gone.ensures.most, ap length c.leaf.ensures)) c.requires.base (step c.insert-come.result.now c.delete-gone.result c.insert-come.ensures c.delete-gone.ensures.passed c.retain-kept.ensures) c.exchange.new.list is)

pub bring_back-requires-clause-sound : goal.bring_back-requires-clause-sound
bring_back-requires-clause-sound g t c =
    rw (restored c.args.list.now c.exchange.new.list c.change_from.new.list c.args.place.leaf c.args.place.offset c.delete-gone.result c.insert-come.result.now c.in-Some.before.items c.requires.there (c.in-Ok-false.ensures.not c.in-Ok-false.field-0-test) (rw c.in-Some.is at c.in_ok-before.ensures.made) (rw c.in-Some.is at c.in_ok-before.ensures.leaf)) c.leaf_count-first.ensures.leaves

pub bring_back-requires-in-Err-clause-within : goal.bring_back-requires-in-Err-clause-within
bring_back-requires-in-Err-clause-within g t c =
    let is = rw c.in-Some.is at c.in_ok-before.ensures.made in
    rw c.in-Err.ensures.err
    (within_one c.args.list.now c.args.place.leaf c.args.place.offset c.requires.there c.requires.within (omega (arith, c.delete-gone.ensures.most, ap length c.leaf.ensures)) c.requires.base (step c.insert-come.result.now c.delete-gone.result c.insert-come.ensures c.delete-gone.ensures.passed c.retain-kept.ensures) c.exchange.new.list is)

pub bring_back-requires-in-Err-clause-sound : goal.bring_back-requires-in-Err-clause-sound
bring_back-requires-in-Err-clause-sound g t c =
    rw (restored c.args.list.now c.exchange.new.list c.change_from.new.list c.args.place.leaf c.args.place.offset c.delete-gone.result c.insert-come.result.now c.in-Some.before.items c.requires.there c.in-Err.ensures.err (rw c.in-Some.is at c.in_ok-before.ensures.made) (rw c.in-Some.is at c.in_ok-before.ensures.leaf)) c.leaf_count-first.ensures.leaves

pub returns-in-Ok-true-clause-made : goal.returns-in-Ok-true-clause-made
returns-in-Ok-true-clause-made g t c = λ _.
    let is = rw c.in-Some.is at c.in_ok-before.ensures.made in
    changed_more c.args.list.now c.args.place.leaf c.args.place.offset c.requires.there c.requires.within (omega (arith, c.delete-gone.ensures.most, ap length c.leaf.ensures)) c.requires.base (step c.insert-come.result.now c.delete-gone.result c.insert-come.ensures c.delete-gone.ensures.passed c.retain-kept.ensures) c.exchange.new.list is c.ahead.result.leaf c.ahead.result.offset c.ahead.ensures c.change_from.new.list (c.in-Ok-true.ensures.made (rw c.in-Ok-true.field-0-test refl))

pub returns-in-Ok-false-clause-not : goal.returns-in-Ok-false-clause-not
returns-in-Ok-false-clause-not g t c = λ _.
    c.bring_back.ensures ∙ restored c.args.list.now c.exchange.new.list c.change_from.new.list c.args.place.leaf c.args.place.offset c.delete-gone.result c.insert-come.result.now c.in-Some.before.items c.requires.there (c.in-Ok-false.ensures.not c.in-Ok-false.field-0-test) (rw c.in-Some.is at c.in_ok-before.ensures.made) (rw c.in-Some.is at c.in_ok-before.ensures.leaf)

pub returns-in-Err-clause-err : goal.returns-in-Err-clause-err
returns-in-Err-clause-err g t c =
    c.bring_back-in-Err.ensures ∙ restored c.args.list.now c.exchange.new.list c.change_from.new.list c.args.place.leaf c.args.place.offset c.delete-gone.result c.insert-come.result.now c.in-Some.before.items c.requires.there c.in-Err.ensures.err (rw c.in-Some.is at c.in_ok-before.ensures.made) (rw c.in-Some.is at c.in_ok-before.ensures.leaf)
