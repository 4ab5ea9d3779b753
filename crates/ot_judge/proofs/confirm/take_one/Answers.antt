use Rattle.std.proofs.Common.{◌∙◌, ap, sym, Bool}
use Rattle.std.specs.HashSet.{contains as set_contains}
use Rattle.ot_isa.specs.declared.elements.Tag.{Tag}
use Rattle.ot_model.specs.Trace.{contains, same_tag}
use Rattle.ot_model.specs.WeakList.{known_deletions}
use Rattle.ot_judge.specs.Views.{views}
use Rattle.ot_judge.proofs.Exactly.{same-tags, take-tag}
use Rattle.ot_judge.proofs.confirm.take_one.Goals as goal

pub returns : goal.returns
returns c = λ done visible.
    let gone : Tag → Bool = contains (known_deletions (views c.args.events.now) c.args.e) in
    let same = same-tags c.in-Some.x.now.tag c.args.a (sym c.ne.ensures ∙ c.if-ne.false) in
    take-tag (set_contains same_tag c.args.set.now) (set_contains same_tag c.remove.new.self) gone c.args.a (ap gone (sym same) ∙ sym (c.is_gone.ensures visible) ∙ c.if-is_gone.false) (sym c.remove.ensures.test ∙ done) c.remove.ensures.updates.0
