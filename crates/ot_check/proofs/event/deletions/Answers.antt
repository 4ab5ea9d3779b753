use Rattle.std.proofs.Common.{◌≡◌, ◌∙◌, sym, subst, List}
use Rattle.std.specs.Prelude.{IfOk}
use Rattle.ot_isa.specs.declared.elements.Tag.{Tag}
use Rattle.ot_check.proofs.Deletions.{gone_rest, gone_none}
use Rattle.ot_check.proofs.event.deletions.Goals as goal

pub returns-then-same_tags-rest : goal.returns-then-same_tags-rest
returns-then-same_tags-rest c =
    c.new.ensures.items
    ∙ sym (sym (gone_rest c.args.before.now c.args.after.now c.same_tags.result c.same_tags.ensures.same)
    ∙ gone_none _ c.args.after.now c.same_tags-then-rest-after.result c.if-rest-after.true c.if-same_tags-rest.true c.same_tags-then-rest-after.ensures.same)

pub returns : goal.returns
returns c =
    subst (λ (ts : List Tag). IfOk c.missing.result (λ v. v.items ≡ ts)) (gone_rest c.args.before.now c.args.after.now c.same_tags.result c.same_tags.ensures.same) c.missing.ensures
