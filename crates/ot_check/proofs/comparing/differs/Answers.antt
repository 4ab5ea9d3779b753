use Rattle.std.proofs.Common.{sym, ◌∙◌, ap, arith, Some}
use Rattle.std.specs.Option.{option_map}
use Rattle.ot_isa.proofs.Lists.{item_at}
use Rattle.ot_check.specs.Convergence.{difference_at}
use Rattle.ot_check.proofs.FirstAnswer.{first-here, first-later, first-end}
use Rattle.ot_check.proofs.comparing.differs.Goals as goal

pub returns-in-Some : goal.returns-in-Some
returns-in-Some c =
    let k = c.loop-number.number in
    let at = item_at c.args.documents.now k c.index-documents-number.result c.loop-number-test.true c.index-documents-number.is in
    let found = ap (λ o. Some (option_map (λ place. (k, place)) o)) (sym c.first_unequal.ensures ∙ c.in-Some.is) in
    sym (c.loop-number.invariant ∙ first-here (difference_at c.args.server.now) c.args.documents.now k _ (ap (option_map (difference_at c.args.server.now k)) at ∙ found))

pub loop-number-preserved : goal.loop-number-preserved
loop-number-preserved c =
    let k = c.loop-number.number in
    let at = item_at c.args.documents.now k c.index-documents-number.result c.loop-number-test.true c.index-documents-number.is in
    let none = ap (λ o. Some (option_map (λ place. (k, place)) o)) (sym c.first_unequal.ensures ∙ c.in_default.is) in
    c.loop-number.invariant ∙ first-later (difference_at c.args.server.now) c.args.documents.now k (ap (option_map (difference_at c.args.server.now k)) at ∙ none)

pub returns : goal.returns
returns c = sym (c.loop-number.invariant ∙ first-end (difference_at c.args.server.now) c.args.documents.now c.loop-number.number (omega arith))
