use Rattle.std.proofs.Common.{◌∙◌, ap, sym, is_some}
use Rattle.ot_text.proofs.Same.{begin_same, end_same, end_apart, other_codes}
use Rattle.ot_text.proofs.compare.same_codes.Goals as goal

pub codes-init : goal.codes-init
codes-init c = begin_same c.cursor-at_a.result c.cursor-at_b.result

pub returns-in_default : goal.returns-in_default
returns-in_default c =
    end_same c.cursor-at_a.result c.cursor-at_b.result c.args.a.now c.args.b.now c.cursor-at_a.ensures.normal c.cursor-at_b.ensures.normal c.cursor-at_a.ensures.spells c.cursor-at_b.ensures.spells
    c.codes.at_a c.codes.at_b c.codes.invariant c.is_none.result (ap is_some (sym c.head-in_default.ensures) ∙ c.is_none.ensures) (sym c.head.ensures ∙ c.in_default.is)

pub returns-in_default-head : goal.returns-in_default-head
returns-in_default-head c =
    end_apart c.cursor-at_a.result c.cursor-at_b.result c.args.a.now c.args.b.now c.cursor-at_a.ensures.normal c.cursor-at_b.ensures.normal c.cursor-at_a.ensures.spells c.cursor-at_b.ensures.spells
    c.codes.at_a c.codes.at_b c.codes.invariant c.in-Some.ours (sym c.head.ensures ∙ c.in-Some.is) (sym c.head-in-codes.ensures ∙ c.in_default-head.is)

pub returns-then-not-same_code : goal.returns-then-not-same_code
returns-then-not-same_code c =
    other_codes c.cursor-at_a.result c.cursor-at_b.result c.args.a.now c.args.b.now c.cursor-at_a.ensures.normal c.cursor-at_b.ensures.normal c.cursor-at_a.ensures.spells c.cursor-at_b.ensures.spells
    c.codes.at_a c.codes.at_b c.codes.invariant c.in-Some.ours c.in-Some-head.theirs c.same_code.result (sym c.head.ensures ∙ c.in-Some.is) (sym c.head-in-codes.ensures ∙ c.in-Some-head.is) c.same_code.ensures c.if-not-same_code.true
