use Rattle.std.proofs.Common.{◌++◌, List, take, sym, ap, subst, ◌∙◌, arith}
use Rattle.std.proofs.Math.Seq.{take-length}
use Rattle.ot_codes.specs.declared.code.Code.{Code}
use Rattle.ot_codes.specs.declared.end.End.{End}
use Rattle.ot_codes.specs.Codes.{sum_of}
use Rattle.ot_codes.specs.Ends.{start, last_end, AreEnds}
use Rattle.ot_codes.proofs.Ends.{before_few, before_two, more_codes, more_ends}
use Rattle.ot_codes.proofs.blocks.Blocks.extend.Goals as goal

pub overflow_sub-count : goal.overflow_sub-count
overflow_sub-count c =
    let before = c.ended.ensures ∙ ap (λ (ends : List End). (last_end start ends).count) c.as_slice.ensures.value in
    omega (arith, before_few c.self.inside.codes.items c.self.inside.ends.items c.ended.result before c.self.invariant, c.len-count.ensures, c.self.inside.codes.ok.0)

pub invariant_of-self-then-count-ended-le-BLOCK : goal.invariant_of-self-then-count-ended-le-BLOCK
invariant_of-self-then-count-ended-le-BLOCK c =
    let before = c.ended.ensures ∙ ap (λ (ends : List End). (last_end start ends).count) c.as_slice.ensures.value in
    subst (λ (codes : List Code). AreEnds start codes c.self.inside.ends.items) (sym c.in_ok-extend_from_slice.ensures.items)
    (more_codes c.self.inside.codes.items c.self.inside.ends.items c.ended.result before c.self.invariant c.args.codes.now
    (omega (arith, c.if-count-ended-le-BLOCK.true, c.len-count.ensures, c.self.inside.codes.ok.0)))

pub invariant_of-self-2 : goal.invariant_of-self-2
invariant_of-self-2 c =
    let codes = c.self.inside.codes.items in
    let before = c.ended.ensures ∙ ap (λ (ends : List End). (last_end start ends).count) c.as_slice.ensures.value in
    let end : End = record { sum = c.args.total; count = c.len-count.result } in
    let full = c.if-count-ended-le-BLOCK.false in
    let all = c.len-count.ensures ∙ c.self.inside.codes.ok.0 in
    let some = before_few codes c.self.inside.ends.items c.ended.result before c.self.invariant in
    subst (λ (cs : List Code). AreEnds start cs c.add.new.ends.items) (sym c.in_ok-add.ensures.codes)
    (subst (λ (es : List End). AreEnds start (codes ++ c.args.codes.now) es) (sym c.in_ok-add.ensures.ends)
    (more_ends codes c.self.inside.ends.items c.ended.result before c.self.invariant c.args.codes.now end (omega (arith, full, all, some, c.requires.few))
    (λ more. omega (arith, before_two codes c.self.inside.ends.items c.ended.result before c.self.invariant more, all)) (omega (arith, all))
    (c.requires.total ∙ ap sum_of (sym c.self.view_is) ∙ ap sum_of (sym (take-length codes)) ∙ ap (λ k. sum_of (take k codes)) (sym all))
    (omega (arith, all, c.requires.few)) (omega (arith, all, c.if-codes-eq1.false, c.requires.some))))
