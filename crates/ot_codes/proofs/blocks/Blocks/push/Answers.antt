use Rattle.std.proofs.Common.{◌≡◌, ◌-◌, ◌∷◌, ◌++◌, [], List, get_or, sym, ap, subst, ◌∙◌, arith}
use Rattle.ot_codes.specs.declared.code.Code.{Code}
use Rattle.ot_codes.specs.declared.end.End.{End}
use Rattle.ot_codes.specs.Codes.{sum_of}
use Rattle.ot_codes.specs.Ends.{start, last_end, AreEnds}
use Rattle.ot_codes.proofs.Ends.{before_few, more_codes, more_ends, end_before_last, last_counted}
use Rattle.ot_codes.proofs.blocks.Blocks.push.Goals as goal

pub overflow_sub-count : goal.overflow_sub-count
overflow_sub-count c =
    let before = c.ended.ensures ∙ ap (λ (ends : List End). (last_end start ends).count) c.as_slice.ensures.value in
    omega (arith, before_few c.self.inside.codes.items c.self.inside.ends.items c.ended.result before c.self.invariant, c.len-count.ensures, c.self.inside.codes.ok.0)

pub invariant_of-self-then-count-ended-lt-BLOCK : goal.invariant_of-self-then-count-ended-lt-BLOCK
invariant_of-self-then-count-ended-lt-BLOCK c =
    let before = c.ended.ensures ∙ ap (λ (ends : List End). (last_end start ends).count) c.as_slice.ensures.value in
    subst (λ (codes : List Code). AreEnds start codes c.self.inside.ends.items) (sym c.in_ok-push.ensures.items)
    (more_codes c.self.inside.codes.items c.self.inside.ends.items c.ended.result before c.self.invariant (c.args.code ∷ [])
    (omega (arith, c.if-count-ended-lt-BLOCK.true, c.len-count.ensures, c.self.inside.codes.ok.0)))

pub less-requires : goal.less-requires
less-requires c =
    last_counted c.self.inside.codes.items (c.len-count.result - 1) c.args.total c.code.result (omega (arith, c.if-count-ended-lt-BLOCK.false, c.len-count.ensures, c.self.inside.codes.ok.0))
    (c.requires.total ∙ ap sum_of (sym c.self.view_is))
    (subst (λ (x : Code). x ≡ get_or c.self.inside.codes.items (c.len-count.result - 1) x) (sym c.code.ensures.is) c.index-last.ensures)

pub invariant_of-self-2 : goal.invariant_of-self-2
invariant_of-self-2 c =
    let codes = c.self.inside.codes.items in
    let before = c.ended.ensures ∙ ap (λ (ends : List End). (last_end start ends).count) c.as_slice.ensures.value in
    let end : End = record { sum = c.less.result; count = c.len-count.result - 1 } in
    let full = c.if-count-ended-lt-BLOCK.false in
    let one = c.from_ref.ensures.len in
    let all = c.len-count.ensures ∙ c.self.inside.codes.ok.0 in
    let last : c.code.result ≡ get_or codes (c.len-count.result - 1) c.code.result = subst (λ (x : Code). x ≡ get_or codes (c.len-count.result - 1) x) (sym c.code.ensures.is) c.index-last.ensures in
    subst (λ (cs : List Code). AreEnds start cs c.add.new.ends.items) (sym c.in_ok-add.ensures.codes)
    (subst (λ (es : List End). AreEnds start (codes ++ c.from_ref.result.now) es) (sym c.in_ok-add.ensures.ends)
    (more_ends codes c.self.inside.ends.items c.ended.result before c.self.invariant c.from_ref.result.now end (omega (arith, full)) (λ _. omega (arith, full)) (omega (arith, all))
    (end_before_last codes (c.len-count.result - 1) c.args.total c.less.result c.code.result (omega (arith, full, all)) (c.requires.total ∙ ap sum_of (sym c.self.view_is)) last c.less.ensures)
    (omega (arith, full, all, one)) (omega (arith, full, all, one))))
