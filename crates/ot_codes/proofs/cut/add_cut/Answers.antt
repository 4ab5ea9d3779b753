use Rattle.std.proofs.Common.{◌-◌, ◌∙◌, sym, arith}
use Rattle.ot_codes.proofs.Cutting.{longer_cut, other_cut, within_at}
use Rattle.ot_codes.proofs.cut.add_cut.Goals as goal

pub meets-requires : goal.meets-requires
meets-requires c =
    let ends = within_at 0 c.args.cuts.now.items (c.len-length.result - 1) c.index-last.result.now c.args.cut.at c.args.cut.from (omega arith) c.index-last.ensures c.requires.within in
    record { first = omega (arith, ends.0); second = omega (arith, ends.1) }

pub longer-requires : goal.longer-requires
longer-requires c =
    let ends = within_at 0 c.args.cuts.now.items (c.len-length.result - 1) c.index-last.result.now c.args.cut.at c.args.cut.from (omega arith) c.index-last.ensures c.requires.within in
    record { gone = omega (arith, ends.0); put = omega (arith, ends.1) }

pub returns-then-meets : goal.returns-then-meets
returns-then-meets c =
    rw c.longer.ensures
    (longer_cut c.args.cuts.now.items (c.len-length.result - 1) c.index-last.result.now c.args.cut (omega arith) c.index-last.ensures (sym c.meets.ensures ∙ c.if-meets.true))

pub returns : goal.returns
returns c =
    c.in_ok-push-2.ensures.items
    ∙ other_cut c.args.cuts.now.items (c.len-length.result - 1) c.index-last.result.now c.args.cut (omega arith) c.index-last.ensures (sym c.meets.ensures ∙ c.if-meets.false)
