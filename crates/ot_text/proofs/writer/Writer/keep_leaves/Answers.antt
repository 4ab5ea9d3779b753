use Rattle.std.proofs.Common.{◌≡◌, rules, refl, arith}
use Rattle.std.specs.Prelude.{IsTrue}
use Rattle.ot_text.proofs.Writing.{kept_leaves}
use Rattle.ot_text.proofs.writer.Writer.keep_leaves.Goals as goal

pub returns-clause-written : goal.returns-clause-written
returns-clause-written g c =
    let kept : IsTrue c.in_ok-keep.field-0 = search rules in
    let start : c.args.self.now.place.offset ≡ 0 = omega arith in
    kept_leaves g.T.Item.CAP g.T.Item.total c.args.old.now c.args.self.now _ c.find-to.result.0 c.find-to.result.1 c.args.count c.requires start (omega arith) c.find-to.ensures.count c.find-to.ensures.next c.in_ok-keep.ensures.draft (c.in_ok-keep.ensures.text kept) (c.in_ok-keep.ensures.place kept) refl start
