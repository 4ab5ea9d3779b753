use Rattle.std.proofs.Common.{◌-◌, length, ap, arith}
use Rattle.ot_codes.specs.declared.end.End.{End}
use Rattle.ot_codes.specs.Ends.{start}
use Rattle.ot_codes.proofs.Ends.{last_is}
use Rattle.ot_codes.proofs.blocks.ended.Goals as goal

pub returns-in-len1-up : goal.returns-in-len1-up
returns-in-len1-up c = ap (λ (end : End). end.count) (last_is start c.args.ends.now (length c.args.ends.now - 1) _ (omega arith))
