use Rattle.std.proofs.Common.{length, ap, arith}
use Rattle.ot_codes.specs.Ends.{start}
use Rattle.ot_codes.proofs.Ends.{set_late}
use Rattle.ot_codes.proofs.blocks.Blocks.set.Goals as goal

pub invariant_of-self : goal.invariant_of-self
invariant_of-self c = set_late start c.self.inside.codes.items c.self.inside.ends.items c.args.place c.args.code c.self.invariant (omega (arith, c.requires.late, ap length c.self.view_is))
