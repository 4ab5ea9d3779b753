use Rattle.std.proofs.Common.{arith}
use Rattle.ot_operation.proofs.RunLemmas.{sound_fits}
use Rattle.ot_codes.proofs.Sound.{total_is}
use Rattle.ot_codes.proofs.codes.Codes.cursor.Goals as goal

pub cursor-requires : goal.cursor-requires
cursor-requires c =
    let i = c.self.invariant in
    omega (arith, total_is 0 c.self.inside.list, i.base_is, i.inserted_is, i.base_fits, i.target_fits)

pub returns-clause-fits : goal.returns-clause-fits
returns-clause-fits c = sound_fits c.self.invariant c.self.view_is
