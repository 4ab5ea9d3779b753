use Rattle.std.proofs.Common.{sym, arith, subst}
use Rattle.ot_operation.specs.Operation.{IsTooLong}
use Rattle.ot_operation.specs.Steps.{appended}
use Rattle.ot_codes.specs.Codes.{AreSound, run_of}
use Rattle.ot_codes.proofs.Appending.{sound_is}
use Rattle.ot_codes.proofs.Sound.{short_code, sound_put, total_is}
use Rattle.ot_codes.proofs.codes.Codes.put.Goals as goal

pub add-requires-clause-short : goal.add-requires-clause-short
add-requires-clause-short c =
    let i = c.self.invariant in
    omega (arith, short_code c.args.self.now c.args.code c.requires, total_is 0 c.self.inside.list, i.base_is, i.inserted_is, i.base_fits, i.target_fits)

pub add-requires-clause-total : goal.add-requires-clause-total
add-requires-clause-total c = sound_is c.self.inside.list c.self.inside.sum c.self.invariant

pub invariant_of-self-2 : goal.invariant_of-self-2
invariant_of-self-2 c =
    subst (λ sum. AreSound c.add.new.codes sum) (sym c.with-self-inside.ensures)
    (sound_put c.self.inside.list c.add.new.codes c.self.inside.sum c.args.code c.self.invariant c.in_ok-add.ensures.ok
    (subst (λ op. IsTooLong (appended op (run_of c.args.code)) → ⊥) (sym c.self.view_is) c.requires))
