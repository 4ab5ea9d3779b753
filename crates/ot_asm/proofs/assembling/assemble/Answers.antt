use Rattle.ot_asm.proofs.Running.{ok_of_two}
use Rattle.ot_asm.proofs.Read.{spells}
use Rattle.ot_asm.proofs.Only.{only}
use Rattle.ot_asm.proofs.assembling.assemble.Goals as goal

pub returns-clause-spells : goal.returns-clause-spells
returns-clause-spells c =
    let ok = rw c.as_bytes.ensures.value at c.assemble_bytes.ensures.ok in
    ok_of_two c.assemble_bytes.result _ _ _ (λ s e limits. spells c.args.text.now s e limits) ok c.assemble_bytes.ensures.limits

pub returns-clause-only : goal.returns-clause-only
returns-clause-only c =
    let ok = rw c.as_bytes.ensures.value at c.assemble_bytes.ensures.ok in
    let err = rw c.as_bytes.ensures.value at c.assemble_bytes.ensures.err in
    λ p is. only c.args.text.now c.assemble_bytes.result p is ok err
