use Rattle.std.proofs.Common.{◌≡◌, Result, Ok, Err, ℕ, inr}
use Rattle.std.specs.Prelude.{IfOk, Vec}
use Rattle.std.specs.declared.alloc.Global.{Global}
use Rattle.ot_isa.specs.Program.{Program, IsProgram}
use Rattle.ot_image.specs.Spelling.{bytes2, IsImageOf}
use Rattle.ot_image.proofs.writing.encode.Goals as goal

is_image : {E : Type 0} (r : Result (Vec ℕ Global) E) (p : Program) → IsProgram p → IfOk r (λ v. v.items ≡ bytes2 p) → IfOk r (λ v. IsImageOf v.items p)
is_image (Ok v) p is made = (is, inr made)
is_image (Err e) p is made = tt

pub returns-clause-image : goal.returns-clause-image
returns-clause-image c = is_image c.written.result c.args.schedule.now c.clients-clients.ensures.limits c.written.ensures
