-- The first `join` of a client, instruction by instruction.
use Rattle.std.proofs.Common.{◌≡◌, ◌+◌, ℕ, true, false, List, drop, refl, add-one}
use Rattle.std.specs.Prelude.{Some, slice_get}
use Rattle.ot_isa.specs.declared.instruction.Instr.{Instr}
use Rattle.ot_model.proofs.States.{drop_entry}
use Rattle.ot_explain.specs.Reasons.{join_from, joins}

pub joins_here : (c n : ℕ) (is : List Instr) (i : Instr) → slice_get is n ≡ Some i → joins c i ≡ true → Some n ≡ join_from c n (drop n is)
joins_here c n is i at on = rw (drop_entry is n i at, on) refl

pub joins_later : (c n : ℕ) (is : List Instr) (i : Instr) → slice_get is n ≡ Some i → joins c i ≡ false → join_from c (n + 1) (drop (n + 1) is) ≡ join_from c n (drop n is)
joins_later c n is i at off = rw (add-one n, drop_entry is n i at, off) refl
