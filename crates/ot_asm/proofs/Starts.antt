-- A start text by its length, and what running out of memory hides on the line of an edit.
use Rattle.std.proofs.Common.{◌≡◌, ◌<◌, ◌≤◌, ℕ, List, length, Bool, true, false, nat_le, nat_lt, Option, Some, Result, Ok, Err, refl, if◌then◌else◌}
use Rattle.std.proofs.lemmas.Bool.{lt-ltb, le-ltb}
use Rattle.serde_json.specs.Data.{Data}
use Rattle.ot_operation.specs.Operation.{Operation}
use Rattle.ot_isa.specs.Program.{Program, opening, with_instr}
use Rattle.ot_isa.specs.declared.instruction.Instr.TheVariants as instr
use Rattle.ot_json.specs.Reading.{operation_of_json}
use Rattle.ot_json.specs.declared.fault.OpFault.{OpFault}
use Rattle.ot_json.specs.declared.fault.OpFault.TheVariants as op_fault
use Rattle.ot_json.proofs.Faults.{never_memory}
use Rattle.ot_asm.specs.Stepping.{drafted, pushed, with_start, with_edit, HidesOnlyJson}
use Rattle.ot_asm.specs.declared.fault.Kind.TheVariants.{TooLong, TooMany}
use Rattle.ot_asm.specs.declared.keyword.Keyword.TheVariants as word
use Rattle.ot_asm.specs.declared.section.Section.TheVariants.{InBody}

pub start_long : (program : Program) (start : List ℕ) → 40000 < length start → with_start program (Some start) ≡ Err TooLong
start_long program start h = let e : nat_lt 40000 (length start) ≡ true = lt-ltb 40000 (length start) h in rw e refl

pub start_short : (program : Program) (start : List ℕ) → length start ≤ 40000 → with_start program (Some start) ≡ drafted InBody (opening program.clients program.present start)
start_short program start h = let e : nat_lt 40000 (length start) ≡ false = le-ltb 40000 (length start) h in rw e refl

hides_push : (program : Program) (client : ℕ) (op : Operation ℕ) → HidesOnlyJson word.Edit (pushed program (instr.Edit client op))
hides_push program client op = by (nat_le 100000 (length program.instrs))
  where
    by : (full : Bool) → HidesOnlyJson word.Edit (if full then Err TooMany else drafted InBody (with_instr program (instr.Edit client op)))
    by true = tt
    by false = tt

-- the faults behind the client's number of an edit are of its JSON text, or of the number of instructions
pub hides_edit : (program : Program) (client : ℕ) (d : Option Data) → HidesOnlyJson word.Edit (with_edit program client (operation_of_json d))
hides_edit program client d = by (operation_of_json d) (never_memory d)
  where
    by : (r : Result (Operation ℕ) OpFault) → (r ≡ Err op_fault.Memory → ⊥) → HidesOnlyJson word.Edit (with_edit program client r)
    by (Ok op) h = hides_push program client op
    by (Err op_fault.NotJson) h = tt
    by (Err op_fault.NotArray) h = tt
    by (Err (op_fault.BadComponent i)) h = tt
    by (Err op_fault.TooLong) h = tt
    by (Err op_fault.Memory) h = absurd (h refl)
