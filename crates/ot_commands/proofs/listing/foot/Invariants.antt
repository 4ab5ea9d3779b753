use Rattle.std.proofs.Common.{◌≡◌, map}
use Rattle.std.specs.Prelude.{string_bytes}
use Rattle.std.specs.List.{range_with_len}
use Rattle.ot_isa.specs.declared.instruction.Instr.TheVariants.{Read}
use Rattle.ot_asm.specs.Canonical.{instr_text, lines_text}
use Rattle.ot_commands.proofs.listing.foot.Given as goal

abbrev pub invariant-loop-client : goal.invariant-loop-client
invariant-loop-client l = string_bytes l.text ≡ lines_text (map instr_text (map Read (range_with_len 0 l.client)))
