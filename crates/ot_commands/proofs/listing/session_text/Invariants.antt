use Rattle.std.proofs.Common.{◌≡◌, ◌++◌, map, take}
use Rattle.std.specs.Prelude.{string_bytes}
use Rattle.ot_asm.specs.Canonical.{instr_text, lines_text}
use Rattle.ot_commands.proofs.listing.session_text.Given as goal

abbrev pub invariant-loop-place : goal.invariant-loop-place
invariant-loop-place l = string_bytes l.text ≡ string_bytes l.printer.head ++ lines_text (map instr_text (take l.place l.session))
