use Rattle.std.proofs.Common.{◌≡◌, drop}
use Rattle.ot_conform.specs.Unknown.{are_word_bytes}
use Rattle.ot_conform.proofs.unknown.are_word_bytes.Given as goal

abbrev pub invariant-loop-byte : goal.invariant-loop-byte
invariant-loop-byte l = are_word_bytes l.bytes ≡ are_word_bytes (drop l.byte-index l.bytes)
