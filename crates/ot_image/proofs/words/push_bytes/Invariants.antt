use Rattle.std.proofs.Common.{◌≡◌, ◌++◌, drop, string_bytes}
use Rattle.ot_image.specs.Words.{bytes_text}
use Rattle.ot_image.proofs.words.push_bytes.Given as goal

abbrev pub invariant-loop-byte : goal.invariant-loop-byte
invariant-loop-byte l = string_bytes l.row ++ bytes_text (drop l.byte-index l.bytes) ≡ string_bytes l.fn.row ++ bytes_text l.bytes
