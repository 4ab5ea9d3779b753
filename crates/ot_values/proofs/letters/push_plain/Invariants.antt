use Rattle.std.proofs.Common.{◌≡◌, ◌++◌, map, take, string_bytes}
use Rattle.std.specs.Str.{encode_utf8_all}
use Rattle.ot_values.proofs.letters.push_plain.Given as goal

abbrev pub invariant-loop-item : goal.invariant-loop-item
invariant-loop-item g l = string_bytes l.text ≡ string_bytes l.fn.text ++ encode_utf8_all (map g.T.Letter.code (take l.item-index l.letters))
