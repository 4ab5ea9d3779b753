use Rattle.std.proofs.Common.{◌≡◌, [], drop, map, string_bytes}
use Rattle.std.specs.Prelude.{decimal}
use Rattle.ot_values.specs.Items.{with_items}
use Rattle.ot_conform.proofs.members.letter_items.Given as goal

abbrev pub invariant-loop-letter : goal.invariant-loop-letter
invariant-loop-letter l = with_items (string_bytes l.items) (map decimal (drop l.letter-index l.letters)) ≡ with_items [] (map decimal l.letters)
