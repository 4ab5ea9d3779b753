use Rattle.std.proofs.Common.{◌≡◌, drop}
use Rattle.ot_conform.specs.Summed.{with_keys}
use Rattle.ot_conform.specs.Unknown.{all_named}
use Rattle.ot_conform.proofs.unknown.join_keys.Given as goal

-- the keys before are named
abbrev pub invariant-loop-named : goal.invariant-loop-named
invariant-loop-named l = with_keys (all_named l.more) (all_named l.fn.keys.items) ≡ with_keys (all_named (drop l.named-index l.more)) (all_named l.keys.items)
