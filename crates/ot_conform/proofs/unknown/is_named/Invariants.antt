use Rattle.std.proofs.Common.{◌≡◌, drop}
use Rattle.ot_conform.specs.Unknown.{all_named, is_named}
use Rattle.ot_conform.proofs.unknown.is_named.Given as goal

-- none of the keys before is this one
abbrev pub invariant-loop-named : goal.invariant-loop-named
invariant-loop-named l = is_named l.key (all_named l.keys) ≡ is_named l.key (all_named (drop l.named-index l.keys))
