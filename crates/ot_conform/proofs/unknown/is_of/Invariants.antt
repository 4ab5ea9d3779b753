use Rattle.std.proofs.Common.{◌≡◌, drop}
use Rattle.ot_conform.specs.Unknown.{is_of}
use Rattle.ot_conform.proofs.unknown.is_of.Given as goal

-- none of the keys before is spelled so
abbrev pub invariant-loop-key : goal.invariant-loop-key
invariant-loop-key l = is_of l.keys l.name ≡ is_of (drop l.key-index l.keys) l.name
