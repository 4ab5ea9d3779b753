use Rattle.std.proofs.Common.{◌≡◌, map}
use Rattle.std.specs.Prelude.{vec_items}
use Rattle.ot_every.specs.Listing.{texts_from}
use Rattle.ot_every.proofs.edits.texts.Given as goal

abbrev pub invariant-loop-edit : goal.invariant-loop-edit
invariant-loop-edit l = map vec_items l.texts.items ≡ texts_from l.count 0 l.edit
