use Rattle.std.proofs.Common.{◌≡◌}
use Rattle.ot_every.specs.Listing.{letters_of}
use Rattle.ot_every.proofs.Lettering.{is_even}
use Rattle.ot_every.proofs.edits.letters.Given as goal

abbrev pub invariant-loop-place : goal.invariant-loop-place
invariant-loop-place l = record { letters : l.text.items ≡ letters_of l.place l.edit; even : l.is_small ≡ is_even l.place }
