use Rattle.ot_every.proofs.edits.+push_ends.Given as goal

abbrev pub decreases-push_ends : goal.decreases-push_ends
decreases-push_ends l = l.left
