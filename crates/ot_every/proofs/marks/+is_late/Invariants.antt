use Rattle.ot_every.proofs.marks.+is_late.Given as goal

abbrev pub decreases-is_late : goal.decreases-is_late
decreases-is_late l = l.count
