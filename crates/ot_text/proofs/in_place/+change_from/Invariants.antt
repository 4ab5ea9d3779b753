use Rattle.ot_text.proofs.in_place.+change_from.Given as goal

abbrev pub decreases-change_from : goal.decreases-change_from
decreases-change_from g l = l.most
