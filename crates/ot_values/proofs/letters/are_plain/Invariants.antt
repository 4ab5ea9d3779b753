use Rattle.ot_values.proofs.Escaping.{IsPlainTo}
use Rattle.ot_values.proofs.letters.are_plain.Given as goal

abbrev pub invariant-loop-item : goal.invariant-loop-item
invariant-loop-item g l = IsPlainTo g.T.Letter.code l.letters l.item-index
