use Rattle.ot_text.proofs.document.Doc.pieces.Goals as goal

pub invariant_of-result : goal.invariant_of-result
invariant_of-result g c = rw c.leaves.ensures c.leaf_count.ensures.leaves
