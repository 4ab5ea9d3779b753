use Rattle.std.proofs.Common.{◌+◌, ◌++◌, List, take, ap, refl, ◌∙◌, arith, length-take}
use Rattle.ot_codes.specs.declared.code.Code.{Code}
use Rattle.ot_codes.specs.Codes.{first_of, others_of, sum_of, added, total_of}
use Rattle.ot_codes.proofs.Running.{head_is, part_of, part_taken, others_taken, block_rest, rest_small, behind_small, part_is}
use Rattle.ot_codes.proofs.cursor.Cursor.part.Goals as goal

pub fitting-others-requires-clause-small : goal.fitting-others-requires-clause-small
fitting-others-requires-clause-small c =
    let s = c.self.inside in
    omega (arith, rest_small c.args.self.now s.head (others_of s.block.now) s.behind c.args.first c.self.view_is c.self.invariant.3 c.requires c.with-sum.result c.with-sum.ensures, ap total_of (block_rest s.block.now 1 0 refl))

pub within-requires-clause-small : goal.within-requires-clause-small
within-requires-clause-small c =
    let s = c.self.inside in
    behind_small c.args.self.now s.head (others_of s.block.now) s.behind c.args.first c.self.view_is c.self.invariant.3 c.requires
    c.fitting-others.result.0 _ (block_rest s.block.now (c.fitting-others.result.0 + 1) c.fitting-others.result.0 refl)

pub returns : goal.returns
returns c =
    let s = c.self.inside in
    let part = part_of s.head s.block.now c.args.first (head_is s.head (others_of s.block.now ++ s.behind) c.args.first (ap first_of c.self.view_is ∙ c.requires)) c.self.invariant.0 in
    rw c.none.ensures
    (part_is c.args.self.now s.head (others_of s.block.now) s.behind c.args.first c.self.view_is c.self.invariant.3 c.requires
    c.args.limit c.args.by c.fitting-others.result.0 _ _ c.within.result c.with-sum.result c.fitting-others.result.1
    (part_taken c.args.first s.block.now (c.fitting-others.result.0 + 1) c.fitting-others.result.0 refl part) (omega (arith, c.self.invariant.2, length-take (c.fitting-others.result.0 + 1) s.block.now)) c.with-sum.ensures
    (others_taken s.block.now (c.fitting-others.result.0 + 1) c.fitting-others.result.0 refl)
    (block_rest s.block.now (c.fitting-others.result.0 + 1) c.fitting-others.result.0 refl) c.within.ensures
    (c.fitting-others.ensures.sum ∙ ap (λ (codes : List Code). added c.with-sum.result (sum_of (take c.fitting-others.result.0 codes))) (block_rest s.block.now 1 0 refl))
    c.fitting-others.ensures.fits)
