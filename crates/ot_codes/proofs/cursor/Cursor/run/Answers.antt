use Rattle.std.proofs.Common.{refl, arith}
use Rattle.ot_codes.specs.Codes.{others_of}
use Rattle.ot_codes.proofs.Running.{part_of, sum_small, both_small, whole_block, block_sum}
use Rattle.ot_codes.proofs.cursor.Cursor.run.Goals as goal

pub of-taken-requires : goal.of-taken-requires
of-taken-requires c =
    let s = c.self.inside in
    let is = block_sum s.head s.block.now s.sum c.in-Some-sum.sum c.in-Some.first c.in-Some-sum.is c.in-Some.is c.self.invariant.1 in
    sum_small c.args.self.now s.head (others_of s.block.now) s.behind c.in-Some.first c.self.view_is c.self.invariant.3 c.in-Some.is c.in-Some-sum.sum is

pub plus-requires-clause-kept : goal.plus-requires-clause-kept
plus-requires-clause-kept c =
    let s = c.self.inside in
    let is = block_sum s.head s.block.now s.sum c.in-Some-sum.sum c.in-Some.first c.in-Some-sum.is c.in-Some.is c.self.invariant.1 in
    let small =
    both_small c.args.self.now s.head (others_of s.block.now) s.behind c.in-Some.first c.self.view_is c.self.invariant.3 c.in-Some.is
    c.run-more.result.0 c.run-more.result.2 c.in-Some-sum.sum c.run-more.result.1 is c.run-more.ensures.parts c.run-more.ensures.sum in
    omega (arith, small)

pub plus-requires-clause-deleted : goal.plus-requires-clause-deleted
plus-requires-clause-deleted c =
    let s = c.self.inside in
    let is = block_sum s.head s.block.now s.sum c.in-Some-sum.sum c.in-Some.first c.in-Some-sum.is c.in-Some.is c.self.invariant.1 in
    let small =
    both_small c.args.self.now s.head (others_of s.block.now) s.behind c.in-Some.first c.self.view_is c.self.invariant.3 c.in-Some.is
    c.run-more.result.0 c.run-more.result.2 c.in-Some-sum.sum c.run-more.result.1 is c.run-more.ensures.parts c.run-more.ensures.sum in
    omega (arith, small)

pub plus-requires-clause-inserted : goal.plus-requires-clause-inserted
plus-requires-clause-inserted c =
    let s = c.self.inside in
    let is = block_sum s.head s.block.now s.sum c.in-Some-sum.sum c.in-Some.first c.in-Some-sum.is c.in-Some.is c.self.invariant.1 in
    let small =
    both_small c.args.self.now s.head (others_of s.block.now) s.behind c.in-Some.first c.self.view_is c.self.invariant.3 c.in-Some.is
    c.run-more.result.0 c.run-more.result.2 c.in-Some-sum.sum c.run-more.result.1 is c.run-more.ensures.parts c.run-more.ensures.sum in
    omega (arith, small)

pub returns-then-taken-limit : goal.returns-then-taken-limit
returns-then-taken-limit c =
    let s = c.self.inside in
    let is = block_sum s.head s.block.now s.sum c.in-Some-sum.sum c.in-Some.first c.in-Some-sum.is c.in-Some.is c.self.invariant.1 in
    rw c.at.ensures
    (whole_block c.args.self.now s.head (others_of s.block.now) s.behind c.in-Some.first c.self.view_is c.self.invariant.3 c.in-Some.is
    c.run-more.result.0 c.run-more.result.2 c.in-Some-sum.sum c.run-more.result.1 is c.run-more.ensures.parts c.run-more.ensures.sum
    c.args.limit c.args.by s.block.now c.plus.result (part_of s.head s.block.now c.in-Some.first c.in-Some.is c.self.invariant.0) c.self.invariant.2 refl c.plus.ensures
    (omega (arith, c.run-more.ensures.fits, c.of-taken.ensures, c.if-taken-limit.true)))
