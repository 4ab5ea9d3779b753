use Rattle.std.proofs.Common.{◌≤◌, length, arith, sym, ◌∙◌}
use Rattle.std.proofs.lemmas.Option.{slice_get_within}
use Rattle.ot_conform.specs.Read.{read_as}
use Rattle.ot_conform.proofs.Going.{passes_more}
use Rattle.ot_conform.proofs.comparison.Comparison.pass_over.Goals as goal

pub passes_next-requires : goal.passes_next-requires
passes_next-requires c =
    let less = slice_get_within c.args.schedule.now.instrs c.loop-instr.self.place c.in-Some.instr.now c.in-Some.ensures.some in
    let most : length c.args.schedule.now.instrs ≤ 100000 = c.clients-clients.ensures.limits.instrs_fit in
    omega (arith, less, most)

pub overflow_add-self : goal.overflow_add-self
overflow_add-self c =
    let less = slice_get_within c.args.schedule.now.instrs c.loop-instr.self.place c.in-Some.instr.now c.in-Some.ensures.some in
    let most : length c.args.schedule.now.instrs ≤ 100000 = c.clients-clients.ensures.limits.instrs_fit in
    omega (arith, less, most)

pub loop-instr-smaller : goal.loop-instr-smaller
loop-instr-smaller c =
    let less = slice_get_within c.args.schedule.now.instrs c.loop-instr.self.place c.in-Some.instr.now c.in-Some.ensures.some in
    omega (arith, less)

pub loop-instr-preserved : goal.loop-instr-preserved
loop-instr-preserved c =
    passes_more c.args.schedule.now c.args.self.now c.loop-instr.self (read_as c.args.line.now) c.in-Some.instr.now c.perform.new.self _ c.loop-instr.invariant c.in-Some.ensures.some c.in_default-perform.ensures.effect.led
    (sym c.passes_next.ensures ∙ c.if-not-passes_next.false)
