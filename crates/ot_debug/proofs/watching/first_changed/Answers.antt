use Rattle.std.proofs.Common.{get_or, subst}
use Rattle.std.proofs.lemmas.Option.{slice_get-get_or}
use Rattle.ot_model.specs.Table.{step}
use Rattle.ot_debug.specs.Changes.{Foretells}
use Rattle.ot_debug.specs.declared.command.Watched.TheVariants as watched
use Rattle.ot_debug.proofs.Firsts.{first_told, none_told, unchanged_next}
use Rattle.ot_debug.proofs.watching.first_changed.Goals as goal

pub returns-then-branch : goal.returns-then-branch
returns-then-branch c =
    let here = slice_get-get_or c.args.firsts.now c.loop-number.number-index 0 c.loop-number-test.true in
    first_told (step c.args.machine.now c.args.instr.now) c.args.machine.now c.args.watches.now c.args.firsts.now c.loop-number.number-index _ (get_or c.args.watches.now (get_or c.args.firsts.now c.loop-number.number-index 0) (watched.Doc 0)) c.requires.firsts c.loop-number.invariant here
    (slice_get-get_or c.args.watches.now _ _ (c.requires.firsts.there c.loop-number.number-index _ here))
    (subst (λ b. Foretells (step c.args.machine.now c.args.instr.now) c.args.machine.now (get_or c.args.watches.now (get_or c.args.firsts.now c.loop-number.number-index 0) (watched.Doc 0)) b) c.if-branch.true c.in_ok-changes_seen.ensures)

pub loop-number-preserved : goal.loop-number-preserved
loop-number-preserved c =
    let here = slice_get-get_or c.args.firsts.now c.loop-number.number-index 0 c.loop-number-test.true in
    unchanged_next (step c.args.machine.now c.args.instr.now) c.args.machine.now c.args.watches.now c.args.firsts.now c.loop-number.number-index _ (get_or c.args.watches.now (get_or c.args.firsts.now c.loop-number.number-index 0) (watched.Doc 0)) c.loop-number.invariant here
    (slice_get-get_or c.args.watches.now _ _ (c.requires.firsts.there c.loop-number.number-index _ here))
    (subst (λ b. Foretells (step c.args.machine.now c.args.instr.now) c.args.machine.now (get_or c.args.watches.now (get_or c.args.firsts.now c.loop-number.number-index 0) (watched.Doc 0)) b) c.if-branch.false c.in_ok-changes_seen.ensures)

pub returns : goal.returns
returns c =
    none_told (step c.args.machine.now c.args.instr.now) c.args.machine.now c.args.watches.now c.args.firsts.now c.loop-number.number-index c.requires.firsts c.loop-number-test.false c.loop-number.invariant
