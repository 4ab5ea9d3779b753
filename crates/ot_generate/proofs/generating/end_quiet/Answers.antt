use Rattle.std.proofs.Common.{length, sym, subst}
use Rattle.ot_isa.specs.Program.{Program}
use Rattle.ot_machine.specs.Orders.{IsWhole}
use Rattle.ot_generate.specs.Generated.{EndsRead, reads_from}
use Rattle.ot_generate.specs.Walks.{IsRead, WalkView}
use Rattle.ot_generate.proofs.Reading.{ends_read, is_whole}
use Rattle.ot_generate.proofs.generating.end_quiet.Goals as goal

pub returns-clause-whole : goal.returns-clause-whole
returns-clause-whole c = subst (λ (p : Program). IsWhole p) (sym c.finish.ensures.value) (is_whole c.read_all.new.walk c.finish.ensures.kept)

pub returns-clause-ends : goal.returns-clause-ends
returns-clause-ends c =
    let read = subst (λ (v : WalkView). IsRead v (reads_from 0 v.state.clients) c.read_all.new.walk) c.open_up.ensures c.in_ok-read_all.ensures in
    subst (λ (p : Program). EndsRead (length c.args.walk.recorded.instrs) p) (sym c.finish.ensures.value) (ends_read c.args.walk c.read_all.new.walk c.requires.quiet read c.finish.ensures.kept)
