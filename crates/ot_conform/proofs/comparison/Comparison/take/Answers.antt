use Rattle.std.proofs.Common.{sym, ◌∙◌}
use Rattle.ot_conform.specs.Ports.{front}
use Rattle.ot_conform.specs.Read.{read_as}
use Rattle.ot_conform.proofs.Settling.{passed_all, rest_over}
use Rattle.ot_conform.proofs.comparison.Comparison.take.Goals as goal

pub returns-then-needs_none-clause-decided : goal.returns-then-needs_none-clause-decided
returns-then-needs_none-clause-decided c = passed_all c.args.schedule.now c.args.self.now (read_as c.args.line) (sym c.needs_none.ensures ∙ c.if-needs_none.true)

pub returns-in_ok-take_behind-in-Over-clause-decided : goal.returns-in_ok-take_behind-in-Over-clause-decided
returns-in_ok-take_behind-in-Over-clause-decided c =
    λ lines. rest_over c.args.schedule.now c.args.self.now (read_as c.args.line) (front (read_as c.args.line) lines) c.in_ok-take_behind-in-Over.field-0 c.in-Over.is (c.in_ok-take_behind-in-Over.ensures lines)
