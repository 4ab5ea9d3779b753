use Rattle.std.proofs.Common.{ℕ, ◌-◌, subst}
use Rattle.ot_every.specs.Listing.{each_from, sessions}
use Rattle.ot_every.specs.Walking.{Visits, VisitsPart}
use Rattle.ot_every.specs.declared.parting.Parting.{Parting}
use Rattle.ot_every.proofs.HandedOn.{parted, parted_part}
use Rattle.ot_every.proofs.Stepping.{always_err}
use Rattle.ot_every.proofs.parting.visit_part.Goals as goal

pub returns-in_err-visit_sessions-clause-err : goal.returns-in_err-visit_sessions-clause-err
returns-in_err-visit_sessions-clause-err g c =
    let R = g.V.Visitor.visits in
    let S = g.V.Visitor.stops in
    let all = sessions c.args.space.now in
    let w = c.visit_sessions.new.visitor in
    let v : Parting g.row.V.Denot = record { visitor = c.args.visitor; between = c.between.result; left = c.before-2.result } in
    let h = parted_part R S v w c.args.output.now c.visit_sessions.new.output all c.in_err-visit_sessions.ensures.err in
    let h1 = subst (λ (n : ℕ). VisitsPart R S c.args.visitor c.args.output.now (each_from n c.before-2.result all) w.visitor c.visit_sessions.new.output) c.between.ensures h in
    always_err c.from_residual.result
    (w.visitor, subst (λ (n : ℕ). VisitsPart R S c.args.visitor c.args.output.now (each_from (c.args.part.now.parts - 1) n all) w.visitor c.visit_sessions.new.output) c.before-2.ensures h1)

pub returns-clause-ok : goal.returns-clause-ok
returns-clause-ok g c =
    let R = g.V.Visitor.visits in
    let S = g.V.Visitor.stops in
    let all = sessions c.args.space.now in
    let w = c.visit_sessions.new.visitor in
    let v : Parting g.row.V.Denot = record { visitor = c.args.visitor; between = c.between.result; left = c.before-2.result } in
    let h = parted R S v w c.args.output.now c.visit_sessions.new.output all c.in_ok-visit_sessions.ensures.ok in
    let h1 = subst (λ (n : ℕ). Visits R c.args.visitor c.args.output.now (each_from n c.before-2.result all) w.visitor c.visit_sessions.new.output) c.between.ensures h in
    subst (λ (n : ℕ). Visits R c.args.visitor c.args.output.now (each_from (c.args.part.now.parts - 1) n all) w.visitor c.visit_sessions.new.output) c.before-2.ensures h1
