use Rattle.std.proofs.Common.{◌≡◌, ◌+◌, ◌++◌, ℕ, suc, take, sym, ap, ap₂, ◌∙◌, add-one}
use Rattle.ot_report.specs.Verdicts.{settling_lines}
use Rattle.ot_report.proofs.Waiting.{settled_more}
use Rattle.ot_report.proofs.verdicts.print_settling.Goals as goal

pub loop-convergence-preserved : goal.loop-convergence-preserved
loop-convergence-preserved c =
    let i = c.loop-convergence.convergence-index in
    let settling = c.args.settling.now in
    let more : settling_lines (take (i + 1) settling) ≡ settling_lines (take (suc i) settling) = ap (λ (n : ℕ). settling_lines (take n settling)) (add-one i) in
    c.in_ok-push_str.ensures.bytes
    ∙ ap₂ (◌++◌) c.loop-convergence.invariant (c.as_str.ensures.value ∙ c.in_ok-line.ensures)
    ∙ sym (settled_more i settling _ c.loop-convergence-test.true)
    ∙ sym more
