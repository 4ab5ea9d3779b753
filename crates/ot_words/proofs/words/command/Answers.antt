use Rattle.std.proofs.Common.{ap, ap₂, codes, rules, ◌≡◌, ◌∙◌}
use Rattle.std.proofs.lemmas.Result.{IfOk-weaker}
use Rattle.clap.specs.Words.{app_of}
use Rattle.ot_words.specs.Requests.{◌+>◌, check_app, conform_app, explain_app, flagged_app, otbench_app, run_app}
use Rattle.ot_words.proofs.Shapes.{plain_of}
use Rattle.ot_words.proofs.words.command.Goals as goal

pub returns : goal.returns
unfolding otbench_app
returns c =
    let run : app_of c.in_ok-run.run' ≡ run_app = c.in_ok-run.ensures in
    let one = c.in_ok-program.ensures (ap plain_of run) ∙ ap₂ (◌+>◌) c.top.ensures run in
    let check : app_of c.in_ok-check.check ≡ check_app = c.in_ok-check.ensures in
    let two = c.in_ok-program-2.ensures (ap plain_of check) ∙ ap₂ (◌+>◌) one check in
    let three = c.in_ok-program-3.ensures (ap plain_of c.plain-debug.ensures) ∙ ap₂ (◌+>◌) two c.plain-debug.ensures in
    let four = c.in_ok-program-4.ensures (ap plain_of c.plain-asm.ensures) ∙ ap₂ (◌+>◌) three c.plain-asm.ensures in
    let five = c.in_ok-program-5.ensures (ap plain_of c.plain-dis.ensures) ∙ ap₂ (◌+>◌) four c.plain-dis.ensures in
    let judge : app_of c.in_ok-judge.judge ≡ flagged_app (codes "judge") (codes "json") = c.in_ok-judge.ensures in
    let six = c.in_ok-program-6.ensures (ap plain_of judge) ∙ ap₂ (◌+>◌) five judge in
    let steps : app_of c.in_ok-steps.steps ≡ flagged_app (codes "steps") (codes "documents") = c.in_ok-steps.ensures in
    let seven = c.in_ok-program-7.ensures (ap plain_of steps) ∙ ap₂ (◌+>◌) six steps in
    let explain : app_of c.in_ok-explain.explain ≡ explain_app = c.in_ok-explain.ensures in
    let eight = c.in_ok-program-8.ensures (ap plain_of explain) ∙ ap₂ (◌+>◌) seven explain in
    let conform : app_of c.in_ok-conform.conform ≡ conform_app = c.in_ok-conform.ensures in
    let nine = c.in_ok-program-9.ensures (ap plain_of conform) ∙ ap₂ (◌+>◌) eight conform in
    let ten = c.in_ok-program-10.ensures (ap plain_of c.plain-threads.ensures) ∙ ap₂ (◌+>◌) nine c.plain-threads.ensures in
    let eleven = c.in_ok-program-11.ensures (ap plain_of c.plain-complete.ensures) ∙ ap₂ (◌+>◌) ten c.plain-complete.ensures in
    let generate = c.in_ok-generate.ensures in
    IfOk-weaker c.joined-12.result _ _ (λ r h. h (ap plain_of generate) ∙ ap₂ (◌+>◌) eleven generate) c.joined-12.ensures

pub returns-in_err-program : goal.returns-in_err-program
returns-in_err-program c = let r = c.from_residual-in_err-program.ensures in search rules

pub returns-in_err-program-2 : goal.returns-in_err-program-2
returns-in_err-program-2 c = let r = c.from_residual-in_err-program-2.ensures in search rules

pub returns-in_err-program-3 : goal.returns-in_err-program-3
returns-in_err-program-3 c = let r = c.from_residual-in_err-program-3.ensures in search rules

pub returns-in_err-steps : goal.returns-in_err-steps
returns-in_err-steps c = let r = c.from_residual-in_err-steps.ensures in search rules

pub returns-in_err-conform : goal.returns-in_err-conform
returns-in_err-conform c = let r = c.from_residual-in_err-conform.ensures in search rules
