use Rattle.std.proofs.Common.{◌∙◌, ◌++◌, ℕ, List, ap, string_bytes}
use Rattle.std.specs.Prelude.{codes}
use Rattle.std.proofs.lemmas.Result.{IfOk-weaker}
use Rattle.ot_steps.specs.Steps.{is_quiet}
use Rattle.ot_verdict.specs.Pending.{absent, waiting}
use Rattle.ot_verdict.specs.declared.waiting.Waiting.{Waiting}
use Rattle.ot_explain.specs.OutlookJson.{client_items, outlook_members, waiting_items}
use Rattle.ot_explain.proofs.outlooks.verdict_members.Goals as goal

-- the members from their parts
abbrev joined : List ℕ → List ℕ → List ℕ → List ℕ
joined outlook waiting absent = outlook ++ (codes ",\"waiting\":[" ++ (waiting ++ (codes "],\"absent\":[" ++ (absent ++ codes "]"))))

pub returns : goal.returns
returns c =
    let s = c.args.machine.now in
    let outlook = outlook_members s (is_quiet s) in
    let waits = c.in_ok-waiting.ensures ∙ ap (λ (ws : List Waiting). waiting_items s ws) (c.as_slice.ensures.value ∙ c.in_ok-verdict.ensures.waiting) in
    let absents = c.in_ok-absent.ensures ∙ ap (λ (numbers : List ℕ). client_items numbers) (c.as_slice-2.ensures.value ∙ c.in_ok-verdict.ensures.absent) in
    IfOk-weaker c.format.result _ _
    (λ r h. h ∙ ap (λ (text : List ℕ). joined text (string_bytes c.in_ok-waiting.waiting) (string_bytes c.in_ok-absent.absent)) c.in_ok-outlook.ensures
    ∙ ap (λ (text : List ℕ). joined outlook text (string_bytes c.in_ok-absent.absent)) waits ∙ ap (λ (text : List ℕ). joined outlook (waiting_items s (waiting s)) text) absents)
    c.format.ensures.ok
