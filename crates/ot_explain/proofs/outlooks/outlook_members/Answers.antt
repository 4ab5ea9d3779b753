use Rattle.std.proofs.Common.{◌∙◌, ℕ, Bool, List, Option, Some, ap, subst, sym}
use Rattle.std.specs.Prelude.{codes}
use Rattle.std.proofs.lemmas.Result.{IfOk-weaker}
use Rattle.ot_isa.specs.declared.elements.Tagged.{Tagged}
use Rattle.ot_explain.specs.OutlookJson.{depends_members, document_members, outlook_members}
use Rattle.ot_explain.proofs.Sentences.{agreed_quiet, differ_quiet, few_members, many_members}
use Rattle.ot_explain.proofs.outlooks.outlook_members.Goals as goal
use Rattle.ot_verdict.specs.Pending.{untaken}
use Rattle.ot_verdict.specs.Verdicts.{IsOutlook}

pub returns-in-Agreed : goal.returns-in-Agreed
returns-in-Agreed c =
    let s = c.args.machine.now in
    let is = subst (IsOutlook s) c.in-Agreed.is c.requires.outlook in
    IfOk-weaker c.document_members.result _ _
    (λ r h. h ∙ ap (λ (list : List Tagged). document_members (codes "must be") list) (sym is.1) ∙ ap (λ (b : Bool). outlook_members s b) (agreed_quiet s is.0))
    c.document_members.ensures

pub returns-in-WillBe : goal.returns-in-WillBe
returns-in-WillBe c =
    let s = c.args.machine.now in
    let is = subst (IsOutlook s) c.in-WillBe.is c.requires.outlook in
    IfOk-weaker c.document_members-in-WillBe.result _ _
    (λ r h. h ∙ ap (λ (list : List Tagged). document_members (codes "will be") list) is.2 ∙ few_members s (untaken s) is.1 ∙ ap (λ (b : Bool). outlook_members s b) (differ_quiet s is.0))
    c.document_members-in-WillBe.ensures

pub returns-in-Depends : goal.returns-in-Depends
returns-in-Depends c =
    let s = c.args.machine.now in
    let is = subst (IsOutlook s) c.in-Depends.is c.requires.outlook in
    IfOk-weaker c.depends_members.result _ _
    (λ r h. h ∙ ap (λ (numbers : List ℕ). depends_members numbers (Some c.in-Depends.first)) (c.as_slice.ensures.value ∙ is.2)
    ∙ ap (λ (o : Option ℕ). depends_members (untaken s) o) (sym is.3) ∙ many_members s (untaken s) is.1 ∙ ap (λ (b : Bool). outlook_members s b) (differ_quiet s is.0))
    c.depends_members.ensures
