use Rattle.std.proofs.Common.{Option, Some, ◌++◌, ◌∙◌, Bool, List, ap, string_bytes, subst, sym}
use Rattle.std.specs.Prelude.{codes}
use Rattle.std.proofs.lemmas.Result.{on_ok_weaker}
use Rattle.ot_isa.specs.declared.elements.Tagged.{Tagged}
use Rattle.ot_explain.specs.Agreeing.{agreed_words, depends_words, ending_words, future_words, outlook_words, waiting_words}
use Rattle.ot_explain.proofs.Sentences.{agreed_quiet, differ_quiet, few_words, many_words}
use Rattle.ot_explain.proofs.Texts.{three}
use Rattle.ot_explain.proofs.agreeing.push_outlook.Goals as goal
use Rattle.ot_verdict.specs.Pending.{untaken, waiting}
use Rattle.ot_verdict.specs.Verdicts.{IsOutlook}
use Rattle.ot_verdict.specs.declared.waiting.Waiting.{Waiting}
use Rattle.std.specs.Prelude.{ℕ}

pub returns-in-Agreed : goal.returns-in-Agreed
returns-in-Agreed c =
    let s = c.args.machine.now in
    let old = string_bytes c.args.text.now in
    let is = subst (IsOutlook s) c.in-Agreed.is c.requires.outlook in
    on_ok_weaker c.push_sentence.result
    (λ e. e ∙ ap (λ (list : List Tagged). old ++ agreed_words list) (sym is.1) ∙ ap (λ (b : Bool). old ++ outlook_words s b) (agreed_quiet s is.0))
    c.push_sentence.ensures

pub returns-in_ok-push_all_waiting-in-WillBe : goal.returns-in_ok-push_all_waiting-in-WillBe
returns-in_ok-push_all_waiting-in-WillBe c =
    let s = c.args.machine.now in
    let old = string_bytes c.args.text.now in
    let before = string_bytes c.push_str.new.self in
    let mid = string_bytes c.push_all_waiting.new.text in
    let is = subst (IsOutlook s) c.in-WillBe.is c.requires.outlook in
    on_ok_weaker c.push_sentence-in-WillBe.result
    (λ e. three old (codes "They may still differ") (waiting_words s (waiting s)) (ending_words s (untaken s)) c.in_ok-push_str-in-WillBe.ensures.bytes
    (c.in_ok-push_all_waiting-in-WillBe.ensures ∙ ap (λ (ws : List Waiting). before ++ waiting_words s ws) (c.as_slice.ensures.value ∙ c.requires.waiting))
    (e ∙ ap (λ (list : List Tagged). mid ++ future_words list) is.2 ∙ ap (λ (t : List ℕ). mid ++ t) (few_words s (untaken s) is.1))
    ∙ ap (λ (b : Bool). old ++ outlook_words s b) (differ_quiet s is.0))
    c.push_sentence-in-WillBe.ensures

pub returns-in_ok-push_all_waiting-in-Depends : goal.returns-in_ok-push_all_waiting-in-Depends
returns-in_ok-push_all_waiting-in-Depends c =
    let s = c.args.machine.now in
    let old = string_bytes c.args.text.now in
    let before = string_bytes c.push_str-in-Depends.new.self in
    let mid = string_bytes c.push_all_waiting-in-Depends.new.text in
    let is = subst (IsOutlook s) c.in-Depends.is c.requires.outlook in
    on_ok_weaker c.push_depends.result
    (λ e. three old (codes "They may still differ") (waiting_words s (waiting s)) (ending_words s (untaken s)) c.in_ok-push_str-in-Depends.ensures.bytes
    (c.in_ok-push_all_waiting-in-Depends.ensures ∙ ap (λ (ws : List Waiting). before ++ waiting_words s ws) (c.as_slice-in-Depends.ensures.value ∙ c.requires.waiting))
    (e ∙ ap (λ (numbers : List ℕ). mid ++ depends_words numbers (Some c.in-Depends.first)) (c.as_slice-in-Depends-2.ensures.value ∙ is.2) ∙ ap (λ (o : Option ℕ). mid ++ depends_words (untaken s) o) (sym is.3) ∙ ap (λ (t : List ℕ). mid ++ t) (many_words s (untaken s) is.1))
    ∙ ap (λ (b : Bool). old ++ outlook_words s b) (differ_quiet s is.0))
    c.push_depends.ensures
