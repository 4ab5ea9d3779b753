use Rattle.std.proofs.Common.{◌≡◌, ◌∙◌, ◌++◌, ◌∷◌, ap, refl, suc, List, ℕ, rules, string_bytes, []}
use Rattle.std.specs.Prelude.{IfOk, codes, decimal}
use Rattle.std.proofs.lemmas.Result.{IfOk-weaker}
use Rattle.ot_isa.specs.Tagging.{chars_of, tagged_chars}
use Rattle.ot_model.specs.Table.{State}
use Rattle.ot_explain.specs.Words.{document_text, list_text}
use Rattle.ot_explain.proofs.paragraphs.opening_words.Goals as goal

abbrev opening_text : ℕ → ℕ → List ℕ → List ℕ
opening_text present clients start =
    codes "the opening: " ++ (decimal present ++ (codes " of " ++ (decimal clients ++ (codes " clients joined, every document is " ++ (start ++ codes "\n")))))

chars_tagged : (origin first : ℕ) (text : List ℕ) → chars_of (tagged_chars origin first text) ≡ text
chars_tagged origin first [] = refl
chars_tagged origin first (x ∷ text) = ap (λ (chars : List ℕ). x ∷ chars) (chars_tagged origin (suc first) text)

pub returns : goal.returns
returns c =
    let s = c.args.schedule.now in
    let m = c.args.machine.now in
    let shown : string_bytes c.push_list.new.text ≡ document_text s.start =
    c.in_ok-push_list.ensures ∙ ap (λ (t : List ℕ). t ++ list_text c.server_document.result.now) c.new-start.ensures.bytes ∙ ap list_text c.server_document.ensures
    ∙ ap (λ (t : State). list_text t.server) c.requires ∙ ap document_text (chars_tagged 65535 0 s.start) in
    let made : IfOk c.format.result (λ t. string_bytes t ≡ opening_text c.present-present.result c.clients-clients.result (string_bytes c.push_list.new.text)) = search rules in
    IfOk-weaker c.format.result _ _ (λ t e.
    e ∙ ap (λ (p : ℕ). opening_text p c.clients-clients.result (string_bytes c.push_list.new.text)) c.present-present.ensures
    ∙ ap (λ (k : ℕ). opening_text s.present k (string_bytes c.push_list.new.text)) c.clients-clients.ensures.value
    ∙ ap (opening_text s.present s.clients) shown) made
