use Rattle.std.proofs.Common.{◌≡◌, ◌++◌, ◌∷◌, [], List, ℕ, decimal, false, append_assoc, ◌∙◌}
use Rattle.std.specs.Prelude.{codes}
use lib.Utf8.{encode}
use Rattle.ot_steps.specs.Held.{printed_of}
use Rattle.ot_steps.specs.Text.{fields, fields_text}
use Rattle.ot_conform.proofs.answers.due_text.Goals as goal

-- a line ends with LF
ends_line : (n a : List ℕ) → codes "{\"at\":" ++ (n ++ (a ++ codes "}\n")) ≡ (codes "{\"at\":" ++ (n ++ (a ++ 125 ∷ []))) ++ 10 ∷ []
ends_line n a = simp append_assoc

pub unreachable-requires : goal.unreachable-requires
unfolding encode
unreachable-requires c =
    let line = printed_of false c.args.line.now in
    let body = fields_text (fields line) in
    c.in-None.ensures.cases (codes "{\"at\":" ++ (decimal line.at ++ (body ++ 125 ∷ [])))
    (c.as_str.ensures.value ∙ c.in_ok-text.ensures ∙ ends_line (decimal line.at) body)
