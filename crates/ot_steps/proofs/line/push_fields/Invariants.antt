use Rattle.std.proofs.Common.{◌≡◌, ◌++◌, drop, string_bytes}
use Rattle.ot_steps.specs.Held.{printed_of}
use Rattle.ot_steps.specs.Text.{fields_of, fields_text}
use Rattle.ot_steps.proofs.line.push_fields.Given as goal

-- what is written, and what is left
abbrev pub invariant-loop-key : goal.invariant-loop-key
invariant-loop-key l =
    string_bytes l.fn.text ++ fields_text (fields_of l.keys (printed_of l.documents l.line)) ≡ string_bytes l.text ++ fields_text (fields_of (drop l.key-index l.keys) (printed_of l.documents l.line))
