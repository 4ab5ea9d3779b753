-- The lines of clients, one by one.
use Rattle.std.proofs.Common.{◌≡◌, ℕ, zero, suc, ◌+◌, List, [], ◌∷◌, ◌++◌, take, refl, sym, ap, ◌∙◌, arith, Option, Some, None}
use Rattle.std.specs.Prelude.{slice_get}
use Rattle.std.specs.Option.{option_map}
use Rattle.std.proofs.lemmas.List.{append_assoc, append-nil}
use Rattle.ot_isa.specs.declared.elements.Tagged.{Tagged}
use Rattle.ot_model.specs.Table.{Client}
use Rattle.ot_machine.specs.declared.state.Phase.{Phase}
use Rattle.ot_machine.specs.Readers.{phase_name}
use Rattle.ot_report.specs.Printed.{client_line, client_lines}
use Rattle.ot_report.specs.RunJson.{client_json, client_parts, clients_json}
use Rattle.ot_values.specs.Values.{phase_word}

-- one more line
pub lines_more : (from i n : ℕ) (xs : List Client) (text : List ℕ) → n ≡ from + i → option_map (client_line n) (slice_get xs i) ≡ Some text
    → client_lines from (take (suc i) xs) ≡ client_lines from (take i xs) ++ text
lines_more from i n [] text e at = absurd cc
lines_more from zero n (x ∷ xs) text e at =
    let here : n ≡ from = omega (arith, e) in
    append-nil (client_line from x) ∙ ap (λ (k : ℕ). client_line k x) (sym here) ∙ some_same (client_line n x) text at
  where
    some_same : (a b : List ℕ) → Some a ≡ Some b → a ≡ b
    some_same a b same = cc
lines_more from (suc i) n (x ∷ xs) text e at =
    ap (λ (t : List ℕ). client_line from x ++ t) (lines_more (suc from) i n xs text (omega (arith, e)) at)
    ∙ sym (append_assoc (client_line from x) (client_lines (suc from) (take i xs)) text)

-- the same as JSON
pub objects_more : (from i n : ℕ) (xs : List Client) (text : List ℕ) → n ≡ from + i → option_map (client_json n) (slice_get xs i) ≡ Some text
    → clients_json from (take (suc i) xs) ≡ clients_json from (take i xs) ++ text
objects_more from i n [] text e at = absurd cc
objects_more from zero n (x ∷ xs) text e at =
    let here : n ≡ from = omega (arith, e) in
    append-nil (client_json from x) ∙ ap (λ (k : ℕ). client_json k x) (sym here) ∙ some_same (client_json n x) text at
  where
    some_same : (a b : List ℕ) → Some a ≡ Some b → a ≡ b
    some_same a b same = cc
objects_more from (suc i) n (x ∷ xs) text e at =
    ap (λ (t : List ℕ). client_json from x ++ t) (objects_more (suc from) i n xs text (omega (arith, e)) at)
    ∙ sym (append_assoc (client_json from x) (clients_json (suc from) (take i xs)) text)

pub object_from : (c : ℕ) (o : Option Client) (revision : ℕ) (phase : Phase) (list : List Tagged)
    → option_map (λ x. x.revision) o ≡ Some revision → option_map (λ x. phase_name x.phase) o ≡ Some phase → option_map (λ x. x.list) o ≡ Some list
    → option_map (client_json c) o ≡ Some (client_parts c revision (phase_word phase) list)
object_from c None revision phase list r p l = absurd cc
object_from c (Some x) revision phase list r p l =
    let r' : x.revision ≡ revision = cc in
    let p' : phase_name x.phase ≡ phase = cc in
    let l' : x.list ≡ list = cc in
    rw (r', p', l') refl
