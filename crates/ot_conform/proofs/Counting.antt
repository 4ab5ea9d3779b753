-- Of the lines of `steps` values are counted, and of places and messages alone none.
use Rattle.std.proofs.Common.{◌≡◌, ℕ, ◌≤◌, List, [], ◌∷◌, map, Bool, true, false, Option, Some, None, refl, ap, ◌∙◌, subst, arith}
use Rattle.std.proofs.lemmas.Bool.{eqb-true}
use Rattle.std.specs.Prelude.{◌==◌}
use Rattle.serde_json.specs.Data.{Data}
use Rattle.ot_isa.specs.Program.{Program}
use Rattle.ot_steps.specs.Lines.{Line}
use Rattle.ot_steps.specs.Steps.{opening_line}
use Rattle.ot_conform.specs.Counted.{are_nothing, count_each, counted, counted_keys, is_nothing, no_counts, one_more, tells, with_line, with_port_line}
use Rattle.ot_conform.specs.Keys.{is_told}
use Rattle.ot_conform.specs.Laws.{PlacesAreNotCounted, Say, Says, SaysLine, StepsAreCounted, place_with}
use Rattle.ot_conform.specs.Ports.{PortLine, Told, OtherForm, NoText, Nothing}
use Rattle.ot_conform.specs.declared.counts.Counts.{Counts}
use Rattle.ot_steps.specs.declared.key.Key.{Key}
use Rattle.ot_steps.specs.declared.key.Key.TheVariants as key

-- ---- a count never falls to 0

abbrev first : List ℕ → ℕ
first [] = 0
first (n ∷ ns) = n

abbrev HasClients : Counts → Type 0
HasClients c = 1 ≤ first c.values

not_less : (told : Bool) (n : ℕ) → 1 ≤ n → 1 ≤ one_more told n
not_less true n some = omega (arith, some)
not_less false n some = some

keeps_first : (told : Key → Bool) (ns : List ℕ) → 1 ≤ first ns → 1 ≤ first (count_each told counted_keys ns)
keeps_first told [] some = absurd (omega (arith, some))
keeps_first told (n ∷ ns) some = not_less (told key.Clients) n some

keeps_clients : (c : Counts) (line : PortLine) → HasClients c → HasClients (with_port_line c line)
keeps_clients c (Told d) some = keeps_first (λ k. tells k d) c.values some
keeps_clients c (OtherForm bytes) some = some
keeps_clients c NoText some = some
keeps_clients c Nothing some = some

all_keep : (c : Counts) (lines : List PortLine) → HasClients c → HasClients (counted c lines)
all_keep c [] some = some
all_keep c (line ∷ lines) some = all_keep (with_port_line c line) lines (keeps_clients c line some)

not_zero : (n : ℕ) (b : Bool) → (n == 0) ≡ b → 1 ≤ n → b ≡ false
not_zero n true zero some = absurd (omega (arith, eqb-true n 0 zero, some))
not_zero n false zero some = refl

not_all_zero : (ns : List ℕ) → 1 ≤ first ns → are_nothing counted_keys ns ≡ false
not_all_zero [] some = absurd (omega (arith, some))
not_all_zero (n ∷ ns) some = let there : (n == 0) ≡ false = not_zero n (n == 0) refl some in rw there refl

-- ---- the opening's line says how many clients there are

opening_counts : (s : Program) (d : Data) → Says (opening_line s) d → HasClients (with_line no_counts d)
opening_counts s d saying =
    let told : tells key.Clients d ≡ true = ap is_told (saying.under key.Clients) in
    let one : first (with_line no_counts d).values ≡ one_more true 0 = ap (λ (b : Bool). one_more b 0) told in
    omega (arith, one)

first_counts : (s : Program) (port : PortLine) → SaysLine (opening_line s) port → HasClients (with_port_line no_counts port)
first_counts s (Told d) saying = opening_counts s d saying
first_counts s (OtherForm bytes) saying = absurd saying
first_counts s NoText saying = absurd saying
first_counts s Nothing saying = absurd saying

run_counts : (s : Program) (others : List Line) (ports : List PortLine) → Say (opening_line s ∷ others) ports → is_nothing (counted no_counts ports) ≡ false
run_counts s others [] say = absurd say
run_counts s others (port ∷ ports) say = not_all_zero (counted no_counts (port ∷ ports)).values (all_keep (with_port_line no_counts port) ports (first_counts s port say.0))

pub steps_are_counted : StepsAreCounted
steps_are_counted documents s stopped lines ports are say = run_counts s _ ports (subst (λ (ls : List Line). Say ls ports) are.are say)

-- ---- places, with clients and messages or without

-- so many clients and nothing else
abbrev clients_alone : ℕ → Counts
clients_alone n = record { values = 0 ∷ 0 ∷ 0 ∷ 0 ∷ n ∷ 0 ∷ 0 ∷ 0 ∷ 0 ∷ 0 ∷ 0 ∷ 0 ∷ 0 ∷ 0 ∷ 0 ∷ [] }

abbrev one_client : Option ℕ → ℕ → ℕ
one_client None n = n
one_client (Some c) n = one_more true n

place_not_counted : (at n : ℕ) (client : Option ℕ) (message : Option Data) → with_port_line (clients_alone n) (place_with at client message) ≡ clients_alone (one_client client n)
place_not_counted at n None None = refl
place_not_counted at n None (Some message) = refl
place_not_counted at n (Some c) None = refl
place_not_counted at n (Some c) (Some message) = refl

none_counted : (n : ℕ) (lines : List (ℕ × Option ℕ × Option Data)) → is_nothing (counted (clients_alone n) (map (λ (l : ℕ × Option ℕ × Option Data). place_with l.0 l.1 l.2) lines)) ≡ true
none_counted n [] = refl
none_counted n (line ∷ lines) =
    ap (λ (c : Counts). is_nothing (counted c (map (λ (l : ℕ × Option ℕ × Option Data). place_with l.0 l.1 l.2) lines))) (place_not_counted line.0 n line.1 line.2)
    ∙ none_counted (one_client line.1 n) lines

pub places_are_not_counted : PlacesAreNotCounted
places_are_not_counted lines = none_counted 0 lines
