-- How much of a port's lines was compared.
use Rattle.std.specs.Prelude.{ℕ, ◌+◌, ◌-◌, ◌^◌, ◌==◌, ◌&&◌, ◌||◌, min, List, [], ◌∷◌, map, Bool, true, false, not, is_some, if◌then◌else◌}
use Rattle.serde_json.specs.Data.{Data}
use Rattle.ot_steps.specs.Lines.{Line}
use Rattle.ot_conform.specs.Keys.{found_at, is_told}
use Rattle.ot_conform.specs.Ports.{PortLine, Told}
use Rattle.ot_steps.specs.Text.{value_at}
use Rattle.ot_conform.specs.declared.counts.Counts.{Counts}
use Rattle.ot_steps.specs.declared.key.Key.{Key}
use Rattle.ot_steps.specs.declared.key.Key.TheVariants as key

-- the keys whose values are counted; of a message its operation counts
abbrev pub counted_keys : List Key
counted_keys =
    key.Clients
    ∷ key.Present
    ∷ key.Start
    ∷ key.Do
    ∷ key.Client
    ∷ key.Edit
    ∷ key.Revision
    ∷ key.State
    ∷ key.Outstanding
    ∷ key.Buffer
    ∷ key.SentOperation
    ∷ key.Applied
    ∷ key.Appended
    ∷ key.Document
    ∷ key.End
    ∷ []

abbrev pub no_counts : Counts
no_counts = record { values = map (λ k. 0) counted_keys }

-- one more, at most 2^64 - 1
abbrev pub one_more : Bool → ℕ → ℕ
one_more told n = if told then min (n + 1) (2 ^ 64 - 1) else n

-- each value that is given counts
abbrev pub count_each : (Key → Bool) → List Key → List ℕ → List ℕ
count_each told [] ns = ns
count_each told (k ∷ ks) [] = []
count_each told (k ∷ ks) (n ∷ ns) = one_more (told k) n ∷ count_each told ks ns

abbrev pub with_values : (Key → Bool) → Counts → Counts
with_values told c = record { values = count_each told counted_keys c.values }

-- a port's line has values
abbrev pub tells : Key → Data → Bool
tells k d = is_told (found_at k d)

abbrev pub with_line : Counts → Data → Counts
with_line c d = with_values (λ k. tells k d) c

-- a line of `steps` has values
abbrev pub has : Key → Line → Bool
has k line = is_some (value_at k line)

abbrev pub with_printed : Counts → Line → Counts
with_printed c line = with_values (λ k. has k line) c

abbrev pub with_port_line : Counts → PortLine → Counts
with_port_line c (Told d) = with_line c d
with_port_line c _ = c

-- of all lines
abbrev pub counted : Counts → List PortLine → Counts
counted c [] = c
counted c (line ∷ lines) = counted (with_port_line c line) lines

-- the client says of which instruction a line is, as its place does, and no more
abbrev pub says_more : Key → Bool
says_more key.Client = false
says_more _ = true

abbrev pub shows_nothing : Key → ℕ → Bool
shows_nothing k n = not (says_more k) || n == 0

-- no value is counted that says more
abbrev pub are_nothing : List Key → List ℕ → Bool
are_nothing [] ns = true
are_nothing (k ∷ ks) [] = true
are_nothing (k ∷ ks) (n ∷ ns) = shows_nothing k n && are_nothing ks ns

abbrev pub is_nothing : Counts → Bool
is_nothing c = are_nothing counted_keys c.values
