-- What was compared of many sessions that conform.
use Rattle.std.specs.Prelude.{ℕ, ◌+◌, ◌-◌, ◌^◌, ◌==◌, min, List, [], ◌∷◌, ◌++◌, Bool, true, false, codes, decimal, if◌then◌else◌}
use Rattle.ot_report.specs.Printed.{line}
use Rattle.ot_conform.specs.Answers.{agreement_word, counts_row}
use Rattle.ot_conform.specs.Counted.{is_nothing, no_counts}
use Rattle.ot_conform.specs.Json.{agreement_members, member, unknown_member}
use Rattle.ot_conform.specs.Unknown.{Named, all_named, unknown_rows, with_key}
use Rattle.ot_conform.specs.declared.counts.Counts.{Counts}
use Rattle.ot_conform.specs.declared.summed.Sum as program

-- how often each key was compared, and the unknown keys
pub record Sum : Type 0 where
  pub counts : Counts
  pub unknown : List Named

abbrev pub sum_value : program.Sum → Sum
sum_value s = record { counts = s.counts; unknown = all_named s.unknown.items }

-- of no session
abbrev pub no_sessions : Sum
no_sessions = record { counts = no_counts; unknown = [] }

-- two counts together, at most 2^64 - 1
abbrev pub both : ℕ → ℕ → ℕ
both m n = min (m + n) (2 ^ 64 - 1)

abbrev pub both_values : List ℕ → List ℕ → List ℕ
both_values [] ns = []
both_values (m ∷ ms) [] = m ∷ ms
both_values (m ∷ ms) (n ∷ ns) = both m n ∷ both_values ms ns

abbrev pub both_counts : Counts → Counts → Counts
both_counts c d = record { values = both_values c.values d.values }

-- these keys too, those that are not named yet
abbrev pub with_keys : List Named → List Named → List Named
with_keys [] ns = ns
with_keys (k ∷ ks) ns = with_keys ks (with_key k.line k.key ns)

-- with one more session
abbrev pub with_session : Counts → List Named → Sum → Sum
with_session counts keys s = record { counts = both_counts s.counts counts; unknown = with_keys keys s.unknown }

-- ---- in words

-- N sessions conform; where nothing is counted, there is none
abbrev pub sessions_word : ℕ → List ℕ
sessions_word n = if n == 1 then codes "1 session conforms" else decimal n ++ codes " sessions conform"

abbrev pub sum_word : Bool → ℕ → List ℕ
sum_word true n = agreement_word true
sum_word false n = sessions_word n

abbrev pub sum_text : ℕ → Sum → List ℕ
sum_text n s = line (sum_word (is_nothing s.counts) n) ++ (counts_row s.counts ++ unknown_rows s.unknown)

-- ---- as JSON

abbrev pub sum_members : ℕ → Sum → List ℕ
sum_members n s = agreement_members s.counts ++ (member (codes "sessions") (decimal n) ++ unknown_member s.unknown)
