-- What comes of comparing the lines of an input.
use Rattle.std.specs.Prelude.{◌≡◌, ◌⊎◌, ◌+◌, ◌-◌, ◌^◌, min, ℕ, ⊤, Bool, true, false, List, [], ◌∷◌, ◌++◌, length, take, if◌then◌else◌}
use Rattle.ot_isa.specs.Program.{Program}
use Rattle.ot_model.specs.declared.shown.Refusal.{Refusal}
use Rattle.ot_model.specs.declared.shown.Refusal.TheVariants.{Memory}
use Rattle.ot_conform.specs.Answers.{IsDifferenceOf}
use Rattle.ot_conform.specs.Counted.{counted, is_nothing, no_counts}
use Rattle.ot_conform.specs.Differences as differences
use Rattle.ot_conform.specs.Differences.{outcome}
use Rattle.ot_asm.specs.Words.{trimmed}
use Rattle.ot_conform.specs.Ports.{PortLine, Nothing, counted_lines, front, is_empty, port_line}
use Rattle.ot_conform.specs.Standing.{IsPassed, IsStanding, IsVerdict, begun, rest}
use Rattle.ot_conform.specs.Unknown.{Named, with_unknown_lines}
use Rattle.ot_conform.specs.declared.comparison.Comparison.{Comparison}
use Rattle.ot_conform.specs.declared.comparison.Verdict.{Verdict}
use Rattle.ot_conform.specs.declared.comparison.Verdict.TheVariants.{Conforms, Differs, Stopped}
use Rattle.ot_conform.specs.declared.reading.CompareStop.{CompareStop}
use Rattle.ot_conform.specs.declared.reading.CompareStop.TheVariants as stop

-- these lines agree with those that are due, and lead from one comparison to another
pub record Leads (s : Program) (c : Comparison) (lines : List PortLine) (c' : Comparison) : Type 0 where
  pub standing : IsStanding s c'
  pub rest_is : (more : List PortLine) → rest s c (lines ++ more) ≡ rest s c' more
  pub counts_are : (more : List PortLine) → counted c.counts (lines ++ more) ≡ counted c'.counts more
  pub sparse_is : c'.sparse ≡ c.sparse

-- the first lines agree, and at the place where they lead, or up to which the next line passes over the instructions, memory ran out for
-- the instruction
pub record OutOfMemory (sparse : Bool) (s : Program) (lines : List PortLine) (place : ℕ) (refusal : Refusal) : Type 0 where
  pub agreed : List PortLine
  pub next : PortLine
  pub behind : List PortLine
  pub are : lines ≡ agreed ++ front next behind
  pub here : Comparison
  pub leads : Leads s (begun sparse s) agreed here
  pub place_is : IsPassed here next place
  pub memory : refusal ≡ Memory

-- the verdict on these lines, where each instruction has one, or some alone
abbrev pub IsVerdictOf : Bool → Program → List PortLine → Verdict → Type 0
IsVerdictOf sparse s lines (Conforms counts) = (outcome sparse s lines ≡ differences.Conforms) × (counts ≡ counted no_counts lines)
IsVerdictOf sparse s lines (Differs difference) = IsDifferenceOf (outcome sparse s lines) difference
IsVerdictOf sparse s lines (Stopped place refusal) = (outcome sparse s lines ≡ differences.Stopped place refusal) ⊎ OutOfMemory sparse s lines place refusal

-- the number of the line behind those that were compared, at most the greatest u64
abbrev pub IsNumber : CompareStop → ℕ → Type 0
IsNumber (stop.ReadFault number) compared = number ≡ min (compared + 1) (2 ^ 64 - 1)
IsNumber (stop.Memory number) compared = number ≡ min (compared + 1) (2 ^ 64 - 1)

-- ReadFault is said only where the input has failed, as it says itself
abbrev pub IsCaused : CompareStop → Bool → Type 0
IsCaused (stop.ReadFault number) unread = unread ≡ true
IsCaused (stop.Memory number) unread = ⊤

-- the first of these lines agree with those that are due, and behind them the comparison stopped. Its number counts these lines and those
-- before the comparison
pub record StopsBehind (sparse : Bool) (s : Program) (stop : CompareStop) (earlier : ℕ) (all : List (List ℕ)) : Type 0 where
  pub lines : List (List ℕ)
  pub behind : List (List ℕ)
  pub are : all ≡ lines ++ behind
  pub here : Comparison
  pub leads : Leads s (begun sparse s) (counted_lines lines) here
  pub number : IsNumber stop (earlier + length lines)

-- what is next decides: there is no line, or it is one that counts, whatever stands behind it
abbrev pub DecidesAt : Program → Comparison → List (List ℕ) → Verdict → Type 0
DecidesAt s here [] verdict = IsVerdict here Nothing (rest s here []) verdict
DecidesAt s here (line ∷ behind) verdict =
    (is_empty (trimmed line) ≡ false) × ((more : List (List ℕ)) → IsVerdict here (port_line (trimmed line)) (rest s here (counted_lines (line ∷ more))) verdict)

-- the first of these lines agree, and the next one, or that there is none, decides; the keys are those of all of them, behind so many lines
pub record NamesKeys (sparse : Bool) (s : Program) (earlier : ℕ) (all : List (List ℕ)) (verdict : Verdict) (keys : List Named) : Type 0 where
  pub lines : List (List ℕ)
  pub behind : List (List ℕ)
  pub are : all ≡ lines ++ behind
  pub here : Comparison
  pub leads : Leads s (begun sparse s) (counted_lines lines) here
  pub decides : DecidesAt s here behind verdict
  pub keys_are : keys ≡ with_unknown_lines earlier (lines ++ take 1 behind) []

-- the verdict's status: that nothing differs is none of conforming where no value is counted
abbrev pub verdict_status : Verdict → ℕ
verdict_status (Conforms counts) = if is_nothing counts then 1 else 0
verdict_status (Differs difference) = 1
verdict_status (Stopped place refusal) = 1
