-- A port's line that is a line of `steps`, byte for byte, agrees with the one that is due, and has the values that it has.
use Rattle.std.proofs.Common.{◌≡◌, ℕ, suc, ◌+◌, List, [], ◌∷◌, Bool, true, Option, Some, None, refl, sym, ap, ◌∙◌, subst, add-one}
use Rattle.std.specs.Prelude.{slice_get, is_some, option_map}
use Rattle.serde_json.specs.Data.{Data}
use Rattle.ot_isa.specs.Program.{Program, IsProgram}
use Rattle.ot_isa.specs.declared.instruction.Instr.{Instr}
use Rattle.ot_model.specs.declared.shown.Shown.{Shown}
use Rattle.ot_model.specs.Operation.{Operation}
use Rattle.ot_model.specs.Table.{Performed, State, step}
use Rattle.ot_steps.specs.Lines.{Line}
use Rattle.ot_machine.specs.Effects.{sends}
use Rattle.ot_steps.specs.Steps.{applies, line_after, step_line}
use Rattle.ot_steps.specs.Text.{Value, Number, Name, Text, Op, Sent}
use Rattle.ot_conform.specs.Alike.{StandsFor}
use Rattle.ot_conform.specs.Counted.{count_each, counted_keys, has, tells, with_port_line, with_values}
use Rattle.ot_conform.specs.Differences.{field_of}
use Rattle.ot_conform.specs.Due.{DueLine, step_due}
use Rattle.ot_conform.specs.Keys.{is_told}
use Rattle.ot_conform.specs.Laws.{Says, data_of}
use Rattle.ot_conform.specs.Ports.{PortLine}
use Rattle.ot_conform.specs.Received.{Received, receives}
use Rattle.ot_conform.specs.Standing.{IsStanding}
use Rattle.ot_conform.specs.Unknown.{with_unknown}
use Rattle.ot_steps.specs.Text.{value_at}
use Rattle.ot_conform.specs.declared.comparison.Comparison.{Comparison}
use Rattle.ot_conform.specs.declared.counts.Counts.{Counts}
use Rattle.ot_steps.specs.declared.key.Key.{Key}
use Rattle.ot_steps.specs.declared.key.Key.TheVariants as key
use Rattle.ot_conform.proofs.Conforming.{Shows, line_agrees, step_shown}
use Rattle.ot_conform.proofs.DueLines.{step_line_formed}
use Rattle.ot_conform.proofs.Going.{running}
use Rattle.ot_conform.proofs.LineSays.{says}
use Rattle.ot_conform.proofs.LineTrees.{IsLineFormed, line_data}
use Rattle.ot_conform.proofs.PrintedLines.{line_told}
use Rattle.ot_conform.proofs.KnownKeys.{steps_known}

-- no value of a line is `null`
value_told : (v : Value) → is_told (Some (data_of v)) ≡ true
value_told (Number n) = refl
value_told (Name name) = refl
value_told (Text text) = refl
value_told (Op op) = refl
value_told (Sent m) = refl

told_some : (o : Option Value) → is_told (option_map data_of o) ≡ is_some o
told_some None = refl
told_some (Some v) = value_told v

tells_has : (line : Line) (d : Data) → Says line d → (k : Key) → tells k d ≡ has k line
tells_has line d saying k = ap is_told (saying.under k) ∙ told_some (value_at k line)

same_each : (told had : Key → Bool) (ks : List Key) (ns : List ℕ) → ((k : Key) → told k ≡ had k) → count_each told ks ns ≡ count_each had ks ns
same_each told had [] ns same = refl
same_each told had (k ∷ ks) [] same = refl
same_each told had (k ∷ ks) (n ∷ ns) same = rw (same k, same_each told had ks ns same) refl

same_counts : (told had : Key → Bool) (c : Counts) → ((k : Key) → told k ≡ had k) → with_values told c ≡ with_values had c
same_counts told had c same = rw (same_each told had counted_keys c.values same) refl

stands : (due : DueLine) (printed : Line) → Shows printed due.line → IsLineFormed printed → StandsFor due printed
stands due printed shows formed =
    let saying = says printed in
    record {
      agrees = λ bytes is.
          subst (λ (port : PortLine). field_of due port ≡ None) (sym (line_told printed bytes formed (saying.under key.At) is)) (line_agrees due printed (line_data printed) shows saying);
      counts = λ bytes c is.
          ap (with_port_line c) (line_told printed bytes formed (saying.under key.At) is)
          ∙ same_counts (λ k. tells k (line_data printed)) (λ k. has k printed) c (tells_has printed (line_data printed) saying);
      known = λ bytes number ns is.
          ap (λ (port : PortLine). with_unknown number port ns) (line_told printed bytes formed (saying.under key.At) is) ∙ steps_known number printed ns;
    }

-- the line of the instruction at the place where a comparison stands
pub step_stands : (documents : Bool) (s : Program) (c : Comparison) (i : Instr) (t : State) (shown : Option Shown) (sent : Bool) (delivered : Option (Operation ℕ)) (received : Option Received) → IsProgram s → IsStanding s (running c)
    → slice_get s.instrs c.place ≡ Some i → step c.machine i ≡ Performed t shown → sent ≡ sends i c.machine → delivered ≡ applies i c.machine → received ≡ receives i c.machine
    → StandsFor (step_due (c.place + 1) i sent delivered received t) (line_after documents (c.place + 1) i sent delivered t)
step_stands documents s c i t shown sent delivered received is standing here performed is_sent is_delivered is_received =
    let formed = step_line_formed documents s c.place (record { state = c.machine; shown = standing.shown }) i t shown is standing.at here performed in
    rw (add-one c.place, is_sent, is_delivered, is_received)
    (stands (step_due (suc c.place) i (sends i c.machine) (applies i c.machine) (receives i c.machine) t) (step_line documents (suc c.place) i c.machine t) (step_shown documents (suc c.place) i c.machine t) formed)
