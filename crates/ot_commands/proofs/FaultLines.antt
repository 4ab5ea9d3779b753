-- Faults of the first lines are those of all.
use Rattle.std.proofs.Common.{◌≡◌, ◌≢◌, inl, inr, ◌⊎◌, ◌+◌, ◌-◌, ◌<◌, ◌≤◌, ℕ, Bool, List, [], ◌∷◌, ◌++◌, length, Option, Some, None, Result, Ok, Err, refl, ap, length-append, arith}
use Rattle.std.specs.Prelude.{IsOk}
use Rattle.std.proofs.Math.Seq.{take_all}
use Rattle.std.proofs.lemmas.List.{take-append-le}
use Rattle.streams.specs.Lines.{lines_of}
use Rattle.ot_asm.specs.Stepping.{BodyView, IsFaultlessBefore, ended, go_on, line_step, outcome_of_lines, run}
use Rattle.ot_asm.specs.declared.fault.AsmFault.{AsmFault}
use Rattle.ot_asm.specs.declared.fault.Kind.{Kind}
use Rattle.ot_asm.specs.declared.fault.Kind.TheVariants.{Memory, NoClients, ReadFault}
use Rattle.ot_commands.specs.Faults.{IsLineFault}
use Rattle.ot_isa.specs.Program.{Program}
use Rattle.ot_commands.specs.Part.{BreaksIn}

-- a faulty line is faulty with more lines behind it
faulty_more : (lines rest : List (List ℕ)) (line : ℕ) (draft : Option BodyView) (fault : AsmFault) → run line draft lines ≡ Err fault → run line draft (lines ++ rest) ≡ Err fault
unfolding run
faulty_more [] rest line draft fault e = absurd (cc e)
faulty_more (l ∷ lines) rest line draft fault e = by (λ d g. faulty_more lines rest (line + 1) d fault g) (line_step draft l) e
  where
    by : ((d : Option BodyView) → run (line + 1) d lines ≡ Err fault → run (line + 1) d (lines ++ rest) ≡ Err fault) → (answer : Result (Option BodyView) Kind) → go_on line answer (λ d. run (line + 1) d lines) ≡ Err fault → go_on line answer (λ d. run (line + 1) d (lines ++ rest)) ≡ Err fault
    by again (Ok d) g = again d g
    by again (Err k) g = g

-- lines that are faulty are so before their end
in_a_line : (count : ℕ) (fault : AsmFault) (answer : Result (Option BodyView) AsmFault) → ended count answer ≡ Err fault → fault.line ≤ count → answer ≡ Err fault
in_a_line count fault (Ok None) e within =
    let same : record { line = count + 1; kind = NoClients } ≡ fault = cc in
    absurd (omega (arith, ap (λ (f : AsmFault). f.line) same, within))
in_a_line count fault (Ok (Some draft)) e within = absurd (cc e)
in_a_line count fault (Err other) e within = let same : other ≡ fault = cc in rw same refl

sound : (count : ℕ) (schedule : Program) (answer : Result (Option BodyView) AsmFault) → ended count answer ≡ Ok schedule → IsOk answer
sound count schedule (Ok None) e = absurd (cc e)
sound count schedule (Ok (Some draft)) e = refl
sound count schedule (Err other) e = absurd (cc e)

faultless_more : (lines rest : List (List ℕ)) (line : ℕ) → IsFaultlessBefore lines line → IsFaultlessBefore (lines ++ rest) line
faultless_more lines rest line h =
    let within : line - 1 ≤ length lines = omega (arith, h.0) in (
      omega (arith, h.0, length-append lines rest),
      rw (take-append-le (line - 1) lines rest within) h.1,
    )

-- all lines are right
faultless_all : (lines : List (List ℕ)) (schedule : Program) → outcome_of_lines lines ≡ Ok schedule → IsFaultlessBefore lines (1 + length lines)
faultless_all lines schedule e = (omega arith, rw (take_all ((1 + length lines) - 1) lines (omega arith)) (sound (length lines) schedule (run 1 None lines) e))

-- a fault has one kind
kinds : (kind : Kind) → kind ≡ Memory → kind ≡ ReadFault → ⊥
kinds kind e g = cc

-- ---- the first fault, where the lines could not be taken further

module _ (unread : Bool) (text : List ℕ) (lines : List (List ℕ)) (stop : AsmFault) (breaks : BreaksIn unread text lines stop) where
  stopped : IsFaultlessBefore (lines_of text) stop.line → IsLineFault unread lines stop
  stopped before =
      record {
        named = λ memory read. absurd (elim breaks.cause [ inl e ↦ memory e | inr e ↦ read e.0 ]);
        cause = λ read. elim breaks.cause [ inl e ↦ absurd (kinds stop.kind e read) | inr e ↦ e.1 ];
        faultless = rw breaks.all (faultless_more (lines_of text) breaks.rest stop.line before);
      }

  -- the lines that were taken are right
  pub none_before : (schedule : Program) → outcome_of_lines (lines_of text) ≡ Ok schedule → IsLineFault unread lines stop
  none_before schedule e = stopped (rw breaks.number (faultless_all (lines_of text) schedule e))

  -- only their end is not
  pub at_the_end : (fault : AsmFault) → IsFaultlessBefore (lines_of text) fault.line → stop.line ≤ fault.line → IsLineFault unread lines stop
  at_the_end fault before behind =
      let same : fault.line ≡ stop.line = omega (arith, before.0, behind, breaks.number) in
      stopped (rw same at before)

  -- one of them is not
  pub one_before : (fault : AsmFault) → ((fault.kind ≡ Memory) ⊎ (outcome_of_lines (lines_of text) ≡ Err fault)) → fault.kind ≢ ReadFault → IsFaultlessBefore (lines_of text) fault.line → fault.line < stop.line → IsLineFault unread lines fault
  one_before fault is unlike before ahead =
      record {
        named = λ memory read. rw breaks.all (ap (ended (length (lines_of text ++ breaks.rest))) (faulty_more (lines_of text) breaks.rest 1 None fault
            (in_a_line (length (lines_of text)) fault (run 1 None (lines_of text)) (elim is [ inl e ↦ absurd (memory e) | inr e ↦ e ]) (omega (arith, ahead, breaks.number)))));
        cause = λ read. absurd (unlike read);
        faultless = rw breaks.all (faultless_more (lines_of text) breaks.rest fault.line before);
      }
