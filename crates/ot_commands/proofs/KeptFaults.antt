-- The fault of lines that were kept is the fault of all lines.
use Rattle.std.proofs.Common.{◌≡◌, ◌⊎◌, ◌+◌, ◌-◌, ◌<◌, ◌++◌, ◌∙◌, ℕ, Bool, true, false, List, [], ◌∷◌, length, Err, Option, Some, None, ap, arith, inl, inr, refl, sym}
use Rattle.std.specs.Prelude.{IfSome}
use Rattle.std.proofs.lemmas.List.{append-nil, get_or_append_left, take-append-le}
use Rattle.streams.specs.Lines.{lines_of}
use Rattle.streams.specs.Outcomes.{Streams}
use Rattle.ot_asm.specs.Parts.{lines_before}
use Rattle.ot_asm.specs.Stepping.{outcome_of_lines, run}
use Rattle.ot_asm.specs.declared.fault.AsmFault.{AsmFault}
use Rattle.ot_asm.specs.declared.fault.Kind.{Kind}
use Rattle.ot_asm.specs.declared.fault.Kind.TheVariants.{Memory, NoClients, ReadFault}
use Rattle.ot_faults.specs.Faults.{Fault, is_of_text, text_fault}
use Rattle.ot_faults.specs.Words.{fault_members}
use Rattle.ot_commands.specs.Faults.{AnswersFault, IsJsonOf, TellsFault, fault_json}
use Rattle.ot_commands.specs.Part.{BreaksIn, HasFaultIn}

-- ---- what is said of it

in_first : (kept rest : List (List ℕ)) (fault : AsmFault) → fault.line - 1 < length kept → text_fault kept fault ≡ text_fault (kept ++ rest) fault
in_first kept rest fault there =
    rw (take-append-le (fault.line - 1) kept rest (omega (arith, there)), get_or_append_left kept rest [] (fault.line - 1) there, get_or_append_left kept rest [] 0 (omega (arith, there))) refl

in_all : (kept lines rest : List (List ℕ)) (fault : AsmFault) → lines ≡ kept ++ rest → (rest ≡ []) ⊎ (fault.line - 1 < length kept) → text_fault kept fault ≡ text_fault lines fault
in_all kept lines rest fault all (inl none) = ap (λ (ls : List (List ℕ)). text_fault ls fault) (sym (all ∙ ap (λ (r : List (List ℕ)). kept ++ r) none ∙ append-nil kept))
in_all kept lines rest fault all (inr there) = in_first kept rest fault there ∙ ap (λ (ls : List (List ℕ)). text_fault ls fault) (sym all)

json_in : (of_text : Bool) (kept lines : List (List ℕ)) (fault : AsmFault) (json : List ℕ) → (of_text ≡ true → (rest : List (List ℕ)) × (lines ≡ kept ++ rest) × ((rest ≡ []) ⊎ (fault.line - 1 < length kept)))
    → IsJsonOf of_text kept fault json → IsJsonOf of_text lines fault json
json_in false kept lines fault json has is = is
json_in true kept lines fault json has is = let here = has refl in is ∙ ap (λ (f : Fault). fault_json fault (fault_members f)) (in_all kept lines here.0 fault here.1 here.2)

answers_in : (kept lines : List (List ℕ)) (fault : AsmFault) (status : ℕ) (streams : Streams) → HasFaultIn kept lines fault → AnswersFault kept fault status streams → AnswersFault lines fault status streams
answers_in kept lines fault status streams has (inl gives) =
    inl (record { json = gives.json; is = json_in (is_of_text fault.kind) kept lines fault gives.json has gives.is; gives = gives.gives; tells = gives.tells })
answers_in kept lines fault status streams has (inr lacks) = inr lacks

pub tells_in : (json : Bool) (kept lines : List (List ℕ)) (fault : AsmFault) (status : ℕ) (streams : Streams) → HasFaultIn kept lines fault → TellsFault json kept fault status streams → TellsFault json lines fault status streams
tells_in false kept lines fault status streams has tells = tells
tells_in true kept lines fault status streams has tells = answers_in kept lines fault status streams has tells

-- ---- where it stands

-- out of memory and a read that failed are no faults of the text
memory_not : (kind : Kind) → kind ≡ Memory → is_of_text kind ≡ true → ⊥
memory_not kind is of_text = absurd (let clash = rw is at of_text in cc)

read_not : (kind : Kind) → kind ≡ ReadFault → is_of_text kind ≡ true → ⊥
read_not kind is of_text = absurd (let clash = rw is at of_text in cc)

-- lines without a fault before their end: there is one
in_a_line : (lines : List (List ℕ)) (fault : AsmFault) → outcome_of_lines lines ≡ Err fault → fault.line < 1 + length lines → fault.line - 1 < length lines
unfolding run
in_a_line [] fault e ahead =
    let same : record { line = 0 + 1; kind = NoClients } ≡ fault = cc in
    absurd (omega (arith, ap (λ (f : AsmFault). f.line) same, ahead))
in_a_line (l ∷ lines) fault e ahead = omega (arith, ahead)

module _ (unread : Bool) (text : List ℕ) (lines : List (List ℕ)) (stop : AsmFault) (breaks : BreaksIn unread text lines stop) where
  -- the lines could not be taken further
  pub has_none : HasFaultIn (lines_of text) lines stop
  has_none of_text = absurd (elim breaks.cause [ inl e ↦ memory_not stop.kind e of_text | inr e ↦ read_not stop.kind e.0 of_text ])

  -- one before that is faulty
  pub has_before : (fault : AsmFault) → (fault.kind ≡ Memory) ⊎ (outcome_of_lines (lines_of text) ≡ Err fault) → fault.line < stop.line → HasFaultIn (lines_of text) lines fault
  has_before fault is ahead of_text =
      let named : outcome_of_lines (lines_of text) ≡ Err fault = elim is [ inl e ↦ absurd (memory_not fault.kind e of_text) | inr e ↦ e ] in
      (breaks.rest, breaks.all, inr (in_a_line (lines_of text) fault named (omega (arith, ahead, breaks.number))))

pub has_first : (known : Option (List ℕ)) (unread : Bool) (kept : List ℕ) (stop fault : AsmFault) → IfSome known (λ text. BreaksIn unread kept (lines_before true (lines_of text)) stop)
    → ((broken : Bool) → (lines : List (List ℕ)) → BreaksIn broken kept lines stop → HasFaultIn (lines_of kept) lines fault)
    → IfSome known (λ text. HasFaultIn (lines_of kept) (lines_before true (lines_of text)) fault)
has_first None unread kept stop fault breaks has = tt
has_first (Some text) unread kept stop fault breaks has = has unread (lines_before true (lines_of text)) breaks
