-- The unknown keys of the lines of a reader, one line after the other.
use Rattle.std.proofs.Common.{◌≡◌, ℕ, suc, ◌+◌, Bool, List, [], ◌∷◌, ◌++◌, length, length-append, true, false, Option, Some, None, refl, sym, ap, ◌∙◌, subst, arith, append-nil}
use Rattle.std.specs.Prelude.{IfSome}
use Rattle.streams.specs.Lines.{lines_of}
use Rattle.streams.specs.Taken.{TakesLine}
use Rattle.ot_asm.specs.Words.{trimmed}
use Rattle.ot_isa.specs.Program.{Program}
use Rattle.ot_conform.specs.Compared.{Leads, NamesKeys}
use Rattle.ot_conform.specs.Ports.{PortLine, Nothing, counted_lines, is_empty, port_line}
use Rattle.ot_conform.specs.Standing.{IsVerdict, begun, rest}
use Rattle.ot_conform.specs.Unknown.{Named, line_number, with_unknown_bytes, with_unknown_lines}
use Rattle.ot_conform.specs.declared.comparison.Comparison.{Comparison}
use Rattle.ot_conform.specs.declared.comparison.Verdict.{Verdict}
use Rattle.ot_conform.proofs.Leading.{IsUnderWay, TakesLines, all_taken, counted-append, leads_on, nothing_taken, stays, takes_more}

-- one line more
lines_more : (earlier : ℕ) (lines : List (List ℕ)) (line : List ℕ) (ns : List Named)
    → with_unknown_lines earlier (lines ++ line ∷ []) ns ≡ with_unknown_bytes (line_number (earlier + length lines)) line (with_unknown_lines earlier lines ns)
lines_more earlier [] line ns = let same : earlier ≡ earlier + 0 = omega arith in ap (λ (n : ℕ). with_unknown_bytes (line_number n) line ns) same
lines_more earlier (first ∷ lines) line ns =
    let so_many : suc earlier + length lines ≡ earlier + suc (length lines) = omega arith in
    let named = with_unknown_bytes (line_number earlier) first ns in
    lines_more (suc earlier) lines line named ∙ ap (λ (n : ℕ). with_unknown_bytes (line_number n) line (with_unknown_lines (suc earlier) lines named)) so_many

-- so many lines of the input were taken, they agree, and their unknown keys are named
pub record IsNaming (sparse : Bool) (s : Program) (c : Comparison) (count : ℕ) (input left : Option (List ℕ)) (earlier : ℕ) (keys : List Named) : Type 0 where
  pub way : IsUnderWay sparse s c count input left
  pub named : keys ≡ with_unknown_lines earlier way.lines []

named_at_first : (sparse : Bool) (s : Program) (input : Option (List ℕ)) (earlier : ℕ) → IsNaming sparse s (begun sparse s) 0 input input earlier []
named_at_first sparse s input earlier =
    record {
      way = record {
        lines = [];
        taken = nothing_taken input;
        count_is = refl;
        leads = stays s (begun sparse s) (record { shown = []; at = refl; opening = refl });
      };
      named = refl;
    }

pub names_none : (sparse : Bool) (s : Program) (c : Comparison) (input : Option (List ℕ)) (earlier : ℕ) (keys : List Named) → c ≡ begun sparse s → keys ≡ [] → IsNaming sparse s c 0 input input earlier keys
names_none sparse s c input earlier keys is none = rw (is, none) (named_at_first sparse s input earlier)

-- the keys of one line more
more_named : (sparse : Bool) (s : Program) (c : Comparison) (count number : ℕ) (input left : Option (List ℕ)) (earlier : ℕ) (keys keys' : List Named) (line : List ℕ) (naming : IsNaming sparse s c count input left earlier keys)
    → number ≡ line_number (earlier + count) → keys' ≡ with_unknown_bytes number line keys → keys' ≡ with_unknown_lines earlier (naming.way.lines ++ line ∷ []) []
more_named sparse s c count number input left earlier keys keys' line naming at is =
    let lines = naming.way.lines in
    is
    ∙ ap (λ (n : ℕ). with_unknown_bytes n line keys) (at ∙ ap (λ (n : ℕ). line_number (earlier + n)) (sym naming.way.count_is))
    ∙ ap (with_unknown_bytes (line_number (earlier + length lines)) line) naming.named
    ∙ sym (lines_more earlier lines line [])

pub names_more : (sparse : Bool) (s : Program) (c c' : Comparison) (count number : ℕ) (input left next : Option (List ℕ)) (earlier : ℕ) (keys keys' : List Named) (line : List ℕ) → IsNaming sparse s c count input left earlier keys
    → TakesLine left next true line → Leads s c (counted_lines (line ∷ [])) c' → number ≡ line_number (earlier + count) → keys' ≡ with_unknown_bytes number line keys → IsNaming sparse s c' (count + 1) input next earlier keys'
names_more sparse s c c' count number input left next earlier keys keys' line naming more leads at is =
    record {
      way = record {
        lines = naming.way.lines ++ line ∷ [];
        taken = takes_more input left next naming.way.lines line naming.way.taken more;
        count_is = length-append naming.way.lines (line ∷ []) ∙ ap (λ (n : ℕ). n + 1) naming.way.count_is;
        leads = subst (λ (ls : List PortLine). Leads s (begun sparse s) ls c') (sym (counted-append naming.way.lines (line ∷ []))) (leads_on s (begun sparse s) c c' (counted_lines naming.way.lines) (counted_lines (line ∷ [])) naming.way.leads leads);
      };
      named = more_named sparse s c count number input left earlier keys keys' line naming at is;
    }

-- ---- verdicts

pub decided_named : (sparse : Bool) (s : Program) (c : Comparison) (count number : ℕ) (input left next : Option (List ℕ)) (earlier : ℕ) (keys keys' : List Named) (line : List ℕ) (v : Verdict) → IsNaming sparse s c count input left earlier keys
    → TakesLine left next true line
    → (is_empty (trimmed line) ≡ false) × ((lines : List (List ℕ)) → IsVerdict c (port_line (trimmed line)) (rest s c (counted_lines (line ∷ lines))) v)
    → number ≡ line_number (earlier + count) → keys' ≡ with_unknown_bytes number line keys
    → IfSome input (λ text. NamesKeys sparse s earlier (lines_of text) v keys')
decided_named sparse s c count number None left next earlier keys keys' line v naming more given at is = tt
decided_named sparse s c count number (Some text) left next earlier keys keys' line v naming more given at is = go left naming.way.taken more
  where
    lines : List (List ℕ)
    lines = naming.way.lines

    go : (left : Option (List ℕ)) → TakesLines (Some text) left lines → TakesLine left next true line → NamesKeys sparse s earlier (lines_of text) v keys'
    go None taken more = absurd taken
    go (Some rest) taken more = by next more
      where
        by : (next : Option (List ℕ)) → TakesLine (Some rest) next true line → NamesKeys sparse s earlier (lines_of text) v keys'
        by None more = absurd more
        by (Some behind) more =
            record {
              lines = lines;
              behind = line ∷ lines_of behind;
              are = taken ∙ ap (λ (ls : List (List ℕ)). lines ++ ls) more;
              here = c;
              leads = naming.way.leads;
              decides = given;
              keys_are = more_named sparse s c count number (Some text) left earlier keys keys' line naming at is;
            }

pub finished_named : (sparse : Bool) (s : Program) (c : Comparison) (count : ℕ) (input left next : Option (List ℕ)) (earlier : ℕ) (keys : List Named) (line : List ℕ) (v : Verdict) → IsNaming sparse s c count input left earlier keys
    → TakesLine left next false line → IsVerdict c Nothing (rest s c []) v → IfSome input (λ text. NamesKeys sparse s earlier (lines_of text) v keys)
finished_named sparse s c count None left next earlier keys line v naming none is = tt
finished_named sparse s c count (Some text) left next earlier keys line v naming none is = go left naming.way.taken none
  where
    lines : List (List ℕ)
    lines = naming.way.lines

    go : (left : Option (List ℕ)) → TakesLines (Some text) left lines → TakesLine left next false line → NamesKeys sparse s earlier (lines_of text) v keys
    go None taken none = absurd taken
    go (Some rest) taken none = by next none
      where
        by : (next : Option (List ℕ)) → TakesLine (Some rest) next false line → NamesKeys sparse s earlier (lines_of text) v keys
        by None none = absurd none
        by (Some behind) none =
            record {
              lines = lines;
              behind = [];
              are = all_taken text rest lines taken none.0 ∙ sym (append-nil lines);
              here = c;
              leads = naming.way.leads;
              decides = is;
              keys_are = naming.named ∙ ap (λ (ls : List (List ℕ)). with_unknown_lines earlier ls []) (sym (append-nil lines));
            }
