-- Lines that agree, one after the other.
use Rattle.std.proofs.Common.{◌≡◌, ℕ, suc, ◌+◌, ◌==◌, List, [], ◌∷◌, ◌++◌, length, Bool, true, false, Option, Some, None, refl, sym, ap, ◌∙◌, subst, append_assoc, append-nil, inl, inr, arith}
use Rattle.std.proofs.lemmas.Bool.{eqb-true}
use Rattle.std.specs.Prelude.{◌-◌, ◌^◌, min, IfSome, ⊤}
use Rattle.std.specs.Str.{is_utf8}
use Rattle.serde_json.specs.Data.{Data}
use Rattle.serde_json.specs.Read.{read}
use Rattle.ot_json.specs.Fields.{number_at}
use Rattle.std.specs.Prelude.{codes, is_some}
use Rattle.streams.specs.Lines.{lines_of}
use Rattle.streams.specs.Taken.{TakesLine}
use Rattle.ot_asm.specs.Words.{trimmed}
use Rattle.ot_isa.specs.Program.{Program}
use Rattle.ot_conform.specs.Compared.{IsNumber, IsVerdictOf, Leads, StopsBehind}
use Rattle.ot_conform.specs.Counted.{counted}
use Rattle.ot_conform.specs.Answers.{IsDifferenceOf}
use Rattle.ot_conform.specs.Differences.{Outcome}
use Rattle.ot_conform.specs.Ports.{PortLine, Nothing, counted_lines, front, is_empty, port_line, told_or_other}
use Rattle.ot_conform.specs.Standing.{Goes, IsStanding, IsVerdict, begun, rest}
use Rattle.ot_conform.proofs.Going.{front_there}
use Rattle.ot_conform.proofs.Outcomes.{IsThere}
use Rattle.ot_conform.specs.declared.comparison.Comparison.{Comparison}
use Rattle.ot_conform.specs.declared.comparison.Verdict.{Verdict}
use Rattle.ot_conform.specs.declared.comparison.Verdict.TheVariants.{Conforms, Differs, Stopped}
use Rattle.ot_conform.specs.declared.reading.CompareStop.{CompareStop}
use Rattle.ot_conform.specs.declared.reading.CompareStop.TheVariants.{Memory}

-- ---- bytes as counted lines

told_there : (bytes : List ℕ) (o : Option Data) → IsThere (told_or_other bytes o)
told_there bytes None = tt
told_there bytes (Some d) = go (is_some (number_at (codes "at") d)) refl
  where
    go : (b : Bool) → is_some (number_at (codes "at") d) ≡ b → IsThere (told_or_other bytes (Some d))
    go true e = rw e tt
    go false e = rw e tt

-- a line of bytes is there
pub line_there : (bytes : List ℕ) → IsThere (port_line bytes)
line_there bytes = go (is_utf8 bytes) refl
  where
    go : (b : Bool) → is_utf8 bytes ≡ b → IsThere (port_line bytes)
    go true e = rw e (told_there bytes (read bytes))
    go false e = rw e tt

pub empty_is : (bytes : List ℕ) (b : Bool) → (length bytes == 0) ≡ b → is_empty bytes ≡ b
empty_is [] b e = e
empty_is (x ∷ bytes) true e = absurd (omega (arith, eqb-true (suc (length bytes)) 0 e))
empty_is (x ∷ bytes) false e = refl

pub passed_over : (line : List ℕ) (lines : List (List ℕ)) → is_empty (trimmed line) ≡ true → counted_lines (line ∷ lines) ≡ counted_lines lines
passed_over line lines e = rw (counted_lines, e) refl

pub counted_first : (line : List ℕ) (lines : List (List ℕ)) → is_empty (trimmed line) ≡ false → counted_lines (line ∷ lines) ≡ port_line (trimmed line) ∷ counted_lines lines
counted_first line lines e = rw (counted_lines, e) refl

cons_append : (line : List ℕ) (xs ys : List (List ℕ)) → counted_lines (xs ++ ys) ≡ counted_lines xs ++ counted_lines ys → counted_lines (line ∷ (xs ++ ys)) ≡ counted_lines (line ∷ xs) ++ counted_lines ys
cons_append line xs ys e = go (is_empty (trimmed line)) refl
  where
    go : (b : Bool) → is_empty (trimmed line) ≡ b → counted_lines (line ∷ (xs ++ ys)) ≡ counted_lines (line ∷ xs) ++ counted_lines ys
    go true is = passed_over line (xs ++ ys) is ∙ e ∙ ap (λ (ls : List PortLine). ls ++ counted_lines ys) (sym (passed_over line xs is))
    go false is =
        counted_first line (xs ++ ys) is ∙ ap (λ (ls : List PortLine). port_line (trimmed line) ∷ ls) e
        ∙ ap (λ (ls : List PortLine). ls ++ counted_lines ys) (sym (counted_first line xs is))

pub counted-append : (xs ys : List (List ℕ)) → counted_lines (xs ++ ys) ≡ counted_lines xs ++ counted_lines ys
counted-append [] ys = refl
counted-append (line ∷ xs) ys = cons_append line xs ys (counted-append xs ys)

-- ---- lines that lead on

pub stays : (s : Program) (c : Comparison) → IsStanding s c → Leads s c [] c
stays s c standing = record { standing = standing; rest_is = λ more. refl; counts_are = λ more. refl; sparse_is = refl }

pub one_leads : (s : Program) (c c' : Comparison) (line : PortLine) → Goes s c line c' → Leads s c (line ∷ []) c'
one_leads s c c' line goes =
    record {
      standing = goes.standing;
      rest_is = goes.rest_is;
      counts_are = λ (more : List PortLine). ap (λ counts. counted counts more) (sym goes.counts_are);
      sparse_is = goes.sparse_is;
    }

pub leads_on : (s : Program) (a b c : Comparison) (xs ys : List PortLine) → Leads s a xs b → Leads s b ys c → Leads s a (xs ++ ys) c
leads_on s a b c xs ys first second =
    record {
      standing = second.standing;
      rest_is = λ (more : List PortLine). ap (rest s a) (append_assoc xs ys more) ∙ first.rest_is (ys ++ more) ∙ second.rest_is more;
      counts_are = λ (more : List PortLine). ap (counted a.counts) (append_assoc xs ys more) ∙ first.counts_are (ys ++ more) ∙ second.counts_are more;
      sparse_is = second.sparse_is ∙ first.sparse_is;
    }

-- ---- one line of bytes

pub bytes_lead : (s : Program) (c c' : Comparison) (line text : List ℕ) (read : PortLine) → text ≡ trimmed line → (length text == 0) ≡ false → read ≡ port_line text → Goes s c read c' → Leads s c (counted_lines (line ∷ [])) c'
bytes_lead s c c' line text read is some was goes =
    let none : is_empty (trimmed line) ≡ false = subst (λ (t : List ℕ). is_empty t ≡ false) is (empty_is text false some) in
    let same : read ≡ port_line (trimmed line) = was ∙ ap port_line is in
    subst (λ (ls : List PortLine). Leads s c ls c') (ap (λ (l : PortLine). l ∷ []) same ∙ sym (counted_first line [] none)) (one_leads s c c' read goes)

pub bytes_decide : (s : Program) (c : Comparison) (line text : List ℕ) (read : PortLine) (v : Verdict) → text ≡ trimmed line → (length text == 0) ≡ false → read ≡ port_line text
    → ((lines : List PortLine) → IsVerdict c read (rest s c (front read lines)) v)
    → (is_empty (trimmed line) ≡ false) × ((lines : List (List ℕ)) → IsVerdict c (port_line (trimmed line)) (rest s c (counted_lines (line ∷ lines))) v)
bytes_decide s c line text read v is some was given =
    let none : is_empty (trimmed line) ≡ false = subst (λ (t : List ℕ). is_empty t ≡ false) is (empty_is text false some) in
    let same : read ≡ port_line (trimmed line) = was ∙ ap port_line is in (
      none,
      λ (lines : List (List ℕ)).
          let more : List PortLine = counted_lines lines in
          let at : IsVerdict c (port_line (trimmed line)) (rest s c (front (port_line (trimmed line)) more)) v =
          subst (λ (l : PortLine). IsVerdict c l (rest s c (front l more)) v) same (given more) in
          let all : front (port_line (trimmed line)) more ≡ counted_lines (line ∷ lines) = front_there (port_line (trimmed line)) more (line_there (trimmed line)) ∙ sym (counted_first line lines none) in
          subst (λ (ls : List PortLine). IsVerdict c (port_line (trimmed line)) (rest s c ls) v) all at,
    )

-- ---- the lines of a reader

-- lines were taken from the front of known bytes
abbrev pub TakesLines : Option (List ℕ) → Option (List ℕ) → List (List ℕ) → Type 0
TakesLines None new lines = ⊤
TakesLines (Some text) None lines = ⊥
TakesLines (Some text) (Some rest) lines = lines_of text ≡ lines ++ lines_of rest

-- so many lines of the input were taken, and they agree
pub record IsUnderWay (sparse : Bool) (s : Program) (c : Comparison) (count : ℕ) (input left : Option (List ℕ)) : Type 0 where
  pub lines : List (List ℕ)
  pub taken : TakesLines input left lines
  pub count_is : length lines ≡ count
  pub leads : Leads s (begun sparse s) (counted_lines lines) c

pub nothing_taken : (input : Option (List ℕ)) → TakesLines input input []
nothing_taken None = tt
nothing_taken (Some text) = refl

pub takes_more : (input left next : Option (List ℕ)) (lines : List (List ℕ)) (line : List ℕ) → TakesLines input left lines → TakesLine left next true line → TakesLines input next (lines ++ line ∷ [])
takes_more None left next lines line taken more = tt
takes_more (Some text) None next lines line taken more = absurd taken
takes_more (Some text) (Some rest) None lines line taken more = absurd more
takes_more (Some text) (Some rest) (Some behind) lines line taken more =
    taken ∙ ap (λ ls. lines ++ ls) more ∙ sym (append_assoc lines (line ∷ []) (lines_of behind))

-- ---- verdicts

-- where the lines before agree, the verdict on the rest is that on all
pub verdict_on_all : (sparse : Bool) (s : Program) (c : Comparison) (first behind : List PortLine) (line : PortLine) (v : Verdict) → Leads s (begun sparse s) first c → IsVerdict c line (rest s c (front line behind)) v
    → IsVerdictOf sparse s (first ++ front line behind) v
verdict_on_all sparse s c first behind line (Conforms counts) leads is = (
  leads.rest_is (front line behind) ∙ is.0,
  is.1 ∙ ap (λ (l : PortLine). counted c.counts (front l behind)) (sym is.2) ∙ sym (leads.counts_are (front line behind)),
)
verdict_on_all sparse s c first behind line (Differs d) leads is = subst (λ (o : Outcome). IsDifferenceOf o d) (sym (leads.rest_is (front line behind))) is
verdict_on_all sparse s c first behind line (Stopped place refusal) leads (inl e) = inl (leads.rest_is (front line behind) ∙ e)
verdict_on_all sparse s c first behind line (Stopped place refusal) leads (inr e) =
    inr (record { agreed = first; next = line; behind = behind; are = refl; here = c; leads = leads; place_is = e.0; memory = e.1 })

no_lines : (bytes : List ℕ) → bytes ≡ [] → lines_of bytes ≡ []
unfolding lines_of
no_lines bytes e = ap lines_of e

-- no line is left
pub all_taken : (text rest : List ℕ) (lines : List (List ℕ)) → lines_of text ≡ lines ++ lines_of rest → rest ≡ [] → lines_of text ≡ lines
all_taken text rest lines taken none = taken ∙ ap (λ ls. lines ++ ls) (no_lines rest none) ∙ append-nil lines

pub finished : (sparse : Bool) (s : Program) (c : Comparison) (count : ℕ) (input left next : Option (List ℕ)) (line : List ℕ) (v : Verdict) → IsUnderWay sparse s c count input left → TakesLine left next false line
    → IsVerdict c Nothing (rest s c []) v → IfSome input (λ text. IsVerdictOf sparse s (counted_lines (lines_of text)) v)
finished sparse s c count None left next line v way none is = tt
finished sparse s c count (Some text) left next line v way none is = go left way.taken none
  where
    all : IsVerdictOf sparse s (counted_lines way.lines) v
    all = subst (λ (ls : List PortLine). IsVerdictOf sparse s ls v) (append-nil (counted_lines way.lines)) (verdict_on_all sparse s c (counted_lines way.lines) [] Nothing v way.leads is)

    go : (left : Option (List ℕ)) → TakesLines (Some text) left way.lines → TakesLine left next false line → IsVerdictOf sparse s (counted_lines (lines_of text)) v
    go None taken none = absurd taken
    go (Some rest) taken none = at next none
      where
        at : (next : Option (List ℕ)) → TakesLine (Some rest) next false line → IsVerdictOf sparse s (counted_lines (lines_of text)) v
        at None none = absurd none
        at (Some behind) none = subst (λ (ls : List (List ℕ)). IsVerdictOf sparse s (counted_lines ls) v) (sym (all_taken text rest way.lines taken none.0)) all

-- a line of bytes, and those behind it
decided_first : (sparse : Bool) (s : Program) (c : Comparison) (first behind all : List PortLine) (line : PortLine) (v : Verdict) → front line behind ≡ all → Leads s (begun sparse s) first c → IsVerdict c line (rest s c all) v
    → IsVerdictOf sparse s (first ++ all) v
decided_first sparse s c first behind all line v is leads given =
    subst (λ (ls : List PortLine). IsVerdictOf sparse s (first ++ ls) v) is
    (verdict_on_all sparse s c first behind line v leads (subst (λ (ls : List PortLine). IsVerdict c line (rest s c ls) v) (sym is) given))

pub decided : (sparse : Bool) (s : Program) (c : Comparison) (count : ℕ) (input left next : Option (List ℕ)) (line : List ℕ) (v : Verdict) → IsUnderWay sparse s c count input left → TakesLine left next true line
    → (is_empty (trimmed line) ≡ false) × ((lines : List (List ℕ)) → IsVerdict c (port_line (trimmed line)) (rest s c (counted_lines (line ∷ lines))) v)
    → IfSome input (λ text. IsVerdictOf sparse s (counted_lines (lines_of text)) v)
decided sparse s c count None left next line v way more given = tt
decided sparse s c count (Some text) left next line v way more given = go left way.taken more
  where
    first : (behind : List (List ℕ)) → front (port_line (trimmed line)) (counted_lines behind) ≡ counted_lines (line ∷ behind)
    first behind = front_there (port_line (trimmed line)) (counted_lines behind) (line_there (trimmed line)) ∙ sym (counted_first line behind given.0)

    on_all : (behind : List (List ℕ)) → IsVerdictOf sparse s (counted_lines (way.lines ++ line ∷ behind)) v
    on_all behind =
        subst (λ (ls : List PortLine). IsVerdictOf sparse s ls v) (sym (counted-append way.lines (line ∷ behind)))
        (decided_first sparse s c (counted_lines way.lines) (counted_lines behind) (counted_lines (line ∷ behind)) (port_line (trimmed line)) v (first behind) way.leads (given.1 behind))

    go : (left : Option (List ℕ)) → TakesLines (Some text) left way.lines → TakesLine left next true line → IsVerdictOf sparse s (counted_lines (lines_of text)) v
    go None taken more = absurd taken
    go (Some rest) taken more = at next more
      where
        at : (next : Option (List ℕ)) → TakesLine (Some rest) next true line → IsVerdictOf sparse s (counted_lines (lines_of text)) v
        at None more = absurd more
        at (Some behind) more =
            subst (λ (ls : List (List ℕ)). IsVerdictOf sparse s (counted_lines ls) v) (sym (taken ∙ ap (λ ls. way.lines ++ ls) more)) (on_all (lines_of behind))

-- ---- stops

pub stops_behind : (sparse : Bool) (s : Program) (c : Comparison) (count earlier : ℕ) (input left : Option (List ℕ)) (stop : CompareStop) → IsUnderWay sparse s c count input left → IsNumber stop (earlier + count)
    → IfSome input (λ text. StopsBehind sparse s stop earlier (lines_of text))
stops_behind sparse s c count earlier None left stop way number = tt
stops_behind sparse s c count earlier (Some text) left stop way number = go left way.taken
  where
    go : (left : Option (List ℕ)) → TakesLines (Some text) left way.lines → StopsBehind sparse s stop earlier (lines_of text)
    go None taken = absurd taken
    go (Some rest) taken =
        record {
          lines = way.lines;
          behind = lines_of rest;
          are = taken;
          here = c;
          leads = way.leads;
          number = subst (λ (n : ℕ). IsNumber stop (earlier + n)) (sym way.count_is) number;
        }

-- nothing was compared
none_way : (sparse : Bool) (s : Program) (input : Option (List ℕ)) → IsUnderWay sparse s (begun sparse s) 0 input input
none_way sparse s input =
    record { lines = []; taken = nothing_taken input; count_is = refl; leads = stays s (begun sparse s) (record { shown = []; at = refl; opening = refl }) }

none_compared : (sparse : Bool) (s : Program) (earlier : ℕ) (input : Option (List ℕ)) (stop : CompareStop) → IsNumber stop (earlier + 0) → IfSome input (λ text. StopsBehind sparse s stop earlier (lines_of text))
none_compared sparse s earlier input stop number = stops_behind sparse s (begun sparse s) 0 earlier input input stop (none_way sparse s input) number

-- if memory runs out
pub memory_at_first : (sparse : Bool) (s : Program) (earlier number : ℕ) (input : Option (List ℕ)) → number ≡ min (earlier + 1) (2 ^ 64 - 1) → IfSome input (λ text. StopsBehind sparse s (Memory number) earlier (lines_of text))
memory_at_first sparse s earlier number input is =
    let same : earlier ≡ earlier + 0 = omega arith in
    none_compared sparse s earlier input (Memory number) (is ∙ ap (λ (n : ℕ). min (n + 1) (2 ^ 64 - 1)) same)
