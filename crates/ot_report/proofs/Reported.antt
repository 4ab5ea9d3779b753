-- The report of a run, from what was gathered of it.
use Rattle.std.proofs.Common.{◌≡◌, ℕ, Bool, zero, suc, ◌+◌, ◌<◌, ◌≤◌, ◌^◌, List, [], ◌∷◌, ◌++◌, length, take, refl, sym, ap, ◌∙◌, subst, arith, le_refl, Option, Some, None}
use Rattle.std.specs.declared.alloc.Global.{Global}
use Rattle.std.specs.Io.KnownBytes.{Appends}
use Rattle.std.proofs.KnownBytes.{Appends-nil, Appends-trans}
use Rattle.std.proofs.lemmas.List.{append_assoc, length-append}
use Rattle.std.proofs.lemmas.Option.{same_Some}
use Rattle.streams.specs.Streams.{WritesPart}
use Rattle.streams.proofs.Parts.{part_after, part_of_front}
use denote.RawPtr.{null_ptr}
use Rattle.ot_isa.specs.Program.{Program, IsProgram}
use Rattle.ot_isa.specs.declared.builder.TheConstants.{INSTR_LIMIT}
use Rattle.ot_isa.specs.declared.instruction.Instr.{Instr}
use Rattle.ot_model.specs.declared.shown.Refusal.{Refusal}
use Rattle.ot_model.specs.declared.shown.Refusal.TheVariants.{Memory}
use Rattle.ot_model.specs.declared.shown.Shown.{Shown}
use Rattle.ot_model.specs.Table.{State, Place, Outcome, Performed, Refused, NoRow, begin, run, step, with_shown}
use Rattle.ot_model.specs.Runs.{place_at}
use Rattle.ot_machine.specs.declared.outcome.Run.{Run}
use Rattle.ot_machine.specs.Ended.{reached, IsStop}
use Rattle.ot_report.specs.Authors.{author_of}
use Rattle.ot_report.specs.Printed.{end_text, read_lines, stop_text, IsEndText}
use Rattle.ot_report.specs.Written.{GathersReads, IsReportOf, ReadsUpTo, WritesFirstReads, WritesPartOfReport, WritesReport, WritesReportUpTo}
use Rattle.streams.specs.declared.OutputFault.{OutputFault}
use Rattle.streams.specs.declared.OutputFault.TheVariants as fault
use Rattle.ot_report.proofs.Progress.{all_reads}
use Rattle.ot_report.proofs.Quiet.{quiet_or_not}

-- ---- no more reads are shown than there are instructions

shown_within : (is : List Instr) (p q : Place) → run is p ≡ Some q → length q.shown ≤ length p.shown + length is
shown_within [] p q e = let same : length p.shown ≡ length q.shown = ap (λ (r : Place). length r.shown) (same_Some p q e) in omega (arith, same)
shown_within (i ∷ is) p q e = go (λ r f. shown_within is r q f) (step p.state i) e
  where
    one_more : (list : Option Shown) → length (with_shown p.shown list) ≤ suc (length p.shown)
    one_more None = omega arith
    one_more (Some x) = omega (arith, length-append p.shown (x ∷ []))

    go : ((r : Place) → run is r ≡ Some q → length q.shown ≤ length r.shown + length is) → (o : Outcome)
        → (elim o [ Performed t list ↦ run is (record { state = t; shown = with_shown p.shown list }) | Refused r ↦ None | NoRow ↦ None ]) ≡ Some q
        → length q.shown ≤ length p.shown + suc (length is)
    go on (Performed t list) f =
        let most = on (record { state = t; shown = with_shown p.shown list }) f in
        let more = one_more list in
        omega arith
    go on (Refused r) f = absurd (cc)
    go on NoRow f = absurd (cc)

take_within : {A : Type 0} (n : ℕ) (xs : List A) → length (take n xs) ≤ length xs
take_within zero xs = omega arith
take_within (suc n) [] = omega arith
take_within (suc n) (x ∷ xs) = let few = take_within n xs in omega arith

shown_small : (s : Program) (n : ℕ) (q : Place) → IsProgram s → place_at s n ≡ Some q → length q.shown < 2 ^ 63
shown_small s n q limits at =
    let most = shown_within (take n s.instrs) (begin s.clients s.present s.start) q at in
    let few : length (take n s.instrs) ≤ length s.instrs = take_within n s.instrs in
    let limit : INSTR_LIMIT ≡ 100000 = refl in
    let fits = limits.instrs_fit in
    omega arith

-- a run that ends in this state, with these lists shown
abbrev replay : Global → State → (shown : List Shown) → length shown < 2 ^ 63 → Option (ℕ × Refusal) → Run
replay heap state shown small stopped =
    record {
      machine = state;
      shown = record { ptr = null_ptr; len = length shown; cap = length shown; alloc = heap; items = shown; ok = (refl, le_refl (length shown)); small = small };
      stopped = stopped;
    }

-- it is a run of the schedule, and each text that ends as its state does is its report
module _ (json : Bool) (heap : Global) (s : Program) (limits : IsProgram s) (stopped : Option (ℕ × Refusal)) (place : Place)
    (at : place_at s (reached s stopped) ≡ Some place) (stop : IsStop s place.state stopped) (end : List ℕ) (is_end : IsEndText json place.state end) where
  abbrev its : Run
  its = replay heap place.state place.shown (shown_small s (reached s stopped) place limits at) stopped

  abbrev its_report : List ℕ
  its_report = read_lines json (author_of s.instrs) place.shown ++ stop_text json stopped ++ end

  is_its : IsReportOf json s its its_report
  is_its = record { is_run = record { at = at; stop = stop }; is_report = (end, is_end, refl) }

  pub reported : (old new : Option (List ℕ)) → Appends old new its_report → WritesReport json s stopped old new
  reported old new written = record { run = its; stopped_is = refl; text = its_report; is = is_its; written = written }

  pub part_reported : (old new : Option (List ℕ)) → WritesPart old new its_report → WritesPartOfReport json s old new
  part_reported old new written = record { run = its; text = its_report; is = is_its; written = written }

-- ---- faults among the reads

-- the run may stop before the next instruction, if memory runs out
cut_short : (json : Bool) (heap : Global) (s : Program) → IsProgram s → (old new : Option (List ℕ)) → ReadsUpTo fault.WriteFault json s old new → WritesPartOfReport json s old new
cut_short json heap s limits old new (p, before, (place, at, written)) =
    let quiet = quiet_or_not place.state in
    let end : List ℕ = end_text json place.state quiet.0 in
    part_reported json heap s limits (Some (p, Memory)) place at before end (quiet.0, quiet.1, refl) old new
    (part_of_front old new (read_lines json (author_of s.instrs) place.shown ++ stop_text json (Some (p, Memory))) end (part_of_front old new (read_lines json (author_of s.instrs) place.shown) (stop_text json (Some (p, Memory))) written))

pub reads_cut_short : (f : OutputFault) (json : Bool) (heap : Global) (s : Program) → IsProgram s → (old new : Option (List ℕ)) → ReadsUpTo f json s old new → WritesReportUpTo f json s old new
reads_cut_short fault.Memory json heap s limits old new reads = reads
reads_cut_short fault.WriteFault json heap s limits old new reads = cut_short json heap s limits old new reads

-- nothing is written yet
pub nothing_read : (json : Bool) (s : Program) (old : Option (List ℕ)) → WritesFirstReads json s old old
nothing_read json s old = record { performed = 0; place = begin s.clients s.present s.start; at = refl; written = Appends-nil old }

-- ---- what is gathered, with the stop, and the end behind it

module _ (json : Bool) (heap : Global) (s : Program) (limits : IsProgram s) (stopped : Option (ℕ × Refusal)) (state : State) (gathered : List ℕ) (old mid : Option (List ℕ))
    (reads : GathersReads json s stopped state gathered old mid) (text end : List ℕ) (is_text : text ≡ gathered ++ stop_text json stopped) (is_end : IsEndText json state end) where
  its_end : IsEndText json reads.place.state end
  its_end = subst (λ (t : State). IsEndText json t end) (sym reads.state_is) is_end

  its_stop : IsStop s reads.place.state stopped
  its_stop = subst (λ (t : State). IsStop s t stopped) (sym reads.state_is) reads.stop

  abbrev first : List ℕ
  first = read_lines json (author_of s.instrs) reads.reads.first.place.shown

  -- all lines but those of the end
  abbrev lines : List ℕ
  lines = read_lines json (author_of s.instrs) reads.place.shown ++ stop_text json stopped

  are_lines : first ++ text ≡ lines
  are_lines =
      ap (λ (t : List ℕ). first ++ t) is_text
      ∙ sym (append_assoc first gathered (stop_text json stopped))
      ∙ ap (λ (t : List ℕ). t ++ stop_text json stopped) (all_reads json s reads.place.shown gathered old mid reads.reads)

  lines_written : (later : Option (List ℕ)) → Appends mid later text → Appends old later lines
  lines_written later before = subst (Appends old later) are_lines (Appends-trans old mid later first text reads.reads.first.written before)

  -- a write of the text fails
  pub text_cut : (new : Option (List ℕ)) → WritesPart mid new text → WritesPartOfReport json s old new
  text_cut new written =
      part_reported json heap s limits stopped reads.place reads.at its_stop end its_end old new
      (part_of_front old new lines end (subst (WritesPart old new) are_lines (part_after old mid new first text reads.reads.first.written written)))

  -- a write of the end fails
  pub end_cut : (later new : Option (List ℕ)) → Appends mid later text → WritesPart later new end → WritesPartOfReport json s old new
  end_cut later new before written =
      part_reported json heap s limits stopped reads.place reads.at its_stop end its_end old new (part_after old later new lines end (lines_written later before) written)

  -- none does
  pub all_reported : (later new : Option (List ℕ)) → Appends mid later text → Appends later new end → WritesReport json s stopped old new
  all_reported later new before written =
      reported json heap s limits stopped reads.place reads.at its_stop end its_end old new (Appends-trans old later new lines end (lines_written later before) written)
