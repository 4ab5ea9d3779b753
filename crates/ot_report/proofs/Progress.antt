-- A report that is written while its run goes.
use Rattle.std.proofs.Common.{◌≡◌, ℕ, Bool, suc, ◌+◌, ◌≤◌, List, [], ◌∷◌, ◌++◌, length, refl, sym, ap, ◌∙◌, subst, arith, inl, inr, Option, Some, None}
use Rattle.std.specs.Prelude.{slice_get, Result, Ok, Err, IfErr, IsErrAnd}
use Rattle.std.specs.Io.KnownBytes.{Appends, Keeps}
use Rattle.std.proofs.KnownBytes.{Appends-kept, Appends-nil, Appends-trans}
use Rattle.std.proofs.lemmas.List.{append_assoc, append-nil}
use Rattle.streams.specs.Streams.{WritesPart}
use Rattle.streams.proofs.Parts.{part_after}
use Rattle.ot_isa.specs.Program.{Program}
use Rattle.ot_isa.specs.declared.elements.Tag.{Tag}
use Rattle.ot_isa.specs.declared.instruction.Instr.{Instr}
use Rattle.ot_model.specs.declared.shown.Refusal.{Refusal}
use Rattle.ot_model.specs.declared.shown.Refusal.TheVariants.{Memory}
use Rattle.ot_model.specs.declared.shown.Shown.{Shown}
use Rattle.ot_model.specs.Table.{State, Performed, step, with_shown}
use Rattle.ot_model.specs.Runs.{opening_of, place_at}
use Rattle.ot_model.proofs.Runs.{place_at-next}
use Rattle.ot_machine.specs.Answers.{IsPerformed, IsRefusal}
use Rattle.ot_machine.proofs.Stopping.{stopped_at, whole}
use Rattle.ot_report.specs.Authors.{author_of}
use Rattle.ot_report.specs.declared.authors.Author.{Author}
use Rattle.ot_report.specs.Printed.{read_lines, read_text}
use Rattle.ot_report.specs.Written.{AreGathered, Flushes, Gathers, GathersReads, GathersUpTo, ReadsUpTo, WritesFirstReads, shown_line}
use Rattle.streams.specs.declared.OutputFault.{OutputFault}
use Rattle.streams.specs.declared.OutputFault.TheVariants as fault

-- ---- lines of reads

pub reads_append : (json : Bool) (by : Tag → Option Author) (xs ys : List Shown) → read_lines json by (xs ++ ys) ≡ read_lines json by xs ++ read_lines json by ys
reads_append json by [] ys = refl
reads_append json by (x ∷ xs) ys = ap (λ (t : List ℕ). read_text json by x ++ t) (reads_append json by xs ys) ∙ sym (append_assoc (read_text json by x) (read_lines json by xs) (read_lines json by ys))

-- the lists shown by one more instruction
shown_on : (xs ys : List Shown) (list : Option Shown) → with_shown (xs ++ ys) list ≡ xs ++ with_shown ys list
shown_on xs ys None = refl
shown_on xs ys (Some x) = append_assoc xs ys (x ∷ [])

lines_on : (json : Bool) (by : Tag → Option Author) (xs : List Shown) (list : Option Shown) → read_lines json by (with_shown xs list) ≡ read_lines json by xs ++ shown_line json by list
lines_on json by xs None = sym (append-nil (read_lines json by xs))
lines_on json by xs (Some x) = reads_append json by xs (x ∷ []) ∙ ap (λ (t : List ℕ). read_lines json by xs ++ t) (append-nil (read_text json by x))

-- ---- a run under way

-- p instructions are performed, and the lines of their reads are written or gathered
pub record IsAt (json : Bool) (s : Program) (p : ℕ) (state : State) (gathered : List ℕ) (old new : Option (List ℕ)) : Type 0 where
  pub shown : List Shown
  pub at : place_at s p ≡ Some (record { state = state; shown = shown })
  pub reads : AreGathered json s shown gathered old new

pub is_begun : (json : Bool) (s : Program) (state : State) (gathered : List ℕ) (old : Option (List ℕ)) → state ≡ opening_of s → gathered ≡ [] → IsAt json s 0 state gathered old old
is_begun json s state gathered old is empty =
    record {
      shown = [];
      at = rw is refl;
      reads = record {
        first = record { performed = 0; place = record { state = opening_of s; shown = [] }; at = refl; written = Appends-nil old };
        others = [];
        shown_are = refl;
        gathered_are = empty;
      };
    }

-- all that is gathered and written: the reads so far
pub all_reads : (json : Bool) (s : Program) (shown : List Shown) (gathered : List ℕ) (old new : Option (List ℕ)) (reads : AreGathered json s shown gathered old new) → read_lines json (author_of s.instrs) reads.first.place.shown ++ gathered ≡ read_lines json (author_of s.instrs) shown
all_reads json s shown gathered old new reads =
    ap (λ (t : List ℕ). read_lines json (author_of s.instrs) reads.first.place.shown ++ t) reads.gathered_are
    ∙ sym (reads_append json (author_of s.instrs) reads.first.place.shown reads.others)
    ∙ sym (ap (read_lines json (author_of s.instrs)) reads.shown_are)

module _ (json : Bool) (s : Program) (p : ℕ) (i : Instr) (state t : State) (gathered : List ℕ) (old mid : Option (List ℕ))
    (is : IsAt json s p state gathered old mid) (at : slice_get s.instrs p ≡ Some i) where
  -- nothing more is written
  first_kept : (new : Option (List ℕ)) → Keeps mid new → Appends old new (read_lines json (author_of s.instrs) is.reads.first.place.shown)
  first_kept new kept = Appends-kept old mid new (read_lines json (author_of s.instrs) is.reads.first.place.shown) is.reads.first.written kept

  -- all that was gathered is
  all_written : (new : Option (List ℕ)) → Appends mid new gathered → Appends old new (read_lines json (author_of s.instrs) is.shown)
  all_written new wrote =
      subst (Appends old new) (all_reads json s is.shown gathered old mid is.reads)
      (Appends-trans old mid new (read_lines json (author_of s.instrs) is.reads.first.place.shown) gathered is.reads.first.written wrote)

  -- what the next instruction shows is gathered
  next_gathered : (list : Option Shown) (between after : List ℕ) (new : Option (List ℕ)) → Flushes gathered between mid new → after ≡ between ++ shown_line json (author_of s.instrs) list → AreGathered json s (with_shown is.shown list) after old new
  next_gathered list between after new (inl kept) is_after =
      record {
        first = record { performed = is.reads.first.performed; place = is.reads.first.place; at = is.reads.first.at; written = first_kept new kept.0 };
        others = with_shown is.reads.others list;
        shown_are = ap (λ (xs : List Shown). with_shown xs list) is.reads.shown_are ∙ shown_on is.reads.first.place.shown is.reads.others list;
        gathered_are = is_after ∙ ap (λ (bytes : List ℕ). bytes ++ shown_line json (author_of s.instrs) list) (kept.1 ∙ is.reads.gathered_are) ∙ sym (lines_on json (author_of s.instrs) is.reads.others list);
      }
  next_gathered list between after new (inr wrote) is_after =
      record {
        first = record { performed = p; place = record { state = state; shown = is.shown }; at = is.at; written = all_written new wrote.0 };
        others = with_shown [] list;
        shown_are = ap (λ (xs : List Shown). with_shown xs list) (sym (append-nil is.shown)) ∙ shown_on is.shown [] list;
        gathered_are = is_after ∙ ap (λ (bytes : List ℕ). bytes ++ shown_line json (author_of s.instrs) list) wrote.1 ∙ sym (lines_on json (author_of s.instrs) [] list);
      }

  pub is_next : (list : Option Shown) (after : List ℕ) (new : Option (List ℕ)) → step state i ≡ Performed t list → Gathers json (author_of s.instrs) list gathered after mid new → IsAt json s (p + 1) t after old new
  is_next list after new performed gathers =
      let more : suc p ≡ p + 1 = omega arith in
      subst (λ (n : ℕ). IsAt json s n t after old new) more
      (record {
        shown = with_shown is.shown list;
        at = place_at-next s p (record { state = state; shown = is.shown }) i t list is.at at performed;
        reads = next_gathered list gathers.0 after new gathers.1 gathers.2;
      })

  -- if memory ran out the lines of the first reads stand there; where a write fails, a first part of those so far
  pub reads_missing : (new : Option (List ℕ)) → GathersUpTo fault.Memory gathered mid new → WritesFirstReads json s old new
  reads_missing new (between, inl kept) = record { performed = is.reads.first.performed; place = is.reads.first.place; at = is.reads.first.at; written = first_kept new kept.0 }
  reads_missing new (between, inr wrote) = record { performed = p; place = record { state = state; shown = is.shown }; at = is.at; written = all_written new wrote.0 }

  pub reads_cut : (list : Option Shown) (f : OutputFault) (new : Option (List ℕ)) → step state i ≡ Performed t list → GathersUpTo f gathered mid new → ReadsUpTo f json s old new
  reads_cut list fault.Memory new performed missing = reads_missing new missing
  reads_cut list fault.WriteFault new performed wrote =
      let allowed : IsPerformed (step state i) = rw performed tt in (
        p,
        stopped_at s p (record { state = state; shown = is.shown }) i Memory is.at at allowed,
        (
          record { state = state; shown = is.shown },
          is.at,
          subst (WritesPart old new) (all_reads json s is.shown gathered old mid is.reads)
              (part_after old mid new (read_lines json (author_of s.instrs) is.reads.first.place.shown) gathered is.reads.first.written wrote),
        ),
      )

  pub is_stopped : (r : Refusal) (after : State) → IsRefusal (step state i) r → after ≡ state → GathersReads json s (Some (p, r)) after gathered old mid
  is_stopped r after refused same =
      rw same (record {
        place = record { state = state; shown = is.shown };
        at = is.at;
        state_is = refl;
        stop = stopped_at s p (record { state = state; shown = is.shown }) i r is.at at refused;
        reads = is.reads;
      })

pub is_whole : (json : Bool) (s : Program) (p : ℕ) (state : State) (gathered : List ℕ) (old new : Option (List ℕ)) → length s.instrs ≤ p → p ≤ length s.instrs → IsAt json s p state gathered old new → GathersReads json s None state gathered old new
is_whole json s p state gathered old new le ge is =
    let fact = whole s p (record { state = state; shown = is.shown }) le ge is.at in
    record { place = record { state = state; shown = is.shown }; at = fact.0; state_is = refl; stop = fact.1; reads = is.reads }

-- what holds of the fault that an answer is
pub err_is : {T : Type 0} (r : Result T OutputFault) (f : OutputFault) (P : OutputFault → Type 0) → IsErrAnd r (λ e. e ≡ f) → P f → IfErr r P
err_is (Ok x) f P is p = tt
err_is (Err e) f P is p = subst P (sym is) p
