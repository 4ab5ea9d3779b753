-- The paragraphs that are written while a run goes.
use Rattle.std.proofs.Common.{◌≡◌, ℕ, suc, ◌+◌, ◌≤◌, List, [], ◌∷◌, ◌++◌, length, take, refl, sym, ap, ◌∙◌, subst, arith, inl, inr, Option, Some, None, Bool, add-one}
use Rattle.std.specs.Prelude.{slice_get, is_some}
use Rattle.std.specs.Io.KnownBytes.{Appends}
use Rattle.std.proofs.KnownBytes.{Appends-nil, Appends-trans}
use Rattle.std.proofs.lemmas.List.{append_assoc, append-nil, length-take-le}
use Rattle.std.proofs.lemmas.Option.{same_Some, slice_get_within}
use Rattle.streams.specs.Streams.{WritesPart}
use Rattle.streams.proofs.Parts.{part_after}
use Rattle.ot_isa.specs.Program.{Program}
use Rattle.ot_isa.specs.declared.instruction.Instr.{Instr}
use Rattle.ot_model.specs.declared.shown.Refusal.{Refusal}
use Rattle.ot_model.specs.declared.shown.Shown.{Shown}
use Rattle.ot_model.specs.Table.{State, Place, Outcome, Performed, Refused, NoRow, begin, run, step, with_shown}
use Rattle.ot_model.specs.Runs.{done, opening_of, place_at}
use Rattle.ot_model.proofs.Runs.{place_at-next, reaches}
use Rattle.ot_model.proofs.States.{take_entry}
use Rattle.ot_machine.specs.Answers.{IsRefusal}
use Rattle.ot_machine.specs.Ended.{reached, IsStop}
use Rattle.ot_machine.proofs.Stopping.{stopped_at, whole}
use Rattle.ot_model.specs.Operation.{Operation}
use Rattle.ot_steps.specs.Steps.{applies}
use Rattle.ot_steps.proofs.Running.{reached_within}
use Rattle.streams.specs.declared.OutputFault.{OutputFault}
use Rattle.streams.specs.declared.OutputFault.TheVariants.{Memory, WriteFault}
use Rattle.ot_asm.specs.Comments.{Said}
use Rattle.ot_asm.specs.Named.{named}
use Rattle.ot_explain.specs.Told.{after, before, heading, opening_words, paragraph}
use Rattle.ot_explain.specs.Explained.{IsMove, IsRunText, MovesUpTo, WritesMoves, WritesRun, WritesUpTo, first_paragraphs, first_text, last_text, line_at, paragraphs, run_text}

-- ---- paragraphs

-- those of more instructions
paragraphs_on : (lines : List ℕ) (said : Said) (is js : List Instr) (at : ℕ) (p q : Place) → run is p ≡ Some q → paragraphs lines said at p.state (is ++ js) ≡ paragraphs lines said at p.state is ++ paragraphs lines said (at + length is) q.state js
paragraphs_on lines said [] js at p q e =
    let same : at + 0 ≡ at = omega arith in
    ap (λ (r : Place). paragraphs lines said at r.state js) (same_Some p q e) ∙ ap (λ (n : ℕ). paragraphs lines said n q.state js) (sym same)
paragraphs_on lines said (i ∷ is) js at p q e = go (λ r f. paragraphs_on lines said is js (suc at) r q f) (step p.state i) e
  where
    same : suc at + length is ≡ at + suc (length is)
    same = omega arith

    go : ((r : Place) → run is r ≡ Some q → paragraphs lines said (suc at) r.state (is ++ js) ≡ paragraphs lines said (suc at) r.state is ++ paragraphs lines said (suc at + length is) q.state js) → (o : Outcome)
        → (elim o [ Performed t list ↦ run is (record { state = t; shown = with_shown p.shown list }) | Refused r ↦ None | NoRow ↦ None ]) ≡ Some q
        → ◌≡◌ {A = List ℕ} (elim o [ Performed t list ↦ named said.names (paragraph (line_at lines at) at i p.state t) ++ paragraphs lines said (suc at) t (is ++ js) | Refused r ↦ [] | NoRow ↦ [] ])
        (◌++◌ {A = ℕ} (elim o [ Performed t list ↦ named said.names (paragraph (line_at lines at) at i p.state t) ++ paragraphs lines said (suc at) t is | Refused r ↦ [] | NoRow ↦ [] ]) (paragraphs lines said (at + suc (length is)) q.state js))
    go on (Performed t list) f =
        ap (λ (text : List ℕ). named said.names (paragraph (line_at lines at) at i p.state t) ++ text)
        (on (record { state = t; shown = with_shown p.shown list }) f ∙ ap (λ (n : ℕ). paragraphs lines said (suc at) t is ++ paragraphs lines said n q.state js) same)
        ∙ sym (append_assoc (named said.names (paragraph (line_at lines at) at i p.state t)) (paragraphs lines said (suc at) t is) (paragraphs lines said (at + suc (length is)) q.state js))
    go on (Refused r) f = absurd (cc)
    go on NoRow f = absurd (cc)

one_paragraph : (lines : List ℕ) (said : Said) (n : ℕ) (i : Instr) (s t : State) (shown : Option Shown) → step s i ≡ Performed t shown → paragraphs lines said n s (i ∷ []) ≡ named said.names (paragraph (line_at lines n) n i s t)
one_paragraph lines said n i s t shown e = rw (paragraphs, e) (append-nil (named said.names (paragraph (line_at lines n) n i s t)))

one_more : (lines : List ℕ) (said : Said) (s : Program) (p : ℕ) (q : Place) (i : Instr) (t : State) (shown : Option Shown) → place_at s p ≡ Some q → slice_get s.instrs p ≡ Some i → step q.state i ≡ Performed t shown
    → first_paragraphs lines said s (suc p) ≡ first_paragraphs lines said s p ++ named said.names (paragraph (line_at lines p) p i q.state t)
one_more lines said s p q i t shown here at e =
    let inside = slice_get_within s.instrs p i at in
    let many : 0 + length (take p s.instrs) ≡ p = let l = length-take-le p s.instrs (omega arith) in omega arith in
    ap (λ (is : List Instr). paragraphs lines said 0 (opening_of s) is) (take_entry s.instrs p i at)
    ∙ paragraphs_on lines said (take p s.instrs) (i ∷ []) 0 (begin s.clients s.present s.start) q here
    ∙ ap (λ (n : ℕ). first_paragraphs lines said s p ++ paragraphs lines said n q.state (i ∷ [])) many
    ∙ ap (λ (text : List ℕ). first_paragraphs lines said s p ++ text) (one_paragraph lines said p i q.state t shown e)

-- ---- one instruction

-- a paragraph from its parts
pub paragraph_made : (line number : ℕ) (i : Instr) (s t : State) (applied : Option (Operation ℕ)) (start mid text : List ℕ) → start ≡ heading line number i → mid ≡ start ++ before i s → text ≡ mid ++ after i applied t
    → applied ≡ applies i s → text ≡ paragraph line number i s t
paragraph_made line number i s t applied start mid text is_start is_mid is_text is_applied =
    is_text ∙ ap (λ (m : List ℕ). m ++ after i applied t) is_mid ∙ append_assoc start (before i s) (after i applied t)
    ∙ (λ k. is_start k ++ (before i s ++ after i (is_applied k) t))

-- ---- a run under way

-- p instructions are performed, and their paragraphs written
pub record IsAt (lines : List ℕ) (said : Said) (s : Program) (p : ℕ) (state : State) (old new : Option (List ℕ)) : Type 0 where
  pub shown : List Shown
  pub at : place_at s p ≡ Some (record { state = state; shown = shown })
  pub written : Appends old new (first_paragraphs lines said s p)

pub is_begun : (lines : List ℕ) (said : Said) (s : Program) (state : State) (old : Option (List ℕ)) → state ≡ opening_of s → IsAt lines said s 0 state old old
is_begun lines said s state old is = record { shown = []; at = rw is refl; written = Appends-nil old }

reached_done : (lines : List ℕ) (said : Said) (s : Program) (p : ℕ) (state : State) (old new : Option (List ℕ)) → p ≤ length s.instrs → IsAt lines said s p state old new → p ≤ done s
reached_done lines said s p state old new le is = (reaches s p le).1 (rw is.at refl)

module _ (lines : List ℕ) (said : Said) (s : Program) (p : ℕ) (i : Instr) (state t : State) (old mid : Option (List ℕ)) (text bytes : List ℕ)
    (is : IsAt lines said s p state old mid) (at : slice_get s.instrs p ≡ Some i) (move : IsMove (line_at lines p) p i state t text) (with_names : bytes ≡ named said.names text) where
  next_place : place_at s (suc p) ≡ Some (record { state = t; shown = with_shown is.shown move.shown })
  next_place = place_at-next s p (record { state = state; shown = is.shown }) i t move.shown is.at at move.performed

  next_text : first_paragraphs lines said s p ++ bytes ≡ first_paragraphs lines said s (suc p)
  next_text =
      ap (λ (b : List ℕ). first_paragraphs lines said s p ++ b) (with_names ∙ ap (λ (t : List ℕ). named said.names t) move.is)
      ∙ sym (one_more lines said s p (record { state = state; shown = is.shown }) i t move.shown is.at at move.performed)

  -- its paragraph is written
  pub is_next : (new : Option (List ℕ)) → Appends mid new bytes → IsAt lines said s (p + 1) t old new
  is_next new written =
      subst (λ (n : ℕ). IsAt lines said s n t old new) (sym (add-one p))
      (record {
        shown = with_shown is.shown move.shown;
        at = next_place;
        written = subst (Appends old new) next_text (Appends-trans old mid new (first_paragraphs lines said s p) bytes is.written written);
      })

  -- a first part of it is
  pub part_of_next : (new : Option (List ℕ)) → WritesPart mid new bytes → MovesUpTo WriteFault lines said s old new
  part_of_next new written =
      let inside = slice_get_within s.instrs p i at in (
        suc p,
        (reaches s (suc p) (omega arith)).1 (rw next_place refl),
        subst (WritesPart old new) next_text (part_after old mid new (first_paragraphs lines said s p) bytes is.written written),
      )

pub no_memory : (lines : List ℕ) (said : Said) (s : Program) (p : ℕ) (i : Instr) (state : State) (old new : Option (List ℕ)) → IsAt lines said s p state old new → slice_get s.instrs p ≡ Some i → MovesUpTo Memory lines said s old new
no_memory lines said s p i state old new is at =
    let inside = slice_get_within s.instrs p i at in
    (p, reached_done lines said s p state old new (omega arith) is, is.written)

pub is_stopped : (lines : List ℕ) (said : Said) (s : Program) (p : ℕ) (i : Instr) (r : Refusal) (state after : State) (old new : Option (List ℕ)) → IsAt lines said s p state old new → slice_get s.instrs p ≡ Some i
    → IsRefusal (step state i) r → after ≡ state → WritesMoves lines said s (Some (p, r)) after old new
is_stopped lines said s p i r state after old new is at refused same =
    rw same (record {
      place = record { state = state; shown = is.shown };
      at = is.at;
      state_is = refl;
      stop = stopped_at s p (record { state = state; shown = is.shown }) i r is.at at refused;
      written = is.written;
    })

pub is_whole : (lines : List ℕ) (said : Said) (s : Program) (p : ℕ) (state : State) (old new : Option (List ℕ)) → length s.instrs ≤ p → p ≤ length s.instrs → IsAt lines said s p state old new → WritesMoves lines said s None state old new
is_whole lines said s p state old new le ge is =
    let same : p ≡ length s.instrs = omega arith in
    let fact = whole s p (record { state = state; shown = is.shown }) le ge is.at in
    record {
      place = record { state = state; shown = is.shown };
      at = fact.0;
      state_is = refl;
      stop = fact.1;
      written = subst (λ (n : ℕ). Appends old new (first_paragraphs lines said s n)) same is.written;
    }

-- ---- the opening before them, and the end behind

opening_text : (lines : List ℕ) (said : Said) (s : Program) → first_text lines said s 0 ≡ opening_words s
opening_text lines said s = append-nil (opening_words s)

pub opening_cut : (lines : List ℕ) (said : Said) (s : Program) (old new : Option (List ℕ)) (bytes : List ℕ) → bytes ≡ opening_words s → WritesPart old new bytes → WritesUpTo WriteFault lines said s old new
opening_cut lines said s old new bytes is written =
    record { text = first_text lines said s 0; is = inl (0, omega arith, refl); written = subst (WritesPart old new) (is ∙ sym (opening_text lines said s)) written }

pub moves_cut : (f : OutputFault) (lines : List ℕ) (said : Said) (s : Program) (old mid new : Option (List ℕ)) (bytes : List ℕ) → bytes ≡ opening_words s → Appends old mid bytes → MovesUpTo f lines said s mid new → WritesUpTo f lines said s old new
moves_cut Memory lines said s old mid new bytes is opened moves =
    inr (moves.0, moves.1, subst (λ (front : List ℕ). Appends old new (front ++ first_paragraphs lines said s moves.0)) is (Appends-trans old mid new bytes (first_paragraphs lines said s moves.0) opened moves.2))
moves_cut WriteFault lines said s old mid new bytes is opened moves =
    record {
      text = first_text lines said s moves.0;
      is = inl (moves.0, moves.1, refl);
      written = subst (λ (front : List ℕ). WritesPart old new (front ++ first_paragraphs lines said s moves.0)) is (part_after old mid new bytes (first_paragraphs lines said s moves.0) opened moves.2);
    }

module _ (lines : List ℕ) (said : Said) (s : Program) (stopped : Option (ℕ × Refusal)) (state : State) (old mid later : Option (List ℕ)) (bytes last : List ℕ)
    (is : bytes ≡ opening_words s) (opened : Appends old mid bytes) (moves : WritesMoves lines said s stopped state mid later) where
  first_written : Appends old later (first_text lines said s (reached s stopped))
  first_written = subst (λ (front : List ℕ). Appends old later (front ++ first_paragraphs lines said s (reached s stopped))) is (Appends-trans old mid later bytes (first_paragraphs lines said s (reached s stopped)) opened moves.written)

  is_run : IsRunText lines said s stopped (run_text lines said s state stopped)
  is_run =
      record {
        place = moves.place;
        at = moves.at;
        stop = subst (λ (t : State). IsStop s t stopped) (sym moves.state_is) moves.stop;
        is = ap (λ (t : State). run_text lines said s t stopped) (sym moves.state_is);
      }

  all_text : last ≡ last_text lines said s state stopped → first_text lines said s (reached s stopped) ++ last ≡ run_text lines said s state stopped
  all_text ends = ap (λ (t : List ℕ). first_text lines said s (reached s stopped) ++ t) ends

  pub last_missing : WritesUpTo Memory lines said s old later
  last_missing = inr (reached s stopped, (reaches s (reached s stopped) (reached_within s state stopped moves.stop)).1 (rw moves.at refl), first_written)

  pub last_cut : (new : Option (List ℕ)) → last ≡ last_text lines said s state stopped → WritesPart later new last → WritesUpTo WriteFault lines said s old new
  last_cut new ends written =
      record {
        text = run_text lines said s state stopped;
        is = inr (stopped, is_run);
        written = subst (WritesPart old new) (all_text ends) (part_after old later new _ last first_written written);
      }

  pub all_written : (refused : Bool) (new : Option (List ℕ)) → refused ≡ is_some stopped → last ≡ last_text lines said s state stopped → Appends later new last → WritesRun lines said s refused old new
  all_written refused new refused_is ends written =
      record {
        stopped = stopped;
        text = run_text lines said s state stopped;
        is = is_run;
        refused_is = refused_is;
        written = subst (Appends old new) (all_text ends) (Appends-trans old later new _ last first_written written);
      }
