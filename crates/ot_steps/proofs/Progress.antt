-- The lines that are written while a run goes.
use Rattle.std.proofs.Common.{◌≡◌, ℕ, suc, ◌+◌, ◌<◌, ◌≤◌, List, [], ◌∷◌, ◌++◌, length, set, take, refl, sym, ap, ◌∙◌, subst, arith, inl, inr, Option, Some, None, Bool}
use Rattle.std.specs.Prelude.{◌↔◌, slice_get, Result, Ok, Err, IfErr, IfOk, IsErrAnd, IsTrue, String, is_some, string_bytes}
use Rattle.std.specs.declared.alloc.AllocError.{AllocError}
use Rattle.std.specs.declared.alloc.Global.{Global}
use Rattle.std.specs.Io.KnownBytes.{Appends, Keeps}
use Rattle.std.proofs.lemmas.List.{append_assoc, append-nil, length-set, length-take-le}
use Rattle.std.proofs.lemmas.Option.{same_Some, slice_get_past, slice_get_within}
use Rattle.std.specs.Option.{option_map}
use Rattle.streams.specs.Streams.{WritesPart}
use Rattle.streams.proofs.Parts.{part_of_front}
use Rattle.ot_isa.specs.Program.{Program, IsForClients}
use Rattle.ot_isa.specs.declared.elements.Tagged.{Tagged}
use Rattle.ot_isa.specs.declared.instruction.Instr.{Instr}
use Rattle.ot_isa.specs.declared.instruction.Instr.TheVariants.{Edit, Take, Deliver, Acknowledge, Join, Read, ReadServer}
use Rattle.ot_model.specs.declared.shown.Refusal.{Refusal}
use Rattle.ot_model.specs.declared.shown.Shown.{Shown}
use Rattle.ot_model.specs.Operation.{Operation}
use Rattle.ot_model.specs.Table.{Phase, NotJoined, Synchronized, AwaitingConfirm, AwaitingWithBuffer, Client, State, Place, Outcome, Performed, Refused, NoRow, acknowledged, begin, run, step, with_row, with_shown, IsQuiet}
use Rattle.ot_model.specs.Runs.{done, opening_of, place_at}
use Rattle.ot_model.proofs.Outcomes.{by_edit, by_take, by_deliver, by_acknowledge, by_join, by_read, by_read_server}
use Rattle.ot_model.proofs.Runs.{place_at-next, reaches}
use Rattle.ot_model.proofs.States.{take_entry}
use Rattle.ot_machine.specs.Answers.{IsRefusal}
use Rattle.ot_machine.specs.Effects.{IsEffect, applied_in, reader_of, shown_by}
use Rattle.ot_machine.specs.declared.effect.Effect.{Effect}
use Rattle.ot_machine.specs.Ended.{reached, IsStop}
use Rattle.ot_machine.proofs.Stopping.{stopped_at, whole}
use Rattle.ot_steps.specs.Lines.{Line, plain_operation}
use Rattle.ot_steps.specs.Steps.{LeadsTo, applies, end_line, first_lines, is_quiet, last_lines, lines_from, opening_line, run_lines, step_line, stop_at, stop_line}
use Rattle.ot_steps.specs.Text.{line_text, lines_text}
use Rattle.ot_steps.specs.Gathered.{Gathers, GathersUpTo, GathersMoves, GathersRun, MovesUpTo, RunUpTo}
use Rattle.ot_steps.specs.Written.{AreRunLines, IsMove, WritesRun, WritesUpTo, moves_text}
use Rattle.ot_steps.proofs.Gathering.{cut_after, flush_cut, flushed, gathers_none, gathers_then}
use Rattle.ot_steps.proofs.Running.{reached_within}
use Rattle.ot_steps.proofs.Quiet.{quiet_is}
use Rattle.streams.specs.declared.OutputFault.{OutputFault}
use Rattle.streams.specs.declared.OutputFault.TheVariants.{Memory, WriteFault}

-- ---- a performed instruction is of a client that is there

abbrev pub IsWithin : Instr → Outcome → Type 0
IsWithin i (Performed t shown) = IsForClients (length t.clients) i
IsWithin i (Refused r) = Unit {0}
IsWithin i NoRow = Unit {0}

still : (s : State) (c : ℕ) (x y : Client) → slice_get s.clients c ≡ Some x → c < length (set s.clients c y)
still s c x y at = let e = slice_get_within s.clients c x at in omega (arith, length-set s.clients c y)

within : (s : State) (i : Instr) → IsWithin i (step s i)
within s (Edit c op) = by_edit (IsWithin (Edit c op)) (λ r. tt) s c op (λ x at below on base few. still s c x _ at)
within s (Take c) = by_take (IsWithin (Take c)) (λ r. tt) s c (λ x m at below on is. still s c x _ at)
within s (Deliver c) = by_deliver (IsWithin (Deliver c)) (λ r. tt) s c (λ x h at below on head other. still s c x _ at)
within s (Acknowledge c) = by_acknowledge (IsWithin (Acknowledge c)) (λ r. tt) s c (λ x h at below on head own. go x at x.phase)
  where
    go : (x : Client) → slice_get s.clients c ≡ Some x → (phase : Phase) → IsWithin (Acknowledge c) (with_row s c (acknowledged x phase))
    go x at NotJoined = tt
    go x at Synchronized = tt
    go x at (AwaitingConfirm o) = still s c x _ at
    go x at (AwaitingWithBuffer o b) = still s c x _ at
within s (Join c) = by_join (IsWithin (Join c)) (λ r. tt) s c (λ x at below off. still s c x _ at)
within s (Read c) = by_read (IsWithin (Read c)) (λ r. tt) s c (λ x at below on. slice_get_within s.clients c x at)
within s ReadServer = by_read_server (IsWithin ReadServer) (λ r. tt) s (λ below. tt)

pub leads_within : (s t : State) (i : Instr) → LeadsTo i s t → IsForClients (length t.clients) i
leads_within s t i leads = subst (IsWithin i) leads.1 (within s i)

-- what the machine says that it did
pub did : (s : State) (i : Instr) (t : State) (effect : Effect) → IsEffect s i t effect → LeadsTo i s t
did s i t effect is = (option_map (shown_by t) (reader_of i), is.led)

pub did_apply :
    (s : State) (i : Instr) (t : State) (effect : Effect) (op : Option (Operation Tagged)) → IsEffect s i t effect → op ≡ applied_in t effect.applied
    → option_map plain_operation op ≡ applies i s
did_apply s i t effect op is same = ap (option_map plain_operation) (same ∙ is.applied)

-- ---- lines as text

pub lines_text-append : (xs ys : List Line) → lines_text (xs ++ ys) ≡ lines_text xs ++ lines_text ys
lines_text-append [] ys = refl
lines_text-append (x ∷ xs) ys = ap (λ (t : List ℕ). line_text x ++ t) (lines_text-append xs ys) ∙ sym (append_assoc (line_text x) (lines_text xs) (lines_text ys))

-- the lines of more instructions
lines_on : (documents : Bool) (is js : List Instr) (at : ℕ) (p q : Place) → run is p ≡ Some q → lines_from documents at p.state (is ++ js) ≡ lines_from documents at p.state is ++ lines_from documents (at + length is) q.state js
lines_on documents [] js at p q e =
    let same : at + 0 ≡ at = omega arith in
    ap (λ (r : Place). lines_from documents at r.state js) (same_Some p q e) ∙ ap (λ (n : ℕ). lines_from documents n q.state js) (sym same)
lines_on documents (i ∷ is) js at p q e = go (λ r f. lines_on documents is js (suc at) r q f) (step p.state i) e
  where
    same : suc at + length is ≡ at + suc (length is)
    same = omega arith

    go : ((r : Place) → run is r ≡ Some q → lines_from documents (suc at) r.state (is ++ js) ≡ lines_from documents (suc at) r.state is ++ lines_from documents (suc at + length is) q.state js) → (o : Outcome)
        → (elim o [ Performed t list ↦ run is (record { state = t; shown = with_shown p.shown list }) | Refused r ↦ None | NoRow ↦ None ]) ≡ Some q
        → ◌≡◌ {A = List Line} (elim o [ Performed t list ↦ step_line documents (suc at) i p.state t ∷ lines_from documents (suc at) t (is ++ js) | Refused r ↦ [] | NoRow ↦ [] ])
        (◌++◌ {A = Line} (elim o [ Performed t list ↦ step_line documents (suc at) i p.state t ∷ lines_from documents (suc at) t is | Refused r ↦ [] | NoRow ↦ [] ]) (lines_from documents (at + suc (length is)) q.state js))
    go on (Performed t list) f =
        ap (λ (ls : List Line). step_line documents (suc at) i p.state t ∷ ls)
        (on (record { state = t; shown = with_shown p.shown list }) f ∙ ap (λ (n : ℕ). lines_from documents (suc at) t is ++ lines_from documents n q.state js) same)
    go on (Refused r) f = absurd (cc)
    go on NoRow f = absurd (cc)

one_line : (documents : Bool) (n : ℕ) (i : Instr) (s t : State) (shown : Option Shown) → step s i ≡ Performed t shown → lines_from documents n s (i ∷ []) ≡ step_line documents (suc n) i s t ∷ []
one_line documents n i s t shown e = rw (lines_from, e) refl

moves_more : (documents : Bool) (s : Program) (p : ℕ) (q : Place) (i : Instr) (t : State) (shown : Option Shown) → place_at s p ≡ Some q → slice_get s.instrs p ≡ Some i → step q.state i ≡ Performed t shown
    → moves_text documents s (suc p) ≡ moves_text documents s p ++ line_text (step_line documents (suc p) i q.state t)
moves_more documents s p q i t shown here at e =
    let inside = slice_get_within s.instrs p i at in
    let many : 0 + length (take p s.instrs) ≡ p = let l = length-take-le p s.instrs (omega arith) in omega arith in
    ap (λ (is : List Instr). lines_text (lines_from documents 0 (opening_of s) is)) (take_entry s.instrs p i at)
    ∙ ap lines_text (lines_on documents (take p s.instrs) (i ∷ []) 0 (begin s.clients s.present s.start) q here)
    ∙ lines_text-append (lines_from documents 0 (opening_of s) (take p s.instrs)) (lines_from documents (0 + length (take p s.instrs)) q.state (i ∷ []))
    ∙ ap (λ (n : ℕ). moves_text documents s p ++ lines_text (lines_from documents n q.state (i ∷ []))) many
    ∙ ap (λ (ls : List Line). moves_text documents s p ++ lines_text ls) (one_line documents p i q.state t shown e)
    ∙ ap (λ (text : List ℕ). moves_text documents s p ++ text) (append-nil (line_text (step_line documents (suc p) i q.state t)))

-- ---- a run under way

-- p instructions are performed, and their lines gathered
pub record IsAt (documents : Bool) (s : Program) (p : ℕ) (state : State) (old new : Option (List ℕ)) (held held' : List ℕ) : Type 0 where
  pub shown : List Shown
  pub at : place_at s p ≡ Some (record { state = state; shown = shown })
  pub gathered : Gathers old new held held' (moves_text documents s p)

pub is_begun : (documents : Bool) (s : Program) (state : State) (old : Option (List ℕ)) (held : List ℕ) → state ≡ opening_of s → IsAt documents s 0 state old old held held
is_begun documents s state old held is = record { shown = []; at = rw is refl; gathered = gathers_none old held }

reached_done : (documents : Bool) (s : Program) (p : ℕ) (state : State) (old new : Option (List ℕ)) (held held' : List ℕ) → p ≤ length s.instrs → IsAt documents s p state old new held held' → p ≤ done s
reached_done documents s p state old new held held' le is = (reaches s p le).1 (rw is.at refl)

module _ (documents : Bool) (s : Program) (p : ℕ) (i : Instr) (state t : State) (old mid : Option (List ℕ)) (held before : List ℕ) (text : List ℕ)
    (is : IsAt documents s p state old mid held before) (at : slice_get s.instrs p ≡ Some i) (move : IsMove documents (p + 1) i state t text) where
  next_place : place_at s (suc p) ≡ Some (record { state = t; shown = with_shown is.shown move.shown })
  next_place = place_at-next s p (record { state = state; shown = is.shown }) i t move.shown is.at at move.performed

  next_text : moves_text documents s p ++ text ≡ moves_text documents s (suc p)
  next_text =
      let next : p + 1 ≡ suc p = omega arith in
      ap (λ (bytes : List ℕ). moves_text documents s p ++ bytes) (move.is ∙ ap (λ (n : ℕ). line_text (step_line documents n i state t)) next)
      ∙ sym (moves_more documents s p (record { state = state; shown = is.shown }) i t move.shown is.at at move.performed)

  -- its line is gathered
  pub is_next : (new : Option (List ℕ)) (after : List ℕ) → Gathers mid new before after text → IsAt documents s (p + 1) t old new held after
  is_next new after gathered =
      let next : suc p ≡ p + 1 = omega arith in
      subst (λ (n : ℕ). IsAt documents s n t old new held after) next
      (record {
        shown = with_shown is.shown move.shown;
        at = next_place;
        gathered = subst (Gathers old new held after) next_text (gathers_then old mid new held before after (moves_text documents s p) text is.gathered gathered);
      })

  -- no memory was found to hold it
  pub none_held : (new : Option (List ℕ)) (after : List ℕ) → Gathers mid new before after [] → MovesUpTo Memory documents s old new held after
  none_held new after gathered =
      let inside = slice_get_within s.instrs p i at in (
        p,
        reached_done documents s p state old mid held before (omega arith) is,
        subst (Gathers old new held after) (append-nil (moves_text documents s p)) (gathers_then old mid new held before after (moves_text documents s p) [] is.gathered gathered),
      )

  -- a first part of it is written
  pub part_of_next : (new : Option (List ℕ)) (after : List ℕ) → WritesPart mid new (before ++ text) → MovesUpTo WriteFault documents s old new held after
  part_of_next new after written =
      let inside = slice_get_within s.instrs p i at in (
        suc p,
        (reaches s (suc p) (omega arith)).1 (rw next_place refl),
        subst (λ (bytes : List ℕ). WritesPart old new (held ++ bytes)) next_text (cut_after old mid new held before (moves_text documents s p) text is.gathered written),
      )

  -- either
  pub not_next : (f : OutputFault) (new : Option (List ℕ)) (after : List ℕ) → GathersUpTo f mid new before after text → MovesUpTo f documents s old new held after
  not_next Memory new after gathered = none_held new after gathered
  not_next WriteFault new after written = part_of_next new after written

pub no_memory : (documents : Bool) (s : Program) (p : ℕ) (i : Instr) (state : State) (old new : Option (List ℕ)) (held held' : List ℕ) → IsAt documents s p state old new held held' → slice_get s.instrs p ≡ Some i → MovesUpTo Memory documents s old new held held'
no_memory documents s p i state old new held held' is at =
    let inside = slice_get_within s.instrs p i at in
    (p, reached_done documents s p state old new held held' (omega arith) is, is.gathered)

pub is_stopped : (documents : Bool) (s : Program) (p : ℕ) (i : Instr) (r : Refusal) (state after : State) (old new : Option (List ℕ)) (held held' : List ℕ) → IsAt documents s p state old new held held' → slice_get s.instrs p ≡ Some i
    → IsRefusal (step state i) r → after ≡ state → GathersMoves documents s (Some (p, r)) after old new held held'
is_stopped documents s p i r state after old new held held' is at refused same =
    rw same (record {
      place = record { state = state; shown = is.shown };
      at = is.at;
      state_is = refl;
      stop = stopped_at s p (record { state = state; shown = is.shown }) i r is.at at refused;
      gathered = is.gathered;
    })

pub is_whole : (documents : Bool) (s : Program) (p : ℕ) (state : State) (old new : Option (List ℕ)) (held held' : List ℕ) → length s.instrs ≤ p → p ≤ length s.instrs → IsAt documents s p state old new held held' → GathersMoves documents s None state old new held held'
is_whole documents s p state old new held held' le ge is =
    let same : p ≡ length s.instrs = omega arith in
    let fact = whole s p (record { state = state; shown = is.shown }) le ge is.at in
    record {
      place = record { state = state; shown = is.shown };
      at = fact.0;
      state_is = refl;
      stop = fact.1;
      gathered = subst (λ (n : ℕ). Gathers old new held held' (moves_text documents s n)) same is.gathered;
    }

-- ---- the whole run

opening_text : (documents : Bool) (s : Program) → line_text (opening_line s) ≡ lines_text (first_lines documents s 0)
opening_text documents s = sym (append-nil (line_text (opening_line s)))

module _ (documents : Bool) (s : Program) (old mid : Option (List ℕ)) (held before opening : List ℕ) (is : opening ≡ line_text (opening_line s)) where
  -- the opening's line is not gathered
  pub opening_cut : (f : OutputFault) → GathersUpTo f old mid held before opening → RunUpTo f documents s old mid held before
  opening_cut Memory gathered = inl gathered
  opening_cut WriteFault written =
      record { lines = first_lines documents s 0; are = inl (0, omega arith, refl); written = subst (λ (bytes : List ℕ). WritesPart old mid (held ++ bytes)) (is ∙ opening_text documents s) written }

  module _ (opened : Gathers old mid held before opening) where
    -- the first lines
    front : (p : ℕ) (new : Option (List ℕ)) (after : List ℕ) → Gathers mid new before after (moves_text documents s p) → Gathers old new held after (lines_text (first_lines documents s p))
    front p new after moves =
        subst (λ (bytes : List ℕ). Gathers old new held after (bytes ++ moves_text documents s p)) is (gathers_then old mid new held before after opening (moves_text documents s p) opened moves)

    pub moves_cut : (f : OutputFault) (new : Option (List ℕ)) (after : List ℕ) → MovesUpTo f documents s mid new before after → RunUpTo f documents s old new held after
    moves_cut Memory new after moves = inr (moves.0, moves.1, front moves.0 new after moves.2)
    moves_cut WriteFault new after moves =
        record {
          lines = first_lines documents s moves.0;
          are = inl (moves.0, moves.1, refl);
          written = subst (λ (bytes : List ℕ). WritesPart old new (held ++ (bytes ++ moves_text documents s moves.0))) is (cut_after old mid new held before opening (moves_text documents s moves.0) opened moves.2);
        }

    module _ (stopped : Option (ℕ × Refusal)) (state : State) (later : Option (List ℕ)) (after : List ℕ) (moves : GathersMoves documents s stopped state mid later before after) where
      are_lines : AreRunLines documents s stopped (run_lines documents s state stopped)
      are_lines =
          record {
            place = moves.place;
            at = moves.at;
            stop = subst (λ (t : State). IsStop s t stopped) (sym moves.state_is) moves.stop;
            are = ap (λ (t : State). run_lines documents s t stopped) (sym moves.state_is);
          }

      all_text : (last : List ℕ) → last ≡ lines_text (last_lines s state stopped) → lines_text (first_lines documents s (reached s stopped)) ++ last ≡ lines_text (run_lines documents s state stopped)
      all_text last ends = ap (λ (t : List ℕ). lines_text (first_lines documents s (reached s stopped)) ++ t) ends ∙ sym (lines_text-append (first_lines documents s (reached s stopped)) (last_lines s state stopped))

      first_gathered : Gathers old later held after (lines_text (first_lines documents s (reached s stopped)))
      first_gathered = front (reached s stopped) later after moves.gathered

      pub last_missing : RunUpTo Memory documents s old later held after
      last_missing = inr (reached s stopped, (reaches s (reached s stopped) (reached_within s state stopped moves.stop)).1 (rw moves.at refl), first_gathered)

      pub last_cut : (f : OutputFault) (new : Option (List ℕ)) (over last : List ℕ) → last ≡ lines_text (last_lines s state stopped) → GathersUpTo f later new after over last → RunUpTo f documents s old new held over
      last_cut Memory new over last ends gathered =
          inr (
            reached s stopped,
            (reaches s (reached s stopped) (reached_within s state stopped moves.stop)).1 (rw moves.at refl),
            subst (Gathers old new held over) (append-nil (lines_text (first_lines documents s (reached s stopped)))) (gathers_then old later new held after over _ [] first_gathered gathered),
          )
      last_cut WriteFault new over last ends written =
          record {
            lines = run_lines documents s state stopped;
            are = inr (stopped, are_lines);
            written = subst (λ (bytes : List ℕ). WritesPart old new (held ++ bytes)) (all_text last ends) (cut_after old later new held after _ last first_gathered written);
          }

      pub all_gathered : (refused : Bool) (new : Option (List ℕ)) (over last : List ℕ) → refused ≡ is_some stopped → last ≡ lines_text (last_lines s state stopped) → Gathers later new after over last → GathersRun documents s refused old new held over
      all_gathered refused new over last refused_is ends gathered =
          record {
            stopped = stopped;
            lines = run_lines documents s state stopped;
            are = are_lines;
            refused_is = refused_is;
            gathered = subst (Gathers old new held over) (all_text last ends) (gathers_then old later new held after over _ last first_gathered gathered);
          }

-- ---- what is held at last is written

keeps : (old new : Option (List ℕ)) → Appends old new [] → Keeps old new
keeps None new written = tt
keeps (Some xs) None written = written
keeps (Some xs) (Some ys) written = written ∙ append-nil xs

module _ (documents : Bool) (s : Program) (old mid new : Option (List ℕ)) (none held : List ℕ) (is : none ≡ []) where
  pub all_written : (refused : Bool) → GathersRun documents s refused old mid none held → Appends mid new held → WritesRun documents s refused old new
  all_written refused run written =
      record { stopped = run.stopped; lines = run.lines; are = run.are; refused_is = run.refused_is; written = flushed old mid new none held (lines_text run.lines) is run.gathered written }

  pub all_cut : (refused : Bool) → GathersRun documents s refused old mid none held → WritesPart mid new held → WritesUpTo WriteFault documents s old new
  all_cut refused run written =
      record { lines = run.lines; are = inr (run.stopped, run.are); written = flush_cut old mid new none held (lines_text run.lines) is run.gathered written }

  pub first_written : RunUpTo Memory documents s old mid none held → Appends mid new held → WritesUpTo Memory documents s old new
  first_written (inl gathered) written = inl (keeps old new (flushed old mid new none held [] is gathered written))
  first_written (inr lines) written = inr (lines.0, lines.1, flushed old mid new none held _ is lines.2 written)

  pub first_cut : RunUpTo Memory documents s old mid none held → WritesPart mid new held → WritesUpTo WriteFault documents s old new
  first_cut (inl gathered) written = record { lines = first_lines documents s 0; are = inl (0, omega arith, refl); written = part_of_front old new [] _ (flush_cut old mid new none held [] is gathered written) }
  first_cut (inr lines) written = record { lines = first_lines documents s lines.0; are = inl (lines.0, lines.1, refl); written = flush_cut old mid new none held _ is lines.2 written }

-- ---- the stop and the end

pub end_only : (s : Program) (state : State) (stopped : Option (ℕ × Refusal)) (at : ℕ) (quiet : Bool) (r : Result (String Global) AllocError) → ((x : ℕ × Refusal) → stopped ≡ Some x → ⊥) → at ≡ length s.instrs → IsTrue quiet ↔ IsQuiet state
    → IfOk r (λ text. string_bytes text ≡ line_text (end_line at quiet)) → IfOk r (λ text. string_bytes text ≡ lines_text (last_lines s state stopped))
end_only s state (Some x) at quiet r none is exact given = absurd (none x refl)
end_only s state None at quiet (Err e) none is exact given = tt
end_only s state None at quiet (Ok text) none is exact given =
    given ∙ ap (λ (n : ℕ). line_text (end_line n quiet)) is ∙ ap (λ (q : Bool). line_text (end_line (length s.instrs) q)) (quiet_is quiet state exact)
    ∙ sym (append-nil (line_text (end_line (length s.instrs) (is_quiet state))))

pub end_past : (s : Program) (state : State) (stopped : Option (ℕ × Refusal)) (place : ℕ) (refusal : Refusal) (quiet : Bool) (bytes : List ℕ) → stopped ≡ Some (place, refusal) → length s.instrs ≤ place → IsTrue quiet ↔ IsQuiet state
    → bytes ≡ line_text (end_line place quiet) → bytes ≡ lines_text (last_lines s state stopped)
end_past s state stopped place refusal quiet bytes is past exact given =
    given ∙ ap (λ (q : Bool). line_text (end_line place q)) (quiet_is quiet state exact)
    ∙ sym (append-nil (line_text (end_line place (is_quiet state))))
    ∙ ap (λ (o : Option Instr). lines_text (stop_at place refusal o ++ end_line place (is_quiet state) ∷ [])) (sym (slice_get_past s.instrs place past))
    ∙ ap (λ (o : Option (ℕ × Refusal)). lines_text (last_lines s state o)) (sym is)

pub stop_and_end : (s : Program) (state : State) (stopped : Option (ℕ × Refusal)) (place : ℕ) (refusal : Refusal) (i : Instr) (quiet : Bool) (first second text : List ℕ) → stopped ≡ Some (place, refusal) → slice_get s.instrs place ≡ Some i
    → IsTrue quiet ↔ IsQuiet state → first ≡ line_text (stop_line place i refusal) → second ≡ line_text (end_line place quiet) → text ≡ first ++ second → text ≡ lines_text (last_lines s state stopped)
stop_and_end s state stopped place refusal i quiet first second text is at exact stops ends given =
    given ∙ ap (λ (t : List ℕ). t ++ second) stops
    ∙ ap (λ (t : List ℕ). line_text (stop_line place i refusal) ++ t) (ends ∙ ap (λ (q : Bool). line_text (end_line place q)) (quiet_is quiet state exact) ∙ sym (append-nil (line_text (end_line place (is_quiet state)))))
    ∙ ap (λ (o : Option Instr). lines_text (stop_at place refusal o ++ end_line place (is_quiet state) ∷ [])) (sym at)
    ∙ ap (λ (o : Option (ℕ × Refusal)). lines_text (last_lines s state o)) (sym is)

-- what holds of the fault that an answer is
pub err_is : {T : Type 0} (r : Result T OutputFault) (f : OutputFault) (P : OutputFault → Type 0) → IsErrAnd r (λ e. e ≡ f) → P f → IfErr r P
err_is (Ok x) f P is p = tt
err_is (Err e) f P is p = subst P (sym is) p
