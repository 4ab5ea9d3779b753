-- The fold of the lines is the run: whole runs.
use Rattle.std.proofs.Common.{◌≡◌, ℕ, zero, suc, ◌-◌, ◌≤◌, List, [], ◌∷◌, ◌++◌, length, map, drop, take, replicate, refl, sym, ap, ◌∙◌, arith, Option, Some, None, Bool, true, false}
use Rattle.std.specs.Prelude.{slice_get, ◌==◌, if◌then◌else◌}
use Rattle.std.proofs.lemmas.List.{map-append, drop-map, take-append-le, length-take-le}
use Rattle.std.proofs.lemmas.Option.{same_Some}
use Rattle.ot_isa.specs.Program.{Program}
use Rattle.ot_isa.specs.declared.instruction.Instr.{Instr}
use Rattle.ot_model.specs.declared.shown.Refusal.{Refusal}
use Rattle.ot_model.specs.declared.shown.Refusal.TheVariants as refusal
use Rattle.ot_model.specs.declared.shown.Refusal.TheVariants.{NoSuchClient, StepsFull, AlreadyJoined, BadBase, ClientFull, LinkEmpty, WrongHead, Memory}
use Rattle.ot_model.specs.Table.{Phase, NotJoined, Synchronized, AwaitingConfirm, AwaitingWithBuffer, Client, Entry, State, Place, Outcome, Performed, Refused, NoRow, begin, is_joined, run, start_list, step, with_shown}
use Rattle.ot_model.specs.Table as table
use Rattle.ot_model.specs.Runs.{done, opening_of}
use Rattle.ot_model.proofs.Runs.{performed-length}
use Rattle.ot_machine.specs.Ended.{reached, IsStop, IsStopAt}
use Rattle.ot_machine.specs.Readers.{phase_name}
use Rattle.ot_steps.specs.Lines.{Line, plain_operation}
use Rattle.ot_steps.specs.Steps.{end_line, is_quiet, last_lines, lines_from, opening_line, step_line, stop_at}
use Rattle.ot_steps.specs.Fold.{ClientText, EntryText, Session, client_text, downlink, entry_text, folded, folded_all, head_for, head_text, opened, opened_by, session_in, session_of}
use Rattle.ot_steps.specs.Fold as fold
use Rattle.ot_steps.specs.Laws.{FoldIsRun, LinesFold, AllLinesFold, DownlinksFollow}
use Rattle.ot_steps.proofs.Folding.{chars_tagged, same_session, step_folds, IsFolded}

-- ---- the opening

map-replicate : {A B : Type 0} (f : A → B) (n : ℕ) (x : A) → map f (replicate n x) ≡ replicate n (f x)
map-replicate f zero x = refl
map-replicate {B = B} f (suc n) x = ap (λ (ys : List B). f x ∷ ys) (map-replicate f n x)

present_same : (text : List ℕ) → client_text (table.present_with (start_list text)) ≡ fold.present_with text
present_same text = ap fold.present_with (chars_tagged 65535 0 text)

opening_folds : (clients present : ℕ) (text : List ℕ) → opened clients present text ≡ session_in (table.opening clients present text)
opening_folds clients present text =
    let here = present_same text in
    same_session _ _ _ _ _ _
    (sym (map-append client_text (replicate present (table.present_with (start_list text))) (replicate (clients - present) table.absent)
    ∙ ap (λ (xs : List ClientText). xs ++ map client_text (replicate (clients - present) table.absent)) (map-replicate client_text present (table.present_with (start_list text)) ∙ ap (replicate present) here)
    ∙ ap (λ (xs : List ClientText). replicate present (fold.present_with text) ++ xs) (map-replicate client_text (clients - present) table.absent)))
    (sym (chars_tagged 65535 0 text))
    refl

-- ---- the instructions

pub folded_all-append : (xs ys : List Line) (v : Session) → folded_all v (xs ++ ys) ≡ folded_all (folded_all v xs) ys
folded_all-append [] ys v = refl
folded_all-append (line ∷ xs) ys v = folded_all-append xs ys (folded v line)

-- from any place on
lines_fold : (documents : Bool) (is : List Instr) (at : ℕ) (p q : Place) → run is p ≡ Some q → folded_all (session_in p.state) (lines_from documents at p.state is) ≡ session_in q.state
lines_fold documents [] at p q e = ap (λ (r : Place). session_in r.state) (same_Some p q e)
lines_fold documents (i ∷ is) at p q e = go (λ r f. lines_fold documents is (suc at) r q f) (step p.state i) e (step_folds documents (suc at) i p.state)
  where
    go : ((r : Place) → run is r ≡ Some q → folded_all (session_in r.state) (lines_from documents (suc at) r.state is) ≡ session_in q.state) → (o : Outcome)
        → (elim o [ Performed t list ↦ run is (record { state = t; shown = with_shown p.shown list }) | Refused r ↦ None | NoRow ↦ None ]) ≡ Some q
        → IsFolded documents (suc at) i p.state o
        → folded_all (session_in p.state) (elim o [ Performed t list ↦ step_line documents (suc at) i p.state t ∷ lines_from documents (suc at) t is | Refused r ↦ [] | NoRow ↦ [] ]) ≡ session_in q.state
    go on (Performed t list) f here =
        ap (λ (v : Session). folded_all v (lines_from documents (suc at) t is)) here ∙ on (record { state = t; shown = with_shown p.shown list }) f
    go on (Refused r) f here = absurd (cc)
    go on NoRow f here = absurd (cc)

pub fold_is_run : FoldIsRun
fold_is_run documents s p q here =
    ap (λ (v : Session). folded_all v (lines_from documents 0 (opening_of s) (take p s.instrs))) (opening_folds s.clients s.present s.start)
    ∙ lines_fold documents (take p s.instrs) 0 (begin s.clients s.present s.start) q here

-- ---- how many lines

lines_length : (documents : Bool) (is : List Instr) (at : ℕ) (p q : Place) → run is p ≡ Some q → length (lines_from documents at p.state is) ≡ length is
lines_length documents [] at p q e = refl
lines_length documents (i ∷ is) at p q e = go (λ r f. lines_length documents is (suc at) r q f) (step p.state i) e
  where
    go : ((r : Place) → run is r ≡ Some q → length (lines_from documents (suc at) r.state is) ≡ length is) → (o : Outcome)
        → (elim o [ Performed t list ↦ run is (record { state = t; shown = with_shown p.shown list }) | Refused r ↦ None | NoRow ↦ None ]) ≡ Some q
        → length {A = Line} (elim o [ Performed t list ↦ step_line documents (suc at) i p.state t ∷ lines_from documents (suc at) t is | Refused r ↦ [] | NoRow ↦ [] ]) ≡ suc (length is)
    go on (Performed t list) f = ap suc (on (record { state = t; shown = with_shown p.shown list }) f)
    go on (Refused r) f = absurd (cc)
    go on NoRow f = absurd (cc)

-- the first lines are those of the first instructions
lines_take : (documents : Bool) (is : List Instr) (at p : ℕ) (s : State) → take p (lines_from documents at s is) ≡ lines_from documents at s (take p is)
lines_take documents is at zero s = refl
lines_take documents [] at (suc p) s = refl
lines_take documents (i ∷ is) at (suc p) s = go (λ t. lines_take documents is (suc at) p t) (step s i)
  where
    go : ((t : State) → take p (lines_from documents (suc at) t is) ≡ lines_from documents (suc at) t (take p is)) → (o : Outcome)
        → take {A = Line} (suc p) (elim o [ Performed t list ↦ step_line documents (suc at) i s t ∷ lines_from documents (suc at) t is | Refused r ↦ [] | NoRow ↦ [] ])
        ≡ (elim o [ Performed t list ↦ step_line documents (suc at) i s t ∷ lines_from documents (suc at) t (take p is) | Refused r ↦ [] | NoRow ↦ [] ])
    go on (Performed t list) = ap (λ (ls : List Line). step_line documents (suc at) i s t ∷ ls) (on t)
    go on (Refused r) = refl
    go on NoRow = refl

take_take : {A : Type 0} (p n : ℕ) (xs : List A) → p ≤ n → take p (take n xs) ≡ take p xs
take_take zero n xs le = refl
take_take (suc p) zero xs le = absurd (omega arith)
take_take (suc p) (suc n) [] le = refl
take_take {A} (suc p) (suc n) (x ∷ xs) le = ap (λ (ys : List A). x ∷ ys) (take_take p n xs (omega arith))

-- ---- all lines of a run

-- the stop and the end change nothing
stop_folds : (place : ℕ) (refusal : Refusal) (o : Option Instr) (v : Session) → folded_all v (stop_at place refusal o) ≡ v
stop_folds place refusal None v = refl
stop_folds place refusal (Some i) v = refl

last_folds : (s : Program) (end : State) (stopped : Option (ℕ × Refusal)) (v : Session) → folded_all v (last_lines s end stopped) ≡ v
last_folds s end None v = refl
last_folds s end (Some stop) v = folded_all-append (stop_at stop.0 stop.1 (slice_get s.instrs stop.0)) (end_line stop.0 (is_quiet end) ∷ []) v ∙ stop_folds stop.0 stop.1 (slice_get s.instrs stop.0) v

pub all_lines_fold : AllLinesFold
all_lines_fold documents s stopped lines are =
    ap session_of are.are
    ∙ folded_all-append (lines_from documents 0 (opening_of s) (take (reached s stopped) s.instrs)) (last_lines s are.place.state stopped) (opened_by (opening_line s))
    ∙ last_folds s are.place.state stopped _
    ∙ fold_is_run documents s (reached s stopped) are.place are.at

-- a run goes no further than its instructions
stop_within : (s : Program) (state : State) (place : ℕ) (reason : Refusal) → IsStopAt s state place reason → place ≤ length s.instrs
stop_within s state place reason stop = let most = performed-length s.instrs (opening_of s) in go reason stop most
  where
    go : (r : Refusal) → IsStopAt s state place r → done s ≤ length s.instrs → place ≤ length s.instrs
    go NoSuchClient is most = let e = is.0 in omega arith
    go StepsFull is most = let e = is.0 in omega arith
    go refusal.NotJoined is most = let e = is.0 in omega arith
    go AlreadyJoined is most = let e = is.0 in omega arith
    go BadBase is most = let e = is.0 in omega arith
    go ClientFull is most = let e = is.0 in omega arith
    go LinkEmpty is most = let e = is.0 in omega arith
    go WrongHead is most = let e = is.0 in omega arith
    go Memory is most = omega arith

pub reached_within : (s : Program) (state : State) (stopped : Option (ℕ × Refusal)) → IsStop s state stopped → reached s stopped ≤ length s.instrs
reached_within s state None stop = omega arith
reached_within s state (Some stop) is = stop_within s state stop.0 stop.1 is

pub lines_fold_within : LinesFold
lines_fold_within documents s stopped lines are p q le here =
    let n = reached s stopped in
    let all : List Line = lines_from documents 0 (opening_of s) (take n s.instrs) in
    let many : length all ≡ n = lines_length documents (take n s.instrs) 0 (begin s.clients s.present s.start) are.place are.at ∙ length-take-le n s.instrs (reached_within s are.place.state stopped are.stop) in
    let first : take p (all ++ last_lines s are.place.state stopped) ≡ lines_from documents 0 (opening_of s) (take p s.instrs) =
    take-append-le p all (last_lines s are.place.state stopped) (omega arith)
    ∙ lines_take documents (take n s.instrs) 0 p (opening_of s)
    ∙ ap (lines_from documents 0 (opening_of s)) (take_take p n s.instrs le) in
    ap (λ (ls : List Line). session_of (take (suc p) ls)) are.are
    ∙ ap (folded_all (opened_by (opening_line s))) first
    ∙ fold_is_run documents s p q here

-- ---- downlinks

heads_same : (c : ℕ) (log : List Entry) → map (head_for c) (map entry_text log) ≡ map head_text (map (table.head_for c) log)
heads_same c [] = refl
heads_same c (h ∷ log) = go (h.maker == c) refl (heads_same c log)
  where
    go : (own : Bool) → (h.maker == c) ≡ own → map (head_for c) (map entry_text log) ≡ map head_text (map (table.head_for c) log)
        → map (head_for c) (map entry_text (h ∷ log)) ≡ map head_text (map (table.head_for c) (h ∷ log))
    go true own others = rw own (ap (λ (xs : List fold.HeadText). fold.Own ∷ xs) others)
    go false own others = rw own (ap (λ (xs : List fold.HeadText). fold.Another (plain_operation h.op) ∷ xs) others)

pub downlinks_follow : DownlinksFollow
downlinks_follow s c x here = go x.phase
  where
    heads : map (head_for c) (drop x.revision (map entry_text s.log)) ≡ map head_text (map (table.head_for c) (drop x.revision s.log))
    heads = ap (map (head_for c)) (drop-map entry_text x.revision s.log) ∙ heads_same c (drop x.revision s.log)

    go : (phase : Phase)
        → (if fold.is_joined (phase_name phase) then map (head_for c) (drop x.revision (map entry_text s.log)) else [])
        ≡ map head_text (if is_joined phase then map (table.head_for c) (drop x.revision s.log) else [])
    go NotJoined = refl
    go Synchronized = heads
    go (AwaitingConfirm o) = heads
    go (AwaitingWithBuffer o b) = heads
