-- One instruction forth or back in a run.
use Rattle.std.proofs.Common.{◌≡◌, ℕ, zero, suc, ◌+◌, ◌-◌, ◌<◌, ◌≤◌, ◌≢◌, List, [], ◌∷◌, ◌++◌, length, take, refl, ap, sym, ◌∙◌, subst, arith, Option, Some, None, Bool, true, false, length-append, inl, inr}
use Rattle.std.proofs.lemmas.Option.{same_Some, slice_get_within}
use Rattle.std.proofs.lemmas.Bool.{cases_eq}
use Rattle.std.specs.Prelude.{is_some, slice_get, unwrap_or, IsSome, MatchBool}
use Rattle.std.specs.Option.{option_map}
use Rattle.ot_isa.specs.Program.{Program}
use Rattle.ot_isa.specs.declared.instruction.Instr.{Instr}
use Rattle.ot_model.specs.declared.shown.Shown.{Shown}
use Rattle.ot_model.specs.Table.{State, Place, Outcome, Performed, Refused, NoRow, step, run, begin, with_shown}
use Rattle.ot_model.specs.Runs.{done, place_at, opening_of, IsStateAt}
use Rattle.ot_model.proofs.Runs.{run-append, place_at-next, reaches, performed-length}
use Rattle.ot_model.proofs.States.{take_entry}
use Rattle.ot_machine.specs.declared.undo.Undo.{Undo}
use Rattle.ot_machine.specs.Undoing.{Undoes, IsUndoable}
use Rattle.ot_model.specs.declared.shown.Refusal.{Refusal}
use Rattle.ot_model.specs.declared.shown.Refusal.TheVariants.{NoSuchClient, StepsFull, NotJoined, AlreadyJoined, BadBase, ClientFull, LinkEmpty, WrongHead, Memory}
use Rattle.ot_machine.specs.Answers.{IsRefusal}
use Rattle.ot_debug.specs.Stops.{IsRefusedAt}
use Rattle.ot_debug.specs.declared.command.Watched.{Watched}
use Rattle.ot_debug.specs.declared.recent.Recent.{Recent}
use Rattle.ot_debug.specs.Session.{IsSession}
use Rattle.ot_debug.specs.Stepping.{session_of, is_read, undos_in, Advances, AreLast, AreShownBefore, AreUndos, GoOn, IsKept, IsPushed, OneMore, shown_at, AreLists}
use Rattle.ot_debug.proofs.Rows.{row_leaves}

-- the place is there as far as the run goes
value_of : (o : Option Place) → IsSome o → (q : Place) × (o ≡ Some q)
value_of None some = absurd (cc)
value_of (Some q) some = (q, refl)

is_value : (o : Option Place) (q : Place) → o ≡ Some q → IsSome o
is_value o q e = subst (λ p. IsSome p) (sym e) refl

pub there : (s : Program) (p : ℕ) → p ≤ done s → (q : Place) × (place_at s p ≡ Some q)
there s p le =
    let few : done s ≤ length s.instrs = performed-length s.instrs (opening_of s) in
    let within : p ≤ length s.instrs = omega arith in
    value_of (place_at s p) ((reaches s p within).0 le)

pub reached : (s : Program) (p : ℕ) (q : Place) → p ≤ length s.instrs → place_at s p ≡ Some q → p ≤ done s
reached s p q le at = (reaches s p le).1 (is_value (place_at s p) q at)

-- what the instruction at a place of the run led to
pub record IsLed (s : Program) (p : ℕ) (i : Instr) (q r : Place) : Type 0 where
  pub state : State
  pub list : Option Shown
  pub at : place_at s p ≡ Some q
  pub step : step q.state i ≡ Performed state list
  pub is : r ≡ record { state = state; shown = with_shown q.shown list }

pub led : (s : Program) (p : ℕ) (i : Instr) (q r : Place) → slice_get s.instrs p ≡ Some i → place_at s p ≡ Some q → place_at s (suc p) ≡ Some r → IsLed s p i q r
led s p i q r here at next = go (step q.state i) refl (sym (ap (λ is. run is (begin s.clients s.present s.start)) (take_entry s.instrs p i here) ∙ run-append (take p s.instrs) (i ∷ []) _ q at) ∙ next)
  where
    go : (o : Outcome) → step q.state i ≡ o
        → (elim o [ Performed t list ↦ Some (record { state = t; shown = with_shown q.shown list }) | Refused r ↦ None | NoRow ↦ None ]) ≡ Some r → IsLed s p i q r
    go (Performed t list) e f = record { state = t; list = list; at = at; step = e; is = sym (same_Some _ r f) }
    go (Refused x) e f = absurd (cc)
    go NoRow e f = absurd (cc)

-- a refusal for another reason than memory is the table's
pub named : (o : Outcome) (r : Refusal) → IsRefusal o r → r ≢ Memory → o ≡ Refused r
named o NoSuchClient is other = is
named o StepsFull is other = is
named o NotJoined is other = is
named o AlreadyJoined is other = is
named o BadBase is other = is
named o ClientFull is other = is
named o LinkEmpty is other = is
named o WrongHead is other = is
named o Memory is other = absurd (other refl)

pub refused_at : (s : Program) (p : ℕ) (q : Place) (i : Instr) (r : Refusal) → place_at s p ≡ Some q → slice_get s.instrs p ≡ Some i → step q.state i ≡ Refused r → IsRefusedAt s p r
refused_at s p q i r at here is = record { place = q; instr = i; at = at; here = here; refused = is }

-- where the run goes on the table does not refuse
pub not_refused : (s : Program) (p : ℕ) (q : Place) (i : Instr) (r : Refusal) → suc p ≤ done s → place_at s p ≡ Some q → slice_get s.instrs p ≡ Some i → step q.state i ≡ Refused r → ⊥
not_refused s p q i r le at here is =
    let next = there s (suc p) le in
    let on = led s p i q next.0 here at next.1 in
    absurd (let e = sym is ∙ on.step in cc)

-- one more record
pub slice_get-push_less : {X : Type 0} (xs : List X) (x : X) (k : ℕ) → k < length xs → slice_get (xs ++ x ∷ []) k ≡ slice_get xs k
slice_get-push_less [] x k less = absurd (omega arith)
slice_get-push_less (y ∷ xs) x zero less = refl
slice_get-push_less (y ∷ xs) x (suc k) less = slice_get-push_less xs x k (omega arith)

pub slice_get-push_same : {X : Type 0} (xs : List X) (x : X) → slice_get (xs ++ x ∷ []) (length xs) ≡ Some x
slice_get-push_same [] x = refl
slice_get-push_same (y ∷ xs) x = slice_get-push_same xs x

undos_push :
    (s : Program) (first p : ℕ) (undos : List Undo) (undo : Undo) (q r : Place) → AreUndos s first undos → first + length undos ≡ p → place_at s p ≡ Some q → place_at s (suc p) ≡ Some r → Undoes q.state r.state undo
    → AreUndos s first (undos ++ undo ∷ [])
undos_push s first p undos undo q r are many at next is k other before after here from to =
    elim (cases_eq k (length undos)) [
      | inl same ↦
          let mine : undo ≡ other = same_Some undo other (sym (slice_get-push_same undos undo) ∙ subst (λ (n : ℕ). slice_get (undos ++ undo ∷ []) n ≡ Some other) same here) in
          let place : first + k ≡ p = omega (arith, same, many) in
          let was : q ≡ before = same_Some q before (sym at ∙ subst (λ (n : ℕ). place_at s n ≡ Some before) place from) in
          let last : r ≡ after = same_Some r after (sym next ∙ subst (λ (n : ℕ). place_at s (suc n) ≡ Some after) place to) in
          subst (λ (u : Undo). Undoes before.state after.state u) mine
          (subst (λ (p : Place). Undoes p.state after.state undo) was
          (subst (λ (p : Place). Undoes q.state p.state undo) last is))
      | inr differs ↦
          let within : k < length (undos ++ undo ∷ []) = slice_get_within (undos ++ undo ∷ []) k other here in
          let more : length (undos ++ undo ∷ []) ≡ length undos + 1 = length-append undos (undo ∷ []) in
          let less : k < length undos = omega (arith, within, more, differs) in
          are k other before after (sym (slice_get-push_less undos undo k less) ∙ here) from to
    ]

-- records of the last instructions without the oldest
slice_get-behind : {X : Type 0} (gone rest : List X) (k : ℕ) → slice_get (gone ++ rest) (length gone + k) ≡ slice_get rest k
slice_get-behind {X} [] rest k = let none : length {A = X} [] + k ≡ k = omega arith in ap (λ n. slice_get rest n) none
slice_get-behind (x ∷ gone) rest k = let less : length (x ∷ gone) + k ≡ suc (length gone + k) = omega arith in ap (λ n. slice_get (x ∷ gone ++ rest) n) less ∙ slice_get-behind gone rest k

undos_behind : (s : Program) (first : ℕ) (gone rest : List Undo) → AreUndos s first (gone ++ rest) → AreUndos s (first + length gone) rest
undos_behind s first gone rest are k undo before after here from to =
    let place : first + length gone + k ≡ first + (length gone + k) = omega arith in
    are (length gone + k) undo before after (slice_get-behind gone rest k ∙ here)
    (subst (λ (n : ℕ). place_at s n ≡ Some before) place from) (subst (λ (n : ℕ). place_at s (suc n) ≡ Some after) place to)

last_behind : (s : Program) (p : ℕ) (gone rest : List Undo) → AreLast s p (gone ++ rest) → AreLast s p rest
last_behind s p gone rest last =
    record {
      first = last.first + length gone;
      many = let e : length (gone ++ rest) ≡ length gone + length rest = length-append gone rest in let f = last.many in omega (arith, e, f);
      back = undos_behind s last.first gone rest last.back;
    }

-- none are the records of the last ones, of none
pub last_none : (s : Program) (p : ℕ) (undos : List Undo) → undos ≡ [] → AreLast s p undos
last_none s p undos none =
    subst (AreLast s p) (sym none)
    (record {
      first = p;
      many = omega arith;
      back = λ k other before after here from to. let e : k < 0 = slice_get_within [] k other here in absurd (omega (arith, e));
    })

-- the records one instruction on
last_more :
    (s : Program) (p : ℕ) (q r : Place) (undos records : List Undo)
    → AreLast s p undos → place_at s p ≡ Some q → place_at s (suc p) ≡ Some r → OneMore q.state r.state undos records → AreLast s (suc p) records
last_more s p q r undos records last at next one =
    subst (AreLast s (suc p)) (sym one.more.are)
    (record {
      first = rest.first;
      many = let e : length (one.more.rest ++ one.undo ∷ []) ≡ length one.more.rest + 1 = length-append one.more.rest (one.undo ∷ []) in let f = rest.many in omega (arith, e, f);
      back = undos_push s rest.first p one.more.rest one.undo q r rest.back rest.many at next one.undoes;
    })
  where
    rest : AreLast s p one.more.rest
    rest = last_behind s p one.more.gone one.more.rest (subst (AreLast s p) one.more.were last)

-- behind what is pushed there are records
pub pushed_some : (undo : Undo) (undos records : List Undo) → IsPushed undo undos records → records ≢ []
pushed_some undo undos records pushed none =
    let e : length (pushed.rest ++ undo ∷ []) ≡ length pushed.rest + 1 = length-append pushed.rest (undo ∷ []) in
    let f : length (pushed.rest ++ undo ∷ []) ≡ 0 = ap length (sym pushed.are ∙ none) in
    absurd (omega (arith, e, f))

-- the records as an instruction that is performed leaves them
go_on :
    (s : Program) (p : ℕ) (q r : Place) (undos records : Recent) (leaves : Bool) → AreLast s p (undos_in undos) → place_at s p ≡ Some q → place_at s (suc p) ≡ Some r
    → GoOn leaves q.state r.state undos records → AreLast s (suc p) (undos_in records)
go_on s p q r undos records true last at next on = last_more s p q r (undos_in undos) (undos_in records) last at next on.0
go_on s p q r undos records false last at next on = last_none s (suc p) (undos_in records) on.0

-- one more instruction performed again
pub again_next :
    (s : Program) (p q : ℕ) (state t : State) (undos records : Recent) (i : Instr) (list : Option Shown) (leaves : Bool)
    → IsStateAt s p state → AreLast s p (undos_in undos) → slice_get s.instrs p ≡ Some i → step state i ≡ Performed t list → GoOn leaves state t undos records → q ≡ suc p
    → IsStateAt s q t × AreLast s q (undos_in records)
again_next s p q state t undos records i list leaves was last here performed on next_is =
    subst (λ n. IsStateAt s n t × AreLast s n (undos_in records)) (sym next_is) (
      record { shown = with_shown was.shown list; at = next },
      go_on s p (record { state = state; shown = was.shown }) (record { state = t; shown = with_shown was.shown list }) undos records leaves last was.at next on,
    )
  where
    next : place_at s (suc p) ≡ Some (record { state = t; shown = with_shown was.shown list })
    next = place_at-next s p (record { state = state; shown = was.shown }) i t list was.at here performed

-- the debugger one instruction on
kept_next :
    (s : Program) (p : ℕ) (state t : State) (shown : List Shown) (undos records : Recent) (breaks : List Bool) (watches : List Watched) (i : Instr) (list : Option Shown) (leaves : Bool)
    → IsKept s p state shown undos breaks watches → slice_get s.instrs p ≡ Some i → step state i ≡ Performed t list → GoOn leaves state t undos records
    → IsKept s (suc p) t (with_shown shown list) records breaks watches
kept_next s p state t shown undos records breaks watches i list leaves kept here performed on =
    record {
      session = record {
        limits = kept.session.limits;
        at = next;
        reached = reached s _ _ inside next;
        within = inside;
        breaks = kept.session.breaks;
        watches = kept.session.watches;
      };
      last = go_on s p _ _ undos records leaves kept.last kept.session.at next on;
    }
  where
    next : place_at s (suc p) ≡ Some (record { state = t; shown = with_shown shown list })
    next = place_at-next s p (record { state = state; shown = shown }) i t list kept.session.at here performed

    inside : suc p ≤ length s.instrs
    inside = let e = slice_get_within s.instrs p i here in omega (arith, e)

pub kept_forth :
    (s : Program) (p q : ℕ) (state t : State) (shown lists : List Shown) (undos records : Recent) (breaks : List Bool) (watches : List Watched) (i : Instr) (list : Option Shown) (leaves : Bool)
    → IsKept s p state shown undos breaks watches → slice_get s.instrs p ≡ Some i → step state i ≡ Performed t list → GoOn leaves state t undos records
    → q ≡ suc p → lists ≡ with_shown shown list → IsKept s q t lists records breaks watches
kept_forth s p q state t shown lists undos records breaks watches i list leaves kept here performed on next lists_are =
    subst (λ n. IsKept s n t lists records breaks watches) (sym next)
    (subst (λ xs. IsKept s (suc p) t xs records breaks watches) (sym lists_are) (kept_next s p state t shown undos records breaks watches i list leaves kept here performed on))

pub advances :
    (s : Program) (p q : ℕ) (state t : State) (shown lists : List Shown) (records : Recent) (breaks : List Bool) (watches : List Watched)
    → IsKept s q t lists records breaks watches → q ≡ suc p → Advances (session_of s p state shown breaks watches) (session_of s q t lists breaks watches)
advances s p q state t shown lists records breaks watches kept next =
    record { keeps = record { schedule = refl; breaks = refl; watches = refl }; next = next; reached = kept.session.reached }

-- the place before the last instruction, and its record
pub record IsBefore (s : Program) (state : State) (p : ℕ) (undo : Undo) : Type 0 where
  pub earlier : Place
  pub at : place_at s p ≡ Some earlier
  pub undoes : Undoes earlier.state state undo

undos_front : (s : Program) (first : ℕ) (undos : List Undo) (undo : Undo) → AreUndos s first (undos ++ undo ∷ []) → AreUndos s first undos
undos_front s first undos undo are k other before after here from to =
    let less : k < length undos = slice_get_within undos k other here in
    are k other before after (slice_get-push_less undos undo k less ∙ here) from to

-- the last record, of those that are left when it is taken off
counted : (p first : ℕ) (undos front : List Undo) (undo : Undo) → first + length undos ≡ p → undos ≡ front ++ undo ∷ [] → p ≡ suc (first + length front)
counted p first undos front undo many is = let e : length (front ++ undo ∷ []) ≡ length front + 1 = length-append front (undo ∷ []) in let f = ap length is in omega (arith, e, f, many)

before_last :
    (s : Program) (p r : ℕ) (state : State) (shown : List Shown) (undos front : List Undo) (breaks : List Bool) (watches : List Watched) (undo : Undo)
    → IsSession (session_of s p state shown breaks watches) → AreLast s p undos → undos ≡ front ++ undo ∷ [] → p ≡ suc r → IsBefore s state r undo
before_last s p r state shown undos front breaks watches undo session last is next =
    record { earlier = first.0; at = first.1; undoes = last.back (length front) undo first.0 (record { state = state; shown = shown }) here (ap (place_at s) at ∙ first.1) (ap (λ n. place_at s (suc n)) at ∙ ap (place_at s) (sym next) ∙ session.at) }
  where
    at : last.first + length front ≡ r
    at = let e = counted p last.first undos front undo last.many is in omega (arith, e, next)

    first : (q : Place) × (place_at s r ≡ Some q)
    first = let le : p ≤ done s = session.reached in there s r (omega (arith, next, le))

    here : slice_get undos (length front) ≡ Some undo
    here = ap (λ us. slice_get us (length front)) is ∙ slice_get-push_same front undo

pub undoable :
    (s : Program) (p : ℕ) (state : State) (shown : List Shown) (undos front : List Undo) (breaks : List Bool) (watches : List Watched) (undo : Undo)
    → IsSession (session_of s p state shown breaks watches) → AreLast s p undos → undos ≡ front ++ undo ∷ [] → IsUndoable state undo
undoable s p state shown undos front breaks watches undo session last is =
    let b = before_last s p (last.first + length front) state shown undos front breaks watches undo session last is (counted p last.first undos front undo last.many is) in (b.earlier.state, b.undoes)

-- the lists shown before the last instruction
take_all : {X : Type 0} (xs : List X) (y : X) → take (length xs) (xs ++ y ∷ []) ≡ xs
take_all [] y = refl
take_all (x ∷ xs) y = ap (λ zs. x ∷ zs) (take_all xs y)

without_last : {X : Type 0} (xs : List X) (y : X) → take (length (xs ++ y ∷ []) - 1) (xs ++ y ∷ []) ≡ xs
without_last xs y =
    let e : length (xs ++ y ∷ []) ≡ length xs + 1 = length-append xs (y ∷ []) in
    let less : length (xs ++ y ∷ []) - 1 ≡ length xs = omega (arith, e) in
    ap (λ n. take n (xs ++ y ∷ [])) less ∙ take_all xs y

shown_before : (b : Bool) (front shown before : List Shown) (list : Option Shown) → is_some list ≡ b → shown ≡ with_shown before list → AreShownBefore b shown front → front ≡ before
shown_before true front shown before None some e is = absurd (cc)
shown_before true front shown before (Some l) some e is = is ∙ ap (λ xs. take (length xs - 1) xs) e ∙ without_last before l
shown_before false front shown before None some e is = is ∙ e
shown_before false front shown before (Some l) some e is = absurd (cc)

-- the lists that the run has shown at a place
pub shown_is : (s : Program) (p : ℕ) (q : Place) → place_at s p ≡ Some q → shown_at s p ≡ q.shown
shown_is s p q at = ap (λ (o : Option Place). unwrap_or (option_map (λ (r : Place). r.shown) o) []) at

pub shown_next :
    (s : Program) (p q : ℕ) (state t : State) (i : Instr) (list : Option Shown) → place_at s p ≡ Some (record { state = state; shown = shown_at s p }) → slice_get s.instrs p ≡ Some i → step state i ≡ Performed t list
    → q ≡ suc p → shown_at s q ≡ with_shown (shown_at s p) list
shown_next s p q state t i list at here performed next =
    ap (shown_at s) next ∙ shown_is s (suc p) (record { state = t; shown = with_shown (shown_at s p) list }) (place_at-next s p (record { state = state; shown = shown_at s p }) i t list at here performed)

-- those that are recorded, one instruction on
pub lists_forth :
    (kept : Bool) (shown later lists more : List Shown) (given list : Option Shown) → AreLists kept shown lists → MatchBool kept (given ≡ list) (given ≡ None) → later ≡ with_shown shown list → more ≡ with_shown lists given
    → AreLists kept later more
lists_forth true shown later lists more given list are is later_is more_is = more_is ∙ ap (λ xs. with_shown xs given) are ∙ ap (with_shown shown) is ∙ sym later_is
lists_forth false shown later lists more given list are is later_is more_is = more_is ∙ ap (λ xs. with_shown xs given) are ∙ ap (with_shown []) is

none_before : (b : Bool) (lists front : List Shown) → lists ≡ [] → AreShownBefore b lists front → front ≡ []
none_before true lists front none is = is ∙ ap (λ xs. take (length xs - 1) xs) none
none_before false lists front none is = is ∙ none

-- and one instruction back
pub lists_back :
    (kept : Bool) (s : Program) (p r : ℕ) (lists front : List Shown) (i : Instr)
    → p ≤ done s → p ≡ suc r → slice_get s.instrs r ≡ Some i → AreLists kept (shown_at s p) lists → AreShownBefore (is_read i) lists front
    → AreLists kept (shown_at s r) front
lists_back false s p r lists front i le next here are were = none_before (is_read i) lists front are were
lists_back true s p r lists front i le next here are were =
    let earlier = there s r (omega (arith, le, next)) in
    let later = there s p le in
    let l = led s r i earlier.0 later.0 here earlier.1 (ap (place_at s) (sym next) ∙ later.1) in
    shown_before (is_read i) front lists earlier.0.shown l.list (row_leaves earlier.0.state i l.state l.list l.step).1 (are ∙ shown_is s p later.0 later.1 ∙ ap (λ (q : Place). q.shown) l.is) were
    ∙ sym (shown_is s r earlier.0 earlier.1)

-- the debugger one instruction back
pub kept_back :
    (s : Program) (p r : ℕ) (state t : State) (undos : List Undo) (rest : Recent) (breaks : List Bool) (watches : List Watched) (undo : Undo)
    → IsSession (session_of s p state (shown_at s p) breaks watches) → AreLast s p undos → undos ≡ undos_in rest ++ undo ∷ [] → p ≡ suc r
    → ((earlier : State) → Undoes earlier state undo → t ≡ earlier) → IsKept s r t (shown_at s r) rest breaks watches
kept_back s p r state t undos rest breaks watches undo session last is next back =
    record {
      session = record {
        limits = session.limits;
        at = now;
        reached = reached s _ _ inside now;
        within = inside;
        breaks = session.breaks;
        watches = session.watches;
      };
      last = record { first = last.first; many = many; back = undos_front s last.first (undos_in rest) undo (subst (AreUndos s last.first) is last.back) };
    }
  where
    many : last.first + length (undos_in rest) ≡ r
    many = let e = counted p last.first undos (undos_in rest) undo last.many is in omega (arith, e, next)

    b : IsBefore s state r undo
    b = before_last s p r state (shown_at s p) undos (undos_in rest) breaks watches undo session last is next

    now : place_at s r ≡ Some (record { state = t; shown = shown_at s r })
    now = b.at ∙ ap (λ (q : Place). Some q) (same_place b.earlier t (shown_at s r) (sym (back b.earlier.state b.undoes)) (sym (shown_is s r b.earlier b.at)))
      where
        same_place : (q : Place) (u : State) (xs : List Shown) → q.state ≡ u → q.shown ≡ xs → q ≡ record { state = u; shown = xs }
        same_place q u xs e f = rw (← e, ← f) refl

    inside : r ≤ length s.instrs
    inside = let e = session.within in omega (arith, next, e)
