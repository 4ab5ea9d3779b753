-- The counts of a trace say where each edit of a run lies.
use Rattle.std.proofs.Common.{◌≡◌, ℕ, zero, suc, ◌+◌, ◌<◌, ◌≤◌, List, [], ◌∷◌, ◌++◌, length, take, get_or, replicate, refl, sym, ap, ◌∙◌, subst, arith, inl, inr, Option, Some, None, Bool, true, false, append_assoc}
use Rattle.std.specs.Prelude.{◌⊎◌, ◌↔◌, slice_get, cond}
use Rattle.std.proofs.lemmas.List.{length-replicate, take_all}
use Rattle.std.proofs.lemmas.List.Sums.{count_by_more_yes, count_by_more_no}
use Rattle.std.proofs.lemmas.Option.{slice_get_within, get_or_from_slice_get, same_Some}
use Rattle.ot_isa.specs.Program.{Program}
use Rattle.ot_isa.specs.declared.elements.Tagged.{Tagged}
use Rattle.ot_isa.specs.declared.instruction.Instr.{Instr}
use Rattle.ot_isa.specs.declared.instruction.Instr.TheVariants.{Edit, Take, Deliver, Acknowledge, Join, Read, ReadServer}
use Rattle.ot_model.specs.declared.shown.Shown.{Shown}
use Rattle.ot_model.specs.Table.{Client, absent, State, Outcome, Performed, Refused, NoRow, Place, step, run as run_from, with_shown, with_row, acknowledged, start_list}
use Rattle.ot_model.specs.Runs.{IsRunnable, IsStateAt, opening_of}
use Rattle.ot_model.specs.Sound.{AreInstrs}
use Rattle.ot_model.specs.Trace.{EventView}
use Rattle.ot_model.specs.Events.{Ledger, counted, ledger_after, event_of, events_from, actor, no_edits, events}
use Rattle.ot_model.specs.Lying.{Holder, Outstanding, Buffer, LogEntry, Enters, Passes, is_edit_by, edits_among, LiesIn, ledger_from, ledger_at, in_entries, sent, IsCountedIn, CountsTellWhatLies, IsNotedFor, entries_had, SeesWhatLies, EventsSeeWhatLies}
use Rattle.ot_model.proofs.Algebra.{laws}
use Rattle.ot_model.proofs.Kept.{keeps_both}
use Rattle.ot_model.proofs.Knowledge.{logged, made_by, sees, IsCounted}
use Rattle.ot_model.proofs.Steps.{each_opening, opening_sound_from}
use Rattle.ot_model.proofs.Outcomes.{by_edit, by_take, by_deliver, by_acknowledge, by_join, by_read, by_read_server}
use Rattle.ot_model.proofs.Counting.{logged_high, with_own_same, with_own_other, entries_size, opening_counted}
use Rattle.ot_model.proofs.Seeing.{seen_client, seen_server, none_made, opening_visible}
use Rattle.ot_model.proofs.Editing.{opening_content}
use Rattle.ot_model.proofs.Runs.{place_at-next, state_begun}
use Rattle.ot_model.proofs.Telling.{IsTold, IsToldOutcome, step_told}
use Rattle.ot_model.proofs.Carrying.{IsSettled, Comes, IsCarried, IsCarriedBy, entry_of, step_carried}

-- ---- along a run

-- at this place of the run the counts say what lies where
record IsLying (run : Program) (n : ℕ) (s : State) (l : Ledger) : Type 0 where
  at : IsStateAt run n s
  clients : length s.clients ≡ run.clients
  made : (d : ℕ) → get_or l.made d 0 ≡ edits_among d (take n run.instrs)
  settled : (c : ℕ) (x : Client) → slice_get s.clients c ≡ Some x → IsSettled l c x
  alike : (d k : ℕ) (h : Holder) → LiesIn run d k n h ↔ IsCountedIn s l d k h

same_state : (run : Program) (n : ℕ) (s t : State) → IsStateAt run n s → IsStateAt run n t → s ≡ t
same_state run n s t a b = ap (λ (p : Place). p.state) (same_Some (record { state = s; shown = a.shown }) (record { state = t; shown = b.shown }) (sym a.at ∙ b.at))

edits_next : (d : ℕ) (is : List Instr) (n : ℕ) (i : Instr) → slice_get is n ≡ Some i → edits_among d (take (suc n) is) ≡ edits_among d (take n is) + cond (is_edit_by d i) 1 0
edits_next d is n i at = by (is_edit_by d i) refl
  where
    below : n < length is
    below = slice_get_within is n i at

    here : get_or is n i ≡ i
    here = get_or_from_slice_get is n i i at

    one_on : n + 1 ≡ suc n
    one_on = omega arith

    by : (b : Bool) → is_edit_by d i ≡ b → edits_among d (take (suc n) is) ≡ edits_among d (take n is) + cond b 1 0
    by true is_one = subst (λ (j : ℕ). edits_among d (take j is) ≡ edits_among d (take n is) + 1) one_on (count_by_more_yes (is_edit_by d) is n i below (ap (is_edit_by d) here ∙ is_one))
    by false is_none =
        let same : edits_among d (take (suc n) is) ≡ edits_among d (take n is) = subst (λ (j : ℕ). edits_among d (take j is) ≡ edits_among d (take n is)) one_on (count_by_more_no (is_edit_by d) is n i below (ap (is_edit_by d) here ∙ is_none)) in
        omega arith

module _ (run : Program) (n : ℕ) (s : State) (l : Ledger) (lying : IsLying run n s l) (i : Instr) (here : slice_get run.instrs n ≡ Some i) where
  abbrev Came : State → Instr → ℕ → ℕ → Holder → Type 0
  Came q j d k h = (Enters d j q h × (edits_among d (take n run.instrs) ≡ k)) ⊎ ((g : Holder) × LiesIn run d k n g × Passes j q g h)

  comes : (d k : ℕ) (h : Holder) → LiesIn run d k (suc n) h → Comes d k i s l h
  comes d k h lies =
      let q = lies.0 in
      let j = lies.1 in
      let one : Came q j d k h = lies.4 in
      let two : Came s j d k h = subst (λ (z : State). Came z j d k h) (same_state run n q s lies.2 lying.at) one in
      let three : Came s i d k h = subst (λ (z : Instr). Came s z d k h) (same_Some j i (sym lies.3 ∙ here)) two in
      elim three [
        | inl new ↦ inl (new.0, lying.made d ∙ new.1)
        | inr old ↦ inr (old.0, (lying.alike d k old.0).0 old.1, old.2)
      ]

  lies_next : (d k : ℕ) (h : Holder) → Comes d k i s l h → LiesIn run d k (suc n) h
  lies_next d k h (inl new) = (s, i, lying.at, here, inl (new.0, sym (lying.made d) ∙ new.1))
  lies_next d k h (inr old) = (s, i, lying.at, here, inr (old.0, (lying.alike d k old.0).1 old.1, old.2))

  lying_next : (t : State) (m : Ledger) (list : Option Shown) → step s i ≡ Performed t list → length t.clients ≡ length s.clients → IsCarried s l i t m → IsLying run (suc n) t m
  lying_next t m list done size carried =
      record {
        at = record { shown = with_shown (lying.at).shown list; at = place_at-next run n (record { state = s; shown = (lying.at).shown }) i t list (lying.at).at here done };
        clients = size ∙ lying.clients;
        made = λ d. let a = carried.made d in let b = lying.made d in let e = edits_next d run.instrs n i here in omega arith;
        settled = carried.settled;
        alike = λ d k h. (λ lies. (carried.next d k h).1 (comes d k h lies), λ counted. lies_next d k h ((carried.next d k h).0 counted));
      }

-- ---- events

module _ (run : Program) (past : List EventView) (n : ℕ) (s : State) (l : Ledger) (told : IsCounted past s l) (lying : IsLying run n s l) where
  in_first : (d k r : ℕ) → (k < in_entries l r d) ↔ ((j : ℕ) × (j < r) × LiesIn run d k n (LogEntry j))
  in_first d k r = (
    λ below.
        let found = entry_of (λ (j : ℕ). in_entries l j d) k refl r below in
        (found.0, found.1, (lying.alike d k (LogEntry found.0)).1 (found.2, found.3)),
    λ lies.
        let q = (lying.alike d k (LogEntry lies.0)).0 lies.2 in
        let up = told.rising d (suc lies.0) r lies.1 in
        let hi = q.1 in
        omega arith,
  )

  client_sees : (i : Instr) (c : ℕ) (e : EventView) → slice_get run.instrs n ≡ Some i → IsNotedFor run.clients i e → e.replica ≡ c → slice_get s.clients c ≡ Some (get_or s.clients c absent) → entries_had i s ≡ (get_or s.clients c absent).revision
      → ((q : ℕ) → get_or e.seen q 0 ≡ sees l c (get_or s.clients c absent) q) → SeesWhatLies run n s i e
  client_sees i c e here noted mine at had counts =
      record {
        at = lying.at;
        instr = here;
        noted = noted;
        own = ap (λ (q : ℕ). get_or e.seen q 0) mine ∙ counts c ∙ with_own_same c (made_by l c) (logged l.entries x.revision) ∙ lying.made c ∙ ap (λ (q : ℕ). edits_among q (take n run.instrs)) (sym mine);
        others = λ d k away.
            let is = counts d ∙ with_own_other c (made_by l c) d (logged l.entries x.revision) (λ f. away (f ∙ sym mine)) in
            let pair = in_first d k x.revision in (
              λ below. subst (λ (r : ℕ). (j : ℕ) × (j < r) × LiesIn run d k n (LogEntry j)) (sym had) (pair.0 (omega arith)),
              λ lies. let lt = pair.1 (subst (λ (r : ℕ). (j : ℕ) × (j < r) × LiesIn run d k n (LogEntry j)) had lies) in omega arith,
            );
      }
    where
      x : Client
      x = get_or s.clients c absent

  server_sees : (e : EventView) → slice_get run.instrs n ≡ Some ReadServer → e.replica ≡ length s.clients → e.edit ≡ false → ((q : ℕ) → get_or e.seen q 0 ≡ counted q 0 l.entries) → SeesWhatLies run n s ReadServer e
  server_sees e here mine read counts =
      record {
        at = lying.at;
        instr = here;
        noted = (mine ∙ lying.clients, read);
        own =
            let none = none_made past s l (length s.clients) told (omega arith) in
            let few = told.sent (length s.clients) in
            let is = counts (length s.clients) in
            let made = lying.made (length s.clients) in
            ap (λ (q : ℕ). get_or e.seen q 0) mine ∙ omega arith ∙ ap (λ (q : ℕ). edits_among q (take n run.instrs)) (sym mine);
        others = λ d k away.
            let is = counts d in
            let all = logged_high l.entries (length s.log) d (let size = entries_size past s l told in omega arith) in
            let pair = in_first d k (length s.log) in
            (λ below. pair.0 (omega arith), λ lies. let lt = pair.1 lies in omega arith);
      }

-- what is the one event of an instruction
single : (P : EventView → Type 0) (d : EventView) → P d → (k : ℕ) (e : EventView) → slice_get (d ∷ []) k ≡ Some e → P e
single P d holds zero e at = subst P (same_Some d e at) holds
single P d holds (suc k) e at = absurd cc

none_there : (P : EventView → Type 0) (k : ℕ) (e : EventView) → ◌≡◌ {A = Option EventView} (slice_get [] k) (Some e) → P e
none_there P k e at = absurd cc

module _ (run : Program) (past : List EventView) (n : ℕ) (s : State) (l : Ledger) (told : IsCounted past s l) (lying : IsLying run n s l) where
  -- the events of an instruction that is performed
  abbrev IsSeenBy : Instr → Outcome → Type 0
  IsSeenBy i (Performed t shown) = (k : ℕ) (e : EventView) → slice_get (event_of l i (length s.clients) (actor i s.clients absent) s) k ≡ Some e → SeesWhatLies run n s i e
  IsSeenBy i (Refused r) = Unit {0}
  IsSeenBy i NoRow = Unit {0}

  known : (c : ℕ) (x : Client) → slice_get s.clients c ≡ Some x → slice_get s.clients c ≡ Some (get_or s.clients c absent)
  known c x at = at ∙ ap Some (sym (get_or_from_slice_get s.clients c x absent at))

  no_event : (c : ℕ) (o : Option Client) → IsSeenBy (Acknowledge c) (with_row s c o)
  no_event c None = tt
  no_event c (Some y) = none_there (SeesWhatLies run n s (Acknowledge c))

  step_sees : (i : Instr) → slice_get run.instrs n ≡ Some i → IsSeenBy i (step s i)
  step_sees (Edit c op) here = by_edit (IsSeenBy (Edit c op)) (λ r. tt) s c op (λ x at below on base few.
      single (SeesWhatLies run n s (Edit c op)) _ (client_sees run past n s l told lying (Edit c op) c _ here (refl, refl) refl (known c x at) refl (seen_client past s l c (get_or s.clients c absent) told (known c x at))))
  step_sees (Take c) here = by_take (IsSeenBy (Take c)) (λ r. tt) s c (λ x m at below on sent. none_there (SeesWhatLies run n s (Take c)))
  step_sees (Deliver c) here = by_deliver (IsSeenBy (Deliver c)) (λ r. tt) s c (λ x h at below on head other. none_there (SeesWhatLies run n s (Deliver c)))
  step_sees (Acknowledge c) here = by_acknowledge (IsSeenBy (Acknowledge c)) (λ r. tt) s c (λ x h at below on head own. no_event c (acknowledged x x.phase))
  step_sees (Join c) here = by_join (IsSeenBy (Join c)) (λ r. tt) s c (λ x at below off. none_there (SeesWhatLies run n s (Join c)))
  step_sees (Read c) here = by_read (IsSeenBy (Read c)) (λ r. tt) s c (λ x at below on.
      single (SeesWhatLies run n s (Read c)) _ (client_sees run past n s l told lying (Read c) c _ here (refl, refl) refl (known c x at) refl (seen_client past s l c (get_or s.clients c absent) told (known c x at))))
  step_sees ReadServer here = by_read_server (IsSeenBy ReadServer) (λ r. tt) s (λ below.
      single (SeesWhatLies run n s ReadServer) _ (server_sees run past n s l told lying _ here refl refl (seen_server past s l told)))

-- ---- the whole run

-- at each later place of the run the counts say what lies where
abbrev Tells : Program → List Instr → ℕ → State → Ledger → Type 0
Tells run is n s l =
    (m : ℕ) (t : State) (first last : List Shown) → m ≤ length is → run_from (take m is) (record { state = s; shown = first }) ≡ Some (record { state = t; shown = last })
    → (d k : ℕ) (h : Holder) → LiesIn run d k (n + m) h ↔ IsCountedIn t (ledger_from s l (take m is)) d k h

-- and each later event sees what lies in the entries that its reader has
abbrev AllSee : Program → List EventView → Type 0
AllSee run later = (k : ℕ) (e : EventView) → slice_get later k ≡ Some e → (p : ℕ) × (q : State) × (i : Instr) × SeesWhatLies run p q i e

here_tells : (run : Program) (n : ℕ) (s t : State) (l : Ledger) (first last : List Shown) → IsLying run n s l → ◌≡◌ {A = Option Place} (Some (record { state = s; shown = first })) (Some (record { state = t; shown = last }))
    → (d k : ℕ) (h : Holder) → LiesIn run d k (n + 0) h ↔ IsCountedIn t l d k h
here_tells run n s t l first last lying same d k h =
    let place : n ≡ n + 0 = omega arith in
    let state : s ≡ t = ap (λ (p : Place). p.state) (same_Some (record { state = s; shown = first }) (record { state = t; shown = last }) same) in
    subst (λ (z : State). LiesIn run d k (n + 0) h ↔ IsCountedIn z l d k h) state (subst (λ (j : ℕ). LiesIn run d k j h ↔ IsCountedIn s l d k h) place (lying.alike d k h))

slice_get_beyond : {X : Type 0} (xs ys : List X) (k : ℕ) (x : X) → slice_get (xs ++ ys) k ≡ Some x → (slice_get xs k ≡ Some x) ⊎ ((j : ℕ) × (slice_get ys j ≡ Some x))
slice_get_beyond [] ys k x at = inr (k, at)
slice_get_beyond (z ∷ xs) ys zero x at = inl at
slice_get_beyond (z ∷ xs) ys (suc k) x at = slice_get_beyond xs ys k x at

module _ (run : Program) (start : List Tagged) (text : List ℕ) (trace : List EventView) where
  all_lie : (is : List Instr) (past : List EventView) (n : ℕ) (s : State) (l : Ledger) → IsTold start text trace past s l → IsLying run n s l → AreInstrs is → trace ≡ past ++ events_from s l is
      → ((m : ℕ) → slice_get is m ≡ slice_get run.instrs (n + m)) → Tells run is n s l × AllSee run (events_from s l is)
  all_lie [] past n s l told lying all split here = (tells, λ k e at. absurd cc)
    where
      tells : Tells run [] n s l
      tells zero t first last le same = here_tells run n s t l first last lying same
      tells (suc m) t first last le same = absurd (omega (arith, le))
  all_lie (i ∷ is) past n s l told lying all split here =
      let whole = go (λ past' t m next lies eq rest. all_lie is past' (suc n) t m next lies all.1 eq rest) (step s i) refl (step_told laws (keeps_both laws) start text trace past s l i told all.0)
      (step_carried start text past s l told.sound told.counted lying.settled i) (step_sees run past n s l told.counted lying i at_i) split in
      (tells whole.0, whole.1)
    where
      z : Client
      z = actor i s.clients absent

      now : List EventView
      now = event_of l i (length s.clients) z s

      at_i : slice_get run.instrs n ≡ Some i
      at_i = let e : n + 0 ≡ n = omega arith in sym (subst (λ (j : ℕ). slice_get (i ∷ is) 0 ≡ slice_get run.instrs j) e (here 0))

      rest_here : (m : ℕ) → slice_get is m ≡ slice_get run.instrs (suc n + m)
      rest_here m = let e : n + suc m ≡ suc n + m = omega arith in subst (λ (j : ℕ). slice_get is m ≡ slice_get run.instrs j) e (here (suc m))

      TellsOn : Outcome → Type 0
      TellsOn o =
          (m : ℕ) (t : State) (first last : List Shown) → m ≤ length is
          → (elim o [ Performed u list ↦ run_from (take m is) (record { state = u; shown = with_shown first list }) | Refused r ↦ None | NoRow ↦ None ]) ≡ Some (record { state = t; shown = last })
          → (d k : ℕ) (h : Holder) → LiesIn run d k (n + suc m) h ↔ IsCountedIn t (elim o [ Performed u list ↦ ledger_from u (ledger_after l i z) (take m is) | Refused r ↦ l | NoRow ↦ l ]) d k h

      tells : TellsOn (step s i) → Tells run (i ∷ is) n s l
      tells on zero t first last le same = here_tells run n s t l first last lying same
      tells on (suc m) t first last le same = on m t first last (omega (arith, le)) same

      go : ((past' : List EventView) (t : State) (m : Ledger) → IsTold start text trace past' t m → IsLying run (suc n) t m → trace ≡ past' ++ events_from t m is → ((m : ℕ) → slice_get is m ≡ slice_get run.instrs (suc n + m)) → Tells run is (suc n) t m × AllSee run (events_from t m is))
          → (o : Outcome) → step s i ≡ o → IsToldOutcome start text trace past s l i z o → IsCarriedBy s l i o → IsSeenBy run past n s l told.counted lying i o
          → trace ≡ past ++ (elim o [ Performed t shown ↦ now ++ events_from t (ledger_after l i z) is | Refused r ↦ [] | NoRow ↦ [] ])
          → TellsOn o × AllSee run (elim o [ Performed t shown ↦ now ++ events_from t (ledger_after l i z) is | Refused r ↦ [] | NoRow ↦ [] ])
      go later (Refused r) done next carried seen eq = (λ m t first last le same. absurd cc, λ k e at. absurd cc)
      go later NoRow done next carried seen eq = (λ m t first last le same. absurd cc, λ k e at. absurd cc)
      go later (Performed u list) done next carried seen eq =
          let rest = events_from u (ledger_after l i z) is in
          let facts = next rest eq in
          let lies = lying_next run n s l lying i at_i u (ledger_after l i z) list done facts.clients carried in
          let on = later (past ++ now) u (ledger_after l i z) facts.told lies (eq ∙ sym (append_assoc past now rest)) rest_here in (
            λ m t first last le same d k h. let e : suc n + m ≡ n + suc m = omega arith in subst (λ (j : ℕ). LiesIn run d k j h ↔ IsCountedIn t (ledger_from u (ledger_after l i z) (take m is)) d k h) e (on.0 m t (with_shown first list) last le same d k h),
            λ k e at. elim (slice_get_beyond now rest k e at) [ inl early ↦ (n, s, i, seen k e early) | inr late ↦ on.1 late.0 e late.1 ],
          )

zeros : (n r : ℕ) → ◌≡◌ {A = ℕ} (get_or (replicate n 0) r 0) 0
zeros zero r = refl
zeros (suc n) zero = refl
zeros (suc n) (suc r) = zeros n r

lying_begun : (run : Program) → IsRunnable run → IsLying run 0 (opening_of run) (no_edits run.clients)
lying_begun run is =
    let settled : (c : ℕ) → (get_or (replicate run.clients 0) c 0 ≡ 0) × (0 ≡ sent (no_edits run.clients) c) = λ c. let a = zeros run.clients c in (a, omega arith) in
    record {
      at = state_begun run (opening_of run) refl;
      clients = sym (opening_counted run.clients run.present run.start is.present).made_size ∙ length-replicate run.clients _;
      made = λ d. zeros run.clients d;
      settled = each_opening (λ c x. IsSettled (no_edits run.clients) c x) run.clients run.present run.start
          (λ c. record { unbuffered = (settled c).0; all_logged = λ none. (settled c).1 })
          (λ c. record { unbuffered = (settled c).0; all_logged = λ none. (settled c).1 });
      alike = λ d k h. (λ lies. absurd lies, λ q. absurd (none d k h q));
    }
  where
    none : (d k : ℕ) (h : Holder) → IsCountedIn (opening_of run) (no_edits run.clients) d k h → ⊥
    none d k (Outstanding c) q = let hi = q.2 in let a = zeros run.clients c in omega arith
    none d k (Buffer c) q = let hi = q.2 in let a = zeros run.clients c in omega arith
    none d k (LogEntry j) q = let hi = q.1 in let e : in_entries (no_edits run.clients) (suc j) d ≡ 0 = ap (counted d 0) (take_all (suc j) [] (omega arith)) in omega arith

whole_run : (run : Program) → IsRunnable run → Tells run run.instrs 0 (opening_of run) (no_edits run.clients) × AllSee run (events run.clients run.present run.start run.instrs)
whole_run run is =
    let start = start_list run.start in
    let trace = events run.clients run.present run.start run.instrs in
    let told : IsTold start run.start trace [] (opening_of run) (no_edits run.clients) =
    record { sound = opening_sound_from run.clients run.present run.start is.clients is.present is.start; counted = opening_counted run.clients run.present run.start is.present; visible = opening_visible trace run.clients run.present run.start; content = opening_content run.clients run.present run.start trace } in
    all_lie run start run.start trace run.instrs [] 0 (opening_of run) (no_edits run.clients) told (lying_begun run is) is.instrs refl (λ m. let e : m ≡ 0 + m = omega arith in ap (slice_get run.instrs) e)

pub counts_tell : CountsTellWhatLies
counts_tell run p s is le at d k h =
    let e : 0 + p ≡ p = omega arith in
    subst (λ (j : ℕ). LiesIn run d k j h ↔ IsCountedIn s (ledger_at run p) d k h) e ((whole_run run is).0 p s [] at.shown le at.at d k h)

pub events_see : EventsSeeWhatLies
events_see run n x is at = (whole_run run is).1 n x at
