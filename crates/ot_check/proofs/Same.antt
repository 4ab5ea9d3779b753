-- The events by rows are those of the trace.
use Rattle.std.proofs.Common.{◌≡◌, ℕ, zero, suc, ◌+◌, ◌-◌, ◌<◌, ◌≤◌, List, [], ◌∷◌, ◌++◌, length, set, get_or, take, replicate, refl, sym, ap, ◌∙◌, subst, cond, arith, Bool, true, false, inl, inr, length-append, eq-eqb}
use Rattle.std.specs.Prelude.{◌==◌}
use Rattle.std.proofs.lemmas.Bool.{cases_lt, ne_eqb}
use Rattle.std.proofs.lemmas.List.{take-append-le, take_all, get_or_append_left, get_or_push, length-replicate}
use Rattle.ot_isa.specs.Program.{Program}
use Rattle.ot_isa.specs.declared.instruction.Instr.{Instr}
use Rattle.ot_isa.specs.declared.instruction.Instr.TheVariants.{Edit, Take, Deliver, Acknowledge, Join, Read, ReadServer}
use Rattle.ot_model.specs.Table.{Client, absent, State, Outcome, Performed, Refused, NoRow, step, tag_operation, present_with, start_list}
use Rattle.ot_model.specs.Sound.{IsSound, AreInstrs}
use Rattle.ot_model.specs.Runs.{IsRunnable, opening_of}
use Rattle.ot_model.specs.Trace.{EventView}
use Rattle.ot_model.specs.Events.{Count, Ledger, counted, tags, seen_from, ledger_after, event_of, events_from, no_edits, in_buffer}
use Rattle.ot_model.specs.Events as events
use Rattle.ot_model.proofs.Counting.{counted_push}
use Rattle.ot_model.proofs.Steps.{opening_sound}
use Rattle.ot_check.specs.Rows.{Counts, no_counts, row_at, last_row, made_by, waiting_of, counts_after, acting, edit_event, read_event, event_at, events_by}
use Rattle.ot_check.specs.Following.{LeadsTo}
use Rattle.ot_check.proofs.Stepping.{next, sound_next, revision_within}

-- how many edits of n replicas from d on lie in the entries
abbrev row_from : ℕ → ℕ → List Count → List ℕ
row_from d zero entries = []
row_from d (suc n) entries = counted d 0 entries ∷ row_from (suc d) n entries

-- a reader of a lower number
seen_past : (reader own d n : ℕ) (entries : List Count) → reader < d → seen_from reader own d n entries ≡ row_from d n entries
seen_past reader own d zero entries lt = refl
seen_past reader own d (suc n) entries lt =
    let other : (d == reader) ≡ false = ne_eqb d reader (λ e. (let same = e in omega arith)) in
    ap (λ (b : Bool). cond b own (counted d 0 entries) ∷ seen_from reader own (suc d) n entries) other
    ∙ ap (λ xs. counted d 0 entries ∷ xs) (seen_past reader own (suc d) n entries (omega arith))

seen_set_from : (r own d n : ℕ) (entries : List Count) → seen_from (d + r) own d n entries ≡ set (row_from d n entries) r own
seen_set_from r own d zero entries = refl
seen_set_from zero own d (suc n) entries =
    let here : (d == d + 0) ≡ true = eq-eqb d (d + 0) (omega arith) in
    ap (λ (b : Bool). cond b own (counted d 0 entries) ∷ seen_from (d + 0) own (suc d) n entries) here
    ∙ ap (λ xs. own ∷ xs) (seen_past (d + 0) own (suc d) n entries (omega arith))
seen_set_from (suc r) own d (suc n) entries =
    let other : (d == d + suc r) ≡ false = ne_eqb d (d + suc r) (λ e. (let same = e in omega arith)) in
    let next : d + suc r ≡ suc d + r = omega arith in
    ap (λ (b : Bool). cond b own (counted d 0 entries) ∷ seen_from (d + suc r) own (suc d) n entries) other
    ∙ ap (λ xs. counted d 0 entries ∷ xs) (ap (λ k. seen_from k own (suc d) n entries) next ∙ seen_set_from r own (suc d) n entries)

-- what a reader sees is the row, but of its own edits so many
seen_set : (r own n : ℕ) (entries : List Count) → set (row_from 0 n entries) r own ≡ seen_from r own 0 n entries
seen_set r own n entries = let same : 0 + r ≡ r = omega arith in sym (seen_set_from r own 0 n entries) ∙ ap (λ k. seen_from k own 0 n entries) same

eqb_other : (a b : ℕ) → (a == b) ≡ (b == a)
eqb_other a b = grind arith

row_push_from : (d n : ℕ) (entries : List Count) (m : Count) → row_from d n (entries ++ m ∷ []) ≡ seen_from m.maker m.edits d n entries
row_push_from d zero entries m = refl
row_push_from d (suc n) entries m =
    ap (λ k. k ∷ row_from (suc d) n (entries ++ m ∷ [])) (counted_push d 0 entries m ∙ ap (λ (b : Bool). cond b m.edits (counted d 0 entries)) (eqb_other m.maker d))
    ∙ ap (λ xs. cond (d == m.maker) m.edits (counted d 0 entries) ∷ xs) (row_push_from (suc d) n entries m)

row_push : (n : ℕ) (entries : List Count) (m : Count) → set (row_from 0 n entries) m.maker m.edits ≡ row_from 0 n (entries ++ m ∷ [])
row_push n entries m = seen_set m.maker m.edits n entries ∙ sym (row_push_from 0 n entries m)

-- the counts are those of the ledger
record Agrees (s : State) (c : Counts) (l : Ledger) : Type 0 where
  pub made : c.made ≡ l.made
  pub buffered : c.buffered ≡ l.buffered
  pub size : length l.entries ≡ length s.log
  pub count : length c.rows ≡ suc (length l.entries)
  pub rows : (k : ℕ) → k ≤ length l.entries → row_at c k ≡ row_from 0 (suc (length s.clients)) (take k l.entries)

made_same : (s : State) (c : Counts) (l : Ledger) (k : ℕ) → Agrees s c l → made_by c k ≡ get_or l.made k 0
made_same s c l k agrees = ap (λ xs. get_or xs k 0) agrees.made

last_same : (s : State) (c : Counts) (l : Ledger) → Agrees s c l → last_row c ≡ row_from 0 (suc (length s.clients)) l.entries
last_same s c l agrees =
    let count = agrees.count in
    let last : length c.rows - 1 ≡ length l.entries = omega arith in
    ap (row_at c) last ∙ agrees.rows (length l.entries) (omega arith) ∙ ap (row_from 0 (suc (length s.clients))) (take_all (length l.entries) l.entries (omega arith))

-- what a client sees
seen_same : (s : State) (c : Counts) (l : Ledger) (k : ℕ) → IsSound s → Agrees s c l
    → set (row_at c (get_or s.clients k absent).revision) k (made_by c k) ≡ seen_from k (get_or l.made k 0) 0 (suc (length s.clients)) (take (get_or s.clients k absent).revision l.entries)
seen_same s c l k sound agrees =
    let r = (get_or s.clients k absent).revision in
    let le = revision_within s k sound in
    let size = agrees.size in
    ap (λ row. set row k (made_by c k)) (agrees.rows r (omega arith))
    ∙ ap (set (row_from 0 (suc (length s.clients)) (take r l.entries)) k) (made_same s c l k agrees)
    ∙ seen_set k (get_or l.made k 0) (suc (length s.clients)) (take r l.entries)

event_same : (s : State) (c : Counts) (l : Ledger) (i : Instr) → IsSound s → Agrees s c l → event_at s c i ≡ event_of l i (length s.clients) (acting s i) s
event_same s c l (Edit k op) sound agrees =
    ap (λ seen. edit_event k (tag_operation k (get_or s.clients k absent).count op) (get_or s.clients k absent) seen ∷ []) (seen_same s c l k sound agrees)
event_same s c l (Take k) sound agrees = refl
event_same s c l (Deliver k) sound agrees = refl
event_same s c l (Acknowledge k) sound agrees = refl
event_same s c l (Join k) sound agrees = refl
event_same s c l (Read k) sound agrees = ap (λ seen. read_event k (tags (get_or s.clients k absent).list) seen ∷ []) (seen_same s c l k sound agrees)
event_same s c l ReadServer sound agrees =
    ap (λ seen. read_event (length s.clients) (tags s.server) seen ∷ [])
    (ap (λ row. set row (length s.clients) 0) (last_same s c l agrees) ∙ seen_set (length s.clients) 0 (suc (length s.clients)) l.entries)

module _ (s t : State) (c d : Counts) (l m : Ledger) (agrees : Agrees s c l) (clients : length t.clients ≡ length s.clients) where
  unmoved : d.made ≡ m.made → d.buffered ≡ m.buffered → d.rows ≡ c.rows → m.entries ≡ l.entries → length t.log ≡ length s.log → Agrees t d m
  unmoved made buffered rows entries log =
      record {
        made = made;
        buffered = buffered;
        size = ap length entries ∙ agrees.size ∙ sym log;
        count = ap length rows ∙ agrees.count ∙ ap (λ (xs : List Count). suc (length xs)) (sym entries);
        rows = λ k le.
            let within : k ≤ length l.entries = subst (λ (xs : List Count). k ≤ length xs) entries le in
            ap (λ (xs : List (List ℕ)). get_or xs k []) rows ∙ agrees.rows k within
            ∙ ap (λ (n : ℕ). row_from 0 (suc n) (take k l.entries)) (sym clients) ∙ ap (λ (xs : List Count). row_from 0 (suc (length t.clients)) (take k xs)) (sym entries);
      }

agrees_taken : (s t : State) (c : Counts) (l : Ledger) (k : ℕ) → Agrees s c l → length t.clients ≡ length s.clients → length t.log ≡ length s.log + 1 → (x : Client) → Agrees t (counts_after c (Take k) x) (ledger_after l (Take k) x)
agrees_taken s t c l k agrees clients log x =
    let n = suc (length s.clients) in
    let entry : Count = record { maker = k; edits = get_or l.made k 0 - get_or l.buffered k 0 } in
    let row = set (last_row c) k (made_by c k - waiting_of c k) in
    let size = agrees.size in
    let count = agrees.count in
    let longer = length-append l.entries (entry ∷ []) in
    let sent : made_by c k - waiting_of c k ≡ entry.edits = ap (λ (m : List ℕ). get_or m k 0 - get_or c.buffered k 0) agrees.made ∙ ap (λ (b : List ℕ). get_or l.made k 0 - get_or b k 0) agrees.buffered in
    let row_is : row ≡ row_from 0 n (l.entries ++ entry ∷ []) =
    ap (λ (r : List ℕ). set r k (made_by c k - waiting_of c k)) (last_same s c l agrees) ∙ ap (set (row_from 0 n l.entries) k) sent ∙ row_push n l.entries entry in
    record {
      made = agrees.made;
      buffered = agrees.buffered;
      size = omega arith;
      count = length-append c.rows (row ∷ []) ∙ omega arith;
      rows = λ j le. elim (cases_lt (length l.entries) j) [
        | inl past ↦
            let at : length c.rows ≡ j = omega arith in
            get_or_push c.rows row [] j at ∙ row_is ∙ ap (row_from 0 n) (sym (take_all j (l.entries ++ entry ∷ []) (omega arith))) ∙ ap (λ (m : ℕ). row_from 0 (suc m) (take j (l.entries ++ entry ∷ []))) (sym clients)
        | inr within ↦
            get_or_append_left c.rows (row ∷ []) [] j (omega arith) ∙ agrees.rows j within
            ∙ ap (row_from 0 n) (sym (take-append-le j l.entries (entry ∷ []) within)) ∙ ap (λ (m : ℕ). row_from 0 (suc m) (take j (l.entries ++ entry ∷ []))) (sym clients)
      ];
    }

agrees_next : (s t : State) (c : Counts) (l : Ledger) (i : Instr) → Agrees s c l → LeadsTo (step s i) t → Agrees t (counts_after c i (acting s i)) (ledger_after l i (acting s i))
agrees_next s t c l (Edit k op) agrees leads =
    let after = next s t (Edit k op) leads in
    let log = after.log in
    let one : made_by c k + 1 ≡ suc (get_or l.made k 0) = (let same = made_same s c l k agrees in omega arith) in
    unmoved s t c _ l _ agrees after.clients
    (ap (λ (m : List ℕ). set m k (made_by c k + 1)) agrees.made ∙ ap (set l.made k) one)
    (ap (λ (b : List ℕ). set b k (in_buffer (get_or s.clients k absent).phase (get_or b k 0))) agrees.buffered)
    refl refl (omega arith)
agrees_next s t c l (Take k) agrees leads = let after = next s t (Take k) leads in agrees_taken s t c l k agrees after.clients after.log (acting s (Take k))
agrees_next s t c l (Deliver k) agrees leads = let after = next s t (Deliver k) leads in let log = after.log in unmoved s t c _ l _ agrees after.clients agrees.made agrees.buffered refl refl (omega arith)
agrees_next s t c l (Acknowledge k) agrees leads =
    let after = next s t (Acknowledge k) leads in let log = after.log in
    unmoved s t c _ l _ agrees after.clients agrees.made (ap (λ (b : List ℕ). set b k 0) agrees.buffered) refl refl (omega arith)
agrees_next s t c l (Join k) agrees leads = let after = next s t (Join k) leads in let log = after.log in unmoved s t c _ l _ agrees after.clients agrees.made agrees.buffered refl refl (omega arith)
agrees_next s t c l (Read k) agrees leads = let after = next s t (Read k) leads in let log = after.log in unmoved s t c _ l _ agrees after.clients agrees.made agrees.buffered refl refl (omega arith)
agrees_next s t c l ReadServer agrees leads = let after = next s t ReadServer leads in let log = after.log in unmoved s t c _ l _ agrees after.clients agrees.made agrees.buffered refl refl (omega arith)

-- the events from an outcome on
abbrev events_on : State → Counts → Instr → List Instr → Outcome → List EventView
events_on s c i is (Performed t shown) = event_at s c i ++ events_by t (counts_after c i (acting s i)) is
events_on s c i is (Refused r) = []
events_on s c i is NoRow = []

events_same : (is : List Instr) (s : State) (c : Counts) (l : Ledger) → IsSound s → Agrees s c l → AreInstrs is → events_by s c is ≡ events_from s l is
events_same [] s c l sound agrees are = refl
events_same (i ∷ is) s c l sound agrees are =
    go (λ t d m sound agrees. events_same is t d m sound agrees are.1) (step s i) refl
  where
    go : ((t : State) (d : Counts) (m : Ledger) → IsSound t → Agrees t d m → events_by t d is ≡ events_from t m is) → (o : Outcome) → step s i ≡ o
        → events_on s c i is o ≡ (elim o [ Performed t shown ↦ event_of l i (length s.clients) (acting s i) s ++ events_from t (ledger_after l i (acting s i)) is | Refused r ↦ [] | NoRow ↦ [] ])
    go rest (Performed t shown) e =
        let leads : LeadsTo (step s i) t = (shown, e) in
        ap (λ (xs : List EventView). xs ++ events_by t (counts_after c i (acting s i)) is) (event_same s c l i sound agrees)
        ∙ ap (λ (xs : List EventView). event_of l i (length s.clients) (acting s i) s ++ xs) (rest t _ _ (sound_next s t i sound are.0 leads) (agrees_next s t c l i agrees leads))
    go rest (Refused r) e = refl
    go rest NoRow e = refl

zeros_from : (d n : ℕ) → replicate n 0 ≡ row_from d n []
zeros_from d zero = refl
zeros_from d (suc n) = ap (λ (xs : List ℕ). 0 ∷ xs) (zeros_from (suc d) n)

pub trace_events : (s : Program) → IsRunnable s → events_by (opening_of s) (no_counts s.clients) s.instrs ≡ (events.trace_of s).events
trace_events s is =
    let within = is.present in
    let list = start_list s.start in
    let many : length (opening_of s).clients ≡ s.clients =
    (let both = length-append (replicate s.present (present_with list)) (replicate (s.clients - s.present) absent) in
    let here = length-replicate s.present (present_with list) in
    let away = length-replicate (s.clients - s.present) absent in
    omega arith) in
    let wide : replicate (s.clients + 1) 0 ≡ row_from 0 (suc (length (opening_of s).clients)) [] = ap (λ (n : ℕ). replicate n 0) (let e : s.clients + 1 ≡ suc (length (opening_of s).clients) = omega arith in e) ∙ zeros_from 0 (suc (length (opening_of s).clients)) in
    events_same s.instrs (opening_of s) (no_counts s.clients) (no_edits s.clients) (opening_sound s.clients s.present s.start is.clients is.present is.start)
    (record {
      made = refl;
      buffered = refl;
      size = refl;
      count = refl;
      rows = λ k le. (let none : k ≡ 0 = omega arith in rw none wide);
    })
    is.instrs
