-- The ledger's counts, row by row.
use Rattle.std.proofs.Common.{◌≡◌, ℕ, zero, suc, ◌+◌, ◌-◌, ◌<◌, ◌≤◌, ◌≢◌, List, [], ◌∷◌, ◌++◌, length, take, set, get_or, map, refl, sym, ap, ◌∙◌, subst, arith, inl, inr, Option, Some, None, Bool, true, false, length-set, length-append}
use Rattle.std.proofs.lemmas.List.{append-nil, take-append-le, take_all, get_or-set_same, get_or-set_other, length_push, length-replicate, map-append}
use Rattle.std.proofs.lemmas.List.Elements.{filter-append}
use Rattle.std.proofs.lemmas.Bool.{cases_eq, cases_lt, cond-true, cond-false, eq-eqb, ne_eqb}
use Rattle.std.proofs.lemmas.Option.{slice_get_within, slice_get-map, same_Some}
use Rattle.std.specs.Prelude.{◌⊎◌, slice_get, ◌==◌, ◌&&◌, if◌then◌else◌, option_map, replicate}
use Rattle.ot_model.specs.Operation.{Operation}
use Rattle.ot_isa.specs.declared.elements.Tagged.{Tagged}
use Rattle.ot_model.specs.Table.{Phase, NotJoined, Synchronized, AwaitingConfirm, AwaitingWithBuffer, is_joined, Client, State, Entry, phase_edited, edited, delivered, acknowledged, joined, with_client, taken, phase_delivered, opening}
use Rattle.ot_model.specs.Trace.{EventView}
use Rattle.ot_model.specs.Events.{Count, Ledger, counted, in_buffer}
use Rattle.ot_model.proofs.Traces.{edits_of}
use Rattle.ot_model.proofs.Knowledge.{logged, with_own, IsBuffered, IsIdle, made_by, sent_by, IsCounted}
use Rattle.ot_model.proofs.States.{each_after, take_entry, joined_edited, joined_delivered}
use Rattle.ot_model.proofs.Steps.{each_opening}

-- counts of an entry more
pub counted_push : (q n : ℕ) (entries : List Count) (m : Count) → counted q n (entries ++ m ∷ []) ≡ (if m.maker == q then m.edits else counted q n entries)
counted_push q n [] m = refl
counted_push q n (e ∷ entries) m = go (e.maker == q) (counted_push q e.edits entries m) (counted_push q n entries m)
  where
    go : (b : Bool) → counted q e.edits (entries ++ m ∷ []) ≡ (if m.maker == q then m.edits else counted q e.edits entries) → counted q n (entries ++ m ∷ []) ≡ (if m.maker == q then m.edits else counted q n entries)
        → (if b then counted q e.edits (entries ++ m ∷ []) else counted q n (entries ++ m ∷ [])) ≡ (if m.maker == q then m.edits else (if b then counted q e.edits entries else counted q n entries))
    go true own other = own
    go false own other = other

pub counted_push_own : (q n : ℕ) (entries : List Count) (m : Count) → m.maker ≡ q → counted q n (entries ++ m ∷ []) ≡ m.edits
counted_push_own q n entries m own = counted_push q n entries m ∙ cond-true (m.maker == q) m.edits (counted q n entries) (eq-eqb m.maker q own)

pub counted_push_other : (q n : ℕ) (entries : List Count) (m : Count) → m.maker ≢ q → counted q n (entries ++ m ∷ []) ≡ counted q n entries
counted_push_other q n entries m other = counted_push q n entries m ∙ cond-false (m.maker == q) m.edits (counted q n entries) (ne_eqb m.maker q other)

-- the first j entries, with one more behind
pub logged_low : (entries : List Count) (m : Count) (j q : ℕ) → j ≤ length entries → logged (entries ++ m ∷ []) j q ≡ logged entries j q
logged_low entries m j q le = ap (counted q 0) (take-append-le j entries (m ∷ []) le)

pub logged_high : (entries : List Count) (j q : ℕ) → length entries ≤ j → logged entries j q ≡ counted q 0 entries
logged_high entries j q le = ap (counted q 0) (take_all j entries le)

pub with_own_same : (c own : ℕ) (f : ℕ → ℕ) → with_own c own f c ≡ own
with_own_same c own f = cond-true (c == c) own (f c) (eq-eqb c c refl)

pub with_own_other : (c own q : ℕ) (f : ℕ → ℕ) → q ≢ c → with_own c own f q ≡ f q
with_own_other c own q f other = cond-false (q == c) own (f q) (ne_eqb q c other)

sizes_one : {X Y : Type 0} (xs : List X) (ys : List Y) (i : ℕ) (y : Y) → length xs ≡ length ys → length xs ≡ length (set ys i y)
sizes_one xs ys i y e = e ∙ sym (length-set ys i y)

sizes_both : {X Y : Type 0} (xs : List X) (ys : List Y) (i : ℕ) (x : X) (y : Y) → length xs ≡ length ys → length (set xs i x) ≡ length (set ys i y)
sizes_both xs ys i x y e = length-set xs i x ∙ sizes_one xs ys i y e

pub get_or_past : (xs : List ℕ) (i : ℕ) → length xs ≤ i → get_or xs i 0 ≡ 0
get_or_past [] i le = refl
get_or_past (x ∷ xs) zero le = absurd (omega arith)
get_or_past (x ∷ xs) (suc i) le = get_or_past xs i (omega arith)

-- the edits of a replica, with one more event
pub edits_push_own : (r : ℕ) (past : List EventView) (e : EventView) → e.replica ≡ r → e.edit ≡ true → edits_of r (past ++ e ∷ []) ≡ edits_of r past ++ e ∷ []
edits_push_own r past e own is =
    filter-append (λ d. (d.replica == r) && d.edit) past (e ∷ [])
    ∙ ap (λ (xs : List EventView). edits_of r past ++ xs) (cond-true ((e.replica == r) && e.edit) (e ∷ []) [] (rw (eq-eqb e.replica r own, is) refl))

pub edits_push_other : (r : ℕ) (past : List EventView) (e : EventView) → (e.replica ≢ r) ⊎ (e.edit ≡ false) → edits_of r (past ++ e ∷ []) ≡ edits_of r past
edits_push_other r past e why =
    filter-append (λ d. (d.replica == r) && d.edit) past (e ∷ [])
    ∙ ap (λ (xs : List EventView). edits_of r past ++ xs) (cond-false ((e.replica == r) && e.edit) (e ∷ []) [] (not_both (e.replica == r) e.edit (elim why [ inl other ↦ inl (ne_eqb e.replica r other) | inr read ↦ inr read ])))
    ∙ append-nil (edits_of r past)
  where
    not_both : (a b : Bool) → (a ≡ false) ⊎ (b ≡ false) → (a && b) ≡ false
    not_both true b (inl e) = absurd (cc)
    not_both true b (inr e) = e
    not_both false b why = refl

-- what lies in the first entries, lies in all
pub logged_most : (past : List EventView) (s : State) (l : Ledger) → IsCounted past s l → (j q : ℕ) → logged l.entries j q ≤ counted q 0 l.entries
logged_most past s l told j q = elim (cases_lt j (length l.entries)) [
  | inl below ↦ let le = told.rising q j (length l.entries) (omega arith) in let e = logged_high l.entries (length l.entries) q (omega arith) in omega arith
  | inr past_end ↦ let e = logged_high l.entries j q past_end in omega arith
]

pub entries_size : (past : List EventView) (s : State) (l : Ledger) → IsCounted past s l → length l.entries ≡ length s.log
entries_size past s l told = sym (length_map (λ (m : Count). m.maker) l.entries) ∙ ap length (sym told.makers) ∙ length_map (λ (h : Entry). h.maker) s.log
  where
    length_map : {A : Type 0} → (f : A → ℕ) (xs : List A) → length (map f xs) ≡ length xs
    length_map f [] = refl
    length_map f (x ∷ xs) = ap suc (length_map f xs)

-- an entry of another client moves nothing of this one's
pub logged_other : (past : List EventView) (s : State) (l : Ledger) → IsCounted past s l → (j c : ℕ) (h : Entry) → slice_get s.log j ≡ Some h → h.maker ≢ c → logged l.entries (suc j) c ≡ logged l.entries j c
logged_other past s l told j c h head other = go (slice_get l.entries j) refl
  where
    named : option_map (λ (m : Count). m.maker) (slice_get l.entries j) ≡ Some h.maker
    named = sym (slice_get-map (λ (m : Count). m.maker) l.entries j) ∙ ap (λ (xs : List ℕ). slice_get xs j) (sym told.makers) ∙ slice_get-map (λ (h : Entry). h.maker) s.log j ∙ ap (option_map (λ (h : Entry). h.maker)) head

    go : (o : Option Count) → slice_get l.entries j ≡ o → logged l.entries (suc j) c ≡ logged l.entries j c
    go None e = absurd (let n : None ≡ Some h.maker = ap (option_map (λ (m : Count). m.maker)) (sym e) ∙ named in cc)
    go (Some m) e =
        let n : m.maker ≡ h.maker = same_Some m.maker h.maker (ap (option_map (λ (m : Count). m.maker)) (sym e) ∙ named) in
        ap (counted c 0) (take_entry l.entries j m e) ∙ counted_push_other c 0 (take j l.entries) m (λ is. other (sym n ∙ is))

pub opening_counted : (clients present : ℕ) (text : List ℕ) → present ≤ clients → IsCounted [] (opening clients present text) (record { entries = []; made = replicate clients 0; buffered = replicate clients 0 })
opening_counted clients present text within =
    record {
      made_size = rw (length-replicate clients zero, length-append, length-replicate, length-replicate) (omega arith);
      buffered_size = rw (length-replicate clients zero, length-append, length-replicate, length-replicate) (omega arith);
      made = λ r. zeros clients r;
      makers = refl;
      rising = λ q i j le. let a = nothing q i in let b = nothing q j in omega arith;
      sent = λ q. omega arith;
      waits = each_opening (λ c z. IsBuffered z.phase (get_or (replicate clients 0) c 0)) clients present text (λ c. tt) (λ c. tt);
      idle = λ c x at off. zeros clients c;
    }
  where
    zeros : (n r : ℕ) → ◌≡◌ {A = ℕ} (get_or (replicate n 0) r 0) 0
    zeros zero r = refl
    zeros (suc n) zero = refl
    zeros (suc n) (suc r) = zeros n r

    nothing : (q i : ℕ) → logged [] i q ≡ 0
    nothing q i = ap (counted q 0) (take_all i [] (omega arith))

-- Edit
IsBuffered_edited : (phase : Phase) (op : Operation Tagged) (n : ℕ) → IsBuffered (phase_edited phase op) (in_buffer phase n)
IsBuffered_edited NotJoined op n = tt
IsBuffered_edited Synchronized op n = refl
IsBuffered_edited (AwaitingConfirm o) op n = tt
IsBuffered_edited (AwaitingWithBuffer o b) op n = tt

sent_edited : (phase : Phase) (m n k : ℕ) → IsBuffered phase n → k ≤ m - n → k ≤ suc m - in_buffer phase n
sent_edited NotJoined m n k waits le = omega arith
sent_edited Synchronized m n k waits le = omega arith
sent_edited (AwaitingConfirm o) m n k waits le = omega arith
sent_edited (AwaitingWithBuffer o b) m n k waits le = omega arith

abbrev pub ledger_edited : Ledger → ℕ → Client → Ledger
ledger_edited l c x = record { entries = l.entries; made = set l.made c (suc (made_by l c)); buffered = set l.buffered c (in_buffer x.phase (get_or l.buffered c 0)) }

pub made_edited : (past : List EventView) (s : State) (l : Ledger) (c : ℕ) (x : Client) → IsCounted past s l → slice_get s.clients c ≡ Some x
    → (made_by (ledger_edited l c x) c ≡ suc (made_by l c)) × ((r : ℕ) → r ≢ c → made_by (ledger_edited l c x) r ≡ made_by l r)
made_edited past s l c x told at =
    let inside = slice_get_within s.clients c x at in
    let size = told.made_size in
    let below : c < length l.made = omega arith in
    (get_or-set_same l.made c (suc (made_by l c)) 0 below, λ r other. get_or-set_other l.made c r (suc (made_by l c)) 0 other)

pub counted_edited : (past : List EventView) (s : State) (l : Ledger) (c : ℕ) (x : Client) (op : Operation Tagged) (e : EventView) → IsCounted past s l → slice_get s.clients c ≡ Some x → is_joined x.phase ≡ true → e.replica ≡ c → e.edit ≡ true
    → IsCounted (past ++ e ∷ []) (with_client s c (edited x op)) (ledger_edited l c x)
counted_edited past s l c x op e told at on mine is =
    let inside = slice_get_within s.clients c x at in
    let size = told.buffered_size in
    let n = get_or l.buffered c 0 in
    let below : c < length l.buffered = omega arith in
    let here : get_or (set l.buffered c (in_buffer x.phase n)) c 0 ≡ in_buffer x.phase n = get_or-set_same l.buffered c (in_buffer x.phase n) 0 below in
    let away : (q : ℕ) → q ≢ c → get_or (set l.buffered c (in_buffer x.phase n)) q 0 ≡ get_or l.buffered q 0 = λ q other. get_or-set_other l.buffered c q (in_buffer x.phase n) 0 other in
    let makes = made_edited past s l c x told at in
    record {
      made_size = sizes_both l.made s.clients c _ _ told.made_size;
      buffered_size = sizes_both l.buffered s.clients c _ _ told.buffered_size;
      made = λ r. elim (cases_eq r c) [
        | inl same ↦
            let one = ap (λ (k : ℕ). made_by (ledger_edited l c x) k) same ∙ makes.0 in
            let was = told.made c in
            let len = ap length (edits_push_own r past e (mine ∙ sym same) is) ∙ length_push (edits_of r past) e in
            let old = ap (λ (k : ℕ). length (edits_of k past)) same in
            omega arith
        | inr other ↦ makes.1 r other ∙ told.made r ∙ ap length (sym (edits_push_other r past e (inl (λ h. other (sym h ∙ mine)))))
      ];
      makers = told.makers;
      rising = told.rising;
      sent = λ q. elim (cases_eq q c) [
        | inl same ↦
            let le = sent_edited x.phase (made_by l c) n (counted c 0 l.entries) (told.waits c x at) (told.sent c) in
            let a = makes.0 in
            subst (λ (k : ℕ). counted k 0 l.entries ≤ sent_by (ledger_edited l c x) k) (sym same) (omega arith)
        | inr other ↦ let a = makes.1 q other in let b = away q other in let le = told.sent q in omega arith
      ];
      waits = each_after (λ d z. IsBuffered z.phase (get_or l.buffered d 0)) (λ d z. IsBuffered z.phase (get_or (set l.buffered c (in_buffer x.phase n)) d 0)) s.clients c x (edited x op) at told.waits
          (subst (λ (k : ℕ). IsBuffered (phase_edited x.phase op) k) (sym here) (IsBuffered_edited x.phase op n))
          (λ d z other h. subst (λ (k : ℕ). IsBuffered z.phase k) (sym (away d other)) h);
      idle = each_after (λ d z. IsIdle l d z) (λ d z. IsIdle (ledger_edited l c x) d z) s.clients c x (edited x op) at told.idle
          (λ off. let now = joined_edited x.phase op on in absurd (cc))
          (λ d z other h off. makes.1 d other ∙ h off);
    }

-- Deliver
IsBuffered_delivered : (phase : Phase) (h : Operation Tagged) (n : ℕ) → IsBuffered phase n → IsBuffered (phase_delivered phase h) n
IsBuffered_delivered NotJoined h n waits = tt
IsBuffered_delivered Synchronized h n waits = tt
IsBuffered_delivered (AwaitingConfirm o) h n waits = waits
IsBuffered_delivered (AwaitingWithBuffer o b) h n waits = tt

pub counted_delivered : (past : List EventView) (s : State) (l : Ledger) (c : ℕ) (x : Client) (h : Operation Tagged) → IsCounted past s l → slice_get s.clients c ≡ Some x → is_joined x.phase ≡ true → IsCounted past (with_client s c (delivered x h)) l
counted_delivered past s l c x h told at on =
    record {
      made_size = sizes_one l.made s.clients c _ told.made_size;
      buffered_size = sizes_one l.buffered s.clients c _ told.buffered_size;
      made = told.made;
      makers = told.makers;
      rising = told.rising;
      sent = told.sent;
      waits = each_after (λ d z. IsBuffered z.phase (get_or l.buffered d 0)) (λ d z. IsBuffered z.phase (get_or l.buffered d 0)) s.clients c x (delivered x h) at told.waits
          (IsBuffered_delivered x.phase h (get_or l.buffered c 0) (told.waits c x at)) (λ d z other w. w);
      idle = each_after (λ d z. IsIdle l d z) (λ d z. IsIdle l d z) s.clients c x (delivered x h) at told.idle (λ off. let now = joined_delivered x.phase h on in absurd (cc)) (λ d z other w. w);
    }

-- Join
pub counted_joined : (past : List EventView) (s : State) (l : Ledger) (c : ℕ) (x : Client) → IsCounted past s l → slice_get s.clients c ≡ Some x → IsCounted past (with_client s c (joined s x)) l
counted_joined past s l c x told at =
    record {
      made_size = sizes_one l.made s.clients c _ told.made_size;
      buffered_size = sizes_one l.buffered s.clients c _ told.buffered_size;
      made = told.made;
      makers = told.makers;
      rising = told.rising;
      sent = told.sent;
      waits = each_after (λ d z. IsBuffered z.phase (get_or l.buffered d 0)) (λ d z. IsBuffered z.phase (get_or l.buffered d 0)) s.clients c x (joined s x) at told.waits tt (λ d z other w. w);
      idle = each_after (λ d z. IsIdle l d z) (λ d z. IsIdle l d z) s.clients c x (joined s x) at told.idle (λ off. absurd (cc)) (λ d z other w. w);
    }

-- Acknowledge
abbrev pub ledger_acknowledged : Ledger → ℕ → Ledger
ledger_acknowledged l c = record { entries = l.entries; made = l.made; buffered = set l.buffered c 0 }

IsBuffered_acknowledged : (x y : Client) (phase : Phase) → acknowledged x phase ≡ Some y → IsBuffered y.phase 0
IsBuffered_acknowledged x y NotJoined e = absurd (cc)
IsBuffered_acknowledged x y Synchronized e = absurd (cc)
IsBuffered_acknowledged x y (AwaitingConfirm o) e = subst (λ (z : Client). IsBuffered z.phase 0) (same_Some _ y e) tt
IsBuffered_acknowledged x y (AwaitingWithBuffer o b) e = subst (λ (z : Client). IsBuffered z.phase 0) (same_Some _ y e) refl

pub counted_acknowledged : (past : List EventView) (s : State) (l : Ledger) (c : ℕ) (x y : Client) → IsCounted past s l → slice_get s.clients c ≡ Some x → acknowledged x x.phase ≡ Some y → is_joined y.phase ≡ true → IsCounted past (with_client s c y) (ledger_acknowledged l c)
counted_acknowledged past s l c x y told at is on =
    let inside = slice_get_within s.clients c x at in
    let size = told.buffered_size in
    let below : c < length l.buffered = omega arith in
    let here : ◌≡◌ {A = ℕ} (get_or (set l.buffered c 0) c 0) 0 = get_or-set_same l.buffered c 0 0 below in
    let away : (q : ℕ) → q ≢ c → get_or (set l.buffered c 0) q 0 ≡ get_or l.buffered q 0 = λ q other. get_or-set_other l.buffered c q 0 0 other in
    record {
      made_size = sizes_one l.made s.clients c _ told.made_size;
      buffered_size = sizes_both l.buffered s.clients c _ _ told.buffered_size;
      made = told.made;
      makers = told.makers;
      rising = told.rising;
      sent = λ q. elim (cases_eq q c) [
        | inl same ↦ let le = told.sent c in subst (λ (k : ℕ). counted k 0 l.entries ≤ sent_by (ledger_acknowledged l c) k) (sym same) (omega arith)
        | inr other ↦ let b = away q other in let le = told.sent q in omega arith
      ];
      waits = each_after (λ d z. IsBuffered z.phase (get_or l.buffered d 0)) (λ d z. IsBuffered z.phase (get_or (set l.buffered c 0) d 0)) s.clients c x y at told.waits
          (subst (λ (k : ℕ). IsBuffered y.phase k) (sym here) (IsBuffered_acknowledged x y x.phase is))
          (λ d z other h. subst (λ (k : ℕ). IsBuffered z.phase k) (sym (away d other)) h);
      idle = each_after (λ d z. IsIdle l d z) (λ d z. IsIdle (ledger_acknowledged l c) d z) s.clients c x y at told.idle (λ off. absurd (cc)) (λ d z other h. h);
    }

-- Take
abbrev pub ledger_taken : Ledger → ℕ → Ledger
ledger_taken l c = record { entries = l.entries ++ record { maker = c; edits = sent_by l c } ∷ []; made = l.made; buffered = l.buffered }

pub counted_more : (past : List EventView) (s : State) (l : Ledger) (c q : ℕ) → IsCounted past s l → counted q 0 l.entries ≤ counted q 0 (ledger_taken l c).entries
counted_more past s l c q told = elim (cases_eq c q) [
  | inl own ↦ let e = counted_push_own q 0 l.entries (record { maker = c; edits = sent_by l c }) own in let le = told.sent c in let f = ap (λ (k : ℕ). counted k 0 l.entries) own in omega arith
  | inr other ↦ let e = counted_push_other q 0 l.entries (record { maker = c; edits = sent_by l c }) other in omega arith
]

pub counted_taken : (past : List EventView) (s : State) (l : Ledger) (c : ℕ) (x : Client) (m : Operation Tagged) → IsCounted past s l → slice_get s.clients c ≡ Some x → is_joined x.phase ≡ true → IsCounted past (taken s c x m) (ledger_taken l c)
counted_taken past s l c x m told at on =
    let n : Count = record { maker = c; edits = sent_by l c } in
    record {
      made_size = sizes_one l.made s.clients c _ told.made_size;
      buffered_size = sizes_one l.buffered s.clients c _ told.buffered_size;
      made = told.made;
      makers = map-append (λ (h : Entry). h.maker) s.log (record { maker = c; op = m } ∷ []) ∙ ap (λ (xs : List ℕ). xs ++ c ∷ []) told.makers ∙ sym (map-append (λ (k : Count). k.maker) l.entries (n ∷ []));
      rising = λ q i j le. elim (cases_lt (length l.entries) j) [
        | inl beyond ↦
            let long : length (l.entries ++ n ∷ []) ≡ length l.entries + 1 = length_push l.entries n in
            let whole = logged_high (l.entries ++ n ∷ []) j q (omega arith) in
            elim (cases_lt (length l.entries) i) [
              | inl far ↦ let same = logged_high (l.entries ++ n ∷ []) i q (omega arith) in omega arith
              | inr near ↦
                  let low = logged_low l.entries n i q near in
                  let most = logged_most past s l told i q in
                  let more = counted_more past s l c q told in
                  omega arith
            ]
        | inr inside ↦
            let a = logged_low l.entries n i q (omega arith) in
            let b = logged_low l.entries n j q inside in
            let r = told.rising q i j le in
            omega arith
      ];
      sent = λ q. elim (cases_eq c q) [
        | inl own ↦ let e = counted_push_own q 0 l.entries n own in let f = ap (λ (k : ℕ). sent_by l k) own in omega arith
        | inr other ↦ let e = counted_push_other q 0 l.entries n other in let le = told.sent q in omega arith
      ];
      waits = each_after (λ d z. IsBuffered z.phase (get_or l.buffered d 0)) (λ d z. IsBuffered z.phase (get_or l.buffered d 0)) s.clients c x _ at told.waits (told.waits c x at) (λ d z other h. h);
      idle = each_after (λ d z. IsIdle l d z) (λ d z. IsIdle (ledger_taken l c) d z) s.clients c x _ at told.idle (λ off. absurd (cc)) (λ d z other h. h);
    }

-- reads
pub counted_read : (past : List EventView) (s t : State) (l : Ledger) (e : EventView) → IsCounted past s l → t.clients ≡ s.clients → t.log ≡ s.log → e.edit ≡ false → IsCounted (past ++ e ∷ []) t l
counted_read past s t l e told clients log is =
    record {
      made_size = told.made_size ∙ ap length (sym clients);
      buffered_size = told.buffered_size ∙ ap length (sym clients);
      made = λ r. told.made r ∙ ap length (sym (edits_push_other r past e (inr is)));
      makers = ap (map (λ (h : Entry). h.maker)) log ∙ told.makers;
      rising = told.rising;
      sent = told.sent;
      waits = λ c x at. told.waits c x (ap (λ (xs : List Client). slice_get xs c) (sym clients) ∙ at);
      idle = λ c x at. told.idle c x (ap (λ (xs : List Client). slice_get xs c) (sym clients) ∙ at);
    }
