-- What an instruction does to the counts of a trace, and to where the edits lie.
use Rattle.std.proofs.Common.{◌≡◌, ℕ, zero, suc, ◌+◌, ◌-◌, ◌<◌, ◌≤◌, ◌≢◌, List, [], ◌∷◌, ◌++◌, length, take, drop, set, get_or, refl, sym, ap, ◌∙◌, subst, arith, inl, inr, Option, Some, None, true, false, ◌==◌}
use Rattle.std.specs.Prelude.{◌⊎◌, ◌↔◌, slice_get, cond}
use Rattle.std.proofs.lemmas.List.{length_push, get_or-set_same, get_or-set_other, get_or_past}
use Rattle.std.proofs.lemmas.Bool.{cases_eq, cases_lt, eq-eqb, ne_eqb}
use Rattle.std.proofs.lemmas.Option.{slice_get_within, slice_get-get_or, get_or_from_slice_get, same_Some}
use Rattle.ot_isa.specs.declared.elements.Tagged.{Tagged}
use Rattle.ot_isa.specs.declared.instruction.Instr.{Instr}
use Rattle.ot_isa.specs.declared.instruction.Instr.TheVariants.{Edit, Take, Deliver, Acknowledge, Join, Read, ReadServer}
use Rattle.ot_model.specs.Operation.{Operation}
use Rattle.ot_model.specs.Table.{Phase, NotJoined, Synchronized, AwaitingConfirm, AwaitingWithBuffer, is_joined, Client, absent, State, Entry, Message, Outcome, Performed, Refused, NoRow, step, with_client, edited, phase_edited, message_edited, tag_operation, delivered, phase_delivered, acknowledged, joined, taken}
use Rattle.ot_server.specs.History.{transform_over}
use Rattle.ot_model.specs.Sound.{NoneBy, IsSent, IsPhaseSound, IsSoundFrom}
use Rattle.ot_model.specs.Trace.{EventView}
use Rattle.ot_model.specs.Events.{Count, Ledger, counted, ledger_after, actor, in_buffer}
use Rattle.ot_model.specs.Lying.{Holder, Outstanding, Buffer, LogEntry, GoesInto, Enters, Passes, is_edit_by, in_entries, sent, IsCountedIn}
use Rattle.ot_model.proofs.Algebra.{laws}
use Rattle.ot_model.proofs.Knowledge.{logged, IsCounted}
use Rattle.ot_model.proofs.States.{each_after, drop_entry, acknowledged_kept}
use Rattle.ot_model.proofs.Outcomes.{by_edit, by_take, by_deliver, by_acknowledge, by_join, by_read, by_read_server}
use Rattle.ot_model.proofs.Counting.{counted_push_own, counted_push_other, logged_low, logged_high, logged_most, entries_size, logged_other, ledger_edited, made_edited, ledger_acknowledged, ledger_taken}
use Rattle.ot_model.proofs.Running.{acknowledged_keeps}

-- ---- what else the ledger keeps

abbrev pub IsUnbuffered : Phase → ℕ → Type 0
IsUnbuffered NotJoined n = n ≡ 0
IsUnbuffered Synchronized n = n ≡ 0
IsUnbuffered (AwaitingConfirm o) n = n ≡ 0
IsUnbuffered (AwaitingWithBuffer o b) n = Unit {0}

-- with no message under way, all that does not wait in the buffer is in the log
pub record IsSettled (l : Ledger) (c : ℕ) (x : Client) : Type 0 where
  pub unbuffered : IsUnbuffered x.phase (get_or l.buffered c 0)
  pub all_logged : x.message ≡ None → counted c 0 l.entries ≡ sent l c

-- where what lies in this after the instruction comes from
abbrev pub Comes : ℕ → ℕ → Instr → State → Ledger → Holder → Type 0
Comes d k i s l h = (Enters d i s h × (get_or l.made d 0 ≡ k)) ⊎ ((g : Holder) × IsCountedIn s l d k g × Passes i s g h)

-- the counts after the instruction are those of what lies where
pub record IsCarried (s : State) (l : Ledger) (i : Instr) (t : State) (m : Ledger) : Type 0 where
  pub made : (d : ℕ) → get_or m.made d 0 ≡ get_or l.made d 0 + cond (is_edit_by d i) 1 0
  pub settled : (c : ℕ) (x : Client) → slice_get t.clients c ≡ Some x → IsSettled m c x
  pub next : (d k : ℕ) (h : Holder) → IsCountedIn t m d k h ↔ Comes d k i s l h

-- ---- holders

abbrev number_of : Holder → ℕ
number_of (Outstanding c) = c
number_of (Buffer c) = c
number_of (LogEntry j) = j

enters_no_entry : (c j : ℕ) (phase : Phase) → GoesInto c phase (LogEntry j) → ⊥
enters_no_entry c j NotJoined g = g
enters_no_entry c j Synchronized g = absurd cc
enters_no_entry c j (AwaitingConfirm o) g = absurd cc
enters_no_entry c j (AwaitingWithBuffer o b) g = absurd cc

enters_own : (c : ℕ) (phase : Phase) (h : Holder) → GoesInto c phase h → number_of h ≡ c
enters_own c NotJoined h g = absurd g
enters_own c Synchronized h g = ap number_of g
enters_own c (AwaitingConfirm o) h g = ap number_of g
enters_own c (AwaitingWithBuffer o b) h g = ap number_of g

-- a client after a write
revision_set : (xs : List Client) (c d : ℕ) (y : Client) → c < length xs → y.revision ≡ (get_or xs c absent).revision → (get_or (set xs c y) d absent).revision ≡ (get_or xs d absent).revision
revision_set xs c d y below same = elim (cases_eq d c) [
  | inl here ↦ rw here (ap (λ (z : Client). z.revision) (get_or-set_same xs c y absent below) ∙ same)
  | inr other ↦ ap (λ (z : Client). z.revision) (get_or-set_other xs c d y absent other)
]

-- ---- numbers

-- what is in the outstanding operation after an edit: of m edits so far b wait, and the log has r of them at the client's revision
edit_out : (c : ℕ) (phase : Phase) (m b r k : ℕ) → is_joined phase ≡ true → IsUnbuffered phase b → (phase ≡ Synchronized → r ≡ m)
    → ((r ≤ k) × (k < suc m - in_buffer phase b)) ↔ ((GoesInto c phase (Outstanding c) × (m ≡ k)) ⊎ ((r ≤ k) × (k < m - b)))
edit_out c NotJoined m b r k on none idle = absurd cc
edit_out c Synchronized m b r k on none idle =
    let all = idle refl in
    (λ q. inl (refl, let lo = q.0 in let hi = q.1 in omega (arith, lo, hi, all)), λ q. elim q [ inl one ↦ (let e = one.1 in omega arith, let e = one.1 in omega arith) | inr was ↦ absurd (let lo = was.0 in let hi = was.1 in omega arith) ])
edit_out c (AwaitingConfirm o) m b r k on none idle =
    (λ q. inr (q.0, let hi = q.1 in omega arith), λ q. elim q [ inl one ↦ absurd (let e = one.0 in cc) | inr was ↦ (was.0, let hi = was.1 in omega arith) ])
edit_out c (AwaitingWithBuffer o p) m b r k on none idle =
    (λ q. inr (q.0, let hi = q.1 in omega arith), λ q. elim q [ inl one ↦ absurd (let e = one.0 in cc) | inr was ↦ (was.0, let hi = was.1 in omega arith) ])

-- and in the buffer
edit_in : (c : ℕ) (phase : Phase) (m b k : ℕ) → is_joined phase ≡ true → IsUnbuffered phase b
    → ((suc m - in_buffer phase b ≤ k) × (k < suc m)) ↔ ((GoesInto c phase (Buffer c) × (m ≡ k)) ⊎ ((m - b ≤ k) × (k < m)))
edit_in c NotJoined m b k on none = absurd cc
edit_in c Synchronized m b k on none =
    (λ q. absurd (let lo = q.0 in let hi = q.1 in omega arith), λ q. elim q [ inl one ↦ absurd (let e = one.0 in cc) | inr was ↦ absurd (let lo = was.0 in let hi = was.1 in omega arith) ])
edit_in c (AwaitingConfirm o) m b k on none =
    (λ q. inl (refl, let lo = q.0 in let hi = q.1 in omega arith), λ q. elim q [ inl one ↦ (let e = one.1 in omega arith, let e = one.1 in omega arith) | inr was ↦ absurd (let lo = was.0 in let hi = was.1 in omega arith) ])
edit_in c (AwaitingWithBuffer o p) m b k on none = (
  λ q. elim (cases_lt k m) [ inl below ↦ inr (let lo = q.0 in omega arith, below) | inr far ↦ inl (refl, let hi = q.1 in omega arith) ],
  λ q. elim q [ inl one ↦ (let e = one.1 in omega arith, let e = one.1 in omega arith) | inr was ↦ (let lo = was.0 in omega arith, let hi = was.1 in omega arith) ],
)

-- the entry of the log in which edit k is, where the first r have more than k
pub entry_of : (f : ℕ → ℕ) (k : ℕ) → f 0 ≡ 0 → (r : ℕ) → k < f r → (j : ℕ) × (j < r) × (f j ≤ k) × (k < f (suc j))
entry_of f k none zero below = absurd (omega arith)
entry_of f k none (suc r) below = elim (cases_lt k (f r)) [
  | inl before ↦ let found = entry_of f k none r before in (found.0, let lt = found.1 in omega arith, found.2, found.3)
  | inr here ↦ (r, omega arith, here, below)
]

-- ---- what a sound state says of a client's entries

synced : (c : ℕ) (phase : Phase) (start : List Tagged) (seen ahead : List Entry) (list : List Tagged) (message : Option Message) → phase ≡ Synchronized → IsPhaseSound c phase start seen ahead list message → NoneBy c ahead × (message ≡ None)
synced c NotJoined start seen ahead list message e sound = absurd cc
synced c Synchronized start seen ahead list message e sound = (sound.none, sound.message_is)
synced c (AwaitingConfirm o) start seen ahead list message e sound = absurd cc
synced c (AwaitingWithBuffer o b) start seen ahead list message e sound = absurd cc

under_way : (c : ℕ) (phase : Phase) (start : List Tagged) (seen ahead : List Entry) (list : List Tagged) (message : Option Message) (m : Message) → message ≡ Some m → is_joined phase ≡ true
    → IsPhaseSound c phase start seen ahead list message → NoneBy c ahead
under_way c NotJoined start seen ahead list message m e on sound = absurd cc
under_way c Synchronized start seen ahead list message m e on sound = sound.none
under_way c (AwaitingConfirm o) start seen ahead list None m e on sound = absurd cc
under_way c (AwaitingConfirm o) start seen ahead list (Some n) m e on sound = sound.sent.none
under_way c (AwaitingWithBuffer o b) start seen ahead list None m e on sound = absurd cc
under_way c (AwaitingWithBuffer o b) start seen ahead list (Some n) m e on sound = sound.sent.none

sent_landed : (c : ℕ) (o : Operation Tagged) (start : List Tagged) (seen rest : List Entry) (h : Entry) (message : Option Message) → h.maker ≡ c → IsSent c o start seen (h ∷ rest) message → NoneBy c rest × (message ≡ None)
sent_landed c o start seen rest h None own (inl here) = (here.2, refl)
sent_landed c o start seen rest h None own (inr there) = absurd (there.0 own)
sent_landed c o start seen rest h (Some m) own way = absurd (way.none.0 own)

landed : (c : ℕ) (phase : Phase) (start : List Tagged) (seen rest : List Entry) (h : Entry) (list : List Tagged) (message : Option Message) → h.maker ≡ c → is_joined phase ≡ true
    → IsPhaseSound c phase start seen (h ∷ rest) list message → NoneBy c rest × (message ≡ None)
landed c NotJoined start seen rest h list message own on sound = absurd cc
landed c Synchronized start seen rest h list message own on sound = absurd (sound.none.0 own)
landed c (AwaitingConfirm o) start seen rest h list message own on sound = sent_landed c o start seen rest h message own sound.sent
landed c (AwaitingWithBuffer o b) start seen rest h list message own on sound = sent_landed c o start seen rest h message own sound.sent

module _ (past : List EventView) (s : State) (l : Ledger) (told : IsCounted past s l) where
  -- from j on no entry is c's
  none_logged : (c n j : ℕ) → n + j ≡ length s.log → NoneBy c (drop j s.log) → logged l.entries j c ≡ counted c 0 l.entries
  none_logged c zero j size none = logged_high l.entries j c (let e = entries_size past s l told in omega arith)
  none_logged c (suc n) j size none =
      let d : Entry = record { maker = c; op = record { base = 0; image = [] } } in
      let below : j < length s.log = omega arith in
      let at = slice_get-get_or s.log j d below in
      let parts : NoneBy c (get_or s.log j d ∷ drop (suc j) s.log) = subst (NoneBy c) (drop_entry s.log j (get_or s.log j d) at) none in
      sym (logged_other past s l told j c (get_or s.log j d) at parts.0) ∙ none_logged c n (suc j) (omega arith) parts.1

  ahead_logged : (c j : ℕ) → j ≤ length s.log → NoneBy c (drop j s.log) → logged l.entries j c ≡ counted c 0 l.entries
  ahead_logged c j le none = none_logged c (length s.log - j) j (omega arith) none

-- ---- each instruction

module _ (start : List Tagged) (text : List ℕ) (past : List EventView) (s : State) (l : Ledger) (sound : IsSoundFrom start text s) (told : IsCounted past s l) (kept : (c : ℕ) (x : Client) → slice_get s.clients c ≡ Some x → IsSettled l c x) where
  -- what changes no count and no revision by which they are read
  same_counts : (t : State) (i : Instr) → ((d : ℕ) (h : Holder) → Enters d i s h → ⊥) → ((g h : Holder) → Passes i s g h ↔ (g ≡ h))
      → ((c : ℕ) → in_entries l (get_or t.clients c absent).revision c ≡ in_entries l (get_or s.clients c absent).revision c)
      → (d k : ℕ) (h : Holder) → IsCountedIn t l d k h ↔ Comes d k i s l h
  same_counts t i enters passes same d k h = (λ q. inr (h, (as_before h).0 q, (passes h h).1 refl), λ q. back q)
    where
      as_before : (g : Holder) → IsCountedIn t l d k g ↔ IsCountedIn s l d k g
      as_before (Outstanding c) = let e = same c in (λ q. (q.0, let lo = q.1 in omega arith, q.2), λ q. (q.0, let lo = q.1 in omega arith, q.2))
      as_before (Buffer c) = (λ q. q, λ q. q)
      as_before (LogEntry j) = (λ q. q, λ q. q)

      back : Comes d k i s l h → IsCountedIn t l d k h
      back (inl new) = absurd (enters d h new.0)
      back (inr old) = (as_before h).1 (subst (λ (g : Holder). IsCountedIn s l d k g) ((passes old.0 h).0 old.2) old.1)

  no_more : (d : ℕ) → get_or l.made d 0 ≡ get_or l.made d 0 + 0
  no_more d = omega arith

  -- a read
  read_carried : (i : Instr) (t : State) → t.clients ≡ s.clients → ((d : ℕ) → is_edit_by d i ≡ false) → ((d : ℕ) (h : Holder) → Enters d i s h → ⊥) → ((g h : Holder) → Passes i s g h ↔ (g ≡ h)) → IsCarried s l i t l
  read_carried i t clients none enters passes =
      record {
        made = λ d. rw (none d) (no_more d);
        settled = λ c x at. kept c x (ap (λ (xs : List Client). slice_get xs c) (sym clients) ∙ at);
        next = same_counts t i enters passes (λ c. ap (λ (xs : List Client). in_entries l (get_or xs c absent).revision c) clients);
      }

  -- Deliver
  unbuffered_delivered : (phase : Phase) (h : Operation Tagged) (n : ℕ) → IsUnbuffered phase n → IsUnbuffered (phase_delivered phase h) n
  unbuffered_delivered NotJoined h n none = none
  unbuffered_delivered Synchronized h n none = none
  unbuffered_delivered (AwaitingConfirm o) h n none = none
  unbuffered_delivered (AwaitingWithBuffer o b) h n none = tt

  deliver_carried : (c : ℕ) (x : Client) (h : Entry) → slice_get s.clients c ≡ Some x → slice_get s.log x.revision ≡ Some h → h.maker ≢ c → IsCarried s l (Deliver c) (with_client s c (delivered x h.op)) l
  deliver_carried c x h at head other =
      record {
        made = no_more;
        settled = each_after (λ d z. IsSettled l d z) (λ d z. IsSettled l d z) s.clients c x (delivered x h.op) at kept
            (let was = kept c x at in record { unbuffered = unbuffered_delivered x.phase h.op (get_or l.buffered c 0) was.unbuffered; all_logged = was.all_logged })
            (λ d z away was. was);
        next = same_counts (with_client s c (delivered x h.op)) (Deliver c) (λ d g e. e) (λ g k. (λ e. e, λ e. e)) revisions;
      }
    where
      revisions : (d : ℕ) → in_entries l (get_or (set s.clients c (delivered x h.op)) d absent).revision d ≡ in_entries l (get_or s.clients d absent).revision d
      revisions d = elim (cases_eq d c) [
        | inl here ↦
            rw here (ap (λ (z : Client). in_entries l z.revision c) (get_or-set_same s.clients c (delivered x h.op) absent (slice_get_within s.clients c x at))
            ∙ logged_other past s l told x.revision c h head other
            ∙ ap (λ (z : Client). in_entries l z.revision c) (sym (get_or_from_slice_get s.clients c x absent at)))
        | inr away ↦ ap (λ (z : Client). in_entries l z.revision d) (get_or-set_other s.clients c d (delivered x h.op) absent away)
      ]

  -- Join
  join_carried : (c : ℕ) (x : Client) → slice_get s.clients c ≡ Some x → is_joined x.phase ≡ false → IsCarried s l (Join c) (with_client s c (joined s x)) l
  join_carried c x at off =
      record {
        made = no_more;
        settled = each_after (λ d z. IsSettled l d z) (λ d z. IsSettled l d z) s.clients c x (joined s x) at kept
            (let was = kept c x at in record { unbuffered = idle x.phase off was.unbuffered; all_logged = was.all_logged })
            (λ d z away was. was);
        next = same_counts (with_client s c (joined s x)) (Join c) (λ d g e. e) (λ g k. (λ e. e, λ e. e)) revisions;
      }
    where
      idle : (phase : Phase) → is_joined phase ≡ false → IsUnbuffered phase (get_or l.buffered c 0) → get_or l.buffered c 0 ≡ 0
      idle NotJoined e none = none
      idle Synchronized e none = absurd cc
      idle (AwaitingConfirm o) e none = absurd cc
      idle (AwaitingWithBuffer o b) e none = absurd cc

      nothing : (j : ℕ) → in_entries l j c ≡ 0
      nothing j = let most = logged_most past s l told j c in let few = told.sent c in let none = told.idle c x at off in omega arith

      revisions : (d : ℕ) → in_entries l (get_or (set s.clients c (joined s x)) d absent).revision d ≡ in_entries l (get_or s.clients d absent).revision d
      revisions d = elim (cases_eq d c) [
        | inl here ↦ rw here (nothing _ ∙ sym (nothing _))
        | inr away ↦ ap (λ (z : Client). in_entries l z.revision d) (get_or-set_other s.clients c d (joined s x) absent away)
      ]

  -- Edit, of a client as the state has it
  edit_carried : (c : ℕ) (op : Operation ℕ) (done : Operation Tagged) → slice_get s.clients c ≡ Some (get_or s.clients c absent) → is_joined (get_or s.clients c absent).phase ≡ true
      → IsCarried s l (Edit c op) (with_client s c (edited (get_or s.clients c absent) done)) (ledger_edited l c (get_or s.clients c absent))
  edit_carried c op done at on =
      record {
        made = makes;
        settled = each_after (λ d w. IsSettled l d w) (λ d w. IsSettled m d w) s.clients c z y at kept
            (let was = kept c z at in record { unbuffered = subst (IsUnbuffered (phase_edited z.phase done)) (sym waits_here) (unbuffered_edited z.phase on); all_logged = λ none. all_logged z.phase on was.unbuffered was.all_logged none ∙ sym sent_here })
            (λ d w away was. record { unbuffered = subst (IsUnbuffered w.phase) (sym (waits_away d away)) was.unbuffered; all_logged = λ none. was.all_logged none ∙ sym (sent_away d away) });
        next = next;
      }
    where
      z : Client
      z = get_or s.clients c absent

      y : Client
      y = edited z done

      m : Ledger
      m = ledger_edited l c z

      b : ℕ
      b = get_or l.buffered c 0

      inside : c < length s.clients
      inside = slice_get_within s.clients c z at

      made_here : get_or m.made c 0 ≡ suc (get_or l.made c 0)
      made_here = (made_edited past s l c z told at).0

      made_away : (d : ℕ) → d ≢ c → get_or m.made d 0 ≡ get_or l.made d 0
      made_away = (made_edited past s l c z told at).1

      waits_here : get_or m.buffered c 0 ≡ in_buffer z.phase b
      waits_here = let size = told.buffered_size in get_or-set_same l.buffered c (in_buffer z.phase b) 0 (let i = inside in omega arith)

      waits_away : (d : ℕ) → d ≢ c → get_or m.buffered d 0 ≡ get_or l.buffered d 0
      waits_away d away = get_or-set_other l.buffered c d (in_buffer z.phase b) 0 away

      sent_here : sent m c ≡ suc (get_or l.made c 0) - in_buffer z.phase b
      sent_here = let e = made_here in let f = waits_here in omega arith

      sent_away : (d : ℕ) → d ≢ c → sent m d ≡ sent l d
      sent_away d away = let e = made_away d away in let f = waits_away d away in omega arith

      makes : (d : ℕ) → get_or m.made d 0 ≡ get_or l.made d 0 + cond (c == d) 1 0
      makes d = elim (cases_eq d c) [
        | inl here ↦ let e = made_here in let f : cond {A = ℕ} (c == d) 1 0 ≡ 1 = rw (eq-eqb c d (sym here)) refl in let g = ap (λ (k : ℕ). get_or m.made k 0) here in let i = ap (λ (k : ℕ). get_or l.made k 0) here in omega arith
        | inr away ↦ let e = made_away d away in let f : cond {A = ℕ} (c == d) 1 0 ≡ 0 = rw (ne_eqb c d (λ is. away (sym is))) refl in omega arith
      ]

      unbuffered_edited : (phase : Phase) → is_joined phase ≡ true → IsUnbuffered (phase_edited phase done) (in_buffer phase b)
      unbuffered_edited NotJoined on = absurd cc
      unbuffered_edited Synchronized on = refl
      unbuffered_edited (AwaitingConfirm o) on = tt
      unbuffered_edited (AwaitingWithBuffer o p) on = tt

      all_logged : (phase : Phase) → is_joined phase ≡ true → IsUnbuffered phase b → (z.message ≡ None → counted c 0 l.entries ≡ sent l c) → message_edited phase z done ≡ None → counted c 0 l.entries ≡ suc (get_or l.made c 0) - in_buffer phase b
      all_logged NotJoined on none was is = absurd cc
      all_logged Synchronized on none was is = absurd cc
      all_logged (AwaitingConfirm o) on none was is = let e = was is in omega arith
      all_logged (AwaitingWithBuffer o p) on none was is = let e = was is in omega arith

      -- a synchronized client's edits are all in the log, at its revision
      idle : z.phase ≡ Synchronized → in_entries l z.revision c ≡ get_or l.made c 0
      idle is =
          let facts = synced c z.phase start (take z.revision s.log) (drop z.revision s.log) z.list z.message is (sound.clients c z at) in
          let all = ahead_logged past s l told c z.revision (sound.seen c z at) facts.0 in
          let was = kept c z at in
          let logged_is = was.all_logged facts.1 in
          let none : b ≡ 0 = subst (λ (phase : Phase). IsUnbuffered phase b) is was.unbuffered in
          omega arith

      revision : (d : ℕ) → (get_or (set s.clients c y) d absent).revision ≡ (get_or s.clients d absent).revision
      revision d = revision_set s.clients c d y inside refl

      edit_outstanding : (d k : ℕ) → IsCountedIn (with_client s c y) m d k (Outstanding c) ↔ Comes d k (Edit c op) s l (Outstanding c)
      edit_outstanding d k =
          let numbers = edit_out c z.phase (get_or l.made c 0) b (in_entries l z.revision c) k on (kept c z at).unbuffered idle in
          let r = ap (λ (j : ℕ). in_entries l j c) (revision c) in
          let f = sent_here in (
            λ q. elim (numbers.0 ((let lo = q.1 in omega arith), (let hi = q.2 in omega arith))) [
              | inl new ↦ inl ((q.0, new.0), ap (λ (w : ℕ). get_or l.made w 0) q.0 ∙ new.1)
              | inr old ↦ inr (Outstanding c, (q.0, old.0, old.1), refl)
            ],
            λ q. elim q [
              | inl new ↦
                  let found = numbers.1 (inl (new.0.1, ap (λ (w : ℕ). get_or l.made w 0) (sym new.0.0) ∙ new.1)) in
                  (new.0.0, (let lo = found.0 in omega arith), (let hi = found.1 in omega arith))
              | inr old ↦
                  let was : IsCountedIn s l d k (Outstanding c) = subst (λ (g : Holder). IsCountedIn s l d k g) old.2 old.1 in
                  let found = numbers.1 (inr (was.1, was.2)) in
                  (was.0, (let lo = found.0 in omega arith), (let hi = found.1 in omega arith))
            ],
          )

      edit_buffer : (d k : ℕ) → IsCountedIn (with_client s c y) m d k (Buffer c) ↔ Comes d k (Edit c op) s l (Buffer c)
      edit_buffer d k =
          let numbers = edit_in c z.phase (get_or l.made c 0) b k on (kept c z at).unbuffered in
          let f = sent_here in
          let g = made_here in (
            λ q. elim (numbers.0 ((let lo = q.1 in omega arith), (let hi = q.2 in omega arith))) [
              | inl new ↦ inl ((q.0, new.0), ap (λ (w : ℕ). get_or l.made w 0) q.0 ∙ new.1)
              | inr old ↦ inr (Buffer c, (q.0, old.0, old.1), refl)
            ],
            λ q. elim q [
              | inl new ↦
                  let found = numbers.1 (inl (new.0.1, ap (λ (w : ℕ). get_or l.made w 0) (sym new.0.0) ∙ new.1)) in
                  (new.0.0, (let lo = found.0 in omega arith), (let hi = found.1 in omega arith))
              | inr old ↦
                  let was : IsCountedIn s l d k (Buffer c) = subst (λ (g : Holder). IsCountedIn s l d k g) old.2 old.1 in
                  let found = numbers.1 (inr (was.1, was.2)) in
                  (was.0, (let lo = found.0 in omega arith), (let hi = found.1 in omega arith))
            ],
          )

      next : (d k : ℕ) (h : Holder) → IsCountedIn (with_client s c y) m d k h ↔ Comes d k (Edit c op) s l h
      next d k (LogEntry j) = (
        λ q. inr (LogEntry j, q, refl),
        λ q. elim q [
          | inl new ↦ absurd (enters_no_entry c j z.phase new.0.1)
          | inr old ↦ subst (λ (g : Holder). IsCountedIn s l d k g) old.2 old.1
        ],
      )
      next d k (Outstanding e) = elim (cases_eq e c) [
        | inl here ↦ subst (λ (w : ℕ). IsCountedIn (with_client s c y) m d k (Outstanding w) ↔ Comes d k (Edit c op) s l (Outstanding w)) (sym here) (edit_outstanding d k)
        | inr away ↦ (
          λ q. inr (Outstanding e, (q.0, (let lo = q.1 in let r = ap (λ (j : ℕ). in_entries l j e) (revision e) in omega arith), (let hi = q.2 in let f = sent_away e away in omega arith)), refl),
          λ q. elim q [
            | inl new ↦ absurd (away (enters_own c z.phase (Outstanding e) new.0.1))
            | inr old ↦
                let was : IsCountedIn s l d k (Outstanding e) = subst (λ (g : Holder). IsCountedIn s l d k g) old.2 old.1 in
                (was.0, (let lo = was.1 in let r = ap (λ (j : ℕ). in_entries l j e) (revision e) in omega arith), (let hi = was.2 in let f = sent_away e away in omega arith))
          ],
        )
      ]
      next d k (Buffer e) = elim (cases_eq e c) [
        | inl here ↦ subst (λ (w : ℕ). IsCountedIn (with_client s c y) m d k (Buffer w) ↔ Comes d k (Edit c op) s l (Buffer w)) (sym here) (edit_buffer d k)
        | inr away ↦ (
          λ q. inr (Buffer e, (q.0, (let lo = q.1 in let f = sent_away e away in omega arith), (let hi = q.2 in let f = made_away e away in omega arith)), refl),
          λ q. elim q [
            | inl new ↦ absurd (away (enters_own c z.phase (Buffer e) new.0.1))
            | inr old ↦
                let was : IsCountedIn s l d k (Buffer e) = subst (λ (g : Holder). IsCountedIn s l d k g) old.2 old.1 in
                (was.0, (let lo = was.1 in let f = sent_away e away in omega arith), (let hi = was.2 in let f = made_away e away in omega arith))
          ],
        )
      ]

  -- Take
  take_carried : (c : ℕ) (way : Message) (op : Operation Tagged) → slice_get s.clients c ≡ Some (get_or s.clients c absent) → is_joined (get_or s.clients c absent).phase ≡ true → (get_or s.clients c absent).message ≡ Some way
      → IsCarried s l (Take c) (taken s c (get_or s.clients c absent) op) (ledger_taken l c)
  take_carried c way op at on is =
      record {
        made = no_more;
        settled = each_after (λ d w. IsSettled l d w) (λ d w. IsSettled m d w) s.clients c z y at kept
            (let was = kept c z at in record { unbuffered = was.unbuffered; all_logged = λ none. counted_push_own c 0 l.entries last refl })
            (λ d w away was. record { unbuffered = was.unbuffered; all_logged = λ none. counted_push_other d 0 l.entries last (λ e. away (sym e)) ∙ was.all_logged none });
        next = next;
      }
    where
      z : Client
      z = get_or s.clients c absent

      y : Client
      y = record { revision = z.revision; phase = z.phase; list = z.list; count = z.count; message = None }

      last : Count
      last = record { maker = c; edits = sent l c }

      m : Ledger
      m = ledger_taken l c

      size : length l.entries ≡ length s.log
      size = entries_size past s l told

      long : length (l.entries ++ last ∷ []) ≡ length l.entries + 1
      long = length_push l.entries last

      revision : (d : ℕ) → (get_or (set s.clients c y) d absent).revision ≡ (get_or s.clients d absent).revision
      revision d = revision_set s.clients c d y (slice_get_within s.clients c z at) refl

      within : (d : ℕ) → (get_or s.clients d absent).revision ≤ length l.entries
      within d = elim (cases_lt d (length s.clients)) [
        | inl below ↦ let seen = sound.seen d (get_or s.clients d absent) (slice_get-get_or s.clients d absent below) in let e = size in omega arith
        | inr far ↦ let e = ap (λ (w : Client). w.revision) (get_or_past s.clients d absent far) in omega arith
      ]

      out_same : (d : ℕ) → in_entries m (get_or (set s.clients c y) d absent).revision d ≡ in_entries l (get_or s.clients d absent).revision d
      out_same d = ap (λ (j : ℕ). in_entries m j d) (revision d) ∙ logged_low l.entries last (get_or s.clients d absent).revision d (within d)

      -- what is outstanding is what the log does not have
      pending : in_entries l z.revision c ≡ counted c 0 l.entries
      pending = ahead_logged past s l told c z.revision (sound.seen c z at) (under_way c z.phase start (take z.revision s.log) (drop z.revision s.log) z.list z.message way is on (sound.clients c z at))

      none_far : (d k j : ℕ) → length l.entries ≤ j → (in_entries l j d ≤ k) × (k < in_entries l (suc j) d) → ⊥
      none_far d k j far q = let lo = q.0 in let hi = q.1 in let f = logged_high l.entries j d far in let g = logged_high l.entries (suc j) d (omega arith) in omega arith

      entry_counts : (d k j : ℕ) → ((j < length l.entries) ⊎ ((j ≡ length l.entries) × (c ≡ d))) ⊎ (((in_entries m j d ≤ k) × (k < in_entries m (suc j) d) → ⊥) × ((in_entries l j d ≤ k) × (k < in_entries l (suc j) d) → ⊥))
      entry_counts d k j = elim (cases_lt j (length l.entries)) [
        | inl below ↦ inl (inl below)
        | inr far ↦ elim (cases_eq j (length l.entries)) [
          | inl end ↦ elim (cases_eq c d) [
            | inl own ↦ inl (inr (end, own))
            | inr other ↦ inr (
              (λ q. let lo = q.0 in let hi = q.1 in let e = logged_low l.entries last j d (omega arith) in let f = logged_high l.entries j d far in let g = logged_high (l.entries ++ last ∷ []) (suc j) d (let n = long in omega arith) in let i = counted_push_other d 0 l.entries last other in omega arith),
              none_far d k j far,
            )
          ]
          | inr past_end ↦ inr (
            (λ q. let lo = q.0 in let hi = q.1 in let f = logged_high (l.entries ++ last ∷ []) j d (let n = long in omega arith) in let g = logged_high (l.entries ++ last ∷ []) (suc j) d (let n = long in omega arith) in omega arith),
            none_far d k j far,
          )
        ]
      ]

      made_last : (d k j : ℕ) {g : Holder} → g ≡ Outstanding c → LogEntry j ≡ LogEntry (length s.log) → IsCountedIn s l d k g → (in_entries m j d ≤ k) × (k < in_entries m (suc j) d)
      made_last d k j out is q =
          let was : IsCountedIn s l d k (Outstanding c) = subst (λ (g : Holder). IsCountedIn s l d k g) out q in
          let end : j ≡ length s.log = ap number_of is in
          let n = size in
          let e = logged_low l.entries last j d (omega arith) in
          let f = logged_high l.entries j d (omega arith) in
          let g = logged_high (l.entries ++ last ∷ []) (suc j) d (let w = long in omega arith) in
          let i = counted_push_own d 0 l.entries last (sym was.0) in
          let p = pending in
          let own = ap (λ (w : ℕ). counted w 0 l.entries) was.0 in
          let lo = was.1 in
          let hi = was.2 in
          ((omega arith), (omega arith))

      next : (d k : ℕ) (h : Holder) → IsCountedIn (taken s c z op) m d k h ↔ Comes d k (Take c) s l h
      next d k (Buffer e) = (
        λ q. inr (Buffer e, q, inl refl),
        λ q. elim q [
          | inl new ↦ absurd new.0
          | inr old ↦ elim old.2 [
            | inl same ↦ subst (λ (g : Holder). IsCountedIn s l d k g) same old.1
            | inr moved ↦ absurd (let e = moved.1 in cc)
          ]
        ],
      )
      next d k (Outstanding e) = (
        λ q. inr (Outstanding e, (q.0, (let lo = q.1 in let f = out_same e in omega arith), q.2), inl refl),
        λ q. elim q [
          | inl new ↦ absurd new.0
          | inr old ↦ elim old.2 [
            | inl same ↦
                let was : IsCountedIn s l d k (Outstanding e) = subst (λ (g : Holder). IsCountedIn s l d k g) same old.1 in
                (was.0, (let lo = was.1 in let f = out_same e in omega arith), was.2)
            | inr moved ↦ absurd (let e = moved.1 in cc)
          ]
        ],
      )
      next d k (LogEntry j) = elim (entry_counts d k j) [
        | inr none ↦ (
          λ q. absurd (none.0 q),
          λ q. elim q [
            | inl new ↦ absurd new.0
            | inr old ↦ elim old.2 [
              | inl same ↦ absurd (none.1 (subst (λ (g : Holder). IsCountedIn s l d k g) same old.1))
              | inr moved ↦ absurd (none.0 (made_last d k j moved.0 moved.1 old.1))
            ]
          ],
        )
        | inl some ↦ elim some [
          | inl below ↦
              let e = logged_low l.entries last j d (omega arith) in
              let f = logged_low l.entries last (suc j) d (omega arith) in (
                λ q. inr (LogEntry j, ((let lo = q.0 in omega arith), (let hi = q.1 in omega arith)), inl refl),
                λ q. elim q [
                  | inl new ↦ absurd new.0
                  | inr old ↦ elim old.2 [
                    | inl same ↦
                        let was : IsCountedIn s l d k (LogEntry j) = subst (λ (g : Holder). IsCountedIn s l d k g) same old.1 in
                        ((let lo = was.0 in omega arith), (let hi = was.1 in omega arith))
                    | inr moved ↦ made_last d k j moved.0 moved.1 old.1
                  ]
                ],
              )
          | inr end ↦
              let e = logged_low l.entries last j d (let n = end.0 in omega arith) in
              let f = logged_high l.entries j d (let n = end.0 in omega arith) in
              let g = logged_high (l.entries ++ last ∷ []) (suc j) d (let n = long in let o = end.0 in omega arith) in
              let i = counted_push_own d 0 l.entries last end.1 in
              let p = pending in
              let own = ap (λ (w : ℕ). counted w 0 l.entries) end.1 in (
                λ q. inr (Outstanding c, (sym end.1, (let lo = q.0 in omega arith), (let hi = q.1 in omega arith)), inr (refl, ap LogEntry (end.0 ∙ size))),
                λ q. elim q [
                  | inl new ↦ absurd new.0
                  | inr old ↦ elim old.2 [
                    | inl same ↦
                        let was : IsCountedIn s l d k (LogEntry j) = subst (λ (g : Holder). IsCountedIn s l d k g) same old.1 in
                        absurd (let lo = was.0 in let hi = was.1 in let u = logged_high l.entries (suc j) d (let n = end.0 in omega arith) in omega arith)
                    | inr moved ↦ made_last d k j moved.0 moved.1 old.1
                  ]
                ],
              )
        ]
      ]

  -- Acknowledge
  acknowledge_carried : (c : ℕ) (y : Client) (h : Entry) → slice_get s.clients c ≡ Some (get_or s.clients c absent) → is_joined (get_or s.clients c absent).phase ≡ true → slice_get s.log (get_or s.clients c absent).revision ≡ Some h → h.maker ≡ c
      → acknowledged (get_or s.clients c absent) (get_or s.clients c absent).phase ≡ Some y → IsCarried s l (Acknowledge c) (with_client s c y) (ledger_acknowledged l c)
  acknowledge_carried c y h at on head own is =
      record {
        made = no_more;
        settled = each_after (λ d w. IsSettled l d w) (λ d w. IsSettled m d w) s.clients c z y at kept
            (let was = kept c z at in acknowledged_settled z.phase is was.unbuffered was.all_logged)
            (λ d w away was. record { unbuffered = subst (IsUnbuffered w.phase) (sym (waits_away d away)) was.unbuffered; all_logged = λ none. was.all_logged none ∙ sym (sent_away d away) });
        next = next;
      }
    where
      z : Client
      z = get_or s.clients c absent

      m : Ledger
      m = ledger_acknowledged l c

      inside : c < length s.clients
      inside = slice_get_within s.clients c z at

      waits_here : get_or m.buffered c 0 ≡ 0
      waits_here = let size = told.buffered_size in get_or-set_same l.buffered c 0 0 (let i = inside in omega arith)

      waits_away : (d : ℕ) → d ≢ c → get_or m.buffered d 0 ≡ get_or l.buffered d 0
      waits_away d away = get_or-set_other l.buffered c d 0 0 away

      sent_here : sent m c ≡ get_or l.made c 0
      sent_here = let f = waits_here in omega arith

      sent_away : (d : ℕ) → d ≢ c → sent m d ≡ sent l d
      sent_away d away = let f = waits_away d away in omega arith

      seen : z.revision < length s.log
      seen = slice_get_within s.log z.revision h head

      facts : NoneBy c (drop (suc z.revision) s.log) × (z.message ≡ None)
      facts = landed c z.phase start (take z.revision s.log) (drop (suc z.revision) s.log) h z.list z.message own on
          (subst (λ (ahead : List Entry). IsPhaseSound c z.phase start (take z.revision s.log) ahead z.list z.message) (drop_entry s.log z.revision h head) (sound.clients c z at))

      -- the log has all that was sent, up to the entry that is acknowledged
      logged_is : in_entries l (suc z.revision) c ≡ sent l c
      logged_is = ahead_logged past s l told c (suc z.revision) (let i = seen in omega arith) facts.0 ∙ (kept c z at).all_logged facts.1

      revision_here : (get_or (set s.clients c y) c absent).revision ≡ suc z.revision
      revision_here = ap (λ (w : Client). w.revision) (get_or-set_same s.clients c y absent inside) ∙ (acknowledged_keeps z y z.phase is).0

      revision_away : (d : ℕ) → d ≢ c → (get_or (set s.clients c y) d absent).revision ≡ (get_or s.clients d absent).revision
      revision_away d away = ap (λ (w : Client). w.revision) (get_or-set_other s.clients c d y absent away)

      acknowledged_settled : (phase : Phase) → acknowledged z phase ≡ Some y → IsUnbuffered phase (get_or l.buffered c 0) → (z.message ≡ None → counted c 0 l.entries ≡ sent l c) → IsSettled m c y
      acknowledged_settled NotJoined e none was = absurd cc
      acknowledged_settled Synchronized e none was = absurd cc
      acknowledged_settled (AwaitingConfirm o) e none was =
          subst (λ (w : Client). IsSettled m c w) (same_Some _ y e) (record { unbuffered = waits_here; all_logged = λ empty. let f = was empty in let g = sent_here in omega arith })
      acknowledged_settled (AwaitingWithBuffer o p) e none was =
          subst (λ (w : Client). IsSettled m c w) (same_Some _ y e) (record { unbuffered = waits_here; all_logged = λ empty. absurd cc })

      acknowledge_outstanding : (d k : ℕ) → IsCountedIn (with_client s c y) m d k (Outstanding c) ↔ Comes d k (Acknowledge c) s l (Outstanding c)
      acknowledge_outstanding d k =
          let r = ap (λ (j : ℕ). in_entries l j c) revision_here in
          let f = sent_here in
          let g = logged_is in (
            λ q. inr (Buffer c, (q.0, (let lo = q.1 in omega arith), (let hi = q.2 in omega arith)), inr (refl, refl)),
            λ q. elim q [
              | inl new ↦ absurd new.0
              | inr old ↦ elim old.2 [
                | inl same ↦ absurd (same.1 same.0)
                | inr moved ↦
                    let was : IsCountedIn s l d k (Buffer c) = subst (λ (g : Holder). IsCountedIn s l d k g) moved.0 old.1 in
                    (was.0, (let lo = was.1 in omega arith), (let hi = was.2 in omega arith))
              ]
            ],
          )

      next : (d k : ℕ) (g : Holder) → IsCountedIn (with_client s c y) m d k g ↔ Comes d k (Acknowledge c) s l g
      next d k (LogEntry j) = (
        λ q. inr (LogEntry j, q, inl (refl, (λ e. absurd cc), (λ e. absurd cc))),
        λ q. elim q [
          | inl new ↦ absurd new.0
          | inr old ↦ elim old.2 [
            | inl same ↦ subst (λ (g : Holder). IsCountedIn s l d k g) same.0 old.1
            | inr moved ↦ absurd (let e = moved.1 in cc)
          ]
        ],
      )
      next d k (Outstanding e) = elim (cases_eq e c) [
        | inl here ↦ subst (λ (w : ℕ). IsCountedIn (with_client s c y) m d k (Outstanding w) ↔ Comes d k (Acknowledge c) s l (Outstanding w)) (sym here) (acknowledge_outstanding d k)
        | inr away ↦ (
          λ q. inr (Outstanding e, (q.0, (let lo = q.1 in let r = ap (λ (j : ℕ). in_entries l j e) (revision_away e away) in omega arith), (let hi = q.2 in let f = sent_away e away in omega arith)), inl (refl, (λ f. away (ap number_of f)), (λ f. absurd cc))),
          λ q. elim q [
            | inl new ↦ absurd new.0
            | inr old ↦ elim old.2 [
              | inl same ↦
                  let was : IsCountedIn s l d k (Outstanding e) = subst (λ (g : Holder). IsCountedIn s l d k g) same.0 old.1 in
                  (was.0, (let lo = was.1 in let r = ap (λ (j : ℕ). in_entries l j e) (revision_away e away) in omega arith), (let hi = was.2 in let f = sent_away e away in omega arith))
              | inr moved ↦ absurd (away (ap number_of moved.1))
            ]
          ],
        )
      ]
      next d k (Buffer e) = elim (cases_eq e c) [
        | inl here ↦ subst (λ (w : ℕ). IsCountedIn (with_client s c y) m d k (Buffer w) ↔ Comes d k (Acknowledge c) s l (Buffer w)) (sym here) (
          (λ q. absurd (let lo = q.1 in let hi = q.2 in let f = sent_here in omega arith)),
          (λ q. elim q [
            | inl new ↦ absurd new.0
            | inr old ↦ elim old.2 [ inl same ↦ absurd (same.2 same.0) | inr moved ↦ absurd (let e = moved.1 in cc) ]
          ]),
        )
        | inr away ↦ (
          λ q. inr (Buffer e, (q.0, (let lo = q.1 in let f = sent_away e away in omega arith), q.2), inl (refl, (λ f. absurd cc), (λ f. away (ap number_of f)))),
          λ q. elim q [
            | inl new ↦ absurd new.0
            | inr old ↦ elim old.2 [
              | inl same ↦
                  let was : IsCountedIn s l d k (Buffer e) = subst (λ (g : Holder). IsCountedIn s l d k g) same.0 old.1 in
                  (was.0, (let lo = was.1 in let f = sent_away e away in omega arith), was.2)
              | inr moved ↦ absurd (let e = moved.1 in cc)
            ]
          ],
        )
      ]

-- ---- any instruction

-- what the counts are after an instruction that is performed
abbrev pub IsCarriedBy : State → Ledger → Instr → Outcome → Type 0
IsCarriedBy s l i (Performed t shown) = IsCarried s l i t (ledger_after l i (actor i s.clients absent))
IsCarriedBy s l i (Refused r) = Unit {0}
IsCarriedBy s l i NoRow = Unit {0}

module _ (start : List Tagged) (text : List ℕ) (past : List EventView) (s : State) (l : Ledger) (sound : IsSoundFrom start text s) (told : IsCounted past s l) (kept : (c : ℕ) (x : Client) → slice_get s.clients c ≡ Some x → IsSettled l c x) where
  the_client : (c : ℕ) (x : Client) → slice_get s.clients c ≡ Some x → get_or s.clients c absent ≡ x
  the_client c x at = get_or_from_slice_get s.clients c x absent at

  pub step_carried : (i : Instr) → IsCarriedBy s l i (step s i)
  step_carried (Edit c op) = by_edit (IsCarriedBy s l (Edit c op)) (λ r. tt) s c op (λ x at below on base few.
      let is = the_client c x at in
      subst (λ (z : Client). IsCarriedBy s l (Edit c op) (Performed (with_client s c (edited z (tag_operation c z.count op))) None)) is
      (edit_carried start text past s l sound told kept c op (tag_operation c (get_or s.clients c absent).count op) (at ∙ ap Some (sym is)) (rw is on)))
  step_carried (Take c) = by_take (IsCarriedBy s l (Take c)) (λ r. tt) s c (λ x m at below on sent.
      let is = the_client c x at in
      subst (λ (z : Client). IsCarriedBy s l (Take c) (Performed (taken s c z (transform_over m.op (drop m.revision s.log))) None)) is
      (take_carried start text past s l sound told kept c m (transform_over m.op (drop m.revision s.log)) (at ∙ ap Some (sym is)) (rw is on) (rw is sent)))
  step_carried (Deliver c) = by_deliver (IsCarriedBy s l (Deliver c)) (λ r. tt) s c (λ x h at below on head other. deliver_carried start text past s l sound told kept c x h at head other)
  step_carried (Acknowledge c) = by_acknowledge (IsCarriedBy s l (Acknowledge c)) (λ r. tt) s c (λ x h at below on head own.
      let is = the_client c x at in
      let found = acknowledged_kept laws start text s c x h sound at head own on in
      rw found.1 (acknowledge_carried start text past s l sound told kept c found.0 h (at ∙ ap Some (sym is)) (rw is on) (rw is head) own (rw is found.1)))
  step_carried (Join c) = by_join (IsCarriedBy s l (Join c)) (λ r. tt) s c (λ x at below off. join_carried start text past s l sound told kept c x at off)
  step_carried (Read c) = by_read (IsCarriedBy s l (Read c)) (λ r. tt) s c (λ x at below on. read_carried start text past s l sound told kept (Read c) _ refl (λ d. refl) (λ d g e. e) (λ g k. (λ e. e, λ e. e)))
  step_carried ReadServer = by_read_server (IsCarriedBy s l ReadServer) (λ r. tt) s (λ below. read_carried start text past s l sound told kept ReadServer _ refl (λ d. refl) (λ d g e. e) (λ g k. (λ e. e, λ e. e)))
