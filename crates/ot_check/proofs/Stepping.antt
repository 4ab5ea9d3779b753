-- What a performed instruction does to the sizes of a state and of the counts beside it.
use Rattle.std.proofs.Common.{◌≡◌, ℕ, suc, ◌+◌, ◌-◌, ◌<◌, ◌≤◌, List, [], ◌∷◌, length, set, get_or, refl, sym, ap, ◌∙◌, subst, arith, inl, inr, length-append, length-set, get_or-set_same, get_or-set_other, Option, Some, None}
use Rattle.std.specs.Prelude.{slice_get}
use Rattle.std.specs.Option.{option_map}
use Rattle.std.proofs.lemmas.Bool.{cases_eq, cases_lt}
use Rattle.std.proofs.lemmas.List.{length-map, get_or_past, get_or_default}
use Rattle.std.proofs.lemmas.List.Elements.{All-append, All-nil, All-cons}
use Rattle.std.proofs.lemmas.Option.{same_Some, slice_get_within, slice_get-get_or}
use Rattle.ot_isa.specs.Program.{IsForClients}
use Rattle.ot_isa.specs.declared.instruction.Instr.{Instr}
use Rattle.ot_isa.specs.declared.instruction.Instr.TheVariants.{Edit, Take, Deliver, Acknowledge, Join, Read, ReadServer}
use Rattle.ot_model.specs.declared.shown.Shown.{Shown}
use Rattle.ot_model.specs.Table.{Phase, NotJoined, Synchronized, AwaitingConfirm, AwaitingWithBuffer, Client, absent, State, Outcome, Performed, Refused, NoRow, step, with_client, edited, acknowledged, with_row, tag_operation}
use Rattle.ot_model.specs.Sound.{IsSound, IsInstr, IsOutcomeSound}
use Rattle.ot_model.specs.Events.{in_buffer}
use Rattle.ot_model.proofs.Algebra.{laws}
use Rattle.ot_model.proofs.Steps.{step_sound}
use Rattle.ot_model.proofs.Outcomes.{by_edit, by_take, by_deliver, by_acknowledge, by_join, by_read, by_read_server}
use Rattle.ot_machine.specs.Readers.{ClientHas}
use Rattle.ot_check.specs.Rows.{Counts, seen_by, row_at, last_row, made_by, waiting_of, counts_after, acting}
use Rattle.ot_check.specs.Following.{LeadsTo, FitsState, counts_of}
use Rattle.ot_check.specs.declared.ledger.Ledger.{Ledger}

abbrev state_or : State → Outcome → State
state_or d (Performed t shown) = t
state_or d (Refused r) = d
state_or d NoRow = d

pub same_state : (s t : State) (a b : Option Shown) → Performed s a ≡ Performed t b → s ≡ t
same_state s t a b e = ap (state_or s) e

-- the sizes of the state after an instruction that makes so many log entries
pub record IsNext (s : State) (made : ℕ) (t : State) : Type 0 where
  pub clients : length t.clients ≡ length s.clients
  pub steps : t.steps ≡ s.steps + 1
  pub log : length t.log ≡ length s.log + made

abbrev pub entries_made : Instr → ℕ
entries_made (Edit c op) = 0
entries_made (Take c) = 1
entries_made (Deliver c) = 0
entries_made (Acknowledge c) = 0
entries_made (Join c) = 0
entries_made (Read c) = 0
entries_made ReadServer = 0

next_client : (s t : State) (c : ℕ) (y : Client) → with_client s c y ≡ t → IsNext s 0 t
next_client s t c y e =
    subst (IsNext s 0) e (record { clients = length-set s.clients c y; steps = omega arith; log = omega arith })

next_read : (s t : State) → t.clients ≡ s.clients → t.log ≡ s.log → t.steps ≡ suc s.steps → IsNext s 0 t
next_read s t clients log steps = record { clients = ap length clients; steps = omega arith; log = ap length log ∙ omega arith }

abbrev Leads : State → Option Shown → ℕ → State → Outcome → Type 0
Leads s shown made t o = o ≡ Performed t shown → IsNext s made t

pub next : (s t : State) (i : Instr) → LeadsTo (step s i) t → IsNext s (entries_made i) t
next s t (Edit c op) (shown, is) =
    by_edit (Leads s shown 0 t) (λ r e. absurd (cc)) s c op (λ x at below on base few e. next_client s t c (edited x (tag_operation c x.count op)) (same_state _ t _ shown e)) is
next s t (Take c) (shown, is) =
    by_take (Leads s shown 1 t) (λ r e. absurd (cc)) s c (λ x m at below on sent e.
    subst (IsNext s 1) (same_state _ t _ shown e)
    (record { clients = length-set s.clients c _; steps = omega arith; log = length-append s.log (_ ∷ []) })) is
next s t (Deliver c) (shown, is) =
    by_deliver (Leads s shown 0 t) (λ r e. absurd (cc)) s c (λ x h at below on head other e. next_client s t c _ (same_state _ t _ shown e)) is
next s t (Acknowledge c) (shown, is) =
    by_acknowledge (Leads s shown 0 t) (λ r e. absurd (cc)) s c (λ x h at below on head own e. go (acknowledged x x.phase) e) is
  where
    go : (o : Option Client) → with_row s c o ≡ Performed t shown → IsNext s 0 t
    go None e = absurd (cc)
    go (Some y) e = next_client s t c y (same_state _ t _ shown e)
next s t (Join c) (shown, is) =
    by_join (Leads s shown 0 t) (λ r e. absurd (cc)) s c (λ x at below off e. next_client s t c _ (same_state _ t _ shown e)) is
next s t (Read c) (shown, is) =
    by_read (Leads s shown 0 t) (λ r e. absurd (cc)) s c (λ x at below on e.
    let same = same_state _ t _ shown e in next_read s t (ap (λ (u : State). u.clients) (sym same)) (ap (λ (u : State). u.log) (sym same)) (ap (λ (u : State). u.steps) (sym same))) is
next s t ReadServer (shown, is) =
    by_read_server (Leads s shown 0 t) (λ r e. absurd (cc)) s (λ below e.
    let same = same_state _ t _ shown e in next_read s t (ap (λ (u : State). u.clients) (sym same)) (ap (λ (u : State). u.log) (sym same)) (ap (λ (u : State). u.steps) (sym same))) is

sound_after : (o : Outcome) (t : State) → IsOutcomeSound o → LeadsTo o t → IsSound t
sound_after (Performed s a) t sound (shown, e) = subst IsSound (same_state s t a shown e) sound
sound_after (Refused r) t sound (shown, e) = absurd (cc)
sound_after NoRow t sound (shown, e) = absurd (cc)

pub sound_next : (s t : State) (i : Instr) → IsSound s → IsInstr i → LeadsTo (step s i) t → IsSound t
sound_next s t i sound is leads = sound_after (step s i) t (step_sound laws s i sound is) leads

in_buffer-le : (p : Phase) (n : ℕ) → in_buffer p n ≤ n + 1
in_buffer-le NotJoined n = omega arith
in_buffer-le Synchronized n = omega arith
in_buffer-le (AwaitingConfirm o) n = omega arith
in_buffer-le (AwaitingWithBuffer o b) n = omega arith

few_after : (xs : List ℕ) (c y n : ℕ) → c < length xs → ((d : ℕ) → get_or xs d 0 ≤ n) → y ≤ n + 1 → (d : ℕ) → get_or (set xs c y) d 0 ≤ n + 1
few_after xs c y n inside few le d = elim (cases_eq d c) [
  | inl same ↦ let e : get_or (set xs c y) d 0 ≡ y = ap (λ (k : ℕ). get_or (set xs c y) k 0) same ∙ get_or-set_same xs c y 0 inside in omega arith
  | inr other ↦ let e = get_or-set_other xs c d y 0 other in let f = few d in omega arith
]

-- ---- rows

pub row_wide : (s : State) (l : Counts) (k : ℕ) → FitsState s l → k < length l.rows → length (row_at l k) ≡ length s.clients + 1
row_wide s l k fits inside = fits.wide k [] inside

pub last_wide : (s : State) (l : Counts) → FitsState s l → length (last_row l) ≡ length s.clients + 1
last_wide s l fits = let some = fits.rows in row_wide s l (length l.rows - 1) fits (omega arith)

module _ (s t : State) (l : Counts) (fits : FitsState s l) where
  kept : (made : ℕ) → IsSound t → IsNext s made t → made ≡ 0 → FitsState t l
  kept made sound after none =
      let a = after.clients in let b = after.log in let m = after.steps in let k = fits.made in let j = fits.buffered in let r = fits.rows in
      record {
        sound = sound;
        made = omega arith;
        buffered = omega arith;
        rows = omega arith;
        wide = λ i d inside. fits.wide i d inside ∙ omega arith;
        few = λ c. let le = fits.few c in omega arith;
        waiting = λ c. let le = fits.waiting c in omega arith;
      }

-- counts that fit a state, after an instruction
pub fits_after : (s t : State) (l : Counts) (i : Instr) → FitsState s l → IsInstr i → IsForClients (length s.clients) i → LeadsTo (step s i) t → FitsState t (counts_after l i (acting s i))
fits_after s t l (Edit c op) fits is inside leads =
    let after = next s t (Edit c op) leads in
    let a = after.clients in let b = after.log in let m = after.steps in let k = fits.made in let j = fits.buffered in let r = fits.rows in
    let x = get_or s.clients c absent in
    let in_made : c < length l.made = omega arith in
    let in_buffered : c < length l.buffered = omega arith in
    let most : made_by l c + 1 ≤ s.steps + 1 = (let le = fits.few c in omega arith) in
    let most_waiting : in_buffer x.phase (waiting_of l c) ≤ s.steps + 1 = (let le = fits.waiting c in let up = in_buffer-le x.phase (waiting_of l c) in omega arith) in
    record {
      sound = sound_next s t (Edit c op) fits.sound is leads;
      made = length-set l.made c _ ∙ omega arith;
      buffered = length-set l.buffered c _ ∙ omega arith;
      rows = omega arith;
      wide = λ i d inside. fits.wide i d inside ∙ omega arith;
      few = λ d. let le = few_after l.made c _ s.steps in_made fits.few most d in omega arith;
      waiting = λ d. let le = few_after l.buffered c _ s.steps in_buffered fits.waiting most_waiting d in omega arith;
    }
fits_after s t l (Take c) fits is inside leads =
    let after = next s t (Take c) leads in
    let a = after.clients in let b = after.log in let m = after.steps in let k = fits.made in let j = fits.buffered in let r = fits.rows in
    let row = set (last_row l) c (made_by l c - waiting_of l c) in
    let long : length row ≡ length t.clients + 1 = length-set (last_row l) c _ ∙ last_wide s l fits ∙ omega arith in
    let P : List ℕ → Type 0 = λ row. length row ≡ length t.clients + 1 in
    record {
      sound = sound_next s t (Take c) fits.sound is leads;
      made = omega arith;
      buffered = omega arith;
      rows = length-append l.rows (row ∷ []) ∙ omega arith;
      wide = All-append P l.rows (row ∷ []) (λ i d inside. fits.wide i d inside ∙ omega arith) (All-cons P row [] long (All-nil P));
      few = λ d. let le = fits.few d in omega arith;
      waiting = λ d. let le = fits.waiting d in omega arith;
    }
fits_after s t l (Deliver c) fits is inside leads = kept s t l fits 0 (sound_next s t (Deliver c) fits.sound is leads) (next s t (Deliver c) leads) refl
fits_after s t l (Acknowledge c) fits is inside leads =
    let after = next s t (Acknowledge c) leads in
    let a = after.clients in let b = after.log in let m = after.steps in let k = fits.made in let j = fits.buffered in let r = fits.rows in
    let in_buffered : c < length l.buffered = omega arith in
    record {
      sound = sound_next s t (Acknowledge c) fits.sound is leads;
      made = omega arith;
      buffered = length-set l.buffered c 0 ∙ omega arith;
      rows = omega arith;
      wide = λ i d inside. fits.wide i d inside ∙ omega arith;
      few = λ d. let le = fits.few d in omega arith;
      waiting = λ d. let le = few_after l.buffered c 0 s.steps in_buffered fits.waiting (omega arith) d in omega arith;
    }
fits_after s t l (Join c) fits is inside leads = kept s t l fits 0 (sound_next s t (Join c) fits.sound is leads) (next s t (Join c) leads) refl
fits_after s t l (Read c) fits is inside leads = kept s t l fits 0 (sound_next s t (Read c) fits.sound is leads) (next s t (Read c) leads) refl
fits_after s t l ReadServer fits is inside leads = kept s t l fits 0 (sound_next s t ReadServer fits.sound is leads) (next s t ReadServer leads) refl

-- ---- a client of a sound state

pub client_at : (s : State) (c : ℕ) (x : Client) → slice_get s.clients c ≡ Some x → get_or s.clients c absent ≡ x
client_at s c x at = same_Some _ x (sym (slice_get-get_or s.clients c absent (slice_get_within s.clients c x at)) ∙ at)

pub client_is : {A : Type 0} (s : State) (c : ℕ) (field : Client → A) (v : A) → ClientHas s c field v → field (get_or s.clients c absent) ≡ v
client_is {A} s c field v has = go (slice_get s.clients c) refl
  where
    go : (o : Option Client) → slice_get s.clients c ≡ o → field (get_or s.clients c absent) ≡ v
    go None e = absurd (let clash = ap (option_map field) (sym e) ∙ has in cc)
    go (Some x) e = ap field (client_at s c x e) ∙ same_Some (field x) v (ap (option_map field) (sym e) ∙ has)

pub revision_within : (s : State) (c : ℕ) → IsSound s → (get_or s.clients c absent).revision ≤ length s.log
revision_within s c (start, text, sound) = elim (cases_lt c (length s.clients)) [
  | inl inside ↦ sound.seen c (get_or s.clients c absent) (slice_get-get_or s.clients c absent inside)
  | inr past ↦ let none : (get_or s.clients c absent).revision ≡ 0 = ap (λ (x : Client). x.revision) (get_or_past s.clients c absent past) in omega arith
]

-- the row of a client's revision
pub row_inside : (s : State) (held : Ledger) (c r : ℕ) → FitsState s (counts_of held) → ClientHas s c (λ x. x.revision) r → r < length held.rows.items
row_inside s held c r fits has =
    let is = client_is s c (λ x. x.revision) r has in
    let le = revision_within s c fits.sound in
    let size = length-map held.rows.items (λ row. row.items) in
    let rows = fits.rows in
    omega arith

pub replica_inside : (s : State) (held : Ledger) (c r k : ℕ) → FitsState s (counts_of held) → ClientHas s c (λ x. x.revision) r → k ≤ length s.clients → k < length (row_at (counts_of held) r)
replica_inside s held c r k fits has le =
    let size = length-map held.rows.items (λ row. row.items) in
    let inside = row_inside s held c r fits has in
    let wide = row_wide s (counts_of held) r fits (omega arith) in
    omega arith

-- what a client sees, by its revision and its number of edits
pub seen_is : (s : State) (l : Counts) (c r own : ℕ) → FitsState s l → c < length s.clients → ClientHas s c (λ x. x.revision) r → own ≡ get_or l.made c own → set (row_at l r) c own ≡ seen_by l c (get_or s.clients c absent)
seen_is s l c r own fits inside has is =
    let size = fits.made in
    let all : own ≡ made_by l c = is ∙ get_or_default l.made c own 0 (omega arith) in
    ap (λ (k : ℕ). set (row_at l r) c k) all ∙ ap (λ (k : ℕ). set (row_at l k) c (made_by l c)) (sym (client_is s c (λ x. x.revision) r has))
