-- Every character in the states of a run is a Unicode scalar value.
use Rattle.std.proofs.Common.{◌≡◌, ℕ, zero, suc, ◌≤◌, List, [], ◌∷◌, ◌++◌, length, take, drop, refl, sym, ap, ◌∙◌, arith, Option, Some, None, true}
use Rattle.std.specs.Prelude.{slice_get}
use Rattle.std.specs.List.{filter_map}
use Rattle.std.specs.Str.{all_scalars}
use Rattle.std.proofs.lemmas.Bool.{and_parts, and_from}
use Rattle.std.proofs.lemmas.List.{length-take-le, take-take, take-append-drop}
use Rattle.std.proofs.lemmas.Option.{same_Some}
use Rattle.ot_operation.specs.Operation as text
use Rattle.ot_operation.specs.Operation.{Item, Old, New, value_in}
use Rattle.ot_operation.specs.Compose.{item_in}
use Rattle.ot_isa.specs.Program.{Program, IsProgram}
use Rattle.ot_isa.specs.Program as isa
use Rattle.ot_isa.specs.Tagging.{chars_of, tagged_chars, tagged_items}
use Rattle.ot_isa.specs.declared.elements.Tagged.{Tagged}
use Rattle.ot_isa.specs.declared.instruction.Instr.{Instr}
use Rattle.ot_isa.specs.declared.instruction.Instr.TheVariants.{Edit, Take, Deliver, Acknowledge, Join, Read, ReadServer}
use Rattle.ot_server.specs.History.{transform_over}
use Rattle.ot_model.specs.Operation.{Operation, apply, compose, first_after, news, second_after}
use Rattle.ot_model.specs.Runs.{opening_of}
use Rattle.ot_model.specs.Sound.{Fits, IsPhaseSound, IsSoundFrom, IsSound, apply_entries}
use Rattle.ot_model.specs.Table.{Phase, NotJoined, Synchronized, AwaitingConfirm, AwaitingWithBuffer, Client, Entry, Message, Outcome, Performed, Refused, NoRow, State, acknowledged, against_pending, delivered, edited, joined, message_edited, phase_delivered, phase_edited, start_list, step, tag_operation, taken, with_client, with_row}
use Rattle.ot_model.proofs.Algebra.{laws}
use Rattle.ot_model.proofs.Clients.{FitAll_at}
use Rattle.ot_model.proofs.Outcomes.{by_edit, by_take, by_deliver, by_acknowledge, by_join, by_read, by_read_server}
use Rattle.ot_model.proofs.States.{FitAll_drop, drop_entry, each_after, message_fits, sent_joined, transform_over_news}
use Rattle.ot_model.proofs.Steps.{each_opening}

abbrev pub AreScalars : List Tagged → Type 0
AreScalars xs = all_scalars (chars_of xs) ≡ true

-- what an operation inserts
abbrev pub InsertsScalars : Operation Tagged → Type 0
InsertsScalars op = AreScalars (news op)

-- ---- lists and operations

scalar_at : (xs : List Tagged) (i : ℕ) (x : Tagged) → AreScalars xs → slice_get xs i ≡ Some x → AreScalars (x ∷ [])
scalar_at [] i x h e = absurd (cc)
scalar_at (y ∷ xs) zero x h e = rw (← same_Some y x e) (and_from _ true (and_parts _ _ h).0 refl)
scalar_at (y ∷ xs) (suc i) x h e = scalar_at xs i x (and_parts _ _ h).1 e

one_more : (x : Tagged) (xs : List Tagged) → AreScalars (x ∷ []) → AreScalars xs → AreScalars (x ∷ xs)
one_more x xs one h = and_from _ _ (and_parts _ true one).0 h

values_scalars : (image : List (Item Tagged)) (d : List Tagged) → AreScalars d → AreScalars (text.news image) → AreScalars (filter_map (value_in d) image)
values_scalars [] d all h = refl
values_scalars (New x ∷ image) d all h = let p = and_parts _ _ h in and_from _ _ p.0 (values_scalars image d all p.1)
values_scalars (Old i ∷ image) d all h = go (slice_get d i) refl (values_scalars image d all h)
  where
    go : (o : Option Tagged) → slice_get d i ≡ o → AreScalars (filter_map (value_in d) image) → AreScalars (filter_map (value_in d) (Old i ∷ image))
    go None at rest = rw at rest
    go (Some x) at rest = rw at (one_more x (filter_map (value_in d) image) (scalar_at d i x all at) rest)

applied_scalars : (op : Operation Tagged) (d : List Tagged) → AreScalars d → InsertsScalars op → AreScalars (apply op d)
unfolding apply
applied_scalars op d all h = values_scalars op.image d all h

new_at : (a : List (Item Tagged)) (j : ℕ) (x : Tagged) → AreScalars (text.news a) → slice_get a j ≡ Some (New x) → AreScalars (x ∷ [])
new_at [] j x h e = absurd (cc)
new_at (Old i ∷ a) zero x h e = absurd (cc)
new_at (New y ∷ a) zero x h e = let same : y ≡ x = cc in rw (← same) (and_from _ true (and_parts _ _ h).0 refl)
new_at (Old i ∷ a) (suc j) x h e = new_at a j x h e
new_at (New y ∷ a) (suc j) x h e = new_at a j x (and_parts _ _ h).1 e

items_scalars : (a b : List (Item Tagged)) → AreScalars (text.news a) → AreScalars (text.news b) → AreScalars (text.news (filter_map (item_in a) b))
items_scalars a [] first h = refl
items_scalars a (New x ∷ b) first h = let p = and_parts _ _ h in and_from _ _ p.0 (items_scalars a b first p.1)
items_scalars a (Old j ∷ b) first h = go (slice_get a j) refl (items_scalars a b first h)
  where
    go : (o : Option (Item Tagged)) → slice_get a j ≡ o → AreScalars (text.news (filter_map (item_in a) b)) → AreScalars (text.news (filter_map (item_in a) (Old j ∷ b)))
    go None at rest = rw at rest
    go (Some (Old i)) at rest = rw at rest
    go (Some (New x)) at rest = rw at (one_more x (text.news (filter_map (item_in a) b)) (new_at a j x first at) rest)

composed_scalars : (a b : Operation Tagged) → InsertsScalars a → InsertsScalars b → InsertsScalars (compose a b)
unfolding compose
composed_scalars a b first h = items_scalars a.image b.image first h

-- the tags say nothing of the characters
chars_tagged : (origin k : ℕ) (chars : List ℕ) → chars_of (tagged_chars origin k chars) ≡ chars
chars_tagged origin k [] = refl
chars_tagged origin k (c ∷ chars) = ap (λ (t : List ℕ). c ∷ t) (chars_tagged origin (suc k) chars)

news_tagged : (origin k : ℕ) (items : List (Item ℕ)) → chars_of (text.news (tagged_items origin k items)) ≡ text.news items
news_tagged origin k [] = refl
news_tagged origin k (Old i ∷ items) = news_tagged origin k items
news_tagged origin k (New c ∷ items) = ap (λ (t : List ℕ). c ∷ t) (news_tagged origin (suc k) items)

-- ---- states

abbrev pub LogScalars : List Entry → Type 0
LogScalars [] = Unit {0}
LogScalars (h ∷ log) = InsertsScalars h.op × LogScalars log

abbrev pub PhaseScalars : Phase → Type 0
PhaseScalars NotJoined = Unit {0}
PhaseScalars Synchronized = Unit {0}
PhaseScalars (AwaitingConfirm o) = InsertsScalars o
PhaseScalars (AwaitingWithBuffer o b) = InsertsScalars o × InsertsScalars b

abbrev pub MessageScalars : Option Message → Type 0
MessageScalars None = Unit {0}
MessageScalars (Some m) = InsertsScalars m.op

pub record ClientScalars (x : Client) : Type 0 where
  pub list : AreScalars x.list
  pub phase : PhaseScalars x.phase
  pub message : MessageScalars x.message

pub record StateScalars (s : State) : Type 0 where
  pub log : LogScalars s.log
  pub server : AreScalars s.server
  pub clients : (c : ℕ) (x : Client) → slice_get s.clients c ≡ Some x → ClientScalars x

abbrev pub OutcomeScalars : Outcome → Type 0
OutcomeScalars (Performed t shown) = StateScalars t
OutcomeScalars (Refused r) = Unit {0}
OutcomeScalars NoRow = Unit {0}

pub entry_scalars : (log : List Entry) (i : ℕ) (h : Entry) → LogScalars log → slice_get log i ≡ Some h → InsertsScalars h.op
entry_scalars [] i h all e = absurd (cc)
entry_scalars (x ∷ log) zero h all e = rw (← same_Some x h e) all.0
entry_scalars (x ∷ log) (suc i) h all e = entry_scalars log i h all.1 e

pushed_scalars : (log : List Entry) (h : Entry) → LogScalars log → InsertsScalars h.op → LogScalars (log ++ h ∷ [])
pushed_scalars [] h all one = (one, tt)
pushed_scalars (x ∷ log) h all one = (all.0, pushed_scalars log h all.1 one)

-- one client changed
with_client_scalars : (s : State) (c : ℕ) (x y : Client) → StateScalars s → slice_get s.clients c ≡ Some x → ClientScalars y → StateScalars (with_client s c y)
with_client_scalars s c x y all at now =
    record { log = all.log; server = all.server; clients = each_after (λ d z. ClientScalars z) (λ d z. ClientScalars z) s.clients c x y at all.clients now (λ d z other h. h) }

-- ---- the opening

pub opening_scalars : (s : Program) → IsProgram s → StateScalars (opening_of s)
opening_scalars s is =
    let start : AreScalars (start_list s.start) = ap all_scalars (chars_tagged 65535 0 s.start) ∙ is.start_scalars in
    record {
      log = tt;
      server = start;
      clients = each_opening (λ c z. ClientScalars z) s.clients s.present s.start (λ c. record { list = start; phase = tt; message = tt }) (λ c. record { list = refl; phase = tt; message = tt });
    }

-- ---- the instructions

-- Edit
phase_edited_scalars : (phase : Phase) (op : Operation Tagged) → PhaseScalars phase → InsertsScalars op → PhaseScalars (phase_edited phase op)
phase_edited_scalars NotJoined op h one = tt
phase_edited_scalars Synchronized op h one = one
phase_edited_scalars (AwaitingConfirm o) op h one = (h, one)
phase_edited_scalars (AwaitingWithBuffer o b) op h one = (h.0, composed_scalars b op h.1 one)

message_edited_scalars : (phase : Phase) (x : Client) (op : Operation Tagged) → MessageScalars x.message → InsertsScalars op → MessageScalars (message_edited phase x op)
message_edited_scalars NotJoined x op h one = h
message_edited_scalars Synchronized x op h one = one
message_edited_scalars (AwaitingConfirm o) x op h one = h
message_edited_scalars (AwaitingWithBuffer o b) x op h one = h

edited_scalars : (x : Client) (op : Operation Tagged) → ClientScalars x → InsertsScalars op → ClientScalars (edited x op)
edited_scalars x op h one =
    record { list = applied_scalars op x.list h.list one; phase = phase_edited_scalars x.phase op h.phase one; message = message_edited_scalars x.phase x op h.message one }

-- Take
pub message_in : (message : Option Message) (m : Message) → message ≡ Some m → MessageScalars message → InsertsScalars m.op
message_in None m e h = absurd (cc)
message_in (Some n) m e h = rw (← same_Some n m e) h

-- a message under way is over the document that it was made on
pub message_at : (start : List Tagged) (chars : List ℕ) (s : State) (c : ℕ) (x : Client) (m : Message) → IsSoundFrom start chars s → slice_get s.clients c ≡ Some x → x.message ≡ Some m
    → (m.revision ≤ length s.log) × Fits m.op (apply_entries start (take m.revision s.log))
message_at start chars s c x m sound at sent =
    let seen = take x.revision s.log in
    let now : IsPhaseSound c x.phase start seen (drop x.revision s.log) x.list (Some m) = rw (← sent) (sound.clients c x at) in
    let fact = message_fits laws c x.phase start seen (drop x.revision s.log) x.list m (sent_joined start chars s c x m sound at sent) now in
    let r_in : x.revision ≤ length s.log = sound.seen c x at in
    let len : length seen ≡ x.revision = length-take-le x.revision s.log r_in in
    let q_le : m.revision ≤ x.revision = rw (← len) fact.0 in
    (omega arith, rw (← take-take m.revision x.revision s.log q_le) fact.1)

against_pending_message : (start : List Tagged) (chars : List ℕ) (s : State) (c : ℕ) (x : Client) (m : Message) → IsSoundFrom start chars s → slice_get s.clients c ≡ Some x → x.message ≡ Some m
    → news (transform_over m.op (drop m.revision s.log)) ≡ news m.op
against_pending_message start chars s c x m sound at sent =
    transform_over_news laws m.op (apply_entries start (take m.revision s.log)) (drop m.revision s.log) (FitAll_drop laws start m.revision s.log sound.fit) (message_at start chars s c x m sound at sent).1

taken_scalars : (start : List Tagged) (chars : List ℕ) (s : State) (c : ℕ) (x : Client) (m : Message) → IsSoundFrom start chars s → StateScalars s → slice_get s.clients c ≡ Some x → x.message ≡ Some m
    → StateScalars (taken s c x (transform_over m.op (drop m.revision s.log)))
taken_scalars start chars s c x m sound all at sent =
    let y : Client = record { revision = x.revision; phase = x.phase; list = x.list; count = x.count; message = None } in
    let was = all.clients c x at in
    let op = transform_over m.op (drop m.revision s.log) in
    let one : InsertsScalars op = ap (λ (xs : List Tagged). all_scalars (chars_of xs)) (against_pending_message start chars s c x m sound at sent) ∙ message_in x.message m sent was.message in
    record {
      log = pushed_scalars s.log (record { maker = c; op = op }) all.log one;
      server = applied_scalars op s.server all.server one;
      clients = each_after (λ d z. ClientScalars z) (λ d z. ClientScalars z) s.clients c x y at all.clients (record { list = was.list; phase = was.phase; message = tt }) (λ d z other h. h);
    }

-- Deliver
same_news : (a b : Operation Tagged) → news a ≡ news b → InsertsScalars b → InsertsScalars a
same_news a b e h = ap (λ (xs : List Tagged). all_scalars (chars_of xs)) e ∙ h

-- what is pending and what is applied, after another's operation
pub record DeliveryScalars (phase : Phase) (h : Operation Tagged) : Type 0 where
  pub waits : PhaseScalars (phase_delivered phase h)
  pub applies : InsertsScalars (against_pending phase h)

phase_delivered_scalars : (c : ℕ) (phase : Phase) (start : List Tagged) (seen ahead : List Entry) (list : List Tagged) (message : Option Message) (h : Entry) → Fits h.op (apply_entries start seen) → IsPhaseSound c phase start seen ahead list message
    → PhaseScalars phase → InsertsScalars h.op → DeliveryScalars phase h.op
phase_delivered_scalars c NotJoined start seen ahead list message h fits sound waits one = record { waits = tt; applies = one }
phase_delivered_scalars c Synchronized start seen ahead list message h fits sound waits one = record { waits = tt; applies = one }
phase_delivered_scalars c (AwaitingConfirm o) start seen ahead list message h fits sound waits one =
    let same = sound.fits.base ∙ sym fits.base in
    record {
      waits = same_news (first_after o h.op) o (laws.first_news o h.op sound.fits.rising fits.rising same) waits;
      applies = same_news (second_after o h.op) h.op (laws.second_news o h.op sound.fits.rising fits.rising same) one;
    }
phase_delivered_scalars c (AwaitingWithBuffer o b) start seen ahead list message h fits sound waits one =
    let same = sound.fits.base ∙ sym fits.base in
    let p = second_after o h.op in
    let p_fits = laws.second_fits o h.op (apply_entries start seen) sound.fits fits in
    let p_scalars = same_news p h.op (laws.second_news o h.op sound.fits.rising fits.rising same) one in
    let next = sound.buffer_fits.base ∙ sym p_fits.base in
    record {
      waits = (
        same_news (first_after o h.op) o (laws.first_news o h.op sound.fits.rising fits.rising same) waits.0,
        same_news (first_after b p) b (laws.first_news b p sound.buffer_fits.rising p_fits.rising next) waits.1,
      );
      applies = same_news (second_after b p) p (laws.second_news b p sound.buffer_fits.rising p_fits.rising next) p_scalars;
    }

-- the entry that a client sees next is over what it has seen
pub entry_here : (start : List Tagged) (chars : List ℕ) (s : State) (x : Client) (h : Entry) → IsSoundFrom start chars s → slice_get s.log x.revision ≡ Some h → Fits h.op (apply_entries start (take x.revision s.log))
entry_here start chars s x h sound head =
    let seen = take x.revision s.log in
    let ahead = drop (suc x.revision) s.log in
    let split : seen ++ h ∷ ahead ≡ s.log = ap (λ (xs : List Entry). seen ++ xs) (sym (drop_entry s.log x.revision h head)) ∙ take-append-drop x.revision s.log in
    FitAll_at start seen h ahead (rw split sound.fit)

pub delivery_scalars : (start : List Tagged) (chars : List ℕ) (s : State) (c : ℕ) (x : Client) (h : Entry) → IsSoundFrom start chars s → StateScalars s → slice_get s.clients c ≡ Some x → slice_get s.log x.revision ≡ Some h
    → DeliveryScalars x.phase h.op
delivery_scalars start chars s c x h sound all at head =
    phase_delivered_scalars c x.phase start (take x.revision s.log) (drop x.revision s.log) x.list x.message h (entry_here start chars s x h sound head) (sound.clients c x at) (all.clients c x at).phase
    (entry_scalars s.log x.revision h all.log head)

delivered_scalars : (x : Client) (h : Operation Tagged) → ClientScalars x → DeliveryScalars x.phase h → ClientScalars (delivered x h)
delivered_scalars x h was now = record { list = applied_scalars (against_pending x.phase h) x.list was.list now.applies; phase = now.waits; message = was.message }

-- Acknowledge
acknowledged_scalars : (s : State) (c : ℕ) (x : Client) (phase : Phase) → StateScalars s → slice_get s.clients c ≡ Some x → PhaseScalars phase → OutcomeScalars (with_row s c (acknowledged x phase))
acknowledged_scalars s c x NotJoined all at h = tt
acknowledged_scalars s c x Synchronized all at h = tt
acknowledged_scalars s c x (AwaitingConfirm o) all at h =
    let was = all.clients c x at in
    with_client_scalars s c x _ all at (record { list = was.list; phase = tt; message = was.message })
acknowledged_scalars s c x (AwaitingWithBuffer o b) all at h =
    let was = all.clients c x at in
    with_client_scalars s c x _ all at (record { list = was.list; phase = h.1; message = h.1 })

pub step_scalars : (s : State) (i : Instr) → IsSound s → isa.HasScalars i → StateScalars s → OutcomeScalars (step s i)
step_scalars s (Edit c op) sound is all = by_edit OutcomeScalars (λ r. tt) s c op (λ x at below on base few.
    let one : InsertsScalars (tag_operation c x.count op) = ap all_scalars (news_tagged c x.count op.image) ∙ is in
    with_client_scalars s c x (edited x (tag_operation c x.count op)) all at (edited_scalars x (tag_operation c x.count op) (all.clients c x at) one))
step_scalars s (Take c) (start, chars, sound) is all = by_take OutcomeScalars (λ r. tt) s c (λ x m at below on sent. taken_scalars start chars s c x m sound all at sent)
step_scalars s (Deliver c) (start, chars, sound) is all = by_deliver OutcomeScalars (λ r. tt) s c (λ x h at below on head other.
    with_client_scalars s c x (delivered x h.op) all at (delivered_scalars x h.op (all.clients c x at) (delivery_scalars start chars s c x h sound all at head)))
step_scalars s (Acknowledge c) sound is all = by_acknowledge OutcomeScalars (λ r. tt) s c (λ x h at below on head own. acknowledged_scalars s c x x.phase all at (all.clients c x at).phase)
step_scalars s (Join c) sound is all = by_join OutcomeScalars (λ r. tt) s c (λ x at below off.
    with_client_scalars s c x (joined s x) all at (record { list = all.server; phase = tt; message = (all.clients c x at).message }))
step_scalars s (Read c) sound is all = by_read OutcomeScalars (λ r. tt) s c (λ x at below on. record { log = all.log; server = all.server; clients = all.clients })
step_scalars s ReadServer sound is all = by_read_server OutcomeScalars (λ r. tt) s (λ below. record { log = all.log; server = all.server; clients = all.clients })
