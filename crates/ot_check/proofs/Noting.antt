-- The event that is noted for an instruction is the one of the trace.
use Rattle.std.proofs.Common.{◌≡◌, ℕ, ◌+◌, ◌<◌, ◌≤◌, List, [], ◌∷◌, ◌++◌, length, map, set, get_or, refl, sym, ap, ◌∙◌, subst, arith, inl, inr, length-append, get_or-set_same}
use Rattle.std.specs.Prelude.{◌⊎◌}
use Rattle.std.proofs.lemmas.List.{length-map, map-append}
use Rattle.std.proofs.lemmas.List.Sums.{sum_by-append}
use Rattle.ot_isa.specs.declared.elements.Tag.{Tag}
use Rattle.ot_isa.specs.declared.elements.Tagged.{Tagged}
use Rattle.ot_isa.specs.Tagging.{tagged_operation}
use Rattle.ot_isa.specs.declared.instruction.Instr.{Instr}
use Rattle.ot_isa.specs.declared.instruction.Instr.TheVariants.{Edit, Read}
use Rattle.ot_model.specs.Operation.{Operation, apply}
use Rattle.ot_model.specs.Table as table
use Rattle.ot_model.specs.Table.{Client, absent, State, Outcome, Performed, Refused, NoRow, step, with_client, edited, tag_operation}
use Rattle.ot_model.specs.Trace.{EventView}
use Rattle.ot_model.specs.Events.{tags, in_buffer}
use Rattle.ot_model.proofs.Outcomes.{by_edit, by_read}
use Rattle.ot_machine.specs.declared.state.Phase.{Phase}
use Rattle.ot_machine.specs.Readers.{ClientHas, phase_name}
use Rattle.ot_judge.specs.declared.trace.Event.{Event}
use Rattle.ot_judge.specs.Making.{entries}
use Rattle.ot_judge.specs.Views.{event_view, views}
use Rattle.ot_judge.proofs.Views.{length-views}
use Rattle.ot_check.specs.declared.ledger.Ledger.{Ledger}
use Rattle.ot_check.specs.declared.tracing.Tracer.{Tracer}
use Rattle.ot_check.specs.Rows.{Counts, seen_by, made_by, waiting_of, counts_after, acting, edit_made, read_event, event_at}
use Rattle.ot_check.specs.Following.{LeadsTo, Follows, Overflows, IsWithin, PassLimits, counts_of, events_of, waiting_after}
use Rattle.ot_check.proofs.Stepping.{same_state, client_at, client_is}

-- ---- the limits

-- one more event
pub entries-push : (events : List EventView) (x : EventView) → entries (events ++ x ∷ []) ≡ entries events + length x.list
entries-push events x = sum_by-append (λ (y : EventView). length y.list) events (x ∷ []) ∙ omega arith

pub overflow : (events : List EventView) (x : EventView) (count n : ℕ) → IsWithin events count → length x.list ≡ n → (4000 ≤ length events) ⊎ (4000000 < count + n) → PassLimits (events ++ x ∷ [])
overflow events x count n within size (inl many) = inl (let long = length-append events (x ∷ []) in omega arith)
overflow events x count n within size (inr much) = inr (let more = entries-push events x in let is = within.count_is in omega arith)

within_push : (events : List EventView) (x : EventView) (count next n : ℕ) → IsWithin events count → length x.list ≡ n → next ≡ count + n → length events < 4000 → next ≤ 4000000 → IsWithin (events ++ x ∷ []) next
within_push events x count next n within size is few much =
    let long = length-append events (x ∷ []) in
    let more = entries-push events x in
    let before = within.count_is in
    record { count_is = omega arith; few_events = omega arith; few_entries = much }

views-push : (events new : List Event) (e : Event) → new ≡ events ++ e ∷ [] → views new ≡ views events ++ event_view e ∷ []
views-push events new e is = ap views is ∙ map-append event_view events (e ∷ [])

-- ---- an edit

edit_done : (s t : State) (c : ℕ) (op : Operation ℕ) → LeadsTo (step s (Edit c op)) t → t ≡ with_client s c (edited (get_or s.clients c absent) (tag_operation c (get_or s.clients c absent).count op))
edit_done s t c op (shown, is) =
    by_edit (λ o. o ≡ Performed t shown → t ≡ with_client s c (edited (get_or s.clients c absent) (tag_operation c (get_or s.clients c absent).count op))) (λ r e. absurd (cc)) s c op
    (λ x at below on base few e.
    sym (same_state _ t _ shown e) ∙ ap (λ (y : Client). with_client s c (edited y (tag_operation c y.count op))) (sym (client_at s c x at))) is

list_after : (s t : State) (c : ℕ) (y : Client) (doc : List Tagged) → c < length s.clients → t ≡ with_client s c y → ClientHas t c (λ x. x.list) doc → doc ≡ y.list
list_after s t c y doc inside is has =
    sym (client_is t c (λ x. x.list) doc has) ∙ ap (λ (u : State). (get_or u.clients c absent).list) is ∙ ap (λ (x : Client). x.list) (get_or-set_same s.clients c y absent inside)

edit_made-same : (c : ℕ) (o o' : Operation Tagged) (b b' a a' : List Tag) (s s' : List ℕ) → o ≡ o' → b ≡ b' → a ≡ a' → s ≡ s' → edit_made c o b a s ≡ edit_made c o' b' a' s'
edit_made-same c o o' b b' a a' s s' eo eb ea es =
    ap (λ o. edit_made c o b a s) eo ∙ ap (λ b. edit_made c o' b a s) eb ∙ ap (λ a. edit_made c o' b' a s) ea ∙ ap (λ s. edit_made c o' b' a' s) es

-- what is read of a client before its edit
pub record EditRead (s : State) (l : Counts) (c first : ℕ) (phase : Phase) (list : List Tagged) (before : List Tag) (seen : List ℕ) : Type 0 where
  pub list_has : ClientHas s c (λ x. x.list) list
  pub before_is : before ≡ tags list
  pub first_has : ClientHas s c (λ x. x.count) first
  pub phase_has : ClientHas s c (λ x. phase_name x.phase) phase
  pub seen_is : seen ≡ seen_by l c (get_or s.clients c absent)

module _ (s t : State) (l : Counts) (c first : ℕ) (op : Operation ℕ) (phase : Phase) (list doc : List Tagged) (before : List Tag) (seen : List ℕ)
    (inside : c < length s.clients) (read : EditRead s l c first phase list before seen) (leads : LeadsTo (step s (Edit c op)) t) (has : ClientHas t c (λ x. x.list) doc) where
  doc_same : doc ≡ apply (tag_operation c (get_or s.clients c absent).count op) (get_or s.clients c absent).list
  doc_same = list_after s t c _ doc inside (edit_done s t c op leads) has

  pub edit_is : edit_made c (tagged_operation op c first) before (tags doc) seen ∷ [] ≡ event_at s l (Edit c op)
  edit_is =
      ap (λ (x : EventView). x ∷ [])
      (edit_made-same c _ _ _ _ _ _ _ _ (ap (λ (k : ℕ). tagged_operation op c k) (sym (client_is s c (λ x. x.count) first read.first_has)))
      (read.before_is ∙ ap tags (sym (client_is s c (λ x. x.list) list read.list_has))) (ap tags doc_same) read.seen_is)

waiting_same : (p : table.Phase) (q : Phase) (n : ℕ) → phase_name p ≡ q → waiting_after q n ≡ in_buffer p n
waiting_same p q n e = ap (λ (r : Phase). waiting_after r n) (sym e) ∙ named p
  where
    named : (p : table.Phase) → waiting_after (phase_name p) n ≡ in_buffer p n
    named table.NotJoined = refl
    named table.Synchronized = refl
    named (table.AwaitingConfirm o) = refl
    named (table.AwaitingWithBuffer o b) = omega arith

-- the counts after it
pub edit_counted : (s : State) (held new : Ledger) (c : ℕ) (op : Operation ℕ) (phase : Phase) → ClientHas s c (λ x. phase_name x.phase) phase
    → new.made.items ≡ set held.made.items c (made_by (counts_of held) c + 1) → new.buffered.items ≡ set held.buffered.items c (waiting_after phase (waiting_of (counts_of held) c)) → new.rows ≡ held.rows
    → counts_of new ≡ counts_after (counts_of held) (Edit c op) (acting s (Edit c op))
edit_counted s held new c op phase has made buffered rows =
    let counts : List ℕ → List ℕ → List (List ℕ) → Counts = λ m b r. record { made = m; buffered = b; rows = r } in
    let wait = waiting_same (get_or s.clients c absent).phase phase (waiting_of (counts_of held) c) (client_is s c (λ x. phase_name x.phase) phase has) in
    ap (λ m. counts m (counts_of new).buffered (counts_of new).rows) made
    ∙ ap (λ b. counts (set held.made.items c (made_by (counts_of held) c + 1)) b (counts_of new).rows) (buffered ∙ ap (set held.buffered.items c) wait)
    ∙ ap (λ r. counts (set held.made.items c (made_by (counts_of held) c + 1)) (set held.buffered.items c (in_buffer (get_or s.clients c absent).phase (waiting_of (counts_of held) c))) (map (λ row. row.items) r.items)) rows

pub length-tags : (doc : List Tagged) → length (tags doc) ≡ length doc
length-tags doc = length-map doc (λ x. x.tag)

-- an event noted within the limits, or one that passes them
pub follows_event : (old new : Tracer) (i : Instr) (e : Event) (x : EventView) (n : ℕ) → event_view e ≡ x → length x.list ≡ n → x ∷ [] ≡ event_at old.machine (counts_of old.ledger) i
    → IsWithin (events_of old) old.entries → LeadsTo (step old.machine i) new.machine → counts_of new.ledger ≡ counts_after (counts_of old.ledger) i (acting old.machine i)
    → new.events.items ≡ old.events.items ++ e ∷ [] → new.entries ≡ old.entries + n → length old.events.items < 4000 → new.entries ≤ 4000000 → Follows old new i
follows_event old new i e x n is size same within leads counted pushed claimed few much =
    let size-views = length-views old.events.items in
    let one = views-push old.events.items new.events.items e pushed ∙ ap (λ (y : EventView). events_of old ++ y ∷ []) is in
    record {
      performed = leads;
      counted = counted;
      noted = one ∙ ap (λ ys. events_of old ++ ys) same;
      within = subst (λ ys. IsWithin ys new.entries) (sym one) (within_push (events_of old) x old.entries new.entries n within size claimed (omega arith) much);
    }

pub overflows_event : (old : Tracer) (i : Instr) (t : State) (x : EventView) (n : ℕ) → length x.list ≡ n → x ∷ [] ≡ event_at old.machine (counts_of old.ledger) i
    → IsWithin (events_of old) old.entries → LeadsTo (step old.machine i) t → (4000 ≤ length old.events.items) ⊎ (4000000 < old.entries + n) → Overflows old i t
overflows_event old i t x n size same within leads full =
    record {
      performed = leads;
      past = subst (λ ys. PassLimits (events_of old ++ ys)) same (overflow (events_of old) x old.entries n within size (full_views full));
    }
  where
    full_views : (4000 ≤ length old.events.items) ⊎ (4000000 < old.entries + n) → (4000 ≤ length (events_of old)) ⊎ (4000000 < old.entries + n)
    full_views (inl many) = inl (let size-views = length-views old.events.items in omega arith)
    full_views (inr much) = inr much

-- ---- a read

read_done : (s t : State) (c : ℕ) → LeadsTo (step s (Read c)) t → t.clients ≡ s.clients
read_done s t c (shown, is) =
    by_read (λ o. o ≡ Performed t shown → t.clients ≡ s.clients) (λ r e. absurd (cc)) s c (λ x at below on e. ap (λ (u : State). u.clients) (sym (same_state _ t _ shown e))) is

-- the event of a read, and how long its list is
pub read_is : (s t : State) (l : Counts) (c : ℕ) (doc : List Tagged) (seen : List ℕ) → LeadsTo (step s (Read c)) t → ClientHas t c (λ x. x.list) doc → seen ≡ seen_by l c (get_or s.clients c absent)
    → read_event c (tags doc) seen ∷ [] ≡ event_at s l (Read c)
read_is s t l c doc seen leads has seen_is =
    let list : (get_or s.clients c absent).list ≡ doc = ap (λ xs. (get_or xs c absent).list) (sym (read_done s t c leads)) ∙ client_is t c (λ x. x.list) doc has in
    ap (λ d. read_event c (tags d) seen ∷ []) (sym list) ∙ ap (λ r. read_event c (tags (get_or s.clients c absent).list) r ∷ []) seen_is
