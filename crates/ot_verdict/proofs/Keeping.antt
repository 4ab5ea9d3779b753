-- No instruction but an edit changes what the documents become, where at most one client has edits that the server has not taken.
use Rattle.std.proofs.Common.{◌≡◌, ℕ, suc, ◌≤◌, ◌≢◌, List, [], ◌∷◌, ◌++◌, length, drop, set, refl, sym, ap, ◌∙◌, subst, inl, inr, Bool, true, false, Some, None}
use Rattle.std.proofs.lemmas.Bool.{cases_eq, cond-true, cond-false, eq-eqb, ne_eqb}
use Rattle.std.proofs.lemmas.List.{drop-append-le}
use Rattle.std.proofs.lemmas.Option.{same_Some}
use Rattle.std.specs.Prelude.{◌||◌, ◌==◌, slice_get, is_some, if◌then◌else◌}
use Rattle.ot_isa.specs.declared.elements.Tagged.{Tagged}
use Rattle.ot_isa.specs.declared.instruction.Instr.{Instr}
use Rattle.ot_isa.specs.declared.instruction.Instr.TheVariants.{Edit, Take, Deliver, Acknowledge, Join, Read, ReadServer}
use Rattle.ot_model.specs.Operation.{Operation, apply}
use Rattle.ot_model.specs.Sound.{IsSound}
use Rattle.ot_model.specs.Table.{Phase, NotJoined, Synchronized, AwaitingConfirm, AwaitingWithBuffer, is_joined, Client, Entry, State, Outcome, Performed, Refused, NoRow, acknowledged, against_pending, delivered, joined, phase_delivered, step, taken, with_client, with_row}
use Rattle.ot_model.proofs.Outcomes.{by_take, by_deliver, by_acknowledge, by_join, by_read, by_read_server}
use Rattle.ot_model.proofs.States.{drop_entry, each_after, joined_delivered, slice_get-set_other, slice_get-set_same}
use Rattle.ot_verdict.specs.Pending.{has_buffer, has_untaken}
use Rattle.ot_verdict.specs.Ending.{list_after, phase_confirmed, received}
use Rattle.ot_verdict.specs.Laws.{IsNoEdit}
use Rattle.ot_verdict.proofs.Idle.{AreIdle, has_buffer_delivered, idle_buffer, idle_message, idle_sends_nothing, or_false_false}

-- what holds of the state that is made, where the instruction is performed
abbrev pub Kept : (State → Type 0) → Outcome → Type 0
Kept P (Performed t shown) = P t
Kept P (Refused r) = Unit {0}
Kept P NoRow = Unit {0}

-- a client changed
set_idle : (clients : List Client) (c : ℕ) (x y : Client) → slice_get clients c ≡ Some x → AreIdle clients → has_untaken y ≡ false → AreIdle (set clients c y)
set_idle clients c x y at idle here = each_after (λ d z. has_untaken z ≡ false) (λ d z. has_untaken z ≡ false) clients c x y at idle here (λ d z other h. h)

delivered_idle : (x : Client) (h : Operation Tagged) → has_untaken x ≡ false → has_untaken (delivered x h) ≡ false
delivered_idle x h idle = ap (λ (b : Bool). is_some x.message || b) (has_buffer_delivered x.phase h) ∙ idle

joined_idle : (s : State) (x : Client) → has_untaken x ≡ false → has_untaken (joined s x) ≡ false
joined_idle s x idle = or_false_false (is_some x.message) (idle_message x idle)

-- an acknowledgement to an idle client
acknowledged_idle : (P : State → Type 0) (s : State) (c : ℕ) (x : Client) → has_untaken x ≡ false → ((y : Client) → has_untaken y ≡ false → P (with_client s c y)) → (phase : Phase) → x.phase ≡ phase → Kept P (with_row s c (acknowledged x phase))
acknowledged_idle P s c x idle fine NotJoined is = tt
acknowledged_idle P s c x idle fine Synchronized is = tt
acknowledged_idle P s c x idle fine (AwaitingConfirm o) is =
    fine (record { revision = suc x.revision; phase = Synchronized; list = x.list; count = x.count; message = x.message }) (or_false_false (is_some x.message) (idle_message x idle))
acknowledged_idle P s c x idle fine (AwaitingWithBuffer o b) is = absurd (let clash : true ≡ false = sym (ap has_buffer is) ∙ idle_buffer x idle in cc)

-- ---- no client has such edits: the server's list stays

abbrev pub IsStill : List Tagged → State → Type 0
IsStill list s = (s.server ≡ list) × AreIdle s.clients

pub still : (list : List Tagged) (s : State) (i : Instr) → IsNoEdit i → IsStill list s → Kept (IsStill list) (step s i)
still list s (Edit c op) plain (same, idle) = absurd plain
still list s (Take c) plain (same, idle) = by_take (Kept (IsStill list)) (λ r. tt) s c (λ x m at below on sent. absurd (idle_sends_nothing x m (idle c x at) sent))
still list s (Deliver c) plain (same, idle) = by_deliver (Kept (IsStill list)) (λ r. tt) s c (λ x h at below on head other.
    (same, set_idle s.clients c x (delivered x h.op) at idle (delivered_idle x h.op (idle c x at))))
still list s (Acknowledge c) plain (same, idle) = by_acknowledge (Kept (IsStill list)) (λ r. tt) s c (λ x h at below on head own.
    acknowledged_idle (IsStill list) s c x (idle c x at) (λ y quiet. (same, set_idle s.clients c x y at idle quiet)) x.phase refl)
still list s (Join c) plain (same, idle) = by_join (Kept (IsStill list)) (λ r. tt) s c (λ x at below off.
    (same, set_idle s.clients c x (joined s x) at idle (joined_idle s x (idle c x at))))
still list s (Read c) plain (same, idle) = by_read (Kept (IsStill list)) (λ r. tt) s c (λ x at below on. (same, idle))
still list s ReadServer plain (same, idle) = by_read_server (Kept (IsStill list)) (λ r. tt) s (λ below. (same, idle))

-- ---- client c alone may have such edits: its list with all that is on its way to it stays

pub record IsOne (c : ℕ) (list : List Tagged) (s : State) : Type 0 where
  pub client : Client
  pub at : slice_get s.clients c ≡ Some client
  pub joined : is_joined client.phase ≡ true
  pub ends : received s c client ≡ list
  pub others : (d : ℕ) (x : Client) → slice_get s.clients d ≡ Some x → d ≢ c → has_untaken x ≡ false

-- the client itself changed
own_changed : (c : ℕ) (list : List Tagged) (s : State) (x y : Client) → IsOne c list s → slice_get s.clients c ≡ Some x → is_joined y.phase ≡ true → received s c y ≡ list → IsOne c list (with_client s c y)
own_changed c list s x y one at on ends =
    record {
      client = y;
      at = slice_get-set_same s.clients c x y at;
      joined = on;
      ends = ends;
      others = each_after (λ d z. d ≢ c → has_untaken z ≡ false) (λ d z. d ≢ c → has_untaken z ≡ false) s.clients c x y at one.others (λ other. absurd (other refl)) (λ d z other h. h);
    }

-- another one changed
other_changed : (c d : ℕ) (list : List Tagged) (s : State) (x y : Client) → IsOne c list s → slice_get s.clients d ≡ Some x → d ≢ c → has_untaken y ≡ false → IsOne c list (with_client s d y)
other_changed c d list s x y one at other idle =
    record {
      client = one.client;
      at = slice_get-set_other s.clients d c y (λ e. other (sym e)) ∙ one.at;
      joined = one.joined;
      ends = one.ends;
      others = each_after (λ e z. e ≢ c → has_untaken z ≡ false) (λ e z. e ≢ c → has_untaken z ≡ false) s.clients d x y at one.others (λ _. idle) (λ e z _ h. h);
    }

-- a delivery to the client
deliver_own : (c : ℕ) (list : List Tagged) (s : State) (x : Client) (h : Entry) → IsOne c list s → slice_get s.clients c ≡ Some x → is_joined x.phase ≡ true → slice_get s.log x.revision ≡ Some h → h.maker ≢ c
    → IsOne c list (with_client s c (delivered x h.op))
deliver_own c list s x h one at on head other =
    let was : received s c x ≡ list = ap (received s c) (same_Some x one.client (sym at ∙ one.at)) ∙ one.ends in
    let ahead = drop (suc x.revision) s.log in
    let next : received s c x ≡ list_after c ahead (phase_delivered x.phase h.op) (apply (against_pending x.phase h.op) x.list) =
    ap (λ (log : List Entry). list_after c log x.phase x.list) (drop_entry s.log x.revision h head)
    ∙ cond-false (h.maker == c) (list_after c ahead (phase_confirmed x.phase) x.list) (list_after c ahead (phase_delivered x.phase h.op) (apply (against_pending x.phase h.op) x.list)) (ne_eqb h.maker c other) in
    own_changed c list s x (delivered x h.op) one at (joined_delivered x.phase h.op on) (sym next ∙ was)

-- an acknowledgement to the client
acknowledge_own : (c : ℕ) (list : List Tagged) (s : State) (x : Client) (h : Entry) → IsOne c list s → slice_get s.clients c ≡ Some x → slice_get s.log x.revision ≡ Some h → h.maker ≡ c
    → (phase : Phase) → x.phase ≡ phase → Kept (IsOne c list) (with_row s c (acknowledged x phase))
acknowledge_own c list s x h one at head own phase is =
    let was : received s c x ≡ list = ap (received s c) (same_Some x one.client (sym at ∙ one.at)) ∙ one.ends in
    let ahead = drop (suc x.revision) s.log in
    let next : received s c x ≡ list_after c ahead (phase_confirmed x.phase) x.list =
    ap (λ (log : List Entry). list_after c log x.phase x.list) (drop_entry s.log x.revision h head)
    ∙ cond-true (h.maker == c) (list_after c ahead (phase_confirmed x.phase) x.list) (list_after c ahead (phase_delivered x.phase h.op) (apply (against_pending x.phase h.op) x.list)) (eq-eqb h.maker c own) in
    let now : list_after c ahead (phase_confirmed phase) x.list ≡ list = ap (λ (p : Phase). list_after c ahead (phase_confirmed p) x.list) (sym is) ∙ sym next ∙ was in
    go phase now
  where
    go : (p : Phase) → list_after c (drop (suc x.revision) s.log) (phase_confirmed p) x.list ≡ list → Kept (IsOne c list) (with_row s c (acknowledged x p))
    go NotJoined now = tt
    go Synchronized now = tt
    go (AwaitingConfirm o) now =
        own_changed c list s x (record { revision = suc x.revision; phase = Synchronized; list = x.list; count = x.count; message = x.message }) one at refl now
    go (AwaitingWithBuffer o b) now =
        own_changed c list s x (record { revision = suc x.revision; phase = AwaitingConfirm b; list = x.list; count = x.count; message = Some (record { revision = suc x.revision; op = b }) }) one at refl now

-- the client's own entry at the end of the log
own_at_last : (c : ℕ) (op : Operation Tagged) (log : List Entry) (phase : Phase) (list : List Tagged) → list_after c (log ++ record { maker = c; op = op } ∷ []) phase list ≡ list_after c log phase list
own_at_last c op [] phase list = cond-true (c == c) list (apply (against_pending phase op) list) (eq-eqb c c refl)
own_at_last c op (h ∷ log) phase list =
    go (own_at_last c op log (phase_confirmed phase) list) (own_at_last c op log (phase_delivered phase h.op) (apply (against_pending phase h.op) list)) (h.maker == c)
  where
    go : list_after c (log ++ record { maker = c; op = op } ∷ []) (phase_confirmed phase) list ≡ list_after c log (phase_confirmed phase) list
        → list_after c (log ++ record { maker = c; op = op } ∷ []) (phase_delivered phase h.op) (apply (against_pending phase h.op) list) ≡ list_after c log (phase_delivered phase h.op) (apply (against_pending phase h.op) list)
        → (b : Bool)
        → (if b then list_after c (log ++ record { maker = c; op = op } ∷ []) (phase_confirmed phase) list else list_after c (log ++ record { maker = c; op = op } ∷ []) (phase_delivered phase h.op) (apply (against_pending phase h.op) list))
        ≡ (if b then list_after c log (phase_confirmed phase) list else list_after c log (phase_delivered phase h.op) (apply (against_pending phase h.op) list))
    go own other true = own
    go own other false = other

-- the server takes the client's message
take_own : (c : ℕ) (list : List Tagged) (s : State) (x : Client) (op : Operation Tagged) → IsSound s → IsOne c list s → slice_get s.clients c ≡ Some x → is_joined x.phase ≡ true → IsOne c list (taken s c x op)
take_own c list s x op (start, text, sound) one at on =
    let was : received s c x ≡ list = ap (received s c) (same_Some x one.client (sym at ∙ one.at)) ∙ one.ends in
    let y : Client = record { revision = x.revision; phase = x.phase; list = x.list; count = x.count; message = None } in
    let seen : x.revision ≤ length s.log = sound.seen c x at in
    let longer : drop x.revision (s.log ++ record { maker = c; op = op } ∷ []) ≡ drop x.revision s.log ++ record { maker = c; op = op } ∷ [] = drop-append-le x.revision s.log (record { maker = c; op = op } ∷ []) seen in
    record {
      client = y;
      at = slice_get-set_same s.clients c x y at;
      joined = on;
      ends = ap (λ (log : List Entry). list_after c log x.phase x.list) longer ∙ own_at_last c op (drop x.revision s.log) x.phase x.list ∙ was;
      others = each_after (λ d z. d ≢ c → has_untaken z ≡ false) (λ d z. d ≢ c → has_untaken z ≡ false) s.clients c x y at one.others (λ other. absurd (other refl)) (λ d z other h. h);
    }

pub one_kept : (c : ℕ) (list : List Tagged) (s : State) (i : Instr) → IsNoEdit i → IsSound s → IsOne c list s → Kept (IsOne c list) (step s i)
one_kept c list s (Edit d op) plain sound one = absurd plain
one_kept c list s (Take d) plain sound one = by_take (Kept (IsOne c list)) (λ r. tt) s d (λ x m at below on sent. elim (cases_eq d c) [
  | inl same ↦ subst (λ (k : ℕ). (y : Client) (op : Operation Tagged) → slice_get s.clients k ≡ Some y → is_joined y.phase ≡ true → IsOne c list (taken s k y op)) (sym same) (λ y op here joined. take_own c list s y op sound one here joined) x _ at on
  | inr other ↦ absurd (idle_sends_nothing x m (one.others d x at other) sent)
])
one_kept c list s (Deliver d) plain sound one = by_deliver (Kept (IsOne c list)) (λ r. tt) s d (λ x h at below on head other. elim (cases_eq d c) [
  | inl same ↦ subst (λ (k : ℕ). slice_get s.clients k ≡ Some x → h.maker ≢ k → IsOne c list (with_client s k (delivered x h.op))) (sym same) (λ here not_own. deliver_own c list s x h one here on head not_own) at other
  | inr apart ↦ other_changed c d list s x (delivered x h.op) one at apart (delivered_idle x h.op (one.others d x at apart))
])
one_kept c list s (Acknowledge d) plain sound one = by_acknowledge (Kept (IsOne c list)) (λ r. tt) s d (λ x h at below on head own. elim (cases_eq d c) [
  | inl same ↦ subst (λ (k : ℕ). slice_get s.clients k ≡ Some x → h.maker ≡ k → Kept (IsOne c list) (with_row s k (acknowledged x x.phase))) (sym same) (λ here is_own. acknowledge_own c list s x h one here head is_own x.phase refl) at own
  | inr apart ↦ acknowledged_idle (IsOne c list) s d x (one.others d x at apart) (λ y idle. other_changed c d list s x y one at apart idle) x.phase refl
])
one_kept c list s (Join d) plain sound one = by_join (Kept (IsOne c list)) (λ r. tt) s d (λ x at below off. elim (cases_eq d c) [
  | inl same ↦ absurd (
      let here : slice_get s.clients c ≡ Some x = ap (slice_get s.clients) (sym same) ∙ at in
      let clash : false ≡ true = sym off ∙ ap (λ (z : Client). is_joined z.phase) (same_Some x one.client (sym here ∙ one.at)) ∙ one.joined in
      cc)
  | inr apart ↦ other_changed c d list s x (joined s x) one at apart (joined_idle s x (one.others d x at apart))
])
one_kept c list s (Read d) plain sound one = by_read (Kept (IsOne c list)) (λ r. tt) s d (λ x at below on. record { client = one.client; at = one.at; joined = one.joined; ends = one.ends; others = one.others })
one_kept c list s ReadServer plain sound one = by_read_server (Kept (IsOne c list)) (λ r. tt) s (λ below. record { client = one.client; at = one.at; joined = one.joined; ends = one.ends; others = one.others })
