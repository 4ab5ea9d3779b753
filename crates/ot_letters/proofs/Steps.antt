-- The table with other letters.
use Rattle.std.proofs.Common.{◌≡◌, ℕ, zero, suc, ◌+◌, ◌-◌, List, [], ◌∷◌, ◌++◌, map, length, drop, replicate, Bool, true, false, Option, Some, None, refl, sym, ap, ◌∙◌}
use Rattle.std.proofs.lemmas.List.{length-map, map-append, drop-map, map-set}
use Rattle.std.proofs.lemmas.Option.{slice_get-map}
use Rattle.std.specs.Prelude.{option_map, slice_get, nat_lt, nat_le, not, ◌==◌, if◌then◌else◌}
use Rattle.ot_codes.specs.Shape.{mapped_item, mapped}
use Rattle.ot_codes.proofs.Mapped.{same_parts, compose-mapped, first_after-mapped, second_after-mapped}
use Rattle.ot_operation.specs.Operation.{Item, Old, New}
use Rattle.ot_client.specs.State as client
use Rattle.ot_server.specs.History.{transform_over}
use Rattle.ot_isa.specs.declared.elements.Tagged.{Tagged}
use Rattle.ot_isa.specs.declared.instruction.Instr.{Instr}
use Rattle.ot_isa.specs.declared.instruction.Instr.TheVariants.{Edit, Take, Deliver, Acknowledge, Read, Join, ReadServer}
use Rattle.ot_isa.specs.Tagging.{tagged_chars, tagged_items, tagged_char}
use Rattle.ot_isa.specs.declared.tagging.TheConstants.{INSERTED_LIMIT}
use Rattle.ot_model.specs.declared.limits.TheConstants.{STEP_LIMIT}
use Rattle.ot_model.specs.declared.shown.Refusal.TheVariants as refusal
use Rattle.ot_model.specs.declared.shown.Refusal.TheVariants.{StepsFull, AlreadyJoined, BadBase, ClientFull, WrongHead}
use Rattle.ot_model.specs.declared.shown.Reader.TheVariants as reader
use Rattle.ot_model.specs.Operation.{Operation, apply, inserted}
use Rattle.ot_model.specs.Table.{start_list, tag_operation, Entry, Message, Phase, NotJoined, Synchronized, AwaitingConfirm, AwaitingWithBuffer, is_joined, Client, State, absent, present_with, opening, Head, Ack, Op, head_for, downlink, Outcome, Performed, Refused, with_client, phase_edited, message_edited, edited, edit_row, taken, take_row, phase_delivered, against_pending, delivered, deliver_row, acknowledged, with_row, acknowledge_row, joined, join_row, shows, if_joined, row, unless_full, at_client, step}
use Rattle.ot_letters.specs.Letters.{with_letter, mapped_list, mapped_operation, mapped_edit, mapped_instr, mapped_message, mapped_entry, mapped_phase, mapped_client, mapped_state, mapped_head, mapped_outcome}
use Rattle.ot_letters.proofs.Operations.{apply-mapped, length-news-mapped}
use Rattle.ot_letters.proofs.Sides.{transform_over-mapped}

-- ---- tags

tagged_items-mapped :
    (f : ℕ → ℕ) (origin first : ℕ) (items : List (Item ℕ))
    → tagged_items origin first (map (mapped_item f) items) ≡ map (mapped_item (with_letter f)) (tagged_items origin first items)
tagged_items-mapped f origin first [] = refl
tagged_items-mapped f origin first (Old i ∷ items) = ap (λ rest. Old i ∷ rest) (tagged_items-mapped f origin first items)
tagged_items-mapped f origin first (New ch ∷ items) = ap (λ rest. New (tagged_char origin first (f ch)) ∷ rest) (tagged_items-mapped f origin (suc first) items)

pub tag-mapped : (f : ℕ → ℕ) (origin serial : ℕ) (op : Operation ℕ) → tag_operation origin serial (mapped_edit f op) ≡ mapped_operation f (tag_operation origin serial op)
tag-mapped f origin serial op = same_parts _ _ _ _ refl (tagged_items-mapped f origin serial op.image)

tagged_chars-mapped : (f : ℕ → ℕ) (origin first : ℕ) (text : List ℕ) → tagged_chars origin first (map f text) ≡ mapped_list f (tagged_chars origin first text)
tagged_chars-mapped f origin first [] = refl
tagged_chars-mapped f origin first (ch ∷ text) = ap (λ rest. tagged_char origin first (f ch) ∷ rest) (tagged_chars-mapped f origin (suc first) text)

-- ---- the opening

replicate-mapped : {X Y : Type 0} (f : X → Y) (n : ℕ) (x : X) → map f (replicate n x) ≡ replicate n (f x)
replicate-mapped f zero x = refl
replicate-mapped f (suc n) x = ap (λ rest. f x ∷ rest) (replicate-mapped f n x)

clients-mapped :
    (f : ℕ → ℕ) (n m : ℕ) (list : List Tagged)
    → map (mapped_client f) (replicate n (present_with list) ++ replicate m absent) ≡ replicate n (present_with (mapped_list f list)) ++ replicate m absent
clients-mapped f n m list =
    map-append (mapped_client f) (replicate n (present_with list)) (replicate m absent)
    ∙ rw (replicate-mapped (mapped_client f) n (present_with list), replicate-mapped (mapped_client f) m absent) refl

pub opening-mapped : (f : ℕ → ℕ) (clients present : ℕ) (text : List ℕ) → opening clients present (map f text) ≡ mapped_state f (opening clients present text)
opening-mapped f clients present text =
    ap (λ (list : List Tagged). record { log = []; server = list; clients = replicate present (present_with list) ++ replicate (clients - present) absent; steps = 0 })
    (tagged_chars-mapped f 65535 0 text)
    ∙ ap (λ (xs : List Client). record { log = []; server = mapped_list f (start_list text); clients = xs; steps = 0 })
    (sym (clients-mapped f present (clients - present) (start_list text)))

-- ---- parts of a state

pub joined-mapped : (f : ℕ → ℕ) (phase : Phase) → is_joined (mapped_phase f phase) ≡ is_joined phase
joined-mapped f NotJoined = refl
joined-mapped f Synchronized = refl
joined-mapped f (AwaitingConfirm o) = refl
joined-mapped f (AwaitingWithBuffer o b) = refl

inserted-mapped : {A B : Type 0} (f : A → B) (op : Operation A) → inserted (mapped f op) ≡ inserted op
inserted-mapped f op = length-news-mapped f op.image

with_client-mapped : (f : ℕ → ℕ) (s : State) (c : ℕ) (x : Client) → with_client (mapped_state f s) c (mapped_client f x) ≡ mapped_state f (with_client s c x)
with_client-mapped f s c x =
    ap (λ (xs : List Client). record { log = map (mapped_entry f) s.log; server = mapped_list f s.server; clients = xs; steps = suc s.steps })
    (sym (map-set (mapped_client f) s.clients c x))

same_client :
    (revision count : ℕ) (p q : Phase) (l m : List Tagged) (a b : Option Message) → p ≡ q → l ≡ m → a ≡ b
    → ◌≡◌ {A = Client} (record { revision = revision; phase = p; list = l; count = count; message = a }) (record { revision = revision; phase = q; list = m; count = count; message = b })
same_client revision count p q l m a b phases lists messages = rw (phases, lists, messages) refl

head_for-mapped : (f : ℕ → ℕ) (c : ℕ) (own : Bool) (entry : Entry) → (if own then Ack else Op (mapped_operation f entry.op)) ≡ mapped_head f (if own then Ack else Op entry.op)
head_for-mapped f c true entry = refl
head_for-mapped f c false entry = refl

heads-mapped : (f : ℕ → ℕ) (c : ℕ) (log : List Entry) → map (head_for c) (map (mapped_entry f) log) ≡ map (mapped_head f) (map (head_for c) log)
heads-mapped f c [] = refl
heads-mapped f c (entry ∷ log) =
    ap (λ (h : Head). h ∷ map (head_for c) (map (mapped_entry f) log)) (head_for-mapped f c (entry.maker == c) entry)
    ∙ ap (λ (rest : List Head). mapped_head f (head_for c entry) ∷ rest) (heads-mapped f c log)

link-mapped : (f : ℕ → ℕ) (on : Bool) (heads : List Head) → (if on then map (mapped_head f) heads else []) ≡ map (mapped_head f) (if on then heads else [])
link-mapped f true heads = refl
link-mapped f false heads = refl

pub downlink-mapped : (f : ℕ → ℕ) (s : State) (c : ℕ) (x : Client) → downlink (mapped_state f s) c (mapped_client f x) ≡ map (mapped_head f) (downlink s c x)
downlink-mapped f s c x =
    ap (λ (on : Bool). if on then map (head_for c) (drop x.revision (map (mapped_entry f) s.log)) else []) (joined-mapped f x.phase)
    ∙ ap (λ (heads : List Head). if is_joined x.phase then heads else [])
    (ap (map (head_for c)) (drop-map (mapped_entry f) x.revision s.log) ∙ heads-mapped f c (drop x.revision s.log))
    ∙ link-mapped f (is_joined x.phase) (map (head_for c) (drop x.revision s.log))

-- ---- checks

if-mapped : (f : ℕ → ℕ) (b : Bool) (x y : Outcome) → (if b then mapped_outcome f x else mapped_outcome f y) ≡ mapped_outcome f (if b then x else y)
if-mapped f true x y = refl
if-mapped f false x y = refl

performed-mapped : (f : ℕ → ℕ) (s t : State) → s ≡ mapped_state f t → ◌≡◌ {A = Outcome} (Performed s None) (mapped_outcome f (Performed t None))
performed-mapped f s t same = ap (λ (u : State). Performed u None) same

-- ---- the rows

-- Edit

phase_edited-mapped : (f : ℕ → ℕ) (phase : Phase) (op : Operation Tagged) → phase_edited (mapped_phase f phase) (mapped_operation f op) ≡ mapped_phase f (phase_edited phase op)
phase_edited-mapped f NotJoined op = refl
phase_edited-mapped f Synchronized op = refl
phase_edited-mapped f (AwaitingConfirm o) op = refl
phase_edited-mapped f (AwaitingWithBuffer o b) op = ap (λ (w : Operation Tagged). AwaitingWithBuffer (mapped_operation f o) w) (sym (compose-mapped (with_letter f) b op))

message_edited-mapped :
    (f : ℕ → ℕ) (phase : Phase) (x : Client) (op : Operation Tagged)
    → message_edited (mapped_phase f phase) (mapped_client f x) (mapped_operation f op) ≡ option_map (mapped_message f) (message_edited phase x op)
message_edited-mapped f NotJoined x op = refl
message_edited-mapped f Synchronized x op = refl
message_edited-mapped f (AwaitingConfirm o) x op = refl
message_edited-mapped f (AwaitingWithBuffer o b) x op = refl

edited-mapped : (f : ℕ → ℕ) (x : Client) (op : Operation Tagged) → edited (mapped_client f x) (mapped_operation f op) ≡ mapped_client f (edited x op)
edited-mapped f x op =
    ap (λ (n : ℕ). record { revision = x.revision; phase = phase_edited (mapped_phase f x.phase) (mapped_operation f op); list = apply (mapped_operation f op) (mapped_list f x.list); count = x.count + n; message = message_edited (mapped_phase f x.phase) (mapped_client f x) (mapped_operation f op) }) (inserted-mapped (with_letter f) op)
    ∙ same_client x.revision (x.count + inserted op) _ _ _ _ _ _ (phase_edited-mapped f x.phase op) (apply-mapped (with_letter f) op x.list) (message_edited-mapped f x.phase x op)

edit_done-mapped :
    (f : ℕ → ℕ) (s : State) (c : ℕ) (x : Client) (op : Operation ℕ)
    → with_client (mapped_state f s) c (edited (mapped_client f x) (tag_operation c x.count (mapped_edit f op))) ≡ mapped_state f (with_client s c (edited x (tag_operation c x.count op)))
edit_done-mapped f s c x op =
    ap (λ (o : Operation Tagged). with_client (mapped_state f s) c (edited (mapped_client f x) o)) (tag-mapped f c x.count op)
    ∙ ap (with_client (mapped_state f s) c) (edited-mapped f x (tag_operation c x.count op))
    ∙ with_client-mapped f s c (edited x (tag_operation c x.count op))

edit_checks-mapped :
    (f : ℕ → ℕ) (bad full : Bool) (done : State)
    → ◌≡◌ {A = Outcome} (if bad then Refused BadBase else if full then Refused ClientFull else Performed (mapped_state f done) None)
    (mapped_outcome f (if bad then Refused BadBase else if full then Refused ClientFull else Performed done None))
edit_checks-mapped f true full done = refl
edit_checks-mapped f false true done = refl
edit_checks-mapped f false false done = refl

edit_row-mapped : (f : ℕ → ℕ) (s : State) (c : ℕ) (x : Client) (op : Operation ℕ) → edit_row (mapped_state f s) c (mapped_client f x) (mapped_edit f op) ≡ mapped_outcome f (edit_row s c x op)
edit_row-mapped f s c x op =
    let after : State = with_client (mapped_state f s) c (edited (mapped_client f x) (tag_operation c x.count (mapped_edit f op))) in
    ap (λ (n : ℕ). if not (op.base == n) then Refused BadBase else if nat_lt INSERTED_LIMIT (x.count + inserted (mapped_edit f op)) then Refused ClientFull else Performed after None) (length-map x.list (with_letter f))
    ∙ ap (λ (n : ℕ). if not (op.base == length x.list) then Refused BadBase else if nat_lt INSERTED_LIMIT (x.count + n) then Refused ClientFull else Performed after None) (inserted-mapped f op)
    ∙ ap (λ (t : State). if not (op.base == length x.list) then Refused BadBase else if nat_lt INSERTED_LIMIT (x.count + inserted op) then Refused ClientFull else Performed t None) (edit_done-mapped f s c x op)
    ∙ edit_checks-mapped f (not (op.base == length x.list)) (nat_lt INSERTED_LIMIT (x.count + inserted op)) (with_client s c (edited x (tag_operation c x.count op)))

-- Take

same_state : (l m : List Entry) (a b : List Tagged) (x y : List Client) (steps : ℕ) → l ≡ m → a ≡ b → x ≡ y → ◌≡◌ {A = State} (record { log = l; server = a; clients = x; steps = steps }) (record { log = m; server = b; clients = y; steps = steps })
same_state l m a b x y steps logs lists clients = rw (logs, lists, clients) refl

taken-mapped : (f : ℕ → ℕ) (s : State) (c : ℕ) (x : Client) (m : Operation Tagged) → taken (mapped_state f s) c (mapped_client f x) (mapped_operation f m) ≡ mapped_state f (taken s c x m)
taken-mapped f s c x m =
    same_state _ _ _ _ _ _ (suc s.steps)
    (sym (map-append (mapped_entry f) s.log (record { maker = c; op = m } ∷ [])))
    (apply-mapped (with_letter f) m s.server)
    (sym (map-set (mapped_client f) s.clients c (record { revision = x.revision; phase = x.phase; list = x.list; count = x.count; message = None })))

take_row-mapped :
    (f : ℕ → ℕ) (s : State) (c : ℕ) (x : Client) (m : Option Message)
    → take_row (mapped_state f s) c (mapped_client f x) (option_map (mapped_message f) m) ≡ mapped_outcome f (take_row s c x m)
take_row-mapped f s c x None = refl
take_row-mapped f s c x (Some m) =
    performed-mapped f _ _
    (ap (λ (log : List Entry). taken (mapped_state f s) c (mapped_client f x) (transform_over (mapped_operation f m.op) log)) (drop-map (mapped_entry f) m.revision s.log)
    ∙ ap (taken (mapped_state f s) c (mapped_client f x)) (transform_over-mapped (with_letter f) m.op (drop m.revision s.log))
    ∙ taken-mapped f s c x (transform_over m.op (drop m.revision s.log)))

-- Deliver

phase_delivered-mapped : (f : ℕ → ℕ) (phase : Phase) (h : Operation Tagged) → phase_delivered (mapped_phase f phase) (mapped_operation f h) ≡ mapped_phase f (phase_delivered phase h)
phase_delivered-mapped f NotJoined h = refl
phase_delivered-mapped f Synchronized h = refl
phase_delivered-mapped f (AwaitingConfirm o) h = ap AwaitingConfirm (sym (first_after-mapped (with_letter f) o h))
phase_delivered-mapped f (AwaitingWithBuffer o b) h =
    rw (← first_after-mapped (with_letter f) o h, ← second_after-mapped (with_letter f) o h, ← first_after-mapped (with_letter f) b (client.against_pending (client.AwaitingConfirm o) h)) refl

against_pending-mapped : (f : ℕ → ℕ) (phase : Phase) (h : Operation Tagged) → against_pending (mapped_phase f phase) (mapped_operation f h) ≡ mapped_operation f (against_pending phase h)
against_pending-mapped f NotJoined h = refl
against_pending-mapped f Synchronized h = refl
against_pending-mapped f (AwaitingConfirm o) h = sym (second_after-mapped (with_letter f) o h)
against_pending-mapped f (AwaitingWithBuffer o b) h =
    rw (← second_after-mapped (with_letter f) o h) (sym (second_after-mapped (with_letter f) b (client.against_pending (client.AwaitingConfirm o) h)))

delivered-mapped : (f : ℕ → ℕ) (x : Client) (h : Operation Tagged) → delivered (mapped_client f x) (mapped_operation f h) ≡ mapped_client f (delivered x h)
delivered-mapped f x h =
    same_client (suc x.revision) x.count _ _ _ _ _ _ (phase_delivered-mapped f x.phase h)
    (ap (λ (o : Operation Tagged). apply o (mapped_list f x.list)) (against_pending-mapped f x.phase h) ∙ apply-mapped (with_letter f) (against_pending x.phase h) x.list)
    refl

deliver_row-mapped :
    (f : ℕ → ℕ) (s : State) (c : ℕ) (x : Client) (h : Option Entry)
    → deliver_row (mapped_state f s) c (mapped_client f x) (option_map (mapped_entry f) h) ≡ mapped_outcome f (deliver_row s c x h)
deliver_row-mapped f s c x None = refl
deliver_row-mapped f s c x (Some h) =
    ap (λ (t : State). if h.maker == c then Refused WrongHead else Performed t None)
    (ap (with_client (mapped_state f s) c) (delivered-mapped f x h.op) ∙ with_client-mapped f s c (delivered x h.op))
    ∙ if-mapped f (h.maker == c) (Refused WrongHead) (Performed (with_client s c (delivered x h.op)) None)

-- Acknowledge

acknowledged-mapped : (f : ℕ → ℕ) (x : Client) (phase : Phase) → acknowledged (mapped_client f x) (mapped_phase f phase) ≡ option_map (mapped_client f) (acknowledged x phase)
acknowledged-mapped f x NotJoined = refl
acknowledged-mapped f x Synchronized = refl
acknowledged-mapped f x (AwaitingConfirm o) = refl
acknowledged-mapped f x (AwaitingWithBuffer o b) = refl

with_row-mapped : (f : ℕ → ℕ) (s : State) (c : ℕ) (x : Option Client) → with_row (mapped_state f s) c (option_map (mapped_client f) x) ≡ mapped_outcome f (with_row s c x)
with_row-mapped f s c None = refl
with_row-mapped f s c (Some x) = performed-mapped f _ _ (with_client-mapped f s c x)

acknowledge_row-mapped :
    (f : ℕ → ℕ) (s : State) (c : ℕ) (x : Client) (h : Option Entry)
    → acknowledge_row (mapped_state f s) c (mapped_client f x) (option_map (mapped_entry f) h) ≡ mapped_outcome f (acknowledge_row s c x h)
acknowledge_row-mapped f s c x None = refl
acknowledge_row-mapped f s c x (Some h) =
    ap (λ (o : Outcome). if h.maker == c then o else Refused WrongHead)
    (ap (with_row (mapped_state f s) c) (acknowledged-mapped f x x.phase) ∙ with_row-mapped f s c (acknowledged x x.phase))
    ∙ if-mapped f (h.maker == c) (with_row s c (acknowledged x x.phase)) (Refused WrongHead)

-- Join

joins-mapped : (f : ℕ → ℕ) (s : State) (x : Client) → joined (mapped_state f s) (mapped_client f x) ≡ mapped_client f (joined s x)
joins-mapped f s x =
    ap (λ (n : ℕ). record { revision = n; phase = Synchronized; list = mapped_list f s.server; count = x.count; message = option_map (mapped_message f) x.message })
    (length-map s.log (mapped_entry f))

join_row-mapped : (f : ℕ → ℕ) (s : State) (c : ℕ) (x : Client) → join_row (mapped_state f s) c (mapped_client f x) ≡ mapped_outcome f (join_row s c x)
join_row-mapped f s c x =
    ap (λ (on : Bool). if on then Refused AlreadyJoined else Performed (with_client (mapped_state f s) c (joined (mapped_state f s) (mapped_client f x))) None) (joined-mapped f x.phase)
    ∙ ap (λ (t : State). if is_joined x.phase then Refused AlreadyJoined else Performed t None)
    (ap (with_client (mapped_state f s) c) (joins-mapped f s x) ∙ with_client-mapped f s c (joined s x))
    ∙ if-mapped f (is_joined x.phase) (Refused AlreadyJoined) (Performed (with_client s c (joined s x)) None)

-- ---- a step

if_joined-mapped : (f : ℕ → ℕ) (x : Client) (o : Outcome) → if_joined (mapped_client f x) (mapped_outcome f o) ≡ mapped_outcome f (if_joined x o)
if_joined-mapped f x o =
    ap (λ (on : Bool). if on then mapped_outcome f o else Refused refusal.NotJoined) (joined-mapped f x.phase) ∙ if-mapped f (is_joined x.phase) o (Refused refusal.NotJoined)

of_joined : (f : ℕ → ℕ) (x : Client) (p o : Outcome) → p ≡ mapped_outcome f o → if_joined (mapped_client f x) p ≡ mapped_outcome f (if_joined x o)
of_joined f x p o same = ap (if_joined (mapped_client f x)) same ∙ if_joined-mapped f x o

row-mapped : (f : ℕ → ℕ) (s : State) (i : Instr) (c : ℕ) (x : Client) → row (mapped_state f s) (mapped_instr f i) c (mapped_client f x) ≡ mapped_outcome f (row s i c x)
row-mapped f s (Edit d op) c x = of_joined f x _ _ (edit_row-mapped f s c x op)
row-mapped f s (Take d) c x = of_joined f x _ _ (take_row-mapped f s c x x.message)
row-mapped f s (Deliver d) c x =
    of_joined f x _ _
    (ap (deliver_row (mapped_state f s) c (mapped_client f x)) (slice_get-map (mapped_entry f) s.log x.revision) ∙ deliver_row-mapped f s c x (slice_get s.log x.revision))
row-mapped f s (Acknowledge d) c x =
    of_joined f x _ _
    (ap (acknowledge_row (mapped_state f s) c (mapped_client f x)) (slice_get-map (mapped_entry f) s.log x.revision) ∙ acknowledge_row-mapped f s c x (slice_get s.log x.revision))
row-mapped f s (Join d) c x = join_row-mapped f s c x
row-mapped f s (Read d) c x = of_joined f x _ _ refl
row-mapped f s ReadServer c x = refl

unless_full-mapped : (f : ℕ → ℕ) (s : State) (o : Outcome) → unless_full (mapped_state f s) (mapped_outcome f o) ≡ mapped_outcome f (unless_full s o)
unless_full-mapped f s o = if-mapped f (nat_le STEP_LIMIT s.steps) (Refused StepsFull) o

at_client-mapped :
    (f : ℕ → ℕ) (s : State) (i : Instr) (c : ℕ) (x : Option Client)
    → at_client (mapped_state f s) (mapped_instr f i) c (option_map (mapped_client f) x) ≡ mapped_outcome f (at_client s i c x)
at_client-mapped f s i c None = refl
at_client-mapped f s i c (Some x) = ap (unless_full (mapped_state f s)) (row-mapped f s i c x) ∙ unless_full-mapped f s (row s i c x)

of_client : (f : ℕ → ℕ) (s : State) (i : Instr) (c : ℕ) → at_client (mapped_state f s) (mapped_instr f i) c (slice_get (map (mapped_client f) s.clients) c) ≡ mapped_outcome f (at_client s i c (slice_get s.clients c))
of_client f s i c =
    ap (at_client (mapped_state f s) (mapped_instr f i) c) (slice_get-map (mapped_client f) s.clients c) ∙ at_client-mapped f s i c (slice_get s.clients c)

pub step-mapped : (f : ℕ → ℕ) (s : State) (i : Instr) → step (mapped_state f s) (mapped_instr f i) ≡ mapped_outcome f (step s i)
step-mapped f s (Edit c op) = of_client f s (Edit c op) c
step-mapped f s (Take c) = of_client f s (Take c) c
step-mapped f s (Deliver c) = of_client f s (Deliver c) c
step-mapped f s (Acknowledge c) = of_client f s (Acknowledge c) c
step-mapped f s (Join c) = of_client f s (Join c) c
step-mapped f s (Read c) = of_client f s (Read c) c
step-mapped f s ReadServer = unless_full-mapped f s (shows s reader.Server s.server)
