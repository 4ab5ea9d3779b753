-- The fold of the lines is the run: one instruction.
use Rattle.std.proofs.Common.{◌≡◌, ◌≢◌, ℕ, suc, ◌-◌, List, [], ◌∷◌, ◌++◌, length, map, set, drop, get_or, refl, sym, ap, ◌∙◌, arith, length-append, Option, Some, None, Bool, true, false}
use Rattle.std.specs.Prelude.{slice_get, ◌==◌, if◌then◌else◌, filter_map}
use Rattle.std.specs.Option.{option_map}
use Rattle.std.specs.List.{cons_option}
use Rattle.std.proofs.lemmas.List.{map-set, map-append}
use Rattle.std.proofs.lemmas.Option.{slice_get-map, get_or_from_slice_get}
use Rattle.std.proofs.lemmas.Bool.{eqb-true}
use Rattle.ot_operation.specs.Operation.{value_in, apply}
use Rattle.ot_isa.specs.declared.elements.Tagged.{Tagged}
use Rattle.ot_isa.specs.declared.instruction.Instr.{Instr}
use Rattle.ot_isa.specs.declared.instruction.Instr.TheVariants.{Edit, Take, Deliver, Acknowledge, Join, Read, ReadServer}
use Rattle.ot_isa.specs.Tagging.{chars_of, tagged_chars, tagged_items}
use Rattle.ot_model.specs.Operation.{Item, Old, New, Operation}
use Rattle.ot_model.specs.Table.{Phase, NotJoined, Synchronized, AwaitingConfirm, AwaitingWithBuffer, Client, Entry, Message, State, Outcome, Performed, Refused, NoRow, acknowledged, against_pending, delivered, edited, is_joined, joined, step, tag_operation, taken, with_row}
use Rattle.ot_model.specs.Table as table
use Rattle.ot_model.proofs.Outcomes.{by_edit, by_take, by_deliver, by_acknowledge, by_join, by_read, by_read_server}
use Rattle.ot_model.proofs.States.{slice_get-set_same}
use Rattle.ot_server.specs.History.{transform_over}
use Rattle.ot_steps.specs.Lines.{Line, plain_item, plain_message, plain_operation}
use Rattle.ot_steps.specs.Lines as lines
use Rattle.ot_machine.specs.Effects.{client_in, delivery_of, is_synchronized}
use Rattle.ot_steps.specs.Steps.{last_of, step_line}
use Rattle.ot_steps.specs.Fold.{ClientText, EntryText, Session, client_text, entry_text, folded, session_in, under_way, with_client}
use Rattle.ot_steps.specs.Fold as fold

-- ---- operations and lists without tags

cons_same : (o : Option Tagged) (xs : List Tagged) (ys : List ℕ) → ys ≡ chars_of xs → cons_option (option_map (λ (t : Tagged). t.ch) o) ys ≡ chars_of (cons_option o xs)
cons_same None xs ys e = e
cons_same (Some x) xs ys e = ap (λ (zs : List ℕ). x.ch ∷ zs) e

value_same : (list : List Tagged) (item : Item Tagged) → value_in (chars_of list) (plain_item item) ≡ option_map (λ (t : Tagged). t.ch) (value_in list item)
value_same list (Old i) = slice_get-map (λ (t : Tagged). t.ch) list i
value_same list (New x) = refl

image_same : (image : List (Item Tagged)) (list : List Tagged) → filter_map (value_in (chars_of list)) (map plain_item image) ≡ chars_of (filter_map (value_in list) image)
image_same [] list = refl
image_same (item ∷ image) list =
    ap (λ (o : Option ℕ). cons_option o (filter_map (value_in (chars_of list)) (map plain_item image))) (value_same list item)
    ∙ cons_same (value_in list item) (filter_map (value_in list) image) _ (image_same image list)

-- an operation makes of a text what it makes of the list
pub apply_plain : (op : Operation Tagged) (list : List Tagged) → apply (plain_operation op) (chars_of list) ≡ chars_of (apply op list)
unfolding apply
apply_plain op list = image_same op.image list

items_plain : (origin first : ℕ) (image : List (Item ℕ)) → map plain_item (tagged_items origin first image) ≡ image
items_plain origin first [] = refl
items_plain origin first (Old i ∷ image) = ap (λ (items : List (Item ℕ)). Old i ∷ items) (items_plain origin first image)
items_plain origin first (New x ∷ image) = ap (λ (items : List (Item ℕ)). New x ∷ items) (items_plain origin (suc first) image)

-- tagging is undone
pub plain_tagged : (origin first : ℕ) (op : Operation ℕ) → plain_operation (tag_operation origin first op) ≡ op
plain_tagged origin first op = ap (λ (image : List (Item ℕ)). record { base = op.base; image = image }) (items_plain origin first op.image)

pub chars_tagged : (origin first : ℕ) (text : List ℕ) → chars_of (tagged_chars origin first text) ≡ text
chars_tagged origin first [] = refl
chars_tagged origin first (x ∷ text) = ap (λ (chars : List ℕ). x ∷ chars) (chars_tagged origin (suc first) text)

-- ---- states

-- the client that is there
client_here : (s : State) (c : ℕ) (x : Client) → slice_get s.clients c ≡ Some x → client_in s c ≡ x
client_here s c x at = get_or_from_slice_get s.clients c x table.absent at

client_then : (s : State) (c : ℕ) (x y : Client) → slice_get s.clients c ≡ Some x → client_in (table.with_client s c y) c ≡ y
client_then s c x y at = get_or_from_slice_get (set s.clients c y) c y table.absent (slice_get-set_same s.clients c x y at)

told_here : (s : State) (c : ℕ) (x : Client) → slice_get s.clients c ≡ Some x → get_or (map client_text s.clients) c fold.absent ≡ client_text x
told_here s c x at = get_or_from_slice_get (map client_text s.clients) c (client_text x) fold.absent (slice_get-map client_text s.clients c ∙ ap (option_map client_text) at)

-- a client with another text and another message
abbrev with_parts : Client → List ℕ → Option lines.Message → ClientText
with_parts y document message = record (client_text y) { document = document; message = message }

same_parts : (y : Client) (d : List ℕ) (m : Option lines.Message) → d ≡ chars_of y.list → m ≡ option_map plain_message y.message → with_parts y d m ≡ client_text y
same_parts y d m document message =
    ap (λ (e : List ℕ). with_parts y e m) document ∙ ap (λ (n : Option lines.Message). with_parts y (chars_of y.list) n) message

-- a session with another client
client_set : (s : State) (c : ℕ) (y : Client) (told : ClientText) → told ≡ client_text y → with_client (session_in s) c told ≡ session_in (table.with_client s c y)
client_set s c y told e =
    ap (λ (z : ClientText). with_client (session_in s) c z) e
    ∙ ap (λ (clients : List ClientText). record { clients = clients; document = chars_of s.server; log = map entry_text s.log }) (sym (map-set client_text s.clients c y))

-- ---- one instruction

abbrev pub IsFolded : Bool → ℕ → Instr → State → Outcome → Type 0
IsFolded documents at i s (Performed t shown) = folded (session_in s) (step_line documents at i s t) ≡ session_in t
IsFolded documents at i s (Refused r) = Unit {0}
IsFolded documents at i s NoRow = Unit {0}

-- the last entry of a log
end_is : (log : List Entry) (h : Entry) → slice_get (log ++ h ∷ []) (length log) ≡ Some h
end_is [] h = refl
end_is (e ∷ log) h = end_is log h

last_is : (log : List Entry) (h : Entry) → last_of (log ++ h ∷ []) ≡ Some (plain_operation h.op)
last_is log h =
    let at : length (log ++ h ∷ []) - 1 ≡ length log = omega (arith, length-append log (h ∷ [])) in
    ap (λ (n : ℕ). option_map (λ (e : Entry). plain_operation e.op) (slice_get (log ++ h ∷ []) n)) at
    ∙ ap (option_map (λ (e : Entry). plain_operation e.op)) (end_is log h)

abbrev pub session : List ClientText → List ℕ → List EntryText → Session
session clients document log = record { clients = clients; document = document; log = log }

pub same_session : (xs ys : List ClientText) (d e : List ℕ) (l m : List EntryText) → xs ≡ ys → d ≡ e → l ≡ m → session xs d l ≡ session ys e m
same_session xs ys d e l m clients document log =
    rw (clients, document, log) refl

-- what a delivery applies
delivery_is : (s : State) (c : ℕ) (x : Client) (h : Entry) → is_joined x.phase ≡ true → slice_get s.log x.revision ≡ Some h → h.maker ≢ c → delivery_of s c x ≡ Some (against_pending x.phase h.op)
delivery_is s c x h on head other = rw (on, head) (by_maker (h.maker == c) refl)
  where
    by_maker : (own : Bool) → (h.maker == c) ≡ own → (if own then None else Some (against_pending x.phase h.op)) ≡ Some (against_pending x.phase h.op)
    by_maker true is = absurd (other (eqb-true h.maker c is))
    by_maker false is = refl

-- what an edit sends, by the phase before it
abbrev if_sent : Phase → Option Message → Option lines.Message
if_sent phase message = if is_synchronized phase then option_map plain_message message else None

-- the session that the line of a client's instruction gives, with the clients before and after in their place
module _ (documents : Bool) (at : ℕ) (s : State) (c : ℕ) (x : Client) (here : slice_get s.clients c ≡ Some x) where
  -- an edit
  edit_message : (phase : Phase) (o : Operation Tagged)
      → under_way (if_sent phase (table.message_edited phase x o)) (option_map plain_message x.message) ≡ option_map plain_message (table.message_edited phase x o)
  edit_message NotJoined o = refl
  edit_message Synchronized o = refl
  edit_message (AwaitingConfirm p) o = refl
  edit_message (AwaitingWithBuffer p b) o = refl

  fold_edit : (op : Operation ℕ) (o : Operation Tagged) → plain_operation o ≡ op → IsFolded documents at (Edit c op) s (Performed (table.with_client s c (edited x o)) None)
  fold_edit op o plain =
      let y = edited x o in
      rw (told_here s c x here, client_here s c x here, client_then s c x y here)
      (client_set s c y _ (same_parts y _ _ (ap (λ (p : Operation ℕ). apply p (chars_of x.list)) (sym plain) ∙ apply_plain o x.list) (edit_message x.phase o)))

  -- a delivery
  fold_deliver : (h : Entry) → is_joined x.phase ≡ true → slice_get s.log x.revision ≡ Some h → h.maker ≢ c → IsFolded documents at (Deliver c) s (Performed (table.with_client s c (delivered x h.op)) None)
  fold_deliver h on head other =
      let y = delivered x h.op in
      rw (told_here s c x here, client_here s c x here, client_then s c x y here, delivery_is s c x h on head other)
      (client_set s c y _ (same_parts y _ _ (apply_plain (against_pending x.phase h.op) x.list) refl))

  -- an acknowledgement
  fold_acknowledge : (phase : Phase) → x.phase ≡ phase → IsFolded documents at (Acknowledge c) s (with_row s c (acknowledged x phase))
  fold_acknowledge NotJoined is = tt
  fold_acknowledge Synchronized is = tt
  fold_acknowledge (AwaitingConfirm o) is =
      let y : Client = record { revision = suc x.revision; phase = Synchronized; list = x.list; count = x.count; message = x.message } in
      rw (told_here s c x here, client_here s c x here, client_then s c x y here, is)
      (client_set s c y _ refl)
  fold_acknowledge (AwaitingWithBuffer o b) is =
      let y : Client = record { revision = suc x.revision; phase = AwaitingConfirm b; list = x.list; count = x.count; message = Some (record { revision = suc x.revision; op = b }) } in
      rw (told_here s c x here, client_here s c x here, client_then s c x y here, is)
      (client_set s c y _ refl)

  -- a join
  fold_join : IsFolded documents at (Join c) s (Performed (table.with_client s c (joined s x)) None)
  fold_join =
      let y = joined s x in
      rw (told_here s c x here, client_then s c x y here)
      (client_set s c y _ refl)

  -- the server takes a message
  fold_take : (o : Operation Tagged) → IsFolded documents at (Take c) s (Performed (taken s c x o) None)
  fold_take o =
      rw (told_here s c x here, last_is s.log (record { maker = c; op = o }))
      (same_session _ _ _ _ _ _ (sym (map-set client_text s.clients c _)) (apply_plain o s.server) (sym (map-append entry_text s.log (record { maker = c; op = o } ∷ []))))

-- each instruction's line folds to the state after it
pub step_folds : (documents : Bool) (at : ℕ) (i : Instr) (s : State) → IsFolded documents at i s (step s i)
step_folds documents at (Edit c op) s = by_edit (IsFolded documents at (Edit c op) s) (λ r. tt) s c op (λ x here below on base few.
    fold_edit documents at s c x here op (tag_operation c x.count op) (plain_tagged c x.count op))
step_folds documents at (Take c) s = by_take (IsFolded documents at (Take c) s) (λ r. tt) s c (λ x m here below on under_way.
    fold_take documents at s c x here (transform_over m.op (drop m.revision s.log)))
step_folds documents at (Deliver c) s = by_deliver (IsFolded documents at (Deliver c) s) (λ r. tt) s c (λ x h here below on head other.
    fold_deliver documents at s c x here h on head other)
step_folds documents at (Acknowledge c) s = by_acknowledge (IsFolded documents at (Acknowledge c) s) (λ r. tt) s c (λ x h here below on head own.
    fold_acknowledge documents at s c x here x.phase refl)
step_folds documents at (Join c) s = by_join (IsFolded documents at (Join c) s) (λ r. tt) s c (λ x here below off. fold_join documents at s c x here)
step_folds documents at (Read c) s = by_read (IsFolded documents at (Read c) s) (λ r. tt) s c (λ x here below on. refl)
step_folds documents at ReadServer s = by_read_server (IsFolded documents at ReadServer s) (λ r. tt) s (λ below. refl)
