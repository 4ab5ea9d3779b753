-- What a session's call finds and leaves.
use Rattle.std.proofs.Common.{◌≡◌, ℕ, zero, suc, ◌+◌, ◌<◌, ◌≤◌, List, [], ◌∷◌, ◌++◌, length, map, take, drop, refl, sym, ap, ◌∙◌, subst, Option, Some, None, true, false, arith, Bool}
use Rattle.std.proofs.lemmas.Bool.{eqb-false, eqb-true}
use Rattle.std.proofs.lemmas.List.{length-append}
use Rattle.std.specs.Prelude.{slice_get, ◌==◌, nat_lt, if◌then◌else◌}
use Rattle.std.specs.Option.{option_map, option_or}
use Rattle.ot_isa.specs.declared.elements.Tagged.{Tagged}
use Rattle.ot_isa.specs.declared.instruction.Instr.{Instr}
use Rattle.ot_isa.specs.declared.instruction.Instr.TheVariants.{Edit, Deliver, Acknowledge, Read}
use Rattle.ot_client.specs.State as state
use Rattle.ot_client.specs.Conditions as conditions
use Rattle.ot_client.specs.Values as client_values
use Rattle.ot_client.specs.declared.sent.Sent.{Sent}
use Rattle.ot_client.specs.Client.{message_of}
use Rattle.ot_model.specs.declared.shown.Shown.{Shown}
use Rattle.ot_model.specs.Operation.{Operation, apply, inserted}
use Rattle.ot_model.proofs.States.{length-news-tag_items}
use Rattle.std.proofs.lemmas.Bool.Decides.{nat_tests}
use Rattle.ot_model.specs.Table.{Client, Phase, Entry, Head, Ack, Op, Message, acknowledged, head_for, Synchronized, AwaitingConfirm, phase_in, against_pending, delivered, phase_delivered, edited, phase_edited, message_edited, tag_operation}
use Rattle.ot_model.specs.Laws.{IsDeliverable, MayDeliver}
use Rattle.ot_model.specs.Sound.{IsInstr, AreInstrs, IsPhaseSound, IsSynchronizedSound, NoneBy, apply_entries}
use Rattle.ot_model.specs.Part.{Part, PartPerformed, part_row, part_acknowledge, part_deliver, part_edit, part_with, part_read, with_part}
use Rattle.ot_model.specs.Session.{Session, IsAllowed, installed, or_else}
use Rattle.ot_model.proofs.Fitting.{deliverable}
use Rattle.ot_model.proofs.Algebra.{laws}
use Rattle.ot_model.proofs.Sessions.{present_sound, goes_on}
use Rattle.std.proofs.lemmas.Option.{slice_get_within}
use Rattle.ot_machine.specs.declared.part.Part.{Part as ProgramPart}
use Rattle.ot_machine.specs.declared.part.Message.{Message as ProgramMessage}
use Rattle.ot_machine.specs.Parts.{part_in, head_in}
use Rattle.ot_board.specs.Sessions.{session_in, IsNextHead, IsNext, MayEdit, shown_by, client_in}
use Rattle.ot_board.proofs.Heads.{own}

-- the head of a downlink is the log's entry
pub head_entry : (c : ℕ) (log : List Entry) (r : ℕ) (y : Head) (ys : List Head) → map (head_for c) (drop r log) ≡ y ∷ ys → (h : Entry) × (slice_get log r ≡ Some h) × (head_for c h ≡ y)
head_entry c [] zero y ys e = absurd (cc)
head_entry c [] (suc r) y ys e = absurd (cc)
head_entry c (h ∷ log) zero y ys e = (h, refl, cc)
head_entry c (h ∷ log) (suc r) y ys e = head_entry c log r y ys e

head_op : (h : Entry) (op : Operation Tagged) (mine : Bool) → (if mine then Ack else Op h.op) ≡ Op op → (mine ≡ false) × (h.op ≡ op)
head_op h op true e = absurd (cc)
head_op h op false e = (refl, cc)

pub head_ack : (h : Entry) (mine : Bool) → (if mine then Ack else Op h.op) ≡ Ack → mine ≡ true
head_ack h true e = refl
head_ack h false e = absurd (cc)

-- another's operation that is next can be delivered
pub next_deliverable : (x : Session) (h : Operation Tagged) → IsAllowed x → IsNextHead x (Op h) → IsDeliverable x.now.client h
next_deliverable x h allowed next =
    let (s, m, rest, sound, over) = present_sound x allowed in
    let line : map (head_for x.now.number) (drop x.now.client.revision s.log) ≡ Op h ∷ (next.rest ++ rest) = over.downlink ∙ ap (λ (l : List Head). l ++ rest) next.incoming_is in
    let found = head_entry x.now.number s.log x.now.client.revision (Op h) (next.rest ++ rest) line in
    let entry = found.0 in
    let other = head_op entry h (entry.maker == x.now.number) found.2 in
    let fits = deliverable s x.now.number (installed x.now.client m) entry sound over.client over.joined found.1 (eqb-false entry.maker x.now.number other.0) in
    subst (IsDeliverable x.now.client) other.1 (record { revision = fits.revision; operations = fits.operations; base = fits.base })

-- the same of a client of the program
pub operations_in : (phase : state.Phase Tagged) (h : Operation Tagged) → MayDeliver (phase_in phase) h → conditions.MayDeliver phase h
operations_in state.Synchronized h may = tt
operations_in (state.AwaitingConfirm o) h may = may
operations_in (state.AwaitingWithBuffer o b) h may = may

pub against_pending_in : (phase : state.Phase Tagged) (h : Operation Tagged) → against_pending (phase_in phase) h ≡ state.against_pending phase h
against_pending_in state.Synchronized h = refl
against_pending_in (state.AwaitingConfirm o) h = refl
against_pending_in (state.AwaitingWithBuffer o b) h = refl

-- an edit of the client's list follows what the client has made
follows_in :
    (c : ℕ) (op : Operation Tagged) (phase : state.Phase Tagged) (start : List Tagged) (seen ahead : List Entry) (list : List Tagged) (message : Option Message)
    → IsPhaseSound c (phase_in phase) start seen ahead list message → op.base ≡ length list → conditions.MayEdit phase op
follows_in c op state.Synchronized start seen ahead list message sound fits = tt
follows_in c op (state.AwaitingConfirm o) start seen ahead list message sound fits =
    fits ∙ ap length sound.list_is ∙ laws.apply-length o (apply_entries start seen) sound.fits
follows_in c op (state.AwaitingWithBuffer o b) start seen ahead list message sound fits =
    fits ∙ ap length sound.list_is ∙ laws.apply-length b (apply o (apply_entries start seen)) sound.buffer_fits

pub next_follows :
    (x : Session) (phase : state.Phase Tagged) (op : Operation Tagged) → IsAllowed x → phase_in phase ≡ x.now.client.phase → op.base ≡ length x.now.client.list → conditions.MayEdit phase op
next_follows x phase op allowed is base =
    let (s, m, rest, sound, over) = present_sound x allowed in
    let (start, text, from) = sound in
    let now = from.clients x.now.number (installed x.now.client m) over.client in
    let seen = take x.now.client.revision s.log in
    let ahead = drop x.now.client.revision s.log in
    let message = or_else x.now.client.message m in
    follows_in x.now.number op phase start seen ahead x.now.client.list message (subst (λ (p : Phase). IsPhaseSound x.now.number p start seen ahead x.now.client.list message) (sym is) now) base

AreInstrs_push : (is : List Instr) (i : Instr) → AreInstrs is → IsInstr i → AreInstrs (is ++ i ∷ [])
AreInstrs_push [] i all one = (one, tt)
AreInstrs_push (j ∷ is) i all one = (all.0, AreInstrs_push is i all.1 one)

-- one more step
abbrev pub after : Session → Instr → Part → Session
after x i q = record { start = x.start; steps = x.steps ++ i ∷ []; now = q }

pub allowed_after : (x : Session) (i : Instr) (q : Part) (shown : Option Shown) → IsAllowed x → length x.steps < 64 → IsInstr i → part_row x.now i ≡ PartPerformed q shown → IsAllowed (after x i q)
allowed_after x i q shown allowed room is row =
    record {
      start = allowed.start;
      few = rw length-append (omega arith);
      instrs = AreInstrs_push x.steps i allowed.instrs is;
      leads = goes_on x.start x.now q x.steps i shown allowed.leads row;
    }

-- what a call leaves, where it is the session after one more step
pub record IsMoved (x : Session) (i : Instr) (shown : Option Shown) (y : Session) : Type 0 where
  pub next : IsNext x i shown y
  pub allowed : IsAllowed y

pub moved : (x y : Session) (i : Instr) (q : Part) (shown : Option Shown) → IsAllowed x → length x.steps < 64 → IsInstr i → part_row x.now i ≡ PartPerformed q shown → after x i q ≡ y → IsMoved x i shown y
moved x y i q shown allowed room is row same =
    subst (IsMoved x i shown) same (record {
      next = record { start = refl; steps = refl; row = row };
      allowed = allowed_after x i q shown allowed room is row;
    })

same_client : (r s n : ℕ) (p q : Phase) (l k : List Tagged) (a b : Option Message) → r ≡ s → p ≡ q → l ≡ k → a ≡ b
    → ◌≡◌ {A = Client} (record { revision = r; phase = p; list = l; count = n; message = a }) (record { revision = s; phase = q; list = k; count = n; message = b })
same_client r s n p q l k a b e f g h = cc

same_after : (start : Part) (n : ℕ) (is js : List Instr) (x y : Client) (a b : List Head) → is ≡ js → x ≡ y → a ≡ b
    → ◌≡◌ {A = Session} (record { start = start; steps = is; now = record { number = n; client = x; incoming = a } }) (record { start = start; steps = js; now = record { number = n; client = y; incoming = b } })
same_after start n is js x y a b e f g = cc

rest_of : (items : List ProgramMessage) (y : Head) (ys : List Head) → map head_in items ≡ y ∷ ys → map head_in (drop 1 items) ≡ ys
rest_of [] y ys e = absurd (cc)
rest_of (m ∷ items) y ys e = cc

-- another's operation delivered
pub moved_delivered :
    (x : Session) (start : ProgramPart) (steps steps' : List Instr) (st st' : state.State Tagged) (list list' : List Tagged) (count : ℕ) (incoming incoming' : List ProgramMessage) (sent : Option (Sent Tagged)) (h applied : Operation Tagged)
    → session_in start steps st list count incoming sent ≡ x → IsAllowed (session_in start steps st list count incoming sent) → IsNextHead x (Op h)
    → st'.revision ≡ suc x.now.client.revision → phase_in st'.phase ≡ phase_delivered x.now.client.phase h → applied ≡ against_pending x.now.client.phase h → list' ≡ apply applied list
    → incoming' ≡ drop 1 incoming → steps' ≡ steps ++ Deliver start.number ∷ []
    → IsMoved x (Deliver start.number) None (session_in start steps' st' list' count incoming' sent)
moved_delivered x start steps steps' st st' list list' count incoming incoming' sent h applied view allowed found risen carried_on by changed left one =
    let v = session_in start steps st list count incoming sent in
    let next : IsNextHead v (Op h) = subst (λ (y : Session). IsNextHead y (Op h)) (sym view) found in
    let revision : st'.revision ≡ suc st.revision = subst (λ (y : Session). st'.revision ≡ suc y.now.client.revision) (sym view) risen in
    let phase : phase_in st'.phase ≡ phase_delivered (phase_in st.phase) h = subst (λ (y : Session). phase_in st'.phase ≡ phase_delivered y.now.client.phase h) (sym view) carried_on in
    let is : applied ≡ against_pending (phase_in st.phase) h = subst (λ (y : Session). applied ≡ against_pending y.now.client.phase h) (sym view) by in
    let row : part_row v.now (Deliver start.number) ≡ PartPerformed (with_part v.now (delivered v.now.client h) next.rest) None =
    own v.now start.number (part_deliver v.now v.now.incoming) refl ∙ ap (part_deliver v.now) next.incoming_is in
    subst (λ (y : Session). IsMoved y (Deliver start.number) None (session_in start steps' st' list' count incoming' sent)) view
    (moved v (session_in start steps' st' list' count incoming' sent) (Deliver start.number) (with_part v.now (delivered v.now.client h) next.rest) None allowed next.room tt row
    (same_after (part_in start) start.number _ _ _ _ _ _ (sym one)
    (same_client _ _ count _ _ _ _ _ _ (sym revision) (sym phase) (ap (λ (o : Operation Tagged). apply o list) (sym is) ∙ sym changed) refl)
    (sym (rest_of incoming (Op h) next.rest next.incoming_is) ∙ ap (map head_in) (sym left))))

sent_in : (new old : Option (Sent Tagged)) → option_map message_of (option_or new old) ≡ or_else (option_map message_of new) (option_map message_of old)
sent_in None old = refl
sent_in (Some m) old = refl

-- the user's edit
pub edit_row : (p : Part) (op : Operation ℕ) → op.base ≡ length p.client.list → p.client.count + inserted op ≤ 15000
    → part_row p (Edit p.number op) ≡ PartPerformed (with_part p (edited p.client (tag_operation p.number p.client.count op)) p.incoming) None
edit_row p op base fits =
    let same : (op.base == length p.client.list) ≡ true = grind (arith, nat_tests) in
    let few : nat_lt 15000 (p.client.count + inserted op) ≡ false = grind (arith, nat_tests) in
    own p p.number (part_edit p op) refl ∙ rw (same, few) refl

same_edited : (r n m : ℕ) (p q : Phase) (l k : List Tagged) (a b : Option Message) → p ≡ q → l ≡ k → n ≡ m → a ≡ b
    → ◌≡◌ {A = Client} (record { revision = r; phase = p; list = l; count = n; message = a }) (record { revision = r; phase = q; list = k; count = m; message = b })
same_edited r n m p q l k a b e f g h = cc

pub moved_edited :
    (x : Session) (start : ProgramPart) (steps steps' : List Instr) (st st' : state.State Tagged) (list list' : List Tagged) (count count' : ℕ) (incoming : List ProgramMessage) (sent sent' new : Option (Sent Tagged)) (op : Operation ℕ) (made : Operation Tagged)
    → session_in start steps st list count incoming sent ≡ x → IsAllowed (session_in start steps st list count incoming sent) → MayEdit x op
    → made ≡ tag_operation x.start.number x.now.client.count op → st'.revision ≡ x.now.client.revision → phase_in st'.phase ≡ phase_edited x.now.client.phase made
    → or_else (option_map message_of new) x.now.client.message ≡ message_edited x.now.client.phase x.now.client made
    → list' ≡ apply made list → count' ≡ count + inserted op → sent' ≡ option_or new sent → steps' ≡ steps ++ Edit start.number op ∷ []
    → IsMoved x (Edit start.number op) None (session_in start steps' st' list' count' incoming sent')
moved_edited x start steps steps' st st' list list' count count' incoming sent sent' new op made view allowed asks is risen goes sends changed more put one =
    let v = session_in start steps st list count incoming sent in
    let may : MayEdit v op = subst (λ (y : Session). MayEdit y op) (sym view) asks in
    let tag : made ≡ tag_operation start.number count op = subst (λ (y : Session). made ≡ tag_operation y.start.number y.now.client.count op) (sym view) is in
    let revision : st'.revision ≡ st.revision = subst (λ (y : Session). st'.revision ≡ y.now.client.revision) (sym view) risen in
    let phase : phase_in st'.phase ≡ phase_edited (phase_in st.phase) made = subst (λ (y : Session). phase_in st'.phase ≡ phase_edited y.now.client.phase made) (sym view) goes in
    let message : or_else (option_map message_of new) (option_map message_of sent) ≡ message_edited (phase_in st.phase) v.now.client made =
    subst (λ (y : Session). or_else (option_map message_of new) y.now.client.message ≡ message_edited y.now.client.phase y.now.client made) (sym view) sends in
    let many : inserted made ≡ inserted op = ap inserted tag ∙ length-news-tag_items start.number count op.image in
    let i = Edit start.number op in
    let left = edited v.now.client made in
    let row : part_row v.now i ≡ PartPerformed (with_part v.now left v.now.incoming) None =
    edit_row v.now op may.base may.count ∙ ap (λ (o : Operation Tagged). PartPerformed (with_part v.now (edited v.now.client o) v.now.incoming) None) (sym tag) in
    let y = session_in start steps' st' list' count' incoming sent' in
    let client : left ≡ y.now.client =
    ap (λ (r : ℕ). record { revision = r; phase = phase_edited (phase_in st.phase) made; list = apply made list; count = count + inserted made; message = message_edited (phase_in st.phase) v.now.client made }) (sym revision)
    ∙ same_edited st'.revision _ _ _ _ _ _ _ _ (sym phase) (sym changed) (ap (λ (k : ℕ). count + k) many ∙ sym more) (sym message ∙ sym (sent_in new sent) ∙ ap (option_map message_of) (sym put)) in
    subst (λ (z : Session). IsMoved z i None y) view
    (moved v y i (with_part v.now left v.now.incoming) None allowed may.room may.rises row
    (same_after (part_in start) start.number _ _ _ _ _ _ (sym one) client refl))

-- a read
pub moved_read :
    (x : Session) (start : ProgramPart) (steps steps' : List Instr) (st : state.State Tagged) (list : List Tagged) (count : ℕ) (incoming : List ProgramMessage) (sent : Option (Sent Tagged))
    → session_in start steps st list count incoming sent ≡ x → IsAllowed (session_in start steps st list count incoming sent) → length steps < 64
    → steps' ≡ steps ++ Read start.number ∷ []
    → IsMoved x (Read start.number) (Some (shown_by x list)) (session_in start steps' st list count incoming sent)
moved_read x start steps steps' st list count incoming sent view allowed room one =
    let v = session_in start steps st list count incoming sent in
    let i = Read start.number in
    let y = session_in start steps' st list count incoming sent in
    subst (λ (z : Session). IsMoved z i (Some (shown_by z list)) y) view
    (moved v y i v.now (Some (shown_by v list)) allowed room tt (own v.now start.number (part_read v.now) refl)
    (same_after (part_in start) start.number _ _ _ _ _ _ (sym one) refl refl))

-- an acknowledgement that is next stands in the log
pub next_below : (x : Session) → IsAllowed x → IsNextHead x Ack → x.now.client.revision < 1000000
next_below x allowed next =
    let (s, m, rest, sound, over) = present_sound x allowed in
    let (start, text, from) = sound in
    let line : map (head_for x.now.number) (drop x.now.client.revision s.log) ≡ Ack ∷ (next.rest ++ rest) = over.downlink ∙ ap (λ (l : List Head). l ++ rest) next.incoming_is in
    let found = head_entry x.now.number s.log x.now.client.revision Ack (next.rest ++ rest) line in
    let within = slice_get_within s.log x.now.client.revision found.0 found.1 in
    let logged = from.logged in
    let steps = from.steps in
    omega arith

-- a synchronized client has no entry of its own ahead
no_ack : (c : ℕ) (log : List Entry) (ys : List Head) → NoneBy c log → map (head_for c) log ≡ Ack ∷ ys → ⊥
no_ack c [] ys none e = cc
no_ack c (h ∷ log) ys none e = none.0 (eqb-true h.maker c (head_ack h (h.maker == c) (cc)))

-- so it never meets an acknowledgement
pub no_next_ack : (x : Session) → IsAllowed x → x.now.client.phase ≡ Synchronized → IsNextHead x Ack → ⊥
no_next_ack x allowed synchronized next =
    let (s, m, rest, sound, over) = present_sound x allowed in
    let (start, text, from) = sound in
    let line : map (head_for x.now.number) (drop x.now.client.revision s.log) ≡ Ack ∷ (next.rest ++ rest) = over.downlink ∙ ap (λ (l : List Head). l ++ rest) next.incoming_is in
    let now = from.clients x.now.number (installed x.now.client m) over.client in
    let seen = take x.now.client.revision s.log in
    let ahead = drop x.now.client.revision s.log in
    let here : IsSynchronizedSound x.now.number (apply_entries start seen) ahead x.now.client.list (or_else x.now.client.message m) =
    subst (λ (p : Phase). IsPhaseSound x.now.number p start seen ahead x.now.client.list (or_else x.now.client.message m)) synchronized now in
    no_ack x.now.number ahead (next.rest ++ rest) here.none line

-- the client after the acknowledgement
abbrev acknowledged_now : Session → Option Client
acknowledged_now x = acknowledged x.now.client x.now.client.phase

-- its own operation acknowledged
pub moved_acknowledged :
    (x : Session) (start : ProgramPart) (steps steps' : List Instr) (st st' : state.State Tagged) (list : List Tagged) (count : ℕ) (incoming incoming' : List ProgramMessage) (sent sent' : Option (Sent Tagged))
    → session_in start steps st list count incoming sent ≡ x → IsAllowed (session_in start steps st list count incoming sent) → IsNextHead x Ack
    → acknowledged_now (session_in start steps st list count incoming sent) ≡ Some (client_in st' list count sent')
    → incoming' ≡ drop 1 incoming → steps' ≡ steps ++ Acknowledge start.number ∷ []
    → IsMoved x (Acknowledge start.number) None (session_in start steps' st' list count incoming' sent')
moved_acknowledged x start steps steps' st st' list count incoming incoming' sent sent' view allowed found is left one =
    let v = session_in start steps st list count incoming sent in
    let next : IsNextHead v Ack = subst (λ (y : Session). IsNextHead y Ack) (sym view) found in
    let i = Acknowledge start.number in
    let y = session_in start steps' st' list count incoming' sent' in
    let row : part_row v.now i ≡ PartPerformed (with_part v.now y.now.client next.rest) None =
    own v.now start.number (part_acknowledge v.now v.now.incoming) refl ∙ ap (part_acknowledge v.now) next.incoming_is ∙ ap (λ (o : Option Client). part_with v.now o next.rest) is in
    subst (λ (z : Session). IsMoved z i None y) view
    (moved v y i (with_part v.now y.now.client next.rest) None allowed next.room tt row
    (same_after (part_in start) start.number _ _ _ _ _ _ (sym one) refl
    (sym (rest_of incoming Ack next.rest next.incoming_is) ∙ ap (map head_in) (sym left))))

pub none_sent : (sent : Option (Sent Tagged)) → option_map message_of sent ≡ None → sent ≡ None
none_sent None e = refl
none_sent (Some m) e = absurd (cc)

pub acknowledged_confirm :
    (start : ProgramPart) (steps : List Instr) (st : client_values.Confirming Tagged) (r : ℕ) (list : List Tagged) (count : ℕ) (incoming : List ProgramMessage) (sent : Option (Sent Tagged))
    → r ≡ st.revision + 1 → acknowledged_now (session_in start steps (client_values.confirming st) list count incoming sent) ≡ Some (client_in (client_values.synchronized r) list count sent)
acknowledged_confirm start steps st r list count incoming sent is =
    let risen : suc st.revision ≡ r = omega (arith, is) in
    ap (λ (n : ℕ). Some (client_in (client_values.synchronized n) list count sent)) risen

pub acknowledged_buffer :
    (start : ProgramPart) (steps : List Instr) (st copy : client_values.Buffering Tagged) (next : client_values.Confirming Tagged) (list : List Tagged) (count : ℕ) (incoming : List ProgramMessage) (sent : Option (Sent Tagged)) (new : Sent Tagged)
    → copy ≡ st → next ≡ record { revision = copy.revision + 1; outstanding = copy.buffer } → message_of new ≡ record { revision = copy.revision + 1; op = copy.buffer }
    → acknowledged_now (session_in start steps (client_values.buffering st) list count incoming sent) ≡ Some (client_in (client_values.confirming next) list count (Some new))
acknowledged_buffer start steps st copy next list count incoming sent new same is puts =
    let risen : suc copy.revision ≡ copy.revision + 1 = omega arith in
    ap (λ (z : client_values.Buffering Tagged). acknowledged_now (session_in start steps (client_values.buffering z) list count incoming sent)) (sym same)
    ∙ ap (λ (n : ℕ). Some (record { revision = n; phase = AwaitingConfirm copy.buffer; list = list; count = count; message = Some (record { revision = n; op = copy.buffer }) })) risen
    ∙ ap (λ (m : Message). Some (record { revision = copy.revision + 1; phase = AwaitingConfirm copy.buffer; list = list; count = count; message = Some m })) (sym puts)
    ∙ ap (λ (z : client_values.Confirming Tagged). Some (client_in (client_values.confirming z) list count (Some new))) (sym is)

pub named : {x y : Session} {op : Operation ℕ} (n m : ℕ) → n ≡ m → IsNext x (Edit n op) None y → IsNext x (Edit m op) None y
named {x = x} {y = y} {op = op} n m same next = subst (λ (k : ℕ). IsNext x (Edit k op) None y) same next
