-- What lines say of clients, operations and messages has a JSON form: numbers fit 64 bits, and characters are scalar values.
use Rattle.std.proofs.Common.{◌≡◌, ◌≢◌, ℕ, zero, suc, ◌-◌, ◌<◌, ◌^◌, ◌==◌, List, [], ◌∷◌, length, map, take, drop, get_or, refl, sym, ap, ◌∙◌, subst, arith, Option, Some, None, Bool, true, false}
use Rattle.std.specs.Prelude.{slice_get, if◌then◌else◌}
use Rattle.std.specs.Option.{IfSome, option_map}
use Rattle.std.specs.List.{All, AllByRecursion}
use Rattle.std.specs.Str.{all_scalars}
use Rattle.std.proofs.lemmas.Bool.{eqb-false}
use Rattle.std.proofs.lemmas.List.{length-map}
use Rattle.std.proofs.lemmas.Option.{get_or_from_slice_get, same_Some, slice_get_within}
use Rattle.ot_operation.specs.Operation as text
use Rattle.ot_operation.specs.Operation.{Item, Old, New, IsOperation, RisesFrom}
use Rattle.ot_operation.specs.Run.{normal_runs}
use Rattle.ot_json.specs.Writing.{HasForm}
use Rattle.ot_asm.proofs.Formed.{op_formed}
use Rattle.ot_isa.specs.Tagging.{chars_of}
use Rattle.ot_isa.specs.declared.elements.Tagged.{Tagged}
use Rattle.ot_isa.specs.declared.instruction.Instr.TheVariants.{Deliver}
use Rattle.ot_model.specs.Laws.{MayDeliver}
use Rattle.ot_model.specs.Limits.{IsPhaseShort, IsShort}
use Rattle.ot_model.specs.Operation.{Operation, apply, inserted, second_after}
use Rattle.ot_model.specs.Sound.{Fits, FitAll, IsPhaseSound, IsSound, apply_entries}
use Rattle.ot_model.specs.Table.{Phase, NotJoined, Synchronized, AwaitingConfirm, AwaitingWithBuffer, Client, Entry, Message, State, absent, against_pending, is_joined}
use Rattle.ot_model.proofs.Algebra.{laws}
use Rattle.ot_model.proofs.Fitting.{deliverable, lengths_fit}
use Rattle.ot_model.proofs.Lengths.{apply-le}
use Rattle.ot_steps.specs.Lines as lines
use Rattle.ot_steps.specs.Lines.{plain_item, plain_message, plain_operation}
use Rattle.ot_machine.specs.Effects.{against_pending_head, client_in, delivery_of}
use Rattle.ot_steps.specs.Steps.{applies, buffer_of, last_of, outstanding_of}
use Rattle.ot_conform.proofs.Scalars.{AreScalars, InsertsScalars, PhaseScalars, StateScalars, delivery_scalars, entry_here, entry_scalars, message_at, message_in}

-- ---- operations

abbrev pub OpForm : Operation ℕ → Type 0
OpForm op = AllByRecursion HasForm (normal_runs op)

rises_plain : (low base : ℕ) (items : List (Item Tagged)) → RisesFrom low base items → RisesFrom low base (map plain_item items)
rises_plain low base [] h = tt
rises_plain low base (Old i ∷ items) h = (h.0, h.1, rises_plain (suc i) base items h.2)
rises_plain low base (New x ∷ items) h = rises_plain low base items h

news_plain : (items : List (Item Tagged)) → text.news (map plain_item items) ≡ chars_of (text.news items)
news_plain [] = refl
news_plain (Old i ∷ items) = news_plain items
news_plain (New x ∷ items) = ap (λ (t : List ℕ). x.ch ∷ t) (news_plain items)

op_form : (op : Operation Tagged) → IsOperation op → IsShort op → InsertsScalars op → OpForm (plain_operation op)
op_form op rising short scalars =
    op_formed (plain_operation op)
    (record { operation = rises_plain 0 op.base op.image rising; base = short.base; target = rw (length-map op.image plain_item) short.target })
    (ap all_scalars (news_plain op.image) ∙ scalars)

-- ---- a client

entry_rising : (d : List Tagged) (log : List Entry) (i : ℕ) (h : Entry) → FitAll d log → slice_get log i ≡ Some h → IsOperation h.op
entry_rising d [] i h all e = absurd (cc)
entry_rising d (x ∷ log) zero h all e = subst (λ (y : Entry). IsOperation y.op) (same_Some x h e) all.0.rising
entry_rising d (x ∷ log) (suc i) h all e = entry_rising (apply x.op d) log i h all.1 e

entry_short : (log : List Entry) (i : ℕ) (h : Entry) → All (λ e. IsShort e.op) log → slice_get log i ≡ Some h → IsShort h.op
entry_short log i h all e = subst (λ (y : Entry). IsShort y.op) (get_or_from_slice_get log i h h e) (all i h (slice_get_within log i h e))

entry_form : (s : State) (i : ℕ) (h : Entry) → IsSound s → StateScalars s → slice_get s.log i ≡ Some h → OpForm (plain_operation h.op)
entry_form s i h (start, chars, sound) all e =
    op_form h.op (entry_rising start s.log i h sound.fit e) (entry_short s.log i h (lengths_fit s (start, chars, sound)).entries e) (entry_scalars s.log i h all.log e)

abbrev pub MessageForm : lines.Message → Type 0
MessageForm m = (m.revision < 2 ^ 64) × OpForm m.operation

-- what a line says of a client
pub record ClientForm (x : Client) : Type 0 where
  pub revision : x.revision < 2 ^ 64
  pub outstanding : IfSome (outstanding_of x.phase) OpForm
  pub buffer : IfSome (buffer_of x.phase) OpForm
  pub message : IfSome (option_map plain_message x.message) MessageForm
  pub document : AreScalars x.list

message_form : (s : State) (c : ℕ) (x : Client) (m : Message) → IsSound s → StateScalars s → slice_get s.clients c ≡ Some x → x.message ≡ Some m → MessageForm (plain_message m)
message_form s c x m (start, chars, sound) all at sent =
    let fact = message_at start chars s c x m sound at sent in
    let logged = sound.logged in
    let steps = sound.steps in
    (omega (arith, fact.0), op_form m.op fact.1.rising ((lengths_fit s (start, chars, sound)).messages c x m at sent) (message_in x.message m sent (all.clients c x at).message))

message_shown : (s : State) (c : ℕ) (x : Client) (o : Option Message) → IsSound s → StateScalars s → slice_get s.clients c ≡ Some x → x.message ≡ o → IfSome (option_map plain_message o) MessageForm
message_shown s c x None sound all at sent = tt
message_shown s c x (Some m) sound all at sent = message_form s c x m sound all at sent

outstanding_form : (c : ℕ) (phase : Phase) (start : List Tagged) (seen ahead : List Entry) (list : List Tagged) (message : Option Message) → IsPhaseSound c phase start seen ahead list message → IsPhaseShort phase → PhaseScalars phase
    → IfSome (outstanding_of phase) OpForm × IfSome (buffer_of phase) OpForm
outstanding_form c NotJoined start seen ahead list message sound short scalars = (tt, tt)
outstanding_form c Synchronized start seen ahead list message sound short scalars = (tt, tt)
outstanding_form c (AwaitingConfirm o) start seen ahead list message sound short scalars = (op_form o sound.fits.rising short scalars, tt)
outstanding_form c (AwaitingWithBuffer o b) start seen ahead list message sound short scalars =
    (op_form o sound.fits.rising short.0 scalars.0, op_form b sound.buffer_fits.rising short.1 scalars.1)

present_form : (s : State) (c : ℕ) (x : Client) → IsSound s → StateScalars s → slice_get s.clients c ≡ Some x → ClientForm x
present_form s c x (start, chars, sound) all at =
    let seen = sound.seen c x at in
    let logged = sound.logged in
    let steps = sound.steps in
    let was = all.clients c x at in
    let waits = outstanding_form c x.phase start (take x.revision s.log) (drop x.revision s.log) x.list x.message (sound.clients c x at) ((lengths_fit s (start, chars, sound)).phases c x at) was.phase in
    record { revision = omega arith; outstanding = waits.0; buffer = waits.1; message = message_shown s c x x.message (start, chars, sound) all at refl; document = was.list }

absent_form : ClientForm absent
absent_form = record { revision = omega arith; outstanding = tt; buffer = tt; message = tt; document = refl }

-- a client that is there, or none
client_cases : (P : Client → Type 0) (s : State) (c : ℕ) → ((x : Client) → slice_get s.clients c ≡ Some x → P x) → P absent → P (client_in s c)
client_cases P s c here there = go (slice_get s.clients c) refl
  where
    none : (xs : List Client) (i : ℕ) → slice_get xs i ≡ None → get_or xs i absent ≡ absent
    none [] i e = refl
    none (x ∷ xs) zero e = absurd (cc)
    none (x ∷ xs) (suc i) e = none xs i e

    go : (o : Option Client) → slice_get s.clients c ≡ o → P (client_in s c)
    go None e = subst P (sym (none s.clients c e)) there
    go (Some x) e = subst P (sym (get_or_from_slice_get s.clients c x absent e)) (here x e)

pub client_form : (s : State) (c : ℕ) → IsSound s → StateScalars s → ClientForm (client_in s c)
client_form s c sound all = client_cases ClientForm s c (λ x at. present_form s c x sound all at) absent_form

-- ---- what a delivery applies

against_pending_fits : (c : ℕ) (phase : Phase) (start : List Tagged) (seen ahead : List Entry) (list : List Tagged) (message : Option Message) (h : Entry) → Fits h.op (apply_entries start seen) → IsPhaseSound c phase start seen ahead list message
    → IsShort h.op → MayDeliver phase h.op → IsOperation (against_pending phase h.op) × IsShort (against_pending phase h.op)
against_pending_fits c NotJoined start seen ahead list message h fits sound short may = (fits.rising, short)
against_pending_fits c Synchronized start seen ahead list message h fits sound short may = (fits.rising, short)
against_pending_fits c (AwaitingConfirm o) start seen ahead list message h fits sound short may =
    let d = apply_entries start seen in
    let p = second_after o h.op in
    let p_fits = laws.second_fits o h.op d sound.fits fits in
    let long = apply-le laws o d sound.fits in
    let base = p_fits.base in
    let h_base = fits.base in
    let image = laws.image_length p p_fits.rising in
    let same : inserted p ≡ inserted h.op = ap length (laws.second_news o h.op sound.fits.rising fits.rising (sound.fits.base ∙ sym fits.base)) in
    (p_fits.rising, record { base = omega (arith, may.1); target = omega (arith, may.1) })
against_pending_fits c (AwaitingWithBuffer o b) start seen ahead list message h fits sound short may =
    let d = apply_entries start seen in
    let p = second_after o h.op in
    let p_fits = laws.second_fits o h.op d sound.fits fits in
    let q = second_after b p in
    let q_fits = laws.second_fits b p (apply o d) sound.buffer_fits p_fits in
    let long = apply-le laws o d sound.fits in
    let longer = apply-le laws b (apply o d) sound.buffer_fits in
    let base = q_fits.base in
    let h_base = fits.base in
    let image = laws.image_length q q_fits.rising in
    let same : inserted p ≡ inserted h.op = ap length (laws.second_news o h.op sound.fits.rising fits.rising (sound.fits.base ∙ sym fits.base)) in
    let again : inserted q ≡ inserted p = ap length (laws.second_news b p sound.buffer_fits.rising p_fits.rising (sound.buffer_fits.base ∙ sym p_fits.base)) in
    (q_fits.rising, record { base = omega (arith, may.1); target = omega (arith, may.1) })

against_pending_form : (s : State) (c : ℕ) (x : Client) (h : Entry) → IsSound s → StateScalars s → slice_get s.clients c ≡ Some x → is_joined x.phase ≡ true → slice_get s.log x.revision ≡ Some h → h.maker ≢ c
    → OpForm (plain_operation (against_pending x.phase h.op))
against_pending_form s c x h (start, chars, sound) all at on head other =
    let may = deliverable s c x h (start, chars, sound) at on head other in
    let short = entry_short s.log x.revision h (lengths_fit s (start, chars, sound)).entries head in
    let fact = against_pending_fits c x.phase start (take x.revision s.log) (drop x.revision s.log) x.list x.message h (entry_here start chars s x h sound head) (sound.clients c x at) short may.operations in
    op_form (against_pending x.phase h.op) fact.0 fact.1 (delivery_scalars start chars s c x h sound all at head).applies

pub delivers_form : (s : State) (c : ℕ) → IsSound s → StateScalars s → IfSome (applies (Deliver c) s) OpForm
delivers_form s c sound all = client_cases (λ x. IfSome (option_map plain_operation (delivery_of s c x)) OpForm) s c (λ x at. by_joined x at (is_joined x.phase) refl) tt
  where
    by_maker : (x : Client) → slice_get s.clients c ≡ Some x → is_joined x.phase ≡ true → (h : Entry) → slice_get s.log x.revision ≡ Some h → (own : Bool) → (h.maker == c) ≡ own
        → IfSome (option_map plain_operation (if own then None else Some (against_pending x.phase h.op))) OpForm
    by_maker x at on h head true own = tt
    by_maker x at on h head false own = against_pending_form s c x h sound all at on head (eqb-false h.maker c own)

    by_entry : (x : Client) → slice_get s.clients c ≡ Some x → is_joined x.phase ≡ true → (o : Option Entry) → slice_get s.log x.revision ≡ o → IfSome (option_map plain_operation (against_pending_head c x.phase o)) OpForm
    by_entry x at on None head = tt
    by_entry x at on (Some h) head = by_maker x at on h head (h.maker == c) refl

    by_joined : (x : Client) → slice_get s.clients c ≡ Some x → (on : Bool) → is_joined x.phase ≡ on
        → IfSome (option_map plain_operation (if on then against_pending_head c x.phase (slice_get s.log x.revision) else None)) OpForm
    by_joined x at false off = tt
    by_joined x at true on = by_entry x at on (slice_get s.log x.revision) refl

-- ---- the log's last

pub last_form : (s : State) → IsSound s → StateScalars s → IfSome (last_of s.log) OpForm
last_form s sound all = go (slice_get s.log (length s.log - 1)) refl
  where
    go : (o : Option Entry) → slice_get s.log (length s.log - 1) ≡ o → IfSome (option_map (λ (h : Entry). plain_operation h.op) o) OpForm
    go None e = tt
    go (Some h) e = entry_form s (length s.log - 1) h sound all e

pub log_fits : (s : State) → IsSound s → length s.log < 2 ^ 64
log_fits s (start, chars, sound) =
    let logged = sound.logged in
    let steps = sound.steps in
    omega arith
