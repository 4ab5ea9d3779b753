-- Each line of a run has a JSON form.
use Rattle.std.proofs.Common.{◌≡◌, ℕ, suc, ◌+◌, ◌<◌, ◌≤◌, ◌^◌, List, [], ◌∷◌, ◌++◌, length, take, refl, sym, subst, arith, Option, Some, None, Bool, true, false}
use Rattle.std.specs.Prelude.{slice_get, codes, option_map, if◌then◌else◌, ◌||◌}
use Rattle.std.specs.Option.{IfSome}
use Rattle.std.specs.List.{All, AllByRecursion}
use Rattle.std.specs.Str.{all_scalars}
use Rattle.std.proofs.lemmas.List.{length-take-le}
use Rattle.std.proofs.lemmas.List.Elements.{All-head, All-tail, All-take}
use Rattle.std.proofs.lemmas.Option.{get_or_from_slice_get, slice_get_within}
use Rattle.ot_asm.proofs.Formed.{op_formed}
use Rattle.ot_isa.specs.Program.{Program, IsProgram, client_of}
use Rattle.ot_isa.specs.Program as isa
use Rattle.ot_isa.specs.declared.instruction.Instr.{Instr}
use Rattle.ot_isa.specs.declared.instruction.Instr.TheVariants.{Edit, Take, Deliver, Acknowledge, Join, Read, ReadServer}
use Rattle.ot_model.specs.declared.shown.Refusal.{Refusal}
use Rattle.ot_model.specs.declared.shown.Refusal.TheVariants as refusal
use Rattle.ot_model.specs.Operation.{Operation}
use Rattle.ot_model.specs.Runs.{opening_of}
use Rattle.ot_model.specs.Sound.{IsOutcomeSound, IsSound}
use Rattle.ot_model.specs.Table.{Client, Outcome, Performed, Refused, NoRow, State, step}
use Rattle.ot_model.proofs.Algebra.{laws}
use Rattle.ot_model.proofs.Steps.{opening_sound, step_sound}
use Rattle.ot_machine.specs.Ended.{reached}
use Rattle.ot_machine.proofs.RunLaws.{instr_is}
use Rattle.ot_machine.specs.declared.state.Phase.{Phase}
use Rattle.ot_machine.specs.declared.state.Phase.TheVariants as phase
use Rattle.ot_values.specs.Values.{phase_word, refusal_text}
use Rattle.ot_steps.specs.Lines.{Line, Message, Word, bare}
use Rattle.ot_steps.specs.Lines as lines
use Rattle.ot_machine.specs.Effects.{client_in, sends}
use Rattle.ot_steps.specs.Steps.{applies, appended_by, document_after, document_in, edit_of, end_line, first_lines, has_document, is_quiet, last_lines, lines_from, message_in, named, opening_line, placed, step_line, stop_at, stop_line, stop_lines, with_client}
use Rattle.ot_steps.specs.Text.{Field, Value, Number, Name, Text, Op, Sent, end_text, field, word_text}
use Rattle.ot_steps.specs.Written.{AreRunLines}
use Rattle.ot_steps.proofs.Running.{reached_within}
use Rattle.ot_conform.proofs.Formed.{ClientForm, MessageForm, OpForm, client_form, delivers_form, last_form, log_fits}
use Rattle.ot_conform.proofs.LineTrees.{AreFormed, IsFieldFormed, IsFormed, IsLineFormed, are_letters}
use Rattle.ot_conform.proofs.Scalars.{OutcomeScalars, StateScalars, opening_scalars, step_scalars}

-- ---- field by field

all_both : {A : Type 0} (P : A → Type 0) (xs ys : List A) → AllByRecursion P xs → AllByRecursion P ys → AllByRecursion P (xs ++ ys)
all_both P [] ys h g = g
all_both P (x ∷ xs) ys h g = (h.0, all_both P xs ys h.1 g)

both_formed : (fs gs : List Field) → AreFormed fs → AreFormed gs → AreFormed (fs ++ gs)
both_formed fs gs h g = all_both IsFieldFormed fs gs h g

field_formed : {A : Type 0} (key : List ℕ) (value : A → Value) (o : Option A) → are_letters key ≡ true → IfSome o (λ x. IsFormed (value x)) → AreFormed (field key (option_map value o))
field_formed key value None letters h = tt
field_formed key value (Some x) letters h = ((letters, h), tt)

-- names are letters
word_letters : (w : Word) → are_letters (word_text w) ≡ true
word_letters lines.Edit = refl
word_letters lines.Take = refl
word_letters lines.Deliver = refl
word_letters lines.Ack = refl
word_letters lines.Join = refl
word_letters lines.Read = refl
word_letters lines.ReadServer = refl

refusal_letters : (r : Refusal) → are_letters (refusal_text r) ≡ true
refusal_letters refusal.NoSuchClient = refl
refusal_letters refusal.StepsFull = refl
refusal_letters refusal.NotJoined = refl
refusal_letters refusal.AlreadyJoined = refl
refusal_letters refusal.BadBase = refl
refusal_letters refusal.ClientFull = refl
refusal_letters refusal.LinkEmpty = refl
refusal_letters refusal.WrongHead = refl
refusal_letters refusal.Memory = refl

phase_letters : (p : Phase) → are_letters (phase_word p) ≡ true
phase_letters phase.NotJoined = refl
phase_letters phase.Synchronized = refl
phase_letters phase.AwaitingConfirm = refl
phase_letters phase.AwaitingWithBuffer = refl

end_letters : (q : Bool) → are_letters (end_text q) ≡ true
end_letters true = refl
end_letters false = refl

each : {A : Type 0} (P : A → Type 0) (o : Option A) → ((x : A) → P x) → IfSome o P
each P None h = tt
each P (Some x) h = h x

-- the values of a line that are not names
pub record LineForm (line : Line) : Type 0 where
  pub at : line.at < 2 ^ 64
  pub clients : IfSome line.clients (λ n. n < 2 ^ 64)
  pub present : IfSome line.present (λ n. n < 2 ^ 64)
  pub start : IfSome line.start (λ t. all_scalars t ≡ true)
  pub client : IfSome line.client (λ n. n < 2 ^ 64)
  pub edit : IfSome line.edit OpForm
  pub revision : IfSome line.revision (λ n. n < 2 ^ 64)
  pub outstanding : IfSome line.outstanding OpForm
  pub buffer : IfSome line.buffer OpForm
  pub sent : IfSome line.sent MessageForm
  pub applied : IfSome line.applied OpForm
  pub appended : IfSome line.appended OpForm
  pub document : IfSome line.document (λ t. all_scalars t ≡ true)

pub line_formed : (line : Line) → LineForm line → IsLineFormed line
line_formed line h = (
  h.at,
  both_formed _ _ (field_formed (codes "clients") Number line.clients refl h.clients)
      (both_formed _ _ (field_formed (codes "present") Number line.present refl h.present)
      (both_formed _ _ (field_formed (codes "start") Text line.start refl h.start)
      (both_formed _ _ (field_formed (codes "do") (λ w. Name (word_text w)) line.word refl (each _ line.word word_letters))
      (both_formed _ _ (field_formed (codes "client") Number line.client refl h.client)
      (both_formed _ _ (field_formed (codes "edit") Op line.edit refl h.edit)
      (both_formed _ _ (field_formed (codes "stopped") (λ r. Name (refusal_text r)) line.stopped refl (each _ line.stopped refusal_letters))
      (both_formed _ _ (field_formed (codes "revision") Number line.revision refl h.revision)
      (both_formed _ _ (field_formed (codes "state") (λ p. Name (phase_word p)) line.state refl (each _ line.state phase_letters))
      (both_formed _ _ (field_formed (codes "outstanding") Op line.outstanding refl h.outstanding)
      (both_formed _ _ (field_formed (codes "buffer") Op line.buffer refl h.buffer)
      (both_formed _ _ (field_formed (codes "sent") Sent line.sent refl h.sent)
      (both_formed _ _ (field_formed (codes "applied") Op line.applied refl h.applied)
      (both_formed _ _ (field_formed (codes "appended") Op line.appended refl h.appended)
      (both_formed _ _ (field_formed (codes "document") Text line.document refl h.document)
      (both_formed _ _ (field_formed (codes "end") (λ q. Name (end_text q)) line.quiet refl (each _ line.quiet end_letters)) tt))))))))))))))),
)

-- ---- instructions

-- an instruction of a schedule of so many clients
pub record InstrForm (clients : ℕ) (i : Instr) : Type 0 where
  pub is : isa.IsInstr clients i
  pub scalars : isa.HasScalars i

edit_form : (clients : ℕ) (i : Instr) → InstrForm clients i → IfSome (edit_of i) OpForm
edit_form clients (Edit c op) h = op_formed op h.is.1 h.scalars
edit_form clients (Take c) h = tt
edit_form clients (Deliver c) h = tt
edit_form clients (Acknowledge c) h = tt
edit_form clients (Join c) h = tt
edit_form clients (Read c) h = tt
edit_form clients ReadServer h = tt

client_below : (clients : ℕ) (i : Instr) → clients ≤ 64 → InstrForm clients i → IfSome (client_of i) (λ n. n < 2 ^ 64)
client_below clients (Edit c op) few h = omega (arith, few, h.is.0)
client_below clients (Take c) few h = omega (arith, few, h.is.0)
client_below clients (Deliver c) few h = omega (arith, few, h.is.0)
client_below clients (Acknowledge c) few h = omega (arith, few, h.is.0)
client_below clients (Join c) few h = omega (arith, few, h.is.0)
client_below clients (Read c) few h = omega (arith, few, h.is.0)
client_below clients ReadServer few h = tt

named_form : (clients at : ℕ) (i : Instr) → clients ≤ 64 → at < 2 ^ 64 → InstrForm clients i → LineForm (named at i)
named_form clients at i few small h =
    record { at = small; clients = tt; present = tt; start = tt; client = client_below clients i few h; edit = edit_form clients i h; revision = tt; outstanding = tt; buffer = tt; sent = tt; applied = tt; appended = tt; document = tt }

-- ---- the line of one instruction, from the state s to the state t

with_client_form : (y : Client) (line : Line) → ClientForm y → LineForm line → LineForm (with_client y line)
with_client_form y line is h =
    record { at = h.at; clients = h.clients; present = h.present; start = h.start; client = h.client; edit = h.edit; revision = is.revision; outstanding = is.outstanding; buffer = is.buffer; sent = h.sent; applied = h.applied; appended = h.appended; document = h.document }

module _ (t : State) (sound_t : IsSound t) (scalars_t : StateScalars t) where
  sent_form : (sent : Bool) (o : Option ℕ) → IfSome (if sent then message_in t o else None) MessageForm
  sent_form false o = tt
  sent_form true None = tt
  sent_form true (Some c) = (client_form t c sound_t scalars_t).message

  appended_form : (i : Instr) → IfSome (appended_by i t) OpForm
  appended_form (Edit c op) = tt
  appended_form (Take c) = last_form t sound_t scalars_t
  appended_form (Deliver c) = tt
  appended_form (Acknowledge c) = tt
  appended_form (Join c) = tt
  appended_form (Read c) = tt
  appended_form ReadServer = tt

  text_form : (i : Instr) → all_scalars (document_in t i) ≡ true
  text_form (Edit c op) = (client_form t c sound_t scalars_t).document
  text_form (Take c) = scalars_t.server
  text_form (Deliver c) = (client_form t c sound_t scalars_t).document
  text_form (Acknowledge c) = (client_form t c sound_t scalars_t).document
  text_form (Join c) = (client_form t c sound_t scalars_t).document
  text_form (Read c) = (client_form t c sound_t scalars_t).document
  text_form ReadServer = scalars_t.server

  document_form : (shown : Bool) (i : Instr) → IfSome (if shown then Some (document_in t i) else None) (λ text. all_scalars text ≡ true)
  document_form false i = tt
  document_form true i = text_form i

  -- what is placed, and the rest
  rest_form : (documents : Bool) (i : Instr) (sent : Bool) (applied : Option (Operation ℕ)) (line : Line) → IfSome applied OpForm → LineForm line
      → LineForm (record line { sent = if sent then message_in t (client_of i) else None; applied = applied; appended = appended_by i t; document = document_after documents i t })
  rest_form documents i sent applied line moved h =
      record { at = h.at; clients = h.clients; present = h.present; start = h.start; client = h.client; edit = h.edit; revision = h.revision; outstanding = h.outstanding; buffer = h.buffer; sent = sent_form sent (client_of i); applied = moved; appended = appended_form i; document = document_form (has_document i || documents) i }

  placed_form : (i : Instr) (line : Line) → LineForm line → LineForm (placed i t line)
  placed_form (Edit c op) line h = with_client_form (client_in t c) line (client_form t c sound_t scalars_t) h
  placed_form (Take c) line h =
      record { at = h.at; clients = h.clients; present = h.present; start = h.start; client = h.client; edit = h.edit; revision = log_fits t sound_t; outstanding = h.outstanding; buffer = h.buffer; sent = h.sent; applied = h.applied; appended = h.appended; document = h.document }
  placed_form (Deliver c) line h = with_client_form (client_in t c) line (client_form t c sound_t scalars_t) h
  placed_form (Acknowledge c) line h = with_client_form (client_in t c) line (client_form t c sound_t scalars_t) h
  placed_form (Join c) line h = with_client_form (client_in t c) line (client_form t c sound_t scalars_t) h
  placed_form (Read c) line h = h
  placed_form ReadServer line h = h

applies_form : (i : Instr) (s : State) → IsSound s → StateScalars s → IfSome (applies i s) OpForm
applies_form (Edit c op) s sound_s scalars_s = tt
applies_form (Take c) s sound_s scalars_s = tt
applies_form (Deliver c) s sound_s scalars_s = delivers_form s c sound_s scalars_s
applies_form (Acknowledge c) s sound_s scalars_s = tt
applies_form (Join c) s sound_s scalars_s = tt
applies_form (Read c) s sound_s scalars_s = tt
applies_form ReadServer s sound_s scalars_s = tt

pub step_formed : (documents : Bool) (clients at : ℕ) (i : Instr) (s t : State) → clients ≤ 64 → at < 2 ^ 64 → InstrForm clients i → IsSound s → StateScalars s → IsSound t → StateScalars t → IsLineFormed (step_line documents at i s t)
step_formed documents clients at i s t few small h sound_s scalars_s sound_t scalars_t =
    line_formed (step_line documents at i s t)
    (rest_form t sound_t scalars_t documents i (sends i s) (applies i s) (placed i t (named at i)) (applies_form i s sound_s scalars_s)
    (placed_form t sound_t scalars_t i (named at i) (named_form clients at i few small h)))

-- ---- all lines

-- the instructions of a schedule of so many clients
pub record InstrsForm (clients : ℕ) (is : List Instr) : Type 0 where
  pub are : All (isa.IsInstr clients) is
  pub scalars : All isa.HasScalars is

pub first_form : (clients : ℕ) (i : Instr) (is : List Instr) → InstrsForm clients (i ∷ is) → InstrForm clients i
first_form clients i is h = record { is = All-head (isa.IsInstr clients) i is h.are; scalars = All-head isa.HasScalars i is h.scalars }

lines_formed : (documents : Bool) (clients : ℕ) (is : List Instr) (at : ℕ) (s : State) → clients ≤ 64 → at + length is < 2 ^ 64 → InstrsForm clients is → IsSound s → StateScalars s → AllByRecursion IsLineFormed (lines_from documents at s is)
lines_formed documents clients [] at s few small h sound_s scalars_s = tt
lines_formed documents clients (i ∷ is) at s few small h sound_s scalars_s =
    let rest : InstrsForm clients is = record { are = All-tail (isa.IsInstr clients) i is h.are; scalars = All-tail isa.HasScalars i is h.scalars } in
    let one = first_form clients i is h in
    go (λ t sound_t scalars_t. lines_formed documents clients is (suc at) t few (omega (arith, small)) rest sound_t scalars_t) one (step s i) (step_sound laws s i sound_s (instr_is clients i one.is)) (step_scalars s i sound_s one.scalars scalars_s)
  where
    go : ((t : State) → IsSound t → StateScalars t → AllByRecursion IsLineFormed (lines_from documents (suc at) t is)) → InstrForm clients i → (o : Outcome) → IsOutcomeSound o → OutcomeScalars o
        → AllByRecursion IsLineFormed (elim o [ Performed t shown ↦ step_line documents (suc at) i s t ∷ lines_from documents (suc at) t is | Refused r ↦ [] | NoRow ↦ [] ])
    go next one (Performed t shown) sound_t scalars_t = (step_formed documents clients (suc at) i s t few (omega (arith, small)) one sound_s scalars_s sound_t scalars_t, next t sound_t scalars_t)
    go next one (Refused r) sound_t scalars_t = tt
    go next one NoRow sound_t scalars_t = tt

opening_line_formed : (s : Program) → IsProgram s → IsLineFormed (opening_line s)
opening_line_formed s is =
    let few = is.clients_to in
    let within = is.present_to in
    line_formed (opening_line s)
    (record { at = omega arith; clients = omega arith; present = omega arith; start = is.start_scalars; client = tt; edit = tt; revision = tt; outstanding = tt; buffer = tt; sent = tt; applied = tt; appended = tt; document = tt })

stop_line_formed : (clients at : ℕ) (i : Instr) (r : Refusal) → clients ≤ 64 → at < 2 ^ 64 → InstrForm clients i → IsLineFormed (stop_line at i r)
stop_line_formed clients at i r few small h =
    let named_is = named_form clients at i few small h in
    line_formed (stop_line at i r)
    (record { at = named_is.at; clients = tt; present = tt; start = tt; client = named_is.client; edit = named_is.edit; revision = tt; outstanding = tt; buffer = tt; sent = tt; applied = tt; appended = tt; document = tt })

end_line_formed : (at : ℕ) (quiet : Bool) → at < 2 ^ 64 → IsLineFormed (end_line at quiet)
end_line_formed at quiet small =
    line_formed (end_line at quiet)
    (record { at = small; clients = tt; present = tt; start = tt; client = tt; edit = tt; revision = tt; outstanding = tt; buffer = tt; sent = tt; applied = tt; appended = tt; document = tt })

pub instr_at : (clients : ℕ) (is : List Instr) (place : ℕ) (i : Instr) → InstrsForm clients is → slice_get is place ≡ Some i → InstrForm clients i
instr_at clients is place i h e =
    let within = slice_get_within is place i e in
    let same = get_or_from_slice_get is place i i e in
    record { is = subst (isa.IsInstr clients) same (h.are place i within); scalars = subst isa.HasScalars same (h.scalars place i within) }

stop_formed : (s : Program) (stopped : Option (ℕ × Refusal)) → s.clients ≤ 64 → reached s stopped < 2 ^ 64 → InstrsForm s.clients s.instrs → AllByRecursion IsLineFormed (stop_lines s stopped)
stop_formed s None few small h = tt
stop_formed s (Some stop) few small h = go (slice_get s.instrs stop.0) refl
  where
    go : (o : Option Instr) → slice_get s.instrs stop.0 ≡ o → AllByRecursion IsLineFormed (stop_at stop.0 stop.1 o)
    go None e = tt
    go (Some i) e = (stop_line_formed s.clients stop.0 i stop.1 few small (instr_at s.clients s.instrs stop.0 i h e), tt)

pub run_formed : (documents : Bool) (s : Program) (stopped : Option (ℕ × Refusal)) (lines : List Line) → IsProgram s → AreRunLines documents s stopped lines → AllByRecursion IsLineFormed lines
run_formed documents s stopped lines is are =
    let n = reached s stopped in
    let last : n ≤ length s.instrs = reached_within s are.place.state stopped are.stop in
    let fit : length s.instrs ≤ 100000 = is.instrs_fit in
    let all : InstrsForm s.clients s.instrs = record { are = is.instrs_are; scalars = is.instrs_scalars } in
    let first : InstrsForm s.clients (take n s.instrs) = record { are = All-take (isa.IsInstr s.clients) n s.instrs is.instrs_are; scalars = All-take isa.HasScalars n s.instrs is.instrs_scalars } in
    let many : length (take n s.instrs) ≡ n = length-take-le n s.instrs last in
    let moves = lines_formed documents s.clients (take n s.instrs) 0 (opening_of s) is.clients_to (omega arith) first (opening_sound s.clients s.present s.start is.clients_to is.present_to is.start_fits) (opening_scalars s is) in
    let ends = all_both IsLineFormed (stop_lines s stopped) (end_line n (is_quiet are.place.state) ∷ []) (stop_formed s stopped is.clients_to (omega arith) all) (end_line_formed n (is_quiet are.place.state) (omega arith), tt) in
    subst (AllByRecursion IsLineFormed) (sym are.are) (all_both IsLineFormed (first_lines documents s n) (last_lines s are.place.state stopped) (opening_line_formed s is, moves) ends)
