-- ot.js' client and server over other elements.
use Rattle.std.proofs.Common.{◌≡◌, ℕ, suc, List, [], ◌∷◌, map, length, drop, refl, sym, ap, ◌∙◌}
use Rattle.std.proofs.lemmas.List.{length-map, map-append, drop-map}
use Rattle.std.specs.Prelude.{option_map}
use Rattle.ot_codes.specs.Shape.{mapped}
use Rattle.ot_codes.proofs.Mapped.{compose-mapped, first_after-mapped, second_after-mapped}
use Rattle.ot_operation.specs.Operation.{Operation}
use Rattle.ot_operation.specs.Merge.{first_after, second_after}
use Rattle.ot_client.specs.State.{Phase, Synchronized, AwaitingConfirm, AwaitingWithBuffer, State, phase_edited, edited, phase_delivered, delivered, against_pending, phase_acknowledged, message_edited, message_acknowledged}
use Rattle.ot_server.specs.History.{Entry, History, transform_over, with_entry, received}
use Rattle.ot_server.specs.Faults.{base_at, inserted_in, length_at, longest_at, fault_of}
use Rattle.ot_letters.specs.Elements.{mapped_phase, mapped_client, mapped_message, mapped_entry, mapped_log, mapped_history}
use Rattle.ot_letters.proofs.Operations.{apply-mapped, length-news-mapped}

-- ---- the client

pub phase_edited-mapped : {A B : Type 0} (f : A → B) (phase : Phase A) (op : Operation A) → phase_edited (mapped_phase f phase) (mapped f op) ≡ mapped_phase f (phase_edited phase op)
phase_edited-mapped f Synchronized op = refl
phase_edited-mapped f (AwaitingConfirm outstanding) op = refl
phase_edited-mapped f (AwaitingWithBuffer outstanding buffer) op = ap (λ b. AwaitingWithBuffer (mapped f outstanding) b) (sym (compose-mapped f buffer op))

pub edited-mapped : {A B : Type 0} (f : A → B) (state : State A) (op : Operation A) → edited (mapped_client f state) (mapped f op) ≡ mapped_client f (edited state op)
edited-mapped {A} {B} f state op = ap (λ (p : Phase B). record { revision = state.revision; phase = p }) (phase_edited-mapped f state.phase op)

pub message_edited-mapped :
    {A B : Type 0} (f : A → B) (revision : ℕ) (phase : Phase A) (op : Operation A)
    → message_edited revision (mapped_phase f phase) (mapped f op) ≡ option_map (mapped_message f) (message_edited revision phase op)
message_edited-mapped f revision Synchronized op = refl
message_edited-mapped f revision (AwaitingConfirm outstanding) op = refl
message_edited-mapped f revision (AwaitingWithBuffer outstanding buffer) op = refl

pub phase_delivered-mapped :
    {A B : Type 0} (f : A → B) (phase : Phase A) (op : Operation A)
    → phase_delivered (mapped_phase f phase) (mapped f op) ≡ mapped_phase f (phase_delivered phase op)
phase_delivered-mapped f Synchronized op = refl
phase_delivered-mapped f (AwaitingConfirm outstanding) op = ap AwaitingConfirm (sym (first_after-mapped f outstanding op))
phase_delivered-mapped {A} {B} f (AwaitingWithBuffer outstanding buffer) op =
    ap (λ (o : Operation B). AwaitingWithBuffer o (first_after (mapped f buffer) (second_after (mapped f outstanding) (mapped f op)))) (sym (first_after-mapped f outstanding op))
    ∙ ap (λ (h : Operation B). AwaitingWithBuffer (mapped f (first_after outstanding op)) (first_after (mapped f buffer) h)) (sym (second_after-mapped f outstanding op))
    ∙ ap (λ (b : Operation B). AwaitingWithBuffer (mapped f (first_after outstanding op)) b) (sym (first_after-mapped f buffer (second_after outstanding op)))

pub delivered-mapped : {A B : Type 0} (f : A → B) (state : State A) (op : Operation A) → delivered (mapped_client f state) (mapped f op) ≡ mapped_client f (delivered state op)
delivered-mapped {A} {B} f state op = ap (λ (p : Phase B). record { revision = suc state.revision; phase = p }) (phase_delivered-mapped f state.phase op)

pub against_pending-mapped :
    {A B : Type 0} (f : A → B) (phase : Phase A) (op : Operation A)
    → against_pending (mapped_phase f phase) (mapped f op) ≡ mapped f (against_pending phase op)
against_pending-mapped f Synchronized op = refl
against_pending-mapped f (AwaitingConfirm outstanding) op = sym (second_after-mapped f outstanding op)
against_pending-mapped {A} {B} f (AwaitingWithBuffer outstanding buffer) op =
    ap (λ (h : Operation B). second_after (mapped f buffer) h) (sym (second_after-mapped f outstanding op))
    ∙ sym (second_after-mapped f buffer (second_after outstanding op))

pub phase_acknowledged-mapped : {A B : Type 0} (f : A → B) (phase : Phase A) → phase_acknowledged (mapped_phase f phase) ≡ option_map (mapped_phase f) (phase_acknowledged phase)
phase_acknowledged-mapped f Synchronized = refl
phase_acknowledged-mapped f (AwaitingConfirm outstanding) = refl
phase_acknowledged-mapped f (AwaitingWithBuffer outstanding buffer) = refl

pub message_acknowledged-mapped :
    {A B : Type 0} (f : A → B) (revision : ℕ) (phase : Phase A)
    → message_acknowledged revision (mapped_phase f phase) ≡ option_map (mapped_message f) (message_acknowledged revision phase)
message_acknowledged-mapped f revision Synchronized = refl
message_acknowledged-mapped f revision (AwaitingConfirm outstanding) = refl
message_acknowledged-mapped f revision (AwaitingWithBuffer outstanding buffer) = refl

-- ---- the server

pub transform_over-mapped : {A B : Type 0} (f : A → B) (op : Operation A) (log : List (Entry A)) → transform_over (mapped f op) (mapped_log f log) ≡ mapped f (transform_over op log)
transform_over-mapped f op [] = refl
transform_over-mapped {A} {B} f op (entry ∷ log) =
    ap (λ (o : Operation B). transform_over o (mapped_log f log)) (sym (first_after-mapped f op entry.op)) ∙ transform_over-mapped f (first_after op entry.op) log

base_at-mapped : {A B : Type 0} (f : A → B) (log : List (Entry A)) (end : ℕ) → base_at (mapped_log f log) end ≡ base_at log end
base_at-mapped f [] end = refl
base_at-mapped f (entry ∷ log) end = refl

inserted_in-mapped : {A B : Type 0} (f : A → B) (log : List (Entry A)) → inserted_in (mapped_log f log) ≡ inserted_in log
inserted_in-mapped f [] = refl
inserted_in-mapped f (entry ∷ log) = rw (length-news-mapped f entry.op.image, inserted_in-mapped f log) refl

length_at-mapped : {A B : Type 0} (f : A → B) (history : History A) (revision : ℕ) → length_at (mapped_history f history) revision ≡ length_at history revision
length_at-mapped f history revision =
    ap (λ log. base_at log (length (map f history.document))) (drop-map (mapped_entry f) revision history.log)
    ∙ base_at-mapped f (drop revision history.log) (length (map f history.document))
    ∙ ap (base_at (drop revision history.log)) (length-map history.document f)

longest_at-mapped :
    {A B : Type 0} (f : A → B) (history : History A) (revision : ℕ) (op : Operation A)
    → longest_at (mapped_history f history) revision (mapped f op) ≡ longest_at history revision op
longest_at-mapped f history revision op =
    let logged = ap inserted_in (drop-map (mapped_entry f) revision history.log) ∙ inserted_in-mapped f (drop revision history.log) in
    rw (length_at-mapped f history revision, logged, length-news-mapped f op.image) refl

pub fault_of-mapped :
    {A B : Type 0} (f : A → B) (history : History A) (revision : ℕ) (op : Operation A)
    → fault_of (mapped_history f history) revision (mapped f op) ≡ fault_of history revision op
fault_of-mapped f history revision op =
    rw (longest_at-mapped f history revision op, length_at-mapped f history revision, length-map history.log (mapped_entry f)) refl

same_history : {A : Type 0} (d e : List A) (l m : List (Entry A)) → d ≡ e → l ≡ m → ◌≡◌ {A = History A} (record { document = d; log = l }) (record { document = e; log = m })
same_history d e l m p q = rw (p, q) refl

with_entry-mapped :
    {A B : Type 0} (f : A → B) (history : History A) (maker : ℕ) (op : Operation A)
    → with_entry (mapped_history f history) maker (mapped f op) ≡ mapped_history f (with_entry history maker op)
with_entry-mapped f history maker op =
    same_history _ _ _ _ (apply-mapped f op history.document) (sym (map-append (mapped_entry f) history.log (record { maker = maker; op = op } ∷ [])))

pub received-mapped :
    {A B : Type 0} (f : A → B) (history : History A) (maker revision : ℕ) (op : Operation A)
    → received (mapped_history f history) maker revision (mapped f op) ≡ mapped_history f (received history maker revision op)
received-mapped {A} {B} f history maker revision op =
    ap (λ (log : List (Entry B)). with_entry (mapped_history f history) maker (transform_over (mapped f op) log)) (drop-map (mapped_entry f) revision history.log)
    ∙ ap (λ (o : Operation B). with_entry (mapped_history f history) maker o) (transform_over-mapped f op (drop revision history.log))
    ∙ with_entry-mapped f history maker (transform_over op (drop revision history.log))
