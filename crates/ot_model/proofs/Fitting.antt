-- No length passes the limit in a sound state, and the calls of clients and server find what they ask.
use Rattle.std.proofs.Common.{◌≡◌, ◌≢◌, ℕ, zero, suc, ◌+◌, ◌<◌, ◌≤◌, List, [], ◌∷◌, ◌++◌, length, take, drop, refl, sym, ap, ◌∙◌, subst, arith, Option, Some, None, true, get_or, length-append}
use Rattle.std.specs.Prelude.{slice_get}
use Rattle.std.specs.List.{All}
use Rattle.std.proofs.lemmas.List.{length-take-le, take-take}
use Rattle.std.proofs.lemmas.List.Sums.{sum_by-cons, sum_by-take-drop}
use Rattle.std.proofs.lemmas.Option.{slice_get-get_or, slice_get_within}
use Rattle.ot_operation.proofs.LengthLaws.{second_after-base}
use Rattle.ot_server.proofs.Faults.{fault_none}
use Rattle.ot_isa.specs.declared.elements.Tagged.{Tagged}
use Rattle.ot_server.specs.History.{History}
use Rattle.ot_server.specs.Faults.{base_at, length_at, longest_at, fault_of}
use Rattle.ot_server.specs.Faults as server_faults
use Rattle.ot_model.specs.Operation.{Operation, apply, inserted, news, second_after}
use Rattle.ot_model.specs.Table.{Phase, NotJoined, Synchronized, AwaitingConfirm, AwaitingWithBuffer, is_joined, Client, State, Entry, Message, against_pending}
use Rattle.ot_model.specs.Sound.{Fits, apply_entries, FitAll, IsPhaseSound, IsSoundFrom, IsSound, pending, news_sent, news_kept, inserted_in}
use Rattle.ot_model.specs.Limits.{IsShort, IsPhaseShort, IsWithinLimits}
use Rattle.ot_model.specs.Laws.{history_of, MayDeliver, IsDeliverable}
use Rattle.ot_model.proofs.States.{drop_entry, FitAll_drop, message_fits, sent_joined}
use Rattle.ot_model.proofs.Lengths.{total, apply-le, apply_entries-le, FitAll_take, room_ahead, server_accepts, outstanding-le, deliver_room}
use Rattle.ot_model.proofs.Algebra.{laws}

-- an operation over a document of this length is short, where the document and what it inserts are
short_from : (o : Operation Tagged) (d : List Tagged) → Fits o d → length d + inserted o ≤ 1000000 → IsShort o
short_from o d fits room =
    let base = fits.base in
    let image = laws.image_length o fits.rising in
    record { base = omega arith; target = omega arith }

entry_short : (d : List Tagged) (log : List Entry) → FitAll d log → length d + inserted_in log ≤ 1000000 → All (λ h. IsShort h.op) log
entry_short d log fit room k e below =
    let h = get_or log k e in
    let at : slice_get log k ≡ Some h = slice_get-get_or log k e below in
    let rest : FitAll (apply_entries d (take k log)) (h ∷ drop (suc k) log) = subst (FitAll (apply_entries d (take k log))) (drop_entry log k h at) (FitAll_drop laws d k log fit) in
    let before = apply_entries-le laws d (take k log) (FitAll_take laws d k log fit) in
    let sum = sum_by-take-drop (λ (e : Entry). inserted e.op) log k in
    let head : inserted_in (drop k log) ≡ inserted h.op + inserted_in (drop (suc k) log) = ap inserted_in (drop_entry log k h at) ∙ sum_by-cons (λ (e : Entry). inserted e.op) h (drop (suc k) log) in
    short_from h.op (apply_entries d (take k log)) rest.0 (omega arith)

-- one client's list and operations
list_short : (c : ℕ) (phase : Phase) (start : List Tagged) (seen ahead : List Entry) (list : List Tagged) (message : Option Message) → FitAll start seen → FitAll (apply_entries start seen) ahead → IsPhaseSound c phase start seen ahead list message
    → length (apply_entries start seen) + (inserted_in ahead + length (news_sent message ++ news_kept phase)) ≤ 1000000
    → (phase ≡ NotJoined → list ≡ []) → (length list ≤ 1000000) × IsPhaseShort phase
list_short c NotJoined start seen ahead list message before all now room none = let e = ap length (none refl) in (omega arith, tt)
list_short c Synchronized start seen ahead list message before all now room none = let e = ap length now.list_is in (omega arith, tt)
list_short c (AwaitingConfirm o) start seen ahead list message before all now room none =
    let sum = length-append (news_sent message) [] in
    let out = outstanding-le laws c o start seen ahead message before all now.fits now.sent in
    let long = apply-le laws o (apply_entries start seen) now.fits in
    let e = ap length now.list_is in
    (omega arith, short_from o (apply_entries start seen) now.fits (omega arith))
list_short c (AwaitingWithBuffer o b) start seen ahead list message before all now room none =
    let d = apply_entries start seen in
    let sum = length-append (news_sent message) (news b) in
    let out = outstanding-le laws c o start seen ahead message before all now.fits now.sent in
    let long = apply-le laws o d now.fits in
    let longer = apply-le laws b (apply o d) now.buffer_fits in
    let e = ap length now.list_is in
    (omega arith, (short_from o d now.fits (omega arith), short_from b (apply o d) now.buffer_fits (omega arith)))

client_short : (start : List Tagged) (text : List ℕ) (s : State) (c : ℕ) (x : Client) → IsSoundFrom start text s → slice_get s.clients c ≡ Some x → (length x.list ≤ 1000000) × IsPhaseShort x.phase
client_short start text s c x sound at =
    list_short c x.phase start (take x.revision s.log) (drop x.revision s.log) x.list x.message (FitAll_take laws start x.revision s.log sound.fit) (FitAll_drop laws start x.revision s.log sound.fit) (sound.clients c x at)
    (room_ahead laws start text s c x x.revision sound at) (λ off. ap (λ (z : Client). z.list) (sound.absents c x at off).0)

-- a message, over the document that it was made on
message_at : (start : List Tagged) (text : List ℕ) (s : State) (c : ℕ) (x : Client) (m : Message) → IsSoundFrom start text s → slice_get s.clients c ≡ Some x → x.message ≡ Some m → Fits m.op (apply_entries start (take m.revision s.log))
message_at start text s c x m sound at sent =
    let seen = take x.revision s.log in
    let now : IsPhaseSound c x.phase start seen (drop x.revision s.log) x.list (Some m) = rw (← sent) (sound.clients c x at) in
    let fact = message_fits laws c x.phase start seen (drop x.revision s.log) x.list m (sent_joined start text s c x m sound at sent) now in
    let r_in : x.revision ≤ length s.log = sound.seen c x at in
    let len : length seen ≡ x.revision = length-take-le x.revision s.log r_in in
    let q_le : m.revision ≤ x.revision = rw (← len) fact.0 in
    rw (← take-take m.revision x.revision s.log q_le) fact.1

message_short : (start : List Tagged) (text : List ℕ) (s : State) (c : ℕ) (x : Client) (m : Message) → IsSoundFrom start text s → slice_get s.clients c ≡ Some x → x.message ≡ Some m → IsShort m.op
message_short start text s c x m sound at sent =
    let p : pending x ≡ inserted m.op + length (news_kept x.phase) = ap (λ (w : Option Message). length (news_sent w ++ news_kept x.phase)) sent ∙ length-append (news m.op) (news_kept x.phase) in
    let all = room_ahead laws start text s c x m.revision sound at in
    short_from m.op (apply_entries start (take m.revision s.log)) (message_at start text s c x m sound at sent) (omega arith)

pub lengths_fit : (s : State) → IsSound s → IsWithinLimits s
lengths_fit s (start, text, sound) =
    let all = total start text s sound in
    let whole = apply_entries-le laws start s.log sound.fit in
    let server = ap length sound.server in
    let logged = sound.logged in
    let steps = sound.steps in
    record {
      log = omega arith;
      server = omega arith;
      entries = entry_short start s.log sound.fit (omega arith);
      lists = λ c x at. (client_short start text s c x sound at).0;
      phases = λ c x at. (client_short start text s c x sound at).1;
      messages = λ c x m at sent. message_short start text s c x m sound at sent;
    }

-- the server
base_at_is : (d : List Tagged) (q : ℕ) (log : List Entry) → FitAll d log → base_at (drop q log) (length (apply_entries d log)) ≡ length (apply_entries d (take q log))
base_at_is d zero [] fit = refl
base_at_is d zero (h ∷ log) fit = fit.0.base
base_at_is d (suc q) [] fit = refl
base_at_is d (suc q) (h ∷ log) fit = base_at_is (apply h.op d) q log fit.1

inserted_same : (log : List Entry) → server_faults.inserted_in log ≡ inserted_in log
inserted_same [] = refl
inserted_same (h ∷ log) = omega (arith, sum_by-cons (λ (e : Entry). inserted e.op) h log, inserted_same log)

pub accepts : (s : State) (c : ℕ) (x : Client) (m : Message) → IsSound s → s.steps < 1000000 → slice_get s.clients c ≡ Some x → x.message ≡ Some m → fault_of (history_of s) m.revision m.op ≡ None
accepts s c x m (start, text, sound) below at sent =
    let fact = server_accepts laws start text s c x m sound below at sent in
    let base : length_at (history_of s) m.revision ≡ length (apply_entries start (take m.revision s.log)) =
    ap (λ (d : List Tagged). base_at (drop m.revision s.log) (length d)) sound.server ∙ base_at_is start m.revision s.log sound.fit in
    let more = inserted_same (drop m.revision s.log) in
    fault_none (history_of s) m.revision m.op fact.0 (fact.1 ∙ sym base) fact.2 (omega (arith, fact.3))

-- a client
phase_deliverable : (c : ℕ) (phase : Phase) (start : List Tagged) (seen ahead : List Entry) (list : List Tagged) (message : Option Message) (h : Entry) → FitAll start seen → FitAll (apply_entries start seen) (h ∷ ahead) → h.maker ≢ c → is_joined phase ≡ true → IsPhaseSound c phase start seen (h ∷ ahead) list message
    → length (apply_entries start seen) + (inserted_in (h ∷ ahead) + length (news_sent message ++ news_kept phase)) ≤ 1000000
    → MayDeliver phase h.op × ((against_pending phase h.op).base ≡ length list)
phase_deliverable c NotJoined start seen ahead list message h before all other on now room = absurd (cc)
phase_deliverable c Synchronized start seen ahead list message h before all other on now room = (tt, all.0.base ∙ ap length (sym now.list_is))
phase_deliverable c (AwaitingConfirm o) start seen ahead list message h before all other on now room =
    let none : Operation Tagged = record { base = 0; image = [] } in
    let sum = length-append (news_sent message) [] in
    let fit = deliver_room laws c o none start seen ahead message h before all now.fits other now.sent (omega arith) in
    let base = all.0.base in (
      (base ∙ sym now.fits.base, omega arith),
      second_after-base o h.op ∙ sym (laws.apply-length o (apply_entries start seen) now.fits) ∙ ap length (sym now.list_is),
    )
phase_deliverable c (AwaitingWithBuffer o b) start seen ahead list message h before all other on now room =
    let sum = length-append (news_sent message) (news b) in
    let fit = deliver_room laws c o b start seen ahead message h before all now.fits other now.sent (omega arith) in
    let base = all.0.base in (
      (base ∙ sym now.fits.base, omega arith),
      second_after-base b (second_after o h.op) ∙ sym (laws.apply-length b (apply o (apply_entries start seen)) now.buffer_fits) ∙ ap length (sym now.list_is),
    )

pub deliverable : (s : State) (c : ℕ) (x : Client) (h : Entry) → IsSound s → slice_get s.clients c ≡ Some x → is_joined x.phase ≡ true → slice_get s.log x.revision ≡ Some h → h.maker ≢ c → IsDeliverable x h.op
deliverable s c x h (start, text, sound) at on head other =
    let e = drop_entry s.log x.revision h head in
    let now : IsPhaseSound c x.phase start (take x.revision s.log) (h ∷ drop (suc x.revision) s.log) x.list x.message =
    subst (λ (ahead : List Entry). IsPhaseSound c x.phase start (take x.revision s.log) ahead x.list x.message) e (sound.clients c x at) in
    let all : FitAll (apply_entries start (take x.revision s.log)) (h ∷ drop (suc x.revision) s.log) = subst (FitAll (apply_entries start (take x.revision s.log))) e (FitAll_drop laws start x.revision s.log sound.fit) in
    let room = subst (λ (ahead : List Entry). length (apply_entries start (take x.revision s.log)) + (inserted_in ahead + pending x) ≤ 1000000) e (room_ahead laws start text s c x x.revision sound at) in
    let fact = phase_deliverable c x.phase start (take x.revision s.log) (drop (suc x.revision) s.log) x.list x.message h (FitAll_take laws start x.revision s.log sound.fit) all other on now room in
    let within = slice_get_within s.log x.revision h head in
    let logged = sound.logged in
    let steps = sound.steps in
    record { revision = omega arith; operations = fact.0; base = fact.1 }
