-- The test of quiet is exact.
use Rattle.std.proofs.Common.{◌≡◌, ℕ, zero, suc, List, [], ◌∷◌, drop, refl, sym, ap, ◌∙◌, Option, Some, None, Bool, true, false}
use Rattle.std.specs.Prelude.{◌↔◌, ◌&&◌, IsTrue, slice_get, is_none, if◌then◌else◌}
use Rattle.std.proofs.lemmas.Option.{same_Some}
use Rattle.ot_model.specs.Table.{Phase, NotJoined, Synchronized, AwaitingConfirm, AwaitingWithBuffer, Client, Entry, Message, State, is_joined, IsQuiet, IsQuietClient}
use Rattle.ot_machine.specs.Effects.{is_synchronized}
use Rattle.ot_steps.specs.Steps.{are_quiet, is_client_quiet, is_end, is_quiet}

both : (a b : Bool) → (a && b) ≡ true → (a ≡ true) × (b ≡ true)
both true true e = (refl, refl)
both true false e = absurd (cc)
both false b e = absurd (cc)

client_quiet : (log : List Entry) (x : Client) → is_client_quiet log x ≡ true → is_joined x.phase ≡ true → IsQuietClient log x
client_quiet log x quiet on = go x.phase x.message (drop x.revision log) refl refl refl quiet on
  where
    go : (phase : Phase) (message : Option Message) (ahead : List Entry) → x.phase ≡ phase → x.message ≡ message → drop x.revision log ≡ ahead
        → (if is_joined phase then is_synchronized phase && (is_none message && is_end ahead) else true) ≡ true → is_joined phase ≡ true → IsQuietClient log x
    go NotJoined message ahead p m a quiet on = absurd (cc)
    go Synchronized None [] p m a quiet on = record { no_message = m; no_downlink = a; synchronized = p }
    go Synchronized None (h ∷ ahead) p m a quiet on = absurd (cc)
    go Synchronized (Some s) ahead p m a quiet on = absurd (cc)
    go (AwaitingConfirm o) message ahead p m a quiet on = absurd (cc)
    go (AwaitingWithBuffer o b) message ahead p m a quiet on = absurd (cc)

quiet_client : (log : List Entry) (x : Client) → (is_joined x.phase ≡ true → IsQuietClient log x) → is_client_quiet log x ≡ true
quiet_client log x quiet = go (is_joined x.phase) refl
  where
    go : (on : Bool) → is_joined x.phase ≡ on → is_client_quiet log x ≡ true
    go false off = rw off refl
    go true on = let q = quiet on in rw (on, q.synchronized, q.no_message, q.no_downlink) refl

clients_quiet : (log : List Entry) (clients : List Client) → are_quiet log clients ≡ true → (c : ℕ) (x : Client) → slice_get clients c ≡ Some x → is_joined x.phase ≡ true → IsQuietClient log x
clients_quiet log [] quiet c x at on = absurd (cc)
clients_quiet log (y ∷ clients) quiet zero x at on =
    let same : y ≡ x = same_Some y x at in
    client_quiet log x (ap (is_client_quiet log) (sym same) ∙ (both (is_client_quiet log y) (are_quiet log clients) quiet).0) on
clients_quiet log (y ∷ clients) quiet (suc c) x at on = clients_quiet log clients (both (is_client_quiet log y) (are_quiet log clients) quiet).1 c x at on

quiet_clients : (log : List Entry) (clients : List Client) → ((c : ℕ) (x : Client) → slice_get clients c ≡ Some x → is_joined x.phase ≡ true → IsQuietClient log x) → are_quiet log clients ≡ true
quiet_clients log [] quiet = refl
quiet_clients log (y ∷ clients) quiet =
    let here = quiet_client log y (quiet 0 y refl) in
    let others = quiet_clients log clients (λ c x at. quiet (suc c) x at) in
    rw (here, others) refl

-- whoever decides it, decides what the test says
pub quiet_is : (b : Bool) (s : State) → IsTrue b ↔ IsQuiet s → b ≡ is_quiet s
quiet_is true s exact = sym (quiet_clients s.log s.clients (exact.0 refl))
quiet_is false s exact = go (is_quiet s) refl
  where
    go : (q : Bool) → is_quiet s ≡ q → false ≡ is_quiet s
    go true on = let e : false ≡ true = exact.1 (clients_quiet s.log s.clients on) in absurd (cc)
    go false off = sym off
