-- Each state is quiet or not.
use Rattle.std.proofs.Common.{◌≡◌, ℕ, zero, suc, List, [], ◌∷◌, drop, refl, ap, subst, Option, Some, None, Bool, true, false}
use Rattle.std.specs.Prelude.{◌↔◌, IsTrue, slice_get}
use Rattle.std.proofs.lemmas.Option.{same_Some}
use Rattle.ot_model.specs.Table.{Phase, NotJoined, Synchronized, AwaitingConfirm, AwaitingWithBuffer, Client, Entry, Message, State, is_joined, IsQuiet, IsQuietClient}

-- the client is quiet if it has joined
abbrev IsSettled : List Entry → Client → Type 0
IsSettled log x = is_joined x.phase ≡ true → IsQuietClient log x

-- a test of it
abbrev Decides : Type 0 → Type 0
Decides P = (b : Bool) × (IsTrue b ↔ P)

settled : (log : List Entry) (x : Client) → Decides (IsSettled log x)
settled log x = go x.phase x.message (drop x.revision log) refl refl refl
  where
    no : (IsSettled log x → ⊥) → Decides (IsSettled log x)
    no wrong = (false, ((λ e. absurd (cc)), (λ p. absurd (wrong p))))

    go : (phase : Phase) (message : Option Message) (ahead : List Entry) → x.phase ≡ phase → x.message ≡ message → drop x.revision log ≡ ahead → Decides (IsSettled log x)
    go NotJoined message ahead p m a = (true, ((λ e on. absurd (cc)), (λ q. refl)))
    go Synchronized None [] p m a = (true, ((λ e on. record { no_message = m; no_downlink = a; synchronized = p }), (λ q. refl)))
    go Synchronized None (h ∷ ahead) p m a = no (λ q. let f = (q (ap is_joined p)).no_downlink in absurd (cc))
    go Synchronized (Some s) ahead p m a = no (λ q. let f = (q (ap is_joined p)).no_message in absurd (cc))
    go (AwaitingConfirm o) message ahead p m a = no (λ q. let f = (q (ap is_joined p)).synchronized in absurd (cc))
    go (AwaitingWithBuffer o b) message ahead p m a = no (λ q. let f = (q (ap is_joined p)).synchronized in absurd (cc))

abbrev AreSettled : List Entry → List Client → Type 0
AreSettled log clients = (c : ℕ) (x : Client) → slice_get clients c ≡ Some x → IsSettled log x

all_settled : (log : List Entry) (clients : List Client) → Decides (AreSettled log clients)
all_settled log [] = (true, ((λ e c x at. absurd (cc)), (λ p. refl)))
all_settled log (y ∷ clients) = go (settled log y) (all_settled log clients)
  where
    each : IsSettled log y → AreSettled log clients → AreSettled log (y ∷ clients)
    each here others zero x at = subst (IsSettled log) (same_Some y x at) here
    each here others (suc c) x at = others c x at

    go : Decides (IsSettled log y) → Decides (AreSettled log clients) → Decides (AreSettled log (y ∷ clients))
    go (true, here) (true, others) = (true, ((λ e. each (here.0 refl) (others.0 refl)), (λ p. refl)))
    go (true, here) (false, others) = (false, ((λ e. absurd (cc)), (λ p. others.1 (λ c x at. p (suc c) x at))))
    go (false, here) others = (false, ((λ e. absurd (cc)), (λ p. here.1 (p 0 y refl))))

-- a state
pub quiet_or_not : (s : State) → (quiet : Bool) × (IsTrue quiet ↔ IsQuiet s)
quiet_or_not s = all_settled s.log s.clients
