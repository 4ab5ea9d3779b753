-- The test whether all is settled.
use Rattle.std.proofs.Common.{◌≡◌, ℕ, zero, suc, List, [], ◌∷◌, drop, refl, sym, ap, ◌∙◌, Option, Some, None, Bool, true}
use Rattle.std.proofs.lemmas.Option.{same_Some}
use Rattle.std.specs.Prelude.{◌&&◌, slice_get, is_none}
use Rattle.std.specs.List.{list_all}
use Rattle.ot_model.specs.Table.{Phase, NotJoined, Synchronized, AwaitingConfirm, AwaitingWithBuffer, is_joined, Client, State, Message}
use Rattle.ot_every.specs.Listing.{is_synchronized, is_empty, is_settled}
use Rattle.ot_every.specs.Laws.{IsSettled}
use Rattle.ot_every.proofs.Machines.{both_true, and_true}

each_passes : {A : Type 0} (p : A → Bool) (xs : List A) (k : ℕ) (x : A) → list_all p xs ≡ true → slice_get xs k ≡ Some x → p x ≡ true
each_passes p [] k x all at = absurd (cc)
each_passes p (y ∷ xs) zero x all at = ap p (sym (same_Some y x at)) ∙ (both_true (p y) (list_all p xs) all).0
each_passes p (y ∷ xs) (suc k) x all at = each_passes p xs k x (both_true (p y) (list_all p xs) all).1 at

all_pass : {A : Type 0} (p : A → Bool) (xs : List A) → ((k : ℕ) (x : A) → slice_get xs k ≡ Some x → p x ≡ true) → list_all p xs ≡ true
all_pass p [] each = refl
all_pass p (y ∷ xs) each = and_true (p y) (list_all p xs) (each 0 y refl) (all_pass p xs (λ k x at. each (suc k) x at))

synchronized : (phase : Phase) → is_synchronized phase ≡ true → phase ≡ Synchronized
synchronized NotJoined e = absurd (cc)
synchronized Synchronized e = refl
synchronized (AwaitingConfirm o) e = absurd (cc)
synchronized (AwaitingWithBuffer o b) e = absurd (cc)

none_under_way : (m : Option Message) → is_none m ≡ true → m ≡ None
none_under_way None e = refl
none_under_way (Some m) e = absurd (cc)

pub nothing_in : {A : Type 0} (xs : List A) → is_empty xs ≡ true → xs ≡ []
nothing_in [] e = refl
nothing_in (x ∷ xs) e = absurd (cc)

pub settled_is : (s : State) → is_settled s ≡ true → IsSettled s
settled_is s e =
    let passes : (c : ℕ) (x : Client) → slice_get s.clients c ≡ Some x → (is_synchronized x.phase ≡ true) × ((is_none x.message && is_empty (drop x.revision s.log)) ≡ true) =
    λ c x at. both_true (is_synchronized x.phase) (is_none x.message && is_empty (drop x.revision s.log))
    (each_passes (λ (y : Client). is_synchronized y.phase && (is_none y.message && is_empty (drop y.revision s.log))) s.clients c x e at) in
    record {
      quiet = λ c x at on. (
          let p = passes c x at in
          let rest = both_true (is_none x.message) (is_empty (drop x.revision s.log)) p.1 in
          record { no_message = none_under_way x.message rest.0; no_downlink = nothing_in (drop x.revision s.log) rest.1; synchronized = synchronized x.phase p.0 }
          );
      joined = λ c x at. ap is_joined (synchronized x.phase (passes c x at).0);
    }

pub is_settled_there : (s : State) → IsSettled s → is_settled s ≡ true
is_settled_there s settled = all_pass _ s.clients (λ c x at. (
    let q = settled.quiet c x at (settled.joined c x at) in
    and_true (is_synchronized x.phase) (is_none x.message && is_empty (drop x.revision s.log)) (ap is_synchronized q.synchronized)
    (and_true (is_none x.message) (is_empty (drop x.revision s.log)) (ap is_none q.no_message) (ap is_empty q.no_downlink))
    ))
