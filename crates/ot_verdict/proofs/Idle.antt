-- Which clients have edits that the server has not taken.
use Rattle.std.proofs.Common.{◌≡◌, ℕ, zero, suc, ◌+◌, ◌≢◌, List, [], ◌∷◌, ◌++◌, refl, sym, ap, ◌∙◌, arith, Bool, true, false, Some}
use Rattle.std.proofs.lemmas.Option.{same_Some}
use Rattle.std.specs.Prelude.{◌||◌, slice_get, is_some}
use Rattle.ot_isa.specs.declared.elements.Tagged.{Tagged}
use Rattle.ot_model.specs.Operation.{Operation}
use Rattle.ot_model.specs.Sound.{IsSound}
use Rattle.ot_model.specs.Table.{Phase, NotJoined, Synchronized, AwaitingConfirm, AwaitingWithBuffer, is_joined, Client, Message, State, phase_delivered}
use Rattle.ot_verdict.specs.Pending.{each_gives, has_buffer, has_untaken, number_if}

-- the numbers of such clients among these, the first of which has this number
abbrev pub untaken_from : ℕ → List Client → List ℕ
untaken_from first clients = each_gives (λ c x. number_if (has_untaken x) c) first clients

-- ---- none has such edits

abbrev pub AreIdle : List Client → Type 0
AreIdle clients = (d : ℕ) (x : Client) → slice_get clients d ≡ Some x → has_untaken x ≡ false

none_first : (first : ℕ) (b : Bool) (rest : List ℕ) → number_if b first ++ rest ≡ [] → (b ≡ false) × (rest ≡ [])
none_first first true rest e = absurd (cc)
none_first first false rest e = (refl, e)

pub all_idle : (first : ℕ) (clients : List Client) → untaken_from first clients ≡ [] → AreIdle clients
all_idle first [] e d x at = absurd (cc)
all_idle first (y ∷ clients) e zero x at =
    let both = none_first first (has_untaken y) (untaken_from (suc first) clients) e in
    ap has_untaken (sym (same_Some y x at)) ∙ both.0
all_idle first (y ∷ clients) e (suc d) x at =
    let both = none_first first (has_untaken y) (untaken_from (suc first) clients) e in
    all_idle (suc first) clients both.1 d x at

-- ---- one has such edits

pub record IsOnly (first : ℕ) (clients : List Client) (c : ℕ) : Type 0 where
  pub index : ℕ
  pub client : Client
  pub at : slice_get clients index ≡ Some client
  pub number : first + index ≡ c
  pub has : has_untaken client ≡ true
  pub others : (d : ℕ) (x : Client) → slice_get clients d ≡ Some x → d ≢ index → has_untaken x ≡ false

pub only : (first : ℕ) (clients : List Client) (c : ℕ) → untaken_from first clients ≡ c ∷ [] → IsOnly first clients c
only first [] c e = absurd (cc)
only first (y ∷ clients) c e = go (λ rest. only (suc first) clients c rest) (has_untaken y) refl e
  where
    first_of_two : (a b : ℕ) (xs ys : List ℕ) → a ∷ xs ≡ b ∷ ys → (a ≡ b) × (xs ≡ ys)
    first_of_two a b xs ys f = (cc, cc)

    go : (untaken_from (suc first) clients ≡ c ∷ [] → IsOnly (suc first) clients c) → (b : Bool) → has_untaken y ≡ b → number_if b first ++ untaken_from (suc first) clients ≡ c ∷ [] → IsOnly first (y ∷ clients) c
    go further true is f =
        let both = first_of_two first c (untaken_from (suc first) clients) [] f in
        let idle = all_idle (suc first) clients both.1 in
        record {
          index = zero;
          client = y;
          at = refl;
          number = let same = both.0 in omega arith;
          has = is;
          others = rest idle;
        }
      where
        rest : AreIdle clients → (d : ℕ) (x : Client) → slice_get (y ∷ clients) d ≡ Some x → d ≢ zero → has_untaken x ≡ false
        rest idle zero x at other = absurd (other refl)
        rest idle (suc d) x at other = idle d x at
    go further false is f =
        let found = further f in
        record {
          index = suc found.index;
          client = found.client;
          at = found.at;
          number = let same = found.number in omega arith;
          has = found.has;
          others = rest found;
        }
      where
        rest : (found : IsOnly (suc first) clients c) → (d : ℕ) (x : Client) → slice_get (y ∷ clients) d ≡ Some x → d ≢ suc found.index → has_untaken x ≡ false
        rest found zero x at other = ap has_untaken (sym (same_Some y x at)) ∙ is
        rest found (suc d) x at other = found.others d x at (λ e. other (ap suc e))

-- ---- what an idle client has

pub or_false : (a b : Bool) → (a || b) ≡ false → (a ≡ false) × (b ≡ false)
or_false true b e = absurd (cc)
or_false false b e = (refl, e)

pub or_false_false : (a : Bool) → a ≡ false → (a || false) ≡ false
or_false_false true e = absurd (cc)
or_false_false false e = refl

pub idle_message : (x : Client) → has_untaken x ≡ false → is_some x.message ≡ false
idle_message x e = (or_false (is_some x.message) (has_buffer x.phase) e).0

pub idle_sends_nothing : (x : Client) (m : Message) → has_untaken x ≡ false → x.message ≡ Some m → ⊥
idle_sends_nothing x m e sent = absurd (let clash : true ≡ false = sym (ap is_some sent) ∙ idle_message x e in cc)

pub idle_buffer : (x : Client) → has_untaken x ≡ false → has_buffer x.phase ≡ false
idle_buffer x e = (or_false (is_some x.message) (has_buffer x.phase) e).1

pub has_buffer_delivered : (phase : Phase) (h : Operation Tagged) → has_buffer (phase_delivered phase h) ≡ has_buffer phase
has_buffer_delivered NotJoined h = refl
has_buffer_delivered Synchronized h = refl
has_buffer_delivered (AwaitingConfirm o) h = refl
has_buffer_delivered (AwaitingWithBuffer o b) h = refl

-- a client with such edits has joined
pub untaken_joined : (s : State) (c : ℕ) (x : Client) → IsSound s → slice_get s.clients c ≡ Some x → has_untaken x ≡ true → is_joined x.phase ≡ true
untaken_joined s c x (start, text, sound) at has = go x.phase refl
  where
    go : (phase : Phase) → x.phase ≡ phase → is_joined x.phase ≡ true
    go NotJoined is = absurd (let clash : true ≡ false = sym has ∙ ap has_untaken (sound.absents c x at is).0 in cc)
    go Synchronized is = ap is_joined is
    go (AwaitingConfirm o) is = ap is_joined is
    go (AwaitingWithBuffer o b) is = ap is_joined is

-- where no client has such edits, none is named
pub idle_none : (first : ℕ) (clients : List Client) → AreIdle clients → untaken_from first clients ≡ []
idle_none first [] idle = refl
idle_none first (x ∷ clients) idle = ap (λ (b : Bool). number_if b first ++ untaken_from (suc first) clients) (idle zero x refl) ∙ idle_none (suc first) clients (λ d y at. idle (suc d) y at)
