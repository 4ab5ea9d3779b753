-- What is known of one client, and of all of them.
use Rattle.std.proofs.Common.{◌≡◌, ℕ, zero, suc, ◌+◌, List, [], ◌∷◌, ◌++◌, length, take, drop, map, refl, sym, ap, ap₂, ◌∙◌, arith, Option, Some, None, Bool, true, false}
use Rattle.std.specs.Prelude.{◌&&◌, ◌==◌, nat_lt, slice_get, is_none, if◌then◌else◌}
use Rattle.std.specs.List.{list_all}
use Rattle.std.specs.Option.{option_map}
use Rattle.std.proofs.lemmas.List.{length-map, map-append}
use Rattle.std.proofs.lemmas.Option.{same_Some}
use Rattle.std.proofs.lemmas.Bool.{ne_eqb}
use Rattle.ot_model.specs.Table.{Client, State, Phase, NotJoined, Synchronized, AwaitingConfirm, AwaitingWithBuffer, Message, downlink, head_for, is_joined}
use Rattle.ot_model.proofs.States.{take_entry}
use Rattle.ot_machine.specs.Readers.{ClientHas, phase_name}
use Rattle.ot_machine.specs.declared.state.Phase as shown
use Rattle.ot_every.specs.Listing.{is_behind, is_empty, is_synchronized}

pub has : {A : Type 0} (s : State) (c : ℕ) (field : Client → A) (value : A) → ClientHas s c field value → (x : Client) × (slice_get s.clients c ≡ Some x) × (field x ≡ value)
has {A} s c field value h = go (slice_get s.clients c) refl h
  where
    go : (o : Option Client) → slice_get s.clients c ≡ o → option_map field o ≡ Some value → (x : Client) × (slice_get s.clients c ≡ Some x) × (field x ≡ value)
    go None at e = absurd (cc)
    go (Some x) at e = (x, at, same_Some (field x) value e)

pub same_client : (s : State) (c : ℕ) (x y : Client) → slice_get s.clients c ≡ Some x → slice_get s.clients c ≡ Some y → x ≡ y
same_client s c x y a b = same_Some x y (sym a ∙ b)

-- a value of each of the first clients, and of one more
pub each_next : {A : Type 0} (f : Client → A) (xs : List Client) (k : ℕ) (vs : List A) (v : A) → vs ≡ map f (take k xs) → option_map f (slice_get xs k) ≡ Some v → vs ++ v ∷ [] ≡ map f (take (k + 1) xs)
each_next {A} f xs k vs v so_far here = go (slice_get xs k) refl here
  where
    go : (x : Option Client) → slice_get xs k ≡ x → option_map f x ≡ Some v → vs ++ v ∷ [] ≡ map f (take (k + 1) xs)
    go None at e = absurd (cc)
    go (Some x) at e =
        let more : k + 1 ≡ suc k = omega arith in
        ap (λ ws. ws ++ v ∷ []) so_far
        ∙ ap (λ w. map f (take k xs) ++ w ∷ []) (sym (same_Some (f x) v e))
        ∙ sym (map-append f (take k xs) (x ∷ []))
        ∙ ap (map f) (sym (take_entry xs k x at))
        ∙ ap (λ n. map f (take n xs)) (sym more)

-- whether the client has not seen the whole log
pub behind_is : (s : State) (c r logged : ℕ) → ClientHas s c (λ x. x.revision) r → logged ≡ length s.log → ClientHas s c (is_behind s) (nat_lt r logged)
behind_is s c r logged revision is =
    let x = has s c (λ x. x.revision) r revision in
    ap (option_map (is_behind s)) x.1 ∙ ap Some (ap₂ nat_lt x.2 (sym is))

-- ---- settled

abbrev pub settled_in : State → Client → Bool
settled_in s x = is_synchronized x.phase && (is_none x.message && is_empty (drop x.revision s.log))

named : (phase : Phase) → phase_name phase ≡ shown.TheVariants.Synchronized → phase ≡ Synchronized
named NotJoined e = absurd (cc)
named Synchronized e = refl
named (AwaitingConfirm o) e = absurd (cc)
named (AwaitingWithBuffer o b) e = absurd (cc)

unnamed : (phase : Phase) (name : shown.Phase) → phase_name phase ≡ name → (name ≡ shown.TheVariants.Synchronized → ⊥) → is_synchronized phase ≡ false
unnamed NotJoined name e other = refl
unnamed Synchronized name e other = absurd (other (sym e))
unnamed (AwaitingConfirm o) name e other = refl
unnamed (AwaitingWithBuffer o b) name e other = refl

missing : (b : Bool) (x : Client) (log : Bool) → is_synchronized x.phase ≡ b → is_none x.message ≡ false → (is_synchronized x.phase && (is_none x.message && log)) ≡ false
missing true x log e none = ap₂ (λ (a c : Bool). a && (c && log)) e none
missing false x log e none = ap (λ (a : Bool). a && (is_none x.message && log)) e

empty_is : {X : Type 0} (xs : List X) → is_empty xs ≡ (length xs == 0)
empty_is [] = refl
empty_is (x ∷ xs) = sym (ne_eqb (suc (length xs)) 0 (λ e. omega (arith, e)))

linked : (s : State) (c : ℕ) (x : Client) → x.phase ≡ Synchronized → length (downlink s c x) ≡ length (drop x.revision s.log)
linked s c x is =
    ap (λ (p : Phase). length (if is_joined p then map (head_for c) (drop x.revision s.log) else [])) is ∙ length-map (drop x.revision s.log) (head_for c)

pub settled_is : (s : State) (c n : ℕ) (name : shown.Phase) (message : Option Message) → ClientHas s c (λ x. phase_name x.phase) name → name ≡ shown.TheVariants.Synchronized
    → ClientHas s c (λ x. x.message) message → is_none message ≡ true → ClientHas s c (λ x. length (downlink s c x)) n → ClientHas s c (settled_in s) (n == 0)
settled_is s c n name message phase is sent none down =
    let x = has s c (λ x. phase_name x.phase) name phase in
    let y = has s c (λ x. x.message) message sent in
    let z = has s c (λ x. length (downlink s c x)) n down in
    let quiet : (x.0).phase ≡ Synchronized = named (x.0).phase (x.2 ∙ is) in
    let idle : is_none (x.0).message ≡ true = ap (λ (w : Client). is_none w.message) (same_client s c x.0 y.0 x.1 y.1) ∙ ap is_none y.2 ∙ none in
    let many : length (drop (x.0).revision s.log) ≡ n =
    sym (linked s c x.0 quiet) ∙ ap (λ (w : Client). length (downlink s c w)) (same_client s c x.0 z.0 x.1 z.1) ∙ z.2 in
    ap (option_map (settled_in s)) x.1
    ∙ ap₂ (λ (p : Phase) (b : Bool). Some (is_synchronized p && (b && is_empty (drop (x.0).revision s.log)))) quiet idle
    ∙ ap Some (empty_is (drop (x.0).revision s.log) ∙ ap (λ (k : ℕ). k == 0) many)

both : (a b : Bool) → (a && b) ≡ true → (a ≡ true) × (b ≡ true)
both true true e = (refl, refl)
both true false e = absurd (cc)
both false b e = absurd (cc)

all_push : {X : Type 0} (f : X → Bool) (xs : List X) (x : X) → list_all f xs ≡ true → f x ≡ true → list_all f (xs ++ x ∷ []) ≡ true
all_push f [] x all on = ap (λ (b : Bool). b && true) on
all_push f (y ∷ xs) x all on =
    let parts = both (f y) (list_all f xs) all in
    ap₂ (λ (a c : Bool). a && c) parts.0 (all_push f xs x parts.1 on)

pub all_next : (f : Client → Bool) (xs : List Client) (k : ℕ) (b : Bool) → list_all f (take k xs) ≡ true → option_map f (slice_get xs k) ≡ Some b → b ≡ true → list_all f (take (k + 1) xs) ≡ true
all_next f xs k b so_far here on = go (slice_get xs k) refl here
  where
    go : (o : Option Client) → slice_get xs k ≡ o → option_map f o ≡ Some b → list_all f (take (k + 1) xs) ≡ true
    go None at e = absurd (cc)
    go (Some x) at e =
        let more : k + 1 ≡ suc k = omega arith in
        ap (λ n. list_all f (take n xs)) more ∙ ap (list_all f) (take_entry xs k x at) ∙ all_push f (take k xs) x so_far (same_Some (f x) b e ∙ on)

pub not_all : (f : Client → Bool) (xs : List Client) (k : ℕ) (b : Bool) → option_map f (slice_get xs k) ≡ Some b → b ≡ false → list_all f xs ≡ false
not_all f [] k b here off = absurd (cc)
not_all f (x ∷ xs) zero b here off = ap (λ (c : Bool). c && list_all f xs) (same_Some (f x) b here ∙ off)
not_all f (x ∷ xs) (suc k) b here off = ap (λ (c : Bool). f x && c) (not_all f xs k b here off) ∙ and_false (f x)
  where
    and_false : (c : Bool) → (c && false) ≡ false
    and_false true = refl
    and_false false = refl
