-- What each client gives, gathered client by client.
use Rattle.std.proofs.Common.{◌≡◌, ℕ, zero, suc, ◌+◌, ◌<◌, List, [], ◌∷◌, ◌++◌, length, take, sym, ap, ◌∙◌, arith, Some}
use Rattle.std.proofs.lemmas.List.{append_assoc, append-nil}
use Rattle.std.proofs.lemmas.Option.{get_or_from_slice_get, same_Some, slice_get-get_or}
use Rattle.std.specs.Prelude.{slice_get}
use Rattle.ot_model.specs.Table.{Client, State, absent}
use Rattle.ot_machine.specs.Effects.{client_in}
use Rattle.ot_machine.specs.Readers.{ClientHas}
use Rattle.ot_generate.proofs.Owing.{has}
use Rattle.ot_verdict.specs.Pending.{each_gives}

-- a value of a client
pub has_in : {A : Type 0} (s : State) (c : ℕ) (field : Client → A) (value : A) → ClientHas s c field value → value ≡ field (client_in s c)
has_in s c field value h =
    let found = has s c field value h in
    sym (ap field (get_or_from_slice_get s.clients c found.0 absent found.1) ∙ found.2)

-- one client more
gives_more : {A : Type 0} (give : ℕ → Client → List A) (first k : ℕ) (clients : List Client) (x : Client) → slice_get clients k ≡ Some x
    → each_gives give first (take (suc k) clients) ≡ each_gives give first (take k clients) ++ give (first + k) x
gives_more give first k [] x at = absurd (cc)
gives_more {A} give first zero (y ∷ clients) x at =
    let same : first ≡ first + 0 = omega arith in
    append-nil (give first y) ∙ ap (give first) (same_Some y x at) ∙ ap (λ (n : ℕ). give n x) same
gives_more {A} give first (suc k) (y ∷ clients) x at =
    let same : suc first + k ≡ first + suc k = omega arith in
    ap (λ (rest : List A). give first y ++ rest) (gives_more give (suc first) k clients x at ∙ ap (λ (n : ℕ). each_gives give (suc first) (take k clients) ++ give n x) same)
    ∙ sym (append_assoc (give first y) (each_gives give (suc first) (take k clients)) (give (first + suc k) x))

pub gives_next : {A : Type 0} (give : ℕ → Client → List A) (s : State) (k : ℕ) (so_far more : List A) → k < length s.clients → so_far ≡ each_gives give 0 (take k s.clients) → more ≡ so_far ++ give k (client_in s k)
    → more ≡ each_gives give 0 (take (k + 1) s.clients)
gives_next {A} give s k so_far more inside is added =
    let next : k + 1 ≡ suc k = omega arith in
    let from_zero : k ≡ 0 + k = omega arith in
    added
    ∙ ap (λ (xs : List A). xs ++ give k (client_in s k)) is
    ∙ ap (λ (n : ℕ). each_gives give 0 (take k s.clients) ++ give n (client_in s k)) from_zero
    ∙ sym (gives_more give 0 k s.clients (client_in s k) (slice_get-get_or s.clients k absent inside))
    ∙ ap (λ (n : ℕ). each_gives give 0 (take n s.clients)) (sym next)
