-- The keys of a line, one after the other.
use Rattle.std.proofs.Common.{◌≡◌, ℕ, ◌+◌, ◌<◌, ◌≤◌, List, [], ◌∷◌, length, drop, get_or, Bool, true, false, Some, None, refl, sym, ap, ◌∙◌}
use Rattle.std.proofs.lemmas.List.{drop_all}
use Rattle.serde_json.specs.Data.{Data}
use Rattle.ot_steps.specs.Lines.{Line}
use Rattle.ot_conform.specs.Differences.{first_key}
use Rattle.ot_conform.specs.Keys.{agrees, found_at}
use Rattle.ot_steps.specs.Text.{value_at}
use Rattle.ot_steps.specs.declared.key.Key.{Key}
use Rattle.ot_conform.proofs.Places.{at_place}

abbrev agrees_in : Line → Data → Key → Bool
agrees_in line d k = agrees (value_at k line) (found_at k d)

cons_agrees : (k : Key) (ks : List Key) (line : Line) (d : Data) → agrees_in line d k ≡ true → first_key (k ∷ ks) line d ≡ first_key ks line d
unfolding first_key
cons_agrees k ks line d e = rw e refl

cons_differs : (k : Key) (ks : List Key) (line : Line) (d : Data) → agrees_in line d k ≡ false → first_key (k ∷ ks) line d ≡ Some k
unfolding first_key
cons_differs k ks line d e = rw e refl

pub nil : (line : Line) (d : Data) → first_key [] line d ≡ None
unfolding first_key
nil line d = refl

pub key_agrees : (ks : List Key) (i : ℕ) (k : Key) (line : Line) (d : Data) → i < length ks → agrees_in line d (get_or ks i k) ≡ true → first_key (drop i ks) line d ≡ first_key (drop (i + 1) ks) line d
key_agrees ks i k line d within does = ap (λ (xs : List Key). first_key xs line d) (at_place ks i k within) ∙ cons_agrees (get_or ks i k) (drop (i + 1) ks) line d does

pub key_differs : (ks : List Key) (i : ℕ) (k : Key) (line : Line) (d : Data) → i < length ks → agrees_in line d (get_or ks i k) ≡ false → first_key (drop i ks) line d ≡ Some (get_or ks i k)
key_differs ks i k line d within differs = ap (λ (xs : List Key). first_key xs line d) (at_place ks i k within) ∙ cons_differs (get_or ks i k) (drop (i + 1) ks) line d differs

pub no_key : (ks : List Key) (i : ℕ) (line : Line) (d : Data) → length ks ≤ i → first_key (drop i ks) line d ≡ None
no_key ks i line d past = ap (λ (xs : List Key). first_key xs line d) (drop_all i ks past) ∙ nil line d

pub same_first : (ks : List Key) (line : Line) (d e : Data) → ((k : Key) → found_at k d ≡ found_at k e) → first_key ks line d ≡ first_key ks line e
same_first [] line d e same = nil line d ∙ sym (nil line e)
same_first (k ∷ ks) line d e same = go (same_first ks line d e same) (agrees_in line e k) refl
  where
    here : agrees_in line d k ≡ agrees_in line e k
    here = ap (agrees (value_at k line)) (same k)

    go : first_key ks line d ≡ first_key ks line e → (b : Bool) → agrees_in line e k ≡ b → first_key (k ∷ ks) line d ≡ first_key (k ∷ ks) line e
    go others true is = cons_agrees k ks line d (here ∙ is) ∙ others ∙ sym (cons_agrees k ks line e is)
    go others false is = cons_differs k ks line d (here ∙ is) ∙ sym (cons_differs k ks line e is)

pub all_agree : (ks : List Key) (line : Line) (d : Data) → ((k : Key) → agrees (value_at k line) (found_at k d) ≡ true) → first_key ks line d ≡ None
all_agree [] line d each = nil line d
all_agree (k ∷ ks) line d each = cons_agrees k ks line d (each k) ∙ all_agree ks line d each
