-- The first byte that is wrong, from one byte to the next.
use Rattle.std.proofs.Common.{◌≡◌, ◌<◌, ◌≤◌, ◌+◌, ◌∙◌, ℕ, Bool, List, [], ◌∷◌, length, drop, drop_of_length-le, get_or, Ok, Err, refl, sym, ap}
use Rattle.std.proofs.lemmas.List.{drop_more}
use Rattle.ot_faults.specs.Causes.{cause_from, end_note, next, noted}
use Rattle.ot_faults.specs.declared.causes.Before.{Before}

right : (is_array : Bool) (at b : ℕ) (before after : Before) (bs : List ℕ) → next is_array before b (b ∷ bs) ≡ Ok after → cause_from is_array at before (b ∷ bs) ≡ cause_from is_array (at + 1) after bs
unfolding cause_from
right is_array at b before after bs e = rw e refl

wrong : (is_array : Bool) (at b : ℕ) (before : Before) (bs words : List ℕ) → next is_array before b (b ∷ bs) ≡ Err words → cause_from is_array at before (b ∷ bs) ≡ noted at words
unfolding cause_from
wrong is_array at b before bs words e = rw e refl

-- the byte is right
pub went_right : (is_array : Bool) (json : List ℕ) (at : ℕ) (before after : Before) → at < length json → next is_array before (get_or json at 0) (drop at json) ≡ Ok after
    → cause_from is_array at before (drop at json) ≡ cause_from is_array (at + 1) after (drop (at + 1) json)
went_right is_array json at before after there e =
    let parts = drop_more json at 0 there in
    ap (cause_from is_array at before) parts ∙ right is_array at (get_or json at 0) before after (drop (at + 1) json) (ap (next is_array before (get_or json at 0)) (sym parts) ∙ e)

-- the byte is wrong
pub went_wrong : (is_array : Bool) (json : List ℕ) (at : ℕ) (before : Before) (words : List ℕ) → at < length json → next is_array before (get_or json at 0) (drop at json) ≡ Err words
    → cause_from is_array at before (drop at json) ≡ noted at words
went_wrong is_array json at before words there e =
    let parts = drop_more json at 0 there in
    ap (cause_from is_array at before) parts ∙ wrong is_array at (get_or json at 0) before (drop (at + 1) json) words (ap (next is_array before (get_or json at 0)) (sym parts) ∙ e)

none_left : (is_array : Bool) (at : ℕ) (before : Before) → cause_from is_array at before [] ≡ end_note is_array before at
unfolding cause_from
none_left is_array at before = refl

pub went_through : (is_array : Bool) (json : List ℕ) (at : ℕ) (before : Before) → length json ≤ at → cause_from is_array at before (drop at json) ≡ end_note is_array before at
went_through is_array json at before behind = ap (cause_from is_array at before) (drop_of_length-le json behind) ∙ none_left is_array at before
