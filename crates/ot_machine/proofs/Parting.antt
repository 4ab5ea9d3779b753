-- A part's messages beside a downlink.
use Rattle.std.proofs.Common.{◌≡◌, ℕ, zero, suc, ◌+◌, ◌<◌, ◌≤◌, List, [], ◌∷◌, ◌++◌, length, take, drop, map, get_or, sym, ap, ◌∙◌, arith, Some}
use Rattle.std.proofs.lemmas.List.{map-append, take-append-drop, take_all}
use Rattle.std.proofs.lemmas.Option.{same_Some, slice_get-map, slice_get_read}
use Rattle.std.specs.Prelude.{slice_get}
use Rattle.std.specs.Option.{option_map}
use Rattle.ot_isa.proofs.Lists.{take_got}
use Rattle.ot_model.specs.Table.{Head, Entry, head_for}
use Rattle.ot_model.proofs.States.{take_entry}
use Rattle.ot_machine.specs.declared.part.Message.{Message}
use Rattle.ot_machine.specs.Parts.{head_in, AreFirst}

before : {X : Type 0} (xs rest : List X) (k : ℕ) (x : X) → slice_get xs k ≡ Some x → slice_get (xs ++ rest) k ≡ Some x
before [] rest k x at = absurd (cc)
before (z ∷ xs) rest zero x at = at
before (z ∷ xs) rest (suc k) x at = before xs rest k x at

-- the message and the entry at a place
pub record AreAt (messages : List Message) (entries : List Entry) (c k : ℕ) (m : Message) (e : Entry) : Type 0 where
  pub message : slice_get (map head_in messages) k ≡ Some (head_in m)
  pub entry : slice_get (map (head_for c) entries) k ≡ Some (head_for c e)

pub are_at :
    (messages : List Message) (entries : List Entry) (c k n : ℕ) (m : Message) (e : Entry)
    → slice_get messages k ≡ Some m → n ≡ length entries → k < n → e ≡ get_or entries k e → AreAt messages entries c k m e
are_at messages entries c k n m e at many there read =
    let found : slice_get entries k ≡ Some e = slice_get_read entries n k e many there read in
    record {
      message = slice_get-map head_in messages k ∙ ap (option_map head_in) at;
      entry = slice_get-map (head_for c) entries k ∙ ap (option_map (head_for c)) found;
    }

-- an unequal message is no first one
pub first_unequal :
    (messages : List Message) (entries : List Entry) (c k : ℕ) (m : Message) (e : Entry)
    → AreAt messages entries c k m e → (head_in m ≡ head_for c e → ⊥) → AreFirst (map head_in messages) (map (head_for c) entries) → ⊥
first_unequal messages entries c k m e at unequal (rest, is) =
    unequal (same_Some (head_in m) (head_for c e) (sym (before (map head_in messages) rest k (head_in m) at.message) ∙ ap (λ (w : List Head). slice_get w k) (sym is) ∙ at.entry))

-- one more equal message
pub first_next :
    (messages : List Message) (entries : List Entry) (c k : ℕ) (m : Message) (e : Entry)
    → AreAt messages entries c k m e → head_in m ≡ head_for c e → take k (map head_in messages) ≡ take k (map (head_for c) entries)
    → take (k + 1) (map head_in messages) ≡ take (k + 1) (map (head_for c) entries)
first_next messages entries c k m e at equal so_far =
    let more : k + 1 ≡ suc k = omega arith in
    ap (λ n. take n (map head_in messages)) more
    ∙ take_entry (map head_in messages) k (head_in m) at.message
    ∙ ap (λ (w : List Head). w ++ head_in m ∷ []) so_far
    ∙ ap (λ (w : Head). take k (map (head_for c) entries) ++ w ∷ []) equal
    ∙ sym (take_entry (map (head_for c) entries) k (head_for c e) at.entry)
    ∙ ap (λ n. take n (map (head_for c) entries)) (sym more)

-- all are equal
pub first_all :
    (xs ys : List Head) (k : ℕ) → take k xs ≡ take k ys → length xs ≤ k → AreFirst xs ys
first_all xs ys k so_far all =
    (drop k ys, sym (take-append-drop k ys) ∙ ap (λ (w : List Head). w ++ drop k ys) (sym so_far ∙ take_all k xs all))

-- copies of the first messages, and of one more
pub copied_next :
    (messages copies : List Message) (k : ℕ) (m copy : Message)
    → map head_in copies ≡ map head_in (take k messages) → slice_get messages k ≡ Some m → head_in copy ≡ head_in m
    → map head_in (copies ++ copy ∷ []) ≡ map head_in (take (k + 1) messages)
copied_next messages copies k m copy same at one =
    map-append head_in copies (copy ∷ []) ∙ ap (λ hs. hs ++ head_in copy ∷ []) same ∙ ap (λ h. map head_in (take k messages) ++ h ∷ []) one
    ∙ sym (map-append head_in (take k messages) (m ∷ [])) ∙ ap (map head_in) (sym (take_got messages k m at))
