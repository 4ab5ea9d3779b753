-- The documents of small sessions are short: each edit over them is within the limit.
use Rattle.std.proofs.Common.{◌≡◌, ℕ, zero, suc, ◌+◌, ◌*◌, ◌≤◌, List, [], ◌++◌, length, take, drop, get_or, refl, ap, arith, Option, Some, None, length-append}
use Rattle.std.specs.Prelude.{slice_get, sum_by}
use Rattle.std.specs.Option.{option_map}
use Rattle.std.proofs.lemmas.List.Sums.{sum_by-le, sum_by-take-drop}
use Rattle.std.proofs.lemmas.Option.{get_or_from_slice_get, slice_get-get_or, slice_get_within}
use Rattle.ot_isa.specs.declared.elements.Tagged.{Tagged}
use Rattle.ot_model.specs.Operation.{apply, inserted, news}
use Rattle.ot_model.specs.Table.{Phase, NotJoined, Synchronized, AwaitingConfirm, AwaitingWithBuffer, Client, State, Entry, Message}
use Rattle.ot_model.specs.Sound.{apply_entries, FitAll, IsPhaseSound, IsSoundFrom, IsSound, pending, news_sent, news_kept, inserted_in}
use Rattle.ot_model.proofs.States.{FitAll_drop}
use Rattle.ot_model.proofs.Lengths.{apply-le, apply_entries-le, FitAll_take, outstanding-le, pending-le}
use Rattle.ot_model.proofs.Algebra.{laws}
use Rattle.ot_machine.specs.Readers.{ClientHas}
use Rattle.ot_every.specs.Listing.{letters_of, texts_from}
use Rattle.ot_every.specs.Walking.{AreShort}

-- ---- the documents

list_within : (m c : ℕ) (phase : Phase) (start : List Tagged) (seen ahead : List Entry) (list : List Tagged) (message : Option Message) → FitAll start seen → FitAll (apply_entries start seen) ahead
    → IsPhaseSound c phase start seen ahead list message
    → length (apply_entries start seen) + (inserted_in ahead + length (news_sent message ++ news_kept phase)) ≤ m
    → (phase ≡ NotJoined → list ≡ []) → length list ≤ m
list_within m c NotJoined start seen ahead list message before all now room none = let e = ap length (none refl) in omega arith
list_within m c Synchronized start seen ahead list message before all now room none = let e = ap length now.list_is in omega arith
list_within m c (AwaitingConfirm o) start seen ahead list message before all now room none =
    let sum = length-append (news_sent message) [] in
    let out = outstanding-le laws c o start seen ahead message before all now.fits now.sent in
    let long = apply-le laws o (apply_entries start seen) now.fits in
    let e = ap length now.list_is in
    omega arith
list_within m c (AwaitingWithBuffer o b) start seen ahead list message before all now room none =
    let d = apply_entries start seen in
    let sum = length-append (news_sent message) (news b) in
    let out = outstanding-le laws c o start seen ahead message before all now.fits now.sent in
    let long = apply-le laws o d now.fits in
    let longer = apply-le laws b (apply o d) now.buffer_fits in
    let e = ap length now.list_is in
    omega arith

-- at most 4 clients, each of which inserts at most 15,000 characters, over at most 40,000
total_few : (start : List Tagged) (text : List ℕ) (s : State) → IsSoundFrom start text s → length s.clients ≤ 4 → length start + (inserted_in s.log + sum_by pending s.clients) ≤ 100000
total_few start text s sound few =
    let counts : sum_by (λ z. z.count) s.clients ≤ length s.clients * 15000 =
    sum_by-le (λ (z : Client). z.count) 15000 s.clients (λ k d below. sound.counts k (get_or s.clients k d) (slice_get-get_or s.clients k d below)) in
    let short = sound.short in
    let room = sound.room in
    below (length start) (inserted_in s.log + sum_by pending s.clients) (sum_by (λ z. z.count) s.clients) (length s.clients) few short room counts
  where
    below : (a b k n : ℕ) → n ≤ 4 → a ≤ 40000 → b ≤ k → k ≤ n * 15000 → a + b ≤ 100000
    below a b k n f g h i = omega arith

short_from : (start : List Tagged) (text : List ℕ) (s : State) (c : ℕ) (x : Client) → IsSoundFrom start text s → length s.clients ≤ 4 → slice_get s.clients c ≡ Some x → length x.list ≤ 100000
short_from start text s c x sound few at =
    let n = x.revision in
    let a = apply_entries-le laws start (take n s.log) (FitAll_take laws start n s.log sound.fit) in
    let b = sum_by-take-drop (λ (e : Entry). inserted e.op) s.log n in
    let d = pending-le s c x at in
    let e = total_few start text s sound few in
    list_within 100000 c x.phase start (take n s.log) (drop n s.log) x.list x.message (FitAll_take laws start n s.log sound.fit) (FitAll_drop laws start n s.log sound.fit) (sound.clients c x at)
    (ahead_below _ _ _ _ _ _ _ a b d e) (λ off. ap (λ (z : Client). z.list) (sound.absents c x at off).0)
  where
    ahead_below : (l st i j k p q : ℕ) → l ≤ st + i → i + j ≡ k → p ≤ q → st + (k + q) ≤ 100000 → l + (j + p) ≤ 100000
    ahead_below l st i j k p q f g h m = omega arith

-- a client's document
pub document_short : (s : State) (c : ℕ) (document : List Tagged) → IsSound s → length s.clients ≤ 4 → ClientHas s c (λ x. x.list) document → length document ≤ 100000
document_short s c document (start, text, sound) few has = go (slice_get s.clients c) refl has
  where
    go : (o : Option Client) → slice_get s.clients c ≡ o → option_map (λ (x : Client). x.list) o ≡ Some document → length document ≤ 100000
    go None at e = absurd (cc)
    go (Some x) at e =
        let same : x.list ≡ document = cc in
        let le = short_from start text s c x sound few at in
        let l = ap length same in
        omega arith

-- and what an edit of it makes
pub edit_within : (count inserts letters : ℕ) → count ≤ 100000 → inserts ≤ 8 → letters ≤ 8 → count + inserts * letters ≤ 1000000
edit_within count inserts letters a b c = grind arith

-- ---- the texts

length_letters : (letters edit : ℕ) → length (letters_of letters edit) ≡ letters
length_letters zero edit = refl
length_letters (suc zero) edit = refl
length_letters (suc (suc letters)) edit = let r = length_letters letters edit in omega (arith, r)

pub texts_short : (letters edit edits : ℕ) → letters ≤ 8 → AreShort (texts_from letters edit edits)
texts_short letters edit zero few k d below = absurd (omega (arith, below))
texts_short letters edit (suc edits) few zero d below = let r = length_letters letters edit in omega (arith, r, few)
texts_short letters edit (suc edits) few (suc k) d below = texts_short letters (suc edit) edits few k d (omega (arith, below))

pub text_short : (texts : List (List ℕ)) (k : ℕ) (text : List ℕ) → AreShort texts → slice_get texts k ≡ Some text → length text ≤ 8
text_short texts k text short at =
    let within = slice_get_within texts k text at in
    let is = get_or_from_slice_get texts k text text at in
    let le = short k text within in
    let l = ap length is in
    omega (arith, le, l)
