-- The laws of the whole listing: no two are the same, and for each session of the space one is listed, whatever its letters are.
use Rattle.std.proofs.Common.{◌≡◌, ℕ, zero, suc, ◌<◌, ◌≤◌, List, [], ◌∷◌, length, map, replicate, refl, sym, ap, ◌∙◌, subst, arith, inl, inr, Some, Bool, true, false, cond}
use Rattle.std.specs.Prelude.{not, count_by, option_map}
use Rattle.std.specs.List.{All, flat_map, range_with_len}
use Rattle.std.proofs.lemmas.List.{length-map}
use Rattle.std.proofs.lemmas.List.Elements.{All-head, All-tail, All-contains}
use Rattle.std.proofs.lemmas.List.Sums.{sum_by-cons}
use Rattle.ot_operation.specs.Operation.{Item, Old, New, Operation}
use Rattle.ot_codes.specs.Shape.{mapped_item}
use Rattle.ot_codes.proofs.Mapped.{rises-mapped}
use Rattle.ot_isa.specs.declared.instruction.Instr.{Instr}
use Rattle.ot_isa.specs.declared.instruction.Instr.TheVariants.{Edit, Take, Deliver, Acknowledge, Join, Read, ReadServer}
use Rattle.ot_model.specs.Table.{Place, run, begin, opening}
use Rattle.ot_model.specs.Sound.{IsInstr, AreInstrs}
use Rattle.ot_model.specs.Orders.{AreSameOrders}
use Rattle.ot_model.proofs.Reordering.{same_instructions, filter_yes, filter_no}
use Rattle.ot_letters.specs.Letters.{mapped_instr, mapped_instrs, mapped_state, mapped_place}
use Rattle.ot_letters.specs.Alike.{blank}
use Rattle.ot_letters.proofs.Runs.{run-mapped, begin-mapped}
use Rattle.ot_letters.proofs.Steps.{opening-mapped}
use Rattle.ot_every.specs.Forms.{IsForm}
use Rattle.ot_every.specs.Listing.{is_settled, Space, letters_of, texts_from, sessions_from, sessions_of, most, sessions}
use Rattle.ot_every.specs.Laws.{is_edit, is_read, without_reads, IsSmall, IsSpace, AreSameButLetters, Distinct, Complete}
use Rattle.ot_every.proofs.Lists.{IsIn, in_map, map_cases, filter_cases, in_flat, flat_cases, in_first, contains, Pairwise, pairwise_flat, pairwise_range, all_pairs}
use Rattle.ot_every.proofs.Forms.{with_char, new_texts, insertions_are, AllAre, IsListed}
use Rattle.ot_every.proofs.Nexts.{HaveLetters}
use Rattle.ot_every.proofs.Listed.{not_late, listed_goes}
use Rattle.ot_every.proofs.Distinct.{from_distinct}
use Rattle.ot_every.proofs.Quiet.{is_settled_there}
use Rattle.ot_every.proofs.Complete.{HasText, other_counts, same_length, complete_of}
use Rattle.ot_every.proofs.Lettered.{sessions_mapped, settled_mapped}
use Rattle.ot_every.proofs.Valid.{length_letters, length_texts, have_letters, goes_edits}
use Rattle.ot_every.proofs.Bound.{AreUnread, bounded}
use Rattle.ot_every.proofs.Unread.{IsLike, unread, settled_like}

-- ---- texts of one letter

-- with one letter in the place of all, a text is its length
blank_text : (text : List ℕ) → map blank text ≡ replicate (length text) 0
blank_text [] = refl
blank_text (x ∷ text) = ap (λ (t : List ℕ). 0 ∷ t) (blank_text text)

blank_texts : (letters edit edits : ℕ) → map (map blank) (texts_from letters edit edits) ≡ replicate edits (replicate letters 0)
blank_texts letters edit zero = refl
blank_texts letters edit (suc edits) =
    let first : map blank (letters_of letters edit) ≡ replicate letters 0 = blank_text (letters_of letters edit) ∙ ap (λ n. replicate n 0) (length_letters letters edit) in
    ap (λ (t : List ℕ). t ∷ map (map blank) (texts_from letters (suc edit) edits)) first ∙ ap (λ (ts : List (List ℕ)). replicate letters 0 ∷ ts) (blank_texts letters (suc edit) edits)

letters_replicate : (letters edits : ℕ) → 1 ≤ letters → HaveLetters (replicate edits (replicate letters 0))
letters_replicate letters zero some = tt
letters_replicate zero (suc edits) some = absurd (omega (arith, some))
letters_replicate (suc letters) (suc edits) some = letters_replicate (suc letters) edits some

-- the new_texts of an image
new_mapped : (x : ℕ) (image : List (Item ℕ)) (texts : List (List ℕ)) → with_char (blank x) (map (mapped_item blank) image) (map (map blank) texts) ≡ map (map blank) (with_char x image texts)
new_mapped x [] texts = refl
new_mapped x (Old i ∷ image) texts = refl
new_mapped x (New y ∷ image) [] = refl
new_mapped x (New y ∷ image) (text ∷ texts) = refl

texts_mapped_blank : (image : List (Item ℕ)) → new_texts (map (mapped_item blank) image) ≡ map (map blank) (new_texts image)
texts_mapped_blank [] = refl
texts_mapped_blank (Old i ∷ image) = texts_mapped_blank image
texts_mapped_blank (New x ∷ image) = ap (with_char (blank x) (map (mapped_item blank) image)) (texts_mapped_blank image) ∙ new_mapped x image (new_texts image)

all_blank : (letters : ℕ) (texts : List (List ℕ)) → All (λ text. length text ≡ letters) texts → AllAre (replicate letters 0) (map (map blank) texts)
all_blank letters [] all = tt
all_blank letters (text ∷ texts) all = (
  blank_text text ∙ ap (λ n. replicate n 0) (All-head (λ (t : List ℕ). length t ≡ letters) text texts all),
  all_blank letters texts (All-tail (λ (t : List ℕ). length t ≡ letters) text texts all),
)

form_blank : (letters inserts : ℕ) (op : Operation ℕ) → IsForm letters inserts op.base op → IsListed (replicate letters 0) 0 op.base inserts (map (mapped_item blank) op.image)
form_blank letters inserts op form =
    let few : length (new_texts op.image) ≤ inserts = subst (λ (texts : List (List ℕ)). length texts ≤ inserts) (insertions_are op) form.few in
    let long : All (λ text. length text ≡ letters) (new_texts op.image) = subst (All (λ text. length text ≡ letters)) (insertions_are op) form.long in
    let many : length (new_texts (map (mapped_item blank) op.image)) ≡ length (new_texts op.image) = ap (λ (ts : List (List ℕ)). length ts) (texts_mapped_blank op.image) ∙ length-map (new_texts op.image) (map blank) in
    record {
      rises = rises-mapped blank 0 op.base op.image form.operation;
      few = omega (arith, few, many);
      are = subst (AllAre (replicate letters 0)) (sym (texts_mapped_blank op.image)) (all_blank letters (new_texts op.image) long);
    }

small_text : (letters inserts : ℕ) (i : Instr) → IsSmall letters inserts i → is_read i ≡ false → HasText inserts (replicate letters 0) (mapped_instr blank i)
small_text letters inserts (Edit c op) small unread = form_blank letters inserts op small
small_text letters inserts (Take c) small unread = tt
small_text letters inserts (Deliver c) small unread = tt
small_text letters inserts (Acknowledge c) small unread = tt
small_text letters inserts (Join c) small unread = tt
small_text letters inserts (Read c) small unread = absurd (cc)
small_text letters inserts ReadServer small unread = absurd (cc)

small_texts : (letters inserts : ℕ) (is : List Instr) → All (IsSmall letters inserts) is → (k : Instr) → IsIn k (mapped_instrs blank (without_reads is)) → HasText inserts (replicate letters 0) k
small_texts letters inserts is all k h =
    let r = map_cases (mapped_instr blank) k (without_reads is) h in
    let kept = filter_cases (λ i. not (is_read i)) r.0 is r.1 in
    subst (HasText inserts (replicate letters 0)) (sym r.2) (small_text letters inserts r.0 (All-contains (IsSmall letters inserts) is r.0 all (contains r.0 is kept.0)) (not_late (is_read r.0) kept.1))

text_instr : (inserts : ℕ) (text : List ℕ) (i : Instr) → HasText inserts text i → IsInstr i
text_instr inserts text (Edit c op) has = has.rises
text_instr inserts text (Take c) has = tt
text_instr inserts text (Deliver c) has = tt
text_instr inserts text (Acknowledge c) has = tt
text_instr inserts text (Join c) has = tt
text_instr inserts text (Read c) has = tt
text_instr inserts text ReadServer has = tt

text_instrs : (inserts : ℕ) (text : List ℕ) (is : List Instr) → ((k : Instr) → IsIn k is → HasText inserts text k) → AreInstrs is
text_instrs inserts text [] has = tt
text_instrs inserts text (i ∷ is) has = (text_instr inserts text i (has i (inl refl)), text_instrs inserts text is (λ k h. has k (inr h)))

edit_mapped : (i : Instr) → is_edit (mapped_instr blank i) ≡ is_edit i
edit_mapped (Edit c op) = refl
edit_mapped (Take c) = refl
edit_mapped (Deliver c) = refl
edit_mapped (Acknowledge c) = refl
edit_mapped (Join c) = refl
edit_mapped (Read c) = refl
edit_mapped ReadServer = refl

edits_mapped : (is : List Instr) → count_by is_edit (mapped_instrs blank is) ≡ count_by is_edit is
edits_mapped [] = refl
edits_mapped (i ∷ is) =
    let a = sum_by-cons (λ (x : Instr). cond (is_edit x) 1 0) (mapped_instr blank i) (mapped_instrs blank is) in
    let b = sum_by-cons (λ (x : Instr). cond (is_edit x) 1 0) i is in
    let first : ◌≡◌ {A = ℕ} (cond (is_edit (mapped_instr blank i)) 1 0) (cond (is_edit i) 1 0) = ap (λ b. cond b 1 0) (edit_mapped i) in
    let rest = edits_mapped is in
    omega (arith, a, b, first, rest)

-- ---- reads

unread_edits : (is : List Instr) → count_by is_edit (without_reads is) ≡ count_by is_edit is
unread_edits [] = refl
unread_edits (i ∷ is) = go (unread_edits is) (is_read i) refl
  where
    no_edit : (j : Instr) → is_read j ≡ true → is_edit j ≡ false
    no_edit (Edit c op) e = absurd (cc)
    no_edit (Take c) e = refl
    no_edit (Deliver c) e = refl
    no_edit (Acknowledge c) e = refl
    no_edit (Join c) e = refl
    no_edit (Read c) e = refl
    no_edit ReadServer e = refl

    go : count_by is_edit (without_reads is) ≡ count_by is_edit is → (b : Bool) → is_read i ≡ b → count_by is_edit (without_reads (i ∷ is)) ≡ count_by is_edit (i ∷ is)
    go rest true read = ap (count_by is_edit) (filter_no (λ j. not (is_read j)) i is (ap not read)) ∙ rest ∙ sym (other_counts i is (no_edit i read))
    go rest false write =
        let a = sum_by-cons (λ (x : Instr). cond (is_edit x) 1 0) i (without_reads is) in
        let b = sum_by-cons (λ (x : Instr). cond (is_edit x) 1 0) i is in
        ap (count_by is_edit) (filter_yes (λ j. not (is_read j)) i is (ap not write)) ∙ omega (arith, a, b, rest)

are_unread : (is : List Instr) → AreUnread (without_reads is)
are_unread [] = tt
are_unread (i ∷ is) = go (are_unread is) (is_read i) refl
  where
    go : AreUnread (without_reads is) → (b : Bool) → is_read i ≡ b → AreUnread (without_reads (i ∷ is))
    go rest true read = subst AreUnread (sym (filter_no (λ j. not (is_read j)) i is (ap not read))) rest
    go rest false write = subst AreUnread (sym (filter_yes (λ j. not (is_read j)) i is (ap not write))) (write, rest)

-- ---- the same but for letters: as many instructions, and as many edits

length_same : (is js : List Instr) → AreSameButLetters is js → length is ≡ length js
length_same is js same = sym (length-map is (mapped_instr blank)) ∙ same_length (mapped_instrs blank is) (mapped_instrs blank js) same ∙ length-map js (mapped_instr blank)

edits_same : (is js : List Instr) → AreSameButLetters is js → count_by is_edit is ≡ count_by is_edit js
edits_same is js same = sym (edits_mapped is) ∙ same_instructions (mapped_instrs blank is) (mapped_instrs blank js) same is_edit ∙ edits_mapped js

-- ---- distinct

pairwise_of_map : {A B : Type 0} (R : B → B → Type 0) (g : A → B) (xs : List A) → Pairwise R (map g xs) → Pairwise (λ x y. R (g x) (g y)) xs
pairwise_of_map R g [] p = tt
pairwise_of_map R g (x ∷ xs) p = (λ y h. p.0 (g y) (in_map g y xs h), pairwise_of_map R g xs p.1)

of_distinct : (space : Space) (edits count : ℕ) → IsSpace space → Pairwise (λ is js. AreSameButLetters is js → ⊥) (sessions_of space edits count)
of_distinct space edits count asked =
    let texts = texts_from space.letters 0 edits in
    let s = opening space.clients space.present space.start in
    let letters : HaveLetters (map (map blank) texts) = subst HaveLetters (sym (blank_texts space.letters 0 edits)) (letters_replicate space.letters edits asked.letters) in
    let all = from_distinct space.inserts count (map (map blank) texts) [] (mapped_state blank s) letters in
    pairwise_of_map (λ is js. AreSameOrders is js → ⊥) (mapped_instrs blank) (sessions_of space edits count)
    (subst (Pairwise (λ is js. AreSameOrders is js → ⊥)) (sessions_mapped blank space.inserts count texts [] s) all)

of_facts : (space : Space) (edits count : ℕ) (is : List Instr) → IsSpace space → IsIn is (sessions_of space edits count) → (length is ≡ count) × (count_by is_edit is ≡ edits)
of_facts space edits count is asked h =
    let texts = texts_from space.letters 0 edits in
    let s = opening space.clients space.present space.start in
    let goes = listed_goes space.inserts count texts [] s is (have_letters space.letters 0 edits asked.letters) h in
    (goes.0, goes_edits space.inserts texts [] s is goes.1 ∙ length_texts space.letters 0 edits)

edits_distinct : (space : Space) (edits : ℕ) → IsSpace space → Pairwise (λ is js. AreSameButLetters is js → ⊥) (flat_map (sessions_of space edits) (range_with_len 0 (suc (most space edits))))
edits_distinct space edits asked =
    pairwise_flat (λ x y. x < y) (λ is js. AreSameButLetters is js → ⊥) (sessions_of space edits) (range_with_len 0 (suc (most space edits))) (pairwise_range 0 (suc (most space edits)))
    (λ count h. of_distinct space edits count asked)
    (λ x y h k less is js at_x at_y same. (
    let a = (of_facts space edits x is asked at_x).0 in
    let b = (of_facts space edits y js asked at_y).0 in
    let c = length_same is js same in absurd (omega (arith, less, a, b, c))
    ))

pub distinct : Distinct
distinct space asked = all_pairs (λ is js. AreSameButLetters is js → ⊥) (sessions space)
    (pairwise_flat (λ x y. x < y) (λ is js. AreSameButLetters is js → ⊥) (λ edits. flat_map (sessions_of space edits) (range_with_len 0 (suc (most space edits)))) (range_with_len 0 (suc space.edits)) (pairwise_range 0 (suc space.edits))
    (λ edits h. edits_distinct space edits asked)
    (λ x y h k less is js at_x at_y same. (
    let f = flat_cases (sessions_of space x) is (range_with_len 0 (suc (most space x))) at_x in
    let g = flat_cases (sessions_of space y) js (range_with_len 0 (suc (most space y))) at_y in
    let a = (of_facts space x f.0 is asked f.2).1 in
    let b = (of_facts space y g.0 js asked g.2).1 in
    let c = edits_same is js same in absurd (omega (arith, less, a, b, c))
    )))

-- ---- complete

listed_in : (space : Space) (edits count : ℕ) (js : List Instr) → edits ≤ space.edits → count ≤ most space edits → IsIn js (sessions_of space edits count) → IsIn js (sessions space)
listed_in space edits count js few short h =
    in_flat (λ e. flat_map (sessions_of space e) (range_with_len 0 (suc (most space e)))) edits js (range_with_len 0 (suc space.edits)) (in_first (suc space.edits) edits (omega (arith, few)))
    (in_flat (sessions_of space edits) count js (range_with_len 0 (suc (most space edits))) (in_first (suc (most space edits)) count (omega (arith, short))) h)

same_place : (p : Place) → IsLike p.state p.state
same_place p = record { log = refl; server = refl; clients = refl; steps = omega arith }

pub complete : Complete
complete space start all asked same_start session =
    let is = without_reads all in
    let first = begin space.clients space.present start in
    let whole = unread all first session.place first (same_place first) session.runs in
    let q = whole.0 in
    let edits = count_by is_edit is in
    let blanked = mapped_instrs blank is in
    let text : List ℕ = replicate space.letters 0 in
    let texts = texts_from space.letters 0 edits in
    let s = opening space.clients space.present space.start in
    let begins : begin space.clients space.present (map blank start) ≡ mapped_place blank first = begin-mapped blank space.clients space.present start in
    let runs : run blanked (begin space.clients space.present (map blank start)) ≡ Some (mapped_place blank q) =
    ap (run blanked) begins ∙ run-mapped blank is first ∙ ap (option_map (mapped_place blank)) whole.1 in
    let settled : is_settled (mapped_state blank q.state) ≡ true = settled_mapped blank q.state ∙ settled_like session.place.state q.state whole.2 (is_settled_there session.place.state session.settled) in
    let has = small_texts space.letters space.inserts all session.small in
    let limit = asked.start in
    let long : length (map blank start) ≡ length space.start = length-map start blank ∙ same_start in
    let c = complete_of space.clients space.present space.inserts (map blank start) text blanked (mapped_place blank q) asked.clients asked.present (omega (arith, limit, long)) (text_instrs space.inserts text blanked has) runs settled has in
    let starts : map blank start ≡ map blank space.start = blank_text start ∙ ap (λ n. replicate n 0) same_start ∙ sym (blank_text space.start) in
    let opens : opening space.clients space.present (map blank start) ≡ mapped_state blank s = ap (opening space.clients space.present) starts ∙ opening-mapped blank space.clients space.present space.start in
    let texts_are : replicate (count_by is_edit blanked) text ≡ map (map blank) texts = ap (λ n. replicate n text) (edits_mapped is) ∙ sym (blank_texts space.letters 0 edits) in
    let sessions_are : sessions_from space.inserts (length blanked) (replicate (count_by is_edit blanked) text) [] (opening space.clients space.present (map blank start)) ≡ map (mapped_instrs blank) (sessions_from space.inserts (length blanked) texts [] s) =
    ap (λ (ts : List (List ℕ)). sessions_from space.inserts (length blanked) ts [] (opening space.clients space.present (map blank start))) texts_are
    ∙ ap (sessions_from space.inserts (length blanked) (map (map blank) texts) []) opens
    ∙ sessions_mapped blank space.inserts (length blanked) texts [] s in
    let r = map_cases (mapped_instrs blank) c.0 (sessions_from space.inserts (length blanked) texts [] s) (subst (IsIn c.0) sessions_are c.1) in
    let short : length blanked ≤ most space edits = bounded space start is q asked whole.1 (are_unread all) in
    let few = session.few in
    let as_many = unread_edits all in
    (r.0, contains r.0 (sessions space) (listed_in space edits (length blanked) r.0 (omega (arith, few, as_many)) short r.1), subst (AreSameOrders blanked) r.2 c.2)
