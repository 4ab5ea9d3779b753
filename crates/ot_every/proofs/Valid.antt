-- Each session that is listed is one of the space.
use Rattle.std.proofs.Common.{◌≡◌, ℕ, zero, suc, ◌≤◌, List, [], ◌∷◌, length, refl, sym, ap, ◌∙◌, arith, Some, true, false}
use Rattle.std.specs.Prelude.{not, count_by}
use Rattle.std.specs.List.{All, flat_map, range_with_len}
use Rattle.std.proofs.lemmas.List.Elements.{All-cons, All-nil}
use Rattle.ot_operation.specs.Operation.{Operation}
use Rattle.ot_isa.specs.declared.instruction.Instr.{Instr}
use Rattle.ot_isa.specs.declared.instruction.Instr.TheVariants.{Edit, Take, Deliver, Acknowledge, Join, Read, ReadServer}
use Rattle.ot_model.specs.Table.{State, Place, run, with_shown, begin, opening}
use Rattle.ot_model.proofs.Reordering.{run_then, filter_yes}
use Rattle.ot_every.specs.Forms.{IsForm}
use Rattle.ot_every.specs.Listing.{Earlier, texts_after, is_empty, is_settled, Space, letters_of, texts_from, sessions_of, most, sessions}
use Rattle.ot_every.specs.Laws.{is_edit, is_read, without_reads, IsSmall, IsSpace, IsSession, Valid, InsertInTurn}
use Rattle.ot_every.proofs.Lists.{IsIn, flat_cases, range_cases, all_in}
use Rattle.ot_every.proofs.Forms.{AllAre, IsListed, new_texts, insertions_are}
use Rattle.ot_every.proofs.Nexts.{IsNext, HaveLetters}
use Rattle.ot_every.proofs.Listed.{GoesOn, listed_goes}
use Rattle.ot_every.proofs.Quiet.{settled_is}
use Rattle.ot_every.proofs.Complete.{edit_counts, other_counts}

pub length_letters : (letters edit : ℕ) → length (letters_of letters edit) ≡ letters
length_letters zero edit = refl
length_letters (suc zero) edit = refl
length_letters (suc (suc letters)) edit = let r = length_letters letters edit in omega (arith, r)

-- each text is of so many letters
abbrev pub AreLong : ℕ → List (List ℕ) → Type 0
AreLong letters [] = Unit {0}
AreLong letters (text ∷ texts) = (length text ≡ letters) × AreLong letters texts

pub texts_long : (letters edit edits : ℕ) → AreLong letters (texts_from letters edit edits)
texts_long letters edit zero = tt
texts_long letters edit (suc edits) = (length_letters letters edit, texts_long letters (suc edit) edits)

pub long_letters : (letters : ℕ) (texts : List (List ℕ)) → AreLong (suc letters) texts → HaveLetters texts
long_letters letters [] long = tt
long_letters letters ([] ∷ texts) (none, long) = absurd (cc)
long_letters letters ((x ∷ text) ∷ texts) (one, long) = long_letters letters texts long

pub length_texts : (letters edit edits : ℕ) → length (texts_from letters edit edits) ≡ edits
length_texts letters edit zero = refl
length_texts letters edit (suc edits) = let r = length_texts letters (suc edit) edits in omega (arith, r)

are_long : (letters : ℕ) (text : List ℕ) (texts : List (List ℕ)) → length text ≡ letters → AllAre text texts → All (λ t. length t ≡ letters) texts
are_long letters text [] long are = All-nil (λ (t : List ℕ). length t ≡ letters)
are_long letters text (t ∷ texts) long are = All-cons (λ (t : List ℕ). length t ≡ letters) t texts (ap (λ (w : List ℕ). length w) are.0 ∙ long) (are_long letters text texts long are.1)

pub listed_form : (letters inserts : ℕ) (text : List ℕ) (op : Operation ℕ) → length text ≡ letters → IsListed text 0 op.base inserts op.image → IsForm letters inserts op.base op
listed_form letters inserts text op long l = record {
  operation = l.rises;
  base = refl;
  few = rw (insertions_are op) l.few;
  long = rw (insertions_are op) (are_long letters text (new_texts op.image) long l.are);
}

next_small : (letters inserts : ℕ) (texts : List (List ℕ)) (i : Instr) → AreLong letters texts → IsNext inserts texts i → IsSmall letters inserts i × AreLong letters (texts_after i texts)
next_small letters inserts [] (Edit c op) long next = absurd next
next_small letters inserts (text ∷ texts) (Edit c op) long next = (listed_form letters inserts text op long.0 next, long.1)
next_small letters inserts texts (Take c) long next = (tt, long)
next_small letters inserts texts (Deliver c) long next = (tt, long)
next_small letters inserts texts (Acknowledge c) long next = (tt, long)
next_small letters inserts texts (Join c) long next = (tt, long)
next_small letters inserts [] (Read c) long next = absurd next
next_small letters inserts (text ∷ texts) (Read c) long next = absurd next
next_small letters inserts [] ReadServer long next = absurd next
next_small letters inserts (text ∷ texts) ReadServer long next = absurd next

pub goes_small : (letters inserts : ℕ) (texts : List (List ℕ)) (path : List Earlier) (s : State) (is : List Instr) → AreLong letters texts → GoesOn inserts texts path s is → All (IsSmall letters inserts) is
goes_small letters inserts texts path s [] long goes = All-nil (IsSmall letters inserts)
goes_small letters inserts texts path s (i ∷ is) long (t, a, e, next, late, rest) =
    let f = next_small letters inserts texts i long next in
    All-cons (IsSmall letters inserts) i is f.0 (goes_small letters inserts (texts_after i texts) (record { before = s; instr = i } ∷ path) t is f.1 rest)

-- where it goes on, the table runs
pub goes_runs : (inserts : ℕ) (texts : List (List ℕ)) (path : List Earlier) (p : Place) (is : List Instr) → GoesOn inserts texts path p.state is → (q : Place) × (run is p ≡ Some q) × (is_settled q.state ≡ true)
goes_runs inserts texts path p [] goes = (p, refl, goes.1)
goes_runs inserts texts path p (i ∷ is) (t, a, e, next, late, rest) =
    let there : Place = record { state = t; shown = with_shown p.shown a } in
    let r = goes_runs inserts (texts_after i texts) (record { before = p.state; instr = i } ∷ path) there is rest in
    (r.0, run_then i is p t a e ∙ r.1, r.2)

no_texts : {A : Type 0} (xs : List A) → is_empty xs ≡ true → length xs ≡ 0
no_texts [] e = refl
no_texts (x ∷ xs) e = absurd (cc)

-- it has as many edits as there are texts
pub goes_edits : (inserts : ℕ) (texts : List (List ℕ)) (path : List Earlier) (s : State) (is : List Instr) → GoesOn inserts texts path s is → count_by is_edit is ≡ length texts
goes_edits inserts texts path s [] goes = sym (no_texts texts goes.0)
goes_edits inserts [] path s (Edit c op ∷ is) (t, a, e, next, late, rest) = absurd next
goes_edits inserts (text ∷ texts) path s (Edit c op ∷ is) (t, a, e, next, late, rest) =
    let r = goes_edits inserts texts (record { before = s; instr = Edit c op } ∷ path) t is rest in edit_counts c op is ∙ ap suc r
goes_edits inserts texts path s (Take c ∷ is) (t, a, e, next, late, rest) = other_counts (Take c) is refl ∙ goes_edits inserts texts (record { before = s; instr = Take c } ∷ path) t is rest
goes_edits inserts texts path s (Deliver c ∷ is) (t, a, e, next, late, rest) = other_counts (Deliver c) is refl ∙ goes_edits inserts texts (record { before = s; instr = Deliver c } ∷ path) t is rest
goes_edits inserts texts path s (Acknowledge c ∷ is) (t, a, e, next, late, rest) = other_counts (Acknowledge c) is refl ∙ goes_edits inserts texts (record { before = s; instr = Acknowledge c } ∷ path) t is rest
goes_edits inserts texts path s (Join c ∷ is) (t, a, e, next, late, rest) = other_counts (Join c) is refl ∙ goes_edits inserts texts (record { before = s; instr = Join c } ∷ path) t is rest
goes_edits inserts texts path s (Read c ∷ is) (t, a, e, next, late, rest) = other_counts (Read c) is refl ∙ goes_edits inserts texts (record { before = s; instr = Read c } ∷ path) t is rest
goes_edits inserts texts path s (ReadServer ∷ is) (t, a, e, next, late, rest) = other_counts ReadServer is refl ∙ goes_edits inserts texts (record { before = s; instr = ReadServer } ∷ path) t is rest

next_unread : (inserts : ℕ) (texts : List (List ℕ)) (i : Instr) → IsNext inserts texts i → is_read i ≡ false
next_unread inserts texts (Edit c op) next = refl
next_unread inserts texts (Take c) next = refl
next_unread inserts texts (Deliver c) next = refl
next_unread inserts texts (Acknowledge c) next = refl
next_unread inserts texts (Join c) next = refl
next_unread inserts [] (Read c) next = absurd next
next_unread inserts (text ∷ texts) (Read c) next = absurd next
next_unread inserts [] ReadServer next = absurd next
next_unread inserts (text ∷ texts) ReadServer next = absurd next

-- it reads nothing
goes_unread : (inserts : ℕ) (texts : List (List ℕ)) (path : List Earlier) (s : State) (is : List Instr) → GoesOn inserts texts path s is → without_reads is ≡ is
goes_unread inserts texts path s [] goes = refl
goes_unread inserts texts path s (i ∷ is) (t, a, e, next, late, rest) =
    filter_yes (λ j. not (is_read j)) i is (ap not (next_unread inserts texts i next))
    ∙ ap (λ (js : List Instr). i ∷ js) (goes_unread inserts (texts_after i texts) (record { before = s; instr = i } ∷ path) t is rest)

all_are : (text : List ℕ) (texts : List (List ℕ)) → AllAre text texts → All (λ t. t ≡ text) texts
all_are text [] are = All-nil (λ (t : List ℕ). t ≡ text)
all_are text (t ∷ texts) are = All-cons (λ (t : List ℕ). t ≡ text) t texts are.0 (all_are text texts are.1)

-- its edits insert the letters in turn
goes_in_turn : (letters inserts edit edits : ℕ) (path : List Earlier) (s : State) (is : List Instr) → GoesOn inserts (texts_from letters edit edits) path s is → InsertInTurn letters edit is
goes_in_turn letters inserts edit edits path s [] goes = tt
goes_in_turn letters inserts edit zero path s (Edit c op ∷ is) (t, a, e, next, late, rest) = absurd next
goes_in_turn letters inserts edit (suc edits) path s (Edit c op ∷ is) (t, a, e, next, late, rest) = (
  rw (insertions_are op) (all_are (letters_of letters edit) (new_texts op.image) next.are),
  goes_in_turn letters inserts (suc edit) edits (record { before = s; instr = Edit c op } ∷ path) t is rest,
)
goes_in_turn letters inserts edit edits path s (Take c ∷ is) (t, a, e, next, late, rest) = goes_in_turn letters inserts edit edits (record { before = s; instr = Take c } ∷ path) t is rest
goes_in_turn letters inserts edit edits path s (Deliver c ∷ is) (t, a, e, next, late, rest) = goes_in_turn letters inserts edit edits (record { before = s; instr = Deliver c } ∷ path) t is rest
goes_in_turn letters inserts edit edits path s (Acknowledge c ∷ is) (t, a, e, next, late, rest) = goes_in_turn letters inserts edit edits (record { before = s; instr = Acknowledge c } ∷ path) t is rest
goes_in_turn letters inserts edit edits path s (Join c ∷ is) (t, a, e, next, late, rest) = goes_in_turn letters inserts edit edits (record { before = s; instr = Join c } ∷ path) t is rest
goes_in_turn letters inserts edit edits path s (Read c ∷ is) (t, a, e, next, late, rest) = goes_in_turn letters inserts edit edits (record { before = s; instr = Read c } ∷ path) t is rest
goes_in_turn letters inserts edit edits path s (ReadServer ∷ is) (t, a, e, next, late, rest) = goes_in_turn letters inserts edit edits (record { before = s; instr = ReadServer } ∷ path) t is rest

pub have_letters : (letters edit edits : ℕ) → 1 ≤ letters → HaveLetters (texts_from letters edit edits)
have_letters zero edit edits some = absurd (omega (arith, some))
have_letters (suc letters) edit edits some = long_letters letters (texts_from (suc letters) edit edits) (texts_long (suc letters) edit edits)

-- a session that is listed, by its edits and instructions
pub record IsOf (space : Space) (is : List Instr) : Type 0 where
  pub edits : ℕ
  pub count : ℕ
  pub few : edits ≤ space.edits
  pub listed : IsIn is (sessions_of space edits count)
  pub goes : GoesOn space.inserts (texts_from space.letters 0 edits) [] (opening space.clients space.present space.start) is
  pub long : length is ≡ count

pub is_of : (space : Space) (is : List Instr) → IsSpace space → IsIn is (sessions space) → IsOf space is
is_of space is asked h =
    let f = flat_cases (λ edits. flat_map (sessions_of space edits) (range_with_len 0 (suc (most space edits)))) is (range_with_len 0 (suc space.edits)) h in
    let g = flat_cases (sessions_of space f.0) is (range_with_len 0 (suc (most space f.0))) f.2 in
    let within = range_cases 0 (suc space.edits) f.0 f.1 in
    let less = within.1 in
    let goes = listed_goes space.inserts g.0 (texts_from space.letters 0 f.0) [] (opening space.clients space.present space.start) is (have_letters space.letters 0 f.0 asked.letters) g.2 in
    record { edits = f.0; count = g.0; few = omega (arith, less); listed = g.2; goes = goes.1; long = goes.0 }

pub valid : Valid
valid space asked = all_in (λ is. IsSession space space.start is × (without_reads is ≡ is) × InsertInTurn space.letters 0 is) (sessions space) (λ is h. (
    let o = is_of space is asked h in
    let texts = texts_from space.letters 0 o.edits in
    let start = begin space.clients space.present space.start in
    let r = goes_runs space.inserts texts [] start is o.goes in
    let edits = goes_edits space.inserts texts [] start.state is o.goes in
    let many = length_texts space.letters 0 o.edits in
    let few = o.few in (
      record {
        place = r.0;
        runs = r.1;
        settled = settled_is r.0.state r.2;
        few = omega (arith, edits, many, few);
        small = goes_small space.letters space.inserts texts [] start.state is (texts_long space.letters 0 o.edits) o.goes;
      },
      goes_unread space.inserts texts [] start.state is o.goes,
      goes_in_turn space.letters space.inserts 0 o.edits [] start.state is o.goes,
    )
    ))
