-- An operation is its shape and its text.
use Rattle.std.proofs.Common.{◌≡◌, ◌↔◌, ℕ, zero, suc, ◌+◌, ◌<◌, ◌≤◌, List, [], ◌∷◌, ◌++◌, length, map, min, refl, sym, ap, subst, ◌∙◌, arith, append-nil}
use Rattle.std.proofs.lemmas.List.{length-map}
use Rattle.ot_operation.specs.Operation.{Item, Old, New, Operation, RisesFrom, IsOperation, IsTooLong, olds, identity, news, with_retain, with_insert, with_delete}
use Rattle.ot_operation.proofs.RunLemmas.{longest_retain, longest_insert}
use Rattle.ot_codes.specs.declared.code.Sum.{Sum}
use Rattle.ot_codes.specs.Codes.{blanks}
use Rattle.ot_codes.specs.Shape.{mapped_item, blank, shape, filled}
use Rattle.ot_codes.proofs.Filled.{filled-shape, filled_fits, news_append, news_olds, news_texts}
use Rattle.ot_codes.proofs.Mapped.{same_parts, news-mapped, rises-mapped_back, retain-mapped, insert-mapped}

-- codes and a text are those of an operation
pub record AreParts {A : Type 0} (codes : Operation (Unit {0})) (text : List A) (op : Operation A) : Type 0 where
  pub codes_are : codes ≡ shape op
  pub text_is : text ≡ news op.image

pub length-shape : {A : Type 0} (op : Operation A) → length (shape op).image ≡ length op.image
length-shape {A} op = length-map op.image (mapped_item {A = A} blank)

pub length-news-shape : {A : Type 0} (op : Operation A) → length (news (shape op).image) ≡ length (news op.image)
length-news-shape op = ap length (news-mapped blank op.image) ∙ length-map (news op.image) blank

pub blanks_are : {A : Type 0} (text : List A) → blanks (length text) ≡ map blank text
blanks_are [] = refl
blanks_are (x ∷ text) = ap (λ rest. tt ∷ rest) (blanks_are text)

pub behind_none : {A : Type 0} (text more : List A) → length text ≤ 0 → more ≡ text ++ more
behind_none [] more none = refl
behind_none (x ∷ text) more none = absurd (omega (arith, none))

pub parts_of :
    {A : Type 0} (codes : Operation (Unit {0})) (text : List A) (op : Operation A) → length text ≡ length (news codes.image) → filled codes text ≡ op
    → AreParts codes text op
parts_of {A} codes text op fits is =
    let given = filled_fits codes text fits in
    record {
      codes_are = sym given.0 ∙ ap shape is;
      text_is = sym given.1 ∙ ap (λ (o : Operation A). news o.image) is;
    }

module _ {A : Type 0} {codes : Operation (Unit {0})} {text : List A} {op : Operation A} (parts : AreParts codes text op) where
  pub joined : filled codes text ≡ op
  joined = ap (λ c. filled c text) parts.codes_are ∙ ap (filled (shape op)) parts.text_is ∙ filled-shape op

  pub as_long : length text ≡ length (news codes.image)
  as_long = ap length parts.text_is ∙ sym (length-news-shape op) ∙ ap (λ (o : Operation (Unit {0})). length (news o.image)) (sym parts.codes_are)

  pub same_base : codes.base ≡ op.base
  same_base = ap (λ (o : Operation (Unit {0})). o.base) parts.codes_are

  pub same_target : length codes.image ≡ length op.image
  same_target = ap (λ (o : Operation (Unit {0})). length o.image) parts.codes_are ∙ length-shape op

  pub same_inserted : length (news codes.image) ≡ length (news op.image)
  same_inserted = ap (λ (o : Operation (Unit {0})). length (news o.image)) parts.codes_are ∙ length-news-shape op

  pub is_operation : IsOperation codes → IsOperation op
  is_operation rises = rises-mapped_back blank 0 op.base op.image (subst (λ (o : Operation (Unit {0})). IsOperation o) parts.codes_are rises)

  -- one more component

  pub parts_retain : (next : Operation (Unit {0})) (n : ℕ) → next ≡ with_retain codes n → AreParts next text (with_retain op n)
  parts_retain next n is = record {
    codes_are = is ∙ ap (λ o. with_retain o n) parts.codes_are ∙ sym (retain-mapped blank op n);
    text_is = parts.text_is
        ∙ sym (news_append op.image (olds op.base n) ∙ ap (λ rest. news op.image ++ rest) (news_olds A op.base n) ∙ append-nil (news op.image));
  }

  pub parts_insert :
      (next : Operation (Unit {0})) (n : ℕ) (made more : List A) → n ≡ length more → next ≡ with_insert codes (blanks n) → made ≡ text ++ more
      → AreParts next made (with_insert op more)
  parts_insert next n made more long is made_is = record {
    codes_are = is ∙ ap (λ o. with_insert o (blanks n)) parts.codes_are ∙ ap (with_insert (shape op)) (ap blanks long ∙ blanks_are more)
        ∙ sym (insert-mapped blank op more);
    text_is = made_is ∙ ap (λ front. front ++ more) parts.text_is ∙ ap (λ rest. news op.image ++ rest) (sym (news_texts more))
        ∙ sym (news_append op.image (map New more));
  }

  pub parts_delete : (next : Operation (Unit {0})) (n : ℕ) → next ≡ with_delete codes n → AreParts next text (with_delete op n)
  parts_delete next n is = record {
    codes_are = is ∙ ap (λ o. with_delete o n) parts.codes_are;
    text_is = parts.text_is;
  }

-- is an operation with one more component too long? It has room for `first` elements of the base and for `second` of the target

module _ {A : Type 0} (op : Operation A) (first second : ℕ) (base : first + op.base ≡ 1000000) (target : second + length op.image ≡ 1000000) where
  pub long_retain : (n least : ℕ) → least ≡ min first second → least < n → IsTooLong (with_retain op n)
  long_retain n least is more = rw (longest_retain op n) (omega (arith, base, target, is, more))

  pub short_retain : (n least : ℕ) → least ≡ min first second → n ≤ least → IsTooLong (with_retain op n) → ⊥
  short_retain n least is less long = let l = rw (longest_retain op n) at long in omega (arith, l, base, target, is, less)

  pub long_insert : (more : List A) → second < length more → IsTooLong (with_insert op more)
  long_insert more far = rw (longest_insert op more) (omega (arith, base, target, far))

  pub short_insert : (more : List A) → length more ≤ second → IsTooLong (with_insert op more) → ⊥
  short_insert more near long = let l = rw (longest_insert op more) at long in omega (arith, l, base, target, near)

  pub long_delete : (n : ℕ) → first < n → IsTooLong (with_delete op n)
  long_delete n far = omega (arith, base, far)

  pub short_delete : (n : ℕ) → n ≤ first → IsTooLong (with_delete op n) → ⊥
  short_delete n near long = omega (arith, base, target, near, long)

-- an operation that neither deletes nor inserts

within : {A : Type 0} (low base : ℕ) (image : List (Item A)) → RisesFrom low base image → low ≤ base → length (news image) ≡ 0 → low + length image ≤ base
within low base [] rises less none = omega (arith, less)
within low base (Old i ∷ image) rises less none = omega (arith, rises.0, rises.1, within (suc i) base image rises.2 (omega (arith, rises.1)) none)
within low base (New x ∷ image) rises less none = absurd (omega (arith, none))

all_kept :
    {A : Type 0} (low base : ℕ) (image : List (Item A)) → RisesFrom low base image → length (news image) ≡ 0 → low + length image ≡ base → image ≡ olds low (length image)
all_kept low base [] rises none long = refl
all_kept {A} low base (Old i ∷ image) rises none long =
    let behind : suc i + length image ≤ base = within (suc i) base image rises.2 (omega (arith, rises.1)) none in
    let here : i ≡ low = omega (arith, rises.0, behind, long) in
    let rest : image ≡ olds (suc i) (length image) = all_kept (suc i) base image rises.2 none (omega (arith, here, long)) in
    ap (λ (is : List (Item A)). Old i ∷ is) rest ∙ ap (λ (k : ℕ). Old k ∷ olds (suc k) (length image)) here
all_kept low base (New x ∷ image) rises none long = absurd (omega (arith, none))

pub is_identity :
    {A : Type 0} (op : Operation A) → IsOperation op → length (news op.image) ≡ 0 → length op.image ≡ op.base → op ≡ identity op.base
is_identity {A} op rises none long =
    same_parts _ _ _ _ refl (all_kept 0 op.base op.image rises none (omega (arith, long)) ∙ ap (λ (k : ℕ). olds {A = A} 0 k) long)

length-olds : (A : Type 0) (from count : ℕ) → length (olds {A = A} from count) ≡ count
length-olds A from zero = refl
length-olds A from (suc count) = ap suc (length-olds A (suc from) count)

pub identity_has : {A : Type 0} (op : Operation A) → op ≡ identity op.base → (length (news op.image) ≡ 0) × (length op.image ≡ op.base)
identity_has {A} op is = (
  ap (λ (o : Operation A). length (news o.image)) is ∙ ap length (news_olds A 0 op.base),
  ap (λ (o : Operation A). length o.image) is ∙ length-olds A 0 op.base,
)

module _ {A : Type 0} {codes : Operation (Unit {0})} {text : List A} {op : Operation A} (parts : AreParts codes text op) (sum : Sum)
    (base : sum.kept + sum.deleted ≡ codes.base) (target : sum.kept + sum.inserted ≡ length codes.image) (inserted : sum.inserted ≡ length (news codes.image)) where
  pub no_noop : 0 < sum.deleted → op ≡ identity op.base → ⊥
  no_noop some is =
      let has = identity_has op is in
      omega (arith, some, base, target, inserted, has.0, has.1, same_base parts, same_target parts, same_inserted parts)

  pub noop_if : IsOperation codes → sum.deleted ≤ 0 → (sum.inserted ≡ 0) ↔ (op ≡ identity op.base)
  noop_if rises none = (
    λ empty.
        let nothing : length (news op.image) ≡ 0 = omega (arith, empty, inserted, same_inserted parts) in
        let long : length op.image ≡ op.base = omega (arith, empty, none, base, target, same_base parts, same_target parts) in
        is_identity op (is_operation parts rises) nothing long,
    λ is. omega (arith, (identity_has op is).0, inserted, same_inserted parts),
  )
