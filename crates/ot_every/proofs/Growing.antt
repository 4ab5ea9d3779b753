-- The edits that the program makes are the forms, in order.
use Rattle.std.proofs.Common.{◌≡◌, ℕ, zero, suc, ◌+◌, ◌-◌, ◌*◌, ◌≤◌, List, [], ◌∷◌, ◌++◌, length, map, refl, sym, ap, ap₂, ◌∙◌, subst, arith, append_assoc}
use Rattle.std.proofs.lemmas.List.{length-append, length-map, map-append}
use Rattle.ot_operation.specs.Operation.{Item, Old, New, Operation, IsTooLong, empty, olds, with_retain, with_insert, with_delete}
use Rattle.ot_isa.specs.declared.instruction.Instr.{Instr}
use Rattle.ot_isa.specs.declared.instruction.Instr.TheVariants.{Edit}
use Rattle.ot_every.specs.Forms.{forms, images}
use Rattle.ot_every.specs.Walking.{ends, longer}

made : (base base' : ℕ) (image image' : List (Item ℕ)) → base ≡ base' → image ≡ image' → ◌≡◌ {A = Operation ℕ} (record { base = base; image = image }) (record { base = base'; image = image' })
made base base' image image' b i = ap (λ (n : ℕ). record { base = n; image = image }) b ∙ ap (λ (is : List (Item ℕ)). record { base = base'; image = is }) i

-- a character is kept, or a text inserted, or a character deleted
longer_kept : (op : Operation ℕ) (left : ℕ) (image : List (Item ℕ)) → longer op (suc left) (Old op.base ∷ image) ≡ longer (with_retain op 1) left image
longer_kept op left image = made (op.base + suc left) (op.base + 1 + left) (op.image ++ Old op.base ∷ image) ((op.image ++ Old op.base ∷ []) ++ image) (omega arith) (sym (append_assoc op.image (Old op.base ∷ []) image))

longer_text : (text : List ℕ) (op : Operation ℕ) (left : ℕ) (image : List (Item ℕ)) → longer op left (map New text ++ image) ≡ longer (with_insert op text) left image
longer_text text op left image = made (op.base + left) (op.base + left) (op.image ++ (map New text ++ image)) ((op.image ++ map New text) ++ image) refl (sym (append_assoc op.image (map New text) image))

longer_gone : (op : Operation ℕ) (left : ℕ) (image : List (Item ℕ)) → longer op (suc left) image ≡ longer (with_delete op 1) left image
longer_gone op left image = made (op.base + suc left) (op.base + 1 + left) (op.image ++ image) (op.image ++ image) (omega arith) refl

each_kept : (op : Operation ℕ) (left : ℕ) (all : List (List (Item ℕ))) → map (longer op (suc left)) (map (λ image. Old op.base ∷ image) all) ≡ map (longer (with_retain op 1) left) all
each_kept op left [] = refl
each_kept op left (image ∷ all) = ap₂ (λ (x : Operation ℕ) (xs : List (Operation ℕ)). x ∷ xs) (longer_kept op left image) (each_kept op left all)

each_text : (text : List ℕ) (op : Operation ℕ) (left : ℕ) (all : List (List (Item ℕ))) → map (longer op left) (map (λ image. map New text ++ image) all) ≡ map (longer (with_insert op text) left) all
each_text text op left [] = refl
each_text text op left (image ∷ all) = ap₂ (λ (x : Operation ℕ) (xs : List (Operation ℕ)). x ∷ xs) (longer_text text op left image) (each_text text op left all)

each_gone : (op : Operation ℕ) (left : ℕ) (all : List (List (Item ℕ))) → map (longer op (suc left)) all ≡ map (longer (with_delete op 1) left) all
each_gone op left [] = refl
each_gone op left (image ∷ all) = ap₂ (λ (x : Operation ℕ) (xs : List (Operation ℕ)). x ∷ xs) (longer_gone op left image) (each_gone op left all)

at_base : (text : List ℕ) (op : Operation ℕ) (left inserts base base' : ℕ) → base ≡ base' → map (longer op left) (images text base left inserts) ≡ map (longer op left) (images text base' left inserts)
at_base text op left inserts base base' e = ap (λ (n : ℕ). map (longer op left) (images text n left inserts)) e

-- without an insertion behind the first character
pub ends_kept : (text : List ℕ) (op : Operation ℕ) (left : ℕ) → ends text op (suc left) 0 ≡ ends text (with_retain op 1) left 0 ++ ends text (with_delete op 1) left 0
ends_kept text op left =
    let next : suc op.base ≡ op.base + 1 = omega arith in
    map-append (longer op (suc left)) (map (λ image. Old op.base ∷ image) (images text (suc op.base) left 0)) (images text (suc op.base) left 0)
    ∙ ap₂ (λ (xs ys : List (Operation ℕ)). xs ++ ys)
    (each_kept op left (images text (suc op.base) left 0) ∙ at_base text (with_retain op 1) left 0 (suc op.base) (op.base + 1) next)
    (each_gone op left (images text (suc op.base) left 0) ∙ at_base text (with_delete op 1) left 0 (suc op.base) (op.base + 1) next)

-- with one
pub ends_text : (text : List ℕ) (op : Operation ℕ) (left inserts : ℕ)
    → ends text op (suc left) (suc inserts) ≡ (ends text (with_retain op 1) left (suc inserts) ++ ends text (with_insert (with_retain op 1) text) left inserts) ++ ends text (with_delete op 1) left (suc inserts)
ends_text text op left inserts =
    let next : suc op.base ≡ op.base + 1 = omega arith in
    let kept = with_retain op 1 in
    let without = images text (suc op.base) left (suc inserts) in
    let after = images text (suc op.base) left inserts in
    map-append (longer op (suc left)) (map (λ image. Old op.base ∷ image) (without ++ map (λ image. map New text ++ image) after)) without
    ∙ ap₂ (λ (xs ys : List (Operation ℕ)). xs ++ ys)
    (each_kept op left (without ++ map (λ image. map New text ++ image) after)
    ∙ map-append (longer kept left) without (map (λ image. map New text ++ image) after)
    ∙ ap₂ (λ (xs ys : List (Operation ℕ)). xs ++ ys) (at_base text kept left (suc inserts) (suc op.base) (op.base + 1) next)
    (each_text text kept left after ∙ at_base text (with_insert kept text) left inserts (suc op.base) (op.base + 1) next))
    (each_gone op left without ∙ at_base text (with_delete op 1) left (suc inserts) (suc op.base) (op.base + 1) next)

-- all of them
longer_empty : (count : ℕ) (all : List (List (Item ℕ))) → map (longer empty count) all ≡ map (λ image. record { base = count; image = image }) all
longer_empty count [] = refl
longer_empty count (image ∷ all) = ap₂ (λ (x : Operation ℕ) (xs : List (Operation ℕ)). x ∷ xs) (made (0 + count) count image image (omega arith) refl) (longer_empty count all)

pub forms_text : (text : List ℕ) (count inserts : ℕ) → ends text empty count (suc inserts) ++ ends text (with_insert empty text) count inserts ≡ forms text (suc inserts) count
forms_text text count inserts =
    let without = images text 0 count (suc inserts) in
    let after = images text 0 count inserts in
    ap (λ (xs : List (Operation ℕ)). map (longer empty count) without ++ xs) (sym (each_text text empty count after))
    ∙ sym (map-append (longer empty count) without (map (λ image. map New text ++ image) after))
    ∙ longer_empty count (without ++ map (λ image. map New text ++ image) after)

-- ---- the instructions of the edits

pub pushed_kept : (client : ℕ) (text : List ℕ) (op kept gone : Operation ℕ) (left n inserts : ℕ) (old one two : List Instr)
    → kept ≡ with_retain op 1 → gone ≡ with_delete op 1 → left ≡ suc n → inserts ≡ 0
    → one ≡ old ++ map (λ x. Edit client x) (ends text kept n 0) → two ≡ one ++ map (λ x. Edit client x) (ends text gone n 0)
    → two ≡ old ++ map (λ x. Edit client x) (ends text op left inserts)
pushed_kept client text op kept gone left n inserts old one two k g l i first second =
    let M : List (Operation ℕ) → List Instr = map (λ x. Edit client x) in
    second ∙ ap (λ (is : List Instr). is ++ M (ends text gone n 0)) first
    ∙ append_assoc old (M (ends text kept n 0)) (M (ends text gone n 0))
    ∙ ap (λ (is : List Instr). old ++ is)
    (sym (map-append (λ x. Edit client x) (ends text kept n 0) (ends text gone n 0))
    ∙ ap M (ap₂ (λ (a b : Operation ℕ). ends text a n 0 ++ ends text b n 0) k g ∙ sym (ends_kept text op n))
    ∙ ap₂ (λ (a b : ℕ). M (ends text op a b)) (sym l) (sym i))

pub pushed_text : (client : ℕ) (text : List ℕ) (op kept more gone : Operation ℕ) (left n inserts m : ℕ) (old one two three : List Instr)
    → kept ≡ with_retain op 1 → more ≡ with_insert (with_retain op 1) text → gone ≡ with_delete op 1 → left ≡ suc n → inserts ≡ suc m
    → one ≡ old ++ map (λ x. Edit client x) (ends text kept n inserts) → two ≡ one ++ map (λ x. Edit client x) (ends text more n m)
    → three ≡ two ++ map (λ x. Edit client x) (ends text gone n inserts)
    → three ≡ old ++ map (λ x. Edit client x) (ends text op left inserts)
pushed_text client text op kept more gone left n inserts m old one two three k t g l i first second third =
    let M : List (Operation ℕ) → List Instr = map (λ x. Edit client x) in
    third ∙ ap (λ (is : List Instr). is ++ M (ends text gone n inserts)) (second ∙ ap (λ (is : List Instr). is ++ M (ends text more n m)) first ∙ append_assoc old (M (ends text kept n inserts)) (M (ends text more n m)))
    ∙ append_assoc old (M (ends text kept n inserts) ++ M (ends text more n m)) (M (ends text gone n inserts))
    ∙ ap (λ (is : List Instr). old ++ is)
    (ap (λ (is : List Instr). is ++ M (ends text gone n inserts)) (sym (map-append (λ x. Edit client x) (ends text kept n inserts) (ends text more n m)))
    ∙ sym (map-append (λ x. Edit client x) (ends text kept n inserts ++ ends text more n m) (ends text gone n inserts))
    ∙ ap M (ap (λ (b : ℕ). (ends text kept n b ++ ends text more n m) ++ ends text gone n b) i
    ∙ ap (λ (a : Operation ℕ). (ends text a n (suc m) ++ ends text more n m) ++ ends text gone n (suc m)) k
    ∙ ap₂ (λ (a b : Operation ℕ). (ends text (with_retain op 1) n (suc m) ++ ends text a n m) ++ ends text b n (suc m)) t g
    ∙ sym (ends_text text op n m))
    ∙ ap₂ (λ (a b : ℕ). M (ends text op a b)) (sym l) (sym i))

pub pushed_all : (client : ℕ) (text : List ℕ) (none more : Operation ℕ) (count inserts m : ℕ) (old one two : List Instr)
    → none ≡ empty → more ≡ with_insert empty text → inserts ≡ suc m
    → one ≡ old ++ map (λ x. Edit client x) (ends text none count inserts) → two ≡ one ++ map (λ x. Edit client x) (ends text more count m)
    → two ≡ old ++ map (λ x. Edit client x) (forms text inserts count)
pushed_all client text none more count inserts m old one two e t i first second =
    let M : List (Operation ℕ) → List Instr = map (λ x. Edit client x) in
    second ∙ ap (λ (is : List Instr). is ++ M (ends text more count m)) first
    ∙ append_assoc old (M (ends text none count inserts)) (M (ends text more count m))
    ∙ ap (λ (is : List Instr). old ++ is)
    (sym (map-append (λ x. Edit client x) (ends text none count inserts) (ends text more count m))
    ∙ ap M (ap (λ (b : ℕ). ends text none count b ++ ends text more count m) i
    ∙ ap₂ (λ (a b : Operation ℕ). ends text a count (suc m) ++ ends text b count m) e t
    ∙ forms_text text count m)
    ∙ ap (λ (b : ℕ). M (forms text b count)) (sym i))

-- ---- lengths

once : (n m l : ℕ) → n ≡ suc m → l + m * l ≡ n * l
once n m l e = subst (λ (k : ℕ). l + m * l ≡ k * l) (sym e) (omega arith)

new_length : (text : List ℕ) → length (map New text) ≡ length text
new_length text = let f : ℕ → Item ℕ = New in length-map text f

pub kept_base : (op kept : Operation ℕ) (left : ℕ) → kept ≡ with_retain op 1 → (left ≡ 0 → ⊥) → op.base + left ≤ 1000000 → kept.base + (left - 1) ≤ 1000000
kept_base op kept left is some le = subst (λ (o : Operation ℕ). o.base + (left - 1) ≤ 1000000) (sym is) (go left some le)
  where
    go : (left : ℕ) → (left ≡ 0 → ⊥) → op.base + left ≤ 1000000 → op.base + 1 + (left - 1) ≤ 1000000
    go zero some le = absurd (some refl)
    go (suc n) some le = omega arith

pub kept_target : (op kept : Operation ℕ) (left rest : ℕ) → kept ≡ with_retain op 1 → (left ≡ 0 → ⊥) → length op.image + (left + rest) ≤ 1000000 → length kept.image + (left - 1 + rest) ≤ 1000000
kept_target op kept left rest is some le = subst (λ (o : Operation ℕ). length o.image + (left - 1 + rest) ≤ 1000000) (sym is) (go left some le)
  where
    go : (left : ℕ) → (left ≡ 0 → ⊥) → length op.image + (left + rest) ≤ 1000000 → length (op.image ++ olds op.base 1) + (left - 1 + rest) ≤ 1000000
    go zero some le = absurd (some refl)
    go (suc n) some le = let e = length-append op.image (olds op.base 1) in omega arith

text_length : (op : Operation ℕ) (text : List ℕ) → length ((with_insert (with_retain op 1) text).image) ≡ length op.image + 1 + length text
text_length op text =
    let a = length-append (op.image ++ olds op.base 1) (map New text) in
    let b = length-append op.image (olds op.base 1) in
    let c = new_length text in
    omega (arith, a, b, c)

pub text_target : (op more : Operation ℕ) (text : List ℕ) (left inserts : ℕ) → more ≡ with_insert (with_retain op 1) text → (left ≡ 0 → ⊥) → (inserts ≡ 0 → ⊥)
    → length op.image + (left + inserts * length text) ≤ 1000000 → length more.image + (left - 1 + (inserts - 1) * length text) ≤ 1000000
text_target op more text left inserts is some any le =
    let e = once inserts (inserts - 1) (length text) (omega (arith, any)) in
    let l = text_length op text in
    subst (λ (o : Operation ℕ). length o.image + (left - 1 + (inserts - 1) * length text) ≤ 1000000) (sym is) (go left some (inserts * length text) ((inserts - 1) * length text) e le l)
  where
    go : (left : ℕ) → (left ≡ 0 → ⊥) → (all rest : ℕ) → length text + rest ≡ all → length op.image + (left + all) ≤ 1000000
        → length ((with_insert (with_retain op 1) text).image) ≡ length op.image + 1 + length text → length ((with_insert (with_retain op 1) text).image) + (left - 1 + rest) ≤ 1000000
    go zero some all rest e le l = absurd (some refl)
    go (suc n) some all rest e le l = omega (arith, e, l)

pub text_fits : (op kept : Operation ℕ) (text : List ℕ) (left inserts : ℕ) → kept ≡ with_retain op 1 → (left ≡ 0 → ⊥) → (inserts ≡ 0 → ⊥)
    → op.base + left ≤ 1000000 → length op.image + (left + inserts * length text) ≤ 1000000 → IsTooLong (with_insert kept text) → ⊥
text_fits op kept text left inserts is some any base le long =
    let e = once inserts (inserts - 1) (length text) (omega (arith, any)) in
    let l = text_length op text in
    let whole : IsTooLong (with_insert (with_retain op 1) text) = subst (λ (o : Operation ℕ). IsTooLong (with_insert o text)) is long in
    go left some (inserts * length text) ((inserts - 1) * length text) e le l base whole
  where
    go : (left : ℕ) → (left ≡ 0 → ⊥) → (all rest : ℕ) → length text + rest ≡ all → length op.image + (left + all) ≤ 1000000
        → length ((with_insert (with_retain op 1) text).image) ≡ length op.image + 1 + length text → op.base + left ≤ 1000000 → IsTooLong (with_insert (with_retain op 1) text) → ⊥
    go zero some all rest e le l base whole = some refl
    go (suc n) some all rest e le l base whole = omega (arith, e, l)

pub first_target : (more : Operation ℕ) (text : List ℕ) (count inserts : ℕ) → more ≡ with_insert empty text → (inserts ≡ 0 → ⊥) → count + inserts * length text ≤ 1000000
    → length more.image + (count + (inserts - 1) * length text) ≤ 1000000
first_target more text count inserts is any le =
    let e = once inserts (inserts - 1) (length text) (omega (arith, any)) in
    let c = new_length text in
    subst (λ (o : Operation ℕ). length o.image + (count + (inserts - 1) * length text) ≤ 1000000) (sym is) (omega (arith, e, c))
