-- An operation on its way over the log.
use Rattle.std.proofs.Common.{◌≡◌, ℕ, zero, suc, ◌+◌, ◌<◌, ◌≤◌, List, [], ◌∷◌, ◌++◌, ◌-◌, length, take, drop, get_or, refl, ◌∙◌, arith, add-one}
use Rattle.std.proofs.lemmas.List.{take_all, length-drop}
use Rattle.ot_operation.specs.Operation.{Operation, IsOperation, apply, news}
use Rattle.ot_operation.proofs.ApplyLaws.{length-apply}
use Rattle.ot_operation.specs.Merge.{first_after}
use Rattle.ot_operation.proofs.OrderLaws.{length-image}
use Rattle.ot_operation.proofs.LengthLaws.{first_after-base}
use Rattle.ot_operation.proofs.TransformedLaws.{news-first_after}
use Rattle.ot_server.specs.History.{Entry, transform_over}
use Rattle.ot_server.specs.Faults.{base_at, IsChain, inserted_in}

pub rest_is : {X : Type 0} (xs : List X) (i : ℕ) (x : X) → i < length xs → x ≡ get_or xs i x → drop i xs ≡ x ∷ drop (suc i) xs
rest_is [] i x within here = absurd (omega arith)
rest_is (y ∷ xs) zero x within here = rw here refl
rest_is (y ∷ xs) (suc i) x within here = rest_is xs i x (omega arith) here

pub past_end : {X : Type 0} (xs : List X) (i : ℕ) → length xs ≤ i → drop i xs ≡ []
past_end [] zero h = refl
past_end [] (suc i) h = refl
past_end (x ∷ xs) zero h = absurd (omega arith)
past_end (x ∷ xs) (suc i) h = past_end xs i (omega arith)

pub slice_rest : {X : Type 0} (xs ys : List X) (i : ℕ) → ys ≡ xs → i ≤ length xs → take (length ys - i) (drop i ys) ≡ drop i xs
slice_rest xs ys i same within =
    rw same (take_all (length xs - i) (drop i xs) (omega (arith, length-drop i xs)))

-- the first entries have been passed
pub record IsTransformed {A : Type 0} (op : Operation A) (log : List (Entry A)) (end i : ℕ) (transformed : Operation A) : Type 0 where
  pub value : transform_over transformed (drop i log) ≡ transform_over op log
  pub base : transformed.base ≡ base_at (drop i log) end
  pub chain : IsChain (drop i log) end
  pub fits : transformed.base + inserted_in (drop i log) + length (news transformed.image) ≤ 1000000

module _ {A : Type 0} (op : Operation A) (log : List (Entry A)) (end i : ℕ) (transformed : Operation A) (entry : Entry A)
    (within : i < length log) (here : entry ≡ get_or log i entry) (w : IsTransformed op log end i transformed) where
  rest : drop i log ≡ entry ∷ drop (suc i) log
  rest = rest_is log i entry within here

  pub same_base : transformed.base ≡ entry.op.base
  same_base = rw rest at w.base

  pub room : transformed.base + length (news transformed.image) + length (news entry.op.image) ≤ 1000000
  room = let fits = rw rest at w.fits in omega (arith, fits)

  pub transformed_next : (next : Operation A) → next ≡ first_after transformed entry.op → IsOperation transformed → IsOperation entry.op → IsTransformed op log end (i + 1) next
  transformed_next next next_is transformed_rises entry_rises =
      let value = rw rest at w.value in
      let chain = rw rest at w.chain in
      let fits = rw rest at w.fits in
      let kept : length (news (first_after transformed entry.op).image) ≡ length (news transformed.image) =
      rw (news-first_after transformed entry.op transformed_rises entry_rises same_base) refl in
      rw (next_is, add-one)
      record {
        value = value;
        base = first_after-base transformed entry.op ∙ chain.0;
        chain = chain.1;
        fits = omega (arith, first_after-base transformed entry.op, kept, same_base, length-image entry.op entry_rises, fits);
      }

-- the log is longer by one entry
pub chain_push :
    {A : Type 0} (log : List (Entry A)) (end : ℕ) (entry : Entry A) → IsChain log end → entry.op.base ≡ end
    → IsChain (log ++ entry ∷ []) (length entry.op.image)
chain_push [] end entry chain base = (refl, tt)
chain_push (first ∷ []) end entry chain base = (chain.0 ∙ base_is, (refl, tt)) where
  base_is : end ≡ entry.op.base
  base_is = omega (arith, base)
chain_push (first ∷ second ∷ log) end entry chain base = (chain.0, chain_push (second ∷ log) end entry chain.1 base)

pub chain_drop : {A : Type 0} (log : List (Entry A)) (end i : ℕ) → IsChain log end → IsChain (drop i log) end
chain_drop [] end zero chain = tt
chain_drop [] end (suc i) chain = tt
chain_drop (entry ∷ log) end zero chain = chain
chain_drop (entry ∷ log) end (suc i) chain = chain_drop log end i chain.1

pub chain_received :
    {A : Type 0} (log : List (Entry A)) (document : List A) (entry : Entry A) → IsChain log (length document)
    → entry.op.base ≡ length document → IsOperation entry.op → IsChain (log ++ entry ∷ []) (length (apply entry.op document))
chain_received log document entry chain base rises =
    let long : length (apply entry.op document) ≡ length entry.op.image = length-apply entry.op document rises (omega (arith, base)) in
    rw long (chain_push log (length document) entry chain base)
