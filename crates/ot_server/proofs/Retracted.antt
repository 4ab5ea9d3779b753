-- The last entry undone.
use Rattle.std.proofs.Common.{◌≡◌, ℕ, zero, suc, ◌+◌, ◌<◌, List, [], ◌∷◌, ◌++◌, length, take, refl, sym, ap, ◌∙◌, arith, length-append}
use Rattle.ot_operation.specs.Operation.{Operation, apply, invert}
use Rattle.ot_operation.proofs.ApplyLaws.{length-apply}
use Rattle.ot_operation.proofs.InvertLaws.{apply-invert}
use Rattle.ot_server.specs.History.{Entry, History}
use Rattle.ot_server.specs.Faults.{IsChain}
use Rattle.ot_server.specs.Undo.{IsUndo}

take_front : {X : Type 0} (xs : List X) (y : X) (n : ℕ) → n ≡ length xs → take n (xs ++ y ∷ []) ≡ xs
take_front [] y zero e = refl
take_front [] y (suc n) e = absurd (omega arith)
take_front (x ∷ xs) y zero e = absurd (omega arith)
take_front (x ∷ xs) y (suc n) e = ap (λ rest. x ∷ rest) (take_front xs y n (omega arith))

chain_front : {A : Type 0} (log : List (Entry A)) (end : ℕ) (entry : Entry A) → IsChain (log ++ entry ∷ []) end → IsChain log entry.op.base
chain_front [] end entry chain = tt
chain_front (first ∷ []) end entry chain = (chain.0, tt)
chain_front (first ∷ second ∷ log) end entry chain = (chain.0, chain_front (second ∷ log) end entry chain.1)

inverse_base : {A : Type 0} (op : Operation A) (document : List A) → (invert op document).base ≡ length op.image
unfolding invert
inverse_base op document = refl

same_history : {A : Type 0} (history : History A) (document : List A) (log : List (Entry A)) → document ≡ history.document → log ≡ history.log → record { document = document; log = log } ≡ history
same_history history document log d l = λ i. record { document = d i; log = l i }

module _ {A : Type 0} (earlier server : History A) (undo : Operation A) (undoing : IsUndo earlier server undo) where
  document_is : server.document ≡ apply undoing.last.op earlier.document
  document_is = ap (λ (history : History A). history.document) undoing.led

  log_is : server.log ≡ earlier.log ++ record { maker = undoing.last.maker; op = undoing.last.op } ∷ []
  log_is = ap (λ (history : History A). history.log) undoing.led

  pub undo_fits : undo.base ≡ length server.document
  undo_fits =
      let long : length (apply undoing.last.op earlier.document) ≡ length undoing.last.op.image =
      length-apply undoing.last.op earlier.document undoing.operation (omega (arith, undoing.fits)) in
      ap (λ (op : Operation A). op.base) undoing.undo_is ∙ inverse_base undoing.last.op earlier.document ∙ sym long
      ∙ ap (λ (d : List A). length d) (sym document_is)

  pub document_back : apply undo server.document ≡ earlier.document
  document_back = rw (undoing.undo_is, document_is) (apply-invert undoing.last.op earlier.document undoing.operation undoing.fits)

  pub log_back : (n : ℕ) → n + 1 ≡ length server.log → take n server.log ≡ earlier.log
  log_back n count =
      let short : n ≡ length earlier.log =
      omega (arith, count, ap (λ (log : List (Entry A)). length log) log_is, length-append earlier.log (record { maker = undoing.last.maker; op = undoing.last.op } ∷ [])) in
      rw log_is (take_front earlier.log (record { maker = undoing.last.maker; op = undoing.last.op }) n short)

  pub some : 0 < length server.log
  some = omega (arith, ap (λ (log : List (Entry A)). length log) log_is, length-append earlier.log (record { maker = undoing.last.maker; op = undoing.last.op } ∷ []))

  pub chain_back : IsChain server.log (length server.document) → IsChain earlier.log (length earlier.document)
  chain_back chain =
      let whole = rw log_is at chain in
      rw (← undoing.fits) (chain_front earlier.log (length server.document) (record { maker = undoing.last.maker; op = undoing.last.op }) whole)

  pub retracted : (document : List A) (log : List (Entry A)) (n : ℕ) → document ≡ apply undo server.document → log ≡ take n server.log → n + 1 ≡ length server.log → record { document = document; log = log } ≡ earlier
  retracted document log n applied taken count = same_history earlier document log (applied ∙ document_back) (taken ∙ log_back n count)
