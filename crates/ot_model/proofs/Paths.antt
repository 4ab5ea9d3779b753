-- What each row leaves of the lists that a state leads to: only an edit and a take make new ones.
use Rattle.std.proofs.Common.{◌≡◌, ℕ, ◌≢◌, List, [], ◌∷◌, ◌++◌, refl, sym, ap, ◌∙◌, inl, inr}
use Rattle.std.proofs.lemmas.Bool.{cond-true, cond-false, eq-eqb, ne_eqb}
use Rattle.std.specs.Prelude.{◌⊎◌, ◌==◌}
use Rattle.ot_model.specs.Operation.{Operation, apply, first_after, second_after}
use Rattle.ot_isa.specs.declared.elements.Tagged.{Tagged}
use Rattle.ot_model.specs.Table.{Phase, NotJoined, Synchronized, AwaitingConfirm, AwaitingWithBuffer, Entry, phase_delivered}
use Rattle.ot_server.specs.History.{transform_over}
use Rattle.ot_model.specs.Sound.{Fits, apply_entries, FitAll, NoneBy, Lands}
use Rattle.ot_model.proofs.Algebra.{AlgebraLaws}
use Rattle.ot_model.proofs.Vertices.{PathFits, InPath, lifted, operations, past_outstanding, InFirst, InSecond}

-- past an entry of the client's own, and past another's
pub past_own : (c : ℕ) (o : Operation Tagged) (h : Entry) (log : List Entry) → h.maker ≡ c → past_outstanding c o (h ∷ log) ≡ operations log
past_own c o h log own = cond-true (h.maker == c) (operations log) (second_after o h.op ∷ past_outstanding c (first_after o h.op) log) (eq-eqb h.maker c own)

pub past_other : (c : ℕ) (o : Operation Tagged) (h : Entry) (log : List Entry) → h.maker ≢ c → past_outstanding c o (h ∷ log) ≡ second_after o h.op ∷ past_outstanding c (first_after o h.op) log
past_other c o h log other = cond-false (h.maker == c) (operations log) (second_after o h.op ∷ past_outstanding c (first_after o h.op) log) (ne_eqb h.maker c other)

pub past_none : (c : ℕ) (o : Operation Tagged) (log : List Entry) → NoneBy c log → past_outstanding c o log ≡ lifted o (operations log)
past_none c o [] none = refl
past_none c o (h ∷ log) none = past_other c o h log none.0 ∙ ap (λ es. second_after o h.op ∷ es) (past_none c (first_after o h.op) log none.1)

-- where a path ends
abbrev pub reached : List Tagged → List (Operation Tagged) → List Tagged
reached d [] = d
reached d (e ∷ es) = reached (apply e d) es

pub InPath_push : (w d : List Tagged) (es : List (Operation Tagged)) (e : Operation Tagged) → InPath w d (es ++ e ∷ []) → InPath w d es ⊎ (w ≡ apply e (reached d es))
InPath_push w d [] e (inl is) = inl is
InPath_push w d [] e (inr is) = inr is
InPath_push w d (x ∷ es) e (inl is) = inl (inl is)
InPath_push w d (x ∷ es) e (inr there) = elim (InPath_push w (apply x d) es e there) [ inl old ↦ inl (inr old) | inr new ↦ inr new ]

pub InPath_reached : (d : List Tagged) (es : List (Operation Tagged)) → InPath (reached d es) d es
InPath_reached d [] = refl
InPath_reached d (e ∷ es) = inr (InPath_reached (apply e d) es)

pub operations_push : (log : List Entry) (e : Entry) → operations (log ++ e ∷ []) ≡ operations log ++ e.op ∷ []
operations_push [] e = refl
operations_push (h ∷ log) e = ap (λ es. h.op ∷ es) (operations_push log e)

pub reached-operations : (d : List Tagged) (log : List Entry) → reached d (operations log) ≡ apply_entries d log
reached-operations d [] = refl
reached-operations d (h ∷ log) = reached-operations (apply h.op d) log

-- the client's own entry is taken: its path stays
pub past_taken_own : (c : ℕ) (o : Operation Tagged) (log : List Entry) (e : Entry) → e.maker ≡ c → NoneBy c log → past_outstanding c o (log ++ e ∷ []) ≡ past_outstanding c o log
past_taken_own c o [] e own none = past_own c o e [] own
past_taken_own c o (h ∷ log) e own none =
    past_other c o h (log ++ e ∷ []) none.0 ∙ ap (λ es. second_after o h.op ∷ es) (past_taken_own c (first_after o h.op) log e own none.1) ∙ sym (past_other c o h log none.0)

-- another's entry is taken, where the outstanding is not in the log yet, and where it is
pub past_taken_other : (c : ℕ) (o : Operation Tagged) (log : List Entry) (e : Entry) → e.maker ≢ c → NoneBy c log → past_outstanding c o (log ++ e ∷ []) ≡ past_outstanding c o log ++ second_after (transform_over o log) e.op ∷ []
past_taken_other c o [] e other none = past_other c o e [] other
past_taken_other c o (h ∷ log) e other none =
    past_other c o h (log ++ e ∷ []) none.0 ∙ ap (λ es. second_after o h.op ∷ es) (past_taken_other c (first_after o h.op) log e other none.1) ∙ ap (λ es. es ++ second_after (transform_over o (h ∷ log)) e.op ∷ []) (sym (past_other c o h log none.0))

pub past_taken_landed : (c : ℕ) (o : Operation Tagged) (log : List Entry) (e : Entry) → e.maker ≢ c → Lands c o log → past_outstanding c o (log ++ e ∷ []) ≡ past_outstanding c o log ++ e.op ∷ []
past_taken_landed c o [] e other lands = absurd lands
past_taken_landed c o (h ∷ log) e other (inl here) =
    past_own c o h (log ++ e ∷ []) here.0 ∙ operations_push log e ∙ ap (λ es. es ++ e.op ∷ []) (sym (past_own c o h log here.0))
past_taken_landed c o (h ∷ log) e other (inr there) =
    past_other c o h (log ++ e ∷ []) there.0 ∙ ap (λ es. second_after o h.op ∷ es) (past_taken_landed c (first_after o h.op) log e other there.1) ∙ ap (λ es. es ++ e.op ∷ []) (sym (past_other c o h log there.0))

-- the operations of a phase apply in turn
abbrev pub PhaseFits : List Tagged → Phase → Type 0
PhaseFits d NotJoined = Unit {0}
PhaseFits d Synchronized = Unit {0}
PhaseFits d (AwaitingConfirm o) = Fits o d
PhaseFits d (AwaitingWithBuffer o b) = Fits o d × Fits b (apply o d)

module _ (laws : AlgebraLaws) where
  open laws use {first_fits, second_fits, same}

  -- Deliver: what the client leads to, it led to before
  pub InFirst_delivered : (c : ℕ) (w d : List Tagged) (h : Entry) (ahead : List Entry) (phase : Phase) → h.maker ≢ c → Fits h.op d → PhaseFits d phase → InFirst c w (apply h.op d) ahead (phase_delivered phase h.op) → InFirst c w d (h ∷ ahead) phase
  InFirst_delivered c w d h ahead NotJoined other fits all on = on
  InFirst_delivered c w d h ahead Synchronized other fits all on = on
  InFirst_delivered c w d h ahead (AwaitingConfirm o) other fits all on = rw (past_other c o h ahead other) (inr (rw (same o h.op d all fits) on))
  InFirst_delivered c w d h ahead (AwaitingWithBuffer o b) other fits all on = rw (past_other c o h ahead other) (inr (rw (same o h.op d all.0 fits) on))

  pub InSecond_delivered : (c : ℕ) (w d : List Tagged) (h : Entry) (ahead : List Entry) (phase : Phase) → h.maker ≢ c → Fits h.op d → PhaseFits d phase → InSecond c w (apply h.op d) ahead (phase_delivered phase h.op) → InSecond c w d (h ∷ ahead) phase
  InSecond_delivered c w d h ahead NotJoined other fits all on = on
  InSecond_delivered c w d h ahead Synchronized other fits all on = on
  InSecond_delivered c w d h ahead (AwaitingConfirm o) other fits all on = on
  InSecond_delivered c w d h ahead (AwaitingWithBuffer o b) other fits all on =
      let p_fits = second_fits o h.op d all.0 fits in
      rw (past_other c o h ahead other) (inr (rw (same b (second_after o h.op) (apply o d) all.1 p_fits, same o h.op d all.0 fits) on))

  -- Acknowledge: the buffer's path becomes the outstanding's
  pub InFirst_acknowledged : (c : ℕ) (w d : List Tagged) (o b : Operation Tagged) (h : Entry) (ahead : List Entry) → h.maker ≡ c → h.op ≡ o → NoneBy c ahead → InFirst c w (apply h.op d) ahead (AwaitingConfirm b) → InSecond c w d (h ∷ ahead) (AwaitingWithBuffer o b)
  InFirst_acknowledged c w d o b h ahead own is none on = rw (past_own c o h ahead own, ← is, ← past_none c b ahead none) on

  -- Take: the server's new document is where its maker's path led
  pub taken_reached : (c : ℕ) (o : Operation Tagged) (d : List Tagged) (ahead : List Entry) → FitAll d ahead → Fits o d → NoneBy c ahead → reached (apply o d) (past_outstanding c o ahead) ≡ apply (transform_over o ahead) (apply_entries d ahead)
  taken_reached c o d [] all fits none = refl
  taken_reached c o d (h ∷ ahead) all fits none =
      ap (reached (apply o d)) (past_other c o h ahead none.0)
      ∙ ap (λ (w : List Tagged). reached w (past_outstanding c (first_after o h.op) ahead)) (same o h.op d fits all.0)
      ∙ taken_reached c (first_after o h.op) (apply h.op d) ahead all.1 (first_fits o h.op d fits all.0) none.1

  pub landed_reached : (c : ℕ) (o : Operation Tagged) (d : List Tagged) (ahead : List Entry) → FitAll d ahead → Fits o d → Lands c o ahead → reached (apply o d) (past_outstanding c o ahead) ≡ apply_entries d ahead
  landed_reached c o d [] all fits lands = absurd lands
  landed_reached c o d (h ∷ ahead) all fits (inl here) = rw (past_own c o h ahead here.0, ← here.1) (reached-operations (apply h.op d) ahead)
  landed_reached c o d (h ∷ ahead) all fits (inr there) =
      ap (reached (apply o d)) (past_other c o h ahead there.0)
      ∙ ap (λ (w : List Tagged). reached w (past_outstanding c (first_after o h.op) ahead)) (same o h.op d fits all.0)
      ∙ landed_reached c (first_after o h.op) (apply h.op d) ahead all.1 (first_fits o h.op d fits all.0) there.1

  -- the path fits
  pub operations_fit : (d : List Tagged) (log : List Entry) → FitAll d log → PathFits d (operations log)
  operations_fit d [] all = tt
  operations_fit d (h ∷ log) all = (all.0, operations_fit (apply h.op d) log all.1)

  pub past_fits : (c : ℕ) (o : Operation Tagged) (d : List Tagged) (ahead : List Entry) → FitAll d ahead → Fits o d → NoneBy c ahead ⊎ Lands c o ahead → PathFits (apply o d) (past_outstanding c o ahead)
  past_fits c o d [] all fits sent = tt
  past_fits c o d (h ∷ ahead) all fits (inl none) =
      rw (past_other c o h ahead none.0) (second_fits o h.op d fits all.0, rw (same o h.op d fits all.0) (past_fits c (first_after o h.op) (apply h.op d) ahead all.1 (first_fits o h.op d fits all.0) (inl none.1)))
  past_fits c o d (h ∷ ahead) all fits (inr (inl here)) = rw (past_own c o h ahead here.0, ← here.1) (operations_fit (apply h.op d) ahead all.1)
  past_fits c o d (h ∷ ahead) all fits (inr (inr there)) =
      rw (past_other c o h ahead there.0) (second_fits o h.op d fits all.0, rw (same o h.op d fits all.0) (past_fits c (first_after o h.op) (apply h.op d) ahead all.1 (first_fits o h.op d fits all.0) (inr there.1)))
