-- What a reader's lists hold, in a sound state: its own, the start's and the log's.
use Rattle.std.proofs.Common.{◌≡◌, ℕ, ◌≢◌, List, [], ◌∷◌, ◌++◌, take, drop, refl, sym, ap, ◌∙◌, subst, inl, inr, Option, Some, None}
use Rattle.std.proofs.lemmas.List.{take-append-drop}
use Rattle.std.specs.Prelude.{◌⊎◌, slice_get}
use Rattle.ot_model.specs.Operation.{Operation, apply, news, first_after}
use Rattle.ot_isa.specs.declared.elements.Tag.{Tag}
use Rattle.ot_isa.specs.declared.elements.Tagged.{Tagged}
use Rattle.ot_model.specs.Table.{Phase, NotJoined, Synchronized, AwaitingConfirm, AwaitingWithBuffer, Client, State, Entry, Message}
use Rattle.ot_model.specs.Sound.{Fits, apply_entries, FitAll, NoneBy, Lands, IsSent, IsPhaseSound, news_pending, news_sent, news_kept, IsSoundFrom}
use Rattle.ot_model.proofs.Algebra.{AlgebraLaws}
use Rattle.ot_model.proofs.Vertices.{Has, HasNew, lifted, operations, past_outstanding, InFirst, InSecond, IsVertex, Seen, In, IsMember, IsKnown, IsSeenSound, OrderLaws}
use Rattle.ot_model.proofs.States.{transform_over_news, FitAll_drop}
use Rattle.ot_model.proofs.Lengths.{FitAll_take}
use Rattle.ot_model.proofs.Paths.{past_own, past_other, past_fits, operations_fit}
use Rattle.ot_model.proofs.Order.{InPath_has, lifted_fits, lifted_news}
use Rattle.ot_model.proofs.Tags.{NewBy, pending_tag}

pub HasNew_append : (t : Tag) (xs ys : List Entry) → HasNew t (operations xs) ⊎ HasNew t (operations ys) → HasNew t (operations (xs ++ ys))
HasNew_append t [] ys (inl h) = absurd h
HasNew_append t [] ys (inr h) = h
HasNew_append t (x ∷ xs) ys (inl (inl here)) = inl here
HasNew_append t (x ∷ xs) ys (inl (inr there)) = inr (HasNew_append t xs ys (inl there))
HasNew_append t (x ∷ xs) ys (inr h) = inr (HasNew_append t xs ys (inr h))

pub HasNew_take : (t : Tag) (n : ℕ) (log : List Entry) → HasNew t (operations (take n log)) → HasNew t (operations log)
HasNew_take t n log h = subst (λ (w : List Entry). HasNew t (operations w)) (take-append-drop n log) (HasNew_append t (take n log) (drop n log) (inl h))

pub HasNew_drop : (t : Tag) (n : ℕ) (log : List Entry) → HasNew t (operations (drop n log)) → HasNew t (operations log)
HasNew_drop t n log h = subst (λ (w : List Entry). HasNew t (operations w)) (take-append-drop n log) (HasNew_append t (take n log) (drop n log) (inr h))

pub Has_left : (t : Tag) (xs ys : List Tagged) → Has t xs → Has t (xs ++ ys)
Has_left t [] ys h = absurd h
Has_left t (x ∷ xs) ys (inl here) = inl here
Has_left t (x ∷ xs) ys (inr there) = inr (Has_left t xs ys there)

pub Has_right : (t : Tag) (xs ys : List Tagged) → Has t ys → Has t (xs ++ ys)
Has_right t [] ys h = h
Has_right t (x ∷ xs) ys h = inr (Has_right t xs ys h)

-- inserted by another's entry
pub HasNew_other : (c : ℕ) (t : Tag) (log : List Entry) → NoneBy c log → HasNew t (operations log) → (d : ℕ) × (d ≢ c) × NewBy d t log
HasNew_other c t [] none h = absurd h
HasNew_other c t (h ∷ log) none (inl here) = (h.maker, none.0, inl (refl, here))
HasNew_other c t (h ∷ log) none (inr there) = let rest = HasNew_other c t log none.1 there in (rest.0, rest.1, inr rest.2)

pub NewBy_HasNew : (d : ℕ) (t : Tag) (log : List Entry) → NewBy d t log → HasNew t (operations log)
NewBy_HasNew d t [] h = absurd h
NewBy_HasNew d t (e ∷ log) (inl here) = inl here.1
NewBy_HasNew d t (e ∷ log) (inr there) = inr (NewBy_HasNew d t log there)

widened : (t : Tag) (xs ys : List Tagged) (P : Type 0) → Has t xs ⊎ P → Has t (xs ++ ys) ⊎ P
widened t xs ys P (inl h) = inl (Has_left t xs ys h)
widened t xs ys P (inr p) = inr p

module _ (laws : AlgebraLaws) (order : OrderLaws) where
  open laws use {first_fits, second_fits, same, first_news, second_news}
  open order use {from}

  pub document_has : (d : List Tagged) (log : List Entry) (t : Tag) → FitAll d log → Has t (apply_entries d log) → Has t d ⊎ HasNew t (operations log)
  document_has d [] t all h = inl h
  document_has d (e ∷ log) t all h = elim (document_has (apply e.op d) log t all.1 h) [
    | inl old ↦ elim (from e.op d t all.0 old) [ inl before ↦ inl before | inr new ↦ inr (inl new) ]
    | inr later ↦ inr (inr later)
  ]

  -- what the entries bring to a client comes from others
  pub past_news : (c : ℕ) (o : Operation Tagged) (d : List Tagged) (log : List Entry) (t : Tag) → FitAll d log → Fits o d → NoneBy c log ⊎ Lands c o log → HasNew t (past_outstanding c o log) → (k : ℕ) × (k ≢ c) × NewBy k t log
  past_news c o d [] t all fits sent h = absurd h
  past_news c o d (e ∷ log) t all fits (inl none) h =
      elim (rw (past_other c o e log none.0) at h) [
        | inl here ↦ (e.maker, none.0, inl (refl, rw (second_news o e.op fits.rising all.0.rising (fits.base ∙ sym all.0.base)) at here))
        | inr there ↦ let rest = past_news c (first_after o e.op) (apply e.op d) log t all.1 (first_fits o e.op d fits all.0) (inl none.1) there in (rest.0, rest.1, inr rest.2)
      ]
  past_news c o d (e ∷ log) t all fits (inr (inl here)) h =
      let rest = HasNew_other c t log here.2 (rw (past_own c o e log here.0) at h) in
      (rest.0, rest.1, inr rest.2)
  past_news c o d (e ∷ log) t all fits (inr (inr far)) h =
      elim (rw (past_other c o e log far.0) at h) [
        | inl here ↦ (e.maker, far.0, inl (refl, rw (second_news o e.op fits.rising all.0.rising (fits.base ∙ sym all.0.base)) at here))
        | inr there ↦ let rest = past_news c (first_after o e.op) (apply e.op d) log t all.1 (first_fits o e.op d fits all.0) (inr far.1) there in (rest.0, rest.1, inr rest.2)
      ]

  -- what is outstanding is under way or in the log
  Lands_has : (c : ℕ) (o : Operation Tagged) (d : List Tagged) (log : List Entry) (t : Tag) → FitAll d log → Fits o d → Lands c o log → Has t (news o) → HasNew t (operations log)
  Lands_has c o d [] t all fits lands h = absurd lands
  Lands_has c o d (e ∷ log) t all fits (inl here) h = inl (rw here.1 h)
  Lands_has c o d (e ∷ log) t all fits (inr far) h =
      inr (Lands_has c (first_after o e.op) (apply e.op d) log t all.1 (first_fits o e.op d fits all.0) far.1 (rw (first_news o e.op fits.rising all.0.rising (fits.base ∙ sym all.0.base)) h))

  pub outstanding_has : (c : ℕ) (o : Operation Tagged) (start : List Tagged) (seen ahead : List Entry) (message : Option Message) (t : Tag) → FitAll start seen → FitAll (apply_entries start seen) ahead → Fits o (apply_entries start seen) → IsSent c o start seen ahead message → Has t (news o)
      → Has t (news_sent message) ⊎ HasNew t (operations ahead)
  outstanding_has c o start seen ahead None t before all fits sent h = inr (Lands_has c o (apply_entries start seen) ahead t all fits sent h)
  outstanding_has c o start seen ahead (Some m) t before all fits sent h =
      let rest = FitAll_drop laws start m.revision seen before in
      let e : news o ≡ news m.op = ap (λ (a : Operation Tagged). news a) (sym sent.transformed) ∙ transform_over_news laws m.op (apply_entries start (take m.revision seen)) (drop m.revision seen) rest sent.fits in
      inl (rw e at h)

  pub sent_or : (c : ℕ) (o : Operation Tagged) (start : List Tagged) (seen ahead : List Entry) (message : Option Message) → IsSent c o start seen ahead message → NoneBy c ahead ⊎ Lands c o ahead
  sent_or c o start seen ahead None sent = inr sent
  sent_or c o start seen ahead (Some m) sent = inl sent.none

  -- a list that outstanding and buffer lead to holds what is pending, and what the start and the log have
  outstanding_held : (c : ℕ) (o : Operation Tagged) (start : List Tagged) (seen ahead : List Entry) (message : Option Message) (w : List Tagged) (t : Tag) → FitAll start seen → FitAll (apply_entries start seen) ahead → Fits o (apply_entries start seen) → IsSent c o start seen ahead message
      → Has t (apply o (apply_entries start seen)) ⊎ HasNew t (past_outstanding c o ahead) → Has t (news_sent message) ⊎ (Has t start ⊎ (HasNew t (operations seen) ⊎ HasNew t (operations ahead)))
  outstanding_held c o start seen ahead message w t before all fits sent (inl h) = elim (from o (apply_entries start seen) t fits h) [
    | inl old ↦ elim (document_has start seen t before old) [ inl first ↦ inr (inl first) | inr new ↦ inr (inr (inl new)) ]
    | inr new ↦ elim (outstanding_has c o start seen ahead message t before all fits sent new) [ inl under ↦ inl under | inr landed ↦ inr (inr (inr landed)) ]
  ]
  outstanding_held c o start seen ahead message w t before all fits sent (inr h) =
      let by = past_news c o (apply_entries start seen) ahead t all fits (sent_or c o start seen ahead message sent) h in
      inr (inr (inr (NewBy_HasNew by.0 t ahead by.2)))

  pub first_held : (c : ℕ) (phase : Phase) (start : List Tagged) (seen ahead : List Entry) (list : List Tagged) (message : Option Message) (w : List Tagged) (t : Tag) → FitAll start seen → FitAll (apply_entries start seen) ahead → IsPhaseSound c phase start seen ahead list message
      → InFirst c w (apply_entries start seen) ahead phase → Has t w → Has t (news_sent message) ⊎ (Has t start ⊎ (HasNew t (operations seen) ⊎ HasNew t (operations ahead)))
  first_held c NotJoined start seen ahead list message w t before all sound on h = absurd on
  first_held c Synchronized start seen ahead list message w t before all sound on h = absurd on
  first_held c (AwaitingConfirm o) start seen ahead list message w t before all sound on h =
      let path = past_fits laws c o (apply_entries start seen) ahead all sound.fits (sent_or c o start seen ahead message sound.sent) in
      outstanding_held c o start seen ahead message w t before all sound.fits sound.sent (InPath_has laws order (apply o (apply_entries start seen)) w (past_outstanding c o ahead) t path on h)
  first_held c (AwaitingWithBuffer o b) start seen ahead list message w t before all sound on h =
      let path = past_fits laws c o (apply_entries start seen) ahead all sound.fits (sent_or c o start seen ahead message sound.sent) in
      outstanding_held c o start seen ahead message w t before all sound.fits sound.sent (InPath_has laws order (apply o (apply_entries start seen)) w (past_outstanding c o ahead) t path on h)

  pub second_held : (c : ℕ) (phase : Phase) (start : List Tagged) (seen ahead : List Entry) (list : List Tagged) (message : Option Message) (w : List Tagged) (t : Tag) → FitAll start seen → FitAll (apply_entries start seen) ahead → IsPhaseSound c phase start seen ahead list message
      → InSecond c w (apply_entries start seen) ahead phase → Has t w → Has t (news_sent message ++ news_kept phase) ⊎ (Has t start ⊎ (HasNew t (operations seen) ⊎ HasNew t (operations ahead)))
  second_held c NotJoined start seen ahead list message w t before all sound on h = absurd on
  second_held c Synchronized start seen ahead list message w t before all sound on h = absurd on
  second_held c (AwaitingConfirm o) start seen ahead list message w t before all sound on h = absurd on
  second_held c (AwaitingWithBuffer o b) start seen ahead list message w t before all sound on h =
      let d = apply_entries start seen in
      let es = past_outstanding c o ahead in
      let path = past_fits laws c o d ahead all sound.fits (sent_or c o start seen ahead message sound.sent) in
      let high = lifted_fits laws order b (apply o d) es sound.buffer_fits path in
      let widen = λ (r : Has t (news_sent message) ⊎ (Has t start ⊎ (HasNew t (operations seen) ⊎ HasNew t (operations ahead)))). widened t (news_sent message) (news b) (Has t start ⊎ (HasNew t (operations seen) ⊎ HasNew t (operations ahead))) r in
      elim (InPath_has laws order (apply b (apply o d)) w (lifted b es) t high on h) [
        | inl on_top ↦ elim (from b (apply o d) t sound.buffer_fits on_top) [
          | inl below ↦ widen (outstanding_held c o start seen ahead message w t before all sound.fits sound.sent (inl below))
          | inr new ↦ inl (Has_right t (news_sent message) (news b) new)
        ]
        | inr later ↦ widen (outstanding_held c o start seen ahead message w t before all sound.fits sound.sent (inr (lifted_news laws order b (apply o d) es t sound.buffer_fits path later)))
      ]

  pub client_fits : (start : List Tagged) (text : List ℕ) (s : State) (c : ℕ) (x : Client) → IsSoundFrom start text s → slice_get s.clients c ≡ Some x
      → FitAll start (take x.revision s.log) × FitAll (apply_entries start (take x.revision s.log)) (drop x.revision s.log)
  client_fits start text s c x sound at = (FitAll_take laws start x.revision s.log sound.fit, FitAll_drop laws start x.revision s.log sound.fit)

  held_known : (start : List Tagged) (text : List ℕ) (s : State) (c : ℕ) (x : Client) (t : Tag) → IsSoundFrom start text s → slice_get s.clients c ≡ Some x
      → Has t (news_pending x) ⊎ (Has t start ⊎ (HasNew t (operations (take x.revision s.log)) ⊎ HasNew t (operations (drop x.revision s.log)))) → IsKnown start s c s.log t
  held_known start text s c x t sound at (inl pending) =
      let facts = pending_tag start text s c x t sound at pending in
      inl (record { client = x; at = at; origin = facts.0; serial = facts.1 })
  held_known start text s c x t sound at (inr (inl first)) = inr (inl first)
  held_known start text s c x t sound at (inr (inr (inl before))) = inr (inr (HasNew_take t x.revision s.log before))
  held_known start text s c x t sound at (inr (inr (inr ahead))) = inr (inr (HasNew_drop t x.revision s.log ahead))

  -- what is in any list that the state leads to, or that was some reader's
  pub vertex_known : (start : List Tagged) (text : List ℕ) (s : State) (owner : ℕ) (w : List Tagged) (t : Tag) → IsSoundFrom start text s → IsVertex start s owner w → Has t w → IsKnown start s owner s.log t
  vertex_known start text s owner w t sound (inl server) h =
      inr (InPath_has laws order start w (operations s.log) t (operations_fit laws start s.log sound.fit) server.1 h)
  vertex_known start text s owner w t sound (inr vertex) h =
      let x = vertex.client in
      let parts = client_fits start text s owner x sound vertex.at in
      let now = sound.clients owner x vertex.at in
      held_known start text s owner x t sound vertex.at (elim vertex.path [
        | inl first ↦ widened t (news_sent x.message) (news_kept x.phase) (Has t start ⊎ (HasNew t (operations (take x.revision s.log)) ⊎ HasNew t (operations (drop x.revision s.log))))
            (first_held owner x.phase start (take x.revision s.log) (drop x.revision s.log) x.list x.message w t parts.0 parts.1 now first h)
        | inr second ↦ second_held owner x.phase start (take x.revision s.log) (drop x.revision s.log) x.list x.message w t parts.0 parts.1 now second h
      ])

  pub member_known : (start : List Tagged) (text : List ℕ) (s : State) (seen : List Seen) (owner : ℕ) (w : List Tagged) (t : Tag) → IsSoundFrom start text s → ((u : Seen) → In u seen → IsSeenSound start s u) → IsMember start s seen owner w → Has t w → IsKnown start s owner s.log t
  member_known start text s seen owner w t sound all (inl vertex) h = vertex_known start text s owner w t sound vertex h
  member_known start text s seen owner w t sound all (inr past) h =
      let u = past.0 in
      let known = (all u past.1).known t (rw past.3 h) in
      subst (λ (k : ℕ). IsKnown start s k s.log t) past.2 (elim known [
        | inl own ↦ inl own
        | inr (inl first) ↦ inr (inl first)
        | inr (inr new) ↦ inr (inr (HasNew_take t u.level s.log new))
      ])
