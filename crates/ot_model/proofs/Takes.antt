-- A take adds one list behind each other client's path, and it keeps the order of all lists.
use Rattle.std.proofs.Common.{◌≡◌, ℕ, ◌<◌, ◌≢◌, List, [], ◌∷◌, ◌++◌, length, take, drop, refl, sym, ap, ◌∙◌, subst, arith, inl, inr, Option, Some, None}
use Rattle.std.proofs.lemmas.Bool.{cases_eq}
use Rattle.std.proofs.lemmas.Option.{slice_get_within}
use Rattle.std.specs.Prelude.{◌⊎◌, slice_get}
use Rattle.ot_model.specs.Operation.{Operation, apply, news, first_after, second_after}
use Rattle.ot_isa.specs.declared.elements.Tag.{Tag}
use Rattle.ot_isa.specs.declared.elements.Tagged.{Tagged}
use Rattle.ot_model.specs.Table.{Phase, NotJoined, Synchronized, AwaitingConfirm, AwaitingWithBuffer, Client, State, Entry, Message}
use Rattle.ot_server.specs.History.{transform_over}
use Rattle.ot_model.specs.Sound.{Fits, apply_entries, FitAll, IsSent, IsPhaseSound, news_pending, news_sent, news_kept, IsSoundFrom}
use Rattle.ot_model.proofs.Algebra.{AlgebraLaws}
use Rattle.ot_model.proofs.Vertices.{Has, PathFits, Apart, IsConsistent, lifted, past_outstanding, InFirst, InSecond, IsVertex, Seen, IsMember, IsOrdered, OrderLaws}
use Rattle.ot_model.proofs.Paths.{past_fits, reached, InPath_push, InPath_reached, past_taken_other, past_taken_landed, taken_reached, landed_reached}
use Rattle.ot_model.proofs.Order.{step_consistent}
use Rattle.ot_model.proofs.Tags.{pending_tag, Has_start}
use Rattle.ot_model.proofs.Clients.{transform_over_fits}
use Rattle.ot_model.proofs.States.{transform_over_news, FitAll_drop}
use Rattle.ot_model.proofs.Known.{member_known, sent_or, Has_left, Has_right}

module _ (laws : AlgebraLaws) (order : OrderLaws) where
  open laws use {first_fits, second_fits, same, first_news, second_news}

  -- a list that has nothing new of the one or nothing new of the other is consistent with what both make
  pub square : (u d : List Tagged) (z e : Operation Tagged) → Fits z d → Fits e d → IsConsistent u (apply z d) → IsConsistent u (apply e d) → Apart u (news z) ⊎ Apart u (news e) → IsConsistent u (apply (second_after z e) (apply z d))
  square u d z e z_fits e_fits with_z with_e (inl apart) =
      rw (same z e d z_fits e_fits)
      (step_consistent laws order u (apply e d) (first_after z e) (first_fits z e d z_fits e_fits) (rw (first_news z e z_fits.rising e_fits.rising (z_fits.base ∙ sym e_fits.base)) apart) with_e)
  square u d z e z_fits e_fits with_z with_e (inr apart) =
      step_consistent laws order u (apply z d) (second_after z e) (second_fits z e d z_fits e_fits) (rw (second_news z e z_fits.rising e_fits.rising (z_fits.base ∙ sym e_fits.base)) apart) with_z

  -- nothing that c has pending stands in another reader's list
  pub apart_pending : (start : List Tagged) (text : List ℕ) (s : State) (seen : List Seen) (c : ℕ) (x : Client) (owner : ℕ) (u : List Tagged) (t : Tag) → IsSoundFrom start text s → IsOrdered start s seen → slice_get s.clients c ≡ Some x → owner ≢ c → IsMember start s seen owner u
      → Has t u → Has t (news_pending x) → ⊥
  apart_pending start text s seen c x owner u t sound ordered at other member h pending =
      let inside : c < length s.clients = slice_get_within s.clients c x at in
      let few = sound.few in
      let p = pending_tag start text s c x t sound at pending in
      let m = p.0 in
      elim (member_known laws order start text s seen owner u t sound ordered.sound member h) [
        | inl own ↦ other (sym own.origin ∙ m)
        | inr (inl first) ↦ let o = Has_start t 0 text (subst (λ (w : List Tagged). Has t w) sound.tagged first) in absurd (omega arith)
        | inr (inr logged) ↦ p.2 logged
      ]

  -- two clients' operations that are not in the log yet: every list so far is consistent with what both make
  pub taken_first : (start : List Tagged) (text : List ℕ) (s : State) (seen : List Seen) (c d : ℕ) (x y : Client) (m o : Operation Tagged) (owner : ℕ) (u : List Tagged) → IsSoundFrom start text s → IsOrdered start s seen → slice_get s.clients c ≡ Some x → slice_get s.clients d ≡ Some y → d ≢ c
      → IsMember start s seen owner u → Fits m s.server → Fits o s.server → ((t : Tag) → Has t (news m) → Has t (news_pending x)) → ((t : Tag) → Has t (news o) → Has t (news_pending y))
      → IsVertex start s c (apply m s.server) → IsVertex start s d (apply o s.server)
      → IsConsistent u (apply (second_after o m) (apply o s.server))
  taken_first start text s seen c d x y m o owner u sound ordered at_c at_d other member m_fits o_fits m_new o_new m_vertex o_vertex =
      square u s.server o m o_fits m_fits (ordered.consistent owner d u (apply o s.server) member (inl o_vertex)) (ordered.consistent owner c u (apply m s.server) member (inl m_vertex))
      (elim (cases_eq owner d) [
        | inl own ↦ inr (λ t h k. apart_pending start text s seen c x owner u t sound ordered at_c (λ e. other (sym own ∙ e)) member h (m_new t k))
        | inr not_own ↦ inl (λ t h k. apart_pending start text s seen d y owner u t sound ordered at_d not_own member h (o_new t k))
      ])

  -- a lifted path, one operation longer
  lifted_more : (z : Operation Tagged) (d : List Tagged) (es : List (Operation Tagged)) (e : Operation Tagged) → Fits z d → PathFits d es
      → (y : Operation Tagged) × (lifted z (es ++ e ∷ []) ≡ lifted z es ++ second_after y e ∷ []) × Fits y (reached d es) × (reached (apply z d) (lifted z es) ≡ apply y (reached d es)) × (news y ≡ news z)
  lifted_more z d [] e fits path = (z, refl, fits, refl, refl)
  lifted_more z d (x ∷ es) e fits path =
      let rest = lifted_more (first_after z x) (apply x d) es e (first_fits z x d fits path.0) path.1 in (
        rest.0,
        ap (λ ys. second_after z x ∷ ys) rest.1,
        rest.2,
        ap (λ (w : List Tagged). reached w (lifted (first_after z x) es)) (same z x d fits path.0) ∙ rest.3,
        rest.4 ∙ first_news z x fits.rising path.0.rising (fits.base ∙ sym path.0.base),
      )

  -- what the taken entry is to a client whose outstanding is o
  record IsTakenPast (u : List Tagged) (d : ℕ) (o : Operation Tagged) (doc : List Tagged) (ahead : List Entry) (e : Entry) : Type 0 where
    next : Operation Tagged
    path : past_outstanding d o (ahead ++ e ∷ []) ≡ past_outstanding d o ahead ++ next ∷ []
    fits : Fits next (reached (apply o doc) (past_outstanding d o ahead))
    inserts : news next ≡ news e.op
    with_next : IsConsistent u (apply next (reached (apply o doc) (past_outstanding d o ahead)))

  taken_past : (start : List Tagged) (s : State) (d : ℕ) (o : Operation Tagged) (seen ahead : List Entry) (message : Option Message) (e : Entry) (u : List Tagged) → e.maker ≢ d → FitAll start seen → FitAll (apply_entries start seen) ahead → Fits o (apply_entries start seen) → IsSent d o start seen ahead message → Fits e.op (apply_entries (apply_entries start seen) ahead)
      → IsConsistent u (apply e.op (apply_entries (apply_entries start seen) ahead))
      → IsConsistent u (reached (apply o (apply_entries start seen)) (past_outstanding d o ahead))
      → Apart u (news_sent message) ⊎ Apart u (news e.op)
      → IsTakenPast u d o (apply_entries start seen) ahead e
  taken_past start s d o seen ahead None e u other before all fits sent e_fits with_e with_o apart =
      let reach = landed_reached laws d o (apply_entries start seen) ahead all fits sent in
      record {
        next = e.op;
        path = past_taken_landed d o ahead e other sent;
        fits = rw reach e_fits;
        inserts = refl;
        with_next = rw reach with_e;
      }
  taken_past start s d o seen ahead (Some m) e u other before all fits sent e_fits with_e with_o apart =
      let doc = apply_entries start seen in
      let reach = taken_reached laws d o doc ahead all fits sent.none in
      let last = transform_over o ahead in
      let with_o_at : IsConsistent u (apply last (apply_entries doc ahead)) = subst (λ (l : List Tagged). IsConsistent u l) reach with_o in
      let last_fits = transform_over_fits laws o doc ahead all fits in
      let rest = FitAll_drop laws start m.revision seen before in
      let same_news : news last ≡ news m.op = transform_over_news laws o doc ahead all fits ∙ ap (λ (a : Operation Tagged). news a) (sym sent.transformed) ∙ transform_over_news laws m.op (apply_entries start (take m.revision seen)) (drop m.revision seen) rest sent.fits in
      record {
        next = second_after last e.op;
        path = past_taken_other d o ahead e other sent.none;
        fits = rw reach (second_fits last e.op (apply_entries doc ahead) last_fits e_fits);
        inserts = second_news last e.op last_fits.rising e_fits.rising (last_fits.base ∙ sym e_fits.base);
        with_next = rw reach (square u (apply_entries doc ahead) last e.op last_fits e_fits (with_o_at) with_e (elim apart [ inl under ↦ inl (rw same_news under) | inr new ↦ inr new ]));
      }

  -- all that another client's paths lead to, once the entry is in the log
  pub taken_phase : (start : List Tagged) (s : State) (d : ℕ) (y : Client) (phase : Phase) (seen ahead : List Entry) (e : Entry) (u w : List Tagged) → e.maker ≢ d → FitAll start seen → FitAll (apply_entries start seen) ahead → IsPhaseSound d phase start seen ahead y.list y.message → Fits e.op (apply_entries (apply_entries start seen) ahead)
      → IsConsistent u (apply e.op (apply_entries (apply_entries start seen) ahead))
      → ((v : List Tagged) → InFirst d v (apply_entries start seen) ahead phase ⊎ InSecond d v (apply_entries start seen) ahead phase → IsConsistent u v)
      → Apart u (news_sent y.message ++ news_kept phase) ⊎ Apart u (news e.op)
      → InFirst d w (apply_entries start seen) (ahead ++ e ∷ []) phase ⊎ InSecond d w (apply_entries start seen) (ahead ++ e ∷ []) phase
      → IsConsistent u w
  taken_phase start s d y NotJoined seen ahead e u w other before all now e_fits with_e olds apart on = elim on [ inl never ↦ absurd never | inr never ↦ absurd never ]
  taken_phase start s d y Synchronized seen ahead e u w other before all now e_fits with_e olds apart on = elim on [ inl never ↦ absurd never | inr never ↦ absurd never ]
  taken_phase start s d y (AwaitingConfirm o) seen ahead e u w other before all now e_fits with_e olds apart (inr second) = absurd second
  taken_phase start s d y (AwaitingConfirm o) seen ahead e u w other before all now e_fits with_e olds apart (inl first) =
      let doc = apply_entries start seen in
      let es = past_outstanding d o ahead in
      let new = taken_past start s d o seen ahead y.message e u other before all now.fits now.sent e_fits with_e (olds (reached (apply o doc) es) (inl (InPath_reached (apply o doc) es)))
      (elim apart [ inl under ↦ inl (λ t h k. under t h (Has_left t (news_sent y.message) [] k)) | inr ins ↦ inr ins ]) in
      elim (InPath_push w (apply o doc) es new.next (rw new.path at first)) [
        | inl old ↦ olds w (inl old)
        | inr is ↦ rw is new.with_next
      ]
  taken_phase start s d y (AwaitingWithBuffer o b) seen ahead e u w other before all now e_fits with_e olds apart on =
      let doc = apply_entries start seen in
      let es = past_outstanding d o ahead in
      let path = past_fits laws d o doc ahead all now.fits (sent_or laws order d o start seen ahead y.message now.sent) in
      let new = taken_past start s d o seen ahead y.message e u other before all now.fits now.sent e_fits with_e (olds (reached (apply o doc) es) (inl (InPath_reached (apply o doc) es)))
      (elim apart [ inl under ↦ inl (λ t h k. under t h (Has_left t (news_sent y.message) (news b) k)) | inr ins ↦ inr ins ]) in
      let more = lifted_more b (apply o doc) es new.next now.buffer_fits path in
      elim on [
        | inl first ↦ elim (InPath_push w (apply o doc) es new.next (rw new.path at first)) [
          | inl old ↦ olds w (inl old)
          | inr is ↦ rw is new.with_next
        ]
        | inr second ↦ elim (InPath_push w (apply b (apply o doc)) (lifted b es) (second_after more.0 new.next) (rw (new.path, more.1) at second)) [
          | inl old ↦ olds w (inr old)
          | inr is ↦ rw (is, more.3) (square u (reached (apply o doc) es) more.0 new.next more.2 new.fits
              (rw more.3 at (olds (reached (apply b (apply o doc)) (lifted b es)) (inr (InPath_reached (apply b (apply o doc)) (lifted b es)))))
              new.with_next
              (elim apart [ inl under ↦ inl (λ t h k. under t h (Has_right t (news_sent y.message) (news b) (rw more.4 at k))) | inr ins ↦ inr (rw new.inserts ins) ]))
        ]
      ]
