-- What lists hold after a delivery, an acknowledgement and a take.
use Rattle.std.proofs.Common.{◌≡◌, ℕ, suc, ◌+◌, ◌≤◌, ◌≢◌, List, ◌∷◌, take, drop, set, refl, sym, ap, ◌∙◌, subst, arith, inl, inr, Some, true}
use Rattle.std.proofs.lemmas.List.{take-append-drop}
use Rattle.std.proofs.lemmas.Bool.{cases_eq}
use Rattle.std.proofs.lemmas.Option.{same_Some}
use Rattle.std.specs.Prelude.{slice_get}
use Rattle.ot_model.specs.Operation.{Operation, apply, news, first_after, second_after}
use Rattle.ot_isa.specs.declared.elements.Tag.{Tag}
use Rattle.ot_isa.specs.declared.elements.Tagged.{Tagged}
use Rattle.ot_model.specs.Table.{Phase, NotJoined, Synchronized, AwaitingConfirm, AwaitingWithBuffer, is_joined, Client, State, Entry, phase_delivered, against_pending, delivered, with_client}
use Rattle.ot_model.specs.Sound.{Fits, apply_entries, FitAll, IsSent, IsPhaseSound, times, news_sent, news_kept, IsSoundFrom}
use Rattle.ot_model.proofs.Algebra.{AlgebraLaws}
use Rattle.ot_model.proofs.Vertices.{operations, past_outstanding, IsOwnTag}
use Rattle.ot_model.specs.Trace.{EventView}
use Rattle.ot_model.specs.Events.{Ledger, tags}
use Rattle.ot_model.proofs.Knowledge.{logged, with_own, Holds, KeepsBoth, made_by, sent_by, IsCounted, sees, IsVisible, HoldsFirst, IsContent}
use Rattle.ot_model.proofs.States.{each_after, slice_get-set_same, slice_get-set_other, drop_entry, take_entry, times-append, FitAll_drop}
use Rattle.ot_model.proofs.Clients.{apply_entries_push}
use Rattle.ot_model.proofs.Lengths.{FitAll_take}
use Rattle.ot_model.proofs.Keeping.{order_laws, apply_times}
use Rattle.ot_model.proofs.Tags.{Has_times}
use Rattle.ot_model.proofs.Paths.{past_other}
use Rattle.ot_model.proofs.Once.{total_times, document_times, sent_times, times_new, times_new-cons, times_new-append}
use Rattle.ot_model.proofs.Merging.{merge_apply, IsMerge_same, square}
use Rattle.ot_model.proofs.Holding.{joins_own, origin_of, own_few, own_closed, causal_of, past_entry, document_now, document_next}

-- who made a tag, after a client has changed
pub own_tag_after : (s u : State) (c : ℕ) (x y : Client) (r : ℕ) (t : Tag) → slice_get s.clients c ≡ Some x → u.clients ≡ set s.clients c y → x.count ≤ y.count → IsOwnTag s r t → IsOwnTag u r t
own_tag_after s u c x y r t at clients more own =
    elim (cases_eq r c) [
      | inl same ↦
          let is : own.client ≡ x = same_Some own.client x (sym own.at ∙ ap (λ (k : ℕ). slice_get s.clients k) same ∙ at) in
          let low = own.serial in
          let count = ap (λ (z : Client). z.count) is in
          record { client = y; at = ap (λ (k : ℕ). slice_get u.clients k) same ∙ ap (λ (xs : List Client). slice_get xs c) clients ∙ slice_get-set_same s.clients c x y at; origin = own.origin; serial = omega arith }
      | inr other ↦
          record { client = own.client; at = ap (λ (xs : List Client). slice_get xs r) clients ∙ slice_get-set_other s.clients c r y other ∙ own.at; origin = own.origin; serial = own.serial }
    ]

-- nothing of what is pending stands twice
pub room_once : (laws : AlgebraLaws) (start : List Tagged) (text : List ℕ) (s : State) (c : ℕ) (x : Client) (o : Operation Tagged) (t : Tag) → IsSoundFrom start text s → slice_get s.clients c ≡ Some x
    → Fits o (apply_entries start (take x.revision s.log)) → IsSent c o start (take x.revision s.log) (drop x.revision s.log) x.message
    → times t (apply_entries start (take x.revision s.log)) + (times t (news o) + times_new t (past_outstanding c o (drop x.revision s.log))) + times t (news_kept x.phase) ≤ 1
room_once laws start text s c x o t sound at fits is_sent =
    let seen = take x.revision s.log in
    let ahead = drop x.revision s.log in
    let before = FitAll_take laws start x.revision s.log sound.fit in
    let all = FitAll_drop laws start x.revision s.log sound.fit in
    let total = total_times start text s c x t sound at in
    let doc = document_times laws order_laws start seen t before in
    let sent = sent_times laws order_laws c o start seen ahead x.message t before all fits is_sent in
    let split = ap (λ (l : List Entry). times_new t (operations l)) (sym (take-append-drop x.revision s.log)) ∙ times_new-append t seen ahead in
    let both = times-append t (news_sent x.message) (news_kept x.phase) in
    omega arith

module _ (laws : AlgebraLaws) (keeps_both : KeepsBoth) (start : List Tagged) (text : List ℕ) (trace : List EventView) (past : List EventView) (n : ℕ) (s : State) (l : Ledger) (sound : IsSoundFrom start text s) (told : IsCounted past s l) (seen : IsVisible trace n s l) (content : IsContent start trace s l) where
  open laws use {first_fits, second_fits, same, first_news, second_news}

  delivered_phase : (c : ℕ) (x : Client) (h : Entry) (phase : Phase) → slice_get s.clients c ≡ Some x → slice_get s.log x.revision ≡ Some h → h.maker ≢ c → is_joined x.phase ≡ true → x.phase ≡ phase
      → IsPhaseSound c phase start (take x.revision s.log) (drop x.revision s.log) x.list x.message
      → Holds (tags start) trace (with_own c (made_by l c) (logged l.entries (suc x.revision))) (apply (against_pending phase h.op) x.list)
      × HoldsFirst start trace (with_own c (sent_by l c) (logged l.entries (suc x.revision))) (apply h.op (apply_entries start (take x.revision s.log))) (phase_delivered phase h.op)
  delivered_phase c x h NotJoined at head other on is now = absurd (let off = ap is_joined is in cc)
  delivered_phase c x h Synchronized at head other on is now =
      let d = apply_entries start (take x.revision s.log) in
      let mine : Holds (tags start) trace (sees l c x) d = subst (λ (w : List Tagged). Holds (tags start) trace (sees l c x) w) now.list_is (content.lists c x at on) in
      let next = past_entry start trace past n s l told seen content laws keeps_both c (made_by l c) x.revision x h d d (apply h.op d) at (omega arith) (omega arith) (omega arith) head other
      (document_now start trace past n s l told seen content laws keeps_both x.revision h head) mine (document_next start trace past n s l told seen content laws keeps_both x.revision h head) (IsMerge_same d (apply h.op d)) in
      (subst (λ (w : List Tagged). Holds (tags start) trace (with_own c (made_by l c) (logged l.entries (suc x.revision))) (apply h.op w)) (sym now.list_is) next, tt)
  delivered_phase c x h (AwaitingConfirm o) at head other on is now =
      let d = apply_entries start (take x.revision s.log) in
      let ahead = drop (suc x.revision) s.log in
      let split = drop_entry s.log x.revision h head in
      let all : FitAll d (h ∷ ahead) = rw split at (FitAll_drop laws start x.revision s.log sound.fit) in
      let merge = merge_apply laws keeps_both o h.op d now.fits all.0
      (λ t. let room = room_once laws start text s c x o t sound at now.fits now.sent in omega arith)
      (λ t k m. let a = Has_times t d k in let b = Has_times t (news o) m in let room = room_once laws start text s c x o t sound at now.fits now.sent in absurd (omega arith))
      (λ t k m.
      let a = Has_times t d k in
      let b = Has_times t (news h.op) m in
      let room = room_once laws start text s c x o t sound at now.fits now.sent in
      let e = ap (times_new t) (ap (past_outstanding c o) split ∙ past_other c o h ahead other) in
      let sum = times_new-cons t (second_after o h.op) (past_outstanding c (first_after o h.op) ahead) in
      let f = ap (times t) (second_news o h.op now.fits.rising all.0.rising (now.fits.base ∙ sym all.0.base)) in
      absurd (omega arith)) in
      let mine : Holds (tags start) trace (sees l c x) (apply o d) = subst (λ (w : List Tagged). Holds (tags start) trace (sees l c x) w) now.list_is (content.lists c x at on) in
      let next = past_entry start trace past n s l told seen content laws keeps_both c (made_by l c) x.revision x h d (apply o d) (apply (first_after o h.op) (apply h.op d)) at (omega arith) (omega arith) (omega arith) head other
      (document_now start trace past n s l told seen content laws keeps_both x.revision h head) mine (document_next start trace past n s l told seen content laws keeps_both x.revision h head) merge in
      (subst (λ (w : List Tagged). Holds (tags start) trace (with_own c (made_by l c) (logged l.entries (suc x.revision))) w) (sym (ap (apply (second_after o h.op)) now.list_is ∙ same o h.op d now.fits all.0)) next, tt)
  delivered_phase c x h (AwaitingWithBuffer o b) at head other on is now =
      let d = apply_entries start (take x.revision s.log) in
      let r = x.revision in
      let made = made_by l c in
      let sent = sent_by l c in
      let ahead = drop (suc x.revision) s.log in
      let split = drop_entry s.log x.revision h head in
      let all : FitAll d (h ∷ ahead) = rw split at (FitAll_drop laws start x.revision s.log sound.fit) in
      let p = second_after o h.op in
      let p_fits = second_fits o h.op d now.fits all.0 in
      let news_p = second_news o h.op now.fits.rising all.0.rising (now.fits.base ∙ sym all.0.base) in
      let room : (t : Tag) → times t d + (times t (news o) + times t (news h.op)) + times t (news b) ≤ 1 = λ t.
      let most = room_once laws start text s c x o t sound at now.fits now.sent in
      let e = ap (times_new t) (ap (past_outstanding c o) split ∙ past_other c o h ahead other) in
      let sum = times_new-cons t p (past_outstanding c (first_after o h.op) ahead) in
      let f = ap (times t) news_p in
      let kept = ap (λ (q : Phase). times t (news_kept q)) is in
      omega arith in
      let merge = merge_apply laws keeps_both o h.op d now.fits all.0
      (λ t. let most = room t in omega arith)
      (λ t k m. let a = Has_times t d k in let e = Has_times t (news o) m in let most = room t in absurd (omega arith))
      (λ t k m. let a = Has_times t d k in let e = Has_times t (news h.op) m in let most = room t in absurd (omega arith)) in
      let first : Holds (tags start) trace (with_own c sent (logged l.entries r)) (apply o d) = subst (λ (q : Phase). HoldsFirst start trace (with_own c sent (logged l.entries r)) d q) is (content.firsts c x at) in
      let next = past_entry start trace past n s l told seen content laws keeps_both c sent r x h d (apply o d) (apply (first_after o h.op) (apply h.op d)) at (omega arith) (omega arith) (omega arith) head other
      (document_now start trace past n s l told seen content laws keeps_both r h head) first (document_next start trace past n s l told seen content laws keeps_both r h head) merge in
      let od = apply o d in
      let beside : Holds (tags start) trace (with_own c sent (logged l.entries (suc r))) (apply p od) = subst (λ (w : List Tagged). Holds (tags start) trace (with_own c sent (logged l.entries (suc r))) w) (sym (same o h.op d now.fits all.0)) next in
      let mine : Holds (tags start) trace (with_own c made (logged l.entries r)) (apply b od) = subst (λ (w : List Tagged). Holds (tags start) trace (sees l c x) w) now.list_is (content.lists c x at on) in
      let merge_b = merge_apply laws keeps_both b p od now.buffer_fits p_fits
      (λ t. let most = room t in let grows = apply_times o d t now.fits in omega arith)
      (λ t k m. let a = Has_times t od k in let e = Has_times t (news b) m in let most = room t in let grows = apply_times o d t now.fits in absurd (omega arith))
      (λ t k m. let a = Has_times t od k in let e = Has_times t (news p) m in let f = ap (times t) news_p in let most = room t in let grows = apply_times o d t now.fits in absurd (omega arith)) in
      let list = square (tags start) trace (with_own c sent (logged l.entries r)) (with_own c made (logged l.entries r)) (with_own c sent (logged l.entries (suc r))) (with_own c made (logged l.entries (suc r)))
      (joins_own (logged l.entries r) (logged l.entries (suc r)) c sent made (λ q. told.rising q r (suc r) (omega arith)) (omega arith))
      (origin_of start trace past n s l told seen content (with_own c made (logged l.entries (suc r))) (λ q. own_few start trace past n s l told seen content c made (suc r) q (omega arith)))
      od (apply b od) (apply p od) (apply (first_after b p) (apply p od))
      (causal_of start trace past n s l told seen content (with_own c made (logged l.entries r)) (λ q. own_few start trace past n s l told seen content c made r q (omega arith)) (own_closed start trace past n s l told seen content c made r x at (omega arith) (omega arith) (omega arith)))
      (causal_of start trace past n s l told seen content (with_own c sent (logged l.entries (suc r))) (λ q. own_few start trace past n s l told seen content c sent (suc r) q (omega arith)) (own_closed start trace past n s l told seen content c sent (suc r) x at (omega arith) (omega arith) (omega arith)))
      first mine beside merge_b in
      (subst (λ (w : List Tagged). Holds (tags start) trace (with_own c made (logged l.entries (suc r))) w) (sym (ap (apply (second_after b p)) now.list_is ∙ same b p od now.buffer_fits p_fits)) list, next)

  -- Deliver
  pub content_delivered : (c : ℕ) (x : Client) (h : Entry) → slice_get s.clients c ≡ Some x → slice_get s.log x.revision ≡ Some h → h.maker ≢ c → is_joined x.phase ≡ true → IsContent start trace (with_client s c (delivered x h.op)) l
  content_delivered c x h at head other on =
      let y = delivered x h.op in
      let both = delivered_phase c x h x.phase at head other on refl (sound.clients c x at) in
      let doc : apply_entries start (take (suc x.revision) s.log) ≡ apply h.op (apply_entries start (take x.revision s.log)) = ap (apply_entries start) (take_entry s.log x.revision h head) ∙ apply_entries_push start (take x.revision s.log) h in
      record {
        own = λ r k t below by. own_tag_after s (with_client s c y) c x y r t at refl (omega arith) (content.own r k t below by);
        causal = content.causal;
        documents = content.documents;
        lists = each_after (λ e z. is_joined z.phase ≡ true → Holds (tags start) trace (sees l e z) z.list) (λ e z. is_joined z.phase ≡ true → Holds (tags start) trace (sees l e z) z.list) s.clients c x y at content.lists (λ now. both.0) (λ e z away h. h);
        firsts = each_after
            (λ e z. HoldsFirst start trace (with_own e (sent_by l e) (logged l.entries z.revision)) (apply_entries start (take z.revision s.log)) z.phase)
            (λ e z. HoldsFirst start trace (with_own e (sent_by l e) (logged l.entries z.revision)) (apply_entries start (take z.revision s.log)) z.phase)
            s.clients c x y at content.firsts
            (subst (λ (w : List Tagged). HoldsFirst start trace (with_own c (sent_by l c) (logged l.entries (suc x.revision))) w (phase_delivered x.phase h.op)) (sym doc) both.1)
            (λ e z away h. h);
      }
