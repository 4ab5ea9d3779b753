-- What lists hold after an acknowledgement and a take.
use Rattle.std.proofs.Common.{◌≡◌, ℕ, suc, ◌+◌, ◌-◌, ◌≤◌, List, [], ◌∷◌, ◌++◌, length, take, drop, get_or, refl, sym, ap, ◌∙◌, subst, arith, inl, inr, Option, Some, None, true, false}
use Rattle.std.proofs.lemmas.List.{length_push, take-append-drop, take-append-le, take_all, get_or-set_other, length-drop}
use Rattle.std.proofs.lemmas.Bool.{cases_eq, cases_lt}
use Rattle.std.proofs.lemmas.Option.{same_Some}
use Rattle.std.specs.Prelude.{slice_get, if◌then◌else◌, ◌==◌}
use Rattle.ot_model.specs.Operation.{Operation, apply}
use Rattle.ot_isa.specs.declared.elements.Tagged.{Tagged}
use Rattle.ot_model.specs.Table.{Phase, NotJoined, Synchronized, AwaitingConfirm, AwaitingWithBuffer, is_joined, Client, State, Entry, Message, acknowledged, joined, with_client, taken}
use Rattle.ot_server.specs.History.{transform_over}
use Rattle.ot_model.specs.Sound.{Fits, apply_entries, IsSent, IsUnderway, IsPhaseSound, IsSoundFrom}
use Rattle.ot_model.proofs.Algebra.{AlgebraLaws}
use Rattle.ot_model.proofs.Vertices.{operations}
use Rattle.ot_model.specs.Trace.{EventView}
use Rattle.ot_model.specs.Events.{Count, Ledger, tags}
use Rattle.ot_model.proofs.Knowledge.{logged, with_own, Holds, KeepsBoth, IsBuffered, made_by, sent_by, IsCounted, sees, IsVisible, HoldsFirst, IsContent}
use Rattle.ot_model.proofs.States.{each_after, FitAll_drop, apply_entries-append}
use Rattle.ot_model.proofs.Clients.{apply_entries_push, taken_is}
use Rattle.ot_model.proofs.Keeping.{order_laws}
use Rattle.ot_model.proofs.Paths.{past_none, operations_fit}
use Rattle.ot_model.proofs.Once.{times_new, lifted_times}
use Rattle.ot_model.proofs.Counting.{counted_push_own, counted_push_other, logged_low, logged_high, with_own_same, with_own_other, logged_other, logged_most, entries_size, ledger_taken, ledger_acknowledged}
use Rattle.ot_model.proofs.Merging.{Holds_as}
use Rattle.ot_model.proofs.Holding.{carried_holds}
use Rattle.ot_model.proofs.Delivering.{own_tag_after, room_once}

with_own_as : (c own : ℕ) (f g : ℕ → ℕ) → ((q : ℕ) → f q ≡ g q) → (q : ℕ) → with_own c own f q ≡ with_own c own g q
with_own_as c own f g e q = ap (λ (k : ℕ). if q == c then own else k) (e q)

HoldsFirst_as : (start : List Tagged) (trace : List EventView) (f g : ℕ → ℕ) (d : List Tagged) (phase : Phase) → ((q : ℕ) → f q ≡ g q) → HoldsFirst start trace f d phase → HoldsFirst start trace g d phase
HoldsFirst_as start trace f g d NotJoined e h = tt
HoldsFirst_as start trace f g d Synchronized e h = tt
HoldsFirst_as start trace f g d (AwaitingConfirm o) e h = tt
HoldsFirst_as start trace f g d (AwaitingWithBuffer o b) e h = Holds_as (tags start) trace f g (apply o d) e h

pub record IsAfter (start : List Tagged) (trace : List EventView) (x y : Client) : Type 0 where
  pub revision : y.revision ≡ suc x.revision
  pub list : y.list ≡ x.list
  pub count : y.count ≡ x.count
  pub first : (f : ℕ → ℕ) (d : List Tagged) → HoldsFirst start trace f d y.phase

after_acknowledged : (start : List Tagged) (trace : List EventView) (x y : Client) (phase : Phase) → acknowledged x phase ≡ Some y → IsAfter start trace x y
after_acknowledged start trace x y NotJoined e = absurd (cc)
after_acknowledged start trace x y Synchronized e = absurd (cc)
after_acknowledged start trace x y (AwaitingConfirm o) e = subst (λ (z : Client). IsAfter start trace x z) (same_Some _ y e) (record { revision = refl; list = refl; count = refl; first = λ f d. tt })
after_acknowledged start trace x y (AwaitingWithBuffer o b) e = subst (λ (z : Client). IsAfter start trace x z) (same_Some _ y e) (record { revision = refl; list = refl; count = refl; first = λ f d. tt })

module _ (laws : AlgebraLaws) (keeps_both : KeepsBoth) (start : List Tagged) (text : List ℕ) (trace : List EventView) (past : List EventView) (n : ℕ) (s : State) (l : Ledger) (sound : IsSoundFrom start text s) (told : IsCounted past s l) (seen : IsVisible trace n s l) (content : IsContent start trace s l) where
  -- Acknowledge
  pub content_acknowledged : (c : ℕ) (x y : Client) (h : Entry) → slice_get s.clients c ≡ Some x → slice_get s.log x.revision ≡ Some h → h.maker ≡ c → acknowledged x x.phase ≡ Some y → is_joined x.phase ≡ true → IsContent start trace (with_client s c y) (ledger_acknowledged l c)
  content_acknowledged c x y h at head own is on =
      let m = ledger_acknowledged l c in
      let after = after_acknowledged start trace x y x.phase is in
      let same : (q : ℕ) → sees l c x q ≡ sees m c y q = λ q. elim (cases_eq q c) [
        | inl self ↦
            let a = with_own_same c (made_by l c) (logged l.entries x.revision) in
            let b = with_own_same c (made_by l c) (logged l.entries y.revision) in
            subst (λ (k : ℕ). sees l c x k ≡ sees m c y k) (sym self) (a ∙ sym b)
        | inr other ↦
            let a = with_own_other c (made_by l c) q (logged l.entries x.revision) other in
            let b = with_own_other c (made_by l c) q (logged l.entries y.revision) other in
            let d = logged_other past s l told x.revision q h head (λ e. other (sym e ∙ own)) in
            a ∙ sym d ∙ ap (λ (k : ℕ). logged l.entries k q) (sym after.revision) ∙ sym b
      ] in
      record {
        own = λ r k t below by. let count = after.count in own_tag_after s (with_client s c y) c x y r t at refl (omega arith) (content.own r k t below by);
        causal = content.causal;
        documents = content.documents;
        lists = each_after (λ e z. is_joined z.phase ≡ true → Holds (tags start) trace (sees l e z) z.list) (λ e z. is_joined z.phase ≡ true → Holds (tags start) trace (sees m e z) z.list) s.clients c x y at content.lists
            (λ now. subst (λ (w : List Tagged). Holds (tags start) trace (sees m c y) w) (sym after.list) (Holds_as (tags start) trace (sees l c x) (sees m c y) x.list same (content.lists c x at on)))
            (λ e z away h. h);
        firsts = each_after
            (λ e z. HoldsFirst start trace (with_own e (sent_by l e) (logged l.entries z.revision)) (apply_entries start (take z.revision s.log)) z.phase)
            (λ e z. HoldsFirst start trace (with_own e (sent_by m e) (logged l.entries z.revision)) (apply_entries start (take z.revision s.log)) z.phase)
            s.clients c x y at content.firsts
            (after.first _ _)
            (λ e z away h.
            let e_sent : sent_by l e ≡ sent_by m e = ap (λ (k : ℕ). made_by l e - k) (sym (get_or-set_other l.buffered c e 0 0 away)) in
            subst (λ (k : ℕ). HoldsFirst start trace (with_own e k (logged l.entries z.revision)) (apply_entries start (take z.revision s.log)) z.phase) e_sent h);
      }

  -- Join: the server's list is what lies in the whole log
  pub content_joined : (c : ℕ) (x : Client) → slice_get s.clients c ≡ Some x → is_joined x.phase ≡ false → IsContent start trace (with_client s c (joined s x)) l
  content_joined c x at off =
      let y = joined s x in
      let none = told.idle c x at off in
      let all : take (length s.log) s.log ≡ s.log = take_all (length s.log) s.log (omega arith) in
      let doc : apply_entries start (take (length s.log) s.log) ≡ s.server = ap (apply_entries start) all ∙ sym sound.server in
      let same : (q : ℕ) → logged l.entries (length s.log) q ≡ sees l c y q = λ q. elim (cases_eq q c) [
        | inl self ↦
            let a = with_own_same c (made_by l c) (logged l.entries (length s.log)) in
            let most = logged_most past s l told (length s.log) c in
            let sent = told.sent c in
            subst (λ (k : ℕ). logged l.entries (length s.log) k ≡ sees l c y k) (sym self) (omega arith)
        | inr other ↦ sym (with_own_other c (made_by l c) q (logged l.entries (length s.log)) other)
      ] in
      record {
        own = λ r k t below by. own_tag_after s (with_client s c y) c x y r t at refl (omega arith) (content.own r k t below by);
        causal = content.causal;
        documents = content.documents;
        lists = each_after (λ e z. is_joined z.phase ≡ true → Holds (tags start) trace (sees l e z) z.list) (λ e z. is_joined z.phase ≡ true → Holds (tags start) trace (sees l e z) z.list) s.clients c x y at content.lists
            (λ now. Holds_as (tags start) trace (logged l.entries (length s.log)) (sees l c y) s.server same
            (subst (λ (w : List Tagged). Holds (tags start) trace (logged l.entries (length s.log)) w) doc (content.documents (length s.log) (omega arith))))
            (λ e z away h. h);
        firsts = each_after
            (λ e z. HoldsFirst start trace (with_own e (sent_by l e) (logged l.entries z.revision)) (apply_entries start (take z.revision s.log)) z.phase)
            (λ e z. HoldsFirst start trace (with_own e (sent_by l e) (logged l.entries z.revision)) (apply_entries start (take z.revision s.log)) z.phase)
            s.clients c x y at content.firsts tt (λ e z away h. h);
      }

  -- Take: the operation that lands, and what it makes of the document that its maker has seen
  outstanding_holds : (c : ℕ) (x : Client) (m : Message) (phase : Phase) → slice_get s.clients c ≡ Some x → x.phase ≡ phase → is_joined x.phase ≡ true → x.message ≡ Some m → IsPhaseSound c phase start (take x.revision s.log) (drop x.revision s.log) x.list (Some m)
      → (o : Operation Tagged) × Fits o (apply_entries start (take x.revision s.log)) × IsUnderway c o start (take x.revision s.log) (drop x.revision s.log) m × Holds (tags start) trace (with_own c (sent_by l c) (logged l.entries x.revision)) (apply o (apply_entries start (take x.revision s.log)))
  outstanding_holds c x m NotJoined at is on sent now = absurd (let off = ap is_joined is in cc)
  outstanding_holds c x m Synchronized at is on sent now = absurd (let e = now.message_is in cc)
  outstanding_holds c x m (AwaitingConfirm o) at is on sent now =
      let none : get_or l.buffered c 0 ≡ 0 = subst (λ (p : Phase). IsBuffered p (get_or l.buffered c 0)) is (told.waits c x at) in
      let all : made_by l c ≡ sent_by l c = omega arith in
      (o, now.fits, now.sent, subst (λ (k : ℕ). Holds (tags start) trace (with_own c k (logged l.entries x.revision)) (apply o (apply_entries start (take x.revision s.log)))) all (subst (λ (w : List Tagged). Holds (tags start) trace (sees l c x) w) now.list_is (content.lists c x at on)))
  outstanding_holds c x m (AwaitingWithBuffer o b) at is on sent now =
      (o, now.fits, now.sent, subst (λ (q : Phase). HoldsFirst start trace (with_own c (sent_by l c) (logged l.entries x.revision)) (apply_entries start (take x.revision s.log)) q) is (content.firsts c x at))

  pub content_taken : (c : ℕ) (x : Client) (m : Message) → slice_get s.clients c ≡ Some x → is_joined x.phase ≡ true → x.message ≡ Some m → IsContent start trace (taken s c x (transform_over m.op (drop m.revision s.log))) (ledger_taken l c)
  content_taken c x m at on is =
      let m' = transform_over m.op (drop m.revision s.log) in
      let e : Entry = record { maker = c; op = m' } in
      let k : Count = record { maker = c; edits = sent_by l c } in
      let y : Client = record { revision = x.revision; phase = x.phase; list = x.list; count = x.count; message = None } in
      let log = s.log in
      let w = ledger_taken l c in
      let size = entries_size past s l told in
      let r_in : x.revision ≤ length log = sound.seen c x at in
      let front = take x.revision log in
      let ahead = drop x.revision log in
      let d = apply_entries start front in
      let all = FitAll_drop laws start x.revision log sound.fit in
      let now : IsPhaseSound c x.phase start front ahead x.list (Some m) = rw is at (sound.clients c x at) in
      let found = outstanding_holds c x m x.phase at refl on is now in
      let o = found.0 in
      let under : IsUnderway c o start front ahead m = found.2 in
      let split : front ++ ahead ≡ log = take-append-drop x.revision log in
      let made_is : m' ≡ transform_over o ahead = ap (λ (xs : List Entry). transform_over m.op (drop m.revision xs)) (sym split) ∙ taken_is c o start front ahead m under in
      let is_sent : IsSent c o start front ahead x.message = subst (λ (q : Option Message). IsSent c o start front ahead q) (sym is) under in
      let none = under.none in
      let lands = carried_holds start trace past n s l told seen content laws keeps_both c (sent_by l c) x.revision x o ahead at (omega arith) (omega arith) (omega arith) refl all found.1 none
      (λ t.
      let room = room_once laws start text s c x o t sound at found.1 is_sent in
      let f = ap (times_new t) (past_none c o ahead none) in
      let g = lifted_times laws order_laws o d (operations ahead) t found.1 (operations_fit laws d ahead all) in
      omega arith)
      found.3 in
      let long : length ahead ≡ length log - x.revision = length-drop x.revision log in
      let all_docs : apply_entries d ahead ≡ apply_entries start log = sym (apply_entries-append start front ahead) ∙ ap (apply_entries start) split in
      let last_doc : apply (transform_over o ahead) (apply_entries d ahead) ≡ apply_entries start (log ++ e ∷ []) = ap (apply (transform_over o ahead)) all_docs ∙ ap (λ (a : Operation Tagged). apply a (apply_entries start log)) (sym made_is) ∙ sym (apply_entries_push start log e) in
      let low : (j q : ℕ) → j ≤ length log → logged l.entries j q ≡ logged w.entries j q = λ j q le. sym (logged_low l.entries k j q (omega arith)) in
      let entries_long : length (l.entries ++ k ∷ []) ≡ length l.entries + 1 = length_push l.entries k in
      let log_long : length (log ++ e ∷ []) ≡ length log + 1 = length_push log e in
      record {
        own = λ r i t below by. own_tag_after s (taken s c x m') c x y r t at refl (omega arith) (content.own r i t below by);
        causal = content.causal;
        documents = λ j le. elim (cases_lt (length log) j) [
          | inl beyond ↦
              let whole : take j (log ++ e ∷ []) ≡ log ++ e ∷ [] = take_all j (log ++ e ∷ []) (omega arith) in
              let known : (q : ℕ) → with_own c (sent_by l c) (logged l.entries (x.revision + length ahead)) q ≡ logged w.entries j q = λ q.
              let high = logged_high w.entries j q (omega arith) in
              elim (cases_eq c q) [
                | inl self ↦
                    let a = counted_push_own q 0 l.entries k self in
                    let b = with_own_same c (sent_by l c) (logged l.entries (x.revision + length ahead)) in
                    let f = ap (with_own c (sent_by l c) (logged l.entries (x.revision + length ahead))) self in
                    omega arith
                | inr other ↦
                    let a = counted_push_other q 0 l.entries k other in
                    let b = with_own_other c (sent_by l c) q (logged l.entries (x.revision + length ahead)) (λ f. other (sym f)) in
                    let f = logged_high l.entries (x.revision + length ahead) q (omega arith) in
                    omega arith
              ] in
              subst (λ (v : List Tagged). Holds (tags start) trace (logged w.entries j) v) (last_doc ∙ ap (apply_entries start) (sym whole))
              (Holds_as (tags start) trace (with_own c (sent_by l c) (logged l.entries (x.revision + length ahead))) (logged w.entries j) _ known lands)
          | inr inside ↦
              subst (λ (v : List Tagged). Holds (tags start) trace (logged w.entries j) v) (ap (apply_entries start) (sym (take-append-le j log (e ∷ []) inside)))
              (Holds_as (tags start) trace (logged l.entries j) (logged w.entries j) _ (λ q. low j q inside) (content.documents j inside))
        ];
        lists = each_after (λ i z. (z.revision ≤ length log) × (is_joined z.phase ≡ true → Holds (tags start) trace (sees l i z) z.list)) (λ i z. is_joined z.phase ≡ true → Holds (tags start) trace (sees w i z) z.list) s.clients c x y at (λ i z h. (sound.seen i z h, content.lists i z h))
            (λ now. Holds_as (tags start) trace (sees l c x) (sees w c x) x.list (with_own_as c (made_by l c) (logged l.entries x.revision) (logged w.entries x.revision) (λ q. low x.revision q r_in)) (content.lists c x at on))
            (λ i z away h now. Holds_as (tags start) trace (sees l i z) (sees w i z) z.list (with_own_as i (made_by l i) (logged l.entries z.revision) (logged w.entries z.revision) (λ q. low z.revision q h.0)) (h.1 now));
        firsts = each_after
            (λ i z. (z.revision ≤ length log) × HoldsFirst start trace (with_own i (sent_by l i) (logged l.entries z.revision)) (apply_entries start (take z.revision log)) z.phase)
            (λ i z. HoldsFirst start trace (with_own i (sent_by l i) (logged w.entries z.revision)) (apply_entries start (take z.revision (log ++ e ∷ []))) z.phase)
            s.clients c x y at (λ i z h. (sound.seen i z h, content.firsts i z h))
            (first_as x.revision c x.phase r_in (low x.revision) (content.firsts c x at))
            (λ i z away h. first_as z.revision i z.phase h.0 (low z.revision) h.1);
      }
    where
      first_as : (r i : ℕ) (phase : Phase) → r ≤ length s.log → ((q : ℕ) → r ≤ length s.log → logged l.entries r q ≡ logged (ledger_taken l c).entries r q) → HoldsFirst start trace (with_own i (sent_by l i) (logged l.entries r)) (apply_entries start (take r s.log)) phase
          → HoldsFirst start trace (with_own i (sent_by l i) (logged (ledger_taken l c).entries r)) (apply_entries start (take r (s.log ++ record { maker = c; op = transform_over m.op (drop m.revision s.log) } ∷ []))) phase
      first_as r i phase le low h =
          subst (λ (v : List Tagged). HoldsFirst start trace (with_own i (sent_by l i) (logged (ledger_taken l c).entries r)) v phase) (ap (apply_entries start) (sym (take-append-le r s.log (record { maker = c; op = transform_over m.op (drop m.revision s.log) } ∷ []) le)))
          (HoldsFirst_as start trace (with_own i (sent_by l i) (logged l.entries r)) (with_own i (sent_by l i) (logged (ledger_taken l c).entries r)) (apply_entries start (take r s.log)) phase (with_own_as i (sent_by l i) (logged l.entries r) (logged (ledger_taken l c).entries r) (λ q. low q le)) h)
