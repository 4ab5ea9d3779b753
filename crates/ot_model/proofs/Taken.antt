-- A take keeps one order in all lists.
use Rattle.std.proofs.Common.{◌≡◌, ℕ, ◌<◌, ◌≤◌, ◌≢◌, List, [], ◌∷◌, ◌++◌, length, take, drop, set, refl, sym, ap, ◌∙◌, subst, arith, inl, inr, Some, None, true}
use Rattle.std.proofs.lemmas.List.{take-append-drop, take-append-le, drop-append-le, take-take, length-take-le}
use Rattle.std.proofs.lemmas.Bool.{cases_eq}
use Rattle.std.proofs.lemmas.Option.{slice_get_within, same_Some}
use Rattle.std.specs.Prelude.{◌⊎◌, slice_get}
use Rattle.ot_model.specs.Operation.{Operation, apply, news}
use Rattle.ot_isa.specs.declared.elements.Tag.{Tag}
use Rattle.ot_isa.specs.declared.elements.Tagged.{Tagged}
use Rattle.ot_model.specs.Table.{Phase, NotJoined, Synchronized, AwaitingConfirm, AwaitingWithBuffer, is_joined, Client, State, Entry, Message, taken}
use Rattle.ot_server.specs.History.{transform_over}
use Rattle.ot_model.specs.Sound.{Fits, apply_entries, NoneBy, IsPhaseSound, news_pending, news_sent, news_kept, IsSoundFrom}
use Rattle.ot_model.proofs.Algebra.{AlgebraLaws}
use Rattle.ot_model.proofs.Vertices.{Has, InPath, Apart, IsConsistent, operations, past_outstanding, InFirst, InSecond, IsClientVertex, IsVertex, Seen, IsMember, IsOrdered, OrderLaws}
use Rattle.ot_model.proofs.States.{slice_get-set_same, slice_get-set_other, message_fits, sent_joined, transform_over_news, FitAll_drop, times-append, apply_entries-append}
use Rattle.ot_model.proofs.Clients.{taken_is, FitAll_at}
use Rattle.ot_model.proofs.Paths.{past_fits, past_taken_own, reached, InPath_push, InPath_reached, taken_reached, operations_push, reached-operations}
use Rattle.ot_model.proofs.Order.{lift, IsConsistent_sym}
use Rattle.ot_model.proofs.Lengths.{FitAll_take}
use Rattle.ot_model.proofs.Tags.{pending_tag, Has_start, Has_times, allowance-le}
use Rattle.ot_model.proofs.Known.{vertex_known, first_held, client_fits, sent_or, Has_left, Has_right, HasNew_take, HasNew_drop}
use Rattle.ot_model.proofs.Once.{path_self, phase_self, total_times, document_times, sent_times, times_new, times_new-append}
use Rattle.ot_model.proofs.Ordered.{Grows, seen_grows}
use Rattle.ot_model.proofs.Takes.{apart_pending, taken_phase}

module _ (laws : AlgebraLaws) (order : OrderLaws) where
  open laws use {first_fits, second_fits, same, first_news, second_news}
  open order use {apply_times}

  -- the path of what is outstanding is in one order
  first_self : (start : List Tagged) (text : List ℕ) (s : State) (c : ℕ) (x : Client) (phase : Phase) (u w : List Tagged) → IsSoundFrom start text s → slice_get s.clients c ≡ Some x → x.phase ≡ phase → IsPhaseSound c phase start (take x.revision s.log) (drop x.revision s.log) x.list x.message
      → InFirst c u (apply_entries start (take x.revision s.log)) (drop x.revision s.log) phase → InFirst c w (apply_entries start (take x.revision s.log)) (drop x.revision s.log) phase → IsConsistent u w
  first_self start text s c x NotJoined u w sound at is now on_u on_w = absurd on_u
  first_self start text s c x Synchronized u w sound at is now on_u on_w = absurd on_u
  first_self start text s c x (AwaitingConfirm o) u w sound at is now on_u on_w = phase_self laws order start text s c x (AwaitingConfirm o) u w sound at is now on_u on_w
  first_self start text s c x (AwaitingWithBuffer o b) u w sound at is now on_u on_w =
      let seen = take x.revision s.log in
      let ahead = drop x.revision s.log in
      let d = apply_entries start seen in
      let before = FitAll_take laws start x.revision s.log sound.fit in
      let all = FitAll_drop laws start x.revision s.log sound.fit in
      path_self laws order (apply o d) (past_outstanding c o ahead) u w (past_fits laws c o d ahead all now.fits (sent_or laws order c o start seen ahead x.message now.sent)) (λ t.
      let total = total_times start text s c x t sound at in
      let doc = document_times laws order start seen t before in
      let one = apply_times o d t now.fits in
      let sent = sent_times laws order c o start seen ahead x.message t before all now.fits now.sent in
      let split = ap (λ (l : List Entry). times_new t (operations l)) (sym (take-append-drop x.revision s.log)) ∙ times_new-append t seen ahead in
      let both = times-append t (news_sent x.message) (news_kept x.phase) in
      omega arith) on_u on_w

  -- nothing of the buffer stands on the path of what is outstanding
  apart_buffer : (start : List Tagged) (text : List ℕ) (s : State) (c : ℕ) (x : Client) (u : List Tagged) (t : Tag) → IsSoundFrom start text s → slice_get s.clients c ≡ Some x
      → InFirst c u (apply_entries start (take x.revision s.log)) (drop x.revision s.log) x.phase → Has t u → Has t (news_kept x.phase) → ⊥
  apart_buffer start text s c x u t sound at on h kept =
      let few = sound.few in
      let inside : c < length s.clients = slice_get_within s.clients c x at in
      let parts = client_fits laws order start text s c x sound at in
      let p = pending_tag start text s c x t sound at (Has_right t (news_sent x.message) (news_kept x.phase) kept) in
      let m = p.0 in
      elim (first_held laws order c x.phase start (take x.revision s.log) (drop x.revision s.log) x.list x.message u t parts.0 parts.1 (sound.clients c x at) on h) [
        | inl sent ↦
            let two = Has_times t (news_sent x.message) sent in
            let one = Has_times t (news_kept x.phase) kept in
            let sum = times-append t (news_sent x.message) (news_kept x.phase) in
            let own = sound.own c x at t in
            let most = allowance-le c x.count t in
            absurd (omega arith)
        | inr (inl first) ↦ let o = Has_start t 0 text (subst (λ (l : List Tagged). Has t l) sound.tagged first) in absurd (omega arith)
        | inr (inr (inl before)) ↦ p.2 (HasNew_take t x.revision s.log before)
        | inr (inr (inr ahead)) ↦ p.2 (HasNew_drop t x.revision s.log ahead)
      ]

  first_second : (start : List Tagged) (text : List ℕ) (s : State) (c : ℕ) (x : Client) (phase : Phase) (u w : List Tagged) → IsSoundFrom start text s → slice_get s.clients c ≡ Some x → x.phase ≡ phase → IsPhaseSound c phase start (take x.revision s.log) (drop x.revision s.log) x.list x.message
      → InFirst c u (apply_entries start (take x.revision s.log)) (drop x.revision s.log) phase → InSecond c w (apply_entries start (take x.revision s.log)) (drop x.revision s.log) phase → IsConsistent u w
  first_second start text s c x NotJoined u w sound at is now on_u on_w = absurd on_u
  first_second start text s c x Synchronized u w sound at is now on_u on_w = absurd on_u
  first_second start text s c x (AwaitingConfirm o) u w sound at is now on_u on_w = absurd on_w
  first_second start text s c x (AwaitingWithBuffer o b) u w sound at is now on_u on_w =
      let seen = take x.revision s.log in
      let ahead = drop x.revision s.log in
      let d = apply_entries start seen in
      let all = FitAll_drop laws start x.revision s.log sound.fit in
      let path = past_fits laws c o d ahead all now.fits (sent_or laws order c o start seen ahead x.message now.sent) in
      lift laws order u w (apply o d) b (past_outstanding c o ahead) now.buffer_fits path
      (λ t h k. apart_buffer start text s c x u t sound at (subst (λ (p : Phase). InFirst c u d ahead p) (sym is) on_u) h (subst (λ (p : Phase). Has t (news_kept p)) (sym is) k))
      (λ v on. first_self start text s c x (AwaitingWithBuffer o b) u v sound at is now on_u on)
      on_w

  -- all that one client's paths lead to is in one order
  second_self : (start : List Tagged) (text : List ℕ) (s : State) (c : ℕ) (x : Client) (phase : Phase) (u w : List Tagged) → IsSoundFrom start text s → slice_get s.clients c ≡ Some x → x.phase ≡ phase → IsPhaseSound c phase start (take x.revision s.log) (drop x.revision s.log) x.list x.message
      → InSecond c u (apply_entries start (take x.revision s.log)) (drop x.revision s.log) phase → InSecond c w (apply_entries start (take x.revision s.log)) (drop x.revision s.log) phase → IsConsistent u w
  second_self start text s c x NotJoined u w sound at is now on_u on_w = absurd on_u
  second_self start text s c x Synchronized u w sound at is now on_u on_w = absurd on_u
  second_self start text s c x (AwaitingConfirm o) u w sound at is now on_u on_w = absurd on_u
  second_self start text s c x (AwaitingWithBuffer o b) u w sound at is now on_u on_w = phase_self laws order start text s c x (AwaitingWithBuffer o b) u w sound at is now on_u on_w

  pub own_self : (start : List Tagged) (text : List ℕ) (s : State) (c : ℕ) (u w : List Tagged) → IsSoundFrom start text s → IsClientVertex start s c u → IsClientVertex start s c w → IsConsistent u w
  own_self start text s c u w sound on_u on_w =
      let x = on_u.client in
      let at = on_u.at in
      let now = sound.clients c x at in
      let other = subst (λ (z : Client). InFirst c w (apply_entries start (take z.revision s.log)) (drop z.revision s.log) z.phase ⊎ InSecond c w (apply_entries start (take z.revision s.log)) (drop z.revision s.log) z.phase) (same_Some on_w.client x (sym on_w.at ∙ at)) on_w.path in
      elim on_u.path [
        | inl first ↦ elim other [ inl first' ↦ first_self start text s c x x.phase u w sound at refl now first first' | inr second' ↦ first_second start text s c x x.phase u w sound at refl now first second' ]
        | inr second ↦ elim other [ inl first' ↦ IsConsistent_sym w u (first_second start text s c x x.phase w u sound at refl now first' second) | inr second' ↦ second_self start text s c x x.phase u w sound at refl now second second' ]
      ]

  -- where the maker's path led, the server's list is after the take
  maker_vertex : (start : List Tagged) (text : List ℕ) (s : State) (c : ℕ) (x : Client) (phase : Phase) (m : Message) → IsSoundFrom start text s → slice_get s.clients c ≡ Some x → x.phase ≡ phase → is_joined phase ≡ true → IsPhaseSound c phase start (take x.revision s.log) (drop x.revision s.log) x.list (Some m)
      → IsVertex start s c (apply (transform_over m.op (drop m.revision s.log)) (apply_entries start s.log)) × NoneBy c (drop x.revision s.log)
  maker_vertex start text s c x NotJoined m sound at is on now = absurd (cc)
  maker_vertex start text s c x Synchronized m sound at is on now = absurd (let e = now.message_is in cc)
  maker_vertex start text s c x (AwaitingConfirm o) m sound at is on now =
      let seen = take x.revision s.log in
      let ahead = drop x.revision s.log in
      let d = apply_entries start seen in
      let all = FitAll_drop laws start x.revision s.log sound.fit in
      let split : seen ++ ahead ≡ s.log = take-append-drop x.revision s.log in
      let doc : apply_entries d ahead ≡ apply_entries start s.log = sym (apply_entries-append start seen ahead) ∙ ap (apply_entries start) split in
      let m_is : transform_over m.op (drop m.revision s.log) ≡ transform_over o ahead = ap (λ (l : List Entry). transform_over m.op (drop m.revision l)) (sym split) ∙ taken_is c o start seen ahead m now.sent in
      let reach = taken_reached laws c o d ahead all now.fits now.sent.none in
      let same_list : reached (apply o d) (past_outstanding c o ahead) ≡ apply (transform_over m.op (drop m.revision s.log)) (apply_entries start s.log) = reach ∙ ap (apply (transform_over o ahead)) doc ∙ ap (λ (a : Operation Tagged). apply a (apply_entries start s.log)) (sym m_is) in
      (inr (record { client = x; at = at; path = inl (subst (λ (p : Phase). InFirst c (apply (transform_over m.op (drop m.revision s.log)) (apply_entries start s.log)) d ahead p) (sym is) (subst (λ (w : List Tagged). InPath w (apply o d) (past_outstanding c o ahead)) same_list (InPath_reached (apply o d) (past_outstanding c o ahead)))) }), now.sent.none)
  maker_vertex start text s c x (AwaitingWithBuffer o b) m sound at is on now =
      let seen = take x.revision s.log in
      let ahead = drop x.revision s.log in
      let d = apply_entries start seen in
      let all = FitAll_drop laws start x.revision s.log sound.fit in
      let split : seen ++ ahead ≡ s.log = take-append-drop x.revision s.log in
      let doc : apply_entries d ahead ≡ apply_entries start s.log = sym (apply_entries-append start seen ahead) ∙ ap (apply_entries start) split in
      let m_is : transform_over m.op (drop m.revision s.log) ≡ transform_over o ahead = ap (λ (l : List Entry). transform_over m.op (drop m.revision l)) (sym split) ∙ taken_is c o start seen ahead m now.sent in
      let reach = taken_reached laws c o d ahead all now.fits now.sent.none in
      let same_list : reached (apply o d) (past_outstanding c o ahead) ≡ apply (transform_over m.op (drop m.revision s.log)) (apply_entries start s.log) = reach ∙ ap (apply (transform_over o ahead)) doc ∙ ap (λ (a : Operation Tagged). apply a (apply_entries start s.log)) (sym m_is) in
      (inr (record { client = x; at = at; path = inl (subst (λ (p : Phase). InFirst c (apply (transform_over m.op (drop m.revision s.log)) (apply_entries start s.log)) d ahead p) (sym is) (subst (λ (w : List Tagged). InPath w (apply o d) (past_outstanding c o ahead)) same_list (InPath_reached (apply o d) (past_outstanding c o ahead)))) }), now.sent.none)

  -- the maker's own paths stay
  own_taken : (c : ℕ) (phase : Phase) (d w : List Tagged) (ahead : List Entry) (e : Entry) → e.maker ≡ c → NoneBy c ahead → InFirst c w d (ahead ++ e ∷ []) phase ⊎ InSecond c w d (ahead ++ e ∷ []) phase → InFirst c w d ahead phase ⊎ InSecond c w d ahead phase
  own_taken c NotJoined d w ahead e own none on = on
  own_taken c Synchronized d w ahead e own none on = on
  own_taken c (AwaitingConfirm o) d w ahead e own none (inl first) = inl (rw (past_taken_own c o ahead e own none) at first)
  own_taken c (AwaitingConfirm o) d w ahead e own none (inr second) = absurd second
  own_taken c (AwaitingWithBuffer o b) d w ahead e own none (inl first) = inl (rw (past_taken_own c o ahead e own none) at first)
  own_taken c (AwaitingWithBuffer o b) d w ahead e own none (inr second) = inr (rw (past_taken_own c o ahead e own none) at second)

  -- what is at a state after a take: a member from before, or on another client's path
  taken_vertex : (start : List Tagged) (s : State) (c : ℕ) (x : Client) (m' : Operation Tagged) (a : ℕ) (u : List Tagged) → slice_get s.clients c ≡ Some x → x.revision ≤ length s.log → NoneBy c (drop x.revision s.log) → IsVertex start s c (apply m' (apply_entries start s.log))
      → IsVertex start (taken s c x m') a u → ((k : ℕ) × IsVertex start s k u) ⊎ ((a ≢ c) × IsClientVertex start (taken s c x m') a u)
  taken_vertex start s c x m' a u at le none maker (inl server) =
      let e : Entry = record { maker = c; op = m' } in
      elim (InPath_push u start (operations s.log) m' (rw (operations_push s.log e) at server.1)) [
        | inl old ↦ inl (a, inl (server.0, old))
        | inr is ↦ inl (c, subst (λ (w : List Tagged). IsVertex start s c w) (sym (is ∙ ap (apply m') (reached-operations start s.log))) maker)
      ]
  taken_vertex start s c x m' a u at le none maker (inr vertex) =
      let e : Entry = record { maker = c; op = m' } in
      let y : Client = record { revision = x.revision; phase = x.phase; list = x.list; count = x.count; message = None } in
      elim (cases_eq a c) [
        | inl same_owner ↦
            let is : y ≡ vertex.client = same_Some y vertex.client (sym (slice_get-set_same s.clients c x y at) ∙ ap (λ (n : ℕ). slice_get (set s.clients c y) n) (sym same_owner) ∙ vertex.at) in
            let here = subst (λ (n : ℕ). InFirst n u (apply_entries start (take vertex.client.revision (s.log ++ e ∷ []))) (drop vertex.client.revision (s.log ++ e ∷ [])) vertex.client.phase ⊎ InSecond n u (apply_entries start (take vertex.client.revision (s.log ++ e ∷ []))) (drop vertex.client.revision (s.log ++ e ∷ [])) vertex.client.phase) same_owner vertex.path in
            let mine = subst (λ (z : Client). InFirst c u (apply_entries start (take z.revision (s.log ++ e ∷ []))) (drop z.revision (s.log ++ e ∷ [])) z.phase ⊎ InSecond c u (apply_entries start (take z.revision (s.log ++ e ∷ []))) (drop z.revision (s.log ++ e ∷ [])) z.phase) (sym is) here in
            inl (c, inr (record { client = x; at = at; path = own_taken c x.phase (apply_entries start (take x.revision s.log)) u (drop x.revision s.log) e refl none (rw (take-append-le x.revision s.log (e ∷ []) le, drop-append-le x.revision s.log (e ∷ []) le) at mine) }))
        | inr other ↦ inr (other, vertex)
      ]

  -- a list that the old state is consistent with is consistent with another client's new path
  other_taken : (start : List Tagged) (text : List ℕ) (s : State) (c d : ℕ) (x y : Client) (m' : Operation Tagged) (u w : List Tagged) → IsSoundFrom start text s → d ≢ c → slice_get s.clients d ≡ Some y → Fits m' (apply_entries start s.log)
      → ((k : ℕ) (v : List Tagged) → IsVertex start s k v → IsConsistent u v) → IsConsistent u (apply m' (apply_entries start s.log))
      → Apart u (news_pending y) ⊎ Apart u (news m')
      → InFirst d w (apply_entries start (take y.revision (s.log ++ record { maker = c; op = m' } ∷ []))) (drop y.revision (s.log ++ record { maker = c; op = m' } ∷ [])) y.phase ⊎ InSecond d w (apply_entries start (take y.revision (s.log ++ record { maker = c; op = m' } ∷ []))) (drop y.revision (s.log ++ record { maker = c; op = m' } ∷ [])) y.phase
      → IsConsistent u w
  other_taken start text s c d x y m' u w sound other at_d fits olds with_m apart on =
      let e : Entry = record { maker = c; op = m' } in
      let le : y.revision ≤ length s.log = sound.seen d y at_d in
      let seen = take y.revision s.log in
      let ahead = drop y.revision s.log in
      let doc : apply_entries start s.log ≡ apply_entries (apply_entries start seen) ahead = ap (apply_entries start) (sym (take-append-drop y.revision s.log)) ∙ apply_entries-append start seen ahead in
      taken_phase laws order start s d y y.phase seen ahead e u w (λ p. other (sym p)) (FitAll_take laws start y.revision s.log sound.fit) (FitAll_drop laws start y.revision s.log sound.fit) (sound.clients d y at_d)
      (subst (λ (l : List Tagged). Fits m' l) doc fits) (subst (λ (l : List Tagged). IsConsistent u (apply m' l)) doc with_m)
      (λ v old. olds d v (inr (record { client = y; at = at_d; path = old })))
      apart
      (rw (take-append-le y.revision s.log (e ∷ []) le, drop-append-le y.revision s.log (e ∷ []) le) at on)

  taken_news : (start : List Tagged) (text : List ℕ) (s : State) (c : ℕ) (x : Client) (m : Message) → IsSoundFrom start text s → slice_get s.clients c ≡ Some x → x.message ≡ Some m → news (transform_over m.op (drop m.revision s.log)) ≡ news m.op
  taken_news start text s c x m sound at sent =
      let q = m.revision in
      let seen = take x.revision s.log in
      let len : length seen ≡ x.revision = length-take-le x.revision s.log (sound.seen c x at) in
      let now : IsPhaseSound c x.phase start seen (drop x.revision s.log) x.list (Some m) = rw sent at (sound.clients c x at) in
      let fact = message_fits laws c x.phase start seen (drop x.revision s.log) x.list m (sent_joined start text s c x m sound at sent) now in
      let q_le : q ≤ x.revision = rw len at fact.0 in
      let fits : Fits m.op (apply_entries start (take q s.log)) = rw (take-take q x.revision s.log q_le) at fact.1 in
      transform_over_news laws m.op (apply_entries start (take q s.log)) (drop q s.log) (FitAll_drop laws start q s.log sound.fit) fits

  taken_grows : (s : State) (c : ℕ) (x : Client) (m' : Operation Tagged) → slice_get s.clients c ≡ Some x → Grows s (taken s c x m')
  taken_grows s c x m' at =
      let y : Client = record { revision = x.revision; phase = x.phase; list = x.list; count = x.count; message = None } in
      record {
        more = record { maker = c; op = m' } ∷ [];
        log = refl;
        on = λ d z at_d. elim (cases_eq d c) [
          | inl same_client ↦
              let e : z ≡ x = same_Some z x (sym at_d ∙ ap (λ (n : ℕ). slice_get s.clients n) same_client ∙ at) in
              (y, ap (λ (n : ℕ). slice_get (set s.clients c y) n) same_client ∙ slice_get-set_same s.clients c x y at, rw e (omega arith), rw e (omega arith))
          | inr other ↦ (z, slice_get-set_other s.clients c d y other ∙ at_d, omega arith, omega arith)
        ];
        back = λ d z at_d. elim (cases_eq d c) [
          | inl same_client ↦
              let e : y ≡ z = same_Some y z (sym (slice_get-set_same s.clients c x y at) ∙ ap (λ (n : ℕ). slice_get (set s.clients c y) n) (sym same_client) ∙ at_d) in
              let r : x.revision ≡ z.revision = ap (λ (w : Client). w.revision) e in
              (x, ap (λ (n : ℕ). slice_get s.clients n) same_client ∙ at, omega arith)
          | inr other ↦ (z, sym (slice_get-set_other s.clients c d y other) ∙ at_d, omega arith)
        ];
      }

  -- an old list and a new one
  old_new : (start : List Tagged) (text : List ℕ) (s : State) (seen : List Seen) (c : ℕ) (x : Client) (m : Message) (k b : ℕ) (u v : List Tagged) → IsSoundFrom start text s → slice_get s.clients c ≡ Some x → x.message ≡ Some m → IsOrdered start s seen → Fits (transform_over m.op (drop m.revision s.log)) (apply_entries start s.log)
      → IsMember start s seen k u → b ≢ c → IsClientVertex start (taken s c x (transform_over m.op (drop m.revision s.log))) b v → IsConsistent u v
  old_new start text s seen c x m k b u v sound at sent ordered fits on_u other on_v =
      let m' = transform_over m.op (drop m.revision s.log) in
      let z : Client = record { revision = x.revision; phase = x.phase; list = x.list; count = x.count; message = None } in
      let y = on_v.client in
      let at_b : slice_get s.clients b ≡ Some y = sym (slice_get-set_other s.clients c b z other) ∙ on_v.at in
      let maker = maker_vertex start text s c x x.phase m sound at refl (sent_joined start text s c x m sound at sent) (rw sent at (sound.clients c x at)) in
      let inserts = taken_news start text s c x m sound at sent in
      other_taken start text s c b x y m' u v sound other at_b fits
      (λ n w on. ordered.consistent k n u w on_u (inl on))
      (ordered.consistent k c u (apply m' (apply_entries start s.log)) on_u (inl maker.0))
      (elim (cases_eq k b) [
        | inl own ↦ inr (λ t h new. apart_pending laws order start text s seen c x k u t sound ordered at (λ p. other (sym own ∙ p)) on_u h
            (Has_left t (news_sent x.message) (news_kept x.phase) (rw sent (rw inserts at new))))
        | inr not_own ↦ inl (λ t h new. apart_pending laws order start text s seen b y k u t sound ordered at_b not_own on_u h new)
      ])
      on_v.path

  pub ordered_taken : (start : List Tagged) (text : List ℕ) (s : State) (seen : List Seen) (c : ℕ) (x : Client) (m : Message) → IsSoundFrom start text s → IsSoundFrom start text (taken s c x (transform_over m.op (drop m.revision s.log))) → slice_get s.clients c ≡ Some x → x.message ≡ Some m → IsOrdered start s seen
      → IsOrdered start (taken s c x (transform_over m.op (drop m.revision s.log))) seen
  ordered_taken start text s seen c x m sound sound' at sent ordered =
      let m' = transform_over m.op (drop m.revision s.log) in
      let t = taken s c x m' in
      let fits : Fits m' (apply_entries start s.log) = FitAll_at start s.log (record { maker = c; op = m' }) [] sound'.fit in
      let maker = maker_vertex start text s c x x.phase m sound at refl (sent_joined start text s c x m sound at sent) (rw sent at (sound.clients c x at)) in
      let sorted = (λ (a : ℕ) (u : List Tagged) (on : IsMember start t seen a u). elim on as (λ w. ((k : ℕ) × IsMember start s seen k u) ⊎ ((a ≢ c) × IsClientVertex start t a u)) [
        | inl vertex ↦ elim (taken_vertex start s c x m' a u at (sound.seen c x at) maker.1 maker.0 vertex) [ inl old ↦ inl (old.0, inl old.1) | inr new ↦ inr new ]
        | inr past ↦ inl (a, inr past)
      ]) in
      let by = old_new start text s seen c x m in
      record {
        sound = λ u on. seen_grows start s t u (taken_grows s c x m' at) (ordered.sound u on);
        consistent = λ a b u v on_u on_v. elim (sorted a u on_u) [
          | inl old_u ↦ elim (sorted b v on_v) [
            | inl old_v ↦ ordered.consistent old_u.0 old_v.0 u v old_u.1 old_v.1
            | inr new_v ↦ by old_u.0 b u v sound at sent ordered fits old_u.1 new_v.0 new_v.1
          ]
          | inr new_u ↦ elim (sorted b v on_v) [
            | inl old_v ↦ IsConsistent_sym v u (by old_v.0 a v u sound at sent ordered fits old_v.1 new_u.0 new_u.1)
            | inr new_v ↦ elim (cases_eq a b) [
              | inl same_client ↦ own_self start text t b u v sound' (subst (λ (n : ℕ). IsClientVertex start t n u) same_client new_u.1) new_v.1
              | inr apart ↦
                  let z : Client = record { revision = x.revision; phase = x.phase; list = x.list; count = x.count; message = None } in
                  let y = (new_v.1).client in
                  let at_b : slice_get s.clients b ≡ Some y = sym (slice_get-set_other s.clients c b z new_v.0) ∙ (new_v.1).at in
                  let few = sound'.few in
                  let inside : b < length t.clients = slice_get_within t.clients b y (new_v.1).at in
                  other_taken start text s c b x y m' u v sound new_v.0 at_b fits
                  (λ n w on. IsConsistent_sym w u (by n a w u sound at sent ordered fits (inl on) new_u.0 new_u.1))
                  (IsConsistent_sym (apply m' (apply_entries start s.log)) u (by c a (apply m' (apply_entries start s.log)) u sound at sent ordered fits (inl maker.0) new_u.0 new_u.1))
                  (inl (λ k h new.
                  let p = pending_tag start text t b y k sound' (new_v.1).at new in
                  let o = p.0 in
                  elim (vertex_known laws order start text t a u k sound' (inr new_u.1) h) [
                    | inl own ↦ apart (sym own.origin ∙ o)
                    | inr (inl first) ↦ let f = Has_start k 0 text (subst (λ (l : List Tagged). Has k l) sound'.tagged first) in absurd (omega arith)
                    | inr (inr logged) ↦ p.2 logged
                  ]))
                  (new_v.1).path
            ]
          ]
        ];
      }
