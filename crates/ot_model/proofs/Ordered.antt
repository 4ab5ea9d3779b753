-- One order in all lists, kept by the rows.
use Rattle.std.proofs.Common.{◌≡◌, ℕ, suc, ◌≤◌, ◌≢◌, List, [], ◌∷◌, ◌++◌, length, take, drop, set, refl, sym, ap, ◌∙◌, subst, arith, inl, inr, Option, Some, None, true}
use Rattle.std.proofs.lemmas.List.{take-append-drop, take-append-le, append-nil, length-append}
use Rattle.std.proofs.lemmas.Bool.{cases_eq}
use Rattle.std.proofs.lemmas.Option.{same_Some}
use Rattle.std.specs.Prelude.{◌⊎◌, slice_get}
use Rattle.ot_model.specs.Operation.{Item, Old, New, Operation, apply, news, first_after}
use Rattle.ot_operation.specs.Operation as text
use Rattle.ot_isa.specs.declared.elements.Tag.{Tag}
use Rattle.ot_isa.specs.declared.elements.Tagged.{Tagged}
use Rattle.ot_model.specs.Table.{Phase, NotJoined, Synchronized, AwaitingConfirm, AwaitingWithBuffer, is_joined, Client, State, Entry, Message, with_client, delivered, acknowledged, joined, edited, tag_operation}
use Rattle.ot_isa.specs.Tagging.{tagged_items}
use Rattle.ot_model.specs.Sound.{Fits, apply_entries, FitAll, Lands, IsSent, IsPhaseSound, IsClientSound, news_pending, news_sent, news_kept, IsSoundFrom}
use Rattle.ot_model.proofs.Algebra.{AlgebraLaws}
use Rattle.ot_model.proofs.Vertices.{Has, InPath, lifted, operations, past_outstanding, InFirst, InSecond, IsVertex, Seen, In, IsMember, IsOwnTag, IsKnown, IsSeenSound, IsOrdered, OrderLaws}
use Rattle.ot_model.proofs.States.{slice_get-set_same, slice_get-set_other, drop_entry, take_entry, transform_over_news, FitAll_drop}
use Rattle.ot_model.proofs.Paths.{InFirst_delivered, InSecond_delivered, InFirst_acknowledged, PhaseFits}
use Rattle.ot_model.proofs.Order.{InPath_first}
use Rattle.ot_model.proofs.Clients.{apply_entries_push, FitAll_at, own_head}
use Rattle.ot_model.proofs.Tags.{NewBy, NewBy_right, log_tag, pending_tag}
use Rattle.ot_model.proofs.Known.{document_has, client_fits, Has_left, Has_right}
use Rattle.ot_model.proofs.Edits.{InPath_later, IsFresh, edit_path, edited_consistent}
use Rattle.ot_model.proofs.Once.{phase_self}

-- what every step leaves: a longer log, and clients that are no further back
pub record Grows (s t : State) : Type 0 where
  pub more : List Entry
  pub log : t.log ≡ s.log ++ more
  pub on : (c : ℕ) (x : Client) → slice_get s.clients c ≡ Some x → (y : Client) × (slice_get t.clients c ≡ Some y) × (x.count ≤ y.count) × (x.revision ≤ y.revision)
  pub back : (c : ℕ) (y : Client) → slice_get t.clients c ≡ Some y → (x : Client) × (slice_get s.clients c ≡ Some x) × (x.revision ≤ y.revision)

pub with_client_grows : (s : State) (c : ℕ) (x y : Client) → slice_get s.clients c ≡ Some x → x.count ≤ y.count → x.revision ≤ y.revision → Grows s (with_client s c y)
with_client_grows s c x y at counts revisions =
    record {
      more = [];
      log = sym (append-nil s.log);
      on = λ d z at_d. elim (cases_eq d c) [
        | inl same ↦
            let e : z ≡ x = same_Some z x (sym at_d ∙ ap (λ (n : ℕ). slice_get s.clients n) same ∙ at) in
            (y, ap (λ (n : ℕ). slice_get (set s.clients c y) n) same ∙ slice_get-set_same s.clients c x y at, rw e counts, rw e revisions)
        | inr other ↦ (z, slice_get-set_other s.clients c d y other ∙ at_d, omega arith, omega arith)
      ];
      back = λ d z at_d. elim (cases_eq d c) [
        | inl same ↦
            let e : y ≡ z = same_Some y z (sym (slice_get-set_same s.clients c x y at) ∙ ap (λ (n : ℕ). slice_get (set s.clients c y) n) (sym same) ∙ at_d) in
            (x, ap (λ (n : ℕ). slice_get s.clients n) same ∙ at, rw (← e) revisions)
        | inr other ↦ (z, sym (slice_get-set_other s.clients c d y other) ∙ at_d, omega arith)
      ];
    }

pub seen_grows : (start : List Tagged) (s t : State) (u : Seen) → Grows s t → IsSeenSound start s u → IsSeenSound start t u
seen_grows start s t u grows sound =
    let level_in = sound.level in
    let same : take u.level t.log ≡ take u.level s.log = ap (take u.level) grows.log ∙ take-append-le u.level s.log grows.more level_in in
    record {
      known = λ k h. elim (sound.known k h) [
        | inl own ↦
            let next = grows.on u.owner own.client own.at in
            let low = own.serial in
            let more = next.2 in
            inl (record { client = next.0; at = next.1; origin = own.origin; serial = omega arith })
        | inr (inl first) ↦ inr (inl first)
        | inr (inr logged) ↦ inr (inr (rw same logged))
      ];
      level = rw (grows.log, length-append) (omega arith);
      behind = λ y at. let was = grows.back u.owner y at in let b = sound.behind was.0 was.1 in let r = was.2 in omega arith;
    }

module _ (laws : AlgebraLaws) (order : OrderLaws) where
  open laws use {first_fits, second_fits, same, first_news, second_news}
  open order use {from}

  Lands_by : (c : ℕ) (o : Operation Tagged) (d : List Tagged) (log : List Entry) (t : Tag) → FitAll d log → Fits o d → Lands c o log → Has t (news o) → NewBy c t log
  Lands_by c o d [] t all fits lands h = absurd lands
  Lands_by c o d (e ∷ log) t all fits (inl here) h = inl (here.0, rw here.1 h)
  Lands_by c o d (e ∷ log) t all fits (inr far) h =
      inr (Lands_by c (first_after o e.op) (apply e.op d) log t all.1 (first_fits o e.op d fits all.0) far.1 (rw (first_news o e.op fits.rising all.0.rising (fits.base ∙ sym all.0.base)) h))

  own_tag : (start : List Tagged) (text : List ℕ) (s : State) (c : ℕ) (x : Client) (t : Tag) → IsSoundFrom start text s → slice_get s.clients c ≡ Some x → Has t (news_pending x) ⊎ NewBy c t s.log → IsOwnTag s c t
  own_tag start text s c x t sound at (inl pending) =
      let p = pending_tag start text s c x t sound at pending in
      record { client = x; at = at; origin = p.0; serial = p.1 }
  own_tag start text s c x t sound at (inr by) =
      let p = log_tag start text s c t sound by in
      record { client = p.0; at = p.1; origin = p.2; serial = p.3 }

  -- what a client has outstanding is its own
  outstanding_own : (start : List Tagged) (text : List ℕ) (s : State) (c : ℕ) (x : Client) (o : Operation Tagged) (message : Option Message) (t : Tag) → IsSoundFrom start text s → slice_get s.clients c ≡ Some x → x.message ≡ message → Fits o (apply_entries start (take x.revision s.log)) → IsSent c o start (take x.revision s.log) (drop x.revision s.log) message → Has t (news o)
      → IsOwnTag s c t
  outstanding_own start text s c x o None t sound at is fits sent h =
      let parts = client_fits laws order start text s c x sound at in
      own_tag start text s c x t sound at (inr (subst (NewBy c t) (take-append-drop x.revision s.log) (NewBy_right c t (take x.revision s.log) (drop x.revision s.log) (Lands_by c o (apply_entries start (take x.revision s.log)) (drop x.revision s.log) t parts.1 fits sent h))))
  outstanding_own start text s c x o (Some m) t sound at is fits sent h =
      let parts = client_fits laws order start text s c x sound at in
      let seen = take x.revision s.log in
      let rest = FitAll_drop laws start m.revision seen parts.0 in
      let e : news o ≡ news m.op = ap (λ (a : Operation Tagged). news a) (sym sent.transformed) ∙ transform_over_news laws m.op (apply_entries start (take m.revision seen)) (drop m.revision seen) rest sent.fits in
      let under : Has t (news_sent x.message) = rw is (rw e at h) in
      own_tag start text s c x t sound at (inl (Has_left t (news_sent x.message) (news_kept x.phase) under))

  -- what stands in a client's list is its own, or the start's, or in the log below its revision
  current_known : (start : List Tagged) (text : List ℕ) (s : State) (c : ℕ) (x : Client) (phase : Phase) (t : Tag) → IsSoundFrom start text s → slice_get s.clients c ≡ Some x → x.phase ≡ phase → is_joined phase ≡ true → IsPhaseSound c phase start (take x.revision s.log) (drop x.revision s.log) x.list x.message → Has t x.list
      → IsKnown start s c (take x.revision s.log) t
  current_known start text s c x NotJoined t sound at is on now h = absurd (cc)
  current_known start text s c x Synchronized t sound at is on now h =
      inr (document_has laws order start (take x.revision s.log) t (client_fits laws order start text s c x sound at).0 (rw now.list_is at h))
  current_known start text s c x (AwaitingConfirm o) t sound at is on now h =
      elim (from o (apply_entries start (take x.revision s.log)) t now.fits (rw now.list_is at h)) [
        | inl old ↦ inr (document_has laws order start (take x.revision s.log) t (client_fits laws order start text s c x sound at).0 old)
        | inr new ↦ inl (outstanding_own start text s c x o x.message t sound at refl now.fits now.sent new)
      ]
  current_known start text s c x (AwaitingWithBuffer o b) t sound at is on now h =
      elim (from b (apply o (apply_entries start (take x.revision s.log))) t now.buffer_fits (rw now.list_is at h)) [
        | inl below ↦ elim (from o (apply_entries start (take x.revision s.log)) t now.fits below) [
          | inl old ↦ inr (document_has laws order start (take x.revision s.log) t (client_fits laws order start text s c x sound at).0 old)
          | inr new ↦ inl (outstanding_own start text s c x o x.message t sound at refl now.fits now.sent new)
        ]
        | inr new ↦ inl (own_tag start text s c x t sound at (inl (Has_right t (news_sent x.message) (news_kept x.phase) (subst (λ (p : Phase). Has t (news_kept p)) (sym is) new))))
      ]

  -- a client's list is one that the state leads to
  pub current_vertex : (start : List Tagged) (text : List ℕ) (s : State) (c : ℕ) (x : Client) (phase : Phase) → IsSoundFrom start text s → slice_get s.clients c ≡ Some x → x.phase ≡ phase → is_joined phase ≡ true → IsPhaseSound c phase start (take x.revision s.log) (drop x.revision s.log) x.list x.message
      → (a : ℕ) × IsVertex start s a x.list
  current_vertex start text s c x NotJoined sound at is on now = absurd (cc)
  current_vertex start text s c x Synchronized sound at is on now =
      let d = apply_entries start (take x.revision s.log) in
      (65535, inl (refl, rw now.list_is (subst (λ (w : List Entry). InPath d start (operations w)) (take-append-drop x.revision s.log) (InPath_later laws order d start (take x.revision s.log) (drop x.revision s.log) (InPath_first d (operations (drop x.revision s.log)))))))
  current_vertex start text s c x (AwaitingConfirm o) sound at is on now =
      let d = apply_entries start (take x.revision s.log) in
      let ahead = drop x.revision s.log in
      (c, inr (record { client = x; at = at; path = inl (subst (λ (p : Phase). InFirst c x.list d ahead p) (sym is) (rw now.list_is (InPath_first (apply o d) (past_outstanding c o ahead)))) }))
  current_vertex start text s c x (AwaitingWithBuffer o b) sound at is on now =
      let d = apply_entries start (take x.revision s.log) in
      let ahead = drop x.revision s.log in
      (c, inr (record { client = x; at = at; path = inr (subst (λ (p : Phase). InSecond c x.list d ahead p) (sym is) (rw now.list_is (InPath_first (apply b (apply o d)) (lifted b (past_outstanding c o ahead))))) }))

  -- the past lists and the one that is there now
  pub next_seen : (start : List Tagged) (text : List ℕ) (s t : State) (seen : List Seen) (c : ℕ) (y : Client) → IsSoundFrom start text t → slice_get t.clients c ≡ Some y → is_joined y.phase ≡ true → Grows s t → ((u : Seen) → In u seen → IsSeenSound start s u)
      → (u : Seen) → In u (record { owner = c; level = y.revision; list = y.list } ∷ seen) → IsSeenSound start t u
  next_seen start text s t seen c y sound at on grows all u (inl is) = subst (λ (v : Seen). IsSeenSound start t v) is (record {
    known = λ k h. current_known start text t c y y.phase k sound at refl on (sound.clients c y at) h;
    level = sound.seen c y at;
    behind = λ z at_z. let e : y ≡ z = same_Some y z (sym at ∙ at_z) in rw (← e) (omega arith);
  })
  next_seen start text s t seen c y sound at on grows all u (inr old) = seen_grows start s t u grows (all u old)

  -- a step that leads to no new list
  pub ordered_from : (start : List Tagged) (text : List ℕ) (s t : State) (seen : List Seen) (c : ℕ) (y : Client) → IsSoundFrom start text t → slice_get t.clients c ≡ Some y → is_joined y.phase ≡ true → Grows s t → IsOrdered start s seen
      → ((owner : ℕ) (w : List Tagged) → IsVertex start t owner w → (a : ℕ) × IsVertex start s a w)
      → IsOrdered start t (record { owner = c; level = y.revision; list = y.list } ∷ seen)
  ordered_from start text s t seen c y sound at on grows ordered vertices =
      record {
        sound = next_seen start text s t seen c y sound at on grows ordered.sound;
        consistent = λ a b u v on_u on_v.
            let m = before a u on_u in
            let n = before b v on_v in
            ordered.consistent m.0 n.0 u v m.1 n.1;
      }
    where
      before : (a : ℕ) (u : List Tagged) → IsMember start t (record { owner = c; level = y.revision; list = y.list } ∷ seen) a u → (k : ℕ) × IsMember start s seen k u
      before a u (inl vertex) = let w = vertices a u vertex in (w.0, inl w.1)
      before a u (inr past) = elim past.1 [
        | inl is ↦
            let now = current_vertex start text t c y y.phase sound at refl on (sound.clients c y at) in
            let w = vertices now.0 y.list now.1 in
            let e : y.list ≡ u = ap (λ (v : Seen). v.list) is ∙ past.3 in
            (w.0, inl (subst (λ (l : List Tagged). IsVertex start s w.0 l) e w.1))
        | inr old ↦ (a, inr (past.0, old, past.2, past.3))
      ]

  client_vertices : (start : List Tagged) (s : State) (c : ℕ) (x y : Client) → slice_get s.clients c ≡ Some x
      → ((w : List Tagged) → InFirst c w (apply_entries start (take y.revision s.log)) (drop y.revision s.log) y.phase ⊎ InSecond c w (apply_entries start (take y.revision s.log)) (drop y.revision s.log) y.phase
      → InFirst c w (apply_entries start (take x.revision s.log)) (drop x.revision s.log) x.phase ⊎ InSecond c w (apply_entries start (take x.revision s.log)) (drop x.revision s.log) x.phase)
      → (owner : ℕ) (w : List Tagged) → IsVertex start (with_client s c y) owner w → (a : ℕ) × IsVertex start s a w
  client_vertices start s c x y at path owner w (inl server) = (owner, inl server)
  client_vertices start s c x y at path owner w (inr vertex) = elim (cases_eq owner c) [
    | inl same_owner ↦
        let e : y ≡ vertex.client = same_Some y vertex.client (sym (slice_get-set_same s.clients c x y at) ∙ ap (λ (n : ℕ). slice_get (set s.clients c y) n) (sym same_owner) ∙ vertex.at) in
        let here = subst (λ (n : ℕ). InFirst n w (apply_entries start (take vertex.client.revision s.log)) (drop vertex.client.revision s.log) vertex.client.phase ⊎ InSecond n w (apply_entries start (take vertex.client.revision s.log)) (drop vertex.client.revision s.log) vertex.client.phase) same_owner vertex.path in
        let mine = subst (λ (z : Client). InFirst c w (apply_entries start (take z.revision s.log)) (drop z.revision s.log) z.phase ⊎ InSecond c w (apply_entries start (take z.revision s.log)) (drop z.revision s.log) z.phase) (sym e) here in
        (c, inr (record { client = x; at = at; path = path w mine }))
    | inr other ↦ (owner, inr (record { client = vertex.client; at = sym (slice_get-set_other s.clients c owner y other) ∙ vertex.at; path = vertex.path }))
  ]

  pub phase_fits : (c : ℕ) (phase : Phase) (start : List Tagged) (seen ahead : List Entry) (list : List Tagged) (message : Option Message) → IsPhaseSound c phase start seen ahead list message → PhaseFits (apply_entries start seen) phase
  phase_fits c NotJoined start seen ahead list message now = tt
  phase_fits c Synchronized start seen ahead list message now = tt
  phase_fits c (AwaitingConfirm o) start seen ahead list message now = now.fits
  phase_fits c (AwaitingWithBuffer o b) start seen ahead list message now = (now.fits, now.buffer_fits)

  -- Deliver
  pub ordered_delivered : (start : List Tagged) (text : List ℕ) (s : State) (seen : List Seen) (c : ℕ) (x : Client) (h : Entry) → IsSoundFrom start text s → IsSoundFrom start text (with_client s c (delivered x h.op)) → slice_get s.clients c ≡ Some x → slice_get s.log x.revision ≡ Some h → h.maker ≢ c → is_joined (delivered x h.op).phase ≡ true → IsOrdered start s seen
      → IsOrdered start (with_client s c (delivered x h.op)) (record { owner = c; level = suc x.revision; list = (delivered x h.op).list } ∷ seen)
  ordered_delivered start text s seen c x h sound sound' at head other on ordered =
      let before = take x.revision s.log in
      let ahead = drop (suc x.revision) s.log in
      let now : IsClientSound c start before (h ∷ ahead) x = rw (drop_entry s.log x.revision h head) at (sound.clients c x at) in
      let split : before ++ h ∷ ahead ≡ s.log = ap (λ (xs : List Entry). before ++ xs) (sym (drop_entry s.log x.revision h head)) ∙ take-append-drop x.revision s.log in
      let fits : Fits h.op (apply_entries start before) = FitAll_at start before h ahead (rw (← split) at sound.fit) in
      let all = phase_fits c x.phase start before (h ∷ ahead) x.list x.message now in
      ordered_from start text s (with_client s c (delivered x h.op)) seen c (delivered x h.op) sound' (slice_get-set_same s.clients c x (delivered x h.op) at) on
      (with_client_grows s c x (delivered x h.op) at (omega arith) (omega arith)) ordered
      (client_vertices start s c x (delivered x h.op) at (λ w on_w. elim on_w [
        | inl first ↦ inl (rw (drop_entry s.log x.revision h head) (InFirst_delivered laws c w (apply_entries start before) h ahead x.phase other fits all (rw (take_entry s.log x.revision h head, apply_entries_push) at first)))
        | inr second ↦ inr (rw (drop_entry s.log x.revision h head) (InSecond_delivered laws c w (apply_entries start before) h ahead x.phase other fits all (rw (take_entry s.log x.revision h head, apply_entries_push) at second)))
      ]))

  -- Acknowledge
  acknowledged_path : (start : List Tagged) (c : ℕ) (x y : Client) (phase : Phase) (h : Entry) (before ahead : List Entry) (w : List Tagged) → h.maker ≡ c → IsPhaseSound c phase start before (h ∷ ahead) x.list x.message → acknowledged x phase ≡ Some y
      → InFirst c w (apply h.op (apply_entries start before)) ahead y.phase ⊎ InSecond c w (apply h.op (apply_entries start before)) ahead y.phase
      → InFirst c w (apply_entries start before) (h ∷ ahead) phase ⊎ InSecond c w (apply_entries start before) (h ∷ ahead) phase
  acknowledged_path start c x y NotJoined h before ahead w own now is on = absurd (cc)
  acknowledged_path start c x y Synchronized h before ahead w own now is on = absurd (now.none.0 own)
  acknowledged_path start c x y (AwaitingConfirm o) h before ahead w own now is on =
      let e : Synchronized ≡ y.phase = ap (λ (z : Client). z.phase) (same_Some _ y is) in
      elim (subst (λ (p : Phase). InFirst c w (apply h.op (apply_entries start before)) ahead p ⊎ InSecond c w (apply h.op (apply_entries start before)) ahead p) (sym e) on) [ inl never ↦ absurd never | inr never ↦ absurd never ]
  acknowledged_path start c x y (AwaitingWithBuffer o b) h before ahead w own now is on =
      let e : AwaitingConfirm b ≡ y.phase = ap (λ (z : Client). z.phase) (same_Some _ y is) in
      let facts = own_head laws c o start before ahead x.message h own now.sent in
      elim (subst (λ (p : Phase). InFirst c w (apply h.op (apply_entries start before)) ahead p ⊎ InSecond c w (apply h.op (apply_entries start before)) ahead p) (sym e) on) [
        | inl first ↦ inr (InFirst_acknowledged laws c w (apply_entries start before) o b h ahead own facts.1 facts.2 first)
        | inr never ↦ absurd never
      ]

  pub ordered_acknowledged : (start : List Tagged) (text : List ℕ) (s : State) (seen : List Seen) (c : ℕ) (x y : Client) (h : Entry) → IsSoundFrom start text s → IsSoundFrom start text (with_client s c y) → slice_get s.clients c ≡ Some x → slice_get s.log x.revision ≡ Some h → h.maker ≡ c → acknowledged x x.phase ≡ Some y → y.revision ≡ suc x.revision → y.count ≡ x.count → is_joined y.phase ≡ true → IsOrdered start s seen
      → IsOrdered start (with_client s c y) (record { owner = c; level = y.revision; list = y.list } ∷ seen)
  ordered_acknowledged start text s seen c x y h sound sound' at head own is revision count on ordered =
      let before = take x.revision s.log in
      let ahead = drop (suc x.revision) s.log in
      let now : IsClientSound c start before (h ∷ ahead) x = rw (drop_entry s.log x.revision h head) at (sound.clients c x at) in
      ordered_from start text s (with_client s c y) seen c y sound' (slice_get-set_same s.clients c x y at) on
      (with_client_grows s c x y at (omega arith) (omega arith)) ordered
      (client_vertices start s c x y at (λ w on_w. rw (drop_entry s.log x.revision h head) (acknowledged_path start c x y x.phase h before ahead w own now is (rw (revision, take_entry s.log x.revision h head, apply_entries_push) at on_w))))

  -- Join: the client's list is the server's, and it leads to no other
  pub ordered_joined : (start : List Tagged) (text : List ℕ) (s : State) (seen : List Seen) (c : ℕ) (x : Client) → IsSoundFrom start text s → IsSoundFrom start text (with_client s c (joined s x)) → slice_get s.clients c ≡ Some x → IsOrdered start s seen
      → IsOrdered start (with_client s c (joined s x)) (record { owner = c; level = length s.log; list = s.server } ∷ seen)
  ordered_joined start text s seen c x sound sound' at ordered =
      let y = joined s x in
      let far = sound.seen c x at in
      ordered_from start text s (with_client s c y) seen c y sound' (slice_get-set_same s.clients c x y at) refl
      (with_client_grows s c x y at (omega arith) far) ordered
      (client_vertices start s c x y at (λ w on. elim on [ inl never ↦ absurd never | inr never ↦ absurd never ]))

  -- Edit
  tag_items_fresh : (c k : ℕ) (x : Client) (items : List (Item ℕ)) (t : Tag) → x.count ≤ k → Has t (text.news (tagged_items c k items)) → IsFresh c x t
  tag_items_fresh c k x [] t le h = absurd h
  tag_items_fresh c k x (Old i ∷ items) t le h = tag_items_fresh c k x items t le h
  tag_items_fresh c k x (New ch ∷ items) t le (inl here) =
      record { origin = sym (ap (λ (u : Tag). u.origin) here); serial = rw (← ap (λ (u : Tag). u.serial) here) le }
  tag_items_fresh c k x (New ch ∷ items) t le (inr there) = tag_items_fresh c (suc k) x items t (omega arith) there

  pub ordered_edited : (start : List Tagged) (text : List ℕ) (s : State) (seen : List Seen) (c : ℕ) (x : Client) (op : Operation ℕ) → IsSoundFrom start text s → IsSoundFrom start text (with_client s c (edited x (tag_operation c x.count op))) → slice_get s.clients c ≡ Some x → Fits (tag_operation c x.count op) x.list → is_joined x.phase ≡ true → is_joined (edited x (tag_operation c x.count op)).phase ≡ true → IsOrdered start s seen
      → IsOrdered start (with_client s c (edited x (tag_operation c x.count op))) (record { owner = c; level = x.revision; list = (edited x (tag_operation c x.count op)).list } ∷ seen)
  ordered_edited start text s seen c x op sound sound' at fits was on ordered =
      let o = tag_operation c x.count op in
      let y = edited x o in
      let t = with_client s c y in
      let at' : slice_get t.clients c ≡ Some y = slice_get-set_same s.clients c x y at in
      let fresh = (λ (k : Tag) (h : Has k (news o)). tag_items_fresh c x.count x op.image k (omega arith) h) in
      let path = edit_path laws order start text s c x x.phase o sound at refl was fits fresh (sound.clients c x at) in
      record {
        sound = next_seen start text s t seen c y sound' at' on (with_client_grows s c x y at (omega arith) (omega arith)) ordered.sound;
        consistent = edited_consistent laws order start text s seen c x o path sound at fits fresh ordered
            (λ u w on_u on_w. phase_self laws order start text t c y y.phase u w sound' at' refl (sound'.clients c y at') (path.last u on_u) (path.last w on_w));
      }
