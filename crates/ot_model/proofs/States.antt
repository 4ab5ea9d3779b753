-- A sound state: what each row leaves of it.
use Rattle.std.proofs.Common.{◌≡◌, ℕ, zero, suc, ◌+◌, ◌<◌, ◌≤◌, ◌≢◌, List, [], ◌∷◌, ◌++◌, length, take, drop, set, get_or, refl, sym, ap, ◌∙◌, subst, arith, inl, inr, Option, Some, None, append_assoc, length-append, length-set, Bool, true, false, ltb, add-zero, ◌&&◌}
use Rattle.std.proofs.lemmas.List.{take-append-le, drop-append-le, length_push, append-nil, take-append-drop, length-take-le, take-take, take_all, drop_all}
use Rattle.std.proofs.lemmas.Option.{slice_get_within, get_or_from_slice_get, same_Some}
use Rattle.std.proofs.lemmas.List.Elements.{All-push}
use Rattle.std.proofs.lemmas.Bool.{cases_eq, cond-true, cond-false, eq-eqb, ne_eqb}
use Rattle.std.proofs.lemmas.Bool.Decides.{nat_tests}
use Rattle.std.proofs.lemmas.List.Sums.{sum_by-set, sum_by_push, sum_by-append, sum_by-cons}
use Rattle.std.specs.Prelude.{slice_get, sum_by, cond, if◌then◌else◌, ◌==◌}
use Rattle.ot_operation.specs.Operation as text
use Rattle.ot_model.specs.Operation.{Item, Old, New, Operation, IsOperation, apply, compose, inserted, news, RisesFrom, first_after, second_after}
use Rattle.ot_model.specs.Table.{Phase, NotJoined, Synchronized, AwaitingConfirm, AwaitingWithBuffer, is_joined, Client, State, Entry, Message, phase_edited, message_edited, phase_delivered, edited, delivered, acknowledged, joined, with_client, taken, tag_operation}
use Rattle.ot_isa.specs.declared.elements.Tag.{Tag}
use Rattle.ot_isa.specs.declared.elements.Tagged.{Tagged}
use Rattle.ot_server.specs.History.{transform_over}
use Rattle.ot_isa.specs.Tagging.{tagged_items}
use Rattle.ot_isa.specs.Tagging.{tagged_char}
use Rattle.ot_model.specs.Sound.{Fits, apply_entries, FitAll, IsBufferSound, IsPhaseSound, IsClientSound, news_sent, news_kept, news_pending, IsAbsentSound, IsOwn, allowance, has_tag, times, news_by, pending, inserted_in, IsSoundFrom}
use Rattle.ot_model.proofs.Algebra.{AlgebraLaws}
use Rattle.ot_model.proofs.Clients.{apply_entries_push, FitAll_push, FitAll_at, NoneBy_push, IsClientSound_acknowledged, IsPhaseSound_delivered, IsPhaseSound_edited, IsPhaseSound_taken, IsPhaseSound_push, transform_over_fits}

-- the element at a place after a write
pub slice_get-set_same : {X : Type 0} (xs : List X) (i : ℕ) (x y : X) → slice_get xs i ≡ Some x → slice_get (set xs i y) i ≡ Some y
slice_get-set_same [] i x y e = absurd (cc)
slice_get-set_same (z ∷ xs) zero x y e = refl
slice_get-set_same (z ∷ xs) (suc i) x y e = slice_get-set_same xs i x y e

pub slice_get-set_other : {X : Type 0} (xs : List X) (i j : ℕ) (y : X) → j ≢ i → slice_get (set xs i y) j ≡ slice_get xs j
slice_get-set_other [] i j y other = refl
slice_get-set_other (z ∷ xs) zero zero y other = absurd (other refl)
slice_get-set_other (z ∷ xs) zero (suc j) y other = refl
slice_get-set_other (z ∷ xs) (suc i) zero y other = refl
slice_get-set_other (z ∷ xs) (suc i) (suc j) y other = slice_get-set_other xs i j y (λ e. other (ap suc e))

-- what holds of each client after a write: the new one at its place, and each other as it was
pub each_after : {X : Type 0} (P Q : ℕ → X → Type 0) (xs : List X) (c : ℕ) (x y : X) → slice_get xs c ≡ Some x
    → ((d : ℕ) (z : X) → slice_get xs d ≡ Some z → P d z) → Q c y → ((d : ℕ) (z : X) → d ≢ c → P d z → Q d z)
    → (d : ℕ) (z : X) → slice_get (set xs c y) d ≡ Some z → Q d z
each_after {X = X} P Q xs c x y at all here others d z e =
    elim (cases_eq d c) [
      | inl same ↦
          let found : slice_get (set xs c y) c ≡ Some z = rw same at e in
          let now : y ≡ z = same_Some y z (sym (slice_get-set_same xs c x y at) ∙ found) in
          subst (λ (k : ℕ). Q k z) (sym same) (subst (λ (w : X). Q c w) now here)
      | inr other ↦ others d z other (all d z (sym (slice_get-set_other xs c d y other) ∙ e))
    ]

-- the entry at a place, between those before it and those behind
pub drop_entry : {X : Type 0} (xs : List X) (i : ℕ) (x : X) → slice_get xs i ≡ Some x → drop i xs ≡ x ∷ drop (suc i) xs
drop_entry [] i x e = absurd (cc)
drop_entry (z ∷ xs) zero x e = ap (λ w. w ∷ xs) (same_Some z x e)
drop_entry (z ∷ xs) (suc i) x e = drop_entry xs i x e

pub take_entry : {X : Type 0} (xs : List X) (i : ℕ) (x : X) → slice_get xs i ≡ Some x → take (suc i) xs ≡ take i xs ++ x ∷ []
take_entry [] i x e = absurd (cc)
take_entry (z ∷ xs) zero x e = ap (λ w. w ∷ []) (same_Some z x e)
take_entry {X = X} (z ∷ xs) (suc i) x e = ap (λ (ws : List X). z ∷ ws) (take_entry xs i x e)

-- what a row that keeps the log has to leave of its client
pub record IsKept (c : ℕ) (start : List Tagged) (log : List Entry) (x y : Client) : Type 0 where
  pub seen : y.revision ≤ length log
  pub sound : IsClientSound c start (take y.revision log) (drop y.revision log) y
  pub own : IsOwn c log y
  pub count : y.count ≤ 15000
  pub room : pending y + x.count ≤ pending x + y.count
  pub joined : is_joined y.phase ≡ true

-- clients that are joined, and clients that are not
pub joined_absent : (c : ℕ) (log : List Entry) (x : Client) → is_joined x.phase ≡ true → IsAbsentSound c log x
joined_absent c log x on e = absurd (let off = ap is_joined e in cc)

pub not_joined : (phase : Phase) → is_joined phase ≡ false → phase ≡ NotJoined
not_joined NotJoined e = refl
not_joined Synchronized e = absurd (cc)
not_joined (AwaitingConfirm o) e = absurd (cc)
not_joined (AwaitingWithBuffer o b) e = absurd (cc)

pub joined_edited : (phase : Phase) (op : Operation Tagged) → is_joined phase ≡ true → is_joined (phase_edited phase op) ≡ true
joined_edited NotJoined op on = on
joined_edited Synchronized op on = refl
joined_edited (AwaitingConfirm o) op on = refl
joined_edited (AwaitingWithBuffer o b) op on = refl

pub joined_delivered : (phase : Phase) (h : Operation Tagged) → is_joined phase ≡ true → is_joined (phase_delivered phase h) ≡ true
joined_delivered NotJoined h on = on
joined_delivered Synchronized h on = refl
joined_delivered (AwaitingConfirm o) h on = refl
joined_delivered (AwaitingWithBuffer o b) h on = refl

-- a client with a message is joined
joined_phase : (c : ℕ) (log : List Entry) (x : Client) (phase : Phase) (m : Message) → x.phase ≡ phase → IsAbsentSound c log x → x.message ≡ Some m → is_joined phase ≡ true
joined_phase c log x NotJoined m is absents sent = absurd (let none = ap (λ (z : Client). z.message) (absents is).0 in cc)
joined_phase c log x Synchronized m is absents sent = refl
joined_phase c log x (AwaitingConfirm o) m is absents sent = refl
joined_phase c log x (AwaitingWithBuffer o b) m is absents sent = refl

pub sent_joined : (start : List Tagged) (text : List ℕ) (s : State) (c : ℕ) (x : Client) (m : Message) → IsSoundFrom start text s → slice_get s.clients c ≡ Some x → x.message ≡ Some m → is_joined x.phase ≡ true
sent_joined start text s c x m sound at sent = joined_phase c s.log x x.phase m refl (sound.absents c x at) sent

pub apply_entries-append : (d : List Tagged) (xs ys : List Entry) → apply_entries d (xs ++ ys) ≡ apply_entries (apply_entries d xs) ys
apply_entries-append d [] ys = refl
apply_entries-append d (h ∷ xs) ys = apply_entries-append (apply h.op d) xs ys

if-append : (b : Bool) (xs ys zs : List Tagged) → (if b then xs ++ (ys ++ zs) else (ys ++ zs)) ≡ (if b then xs ++ ys else ys) ++ zs
if-append true xs ys zs = sym (append_assoc xs ys zs)
if-append false xs ys zs = refl

pub news_by-append : (c : ℕ) (xs ys : List Entry) → news_by c (xs ++ ys) ≡ news_by c xs ++ news_by c ys
news_by-append c [] ys = refl
news_by-append c (h ∷ xs) ys = rw (news_by-append c xs ys) (if-append (h.maker == c) (news h.op) (news_by c xs) (news_by c ys))

pub news_by_push_own : (c : ℕ) (log : List Entry) (m : Operation Tagged) → news_by c (log ++ record { maker = c; op = m } ∷ []) ≡ news_by c log ++ news m
news_by_push_own c log m =
    news_by-append c log (record { maker = c; op = m } ∷ []) ∙ ap (λ (xs : List Tagged). news_by c log ++ xs) (cond-true (c == c) (news m ++ []) [] (eq-eqb c c refl) ∙ append-nil (news m))

pub news_by_push_other : (c d : ℕ) (log : List Entry) (m : Operation Tagged) → d ≢ c → news_by d (log ++ record { maker = c; op = m } ∷ []) ≡ news_by d log
news_by_push_other c d log m other =
    news_by-append d log (record { maker = c; op = m } ∷ []) ∙ ap (λ (xs : List Tagged). news_by d log ++ xs) (cond-false (c == d) (news m ++ []) [] (ne_eqb c d (λ e. other (sym e)))) ∙ append-nil (news_by d log)

pub times-append : (t : Tag) (xs ys : List Tagged) → times t (xs ++ ys) ≡ times t xs + times t ys
times-append t xs ys = sum_by-append (λ x. cond (has_tag t x) 1 0) xs ys

moved : (n n' p p' m k a : ℕ) → n' ≡ n + m → p ≡ m + k → p' ≡ k → n + p ≤ a → n' + p' ≤ a
moved n n' p p' m k a e f g h = omega arith

room_moved : (i i' a a' b b' x p q m k : ℕ) → i + a ≤ b → i' ≡ i + m → p ≡ m + k → q ≡ k → a' + p ≡ a + q → b' + x ≡ b + x → i' + a' ≤ b'
room_moved i i' a a' b b' x p q m k h e f g u v = omega arith

pub RisesFrom-tag_items : (c k low base : ℕ) (items : List (Item ℕ)) → RisesFrom low base items → RisesFrom low base (tagged_items c k items)
RisesFrom-tag_items c k low base [] rising = tt
RisesFrom-tag_items c k low base (Old i ∷ items) rising = (rising.0, rising.1, RisesFrom-tag_items c k (suc i) base items rising.2)
RisesFrom-tag_items c k low base (New ch ∷ items) rising = RisesFrom-tag_items c (suc k) low base items rising

pub length-news-tag_items : (c k : ℕ) (items : List (Item ℕ)) → length (text.news (tagged_items c k items)) ≡ length (text.news items)
length-news-tag_items c k [] = refl
length-news-tag_items c k (Old i ∷ items) = length-news-tag_items c k items
length-news-tag_items c k (New ch ∷ items) = ap suc (length-news-tag_items c (suc k) items)

one_more : (b : Bool) (n k : ℕ) → (if b && ltb n k then 1 else 0) + cond (b && (n == k)) 1 0 ≡ (if b && ltb n (suc k) then 1 else 0)
one_more true n k = grind (arith, nat_tests)
one_more false n k = refl

pub allowance_more : (t : Tag) (c k ch : ℕ) → allowance c k t + cond (has_tag t (tagged_char c k ch)) 1 0 ≡ allowance c (suc k) t
allowance_more t c k ch = one_more (t.origin == c) t.serial k

times-tag_items : (t : Tag) (c k : ℕ) (items : List (Item ℕ)) → allowance c k t + times t (text.news (tagged_items c k items)) ≡ allowance c (k + length (text.news items)) t
times-tag_items t c k [] = rw (add-zero, add-zero)
times-tag_items t c k (Old i ∷ items) = times-tag_items t c k items
times-tag_items t c k (New ch ∷ items) =
    let rest = text.news (tagged_items c (suc k) items) in
    let first : times t (tagged_char c k ch ∷ rest) ≡ cond (has_tag t (tagged_char c k ch)) 1 0 + times t rest = sum_by-cons (λ x. cond (has_tag t x) 1 0) (tagged_char c k ch) rest in
    let n = length (text.news items) in
    let same : k + suc n ≡ suc k + n = omega arith in
    rw (first, same, ← times-tag_items t c (suc k) items, ← allowance_more t c k ch) (omega arith)

own_after : (n p p' w a a' : ℕ) → n + p ≤ a → p' ≤ p + w → a + w ≡ a' → n + p' ≤ a'
own_after n p p' w a a' h f g = omega arith

count_after : (p p' w k : ℕ) → p' ≤ p + w → p' + k ≤ p + (k + w)
count_after p p' w k h = omega arith

same_room : (p q : List Tagged) (m n : ℕ) → p ≡ q → m ≡ n → length p + n ≤ length q + m
same_room p q m n e f = let l : length p ≡ length q = ap length e in omega arith

room_after : (i a a' b b' x y p q : ℕ) → i + a ≤ b → a' + x ≡ a + y → b' + p ≡ b + q → y + p ≤ x + q → i + a' ≤ b'
room_after i a a' b b' x y p q h e f k = omega arith

-- a client changed by what keeps it sound, after n steps
pub client_changed_sound : (start : List Tagged) (text : List ℕ) (s : State) (c : ℕ) (x y : Client) (n : ℕ) → IsSoundFrom start text s → length s.log ≤ n → n ≤ 1000000 → slice_get s.clients c ≡ Some x → IsKept c start s.log x y
    → IsSoundFrom start text (record { log = s.log; server = s.server; clients = set s.clients c y; steps = n })
client_changed_sound start text s c x y n sound logged steps at kept =
    let inside : c < length s.clients = slice_get_within s.clients c x at in
    let was : get_or s.clients c x ≡ x = get_or_from_slice_get s.clients c x x at in
    let pendings : sum_by pending (set s.clients c y) + pending x ≡ sum_by pending s.clients + pending y = rw was at (sum_by-set pending s.clients c y x inside) in
    let counts : sum_by (λ z. z.count) (set s.clients c y) + x.count ≡ sum_by (λ z. z.count) s.clients + y.count = rw was at (sum_by-set (λ (z : Client). z.count) s.clients c y x inside) in
    record {
      tagged = sound.tagged;
      short = sound.short;
      few = rw length-set sound.few;
      fit = sound.fit;
      server = sound.server;
      makers = rw length-set sound.makers;
      seen = each_after (λ d z. z.revision ≤ length s.log) (λ d z. z.revision ≤ length s.log) s.clients c x y at sound.seen kept.seen (λ d z other h. h);
      clients = each_after (λ d z. IsClientSound d start (take z.revision s.log) (drop z.revision s.log) z) (λ d z. IsClientSound d start (take z.revision s.log) (drop z.revision s.log) z) s.clients c x y at sound.clients kept.sound (λ d z other h. h);
      absents = each_after (λ d z. IsAbsentSound d s.log z) (λ d z. IsAbsentSound d s.log z) s.clients c x y at sound.absents (joined_absent c s.log y kept.joined) (λ d z other h. h);
      own = each_after (λ d z. IsOwn d s.log z) (λ d z. IsOwn d s.log z) s.clients c x y at sound.own kept.own (λ d z other h. h);
      counts = each_after (λ d z. z.count ≤ 15000) (λ d z. z.count ≤ 15000) s.clients c x y at sound.counts kept.count (λ d z other h. h);
      room = room_after _ _ _ _ _ _ _ _ _ sound.room pendings counts kept.room;
      logged = logged;
      steps = steps;
    }

pub with_client_sound : (start : List Tagged) (text : List ℕ) (s : State) (c : ℕ) (x y : Client) → IsSoundFrom start text s → s.steps < 1000000 → slice_get s.clients c ≡ Some x → IsKept c start s.log x y → IsSoundFrom start text (with_client s c y)
with_client_sound start text s c x y sound below at kept =
    let logged = sound.logged in
    client_changed_sound start text s c x y (suc s.steps) sound (omega arith) (omega arith) at kept

-- Join: the client stands where the server stands
pub joined_kept : (start : List Tagged) (text : List ℕ) (s : State) (c : ℕ) (x : Client) → IsSoundFrom start text s → slice_get s.clients c ≡ Some x → is_joined x.phase ≡ false → IsKept c start s.log x (joined s x)
joined_kept start text s c x sound at off =
    let is = not_joined x.phase off in
    let none : x.message ≡ None = ap (λ (z : Client). z.message) (sound.absents c x at is).0 in
    let pendings : news_pending (joined s x) ≡ news_pending x = ap (λ (p : Phase). news_sent x.message ++ news_kept p) (sym is) in
    let le : length s.log ≤ length s.log = omega arith in
    record {
      seen = le;
      sound = rw (take_all (length s.log) s.log le, drop_all (length s.log) s.log le) (record { list_is = sound.server; message_is = none; none = tt });
      own = λ t. rw pendings (sound.own c x at t);
      count = sound.counts c x at;
      room = same_room (news_pending (joined s x)) (news_pending x) x.count x.count pendings refl;
      joined = refl;
    }

module _ (laws : AlgebraLaws) where
  open laws use {first_fits, second_fits, first_news, second_news}

  -- Acknowledge
  pub acknowledged_kept : (start : List Tagged) (text : List ℕ) (s : State) (c : ℕ) (x : Client) (h : Entry) → IsSoundFrom start text s → slice_get s.clients c ≡ Some x → slice_get s.log x.revision ≡ Some h → h.maker ≡ c → is_joined x.phase ≡ true
      → (y : Client) × (acknowledged x x.phase ≡ Some y) × IsKept c start s.log x y
  acknowledged_kept start text s c x h sound at head own on =
      let within : x.revision < length s.log = slice_get_within s.log x.revision h head in
      let len : length (take x.revision s.log) ≡ x.revision = length-take-le x.revision s.log (omega arith) in
      let now : IsClientSound c start (take x.revision s.log) (h ∷ drop (suc x.revision) s.log) x = rw (drop_entry s.log x.revision h head) at (sound.clients c x at) in
      let result = IsClientSound_acknowledged laws c x.phase start (take x.revision s.log) (drop (suc x.revision) s.log) x h own on len now in
      let y = result.0 in (
        y,
        result.1,
        record {
          seen = rw result.4 within;
          sound = rw (result.4, take_entry s.log x.revision h head) result.2;
          own = λ t. rw (result.6, result.5) (sound.own c x at t);
          count = rw result.5 (sound.counts c x at);
          room = same_room (news_pending y) (news_pending x) y.count x.count result.6 result.5;
          joined = result.3;
        },
      )

  -- Deliver
  IsPhaseSound-rising : (c : ℕ) (o b : Operation Tagged) (start : List Tagged) (seen ahead : List Entry) (list : List Tagged) (message : Option Message) (h : Entry) → Fits h.op (apply_entries start seen) → IsBufferSound c o b start seen ahead list message
      → news (first_after b (second_after o h.op)) ≡ news b
  IsPhaseSound-rising c o b start seen ahead list message h fits sound =
      let p_fits = second_fits o h.op (apply_entries start seen) sound.fits fits in
      first_news b (second_after o h.op) sound.buffer_fits.rising p_fits.rising (sound.buffer_fits.base ∙ sym p_fits.base)

  news_kept_delivered : (c : ℕ) (phase : Phase) (start : List Tagged) (seen ahead : List Entry) (list : List Tagged) (message : Option Message) (h : Entry) → Fits h.op (apply_entries start seen) → IsPhaseSound c phase start seen ahead list message
      → news_kept (phase_delivered phase h.op) ≡ news_kept phase
  news_kept_delivered c NotJoined start seen ahead list message h fits sound = refl
  news_kept_delivered c Synchronized start seen ahead list message h fits sound = refl
  news_kept_delivered c (AwaitingConfirm o) start seen ahead list message h fits sound = refl
  news_kept_delivered c (AwaitingWithBuffer o b) start seen ahead list message h fits sound = IsPhaseSound-rising c o b start seen ahead list message h fits sound

  pub delivered_kept : (start : List Tagged) (text : List ℕ) (s : State) (c : ℕ) (x : Client) (h : Entry) → IsSoundFrom start text s → slice_get s.clients c ≡ Some x → slice_get s.log x.revision ≡ Some h → h.maker ≢ c → is_joined x.phase ≡ true
      → IsKept c start s.log x (delivered x h.op)
  delivered_kept start text s c x h sound at head other on =
      let seen = take x.revision s.log in
      let ahead = drop (suc x.revision) s.log in
      let within : x.revision < length s.log = slice_get_within s.log x.revision h head in
      let now : IsClientSound c start seen (h ∷ ahead) x = rw (drop_entry s.log x.revision h head) at (sound.clients c x at) in
      let split : seen ++ h ∷ ahead ≡ s.log = ap (λ (xs : List Entry). seen ++ xs) (sym (drop_entry s.log x.revision h head)) ∙ take-append-drop x.revision s.log in
      let fits : Fits h.op (apply_entries start seen) = FitAll_at start seen h ahead (rw (← split) at sound.fit) in
      let kept = ap (λ (xs : List Tagged). news_sent x.message ++ xs) (news_kept_delivered c x.phase start seen (h ∷ ahead) x.list x.message h fits now) in
      record {
        seen = within;
        sound = rw (take_entry s.log x.revision h head) (IsPhaseSound_delivered laws c x.phase start seen ahead x.list x.message h other fits now);
        own = λ t. rw kept (sound.own c x at t);
        count = sound.counts c x at;
        room = same_room (news_pending (delivered x h.op)) (news_pending x) x.count x.count kept refl;
        joined = joined_delivered x.phase h.op on;
      }

  -- Take
  pub FitAll_drop : (d : List Tagged) (n : ℕ) (log : List Entry) → FitAll d log → FitAll (apply_entries d (take n log)) (drop n log)
  FitAll_drop d zero log all = all
  FitAll_drop d (suc n) [] all = all
  FitAll_drop d (suc n) (h ∷ log) all = FitAll_drop (apply h.op d) n log all.1

  pub transform_over_news : (m : Operation Tagged) (d : List Tagged) (log : List Entry) → FitAll d log → Fits m d → news (transform_over m log) ≡ news m
  transform_over_news m d [] all fits = refl
  transform_over_news m d (h ∷ log) all fits =
      transform_over_news (first_after m h.op) (apply h.op d) log all.1 (first_fits m h.op d fits all.0) ∙ first_news m h.op fits.rising all.0.rising (fits.base ∙ sym all.0.base)

  -- the message of a client in a sound state, at the log's length it names
  pub message_fits : (c : ℕ) (phase : Phase) (start : List Tagged) (seen ahead : List Entry) (list : List Tagged) (m : Message) → is_joined phase ≡ true → IsPhaseSound c phase start seen ahead list (Some m) → (m.revision ≤ length seen) × Fits m.op (apply_entries start (take m.revision seen))
  message_fits c NotJoined start seen ahead list m on sound = absurd (cc)
  message_fits c Synchronized start seen ahead list m on sound = absurd (let e = sound.message_is in cc)
  message_fits c (AwaitingConfirm o) start seen ahead list m on sound = (sound.sent.revision, sound.sent.fits)
  message_fits c (AwaitingWithBuffer o b) start seen ahead list m on sound = (sound.sent.revision, sound.sent.fits)

  pub taken_sound : (start : List Tagged) (text : List ℕ) (s : State) (c : ℕ) (x : Client) (m : Message) → IsSoundFrom start text s → s.steps < 1000000 → slice_get s.clients c ≡ Some x → x.message ≡ Some m
      → IsSoundFrom start text (taken s c x (transform_over m.op (drop m.revision s.log)))
  taken_sound start text s c x m sound below at sent =
      let q = m.revision in
      let log = s.log in
      let seen = take x.revision log in
      let ahead = drop x.revision log in
      let m' = transform_over m.op (drop q log) in
      let e : Entry = record { maker = c; op = m' } in
      let y : Client = record { revision = x.revision; phase = x.phase; list = x.list; count = x.count; message = None } in
      let r_in : x.revision ≤ length log = sound.seen c x at in
      let len : length seen ≡ x.revision = length-take-le x.revision log r_in in
      let split : seen ++ ahead ≡ log = take-append-drop x.revision log in
      let now : IsPhaseSound c x.phase start seen ahead x.list (Some m) = rw sent at (sound.clients c x at) in
      let on = sent_joined start text s c x m sound at sent in
      let fact = message_fits c x.phase start seen ahead x.list m on now in
      let q_le : q ≤ x.revision = rw len at fact.0 in
      let fits : Fits m.op (apply_entries start (take q log)) = rw (take-take q x.revision log q_le) at fact.1 in
      let rest : FitAll (apply_entries start (take q log)) (drop q log) = FitAll_drop start q log sound.fit in
      let all : apply_entries (apply_entries start (take q log)) (drop q log) ≡ apply_entries start log = sym (apply_entries-append start (take q log) (drop q log)) ∙ ap (apply_entries start) (take-append-drop q log) in
      let m'_fits : Fits m' (apply_entries start log) = rw all at (transform_over_fits laws m.op (apply_entries start (take q log)) (drop q log) rest fits) in
      let same_news : news m' ≡ news m.op = transform_over_news m.op (apply_entries start (take q log)) (drop q log) rest fits in
      let inside : c < length s.clients = slice_get_within s.clients c x at in
      let was : get_or s.clients c x ≡ x = get_or_from_slice_get s.clients c x x at in
      record {
        tagged = sound.tagged;
        short = sound.short;
        few = rw length-set sound.few;
        fit = FitAll_push start log e sound.fit m'_fits;
        server = ap (apply m') sound.server ∙ sym (apply_entries_push start log e);
        makers = rw length-set (All-push (λ h. h.maker < length s.clients) log e sound.makers inside);
        seen = each_after (λ d z. z.revision ≤ length log) (λ d z. z.revision ≤ length (log ++ e ∷ [])) s.clients c x y at sound.seen (rw length_push (omega arith)) (λ d z other h. rw length_push (omega arith));
        clients = each_after
            (λ d z. (z.revision ≤ length log) × IsClientSound d start (take z.revision log) (drop z.revision log) z)
            (λ d z. IsClientSound d start (take z.revision (log ++ e ∷ [])) (drop z.revision (log ++ e ∷ [])) z)
            s.clients c x y at
            (λ d z h. (sound.seen d z h, sound.clients d z h))
            (rw (take-append-le x.revision log (e ∷ []) r_in, drop-append-le x.revision log (e ∷ []) r_in) (rw split at (IsPhaseSound_taken c x.phase start seen ahead x.list m now)))
            (λ d z other h. rw (take-append-le z.revision log (e ∷ []) h.0, drop-append-le z.revision log (e ∷ []) h.0) (IsPhaseSound_push d z.phase start (take z.revision log) (drop z.revision log) z.list z.message e (λ p. other (sym p)) h.1));
        absents = each_after (λ d z. IsAbsentSound d log z) (λ d z. IsAbsentSound d (log ++ e ∷ []) z) s.clients c x y at sound.absents (joined_absent c (log ++ e ∷ []) y on)
            (λ d z other h is. ((h is).0, NoneBy_push d log e (h is).1 (λ p. other (sym p))));
        own = each_after (λ d z. IsOwn d log z) (λ d z. IsOwn d (log ++ e ∷ []) z) s.clients c x y at sound.own
            (λ t. moved (times t (news_by c log)) _ (times t (news_pending x)) _ (times t (news m.op)) (times t (news_kept x.phase)) (allowance c x.count t)
            (ap (times t) (news_by_push_own c log m') ∙ times-append t (news_by c log) (news m') ∙ ap (λ (w : List Tagged). times t (news_by c log) + times t w) same_news)
            (ap (λ (w : Option Message). times t (news_sent w ++ news_kept x.phase)) sent ∙ times-append t (news m.op) (news_kept x.phase))
            refl
            (sound.own c x at t))
            (λ d z other h t. rw (news_by_push_other c d log m' other) (h t));
        counts = each_after (λ d z. z.count ≤ 15000) (λ d z. z.count ≤ 15000) s.clients c x y at sound.counts (sound.counts c x at) (λ d z other h. h);
        room = room_moved (inserted_in log) _ (sum_by pending s.clients) _ (sum_by (λ z. z.count) s.clients) _ x.count (pending x) (length (news_kept x.phase)) (length (news m.op)) (length (news_kept x.phase))
            sound.room
            (sum_by_push (λ h. inserted h.op) log e ∙ ap (λ (w : List Tagged). inserted_in log + length w) same_news)
            (ap (λ (w : Option Message). length (news_sent w ++ news_kept x.phase)) sent ∙ length-append (news m.op) (news_kept x.phase))
            refl
            (rw was at (sum_by-set pending s.clients c y x inside))
            (rw was at (sum_by-set (λ (z : Client). z.count) s.clients c y x inside));
        logged = rw length_push (omega arith);
        steps = omega arith;
      }

  -- Edit, at a measure of lists that composing never raises
  edited_measure : (f : List Tagged → ℕ) → f [] ≡ 0 → ((xs ys : List Tagged) → f (xs ++ ys) ≡ f xs + f ys) → ((a b : Operation Tagged) → IsOperation a → IsOperation b → f (news (compose a b)) ≤ f (news a) + f (news b))
      → (c : ℕ) (phase : Phase) (start : List Tagged) (seen ahead : List Entry) (list : List Tagged) (x : Client) (op : Operation Tagged) → IsOperation op → IsPhaseSound c phase start seen ahead list x.message
      → f (news_sent (message_edited phase x op) ++ news_kept (phase_edited phase op)) ≤ f (news_sent x.message ++ news_kept phase) + f (news op)
  edited_measure f f_nil f_append f_compose c NotJoined start seen ahead list x op rising sound = omega arith
  edited_measure f f_nil f_append f_compose c Synchronized start seen ahead list x op rising sound =
      let e : f (news op ++ []) ≡ f (news op) = ap f (append-nil (news op)) in
      omega arith
  edited_measure f f_nil f_append f_compose c (AwaitingConfirm o) start seen ahead list x op rising sound =
      omega (arith, f_append (news_sent x.message) (news op), f_append (news_sent x.message) [])
  edited_measure f f_nil f_append f_compose c (AwaitingWithBuffer o b) start seen ahead list x op rising sound =
      omega (arith, f_append (news_sent x.message) (news (compose b op)), f_append (news_sent x.message) (news b), f_compose b op sound.buffer_fits.rising rising)

  pub edited_kept : (start : List Tagged) (text : List ℕ) (s : State) (c : ℕ) (x : Client) (op : Operation ℕ) → IsSoundFrom start text s → slice_get s.clients c ≡ Some x → IsOperation op → op.base ≡ length x.list → x.count + inserted op ≤ 15000 → is_joined x.phase ≡ true
      → IsKept c start s.log x (edited x (tag_operation c x.count op))
  edited_kept start text s c x op sound at rising base few on =
      let seen = take x.revision s.log in
      let ahead = drop x.revision s.log in
      let now : IsPhaseSound c x.phase start seen ahead x.list x.message = sound.clients c x at in
      let r_in : x.revision ≤ length s.log = sound.seen c x at in
      let len : length seen ≡ x.revision = length-take-le x.revision s.log r_in in
      let tagged_op = tag_operation c x.count op in
      let tagged_rising : IsOperation tagged_op = RisesFrom-tag_items c x.count 0 op.base op.image rising in
      let many : inserted tagged_op ≡ inserted op = length-news-tag_items c x.count op.image in
      let fits : Fits tagged_op x.list = record { rising = tagged_rising; base = base } in
      record {
        seen = r_in;
        sound = IsPhaseSound_edited laws c x.phase start seen ahead x tagged_op len fits now;
        own = λ t. own_after _ _ _ _ _ _ (sound.own c x at t)
            (edited_measure (times t) refl (times-append t) (λ a b. laws.compose_times a b t) c x.phase start seen ahead x.list x tagged_op tagged_rising now)
            (times-tag_items t c x.count op.image ∙ ap (λ n. allowance c (x.count + n) t) (sym many));
        count = rw many few;
        room = count_after _ _ _ _ (edited_measure length refl length-append laws.compose_inserted c x.phase start seen ahead x.list x tagged_op tagged_rising now);
        joined = joined_edited x.phase tagged_op on;
      }
