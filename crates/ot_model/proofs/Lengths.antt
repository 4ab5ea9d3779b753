-- No length passes the limit in a sound state.
use Rattle.std.proofs.Common.{◌≡◌, ℕ, zero, suc, ◌+◌, ◌*◌, ◌<◌, ◌≤◌, ◌≢◌, List, [], ◌∷◌, ◌++◌, length, take, drop, get_or, sym, ap, ◌∙◌, arith, inl, inr, Option, Some, None, length-append}
use Rattle.std.proofs.lemmas.List.{length-take-le, take-take}
use Rattle.std.proofs.lemmas.Option.{slice_get_within, get_or_from_slice_get, slice_get-get_or}
use Rattle.std.proofs.lemmas.List.Sums.{sum_by-cons, sum_by-le, sum_by-take-drop, get_or-le-sum_by}
use Rattle.std.specs.Prelude.{slice_get, sum_by}
use Rattle.ot_model.specs.Operation.{Operation, apply, inserted, news, first_after}
use Rattle.ot_model.specs.Table.{Client, State, Entry, Message}
use Rattle.ot_isa.specs.declared.elements.Tagged.{Tagged}
use Rattle.ot_model.specs.Sound.{Fits, apply_entries, FitAll, Lands, IsSent, IsPhaseSound, pending, news_sent, news_kept, inserted_in, IsSoundFrom}
use Rattle.ot_model.proofs.Algebra.{AlgebraLaws}
use Rattle.ot_model.proofs.States.{message_fits, sent_joined, transform_over_news, FitAll_drop}

-- all that is inserted, in the log and pending, with the start
pub total : (start : List Tagged) (text : List ℕ) (s : State) → IsSoundFrom start text s → length start + (inserted_in s.log + sum_by pending s.clients) ≤ 1000000
total start text s sound =
    let counts : sum_by (λ z. z.count) s.clients ≤ length s.clients * 15000 =
    sum_by-le (λ (z : Client). z.count) 15000 s.clients (λ k d below. sound.counts k (get_or s.clients k d) (slice_get-get_or s.clients k d below)) in
    let few = sound.few in
    let short = sound.short in
    let room = sound.room in
    total_below (length start) (inserted_in s.log + sum_by pending s.clients) (sum_by (λ z. z.count) s.clients) (length s.clients) few short room counts
  where
    total_below : (a b k n : ℕ) → n ≤ 64 → a ≤ 40000 → b ≤ k → k ≤ n * 15000 → a + b ≤ 1000000
    total_below a b k n f g h i = omega arith

pub pending-le : (s : State) (c : ℕ) (x : Client) → slice_get s.clients c ≡ Some x → pending x ≤ sum_by pending s.clients
pending-le s c x at = rw (get_or_from_slice_get s.clients c x x at) at (get_or-le-sum_by pending s.clients c x (slice_get_within s.clients c x at))

module _ (laws : AlgebraLaws) where
  pub apply-le : (a : Operation Tagged) (d : List Tagged) → Fits a d → length (apply a d) ≤ length d + inserted a
  apply-le a d fits = omega (arith, laws.apply-length a d fits, laws.image_length a fits.rising, fits.base)

  pub apply_entries-le : (d : List Tagged) (log : List Entry) → FitAll d log → length (apply_entries d log) ≤ length d + inserted_in log
  apply_entries-le d [] all = omega arith
  apply_entries-le d (h ∷ log) all =
      omega (arith, apply_entries-le (apply h.op d) log all.1, apply-le h.op d all.0, sum_by-cons (λ (e : Entry). inserted e.op) h log)

  pub FitAll_take : (d : List Tagged) (n : ℕ) (log : List Entry) → FitAll d log → FitAll d (take n log)
  FitAll_take d zero log all = tt
  FitAll_take d (suc n) [] all = tt
  FitAll_take d (suc n) (h ∷ log) all = (all.0, FitAll_take (apply h.op d) n log all.1)

  -- a client's document in the log, all that is ahead of it and all that it has pending
  pub room_ahead : (start : List Tagged) (text : List ℕ) (s : State) (c : ℕ) (x : Client) (n : ℕ) → IsSoundFrom start text s → slice_get s.clients c ≡ Some x → length (apply_entries start (take n s.log)) + (inserted_in (drop n s.log) + pending x) ≤ 1000000
  room_ahead start text s c x n sound at =
      let a = apply_entries-le start (take n s.log) (FitAll_take start n s.log sound.fit) in
      let b = sum_by-take-drop (λ (e : Entry). inserted e.op) s.log n in
      let d = pending-le s c x at in
      let e = total start text s sound in
      ahead_below _ _ _ _ _ _ _ a b d e
    where
      ahead_below : (l st i j k p q : ℕ) → l ≤ st + i → i + j ≡ k → p ≤ q → st + (k + q) ≤ 1000000 → l + (j + p) ≤ 1000000
      ahead_below l st i j k p q f g h m = omega arith

  -- the server never refuses a message
  pub server_accepts : (start : List Tagged) (text : List ℕ) (s : State) (c : ℕ) (x : Client) (m : Message) → IsSoundFrom start text s → s.steps < 1000000 → slice_get s.clients c ≡ Some x → x.message ≡ Some m
      → (m.revision ≤ length s.log)
      × (m.op.base ≡ length (apply_entries start (take m.revision s.log)))
      × (length s.log < 1000000)
      × (length (apply_entries start (take m.revision s.log)) + (inserted_in (drop m.revision s.log) + inserted m.op) ≤ 1000000)
  server_accepts start text s c x m sound below at sent =
      let seen = take x.revision s.log in
      let now : IsPhaseSound c x.phase start seen (drop x.revision s.log) x.list (Some m) = rw sent at (sound.clients c x at) in
      let fact = message_fits laws c x.phase start seen (drop x.revision s.log) x.list m (sent_joined start text s c x m sound at sent) now in
      let r_in : x.revision ≤ length s.log = sound.seen c x at in
      let len : length seen ≡ x.revision = length-take-le x.revision s.log r_in in
      let q_le : m.revision ≤ x.revision = rw len at fact.0 in
      let fits : Fits m.op (apply_entries start (take m.revision s.log)) = rw (take-take m.revision x.revision s.log q_le) at fact.1 in
      let p : pending x ≡ inserted m.op + length (news_kept x.phase) = ap (λ (w : Option Message). length (news_sent w ++ news_kept x.phase)) sent ∙ length-append (news m.op) (news_kept x.phase) in
      let all = room_ahead start text s c x m.revision sound at in
      (omega arith, fits.base, omega arith, message_below _ _ _ _ _ p all)
    where
      message_below : (l j p i k : ℕ) → p ≡ i + k → l + (j + p) ≤ 1000000 → l + (j + i) ≤ 1000000
      message_below l j p i k f g = omega arith

  -- what is outstanding is pending, or ahead
  Lands_inserted : (c : ℕ) (o : Operation Tagged) (d : List Tagged) (ahead : List Entry) → FitAll d ahead → Fits o d → Lands c o ahead → inserted o ≤ inserted_in ahead
  Lands_inserted c o d [] all fits lands = absurd lands
  Lands_inserted c o d (h ∷ ahead) all fits (inl here) =
      let e : inserted h.op ≡ inserted o = ap (λ (a : Operation Tagged). inserted a) here.1 in
      omega (arith, sum_by-cons (λ (e : Entry). inserted e.op) h ahead)
  Lands_inserted c o d (h ∷ ahead) all fits (inr there) =
      let e : inserted (first_after o h.op) ≡ inserted o = ap length (laws.first_news o h.op fits.rising all.0.rising (fits.base ∙ sym all.0.base)) in
      omega (arith, sum_by-cons (λ (e : Entry). inserted e.op) h ahead, Lands_inserted c (first_after o h.op) (apply h.op d) ahead all.1 (laws.first_fits o h.op d fits all.0) there.1)

  pub outstanding-le : (c : ℕ) (o : Operation Tagged) (start : List Tagged) (seen ahead : List Entry) (message : Option Message) → FitAll start seen → FitAll (apply_entries start seen) ahead → Fits o (apply_entries start seen) → IsSent c o start seen ahead message
      → inserted o ≤ inserted_in ahead + length (news_sent message)
  outstanding-le c o start seen ahead None before all fits sent = omega (arith, Lands_inserted c o (apply_entries start seen) ahead all fits sent)
  outstanding-le c o start seen ahead (Some m) before all fits sent =
      let rest = FitAll_drop laws start m.revision seen before in
      let e : inserted o ≡ inserted m.op = ap (λ (a : Operation Tagged). inserted a) (sym sent.transformed) ∙ ap length (transform_over_news laws m.op (apply_entries start (take m.revision seen)) (drop m.revision seen) rest sent.fits) in
      omega arith

  -- a delivery has room: the document, the entry, and what the client keeps
  pub deliver_room : (c : ℕ) (o b : Operation Tagged) (start : List Tagged) (seen ahead : List Entry) (message : Option Message) (h : Entry) → FitAll start seen → FitAll (apply_entries start seen) (h ∷ ahead) → Fits o (apply_entries start seen) → h.maker ≢ c → IsSent c o start seen (h ∷ ahead) message
      → length (apply_entries start seen) + (inserted_in (h ∷ ahead) + (length (news_sent message) + inserted b)) ≤ 1000000
      → length (apply_entries start seen) + (inserted h.op + (inserted o + inserted b)) ≤ 1000000
  deliver_room c o b start seen ahead None h before all fits other (inl here) room = absurd (other here.0)
  deliver_room c o b start seen ahead None h before all fits other (inr there) room =
      let e : inserted (first_after o h.op) ≡ inserted o = ap length (laws.first_news o h.op fits.rising all.0.rising (fits.base ∙ sym all.0.base)) in
      let l = Lands_inserted c (first_after o h.op) (apply h.op (apply_entries start seen)) ahead all.1 (laws.first_fits o h.op (apply_entries start seen) fits all.0) there.1 in
      omega (arith, sum_by-cons (λ (e : Entry). inserted e.op) h ahead, l)
  deliver_room c o b start seen ahead (Some m) h before all fits other sent room =
      let rest = FitAll_drop laws start m.revision seen before in
      let e : inserted o ≡ inserted m.op = ap (λ (a : Operation Tagged). inserted a) (sym sent.transformed) ∙ ap length (transform_over_news laws m.op (apply_entries start (take m.revision seen)) (drop m.revision seen) rest sent.fits) in
      omega (arith, sum_by-cons (λ (e : Entry). inserted e.op) h ahead)
