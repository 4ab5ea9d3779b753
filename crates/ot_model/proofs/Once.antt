-- No tag stands twice on a client's path, so the path is in one order.
use Rattle.std.proofs.Common.{◌≡◌, ℕ, zero, suc, ◌+◌, ◌<◌, ◌≤◌, ◌≢◌, List, [], ◌∷◌, ◌++◌, length, take, drop, get_or, refl, sym, ap, ◌∙◌, subst, arith, inl, inr, Option, Some, None, cond, add-zero, zero-add}
use Rattle.std.proofs.lemmas.List.{take-append-drop}
use Rattle.std.proofs.lemmas.List.Sums.{sum_by-cons}
use Rattle.std.proofs.lemmas.Bool.{cases_eq, cases_lt, ne_eqb, cond-false, cond-true, eq-eqb, and_from}
use Rattle.std.proofs.lemmas.Option.{slice_get_within, slice_get-get_or}
use Rattle.std.specs.Prelude.{◌⊎◌, slice_get, sum_by, All, ◌==◌}
use Rattle.ot_model.specs.Operation.{Operation, apply, news, first_after, second_after}
use Rattle.ot_isa.specs.declared.elements.Tag.{Tag}
use Rattle.ot_isa.specs.declared.elements.Tagged.{Tagged}
use Rattle.ot_model.specs.Table.{Phase, NotJoined, Synchronized, AwaitingConfirm, AwaitingWithBuffer, Client, State, Entry, Message}
use Rattle.ot_isa.specs.Tagging.{tagged_chars, tagged_char}
use Rattle.ot_model.specs.Sound.{Fits, apply_entries, FitAll, NoneBy, Lands, IsSent, IsPhaseSound, times, has_tag, allowance, news_by, news_pending, news_sent, news_kept, IsSoundFrom}
use Rattle.ot_model.proofs.Algebra.{AlgebraLaws}
use Rattle.ot_model.proofs.Vertices.{Has, HasNew, PathFits, InPath, IsConsistent, lifted, operations, past_outstanding, InLast, OrderLaws}
use Rattle.ot_model.proofs.States.{allowance_more, times-append, transform_over_news, FitAll_drop}
use Rattle.ot_model.proofs.Order.{Before_has, along, IsConsistent_sym, lifted_fits}
use Rattle.ot_model.proofs.Paths.{past_own, past_other, past_none, past_fits, operations_fit}
use Rattle.ot_model.proofs.Lengths.{FitAll_take}
use Rattle.ot_model.proofs.Known.{sent_or}
use Rattle.ot_model.proofs.Tags.{Has_times, allowance-le, allowance_at}

unfoldable pub times_new : Tag → List (Operation Tagged) → ℕ
times_new t es = sum_by (λ e. times t (news e)) es

pub times_new-cons : (t : Tag) (e : Operation Tagged) (es : List (Operation Tagged)) → times_new t (e ∷ es) ≡ times t (news e) + times_new t es
unfolding times_new
times_new-cons t e es = sum_by-cons (λ z. times t (news z)) e es

HasNew_times : (t : Tag) (es : List (Operation Tagged)) → HasNew t es → 1 ≤ times_new t es
HasNew_times t [] h = absurd h
HasNew_times t (e ∷ es) (inl here) = omega (arith, Has_times t (news e) here, times_new-cons t e es)
HasNew_times t (e ∷ es) (inr there) = omega (arith, HasNew_times t es there, times_new-cons t e es)

twice : (x : Tagged) (xs : List Tagged) → ((t : Tag) → times t (x ∷ xs) ≤ 1) → Has x.tag xs → ⊥
twice x xs once h =
    let one : ◌≡◌ {A = ℕ} (cond (has_tag x.tag x) 1 0) 1 = cond-true (has_tag x.tag x) 1 0 (and_from _ _ (eq-eqb x.tag.origin x.tag.origin refl) (eq-eqb x.tag.serial x.tag.serial refl)) in
    let sum = sum_by-cons (λ y. cond (has_tag x.tag y) 1 0) x xs in
    let more = Has_times x.tag xs h in
    let most = once x.tag in
    absurd (omega arith)

-- a list with no tag twice has one order
pub once_self : (xs : List Tagged) → ((t : Tag) → times t xs ≤ 1) → IsConsistent xs xs
once_self [] once a b h k = h
once_self (x ∷ xs) once a b (inl here) (inl there) = twice x xs once (subst (λ (t : Tag). Has t xs) (sym there.0) here.1)
once_self (x ∷ xs) once a b (inl here) (inr there) = twice x xs once (subst (λ (t : Tag). Has t xs) (sym here.0) (Before_has b a xs there).1)
once_self (x ∷ xs) once a b (inr there) (inl here) = twice x xs once (subst (λ (t : Tag). Has t xs) (sym here.0) (Before_has a b xs there).1)
once_self (x ∷ xs) once a b (inr h) (inr k) = once_self xs (λ t. let sum = sum_by-cons (λ y. cond (has_tag t y) 1 0) x xs in let most = once t in omega arith) a b h k

module _ (laws : AlgebraLaws) (order : OrderLaws) where
  open laws use {first_fits, second_fits, same, first_news, second_news}

  later : (d : List Tagged) (e : Operation Tagged) (es : List (Operation Tagged)) (w : List Tagged) → PathFits d (e ∷ es) → ((t : Tag) → times t d + times_new t (e ∷ es) ≤ 1) → InPath w (apply e d) es → IsConsistent d w
  later d e es w path once on =
      along laws order d d w (e ∷ es) path (λ t h k. let most = once t in let one = Has_times t d h in let two = HasNew_times t (e ∷ es) k in absurd (omega arith)) (once_self d (λ t. let most = once t in omega arith)) (inr on)

  -- a path on which no tag stands twice has one order
  pub path_self : (d : List Tagged) (es : List (Operation Tagged)) (u w : List Tagged) → PathFits d es → ((t : Tag) → times t d + times_new t es ≤ 1) → InPath u d es → InPath w d es → IsConsistent u w
  path_self d [] u w path once on_u on_w = rw (on_u, on_w) (once_self d (λ t. let most = once t in omega arith))
  path_self d (e ∷ es) u w path once (inl is_u) (inl is_w) = rw (is_u, is_w) (once_self d (λ t. let most = once t in omega arith))
  path_self d (e ∷ es) u w path once (inl is_u) (inr on_w) =
      rw is_u (later d e es w path once on_w)
  path_self d (e ∷ es) u w path once (inr on_u) (inl is_w) =
      rw is_w (IsConsistent_sym d u (later d e es u path once on_u))
  path_self d (e ∷ es) u w path once (inr on_u) (inr on_w) =
      path_self (apply e d) es u w path.1 (λ t. let most = once t in let more = order.apply_times e d t path.0 in let sum = times_new-cons t e es in omega arith) on_u on_w

-- how often the start has a tag
pub start_times : (t : Tag) (k : ℕ) (text : List ℕ) → allowance 65535 k t + times t (tagged_chars 65535 k text) ≡ allowance 65535 (k + length text) t
start_times t k [] = rw (add-zero, add-zero)
start_times t k (ch ∷ text) =
    let rest = tagged_chars 65535 (suc k) text in
    let first : times t (tagged_char 65535 k ch ∷ rest) ≡ cond (has_tag t (tagged_char 65535 k ch)) 1 0 + times t rest = sum_by-cons (λ x. cond (has_tag t x) 1 0) (tagged_char 65535 k ch) rest in
    let n = length text in
    let same : k + suc n ≡ suc k + n = omega arith in
    rw (first, same, ← start_times t (suc k) text, ← allowance_more t 65535 k ch) (omega arith)

zero_or : (n : ℕ) → (n ≡ 0) ⊎ (1 ≤ n)
zero_or zero = inl refl
zero_or (suc n) = inr (omega arith)

news_by_first : (d : ℕ) (t : Tag) (h : Entry) (log : List Entry) → h.maker ≡ d → times t (news_by d (h ∷ log)) ≡ times t (news h.op) + times t (news_by d log)
news_by_first d t h log own = ap (times t) (cond-true (h.maker == d) (news h.op ++ news_by d log) (news_by d log) (eq-eqb h.maker d own)) ∙ times-append t (news h.op) (news_by d log)

news_by_later : (d : ℕ) (t : Tag) (h : Entry) (log : List Entry) → h.maker ≢ d → news_by d (h ∷ log) ≡ news_by d log
news_by_later d t h log other = cond-false (h.maker == d) (news h.op ++ news_by d log) (news_by d log) (ne_eqb h.maker d other)

news_by_tail : (d : ℕ) (t : Tag) (h : Entry) (log : List Entry) → times t (news_by d log) ≤ times t (news_by d (h ∷ log))
news_by_tail d t h log = elim (cases_eq h.maker d) [
  | inl own ↦ let e = news_by_first d t h log own in omega arith
  | inr other ↦ let e = ap (times t) (news_by_later d t h log other) in omega arith
]

-- a tag is in the log as often as among what one client inserted there
log_times : (t : Tag) (k : ℕ) (log : List Entry) → ((d : ℕ) → d ≢ k → times t (news_by d log) ≡ 0) → times_new t (operations log) ≡ times t (news_by k log)
unfolding times_new
log_times t k [] none = refl
log_times t k (h ∷ log) none =
    let rest : times_new t (operations log) ≡ times t (news_by k log) = log_times t k log (λ d other. let z = none d other in let le = news_by_tail d t h log in omega arith) in
    let first = times_new-cons t h.op (operations log) in
    elim (cases_eq h.maker k) [
      | inl own ↦ let e = news_by_first k t h log own in omega arith
      | inr other ↦
          let e = ap (times t) (news_by_later k t h log other) in
          let z = none h.maker other in
          let f = news_by_first h.maker t h log refl in
          omega arith
    ]

news_by_past : (n d : ℕ) (log : List Entry) → All (λ h. h.maker < n) log → n ≤ d → news_by d log ≡ []
news_by_past n d [] all le = refl
news_by_past n d (h ∷ log) all le =
    let first : h.maker < n = all 0 h (omega arith) in
    let other : h.maker ≢ d = omega arith in
    cond-false (h.maker == d) (news h.op ++ news_by d log) (news_by d log) (ne_eqb h.maker d other) ∙ news_by_past n d log (λ k e below. all (suc k) e (omega arith)) le

-- what one client inserted in the log
by_times : (start : List Tagged) (text : List ℕ) (s : State) (t : Tag) (d : ℕ) → IsSoundFrom start text s → (times t (news_by d s.log) ≤ 1) × (1 ≤ times t (news_by d s.log) → (t.origin ≡ d) × (d < length s.clients))
by_times start text s t d sound = elim (cases_lt d (length s.clients)) [
  | inl inside ↦
      let none : Client = record { revision = 0; phase = Synchronized; list = []; count = 0; message = None } in
      let own = sound.own d (get_or s.clients d none) (slice_get-get_or s.clients d none inside) t in
      let most = allowance-le d (get_or s.clients d none).count t in
      (omega arith, λ one. let some : 1 ≤ allowance d (get_or s.clients d none).count t = omega arith in ((allowance_at d (get_or s.clients d none).count t some).0, inside))
  | inr outside ↦
      let e : times t (news_by d s.log) ≡ 0 = ap (times t) (news_by_past (length s.clients) d s.log sound.makers outside) in
      (omega arith, λ one. absurd (omega arith))
]

-- no tag is twice in the start, the log and what a client has pending
pub total_times : (start : List Tagged) (text : List ℕ) (s : State) (c : ℕ) (x : Client) (t : Tag) → IsSoundFrom start text s → slice_get s.clients c ≡ Some x → times t start + (times_new t (operations s.log) + times t (news_pending x)) ≤ 1
total_times start text s c x t sound at =
    let few = sound.few in
    let inside : c < length s.clients = slice_get_within s.clients c x at in
    let own = sound.own c x at t in
    let most = allowance-le c x.count t in
    let k = t.origin in
    let by = by_times start text s t k sound in
    let log : times_new t (operations s.log) ≡ times t (news_by k s.log) = log_times t k s.log (λ d other. elim (zero_or (times t (news_by d s.log))) [ inl z ↦ z | inr one ↦ absurd (other (sym ((by_times start text s t d sound).1 one).0)) ]) in
    let st = ap (times t) sound.tagged ∙ refl in
    let sum = start_times t 0 text in
    let cap = allowance-le 65535 (0 + length text) t in
    elim (zero_or (times t start)) [
      | inl no_start ↦ elim (zero_or (times t (news_pending x))) [
        | inl no_pending ↦ let le = by.0 in omega arith
        | inr pending ↦
            let some : 1 ≤ allowance c x.count t = omega arith in
            let origin = (allowance_at c x.count t some).0 in
            let same = ap (λ (n : ℕ). times t (news_by n s.log)) origin in
            omega arith
      ]
      | inr first ↦
          let some : 1 ≤ allowance 65535 (0 + length text) t = omega arith in
          let origin = (allowance_at 65535 (0 + length text) t some).0 in
          elim (zero_or (times t (news_pending x))) [
            | inl no_pending ↦ elim (zero_or (times t (news_by k s.log))) [
              | inl no_log ↦ omega arith
              | inr logged ↦ let far = (by.1 logged).1 in absurd (omega arith)
            ]
            | inr pending ↦
                let some' : 1 ≤ allowance c x.count t = omega arith in
                let origin' = (allowance_at c x.count t some').0 in
                absurd (omega arith)
          ]
    ]

pub times_new-append : (t : Tag) (xs ys : List Entry) → times_new t (operations (xs ++ ys)) ≡ times_new t (operations xs) + times_new t (operations ys)
unfolding times_new
times_new-append t [] ys = sym (zero-add (times_new t (operations ys)))
times_new-append t (h ∷ xs) ys =
    let rest : times_new t (operations (xs ++ ys)) ≡ times_new t (operations xs) + times_new t (operations ys) = times_new-append t xs ys in
    let one = times_new-cons t h.op (operations (xs ++ ys)) in
    let two = times_new-cons t h.op (operations xs) in
    omega arith

module _ (laws : AlgebraLaws) (order : OrderLaws) where
  open laws use {first_fits, second_fits, same, first_news, second_news}
  open order use {apply_times}

  pub document_times : (d : List Tagged) (log : List Entry) (t : Tag) → FitAll d log → times t (apply_entries d log) ≤ times t d + times_new t (operations log)
  document_times d [] t all = omega arith
  document_times d (h ∷ log) t all =
      let rest = document_times (apply h.op d) log t all.1 in
      let one = apply_times h.op d t all.0 in
      let sum = times_new-cons t h.op (operations log) in
      omega arith

  pub lifted_times : (z : Operation Tagged) (d : List Tagged) (es : List (Operation Tagged)) (t : Tag) → Fits z d → PathFits d es → times_new t (lifted z es) ≡ times_new t es
  lifted_times z d [] t fits path = refl
  lifted_times z d (e ∷ es) t fits path =
      let rest = lifted_times (first_after z e) (apply e d) es t (first_fits z e d fits path.0) path.1 in
      let one = times_new-cons t (second_after z e) (lifted (first_after z e) es) in
      let two = times_new-cons t e es in
      let same_news = ap (times t) (second_news z e fits.rising path.0.rising (fits.base ∙ sym path.0.base)) in
      omega arith

  past_times : (c : ℕ) (o : Operation Tagged) (d : List Tagged) (ahead : List Entry) (t : Tag) → FitAll d ahead → Fits o d → NoneBy c ahead → times_new t (past_outstanding c o ahead) ≤ times_new t (operations ahead)
  past_times c o d ahead t all fits none =
      let e = ap (times_new t) (past_none c o ahead none) in
      let f = lifted_times o d (operations ahead) t fits (operations_fit laws d ahead all) in
      omega arith

  landed_times : (c : ℕ) (o : Operation Tagged) (d : List Tagged) (ahead : List Entry) (t : Tag) → FitAll d ahead → Fits o d → Lands c o ahead → times t (news o) + times_new t (past_outstanding c o ahead) ≤ times_new t (operations ahead)
  landed_times c o d [] t all fits lands = absurd lands
  landed_times c o d (h ∷ ahead) t all fits (inl here) =
      let e = ap (times_new t) (past_own c o h ahead here.0) in
      let f = ap (λ (a : Operation Tagged). times t (news a)) here.1 in
      let sum = times_new-cons t h.op (operations ahead) in
      omega arith
  landed_times c o d (h ∷ ahead) t all fits (inr far) =
      let e = ap (times_new t) (past_other c o h ahead far.0) in
      let rest = landed_times c (first_after o h.op) (apply h.op d) ahead t all.1 (first_fits o h.op d fits all.0) far.1 in
      let f = ap (times t) (first_news o h.op fits.rising all.0.rising (fits.base ∙ sym all.0.base)) in
      let g = ap (times t) (second_news o h.op fits.rising all.0.rising (fits.base ∙ sym all.0.base)) in
      let sum = times_new-cons t h.op (operations ahead) in
      let sum' = times_new-cons t (second_after o h.op) (past_outstanding c (first_after o h.op) ahead) in
      omega arith

  pub sent_times : (c : ℕ) (o : Operation Tagged) (start : List Tagged) (seen ahead : List Entry) (message : Option Message) (t : Tag) → FitAll start seen → FitAll (apply_entries start seen) ahead → Fits o (apply_entries start seen) → IsSent c o start seen ahead message
      → times t (news o) + times_new t (past_outstanding c o ahead) ≤ times t (news_sent message) + times_new t (operations ahead)
  sent_times c o start seen ahead None t before all fits sent = let le = landed_times c o (apply_entries start seen) ahead t all fits sent in omega arith
  sent_times c o start seen ahead (Some m) t before all fits sent =
      let rest = FitAll_drop laws start m.revision seen before in
      let e = ap (λ (a : Operation Tagged). times t (news a)) (sym sent.transformed) ∙ ap (times t) (transform_over_news laws m.op (apply_entries start (take m.revision seen)) (drop m.revision seen) rest sent.fits) in
      let le = past_times c o (apply_entries start seen) ahead t all fits sent.none in
      omega arith

  -- the last path of a client is in one order
  pub phase_self : (start : List Tagged) (text : List ℕ) (s : State) (c : ℕ) (x : Client) (phase : Phase) (u w : List Tagged) → IsSoundFrom start text s → slice_get s.clients c ≡ Some x → x.phase ≡ phase → IsPhaseSound c phase start (take x.revision s.log) (drop x.revision s.log) x.list x.message
      → InLast c u (apply_entries start (take x.revision s.log)) (drop x.revision s.log) phase → InLast c w (apply_entries start (take x.revision s.log)) (drop x.revision s.log) phase → IsConsistent u w
  phase_self start text s c x NotJoined u w sound at is now on_u on_w = absurd on_u
  phase_self start text s c x Synchronized u w sound at is now on_u on_w = absurd on_u
  phase_self start text s c x (AwaitingConfirm o) u w sound at is now on_u on_w =
      let seen = take x.revision s.log in
      let ahead = drop x.revision s.log in
      let d = apply_entries start seen in
      let before = FitAll_take laws start x.revision s.log sound.fit in
      let all = FitAll_drop laws start x.revision s.log sound.fit in
      path_self laws order (apply o d) (past_outstanding c o ahead) u w (past_fits laws c o d ahead all now.fits (sent_or laws order c o start seen ahead x.message now.sent)) (λ t.
      let total = total_times start text s c x t sound at in
      let doc = document_times start seen t before in
      let one = apply_times o d t now.fits in
      let sent = sent_times c o start seen ahead x.message t before all now.fits now.sent in
      let split = ap (λ (l : List Entry). times_new t (operations l)) (sym (take-append-drop x.revision s.log)) ∙ times_new-append t seen ahead in
      let both = times-append t (news_sent x.message) (news_kept x.phase) in
      omega arith) on_u on_w
  phase_self start text s c x (AwaitingWithBuffer o b) u w sound at is now on_u on_w =
      let seen = take x.revision s.log in
      let ahead = drop x.revision s.log in
      let d = apply_entries start seen in
      let before = FitAll_take laws start x.revision s.log sound.fit in
      let all = FitAll_drop laws start x.revision s.log sound.fit in
      let path = past_fits laws c o d ahead all now.fits (sent_or laws order c o start seen ahead x.message now.sent) in
      path_self laws order (apply b (apply o d)) (lifted b (past_outstanding c o ahead)) u w (lifted_fits laws order b (apply o d) (past_outstanding c o ahead) now.buffer_fits path) (λ t.
      let total = total_times start text s c x t sound at in
      let doc = document_times start seen t before in
      let one = apply_times o d t now.fits in
      let two = apply_times b (apply o d) t now.buffer_fits in
      let sent = sent_times c o start seen ahead x.message t before all now.fits now.sent in
      let split = ap (λ (l : List Entry). times_new t (operations l)) (sym (take-append-drop x.revision s.log)) ∙ times_new-append t seen ahead in
      let both = times-append t (news_sent x.message) (news_kept x.phase) in
      let kept = ap (λ (p : Phase). times t (news_kept p)) is in
      let high = lifted_times b (apply o d) (past_outstanding c o ahead) t now.buffer_fits path in
      omega arith) on_u on_w
