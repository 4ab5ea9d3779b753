-- Where a tag can stand, in a sound state.
use Rattle.std.proofs.Common.{◌≡◌, ℕ, suc, ◌+◌, ◌<◌, ◌≤◌, List, [], ◌∷◌, ◌++◌, length, get_or, refl, sym, ap, ◌∙◌, subst, arith, inl, inr, Some, None, Bool, true, false, cond, ◌&&◌}
use Rattle.std.proofs.lemmas.Bool.{cond-true, eq-eqb, eqb-true, and_parts, and_from, ltb-true}
use Rattle.std.proofs.lemmas.List.Sums.{sum_by-cons}
use Rattle.std.proofs.lemmas.Option.{slice_get-get_or}
use Rattle.std.specs.Prelude.{◌⊎◌, slice_get, if◌then◌else◌, ◌==◌, nat_lt, All}
use Rattle.ot_model.specs.Operation.{news}
use Rattle.ot_isa.specs.declared.elements.Tag.{Tag}
use Rattle.ot_isa.specs.declared.elements.Tagged.{Tagged}
use Rattle.ot_model.specs.Table.{Synchronized, Client, State, Entry}
use Rattle.ot_isa.specs.Tagging.{tagged_chars}
use Rattle.ot_model.specs.Sound.{times, has_tag, allowance, news_by, news_pending, IsSoundFrom}
use Rattle.ot_model.proofs.Vertices.{Has, HasNew, operations}
use Rattle.ot_model.proofs.States.{news_by-append, times-append}

pub Has_times : (t : Tag) (xs : List Tagged) → Has t xs → 1 ≤ times t xs
Has_times t [] h = absurd h
Has_times t (x ∷ xs) (inl here) =
    let o : (t.origin == x.tag.origin) ≡ true = eq-eqb t.origin x.tag.origin (ap (λ (u : Tag). u.origin) (sym here)) in
    let s : (t.serial == x.tag.serial) ≡ true = eq-eqb t.serial x.tag.serial (ap (λ (u : Tag). u.serial) (sym here)) in
    let one : ◌≡◌ {A = ℕ} (cond (has_tag t x) 1 0) 1 = cond-true (has_tag t x) 1 0 (and_from _ _ o s) in
    omega (arith, one, sum_by-cons (λ y. cond (has_tag t y) 1 0) x xs)
Has_times t (x ∷ xs) (inr there) = omega (arith, Has_times t xs there, sum_by-cons (λ y. cond (has_tag t y) 1 0) x xs)

pub Has_start : (t : Tag) (k : ℕ) (text : List ℕ) → Has t (tagged_chars 65535 k text) → t.origin ≡ 65535
Has_start t k [] h = absurd h
Has_start t k (ch ∷ text) (inl here) = sym (ap (λ (u : Tag). u.origin) here)
Has_start t k (ch ∷ text) (inr there) = Has_start t (suc k) text there

-- a tag that one of d's entries inserts
abbrev pub NewBy : ℕ → Tag → List Entry → Type 0
NewBy d t [] = ⊥
NewBy d t (h ∷ log) = ((h.maker ≡ d) × Has t (news h.op)) ⊎ NewBy d t log

pub NewBy_times : (d : ℕ) (t : Tag) (log : List Entry) → NewBy d t log → 1 ≤ times t (news_by d log)
NewBy_times d t [] h = absurd h
NewBy_times d t (h ∷ log) (inl here) =
    let e : times t (news_by d (h ∷ log)) ≡ times t (news h.op) + times t (news_by d log) =
    ap (times t) (cond-true (h.maker == d) (news h.op ++ news_by d log) (news_by d log) (eq-eqb h.maker d here.0)) ∙ times-append t (news h.op) (news_by d log) in
    let one = Has_times t (news h.op) here.1 in
    omega arith
NewBy_times d t (h ∷ log) (inr there) = go (NewBy_times d t log there) (h.maker == d)
  where
    go : 1 ≤ times t (news_by d log) → (b : Bool) → 1 ≤ times t (if b then news h.op ++ news_by d log else news_by d log)
    go rest true = let e = times-append t (news h.op) (news_by d log) in omega arith
    go rest false = rest

-- each insertion is somebody's
pub HasNew_by : (t : Tag) (log : List Entry) → HasNew t (operations log) → (d : ℕ) × NewBy d t log
HasNew_by t [] h = absurd h
HasNew_by t (h ∷ log) (inl here) = (h.maker, inl (refl, here))
HasNew_by t (h ∷ log) (inr there) = let rest = HasNew_by t log there in (rest.0, inr rest.1)

NewBy_within : (n d : ℕ) (t : Tag) (log : List Entry) → All (λ h. h.maker < n) log → NewBy d t log → d < n
NewBy_within n d t [] all h = absurd h
NewBy_within n d t (h ∷ log) all (inl here) = let first : h.maker < n = all 0 h (omega arith) in let e = here.0 in omega arith
NewBy_within n d t (h ∷ log) all (inr there) = NewBy_within n d t log (λ k e below. all (suc k) e (omega arith)) there

pub NewBy_left : (d : ℕ) (t : Tag) (xs ys : List Entry) → NewBy d t xs → NewBy d t (xs ++ ys)
NewBy_left d t [] ys h = absurd h
NewBy_left d t (x ∷ xs) ys (inl here) = inl here
NewBy_left d t (x ∷ xs) ys (inr there) = inr (NewBy_left d t xs ys there)

pub NewBy_right : (d : ℕ) (t : Tag) (xs ys : List Entry) → NewBy d t ys → NewBy d t (xs ++ ys)
NewBy_right d t [] ys h = h
NewBy_right d t (x ∷ xs) ys h = inr (NewBy_right d t xs ys h)

bool_le : (b : Bool) → (if b then 1 else 0) ≤ 1
bool_le true = omega arith
bool_le false = omega arith

bool_at : (b : Bool) → 1 ≤ (if b then 1 else 0) → b ≡ true
bool_at true h = refl
bool_at false h = absurd (omega arith)

pub allowance-le : (c n : ℕ) (t : Tag) → allowance c n t ≤ 1
allowance-le c n t = bool_le ((t.origin == c) && nat_lt t.serial n)

pub allowance_at : (c n : ℕ) (t : Tag) → 1 ≤ allowance c n t → (t.origin ≡ c) × (t.serial < n)
allowance_at c n t h =
    let parts = and_parts (t.origin == c) (nat_lt t.serial n) (bool_at ((t.origin == c) && nat_lt t.serial n) h) in
    (eqb-true t.origin c parts.0, ltb-true t.serial n parts.1)

-- what the log inserts is of its maker, below its count
pub log_tag : (start : List Tagged) (text : List ℕ) (s : State) (d : ℕ) (t : Tag) → IsSoundFrom start text s → NewBy d t s.log
    → (x : Client) × (slice_get s.clients d ≡ Some x) × (t.origin ≡ d) × (t.serial < x.count) × (d < length s.clients)
log_tag start text s d t sound by =
    let none : Client = record { revision = 0; phase = Synchronized; list = []; count = 0; message = None } in
    let within = NewBy_within (length s.clients) d t s.log sound.makers by in
    let at = slice_get-get_or s.clients d none within in
    let one = NewBy_times d t s.log by in
    let own = sound.own d (get_or s.clients d none) at t in
    let some : 1 ≤ allowance d (get_or s.clients d none).count t = omega arith in
    let facts = allowance_at d (get_or s.clients d none).count t some in
    (get_or s.clients d none, at, facts.0, facts.1, within)

-- what a client has pending is not in the log
pub pending_tag : (start : List Tagged) (text : List ℕ) (s : State) (c : ℕ) (x : Client) (t : Tag) → IsSoundFrom start text s → slice_get s.clients c ≡ Some x → Has t (news_pending x)
    → (t.origin ≡ c) × (t.serial < x.count) × (HasNew t (operations s.log) → ⊥)
pending_tag start text s c x t sound at h =
    let own = sound.own c x at t in
    let one = Has_times t (news_pending x) h in
    let some : 1 ≤ allowance c x.count t = omega arith in
    let facts = allowance_at c x.count t some in (
      facts.0,
      facts.1,
      λ new.
          let by = HasNew_by t s.log new in
          let maker = log_tag start text s by.0 t sound by.1 in
          let mine : NewBy c t s.log = subst (λ (k : ℕ). NewBy k t s.log) (sym maker.2 ∙ facts.0) by.1 in
          let two = NewBy_times c t s.log mine in
          let most = allowance-le c x.count t in
          absurd (omega arith),
    )

-- no tag is inserted twice in the log
NewBy_append : (d : ℕ) (t : Tag) (xs ys : List Entry) → NewBy d t xs → NewBy d t ys → 2 ≤ times t (news_by d (xs ++ ys))
NewBy_append d t xs ys a b =
    let e : times t (news_by d (xs ++ ys)) ≡ times t (news_by d xs) + times t (news_by d ys) = ap (times t) (news_by-append d xs ys) ∙ times-append t (news_by d xs) (news_by d ys) in
    let one = NewBy_times d t xs a in
    let two = NewBy_times d t ys b in
    omega arith

pub log_once : (start : List Tagged) (text : List ℕ) (s : State) (t : Tag) (xs ys : List Entry) → IsSoundFrom start text s → xs ++ ys ≡ s.log → HasNew t (operations xs) → HasNew t (operations ys) → ⊥
log_once start text s t xs ys sound split a b =
    let x = HasNew_by t xs a in
    let y = HasNew_by t ys b in
    let first = log_tag start text s x.0 t sound (subst (NewBy x.0 t) split (NewBy_left x.0 t xs ys x.1)) in
    let second = log_tag start text s y.0 t sound (subst (NewBy y.0 t) split (NewBy_right y.0 t xs ys y.1)) in
    let mine : NewBy x.0 t ys = subst (λ (k : ℕ). NewBy k t ys) (sym second.2 ∙ first.2) y.1 in
    let two : 2 ≤ times t (news_by x.0 s.log) = subst (λ (w : List Entry). 2 ≤ times t (news_by x.0 w)) split (NewBy_append x.0 t xs ys x.1 mine) in
    let own = sound.own x.0 first.0 first.1 t in
    let most = allowance-le x.0 first.0.count t in
    absurd (omega arith)
