-- Counted edits, and what an event sees after the last one of its replica.
use Rattle.std.proofs.Common.{◌≡◌, ℕ, ◌+◌, ◌<◌, ◌≤◌, List, length, get_or, take, ap, sym, ◌∙◌, cond, arith, Bool, true, inl, inr, subst, eq-eqb, below_more, ◌≢◌}
use Rattle.std.specs.Prelude.{Option, Some, None, IfSome, IsTrue, sum_by}
use Rattle.std.proofs.lemmas.Bool.{and_parts, cases_lt, cases_order, eqb-true, ltb-true, or_cases, or_right}
use Rattle.std.proofs.lemmas.List.{get_or_past, take-take}
use Rattle.std.proofs.lemmas.List.Sums.{sum_by_more, sum_by-take-le}
use Rattle.ot_model.specs.Trace.{EventView, event_at, no_event}
use Rattle.ot_model.specs.Visibility.{edits_before, follows, is_edit_of, seen_of, sees, SeesRightly}
use Rattle.ot_judge.specs.Numbers.{IsNumbered}
use Rattle.ot_judge.specs.Turns.{IsBacked, IsEdit, IsLastOf, SeesAsMuch}

abbrev number_of : Bool → ℕ
number_of b = cond b 1 0

edits-step : (events : List EventView) (d r : ℕ) → d < length events → edits_before events (d + 1) r ≡ edits_before events d r + cond (is_edit_of r (event_at events d)) 1 0
edits-step events d r lt = sum_by_more (λ y. cond (is_edit_of r y) 1 0) events d no_event lt

pub edits-le : (events : List EventView) (d e r : ℕ) → d ≤ e → edits_before events d r ≤ edits_before events e r
edits-le events d e r le =
    let f : EventView → ℕ = λ y. cond (is_edit_of r y) 1 0 in
    omega (arith, sum_by-take-le f (take e events) d, ap (sum_by f) (take-take d e events le))

pub edits-past : (events : List EventView) (d e r : ℕ) → d < e → d < length events → is_edit_of r (event_at events d) ≡ true → edits_before events d r + 1 ≤ edits_before events e r
edits-past events d e r lt within is =
    omega (arith, edits-step events d r within, ap number_of is, edits-le events (d + 1) e r (omega arith))

-- an edit is known by its replica and its number
pub one-edit : (events : List EventView) (r n d k : ℕ) → IsEdit events r n d → IsEdit events r n k → d ≡ k
one-edit events r n d k a b = elim (cases_order d k) [
  | inl same ↦ same
  | inr (inl before) ↦ absurd (omega (arith, edits-past events d k r before a.within a.edit, a.number, b.number))
  | inr (inr after) ↦ absurd (omega (arith, edits-past events k d r after b.within b.edit, a.number, b.number))
]

pub replica-is : (r : ℕ) (x : EventView) → is_edit_of r x ≡ true → (x.edit ≡ true) × (x.replica ≡ r)
replica-is r x h = let parts = and_parts x.edit _ h in (parts.0, eqb-true x.replica r parts.1)

pub follows-same : (events : List EventView) (p d : ℕ) → (event_at events d).replica ≡ (event_at events p).replica → IsTrue (follows events p d)
follows-same events p d same = or_right (sees events p d) _ (eq-eqb (event_at events d).replica (event_at events p).replica same)

past-backed : (events : List EventView) (e r : ℕ) → e < length events → IsBacked events e r → seen_of (event_at events e) r ≤ edits_before events e r
past-backed events e r within (inl none) = omega (arith, none)
past-backed events e r within (inr w) = omega (arith, edits-past events w.0 e r w.1.before (omega (arith, w.1.before)) w.1.edit, w.1.number)

closed-same : (events : List EventView) (e d : ℕ) (last : Option ℕ) → IsLastOf events e (event_at events e).replica last → IfSome last (λ p. SeesAsMuch events e p) → ((k : ℕ) → k < e → SeesRightly events k) → d < e → (event_at events d).replica ≡ (event_at events e).replica → SeesAsMuch events e d
closed-same events e d None lastof on before lt same = absurd (lastof d lt same)
closed-same events e d (Some p) lastof on before lt same = elim (cases_order d p) [
  | inl here ↦ subst (λ (k : ℕ). SeesAsMuch events e k) (sym here) on
  | inr (inl less) ↦ λ r. omega (arith, (before p lastof.before).closed d less (follows-same events p d (same ∙ sym lastof.same)) r, on r)
  | inr (inr more) ↦ absurd (lastof.last d more lt same)
]

closed-seen : (events : List EventView) (e d : ℕ) → ((r : ℕ) → IsBacked events e r) → ((k : ℕ) → k < e → SeesRightly events k) → d < e → e < length events → sees events e d ≡ true → SeesAsMuch events e d
closed-seen events e d backed before lt within seen =
    let q : ℕ = (event_at events d).replica in
    let parts = and_parts (event_at events d).edit _ seen in
    let few = ltb-true (edits_before events d q) (seen_of (event_at events e) q) parts.1 in
    elim (backed q) [
      | inl none ↦ absurd (omega (arith, none, few))
      | inr w ↦ elim (cases_order d w.0) [
        | inl here ↦ subst (λ (k : ℕ). SeesAsMuch events e k) (sym here) w.1.closed
        | inr (inl less) ↦ λ r. omega (arith, (before w.0 w.1.before).closed d less (follows-same events w.0 d (sym (replica-is q (event_at events w.0) w.1.edit).1)) r, w.1.closed r)
        | inr (inr more) ↦ absurd (omega (arith, edits-past events w.0 d q more (omega (arith, w.1.before, within)) w.1.edit, w.1.number, few))
      ]
    ]

-- the last event of the replica and the last counted edits show what the event has to see
pub sees-after : (events : List EventView) (e : ℕ) (last : Option ℕ) → e < length events → IsLastOf events e (event_at events e).replica last
    → seen_of (event_at events e) (event_at events e).replica ≡ edits_before events e (event_at events e).replica → IfSome last (λ p. SeesAsMuch events e p) → ((r : ℕ) → IsBacked events e r)
    → ((d : ℕ) → d < e → SeesRightly events d) → SeesRightly events e
sees-after events e last within lastof own on backed before = record {
  own = own;
  past = λ r. past-backed events e r within (backed r);
  closed = λ d lt f. elim (or_cases (sees events e d) _ f) [
    | inl seen ↦ closed-seen events e d backed before lt within seen
    | inr same ↦ closed-same events e d last lastof on before lt (eqb-true (event_at events d).replica (event_at events e).replica same)
  ];
}

-- an edit of the replica, by its number
pub numbered-edit : (events : List EventView) (numbers : List ℕ) (r n d : ℕ) → d < length events → IsNumbered events numbers → is_edit_of r (event_at events d) ≡ true → get_or numbers d 0 ≡ n → IsEdit events r n d
numbered-edit events numbers r n d within numbered edit is = record {
  within = within;
  edit = edit;
  number = ap (λ (k : ℕ). edits_before events d k) (sym (replica-is r (event_at events d) edit).1) ∙ sym (numbered.each d within) ∙ is;
}

-- the last edit that an event counts backs it
pub backed-by : (events : List EventView) (e r n d : ℕ) → IsEdit events r n d → n + 1 ≡ seen_of (event_at events e) r → d < e → SeesAsMuch events e d → IsBacked events e r
backed-by events e r n d is few before closed = inr (d, record { before = before; edit = is.edit; number = omega (arith, is.number, few); closed = closed })

-- an event counts no edits of replicas past those that it names
pub backed-all : (events : List EventView) (e n : ℕ) → length (event_at events e).seen ≤ n → ((k : ℕ) → k < n → IsBacked events e k) → (r : ℕ) → IsBacked events e r
backed-all events e n long below r = elim (cases_lt r n) [
  | inl here ↦ below r here
  | inr past ↦ inl (get_or_past (event_at events e).seen r 0 (omega (arith, long, past)))
]

-- the last event of the replica stands among the events
pub last-within : (events : List EventView) (n e r : ℕ) (last : Option ℕ) → IsLastOf events e r last → e < n → IfSome last (λ p. p < n)
last-within events n e r None h lt = tt
last-within events n e r (Some p) h lt = omega (arith, h.before)

-- the replica's event at e is its last one from then on, and another's leaves it as it is
pub last-here : (events : List EventView) (e r : ℕ) → (event_at events e).replica ≡ r → IsLastOf events (e + 1) r (Some e)
last-here events e r same = record { before = omega arith; same = same; last = λ d after before. absurd (omega (arith, after, before)) }

pub last-skip : (events : List EventView) (e r : ℕ) (last : Option ℕ) → (event_at events e).replica ≢ r → IsLastOf events e r last → IsLastOf events (e + 1) r last
last-skip events e r None other h = below_more _ _ h other
last-skip events e r (Some p) other h = record {
  before = omega (arith, h.before);
  same = h.same;
  last = λ d after before. elim (cases_lt d e) [
    | inl early ↦ h.last d after early
    | inr late ↦ let here : d ≡ e = omega (arith, before, late) in subst (λ (k : ℕ). (event_at events k).replica ≢ r) (sym here) other
  ];
}
