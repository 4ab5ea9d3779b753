-- An event sees what it has to exactly where there is no cause.
use Rattle.std.proofs.Common.{◌≡◌, ℕ, ◌≤◌, ◌↔◌, List, length, refl, sym, ap, ◌∙◌, cond, arith, Bool, true, false, inl, inr}
use Rattle.std.specs.Prelude.{Option, Some, None}
use Rattle.std.proofs.lemmas.Bool.{cases_lt, eq-eqb, eqb-true, le-ltb, ltb-false}
use Rattle.std.proofs.lemmas.List.{get_or_past}
use Rattle.ot_model.specs.Trace.{EventView, event_at}
use Rattle.ot_model.specs.Visibility.{SeesRightly, edits_before, follows, seen_of}
use Rattle.ot_report.specs.declared.causes.Cause.{Cause}
use Rattle.ot_report.specs.declared.causes.Cause.TheVariants.{Own}
use Rattle.ot_report.specs.Causes.{cause_of, first_lacked, first_passed, lacked_at, lacking, more_at, passed_at, past_or, sees_own}
use Rattle.ot_report.specs.Searches.{first_below}
use Rattle.ot_report.proofs.Below.{all-none, no-number, none-at, number-no}

-- past the counts an event sees no edit
seen-past : (x : EventView) (r : ℕ) → length x.seen ≤ r → seen_of x r ≡ 0
seen-past x r past = get_or_past x.seen r 0 past

-- what no search finds
passed-none : (events : List EventView) (e : ℕ) → first_passed events e ≡ None → (r : ℕ) → seen_of (event_at events e) r ≤ edits_before events e r
passed-none events e none r =
    let x : EventView = event_at events e in
    elim (cases_lt r (length x.seen)) [
      | inl less ↦ ltb-false (edits_before events e r) (seen_of x r) (no-number _ r (none-at (passed_at events e) (length x.seen) r less none))
      | inr more ↦ let none : seen_of x r ≡ 0 = seen-past x r more in omega arith
    ]

lacked-none : (y x : EventView) → first_lacked y x ≡ None → (r : ℕ) → seen_of y r ≤ seen_of x r
lacked-none y x none r =
    elim (cases_lt r (length y.seen)) [
      | inl less ↦ ltb-false (seen_of x r) (seen_of y r) (no-number _ r (none-at (more_at y x) (length y.seen) r less none))
      | inr more ↦ let none : seen_of y r ≡ 0 = seen-past y r more in omega arith
    ]

lacking-none : (b : Bool) (d : ℕ) (o : Option ℕ) → b ≡ true → lacking b d o ≡ None → o ≡ None
lacking-none b d None follows none = refl
lacking-none true d (Some r) follows none = absurd (cc)
lacking-none false d (Some r) follows none = absurd (cc)

lacking-no : (b : Bool) (d : ℕ) (o : Option ℕ) → (b ≡ true → o ≡ None) → lacking b d o ≡ None
lacking-no b d None each = refl
lacking-no true d (Some r) each = absurd (let wrong = each refl in cc)
lacking-no false d (Some r) each = refl

record NoCause (own : Bool) (past : Option ℕ) (lacks : Option Cause) : Type 0 where
  sees : own ≡ true
  passes : past ≡ None
  follows : lacks ≡ None

none-parts : (own : Bool) (past : Option ℕ) (lacks : Option Cause) → cond own (past_or past lacks) (Some Own) ≡ None → NoCause own past lacks
none-parts true None lacks none = record { sees = refl; passes = refl; follows = none }
none-parts true (Some r) lacks none = absurd (cc)
none-parts false past lacks none = absurd (cc)

pub none-sees : (events : List EventView) (e : ℕ) → cause_of events e ≡ None → SeesRightly events e
none-sees events e none =
    let parts = none-parts (sees_own events e) (first_passed events e) (first_below e (lacked_at events e)) none in
    record {
      own = eqb-true _ _ parts.sees;
      past = passed-none events e parts.passes;
      closed = λ d earlier must. lacked-none (event_at events d) (event_at events e) (lacking-none (follows events e d) d _ must (none-at (lacked_at events e) e d earlier parts.follows));
    }

pub sees-none : (events : List EventView) (e : ℕ) → SeesRightly events e → cause_of events e ≡ None
sees-none events e sees =
    let x : EventView = event_at events e in
    let own : sees_own events e ≡ true = eq-eqb _ _ sees.own in
    let passed : first_passed events e ≡ None = all-none (passed_at events e) (length x.seen) (λ r lt. number-no _ r (le-ltb (edits_before events e r) (seen_of x r) (sees.past r))) in
    let lacked : first_below e (lacked_at events e) ≡ None =
    all-none (lacked_at events e) e (λ d earlier. lacking-no (follows events e d) d _ (λ must. all-none (more_at (event_at events d) x) (length (event_at events d).seen) (λ r lt. number-no _ r (le-ltb (seen_of x r) (seen_of (event_at events d) r) (sees.closed d earlier must r))))) in
    ap (λ (b : Bool). cond b (past_or (first_passed events e) (first_below e (lacked_at events e))) (Some Own)) own
    ∙ ap (λ (o : Option ℕ). past_or o (first_below e (lacked_at events e))) passed
    ∙ lacked

pub cause-exact : (events : List EventView) (e : ℕ) (result : Option Cause) → result ≡ cause_of events e → (result ≡ None) ↔ SeesRightly events e
cause-exact events e result is = (λ none. none-sees events e (sym is ∙ none), λ sees. is ∙ sees-none events e sees)
