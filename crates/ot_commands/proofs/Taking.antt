-- The sessions of an input, from their parts.
use Rattle.std.proofs.Common.{◌≡◌, ◌≤◌, ◌+◌, ◌-◌, ◌^◌, ℕ, suc, Bool, true, false, List, [], ◌∷◌, length, length-append, Option, Some, None, refl, sym, ap, subst, ◌∙◌, inl, inr, arith}
use Rattle.std.specs.Prelude.{◌&&◌, ◌||◌, IfSome, if◌then◌else◌}
use Rattle.streams.specs.Lines.{lines_of}
use Rattle.ot_asm.specs.Parts.{TakesPart, is_mark, lines_before, lines_behind}
use Rattle.ot_asm.specs.declared.fault.AsmFault.{AsmFault}
use Rattle.ot_asm.specs.declared.fault.Kind.TheVariants.{Memory, ReadFault}
use Rattle.ot_conform.specs.declared.reading.CompareStop.{CompareStop}
use Rattle.ot_conform.specs.declared.reading.CompareStop.TheVariants as stop
use Rattle.ot_commands.specs.Part.{BreaksIn, has_mark}
use Rattle.ot_commands.specs.Sessions.{IsCompareFault, IsSessionFault, IsTakeFault, RefusesSchedule, TakesMarked, fault_behind}
use Rattle.ot_commands.specs.declared.sessions.SessionFault.{SessionFault}
use Rattle.ot_commands.specs.declared.sessions.SessionFault.TheVariants.{Line, NoMark}

-- ---- lines before and behind a mark

behind_most : (ls : List (List ℕ)) → length (lines_behind true ls) ≤ length ls
unfolding lines_behind
behind_most [] = omega arith
behind_most (l ∷ ls) = by (is_mark l) (behind_most ls)
  where
    by : (b : Bool) → length (lines_behind true ls) ≤ length ls → length (if b then ls else lines_behind true ls) ≤ suc (length ls)
    by true most = omega arith
    by false most = omega (arith, most)

behind_fewer : (l : List ℕ) (ls : List (List ℕ)) → length (lines_behind true (l ∷ ls)) ≤ length ls
unfolding lines_behind
behind_fewer l ls = by (is_mark l)
  where
    by : (b : Bool) → length (if b then ls else lines_behind true ls) ≤ length ls
    by true = omega arith
    by false = behind_most ls

before_most : (ls : List (List ℕ)) → length (lines_before true ls) ≤ length ls
unfolding lines_before
before_most [] = omega arith
before_most (l ∷ ls) = by (is_mark l) (before_most ls)
  where
    by : (b : Bool) → length (lines_before true ls) ≤ length ls → length (if b then [] else l ∷ lines_before true ls) ≤ suc (length ls)
    by true most = omega arith
    by false most = omega (arith, most)

-- where all lines are left, there are none
none_left : (ls : List (List ℕ)) → length ls ≡ length (lines_behind true ls) → ls ≡ []
none_left [] all = refl
none_left (l ∷ ls) all = absurd (omega (arith, all, behind_fewer l ls))

-- without a mark nothing stands behind it
nothing_behind : (ls : List (List ℕ)) → has_mark ls ≡ false → lines_behind true ls ≡ []
unfolding lines_behind
nothing_behind [] none = refl
nothing_behind (l ∷ ls) none = by (is_mark l) none (λ (h : has_mark ls ≡ false). nothing_behind ls h)
  where
    by : (b : Bool) → (b || has_mark ls) ≡ false → (has_mark ls ≡ false → lines_behind true ls ≡ []) → (if b then ls else lines_behind true ls) ≡ []
    by true none rest = absurd (cc none)
    by false none rest = rest none

-- ---- a part is taken

pub takes_none : (all rest : Option (List ℕ)) (text : List ℕ) (earlier taken : ℕ) → TakesPart true all rest taken → taken ≡ 0 → IfSome all (λ bytes. TakesMarked earlier (lines_of bytes) rest text None)
takes_none None rest text earlier taken part none = tt
takes_none (Some all) None text earlier taken part none = absurd part
takes_none (Some all) (Some rest) text earlier taken part none = none_left (lines_of all) (omega (arith, none, part.1, ap length part.0))

pub takes_no_mark : (unread : Bool) (all rest : Option (List ℕ)) (earlier taken number : ℕ) (marked : Bool) → TakesPart true all rest taken → IfSome all (λ bytes. marked ≡ has_mark (lines_of bytes)) → marked ≡ false → number ≡ earlier + taken + 1
    → IfSome all (λ bytes. IsTakeFault unread earlier (lines_of bytes) (NoMark number))
takes_no_mark unread None rest earlier taken number marked part has is at = tt
takes_no_mark unread (Some all) None earlier taken number marked part has is at = absurd part
takes_no_mark unread (Some all) (Some rest) earlier taken number marked part has is at =
    let none = sym has ∙ is in
    (none, omega (arith, at, part.1, ap length part.0, ap length (nothing_behind (lines_of all) none)))

pub takes_broken : (unread : Bool) (all : Option (List ℕ)) (text : List ℕ) (earlier : ℕ) (f : AsmFault) → earlier ≤ 2 ^ 51 → IfSome all (λ bytes. BreaksIn unread text (lines_before true (lines_of bytes)) f)
    → IfSome all (λ bytes. IsTakeFault unread earlier (lines_of bytes) (Line (fault_behind earlier f)))
takes_broken unread None text earlier f few breaks = tt
takes_broken unread (Some all) text earlier f few breaks =
    let most = before_most (lines_of all) in
    let here = ap length breaks.all ∙ length-append (lines_of text) breaks.rest in
    record { cause = breaks.cause; least = omega (arith, few, breaks.number); most = omega (arith, most, here, breaks.number) }

-- ---- a comparison fails

abbrev pub stop_line : CompareStop → ℕ
stop_line (stop.ReadFault n) = n
stop_line (stop.Memory n) = n

-- ---- a session

and_true : (a b : Bool) → a ≡ true → b ≡ true → (a && b) ≡ true
and_true a b one two = rw (one, two) refl

-- the comparison
pub fails_comparing : (unread : Bool) (first earlier count : ℕ) (all middle rest : Option (List ℕ)) (text port : List ℕ) (f : SessionFault) → IfSome all (λ a. TakesMarked first (lines_of a) middle text (Some earlier))
    → IfSome middle (λ m. TakesMarked earlier (lines_of m) rest port (Some count))
    → IsCompareFault first (lines_of text) earlier (lines_of port) f
    → IfSome all (λ a. IsSessionFault unread first (lines_of a) f)
fails_comparing unread first earlier count None middle rest text port f one two is = tt
fails_comparing unread first earlier count (Some all) None rest text port f (has, ended, lines, left, at) two is = absurd left
fails_comparing unread first earlier count (Some all) (Some middle) rest text port (NoMark n) one two is = absurd is
fails_comparing unread first earlier count (Some all) (Some middle) rest text port (Line f) (has, ended, lines, left, at) two (inl refuses) = inl (subst (λ (ls : List (List ℕ)). RefusesSchedule first ls f) lines refuses)
fails_comparing unread first earlier count (Some all) (Some middle) rest text port (Line f) (has, ended, lines, left, at) (has', ended', lines', left', at') (inr (cause, least, most)) =
    inr (record { cause = inl cause; least = least; most = omega (arith, most, at, ap length left, ap length lines', before_most (lines_of middle)) })
