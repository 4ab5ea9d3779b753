-- Where nothing is on its way all is quiet, and nothing is left to do.
use Rattle.std.proofs.Common.{◌≡◌, ℕ, zero, suc, ◌-◌, ◌<◌, List, [], ◌∷◌, length, take, drop, refl, sym, ap, ◌∙◌, subst, arith, Bool, true, false, Option, Some, None, length-drop, inl, inr}
use Rattle.std.specs.Prelude.{slice_get, sum_by, if◌then◌else◌, IfSome, IsSome}
use Rattle.std.proofs.lemmas.List.Sums.{sum_by-cons}
use Rattle.std.proofs.lemmas.Option.{slice_get_within}
use Rattle.ot_isa.specs.declared.elements.Tagged.{Tagged}
use Rattle.ot_model.specs.Sound.{IsSound, IsPhaseSound}
use Rattle.ot_model.specs.Table.{Phase, NotJoined, Synchronized, AwaitingConfirm, AwaitingWithBuffer, is_joined, Client, Entry, State, IsQuiet}
use Rattle.ot_model.proofs.States.{not_joined}
use Rattle.ot_generate.specs.Left.{in_transit, in_buffer, work, left, owed}
use Rattle.ot_generate.specs.declared.choice.Move.{Move}
use Rattle.ot_generate.specs.Walks.{WalkView, IsAtRest, IsOffered, IsPossible, IsWalk, HasSpare}

-- a client without a message, that has received all, has nothing pending
phase_rests : (c : ℕ) (phase : Phase) (start list : List Tagged) (seen : List Entry) → is_joined phase ≡ true → IsPhaseSound c phase start seen [] list None → phase ≡ Synchronized
phase_rests c NotJoined start list seen on sound = absurd (cc)
phase_rests c Synchronized start list seen on sound = refl
phase_rests c (AwaitingConfirm o) start list seen on sound = absurd sound.sent
phase_rests c (AwaitingWithBuffer o b) start list seen on sound = absurd sound.sent

pub rests : (s : State) → IsSound s → ((c : ℕ) → c < length s.clients → IsAtRest s c) → IsQuiet s
rests s (start, text, sound) all c x at on =
    let rest = all c (slice_get_within s.clients c x at) in
    let message : x.message ≡ None = rest.0 x at on in
    let received : drop x.revision s.log ≡ [] = rest.1 x at on in
    let seen = take x.revision s.log in
    let whole : IsPhaseSound c x.phase start seen (drop x.revision s.log) x.list x.message = sound.clients c x at in
    let sent : IsPhaseSound c x.phase start seen (drop x.revision s.log) x.list None = subst (λ m. IsPhaseSound c x.phase start seen (drop x.revision s.log) x.list m) message whole in
    let still : IsPhaseSound c x.phase start seen [] x.list None = subst (λ ahead. IsPhaseSound c x.phase start seen ahead x.list None) received sent in
    record { no_message = message; no_downlink = received; synchronized = phase_rests c x.phase start x.list seen on still }

sum_zero : (f : Client → ℕ) (clients : List Client) → ((c : ℕ) (x : Client) → slice_get clients c ≡ Some x → f x ≡ 0) → sum_by f clients ≡ 0
sum_zero f [] all = refl
sum_zero f (x ∷ clients) all =
    let rest = sum_zero f clients (λ c y at. all (suc c) y at) in
    let first = all zero x refl in
    sum_by-cons f x clients ∙ omega arith

no_work : (s : State) (c : ℕ) (x : Client) (b : Bool) → is_joined x.phase ≡ b → IsSound s → IsQuiet s → slice_get s.clients c ≡ Some x → work (length s.clients) (length s.log) x ≡ 0
no_work s c x true on sound quiet at =
    let q = quiet c x at on in
    let n = length s.clients in
    let none : length s.log - x.revision ≡ 0 = sym (length-drop x.revision s.log) ∙ ap length q.no_downlink in
    let message : in_transit n x.message ≡ 0 = ap (in_transit n) q.no_message in
    let buffer : in_buffer n x.phase ≡ 0 = ap (in_buffer n) q.synchronized in
    let ahead : (if is_joined x.phase then length s.log - x.revision else 0) ≡ length s.log - x.revision = rw on refl in
    omega arith
no_work s c x false off (start, text, sound) quiet at = ap (work (length s.clients) (length s.log)) (sound.absents c x at (not_joined x.phase off)).0

pub nothing_left : (s : State) → IsSound s → IsQuiet s → left s ≡ 0
nothing_left s sound quiet = sum_zero (work (length s.clients) (length s.log)) s.clients (λ c x at. no_work s c x (is_joined x.phase) refl sound quiet at)

-- what is chosen among what is offered
pub still_possible : (w : WalkView) (before next after : Option Move) → IfSome before (IsPossible w) → IfSome next (IsPossible w) → IsOffered before next after → IfSome after (IsPossible w)
still_possible w before None after old given offered = subst (λ o. IfSome o (IsPossible w)) (sym offered) old
still_possible w before (Some next) after old given offered = elim offered [
  | inl e ↦ subst (λ o. IfSome o (IsPossible w)) (sym e) given
  | inr e ↦ subst (λ o. IfSome o (IsPossible w)) (sym e.0) old
]

pub none_before : (before next after : Option Move) → IsOffered before next after → after ≡ None → before ≡ None
none_before before None after offered none = sym offered ∙ none
none_before before (Some next) after offered none = elim offered [
  | inl e ↦ absurd (let clash = sym e ∙ none in cc)
  | inr e ↦ sym e.0 ∙ none
]

some_none : (o : Option Move) → o ≡ None → IsSome o → ⊥
some_none None e h = absurd (let x = h in cc)
some_none (Some m) e h = absurd (cc)

pub none_next : (before next after : Option Move) → IsOffered before next after → after ≡ None → next ≡ None
none_next before None after offered none = refl
none_next before (Some next) after offered none = elim offered [
  | inl e ↦ absurd (let clash = sym e ∙ none in cc)
  | inr e ↦ absurd (some_none before (sym e.0 ∙ none) e.1)
]

-- nothing is spare, and where the end is not open all is quiet: then the room is used up
pub used_up : (w : WalkView) (spare : ℕ) → IsWalk w → HasSpare w spare → spare ≡ 0 → (w.is_open ≡ false → IsQuiet w.state) → length w.recorded.instrs ≡ w.room
used_up w spare kept room none quiet = go w.is_open refl
  where
    go : (b : Bool) → w.is_open ≡ b → length w.recorded.instrs ≡ w.room
    go true on =
        let nothing : owed w.is_open w.state ≡ 0 = ap (λ b. owed b w.state) on in
        omega arith
    go false off =
        let nothing : owed w.is_open w.state ≡ 0 = ap (λ b. owed b w.state) off ∙ nothing_left w.state kept.sound (quiet off) in
        omega arith
