-- There is one stop at most.
use Rattle.std.proofs.Common.{◌≡◌, ℕ, ◌<◌, length, refl, ap, sym, ◌∙◌, subst, arith, inl, inr}
use Rattle.std.proofs.lemmas.Option.{same_Some, slice_get_within}
use Rattle.ot_isa.specs.Program.{Program}
use Rattle.ot_model.specs.declared.shown.Refusal.{Refusal}
use Rattle.ot_model.specs.Table.{Place, Refused, step}
use Rattle.ot_debug.specs.declared.command.Why.{Why}
use Rattle.ot_debug.specs.declared.command.Why.TheVariants as why
use Rattle.ot_debug.specs.Session.{Session}
use Rattle.ot_debug.specs.Stops.{ChangesFirst, IsEnding, IsReason, IsRefusedAt, IsRunStop, IsStepStop}

first_once : (x : Session) (q j k : ℕ) → ChangesFirst x q j → ChangesFirst x q k → j ≡ k
first_once x q j k a b =
    let no_less : ¬ (j < k) = λ less. b.first j less a.changes in
    let no_more : ¬ (k < j) = λ less. a.first k less b.changes in
    omega arith

refused_once : (s : Program) (q : ℕ) (a b : Refusal) → IsRefusedAt s q a → IsRefusedAt s q b → a ≡ b
refused_once s q a b one two =
    let place : one.place ≡ two.place = same_Some _ _ (sym one.at ∙ two.at) in
    let instr : one.instr ≡ two.instr = same_Some _ _ (sym one.here ∙ two.here) in
    let outcome : step one.place.state one.instr ≡ step two.place.state two.instr = ap (λ (p : Place). step p.state one.instr) place ∙ ap (step two.place.state) instr in
    let same : Refused a ≡ Refused b = sym one.refused ∙ outcome ∙ two.refused in
    cc

past_end : (s : Program) (q : ℕ) (r : Refusal) → q ≡ length s.instrs → ¬ IsRefusedAt s q r
past_end s q r at_end is = let less : q < length s.instrs = slice_get_within s.instrs q is.instr is.here in absurd (omega arith)

ending_once : (s : Program) (q : ℕ) (a b : Why) → IsEnding s q a → IsEnding s q b → a ≡ b
ending_once s q why.End why.End one two = refl
ending_once s q why.End (why.Refused r) one two = absurd (past_end s q r one two)
ending_once s q (why.Refused r) why.End one two = absurd (past_end s q r two one)
ending_once s q (why.Refused r) (why.Refused t) one two = ap why.Refused (refused_once s q r t one two)
ending_once s q why.End why.Break one two = absurd two
ending_once s q why.End (why.Watch k) one two = absurd two
ending_once s q why.End why.Count one two = absurd two
ending_once s q (why.Refused r) why.Break one two = absurd two
ending_once s q (why.Refused r) (why.Watch k) one two = absurd two
ending_once s q (why.Refused r) why.Count one two = absurd two
ending_once s q why.Break b one two = absurd one
ending_once s q (why.Watch j) b one two = absurd one
ending_once s q why.Count b one two = absurd one

reason_once : (x : Session) (from q : ℕ) (a b : Why) → IsReason x from q a → IsReason x from q b → a ≡ b
reason_once x from q (why.Watch j) (why.Watch k) one two = ap why.Watch (first_once x _ j k one.1 two.1)
reason_once x from q (why.Watch j) why.Break one two = absurd (two.2 j one.1.changes)
reason_once x from q (why.Watch j) why.End one two = absurd (two.1.unwatched one.0 j one.1.changes)
reason_once x from q (why.Watch j) (why.Refused r) one two = absurd (two.1.unwatched one.0 j one.1.changes)
reason_once x from q (why.Watch j) why.Count one two = absurd two
reason_once x from q why.Break (why.Watch k) one two = absurd (one.2 k two.1.changes)
reason_once x from q why.Break why.Break one two = refl
reason_once x from q why.Break why.End one two = absurd (two.1.unbroken one.0 one.1)
reason_once x from q why.Break (why.Refused r) one two = absurd (two.1.unbroken one.0 one.1)
reason_once x from q why.Break why.Count one two = absurd two
reason_once x from q why.End (why.Watch k) one two = absurd (one.1.unwatched two.0 k two.1.changes)
reason_once x from q why.End why.Break one two = absurd (one.1.unbroken two.0 two.1)
reason_once x from q why.End why.End one two = refl
reason_once x from q why.End (why.Refused r) one two = ending_once x.schedule q why.End (why.Refused r) one.0 two.0
reason_once x from q why.End why.Count one two = absurd two
reason_once x from q (why.Refused r) (why.Watch k) one two = absurd (one.1.unwatched two.0 k two.1.changes)
reason_once x from q (why.Refused r) why.Break one two = absurd (one.1.unbroken two.0 two.1)
reason_once x from q (why.Refused r) why.End one two = ending_once x.schedule q (why.Refused r) why.End one.0 two.0
reason_once x from q (why.Refused r) (why.Refused t) one two = ending_once x.schedule q (why.Refused r) (why.Refused t) one.0 two.0
reason_once x from q (why.Refused r) why.Count one two = absurd two
reason_once x from q why.Count b one two = absurd one

pub run_once : (x : Session) (from q r : ℕ) (a b : Why) → IsRunStop x from q a → IsRunStop x from r b → (q ≡ r) × (a ≡ b)
run_once x from q r a b one two =
    let no_less : ¬ (q < r) = λ less. two.least q a one.onward less one.is in
    let no_more : ¬ (r < q) = λ less. one.least r b two.onward less two.is in
    let same : q ≡ r = omega arith in
    (same, reason_once x from q a b one.is (subst (λ n. IsReason x from n b) (sym same) two.is))

pub step_once : (x : Session) (from n q r : ℕ) (a b : Why) → IsStepStop x from n q a → IsStepStop x from n r b → (q ≡ r) × (a ≡ b)
step_once x from n q r a b (inl one) (inl two) = (one.1 ∙ sym two.1, one.2 ∙ sym two.2)
step_once x from n q r a b (inl one) (inr two) = absurd (let e = one.0 in let f = two.0 in omega arith)
step_once x from n q r a b (inr one) (inl two) = absurd (let e = one.0 in let f = two.0 in omega arith)
step_once x from n q r a b (inr one) (inr two) =
    let same : q ≡ r = one.1 ∙ sym two.1 in
    (same, ending_once x.schedule q a b one.2 (subst (λ k. IsEnding x.schedule k b) (sym same) two.2))
