-- Which instructions share a machine, and the order of machines.
use Rattle.std.proofs.Common.{◌≡◌, ℕ, ◌≢◌, refl, sym, ap, subst, arith, inl, inr, Bool, true, false}
use Rattle.std.specs.Prelude.{◌⊎◌, ◌&&◌, ◌||◌, nat_lt}
use Rattle.std.proofs.lemmas.Bool.{eq-eqb, eqb-true, lt-ltb, ltb-true, ltb-false, le-ltb}
use Rattle.ot_isa.specs.declared.instruction.Instr.{Instr}
use Rattle.ot_isa.specs.declared.instruction.Instr.TheVariants.{Edit, Take, Deliver, Acknowledge, Join, Read, ReadServer}
use Rattle.ot_model.specs.Orders.{Machine, ClientMachine, ServerMachine, is_at}
use Rattle.ot_model.proofs.Reordering.{IsApart}
use Rattle.ot_every.specs.Listing.{machine_of, is_before, shares}

pub both_true : (a b : Bool) → (a && b) ≡ true → (a ≡ true) × (b ≡ true)
both_true true b e = (refl, e)
both_true false b e = absurd (cc)

pub and_true : (a b : Bool) → a ≡ true → b ≡ true → (a && b) ≡ true
and_true a b e f = rw (e, f) refl

pub neither : (a b : Bool) → (a || b) ≡ false → (a ≡ false) × (b ≡ false)
neither true b e = absurd (cc)
neither false b e = (refl, e)

not_both : (a b : Bool) → (a && b) ≡ false → a ≡ true → b ≡ false
not_both a b e on = rw on at e

pub machine_at : (i : Instr) → is_at (machine_of i) i ≡ true
machine_at (Edit c op) = eq-eqb c c refl
machine_at (Take c) = refl
machine_at (Deliver c) = eq-eqb c c refl
machine_at (Acknowledge c) = eq-eqb c c refl
machine_at (Join c) = eq-eqb c c refl
machine_at (Read c) = eq-eqb c c refl
machine_at ReadServer = refl

-- the client's machine at which an instruction is, is that in whose place it is listed
at_own : (c : ℕ) (i : Instr) → is_at (ClientMachine c) i ≡ true → machine_of i ≡ ClientMachine c
at_own c (Edit d op) e = ap ClientMachine (eqb-true d c e)
at_own c (Take d) e = absurd (cc)
at_own c (Deliver d) e = ap ClientMachine (eqb-true d c e)
at_own c (Acknowledge d) e = ap ClientMachine (eqb-true d c e)
at_own c (Join d) e = ap ClientMachine (eqb-true d c e)
at_own c (Read d) e = ap ClientMachine (eqb-true d c e)
at_own c ReadServer e = absurd (cc)

pub shares_not : (i j : Instr) → shares i j ≡ false → IsApart i j
shares_not i j e (ClientMachine c) on = subst (λ (w : Machine). is_at w j ≡ false) (at_own c i on) (neither (is_at (machine_of i) j) _ e).0
shares_not i j e ServerMachine on = not_both (is_at ServerMachine i) (is_at ServerMachine j) (neither (is_at (machine_of i) j) _ e).1 on

pub apart_shares : (i j : Instr) → IsApart i j → shares i j ≡ false
apart_shares i j apart = go (is_at ServerMachine i) refl
  where
    go : (b : Bool) → is_at ServerMachine i ≡ b → shares i j ≡ false
    go true on = rw (apart (machine_of i) (machine_at i), on, apart ServerMachine on) refl
    go false off = rw (apart (machine_of i) (machine_at i), off) refl

pub machines_apart : (i j : Instr) → IsApart i j → machine_of i ≢ machine_of j
machines_apart i j apart same =
    let off = apart (machine_of i) (machine_at i) in
    let on = subst (λ (w : Machine). is_at w j ≡ true) (sym same) (machine_at j) in
    absurd (cc)

-- the order of machines is total
pub either_before : (v w : Machine) → v ≢ w → (is_before v w ≡ true) ⊎ (is_before w v ≡ true)
either_before (ClientMachine c) (ClientMachine d) other = go (nat_lt c d) refl
  where
    go : (b : Bool) → nat_lt c d ≡ b → (nat_lt c d ≡ true) ⊎ (nat_lt d c ≡ true)
    go true is = inl is
    go false is = inr (lt-ltb d c (let n = ltb-false c d is in let m : c ≢ d = λ e. other (ap ClientMachine e) in omega (arith, n, m)))
either_before (ClientMachine c) ServerMachine other = inl refl
either_before ServerMachine (ClientMachine d) other = inr refl
either_before ServerMachine ServerMachine other = absurd (other refl)

pub not_before : (v w : Machine) → is_before v w ≡ true → is_before w v ≡ false
not_before (ClientMachine c) (ClientMachine d) e = le-ltb d c (let n = ltb-true c d e in omega (arith, n))
not_before (ClientMachine c) ServerMachine e = refl
not_before ServerMachine w e = absurd (cc)

pub before_trans : (u v w : Machine) → is_before u v ≡ true → is_before v w ≡ true → is_before u w ≡ true
before_trans (ClientMachine c) (ClientMachine d) (ClientMachine b) e f = lt-ltb c b (let m = ltb-true c d e in let n = ltb-true d b f in omega (arith, m, n))
before_trans (ClientMachine c) (ClientMachine d) ServerMachine e f = refl
before_trans (ClientMachine c) ServerMachine w e f = absurd (cc)
before_trans ServerMachine v w e f = absurd (cc)

pub not_before_itself : (w : Machine) → is_before w w ≡ false
not_before_itself (ClientMachine c) = le-ltb c c (omega arith)
not_before_itself ServerMachine = refl

-- what is before the server is a client's
pub client_before : (v w : Machine) → is_before v w ≡ true → (c : ℕ) × (v ≡ ClientMachine c)
client_before (ClientMachine c) w e = (c, refl)
client_before ServerMachine w e = absurd (cc)
