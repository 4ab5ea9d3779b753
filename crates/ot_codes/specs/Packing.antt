-- Codes in four bytes: the kind in the two highest bits, the length in the others.
use Rattle.std.specs.Prelude.{◌≡◌, ℕ, ◌+◌, ◌-◌, Bool, true, false, nat_lt, if◌then◌else◌, refl}
use Rattle.std.proofs.Math.Nat.{add-sub_of_le}
use Rattle.std.proofs.lemmas.Bool.{ltb-false}
use Rattle.ot_codes.specs.declared.code.Code.{Code}
use Rattle.ot_codes.specs.declared.code.Code.TheVariants.{Retain, Insert, Delete}

-- the code in these bits
abbrev pub unpacked : ℕ → Code
unpacked bits =
    if nat_lt bits 1073741824 then Retain bits
    else if nat_lt bits 2147483648 then Insert (bits - 1073741824)
    else Delete (bits - 2147483648)

-- the bits of a code
abbrev pub packed : Code → ℕ
packed (Retain count) = count
packed (Insert count) = 1073741824 + count
packed (Delete count) = 2147483648 + count

-- the bits are those of the code that they hold
pub packed_back : (bits : ℕ) → packed (unpacked bits) ≡ bits
packed_back bits = by (nat_lt bits 1073741824) (nat_lt bits 2147483648) refl refl
  where
    by :
        (p q : Bool) → nat_lt bits 1073741824 ≡ p → nat_lt bits 2147483648 ≡ q
        → packed (if p then Retain bits else if q then Insert (bits - 1073741824) else Delete (bits - 2147483648)) ≡ bits
    by true q e f = refl
    by false true e f = add-sub_of_le (ltb-false bits 1073741824 e)
    by false false e f = add-sub_of_le (ltb-false bits 2147483648 f)
