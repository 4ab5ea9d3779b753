-- Codes in blocks, and the ends of these: what all codes before an end come to, and how many they are.
use Rattle.std.specs.Prelude.{◌≡◌, ℕ, ◌+◌, ◌-◌, ◌<◌, ◌≤◌, ◌^◌, List, [], ◌∷◌, length, take, drop}
use Rattle.ot_codes.specs.declared.code.Code.{Code}
use Rattle.ot_codes.specs.declared.end.End.{End}
use Rattle.ot_codes.specs.Codes.{added, subtracted, sum_of}

-- the end before which there is no code
abbrev pub start : End
start = record { sum = record { kept = 0; deleted = 0; inserted = 0 }; count = 0 }

-- how many codes lie between two ends
abbrev pub between : End → End → ℕ
between done end = end.count - done.count

-- of codes behind an end, the first ones are a block with that end; it has two codes at least where others stand before
pub record IsBlock (done : End) (codes : List Code) (end : End) : Type 0 where
  pub some : done.count < end.count
  pub two : 0 < done.count → 1 < between done end
  pub few : between done end ≤ 64
  pub within : between done end ≤ length codes
  pub sum_is : end.sum ≡ added done.sum (sum_of (take (between done end) codes))

-- codes behind an end lie in blocks with these ends; the last block has none, and two codes at least where there are others
abbrev pub AreEnds : End → List Code → List End → Type 0
AreEnds done codes [] = (length codes ≤ 64) × (0 < done.count → 1 < length codes)
AreEnds done codes (end ∷ ends) = IsBlock done codes end × AreEnds end (drop (between done end) codes) ends

-- the last of the ends behind one
abbrev pub last_end : End → List End → End
last_end done [] = done
last_end done (end ∷ ends) = last_end end ends

-- how many codes the first block has
abbrev pub first_block : End → List Code → List End → ℕ
first_block done codes [] = length codes
first_block done codes (end ∷ ends) = between done end

-- an end behind one, which may stand so far behind another
pub record MayMove (from to end : End) : Type 0 where
  pub behind : from.count ≤ end.count
  pub kept : from.sum.kept ≤ end.sum.kept
  pub deleted : from.sum.deleted ≤ end.sum.deleted
  pub inserted : from.sum.inserted ≤ end.sum.inserted
  pub fits : to.count + end.count < from.count + 2 ^ 32
  pub kept_fits : to.sum.kept + end.sum.kept < from.sum.kept + 2 ^ 32
  pub deleted_fits : to.sum.deleted + end.sum.deleted < from.sum.deleted + 2 ^ 32
  pub inserted_fits : to.sum.inserted + end.sum.inserted < from.sum.inserted + 2 ^ 32

-- it, moved there
abbrev pub moved : End → End → End → End
moved from to end = record { sum = added to.sum (subtracted end.sum from.sum); count = to.count + between from end }
