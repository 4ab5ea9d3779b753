-- Where a line ends.
use Rattle.std.proofs.Common.{◌≡◌, ◌<◌, ◌==◌, ℕ, List, [], ◌∷◌, ◌++◌, ◌+◌, length, length-append, true, false, Bool, not, ◌&&◌, Option, Some, None, refl, ap, ◌∙◌, append_assoc, append-nil, arith, Result, Ok, Err}
use Rattle.std.specs.Prelude.{OnErr}
use Rattle.std.proofs.lemmas.List.{nil_from_length}
use Rattle.std.specs.Io.KnownBytes.{prepend_known, Consumes, Keeps, IsAtEnd}
use Rattle.std.proofs.KnownBytes.{Consumes-nil, Consumes-kept}
use Rattle.streams.specs.Lines.{lines_of, lacks}
use Rattle.streams.specs.Taken.{TakesLine, Spends, LosesPiece}

other : (b : ℕ) (bs : List ℕ) → lacks (b ∷ bs) ≡ true → ((b == 10) ≡ false) × (lacks bs ≡ true)
unfolding lacks
other b bs h = by (b == 10) refl h
  where
    by : (t : Bool) → (b == 10) ≡ t → (not t && lacks bs) ≡ true → ((b == 10) ≡ false) × (lacks bs ≡ true)
    by true e g = cc
    by false e g = (e, g)

pub lines_piece : (piece rest : List ℕ) → lacks piece ≡ true → lines_of (piece ++ 10 ∷ rest) ≡ piece ∷ lines_of rest
unfolding lines_of
lines_piece [] rest h = refl
lines_piece (b ∷ bs) rest h = let p = other b bs h in rw (p.0, lines_piece bs rest p.1) refl

pub lines_last : (b : ℕ) (bs : List ℕ) → lacks (b ∷ bs) ≡ true → lines_of (b ∷ bs) ≡ (b ∷ bs) ∷ []
unfolding lines_of
lines_last b [] h = let p = other b [] h in rw p.0 refl
lines_last b (c ∷ cs) h = let p = other b (c ∷ cs) h in rw (p.0, lines_last c cs p.1) refl

pub lacks_nil : lacks [] ≡ true
unfolding lacks
lacks_nil = refl

lacks_both : (front piece : List ℕ) → lacks front ≡ true → lacks piece ≡ true → lacks (front ++ piece) ≡ true
unfolding lacks
lacks_both [] piece h g = g
lacks_both (c ∷ cs) piece h g = let p = other c cs h in rw (p.0, lacks_both cs piece p.1 g) refl

-- what was taken of a line: these bytes, none of which is an LF
pub record IsPiece (old now : Option (List ℕ)) (line : List ℕ) : Type 0 where
  lacks_end : lacks line ≡ true
  taken : Consumes old now line

pub begun : (old : Option (List ℕ)) → IsPiece old old []
begun old = record { lacks_end = lacks_nil; taken = Consumes-nil old }

-- bytes were read ahead, or none
pub kept : (old now new : Option (List ℕ)) (line : List ℕ) → IsPiece old now line → Keeps now new → IsPiece old new line
kept old now new line p k = record { lacks_end = p.lacks_end; taken = Consumes-kept old now new line p.taken k }

-- one more piece was taken of what is held
pub longer : (old rest : Option (List ℕ)) (held left line piece : List ℕ) → IsPiece old (prepend_known held rest) line → lacks piece ≡ true → held ≡ piece ++ left → IsPiece old (prepend_known left rest) (line ++ piece)
longer None rest held left line piece p h e = record { lacks_end = lacks_both line piece p.lacks_end h; taken = tt }
longer (Some xs) None held left line piece p h e = absurd p.taken
longer (Some xs) (Some ys) held left line piece p h e = record {
  lacks_end = lacks_both line piece p.lacks_end h;
  taken = p.taken ∙ rw (e, append_assoc piece left ys, append_assoc line piece (left ++ ys)) refl;
}

-- the last piece of the line was taken, and the LF
pub full_line : (old rest : Option (List ℕ)) (held left line piece : List ℕ) → IsPiece old (prepend_known held rest) line → lacks piece ≡ true → held ≡ piece ++ 10 ∷ left → TakesLine old (prepend_known left rest) true (line ++ piece)
full_line None rest held left line piece p h e = tt
full_line (Some xs) None held left line piece p h e = absurd p.taken
full_line (Some xs) (Some ys) held left line piece p h e =
    ap lines_of (p.taken ∙ rw (e, append_assoc piece (10 ∷ left) ys, append_assoc line piece (10 ∷ (left ++ ys))) refl)
    ∙ lines_piece (line ++ piece) (left ++ ys) (lacks_both line piece p.lacks_end h)

last_of : (xs line : List ℕ) → 0 < length line → lacks line ≡ true → xs ≡ line ++ [] → lines_of xs ≡ line ∷ lines_of []
unfolding lines_of
last_of xs [] some h e = absurd (omega (arith, some))
last_of xs (b ∷ line) some h e = ap lines_of (e ∙ append-nil (b ∷ line)) ∙ lines_last b line h

-- the bytes end within a line
pub last_line : (old now : Option (List ℕ)) (line : List ℕ) → 0 < length line → IsPiece old now line → IsAtEnd now → TakesLine old now true line
last_line None now line some p end = tt
last_line (Some xs) None line some p end = absurd p.taken
last_line (Some xs) (Some ys) line some p end = rw end (last_of xs line some p.lacks_end (p.taken ∙ rw end refl))

-- the bytes end behind a line
pub no_line : (old now : Option (List ℕ)) (line : List ℕ) → length line ≡ 0 → IsPiece old now line → IsAtEnd now → TakesLine old now false line
no_line None now line empty p end = tt
no_line (Some xs) None line empty p end = absurd p.taken
no_line (Some xs) (Some ys) line empty p end = (p.taken ∙ rw (end, nil_from_length line empty) refl, end)

spends_of : (most left : ℕ) (xs line ys : List ℕ) → xs ≡ line ++ ys → left + length line ≡ most → left + length xs ≡ most + length ys
spends_of most left xs line ys e count = omega (arith, ap length e, length-append line ys)

-- the line was taken, and nothing behind it
pub spends_piece : (old now : Option (List ℕ)) (most left : ℕ) (line : List ℕ) → IsPiece old now line → left + length line ≡ most → Spends most left old now
spends_piece None now most left line p count = tt
spends_piece (Some xs) None most left line p count = absurd p.taken
spends_piece (Some xs) (Some ys) most left line p count = spends_of most left xs line ys p.taken count

-- the line and its LF were taken
pub spends_line : (old rest : Option (List ℕ)) (held left line piece : List ℕ) (most few : ℕ) → IsPiece old (prepend_known held rest) line → held ≡ piece ++ 10 ∷ left → few + length (line ++ piece) + 1 ≡ most → Spends most few old (prepend_known left rest)
spends_line None rest held left line piece most few p e count = tt
spends_line (Some xs) None held left line piece most few p e count = absurd p.taken
spends_line (Some xs) (Some ys) held left line piece most few p e count =
    omega (arith, ap length p.taken, length-append line (held ++ ys), length-append held ys, ap length e, length-append piece (10 ∷ left), length-append left ys, length-append line piece, count)

-- a fault behind a piece of a line
pub lost : (old now new : Option (List ℕ)) (line : List ℕ) → IsPiece old now line → Keeps now new → LosesPiece old new
lost old now new line p k = let q = kept old now new line p k in (line, q.lacks_end, q.taken)

-- a fault that is handed on
pub handed_on : {T E : Type 0} (r : Result T E) (P : Type 0) → P → OnErr r P
handed_on (Ok x) P p = tt
handed_on (Err e) P p = p
