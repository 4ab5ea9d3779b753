-- The sum that is kept beside codes.
use Rattle.std.proofs.Common.{◌≡◌, ℕ, ◌+◌, ◌<◌, ◌≤◌, List, [], ◌∷◌, ◌++◌, length, map, max, arith}
use Rattle.ot_operation.specs.Operation.{Operation, IsTooLong, New, news, olds, with_retain, with_insert, with_delete}
use Rattle.ot_operation.specs.Run.{base_of, image_from, Extends}
use Rattle.ot_operation.proofs.RunLemmas.{length-news-append, length-news-olds, length-news-news, longest_retain, longest_insert, sound_retain, sound_insert, sound_delete}
use Rattle.ot_operation.specs.Steps.{appended}
use Rattle.ot_codes.specs.declared.code.Code.{Code}
use Rattle.ot_codes.specs.declared.code.Code.TheVariants.{Retain, Insert, Delete}
use Rattle.ot_codes.specs.declared.code.Sum.{Sum}
use Rattle.ot_codes.specs.Codes.{blanks, run_of, runs_of, spelled, length_of, total_of, counted, AreSound}
use Rattle.ot_codes.proofs.Put.{length-blanks}

pub total_is : (i : ℕ) (cs : List Code) → total_of cs ≡ base_of (runs_of cs) + length (news (image_from i (runs_of cs)))
total_is i [] = omega arith
total_is i (Retain n ∷ cs) =
    omega (arith, total_is (i + n) cs, length-news-append (olds {A = Unit {0}} i n) (image_from (i + n) (runs_of cs)), length-news-olds (Unit {0}) i n)
total_is i (Insert n ∷ cs) =
    omega (arith, total_is i cs, length-news-append (map New (blanks n)) (image_from i (runs_of cs)), length-news-news (blanks n), length-blanks n)
total_is i (Delete n ∷ cs) = omega (arith, total_is (i + n) cs)

not_more : (limit n : ℕ) → (limit < n → ⊥) → n ≤ limit
not_more limit n small = omega (arith, small)

-- what is not too long with one more code

pub short_retain : (op : Operation (Unit {0})) (n : ℕ) → (IsTooLong (with_retain op n) → ⊥) → (op.base + n ≤ 1000000) × (length op.image + n ≤ 1000000)
short_retain op n short =
    let fits = not_more 1000000 (max (op.base + n) (length (op.image ++ olds op.base n))) short in
    let both = longest_retain op n in
    (omega (arith, fits, both), omega (arith, fits, both))

pub short_insert : (op : Operation (Unit {0})) (text : List (Unit {0})) → (IsTooLong (with_insert op text) → ⊥) → length op.image + length text ≤ 1000000
short_insert op text short =
    let fits = not_more 1000000 (max op.base (length (op.image ++ map New text))) short in omega (arith, fits, longest_insert op text)

pub short_delete : (op : Operation (Unit {0})) (n : ℕ) → (IsTooLong (with_delete op n) → ⊥) → op.base + n ≤ 1000000
short_delete op n short =
    let fits = not_more 1000000 (max (op.base + n) (length op.image)) short in omega (arith, fits)

pub short_code : (op : Operation (Unit {0})) (code : Code) → (IsTooLong (appended op (run_of code)) → ⊥) → length_of code ≤ 1000000
short_code op (Retain n) short = omega (arith, (short_retain op n short).0)
short_code op (Insert n) short = omega (arith, short_insert op (blanks n) short, length-blanks n)
short_code op (Delete n) short = omega (arith, short_delete op n short)

pub sound_put :
    (old new : List Code) (sum : Sum) (code : Code) → AreSound old sum → Extends (runs_of old) (runs_of new) (λ op. appended op (run_of code))
    → (IsTooLong (appended (spelled old) (run_of code)) → ⊥) → AreSound new (counted sum code)
sound_put old new sum (Retain n) sound extends short =
    let fits = short_retain (spelled old) n short in
    let now = sound_retain sound n extends (omega (arith, fits.0, sound.base_is)) (omega (arith, fits.1, sound.target_is)) in
    record {
      normal = now.normal;
      base_is = omega (arith, now.base_is);
      target_is = omega (arith, now.target_is);
      inserted_is = now.inserted_is;
      base_fits = omega (arith, now.base_fits);
      target_fits = omega (arith, now.target_fits);
    }
sound_put old new sum (Insert n) sound extends short =
    let fits = short_insert (spelled old) (blanks n) short in
    let now = sound_insert sound (blanks n) extends (omega (arith, fits, sound.target_is)) in
    let long = length-blanks n in
    record {
      normal = now.normal;
      base_is = now.base_is;
      target_is = omega (arith, now.target_is, long);
      inserted_is = omega (arith, now.inserted_is, long);
      base_fits = now.base_fits;
      target_fits = omega (arith, now.target_fits, long);
    }
sound_put old new sum (Delete n) sound extends short =
    let fits = short_delete (spelled old) n short in
    let now = sound_delete sound n extends (omega (arith, fits, sound.base_is)) in
    record {
      normal = now.normal;
      base_is = omega (arith, now.base_is);
      target_is = now.target_is;
      inserted_is = now.inserted_is;
      base_fits = omega (arith, now.base_fits);
      target_fits = now.target_fits;
    }
