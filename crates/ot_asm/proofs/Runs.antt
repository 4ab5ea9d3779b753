-- Bytes that are passed over, one run behind another.
use Rattle.std.proofs.Common.{◌≡◌, ◌<◌, ◌≤◌, ◌+◌, ◌-◌, ◌==◌, ◌&&◌, ◌||◌, not, ℕ, zero, suc, Bool, true, false, List, [], ◌∷◌, ◌++◌, length, take, get_or, Option, None, Some, refl, sym, ap, ◌∙◌, append_assoc, append-nil, length-append, arith}
use Rattle.std.specs.Prelude.{if◌then◌else◌, slice_get}
use Rattle.std.proofs.Math.Seq.{take-append-add}
use Rattle.std.proofs.lemmas.List.{nil_from_length}
use Rattle.ot_asm.specs.Named.{before_byte, in_brackets, is_of_word, name_at, named, named_from, next}
use Rattle.ot_asm.specs.Passed.{PassesOver, SplitsAtNumber, byte_place, ended_number, has_neither, is_outside, last_place}
use Rattle.ot_asm.specs.declared.place.Place.{Place}
use Rattle.ot_asm.specs.declared.place.Place.TheVariants.{Apart, Word, Client, Behind, Number, Inside, Escaped}

-- ---- cuts

-- neither byte stands at a place below `end`
abbrev pub HasNeitherBelow : ℕ → ℕ → List ℕ → ℕ → Type 0
HasNeitherBelow x y text end = (k : ℕ) → 0 ≤ k → k < end → (get_or text k 0 == x || get_or text k 0 == y) ≡ true → ⊥

one_less : (x y b : ℕ) (bs : List ℕ) → ((b == x || b == y) ≡ true → ⊥) → has_neither x y bs ≡ true → has_neither x y (b ∷ bs) ≡ true
one_less x y b bs h g = by (b == x || b == y) refl
  where
    by : (t : Bool) → (b == x || b == y) ≡ t → (not (b == x || b == y) && has_neither x y bs) ≡ true
    by true e = absurd (h e)
    by false e = rw e g

pub neither_below : (x y : ℕ) (text : List ℕ) (end : ℕ) → end ≤ length text → HasNeitherBelow x y text end → has_neither x y (take end text) ≡ true
neither_below x y text zero le h = refl
neither_below x y [] (suc end) le h = absurd (omega (arith, le))
neither_below x y (b ∷ bs) (suc end) le h =
    one_less x y b (take end bs) (h 0 (omega arith) (omega arith)) (neither_below x y bs end (omega (arith, le)) (λ k z l. h (suc k) (omega arith) (omega (arith, l))))

-- ---- one run behind another

nil_front : (xs ys : List ℕ) → xs ++ ys ≡ [] → xs ≡ []
nil_front [] ys e = refl
nil_front (x ∷ xs) ys e = absurd (cc e)

nil_back : (xs ys : List ℕ) → xs ++ ys ≡ [] → ys ≡ []
nil_back [] ys e = e
nil_back (x ∷ xs) ys e = absurd (cc e)

pub nothing_passed : (place : Place) (text : List ℕ) → PassesOver place text place text
nothing_passed place text = record { front = []; whole = refl; same = λ names. refl; still = λ e. refl }

pub passed_on : (p q r : Place) (text mid rest : List ℕ) → PassesOver p text q mid → PassesOver q mid r rest → PassesOver p text r rest
passed_on p q r text mid rest a b =
    record {
      front = a.front ++ b.front;
      whole = a.whole ∙ ap (λ (t : List ℕ). a.front ++ t) b.whole ∙ sym (append_assoc a.front b.front rest);
      same = λ names.
          a.same names
          ∙ ap (λ (t : List ℕ). a.front ++ t) (b.same names)
          ∙ sym (append_assoc a.front b.front (named_from names r rest));
      still = λ e. b.still (nil_back a.front b.front e) ∙ a.still (nil_front a.front b.front e);
    }

-- ---- bytes that neither begin nor end anything

-- what a byte shows, where no name can stand before it
shows_byte : (t : Bool) → ◌≡◌ {A = List ℕ} (if t then [] else []) []
shows_byte true = refl
shows_byte false = refl

next_outside : (p : Place) (b : ℕ) → is_outside p ≡ true → (b == 34 || b == 99) ≡ false → next p b ≡ byte_place b
next_outside Apart b o e = go (is_of_word b) (b == 99) (b == 34) (b == 32) e
  where
    go : (w c q s : Bool) → (q || c) ≡ false → (if w then (if c then Client 1 else Word) else if q then Inside else if s && false then Behind else Apart) ≡ (if w then Word else Apart)
    go true true true s h = absurd (cc h)
    go true true false s h = absurd (cc h)
    go true false q s h = refl
    go false c true s h = absurd (cc h)
    go false c false true h = refl
    go false c false false h = refl
next_outside Word b o e = go (is_of_word b) (b == 99) (b == 34) (b == 32) e
  where
    go : (w c q s : Bool) → (q || c) ≡ false → (if w then Word else if q then Inside else if s && false then Behind else Apart) ≡ (if w then Word else Apart)
    go true c q s h = refl
    go false c true s h = absurd (cc h)
    go false c false true h = refl
    go false c false false h = refl
next_outside (Client n) b o e = absurd (cc o)
next_outside Behind b o e = absurd (cc o)
next_outside (Number n) b o e = absurd (cc o)
next_outside Inside b o e = absurd (cc o)
next_outside Escaped b o e = absurd (cc o)

before_outside : (names : List (List ℕ)) (p : Place) (b : ℕ) → is_outside p ≡ true → before_byte names p b ≡ []
before_outside names Apart b o = shows_byte (is_of_word b)
before_outside names Word b o = shows_byte (is_of_word b)
before_outside names (Client n) b o = absurd (cc o)
before_outside names Behind b o = absurd (cc o)
before_outside names (Number n) b o = absurd (cc o)
before_outside names Inside b o = absurd (cc o)
before_outside names Escaped b o = absurd (cc o)

outside_again : (b : ℕ) → is_outside (byte_place b) ≡ true
outside_again b = go (is_of_word b)
  where
    go : (w : Bool) → is_outside (if w then Word else Apart) ≡ true
    go true = refl
    go false = refl

-- one byte, of which nothing is known but where it leads
byte_shown : (names : List (List ℕ)) (p q : Place) (b : ℕ) (bs : List ℕ) → before_byte names p b ≡ [] → next p b ≡ q → named_from names p (b ∷ bs) ≡ b ∷ named_from names q bs
byte_shown names p q b bs before leads =
    ap (λ (t : List ℕ). t ++ (b ∷ named_from names (next p b) bs)) before
    ∙ ap (λ (r : Place). b ∷ named_from names r bs) leads

not_first : (t u : Bool) → (not t && u) ≡ true → (t ≡ false) × (u ≡ true)
not_first true u h = absurd (cc h)
not_first false u h = (refl, h)

outside_run : (names : List (List ℕ)) (p : Place) (run rest : List ℕ) → is_outside p ≡ true → has_neither 34 99 run ≡ true → named_from names p (run ++ rest) ≡ run ++ named_from names (last_place p run) rest
outside_run names p [] rest o h = refl
outside_run names p (b ∷ bs) rest o h =
    let both = not_first (b == 34 || b == 99) (has_neither 34 99 bs) h in
    byte_shown names p (byte_place b) b (bs ++ rest) (before_outside names p b o) (next_outside p b o both.0)
    ∙ ap (λ (t : List ℕ). b ∷ t) (outside_run names (byte_place b) bs rest (outside_again b) both.1)

same_place : (p : Place) (run : List ℕ) → run ≡ [] → last_place p run ≡ p
same_place p [] e = refl
same_place p (b ∷ bs) e = absurd (cc e)

pub outside_passed : (p : Place) (text run rest : List ℕ) → is_outside p ≡ true → text ≡ run ++ rest → has_neither 34 99 run ≡ true → PassesOver p text (last_place p run) rest
outside_passed p text run rest o is h =
    record {
      front = run;
      whole = is;
      same = λ names. ap (named_from names p) is ∙ outside_run names p run rest o h;
      still = same_place p run;
    }

next_inside : (b : ℕ) → (b == 34 || b == 92) ≡ false → next Inside b ≡ Inside
next_inside b e = go (b == 92) (b == 34) e
  where
    go : (s q : Bool) → (q || s) ≡ false → (if s then Escaped else if q then Apart else Inside) ≡ Inside
    go true true h = absurd (cc h)
    go true false h = absurd (cc h)
    go false true h = absurd (cc h)
    go false false h = refl

inside_run : (names : List (List ℕ)) (run rest : List ℕ) → has_neither 34 92 run ≡ true → named_from names Inside (run ++ rest) ≡ run ++ named_from names Inside rest
inside_run names [] rest h = refl
inside_run names (b ∷ bs) rest h =
    let both = not_first (b == 34 || b == 92) (has_neither 34 92 bs) h in
    byte_shown names Inside Inside b (bs ++ rest) (shows_byte (is_of_word b)) (next_inside b both.0)
    ∙ ap (λ (t : List ℕ). b ∷ t) (inside_run names bs rest both.1)

pub inside_passed : (text run rest : List ℕ) → text ≡ run ++ rest → has_neither 34 92 run ≡ true → PassesOver Inside text Inside rest
inside_passed text run rest is h = record { front = run; whole = is; same = λ names. ap (named_from names Inside) is ∙ inside_run names run rest h; still = λ e. refl }

-- the place behind several bytes is that of the last
abbrev by_last : Place → Option ℕ → Place
by_last p None = p
by_last p (Some b) = byte_place b

last_byte : (p q : Place) (b : ℕ) (bs : List ℕ) → last_place p (b ∷ bs) ≡ by_last q (slice_get (b ∷ bs) (length bs))
last_byte p q b [] = refl
last_byte p q b (d ∷ bs) = last_byte (byte_place b) q d bs

pub behind_last : (p : Place) (bytes : List ℕ) (b : ℕ) → slice_get bytes (length bytes - 1) ≡ Some b → last_place p bytes ≡ byte_place b
behind_last p [] b e = absurd (cc e)
behind_last p (d ∷ bs) b e =
    let at : length bs ≡ length (d ∷ bs) - 1 = omega arith in
    last_byte p p d bs ∙ ap (λ (k : ℕ). by_last p (slice_get (d ∷ bs) k)) at ∙ ap (by_last p) e

pub behind_none : (p : Place) (bytes : List ℕ) → slice_get bytes (length bytes - 1) ≡ None → last_place p bytes ≡ p
behind_none p [] e = refl
behind_none p (d ∷ bs) e =
    let at : length bs ≡ length (d ∷ bs) - 1 = omega arith in
    absurd (none_there d bs (ap (λ (k : ℕ). slice_get (d ∷ bs) k) at ∙ e))
  where
    none_there : (d : ℕ) (bs : List ℕ) → slice_get (d ∷ bs) (length bs) ≡ None → ⊥
    none_there d [] e = cc e
    none_there d (c ∷ cs) e = none_there c cs e

-- ---- a number's end

-- no number ends before this byte
before_none : (names : List (List ℕ)) (p : Place) (b : ℕ) (bs : List ℕ) → ended_number p (b ∷ bs) ≡ None → before_byte names p b ≡ []
before_none names Apart b bs e = shows_byte (is_of_word b)
before_none names Word b bs e = shows_byte (is_of_word b)
before_none names (Client n) b bs e = shows_byte (is_of_word b)
before_none names Behind b bs e = shows_byte (is_of_word b)
before_none names (Number n) b bs e = go (is_of_word b) e
  where
    go : (w : Bool) → (if w then None else Some n) ≡ None → (if w then [] else in_brackets (get_or names n [])) ≡ []
    go true h = refl
    go false h = absurd (cc h)
before_none names Inside b bs e = shows_byte (is_of_word b)
before_none names Escaped b bs e = shows_byte (is_of_word b)

byte_over : (p : Place) (b : ℕ) (bs : List ℕ) → ended_number p (b ∷ bs) ≡ None → PassesOver p (b ∷ bs) (next p b) bs
byte_over p b bs e = record { front = b ∷ []; whole = refl; same = λ names. byte_shown names p (next p b) b bs (before_none names p b bs e) refl; still = λ h. absurd (cc h) }

pub byte_passed : (p q : Place) (rest : List ℕ) (b : ℕ) (bs : List ℕ) → rest ≡ b ∷ bs → ended_number p rest ≡ None → q ≡ next p b → PassesOver p rest q bs
byte_passed p q rest b bs is none leads = rw (is, leads) (byte_over p b bs (rw is at none))

-- before a byte of no word, behind a number one stands as if apart
same_behind : (names : List (List ℕ)) (m n b : ℕ) (bs : List ℕ) (w : Bool) → is_of_word b ≡ w → (if w then None else Some m) ≡ Some n
    → named_from names (Number m) (b ∷ bs) ≡ in_brackets (get_or names n []) ++ named names (b ∷ bs)
unfolding named
same_behind names m n b bs true is e = absurd (cc e)
same_behind names m n b bs false is e =
    let same : m ≡ n = cc e in
    rw (← same) (rw is refl)

pub ended_here : (names : List (List ℕ)) (p : Place) (rest : List ℕ) (n : ℕ) → ended_number p rest ≡ Some n → named_from names p rest ≡ in_brackets (get_or names n []) ++ named names rest
unfolding named
ended_here names Apart rest n e = absurd (cc e)
ended_here names Word rest n e = absurd (cc e)
ended_here names (Client m) rest n e = absurd (cc e)
ended_here names Behind rest n e = absurd (cc e)
ended_here names (Number m) [] n e =
    let same : m ≡ n = cc e in
    rw (← same) (sym (append-nil (in_brackets (get_or names m []))))
ended_here names (Number m) (b ∷ bs) n e = same_behind names m n b bs (is_of_word b) refl e
ended_here names Inside rest n e = absurd (cc e)
ended_here names Escaped rest n e = absurd (cc e)

not_apart : (rest : List ℕ) (n : ℕ) (p : Place) → p ≡ Apart → ended_number p rest ≡ Some n → ⊥
not_apart rest n p is e = let here = rw is at e in cc here

shorter : (front rest text : List ℕ) → text ≡ front ++ rest → ¬ (front ≡ []) → length rest < length text
shorter [] rest text is some = absurd (some refl)
shorter (b ∷ front) rest text is some = omega (arith, ap length is, length-append (b ∷ front) rest)

front_taken : (front rest text : List ℕ) → text ≡ front ++ rest → take (length text - length rest) text ≡ front
front_taken front rest text is =
    let count : length text - length rest ≡ length front + 0 = omega (arith, ap length is, length-append front rest) in
    rw (count, is) (take-append-add front rest 0 ∙ append-nil front)

pub split_here : (text rest front : List ℕ) (p : Place) (n : ℕ) → PassesOver Apart text p rest → ended_number p rest ≡ Some n → front ≡ take (length text - length rest) text → SplitsAtNumber text front n rest
unfolding named
split_here text rest front p n passed ends is =
    let same : front ≡ passed.front = is ∙ front_taken passed.front rest text passed.whole in
    record {
      whole = passed.whole ∙ ap (λ (t : List ℕ). t ++ rest) (sym same);
      less = shorter passed.front rest text passed.whole (λ none. not_apart rest n p (passed.still none) ends);
      same = λ names. passed.same names ∙ ap (λ (t : List ℕ). passed.front ++ t) (ended_here names p rest n ends) ∙ ap (λ (t : List ℕ). t ++ (in_brackets (get_or names n []) ++ named names rest)) (sym same);
    }

-- at the end no number ends
name_none : (names : List (List ℕ)) (p : Place) → ended_number p [] ≡ None → name_at names p ≡ []
name_none names Apart e = refl
name_none names Word e = refl
name_none names (Client n) e = refl
name_none names Behind e = refl
name_none names (Number n) e = absurd (cc e)
name_none names Inside e = refl
name_none names Escaped e = refl

pub no_number : (text rest : List ℕ) (p : Place) → PassesOver Apart text p rest → length rest ≡ 0 → ended_number p rest ≡ None → (names : List (List ℕ)) → named names text ≡ text
unfolding named
no_number text rest p passed none_left none names =
    let is = nil_from_length rest none_left in
    passed.same names
    ∙ ap (λ (t : List ℕ). passed.front ++ named_from names p t) is
    ∙ ap (λ (t : List ℕ). passed.front ++ t) (name_none names p (sym (ap (ended_number p) is) ∙ none))
    ∙ ap (λ (t : List ℕ). passed.front ++ t) (sym is)
    ∙ sym passed.whole
