-- Lines that are kept as a text.
use Rattle.std.proofs.Common.{◌≡◌, ◌+◌, ◌-◌, ◌==◌, ℕ, Bool, true, false, List, [], ◌∷◌, ◌++◌, length, Option, Some, None, refl, sym, ap, ◌∙◌, append_assoc, append-nil, length-append, arith}
use Rattle.std.specs.Prelude.{◌||◌, IfSome, Result, Ok, Err, ⊤, if◌then◌else◌}
use Rattle.std.specs.Result.{is_err, OnOk}
use Rattle.streams.specs.Lines.{lacks, lines_of, onto_first}
use Rattle.streams.specs.Taken.{TakesLine}
use Rattle.streams.proofs.Ends.{lines_piece}
use Rattle.ot_asm.specs.Parts.{TakesPart, is_mark, lines_before, lines_behind}
use Rattle.ot_asm.specs.Canonical.{lines_text}
use Rattle.ot_asm.proofs.Listed.{lines_push}
use Rattle.ot_asm.proofs.Running.{no_lines}
use Rattle.ot_commands.specs.Part.{has_mark}

-- ---- lines of a text

-- no LF stands in the first line
lacks_first : (bs l : List ℕ) (ls : List (List ℕ)) → lines_of bs ≡ l ∷ ls → lacks l ≡ true
unfolding lines_of lacks
lacks_first [] l ls e = absurd (cc e)
lacks_first (b ∷ bs) l ls e = by (λ m ms h. lacks_first bs m ms h) (b == 10) refl e
  where
    onto : ((m : List ℕ) (ms : List (List ℕ)) → lines_of bs ≡ m ∷ ms → lacks m ≡ true) → (b == 10) ≡ false → (lines : List (List ℕ)) → lines_of bs ≡ lines → onto_first b lines ≡ l ∷ ls → lacks l ≡ true
    onto again differs [] h g =
        let is : b ∷ [] ≡ l = cc in
        rw (← is, differs) refl
    onto again differs (m ∷ ms) h g =
        let is : b ∷ m ≡ l = cc in
        rw (← is, differs) (again m ms h)

    by : ((m : List ℕ) (ms : List (List ℕ)) → lines_of bs ≡ m ∷ ms → lacks m ≡ true) → (t : Bool) → (b == 10) ≡ t → (if t then [] ∷ lines_of bs else onto_first b (lines_of bs)) ≡ l ∷ ls → lacks l ≡ true
    by again true same g =
        let is : [] ≡ l = cc in
        rw (← is) refl
    by again false differs g = onto again differs (lines_of bs) refl g

abbrev pub IsWhole : List ℕ → Type 0
IsWhole text = (more : List ℕ) → lines_of (text ++ more) ≡ lines_of text ++ lines_of more

nothing_whole : IsWhole []
unfolding lines_of
nothing_whole more = refl

nothing_kept : lines_of [] ≡ []
unfolding lines_of
nothing_kept = refl

one_line : (l more : List ℕ) → lacks l ≡ true → lines_of ((l ++ 10 ∷ []) ++ more) ≡ l ∷ lines_of more
one_line l more piece = ap lines_of (append_assoc l (10 ∷ []) more) ∙ lines_piece l more piece

lines_added : (text l : List ℕ) → IsWhole text → lacks l ≡ true → lines_of (text ++ (l ++ 10 ∷ [])) ≡ lines_of text ++ l ∷ []
lines_added text l whole piece =
    whole (l ++ 10 ∷ []) ∙ ap (λ (ls : List (List ℕ)). lines_of text ++ ls) (lines_piece l [] piece ∙ ap (λ (ls : List (List ℕ)). l ∷ ls) nothing_kept)

whole_added : (text l : List ℕ) → IsWhole text → lacks l ≡ true → IsWhole (text ++ (l ++ 10 ∷ []))
whole_added text l whole piece more =
    ap lines_of (append_assoc text (l ++ 10 ∷ []) more)
    ∙ whole ((l ++ 10 ∷ []) ++ more)
    ∙ ap (λ (ls : List (List ℕ)). lines_of text ++ ls) (one_line l more piece)
    ∙ sym (append_assoc (lines_of text) (l ∷ []) (lines_of more))
    ∙ ap (λ (ls : List (List ℕ)). ls ++ lines_of more) (sym (lines_added text l whole piece))

-- ---- marks

before_other : (l : List ℕ) (ls : List (List ℕ)) → is_mark l ≡ false → lines_before true (l ∷ ls) ≡ l ∷ lines_before true ls
unfolding lines_before
before_other l ls e = rw e refl

behind_other : (l : List ℕ) (ls : List (List ℕ)) → is_mark l ≡ false → lines_behind true (l ∷ ls) ≡ lines_behind true ls
unfolding lines_behind
behind_other l ls e = rw e refl

before_mark : (l : List ℕ) (ls : List (List ℕ)) → is_mark l ≡ true → lines_before true (l ∷ ls) ≡ []
unfolding lines_before
before_mark l ls e = rw e refl

behind_mark : (l : List ℕ) (ls : List (List ℕ)) → is_mark l ≡ true → lines_behind true (l ∷ ls) ≡ ls
unfolding lines_behind
behind_mark l ls e = rw e refl

before_none : lines_before true [] ≡ []
unfolding lines_before
before_none = refl

behind_none : lines_behind true [] ≡ []
unfolding lines_behind
behind_none = refl

-- ---- lines that are taken

-- the lines before number `number` are taken, and none is a mark; the text has them
pub record IsKept (all rest : List (List ℕ)) (number : ℕ) (text : List ℕ) : Type 0 where
  pub whole : IsWhole text
  pub ahead : lines_before true all ≡ lines_of text ++ lines_before true rest
  pub behind : lines_behind true rest ≡ lines_behind true all
  pub at : number ≡ 1 + length (lines_of text)
  pub count : length all + 1 ≡ number + length rest
  pub ended : text ≡ lines_text (lines_of text)
  pub marks : has_mark rest ≡ has_mark all

start : (all : List (List ℕ)) → IsKept all all 1 []
unfolding lines_of
start all = record { whole = nothing_whole; ahead = refl; behind = refl; at = refl; count = omega arith; ended = refl; marks = refl }

one_more : (all : List (List ℕ)) (bytes l : List ℕ) (ls : List (List ℕ)) (number : ℕ) (text : List ℕ) → IsKept all (l ∷ ls) number text → lines_of bytes ≡ l ∷ ls → is_mark l ≡ false → IsKept all ls (number + 1) (text ++ (l ++ 10 ∷ []))
one_more all bytes l ls number text h is other =
    let piece = lacks_first bytes l ls is in
    let lines = lines_added text l h.whole piece in
    record {
      whole = whole_added text l h.whole piece;
      ahead =
          h.ahead
          ∙ ap (λ (t : List (List ℕ)). lines_of text ++ t) (before_other l ls other)
          ∙ sym (append_assoc (lines_of text) (l ∷ []) (lines_before true ls))
          ∙ ap (λ (t : List (List ℕ)). t ++ lines_before true ls) (sym lines);
      behind = sym (behind_other l ls other) ∙ h.behind;
      at = omega (arith, h.at, ap length lines, length-append (lines_of text) (l ∷ []));
      count = omega (arith, h.count);
      ended = ap (λ (t : List ℕ). t ++ (l ++ 10 ∷ [])) h.ended ∙ sym (lines_push (lines_of text) l) ∙ ap lines_text (sym lines);
      marks = sym (ap (λ (b : Bool). b || has_mark ls) other) ∙ h.marks;
    }

-- where the bytes are known
abbrev pub IsKeptKnown : Option (List ℕ) → Option (List ℕ) → ℕ → List ℕ → Type 0
IsKeptKnown None now number text = ⊤
IsKeptKnown (Some all) None number text = ⊥
IsKeptKnown (Some all) (Some rest) number text = IsKept (lines_of all) (lines_of rest) number text

pub kept_start : (all : Option (List ℕ)) (text : List ℕ) → text ≡ [] → IsKeptKnown all all 1 text
kept_start None text is = tt
kept_start (Some all) text is = rw is (start (lines_of all))

pub kept_more : (all now next : Option (List ℕ)) (l : List ℕ) (number : ℕ) (text more : List ℕ) → IsKeptKnown all now number text → TakesLine now next true l → is_mark l ≡ false → more ≡ text ++ (l ++ 10 ∷ [])
    → IsKeptKnown all next (number + 1) more
kept_more None now next l number text more h t other is = tt
kept_more (Some all) None next l number text more h t other is = absurd h
kept_more (Some all) (Some now) None l number text more h t other is = absurd t
kept_more (Some all) (Some now) (Some next) l number text more h t other is = rw is (one_more (lines_of all) now l (lines_of next) number text (rw t at h) t other)

-- the text has the lines before the mark, and so many lines are taken
pub record IsTaken (all : List ℕ) (rest : List (List ℕ)) (text : List ℕ) (is_marked : Bool) (number : ℕ) : Type 0 where
  pub lines : lines_of text ≡ lines_before true (lines_of all)
  pub ended : text ≡ lines_text (lines_before true (lines_of all))
  pub rest_is : rest ≡ lines_behind true (lines_of all)
  pub count : length (lines_of all) ≡ number + length rest
  pub marked : is_marked ≡ has_mark (lines_of all)

abbrev pub IsTakenKnown : Option (List ℕ) → Option (List ℕ) → List ℕ → Bool → ℕ → Type 0
IsTakenKnown None next text is_marked number = ⊤
IsTakenKnown (Some all) None text is_marked number = ⊥
IsTakenKnown (Some all) (Some rest) text is_marked number = IsTaken all (lines_of rest) text is_marked number

-- the next line is a mark
pub kept_mark : (all now next : Option (List ℕ)) (l : List ℕ) (number : ℕ) (text : List ℕ) → IsKeptKnown all now number text → TakesLine now next true l → is_mark l ≡ true → IsTakenKnown all next text true number
kept_mark None now next l number text h t mark = tt
kept_mark (Some all) None next l number text h t mark = absurd h
kept_mark (Some all) (Some now) None l number text h t mark = absurd t
kept_mark (Some all) (Some now) (Some next) l number text h t mark =
    let k = rw t at h in
    let lines = k.ahead ∙ ap (λ (ls : List (List ℕ)). lines_of text ++ ls) (before_mark l (lines_of next) mark) ∙ append-nil (lines_of text) in
    record {
      lines = sym lines;
      ended = k.ended ∙ ap lines_text (sym lines);
      rest_is = sym (behind_mark l (lines_of next) mark) ∙ k.behind;
      count = omega (arith, k.count);
      marked = sym (ap (λ (b : Bool). b || has_mark (lines_of next)) mark) ∙ k.marks;
    }

-- there is no next line
pub kept_end : (all now next : Option (List ℕ)) (l : List ℕ) (number : ℕ) (text : List ℕ) → IsKeptKnown all now number text → TakesLine now next false l → IsTakenKnown all next text false (number - 1)
kept_end None now next l number text h t = tt
kept_end (Some all) None next l number text h t = absurd h
kept_end (Some all) (Some now) None l number text h t = absurd t
kept_end (Some all) (Some now) (Some next) l number text h t =
    let none : lines_of now ≡ [] = no_lines now (omega (arith, ap length t.0)) in
    let left : lines_of next ≡ [] = no_lines next (omega (arith, ap length t.1)) in
    let k = rw none at h in
    let lines = k.ahead ∙ ap (λ (ls : List (List ℕ)). lines_of text ++ ls) before_none ∙ append-nil (lines_of text) in
    rw left (record {
      lines = sym lines;
      ended = k.ended ∙ ap lines_text (sym lines);
      rest_is = sym behind_none ∙ k.behind;
      count = omega (arith, k.count, k.at);
      marked = k.marks;
    })

-- the parts of that
pub taken_lines : (all next : Option (List ℕ)) (text : List ℕ) (is_marked : Bool) (number : ℕ) → IsTakenKnown all next text is_marked number → IfSome all (λ bytes. lines_of text ≡ lines_before true (lines_of bytes))
taken_lines None next text is_marked number h = tt
taken_lines (Some all) None text is_marked number h = absurd h
taken_lines (Some all) (Some rest) text is_marked number h = h.lines

pub taken_ended : (all next : Option (List ℕ)) (text : List ℕ) (is_marked : Bool) (number : ℕ) → IsTakenKnown all next text is_marked number → IfSome all (λ bytes. text ≡ lines_text (lines_before true (lines_of bytes)))
taken_ended None next text is_marked number h = tt
taken_ended (Some all) None text is_marked number h = absurd h
taken_ended (Some all) (Some rest) text is_marked number h = h.ended

pub taken_part : (all next : Option (List ℕ)) (text : List ℕ) (is_marked : Bool) (number : ℕ) → IsTakenKnown all next text is_marked number → TakesPart true all next number
taken_part None next text is_marked number h = tt
taken_part (Some all) None text is_marked number h = absurd h
taken_part (Some all) (Some rest) text is_marked number h = (h.rest_is, h.count)

pub taken_marked : (all next : Option (List ℕ)) (text : List ℕ) (is_marked : Bool) (number : ℕ) → IsTakenKnown all next text is_marked number → IfSome all (λ bytes. is_marked ≡ has_mark (lines_of bytes))
taken_marked None next text is_marked number h = tt
taken_marked (Some all) None text is_marked number h = absurd h
taken_marked (Some all) (Some rest) text is_marked number h = h.marked

-- what holds of a result that is no error
pub on_ok : {T E P : Type 0} (r : Result T E) → is_err r ≡ false → OnOk r P → P
on_ok (Ok x) e p = p
on_ok (Err x) e p = absurd (cc e)
