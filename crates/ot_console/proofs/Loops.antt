-- The command loop, line by line.
use Rattle.std.proofs.Common.{◌≡◌, ◌+◌, ℕ, List, [], ◌∷◌, ◌++◌, length, length-append, Bool, true, false, ◌||◌, Option, Some, None, refl, sym, ap, ◌∙◌, subst, append_assoc, append-nil}
use Rattle.std.specs.Prelude.{IfSome, ⊤}
use Rattle.std.proofs.Math.Bool.{false-or, or-false, or_assoc}
use Rattle.std.specs.Io.KnownBytes.{Appends}
use Rattle.std.proofs.KnownBytes.{Appends-trans}
use Rattle.streams.proofs.Parts.{part_after}
use Rattle.streams.specs.Lines.{lines_of}
use Rattle.streams.specs.Taken.{TakesLine}
use Rattle.streams.proofs.Ends.{lacks_nil}
use Rattle.ot_debug.specs.Session.{Session}
use Rattle.ot_console.specs.declared.looping.LoopStop.TheVariants.{WriteFault}
use Rattle.ot_console.specs.Looping.{IsTurn, Loops, StopsBehind, LoopsToEnd, LoopsPart, WritesTurn, WritesPartOfTurn}

-- lines were taken from the front of known bytes
abbrev pub TakesLines : Option (List ℕ) → Option (List ℕ) → List (List ℕ) → Type 0
TakesLines None new lines = ⊤
TakesLines (Some text) None lines = ⊥
TakesLines (Some text) (Some rest) lines = lines_of text ≡ lines ++ lines_of rest

-- so many lines of the input were taken and answered, and all that was said is written
pub record IsLooped (before now : Session) (faulted : Bool) (count : ℕ) (input left old new : Option (List ℕ)) : Type 0 where
  pub lines : List (List ℕ)
  pub taken : TakesLines input left lines
  pub count_is : length lines ≡ count
  pub text : List ℕ
  pub loops : Loops before lines now text faulted
  pub written : Appends old new text

-- one line more was taken
takes_more : (input left next : Option (List ℕ)) (lines : List (List ℕ)) (line : List ℕ) → TakesLines input left lines → TakesLine left next true line → TakesLines input next (lines ++ line ∷ [])
takes_more None left next lines line taken more = tt
takes_more (Some text) None next lines line taken more = absurd taken
takes_more (Some text) (Some rest) None lines line taken more = absurd more
takes_more (Some text) (Some rest) (Some behind) lines line taken more =
    taken ∙ ap (λ ls. lines ++ ls) more ∙ sym (append_assoc lines (line ∷ []) (lines_of behind))

-- one iteration more
loops_more : (before now after : Session) (lines : List (List ℕ)) (line text reply : List ℕ) (faulted fault : Bool) → Loops before lines now text faulted → IsTurn now line after reply fault → Loops before (lines ++ line ∷ []) after (text ++ reply) (faulted || fault)
loops_more before now after [] line text reply faulted fault loops turn =
    let is : IsTurn before line after reply fault = subst (λ (s : Session). IsTurn s line after reply fault) loops.0 turn in (
      record { after = after; text = reply; faulted = fault; is = is },
      [],
      false,
      (refl, refl, refl),
      ap (λ t. t ++ reply) loops.1 ∙ sym (append-nil reply),
      ap (λ f. f || fault) loops.2 ∙ false-or fault ∙ sym (or-false fault),
    )
loops_more before now after (first ∷ lines) line text reply faulted fault loops turn = (
  loops.0,
  loops.1 ++ reply,
  loops.2 || fault,
  loops_more loops.0.after now after lines line loops.1 reply loops.2 fault loops.3 turn,
  ap (λ t. t ++ reply) loops.4 ∙ append_assoc loops.0.text loops.1 reply,
  ap (λ f. f || fault) loops.5 ∙ or_assoc loops.0.faulted loops.2 fault,
)

-- one line was taken and answered, and its reply written
pub one_more : (before now after : Session) (faulted fault : Bool) (count : ℕ) (input left next old mid new : Option (List ℕ)) (line : List ℕ)
    → IsLooped before now faulted count input left old mid → TakesLine left next true line → WritesTurn now line after fault mid new
    → IsLooped before after (faulted || fault) (count + 1) input next old new
one_more before now after faulted fault count input left next old mid new line looped more turn =
    record {
      lines = looped.lines ++ line ∷ [];
      taken = takes_more input left next looped.lines line looped.taken more;
      count_is = length-append looped.lines (line ∷ []) ∙ ap (λ n. n + 1) looped.count_is;
      text = looped.text ++ turn.0;
      loops = loops_more before now after looped.lines line looped.text turn.0 faulted fault looped.loops turn.1;
      written = Appends-trans old mid new looped.text turn.0 looped.written turn.2;
    }

no_lines : (bytes : List ℕ) → bytes ≡ [] → lines_of bytes ≡ []
unfolding lines_of
no_lines bytes e = ap lines_of e

-- no line is left
all_taken : (input left next : Option (List ℕ)) (lines : List (List ℕ)) (line : List ℕ) → TakesLines input left lines → TakesLine left next false line → IfSome input (λ text. lines_of text ≡ lines)
all_taken None left next lines line taken none = tt
all_taken (Some text) None next lines line taken none = absurd taken
all_taken (Some text) (Some rest) None lines line taken none = absurd none
all_taken (Some text) (Some rest) (Some behind) lines line taken none = taken ∙ ap (λ ls. lines ++ ls) (no_lines rest none.0) ∙ append-nil lines

pub ended : (before now : Session) (faulted : Bool) (count : ℕ) (input left next old new : Option (List ℕ)) (line : List ℕ)
    → IsLooped before now faulted count input left old new → TakesLine left next false line → LoopsToEnd before now faulted input old new
ended before now faulted count input left next old new line looped none =
    record { lines = looped.lines; all = all_taken input left next looped.lines line looped.taken none; text = looped.text; loops = looped.loops; written = looped.written }

-- nothing was lost
behind_none : (input left : Option (List ℕ)) (lines : List (List ℕ)) → TakesLines input left lines → StopsBehind input left lines
behind_none None left lines taken = tt
behind_none (Some text) None lines taken = absurd taken
behind_none (Some text) (Some rest) lines taken = ([], lacks_nil, taken)

-- a line was taken and answered, and its reply not written whole
pub write_stopped : (before now after : Session) (faulted : Bool) (count earlier : ℕ) (input left next old mid new : Option (List ℕ)) (line : List ℕ)
    → IsLooped before now faulted count input left old mid → TakesLine left next true line → WritesPartOfTurn now line after mid new
    → LoopsPart WriteFault earlier before after input next old new
write_stopped before now after faulted count earlier input left next old mid new line looped more turn =
    record {
      lines = looped.lines ++ line ∷ [];
      taken = behind_none input next (looped.lines ++ line ∷ []) (takes_more input left next looped.lines line looped.taken more);
      text = looped.text ++ turn.0;
      faulted = faulted || turn.1;
      loops = loops_more before now after looped.lines line looped.text turn.0 faulted turn.1 looped.loops turn.2;
      written = part_after old mid new looped.text turn.0 looped.written turn.3;
      number = tt;
    }
