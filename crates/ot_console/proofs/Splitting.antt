-- The words of a text, one after the other.
use Rattle.std.proofs.Common.{None, ◌≡◌, ℕ, List, [], ◌∷◌, Bool, true, false, refl, ap, sym, ◌∙◌, subst, ◌<◌, ◌==◌, length, arith}
use Rattle.std.specs.Prelude.{Option}
use Rattle.std.proofs.lemmas.Bool.{eqb-true}
use Rattle.streams.specs.Lines.{onto_first}
use Rattle.ot_asm.specs.Words.{is_blank, skip_blanks, cut_blanks, without_return, trimmed, first_word, after_word}
use Rattle.ot_console.specs.Commands.{words, bare_command, two_words, three_words, command_in, command_of}
use Rattle.ot_debug.specs.declared.command.Command.{Command}

-- a text that begins with a word, if anything is there
abbrev pub BeginsWithWord : List ℕ → Type 0
BeginsWithWord [] = Unit {0}
BeginsWithWord (b ∷ text) = is_blank b ≡ false

begins_skipped : (b : ℕ) (text : List ℕ) (t : Bool) → is_blank b ≡ t → BeginsWithWord (skip_blanks text) → BeginsWithWord (skip_blanks (b ∷ text))
begins_skipped b text true e h = rw e h
begins_skipped b text false e h = rw e e

pub begins-skip_blanks : (text : List ℕ) → BeginsWithWord (skip_blanks text)
begins-skip_blanks [] = tt
begins-skip_blanks (b ∷ text) = begins_skipped b text (is_blank b) refl (begins-skip_blanks text)

begins_after : (b : ℕ) (text : List ℕ) (t : Bool) → is_blank b ≡ t → BeginsWithWord (after_word text) → BeginsWithWord (after_word (b ∷ text))
begins_after b text true e h = rw e (begins-skip_blanks text)
begins_after b text false e h = rw e h

pub begins-after_word : (text : List ℕ) → BeginsWithWord (after_word text)
begins-after_word [] = tt
begins-after_word (b ∷ text) = begins_after b text (is_blank b) refl (begins-after_word text)

words_skipped : (b : ℕ) (text : List ℕ) (t : Bool) → is_blank b ≡ t → words (skip_blanks text) ≡ words text → words (skip_blanks (b ∷ text)) ≡ words (b ∷ text)
unfolding words
words_skipped b text true e h = rw e h
words_skipped b text false e h = rw e (rw e refl)

words-skip_blanks : (text : List ℕ) → words (skip_blanks text) ≡ words text
words-skip_blanks [] = refl
words-skip_blanks (b ∷ text) = words_skipped b text (is_blank b) refl (words-skip_blanks text)

-- a byte of a word in front of a word
words-onto_first : (b c : ℕ) (text : List ℕ) → is_blank b ≡ false → is_blank c ≡ false → words (b ∷ c ∷ text) ≡ onto_first b (words (c ∷ text))
unfolding words
words-onto_first b c text h e = rw (h, e) refl

-- a byte of a word in front of a blank
words-before_blank : (b c : ℕ) (text : List ℕ) → is_blank b ≡ false → is_blank c ≡ true → words (b ∷ c ∷ text) ≡ (b ∷ []) ∷ words text
unfolding words
words-before_blank b c text h e = rw (h, e) refl

onto_next : (b c : ℕ) (text : List ℕ) (t : Bool) → is_blank b ≡ false → is_blank c ≡ t → (is_blank c ≡ false → words (c ∷ text) ≡ first_word (c ∷ text) ∷ words (after_word (c ∷ text))) → words (b ∷ c ∷ text) ≡ first_word (b ∷ c ∷ text) ∷ words (after_word (b ∷ c ∷ text))
onto_next b c text true h e next = rw (h, e) (words-before_blank b c text h e ∙ ap (λ ws. (b ∷ []) ∷ ws) (sym (words-skip_blanks text)))
onto_next b c text false h e next = rw h (words-onto_first b c text h e ∙ ap (onto_first b) (next e))

alone : (b : ℕ) → is_blank b ≡ false → words (b ∷ []) ≡ (b ∷ []) ∷ []
unfolding words
alone b h = rw h refl

no_words : words [] ≡ []
unfolding words
no_words = refl

-- the first word of a text that begins with one, and the words behind it
words_of : (b : ℕ) (text : List ℕ) → is_blank b ≡ false → words (b ∷ text) ≡ first_word (b ∷ text) ∷ words (after_word (b ∷ text))
words_of b [] h = rw h (alone b h ∙ ap (λ ws. (b ∷ []) ∷ ws) (sym no_words))
words_of b (c ∷ text) h = onto_next b c text (is_blank c) h refl (λ e. words_of c text e)

words-first : (text : List ℕ) → BeginsWithWord text → 0 < length text → words text ≡ first_word text ∷ words (after_word text)
words-first [] begins some = absurd (omega (arith, some))
words-first (b ∷ text) begins some = words_of b text begins

-- where a word is behind the first one, the first one is there
words-behind : (text : List ℕ) → BeginsWithWord text → 0 < length (after_word text) → words text ≡ first_word text ∷ words (after_word text)
words-behind [] begins some = absurd (omega (arith, some))
words-behind (b ∷ text) begins some = words_of b text begins

words-nil : (text : List ℕ) → length text ≡ 0 → words text ≡ []
words-nil [] none = no_words
words-nil (b ∷ text) none = absurd (omega (arith, none))

one_word : (text : List ℕ) → BeginsWithWord text → length (after_word text) ≡ 0 → bare_command (first_word text) ≡ command_in (words text)
one_word [] begins none = sym (ap command_in no_words)
one_word (b ∷ text) begins none = sym (ap command_in (words_of b text begins ∙ ap (λ ws. first_word (b ∷ text) ∷ ws) (words-nil (after_word (b ∷ text)) none)))

-- the text of a line begins with a word
begins-trimmed : (line text : List ℕ) → text ≡ trimmed line → BeginsWithWord text
begins-trimmed line text e = subst BeginsWithWord (sym e) (begins-skip_blanks (cut_blanks (without_return line)))

-- and so does what stands behind a word
begins-behind : (text rest : List ℕ) → rest ≡ after_word text → BeginsWithWord rest
begins-behind text rest e = subst BeginsWithWord (sym e) (begins-after_word text)

some_there : (text : List ℕ) → (length text == 0) ≡ false → 0 < length text
some_there [] e = cc
some_there (b ∷ text) e = omega arith

-- a line's words, taken off one by one
pub record Cut (text word rest : List ℕ) : Type 0 where
  pub word_is : word ≡ first_word text
  pub rest_is : rest ≡ after_word text

-- a line of one word
pub of_one : (line text word rest : List ℕ) (r : Option Command) → text ≡ trimmed line → Cut text word rest → (length rest == 0) ≡ true → r ≡ bare_command word → r ≡ command_of line
of_one line text word rest r e cut none is =
    is ∙ ap bare_command cut.word_is
    ∙ one_word text (begins-trimmed line text e) (subst (λ (t : List ℕ). length t ≡ 0) cut.rest_is (eqb-true (length rest) 0 none))
    ∙ ap (λ t. command_in (words t)) e

words_cut : (text word rest : List ℕ) → words text ≡ first_word text ∷ words (after_word text) → Cut text word rest → words text ≡ word ∷ words rest
words_cut text word rest e cut = rw (cut.word_is, cut.rest_is) e

first_cut : (line text word rest : List ℕ) → text ≡ trimmed line → Cut text word rest → (length rest == 0) ≡ false → words (trimmed line) ≡ word ∷ words rest
first_cut line text word rest e cut some =
    ap words (sym e)
    ∙ words_cut text word rest (words-behind text (begins-trimmed line text e) (subst (λ (t : List ℕ). 0 < length t) cut.rest_is (some_there rest some))) cut

-- where something stands behind a word, it begins with the next one
next_cut : (text word rest next behind : List ℕ) → Cut text word rest → (length rest == 0) ≡ false → Cut rest next behind → words rest ≡ next ∷ words behind
next_cut text word rest next behind cut some cut' =
    words_cut rest next behind (words-first rest (begins-behind text rest cut.rest_is) (some_there rest some)) cut'

no_more : (rest : List ℕ) → (length rest == 0) ≡ true → words rest ≡ []
no_more rest none = words-nil rest (eqb-true (length rest) 0 none)

-- a line of two words
pub of_two : (line text word rest next behind : List ℕ) (r : Option Command) → text ≡ trimmed line
    → Cut text word rest → (length rest == 0) ≡ false → Cut rest next behind → (length behind == 0) ≡ true
    → r ≡ two_words word next → r ≡ command_of line
of_two line text word rest next behind r e cut some cut' none is =
    let all : words (trimmed line) ≡ word ∷ next ∷ [] =
    first_cut line text word rest e cut some ∙ ap (λ ws. word ∷ ws) (next_cut text word rest next behind cut some cut' ∙ ap (λ ws. next ∷ ws) (no_more behind none)) in
    is ∙ sym (ap command_in all)

-- the first three words of a line
three_cut : (line text word rest next behind last end : List ℕ) → text ≡ trimmed line
    → Cut text word rest → (length rest == 0) ≡ false → Cut rest next behind → (length behind == 0) ≡ false → Cut behind last end
    → words (trimmed line) ≡ word ∷ next ∷ last ∷ words end
three_cut line text word rest next behind last end e cut some cut' more cut'' =
    first_cut line text word rest e cut some
    ∙ ap (λ ws. word ∷ ws) (next_cut text word rest next behind cut some cut' ∙ ap (λ ws. next ∷ ws) (next_cut rest next behind last end cut' more cut''))

-- a line of three words
pub of_three : (line text word rest next behind last end : List ℕ) (r : Option Command) → text ≡ trimmed line
    → Cut text word rest → (length rest == 0) ≡ false → Cut rest next behind → (length behind == 0) ≡ false → Cut behind last end → (length end == 0) ≡ true
    → r ≡ three_words word next last → r ≡ command_of line
of_three line text word rest next behind last end r e cut some cut' more cut'' none is =
    is ∙ sym (ap command_in (three_cut line text word rest next behind last end e cut some cut' more cut'' ∙ ap (λ ws. word ∷ next ∷ last ∷ ws) (no_more end none)))

more_words : (w v u : List ℕ) (text : List ℕ) → BeginsWithWord text → 0 < length text → command_in (w ∷ v ∷ u ∷ words text) ≡ None
more_words w v u text begins some = ap (λ ws. command_in (w ∷ v ∷ u ∷ ws)) (words-first text begins some)

-- a line of more words
pub of_more : (line text word rest next behind last end : List ℕ) → text ≡ trimmed line
    → Cut text word rest → (length rest == 0) ≡ false → Cut rest next behind → (length behind == 0) ≡ false → Cut behind last end → (length end == 0) ≡ false
    → None ≡ command_of line
of_more line text word rest next behind last end e cut some cut' more cut'' most =
    sym (ap command_in (three_cut line text word rest next behind last end e cut some cut' more cut'')
    ∙ more_words word next last end (begins-behind behind end cut''.rest_is) (some_there end most))
