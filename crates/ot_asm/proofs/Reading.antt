-- Comments, line by line.
use Rattle.std.proofs.Common.{◌≡◌, ℕ, List, [], ◌∷◌, ◌++◌, refl, ap, ◌∙◌, sym, true}
use Rattle.streams.specs.Lines.{lacks, lines_of}
use Rattle.streams.proofs.Ends.{lines_last, lines_piece}
use Rattle.ot_asm.specs.Comments.{Said, comment_words, comments_among, comments_of, nothing_said, with_lines, with_words}

-- the lines above the rest are read
pub record HasRead (text rest : List ℕ) (said : Said) : Type 0 where
  pub all : with_lines said (lines_of rest) ≡ comments_of text

pub none_read : (text : List ℕ) → HasRead text text nothing_said
unfolding comments_among
none_read text = record { all = refl }

pub one_read : (text rest line below : List ℕ) (said more : Said) → HasRead text rest said → lacks line ≡ true → rest ≡ line ++ 10 ∷ below → more ≡ with_words said (comment_words line) → HasRead text below more
one_read text rest line below said more so_far piece is added =
    record {
      all =
          ap (λ (s : Said). with_lines s (lines_of below)) added
          ∙ ap (with_lines said) (sym (ap lines_of is ∙ lines_piece line below piece))
          ∙ so_far.all;
    }

-- a piece without a line's end is the last line, or nothing
last_read : (said : Said) (rest : List ℕ) → lacks rest ≡ true → with_lines said (lines_of rest) ≡ with_words said (comment_words rest)
unfolding lines_of
last_read said [] piece = refl
last_read said (b ∷ bs) piece = ap (with_lines said) (lines_last b bs piece)

pub all_read : (text rest : List ℕ) (said more : Said) → HasRead text rest said → lacks rest ≡ true → more ≡ with_words said (comment_words rest) → more ≡ comments_of text
all_read text rest said more so_far piece added = added ∙ sym (last_read said rest piece) ∙ so_far.all
