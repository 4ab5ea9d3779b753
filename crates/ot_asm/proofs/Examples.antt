-- Names in a text, and names in comments.
use Rattle.std.proofs.Common.{◌≡◌, ℕ, List, [], ◌∷◌, refl, Some, None, true, false}
use Rattle.std.specs.Prelude.{codes}
use Rattle.std.specs.Str.{chars, is_utf8}
use lib.Utf8.{encode}
use Rattle.streams.specs.Lines.{lines_of}
use Rattle.ot_asm.specs.Comments.{client_in, comment_words, comments_among, comments_of, cut_text, name_in, with_name}
use Rattle.ot_asm.specs.Named.{named}
use Rattle.ot_asm.specs.Plain.{all_seen}

-- client 1 is ben
abbrev ben : List (List ℕ)
ben = [] ∷ codes "ben" ∷ []

-- a name stands behind the number, and not in a string; client 12 and xclient 1 are others
in_a_line : named ben (codes "client 1 takes client 0's [\"client 1\",\"\\\"client 1\"], client 12, xclient 1, client  1, client client 1")
    ≡ codes "client 1 (ben) takes client 0's [\"client 1\",\"\\\"client 1\"], client 12, xclient 1, client  1, client client 1 (ben)"
unfolding named
in_a_line = refl

possessive : named ben (codes "client 1's document; client 1a client 01") ≡ codes "client 1 (ben)'s document; client 1a client 01 (ben)"
unfolding named
possessive = refl

without_names : named [] (codes "client 1") ≡ codes "client 1"
unfolding named
without_names = refl

-- a comment's words
a_client : client_in (comment_words (codes "  ; client 3 is  Ann B. \r")) ≡ Some 3
a_client = refl

a_name : name_in (comment_words (codes "  ; client 3 is  Ann B. \r")) ≡ codes "Ann B."
a_name = refl

no_client : client_in (comment_words (codes "; client x is ann")) ≡ None
no_client = refl

no_comment : comment_words (codes "client 3 is ann") ≡ []
no_comment = refl

-- names by client
put : with_name ben 3 (codes "cleo") ≡ [] ∷ codes "ben" ∷ [] ∷ codes "cleo" ∷ []
put = refl

again : with_name ben 1 (codes "bob") ≡ [] ∷ codes "bob" ∷ []
again = refl

-- what is seen: Zoë, and not a text with U+202E, which turns the direction of writing
seen : all_seen (90 ∷ 111 ∷ 235 ∷ []) ≡ true
seen = refl

not_seen : all_seen (97 ∷ 0x202E ∷ 98 ∷ []) ≡ false
not_seen = refl

-- the cut
a_cut : cut_text (Some (codes "\"ann, event 9\"")) ≡ codes "the schedule ends before its logs: \"ann, event 9\"\n"
a_cut = refl

-- two comments about one client: the second counts
of_a_text : comments_of (codes "; client 1 is ann\nclients 2\n; client 1 is ben\n; cut: \"x\"") ≡ record { names = ben; cut = Some (codes "\"x\"") }
unfolding comments_among lines_of is_utf8 chars encode
of_a_text = refl

-- a name that is not seen is none
hidden : comments_of (codes "; client 0 is a\tb\n") ≡ record { names = [] ∷ []; cut = None }
unfolding comments_among lines_of is_utf8 chars encode
hidden = refl
