-- The command that a line is.
use Rattle.std.specs.Prelude.{ℕ, Bool, true, false, List, [], ◌∷◌, Option, Some, None, option_map, option_and_then, codes, if◌then◌else◌}
use Rattle.std.specs.Str.{bytes_eq}
use Rattle.streams.specs.Lines.{onto_first}
use Rattle.ot_asm.specs.Words.{is_blank, trimmed}
use Rattle.ot_asm.specs.Numbers.{number}
use Rattle.ot_debug.specs.declared.command.Command.{Command}
use Rattle.ot_debug.specs.declared.command.Command.TheVariants.{Run, Step, Back, Break, Clear, Watch, Unwatch, Position, Show}
use Rattle.ot_debug.specs.declared.command.Watched.{Watched}
use Rattle.ot_debug.specs.declared.command.Watched.TheVariants.{Doc, State, ServerRevision}

-- a byte of a word in front of a text and of the text's words
abbrev pub onto_words : ℕ → List ℕ → List (List ℕ) → List (List ℕ)
onto_words b [] ws = (b ∷ []) ∷ ws
onto_words b (c ∷ text) ws = if is_blank c then (b ∷ []) ∷ ws else onto_first b ws

-- the words of a text, separated by blanks
unfoldable pub words : List ℕ → List (List ℕ)
words [] = []
words (b ∷ text) = if is_blank b then words text else onto_words b text (words text)

-- the command that one word is
abbrev pub bare_command : List ℕ → Option Command
bare_command w =
    if bytes_eq w (codes "run") then Some Run else
    if bytes_eq w (codes "unwatch") then Some Unwatch else
    if bytes_eq w (codes "where") then Some Position else
    if bytes_eq w (codes "show") then Some Show else
    None

-- the command that a word and a number are
abbrev pub counted_command : List ℕ → ℕ → Option Command
counted_command w n =
    if bytes_eq w (codes "step") then Some (Step n) else
    if bytes_eq w (codes "back") then Some (Back n) else
    if bytes_eq w (codes "break") then Some (Break n) else
    if bytes_eq w (codes "clear") then Some (Clear n) else
    None

-- what a word and a client's number say to watch
abbrev pub watched : List ℕ → ℕ → Option Watched
watched w client =
    if bytes_eq w (codes "doc") then Some (Doc client) else
    if bytes_eq w (codes "state") then Some (State client) else
    None

-- `watch server`, or a word and a number
abbrev pub two_words : List ℕ → List ℕ → Option Command
two_words w v =
    if bytes_eq w (codes "watch")
    then (if bytes_eq v (codes "server") then Some (Watch ServerRevision) else None)
    else option_and_then (counted_command w) (number v)

-- `watch doc C` and `watch state C`
abbrev pub three_words : List ℕ → List ℕ → List ℕ → Option Command
three_words w v u =
    if bytes_eq w (codes "watch") then option_map Watch (option_and_then (watched v) (number u)) else None

-- the command that words are
abbrev pub command_in : List (List ℕ) → Option Command
command_in [] = None
command_in (w ∷ []) = bare_command w
command_in (w ∷ v ∷ []) = two_words w v
command_in (w ∷ v ∷ u ∷ []) = three_words w v u
command_in (w ∷ v ∷ u ∷ t ∷ ws) = None

-- the command that a line is, once one CR at its end and then blanks at both ends are dropped
abbrev pub command_of : List ℕ → Option Command
command_of line = command_in (words (trimmed line))

-- no byte is there
abbrev pub is_empty : List ℕ → Bool
is_empty [] = true
is_empty (b ∷ bs) = false

-- a line of which nothing is left then
abbrev pub is_blank_line : List ℕ → Bool
is_blank_line line = is_empty (trimmed line)
