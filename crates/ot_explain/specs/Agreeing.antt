-- The verdict in words: whether all documents must agree, and to what; what has not arrived; and who has not joined.
use Rattle.std.specs.Prelude.{ℕ, suc, List, [], ◌∷◌, ◌++◌, ◌==◌, Bool, true, false, Option, Some, None, codes, decimal, if◌then◌else◌}
use Rattle.std.specs.Option.{option_map}
use Rattle.ot_isa.specs.declared.elements.Tagged.{Tagged}
use Rattle.ot_model.specs.Operation.{Operation}
use Rattle.ot_model.specs.Table.{Message, State}
use Rattle.ot_machine.specs.Effects.{client_in}
use Rattle.ot_steps.specs.Lines.{plain_operation}
use Rattle.ot_steps.specs.Steps.{buffer_of, is_quiet}
use Rattle.ot_verdict.specs.Pending.{absent, untaken, waiting}
use Rattle.ot_verdict.specs.Ending.{ending}
use Rattle.ot_verdict.specs.First.{first_taken}
use Rattle.ot_verdict.specs.declared.waiting.Waiting.{Waiting}
use Rattle.ot_verdict.specs.declared.waiting.Waiting.TheVariants.{Sent, Buffered, Incoming}
use Rattle.ot_explain.specs.Words.{list_text, number, with_operation}

-- a text of pieces, of which each is told where it stands; the first of these stands at this place
abbrev pub pieces : {A : Type 0} → (ℕ → A → List ℕ) → ℕ → List A → List ℕ
pieces piece place [] = []
pieces piece place (x ∷ xs) = piece place x ++ pieces piece (suc place) xs

-- the operation of a message
abbrev pub sent_of : Option Message → Option (Operation ℕ)
sent_of message = option_map (λ (m : Message). plain_operation m.op) message

abbrev pub count_words : ℕ → List ℕ
count_words n = if n == 1 then codes "1 message to receive" else decimal n ++ codes " messages to receive"

-- something that has not arrived
abbrev pub waiting_text : State → Waiting → List ℕ
waiting_text s (Sent c) = number (codes "client ") c (codes "'s ") ++ (with_operation [] (sent_of (client_in s c).message) (codes "message") ++ codes " is on its way to the server")
waiting_text s (Buffered c) = number (codes "client ") c (codes "'s ") ++ (with_operation [] (buffer_of (client_in s c).phase) (codes "buffer") ++ codes " is in its buffer")
waiting_text s (Incoming c n) = number (codes "client ") c (codes " has ") ++ count_words n

-- what stands before a piece
abbrev pub separator : ℕ → List ℕ
separator place = if place == 0 then codes ": " else codes "; "

abbrev pub waiting_piece : State → ℕ → Waiting → List ℕ
waiting_piece s place w = separator place ++ waiting_text s w

abbrev pub waiting_words : State → List Waiting → List ℕ
waiting_words s waiting = pieces (waiting_piece s) 0 waiting

-- the clients of whose edits one is taken first
abbrev pub alternative : ℕ → List ℕ
alternative place = if place == 0 then [] else codes " or "

abbrev pub choice_piece : ℕ → ℕ → List ℕ
choice_piece place c = alternative place ++ number (codes "client ") c (codes "'s")

abbrev pub choice_words : List ℕ → List ℕ
choice_words clients = pieces choice_piece 0 clients

abbrev pub future_words : List Tagged → List ℕ
future_words list = codes ". When everything has arrived, all will be " ++ (list_text list ++ codes ".\n")

-- whose edit `complete` has the server take first
abbrev pub first_words : Option ℕ → List ℕ
first_words None = codes ".\n"
first_words (Some c) = number (codes "; complete takes client ") c (codes "'s first.\n")

abbrev pub depends_words : List ℕ → Option ℕ → List ℕ
depends_words clients first = codes ". What they become may depend on whose edit the server takes first, " ++ (choice_words clients ++ first_words first)

-- where these clients have edits that the server has not taken
abbrev pub ending_words : State → List ℕ → List ℕ
ending_words s [] = future_words (ending s)
ending_words s (c ∷ []) = future_words (ending s)
ending_words s (c ∷ d ∷ more) = depends_words (c ∷ d ∷ more) (first_taken s)

abbrev pub agreed_words : List Tagged → List ℕ
agreed_words list = codes "All documents must be " ++ (list_text list ++ codes ".\n")

abbrev pub differ_words : State → List ℕ
differ_words s = codes "They may still differ" ++ (waiting_words s (waiting s) ++ ending_words s (untaken s))

abbrev pub outlook_words : State → Bool → List ℕ
outlook_words s true = agreed_words s.server
outlook_words s false = differ_words s

-- a line for each client that has not joined
abbrev pub absent_line : ℕ → ℕ → List ℕ
absent_line place c = number (codes "client ") c (codes " has not joined.\n")

abbrev pub absent_words : List ℕ → List ℕ
absent_words clients = pieces absent_line 0 clients

-- the verdict on a state
abbrev pub verdict_words : State → List ℕ
verdict_words s = outlook_words s (is_quiet s) ++ absent_words (absent s)
