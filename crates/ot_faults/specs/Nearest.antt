-- The words that may begin a line, and which of them is nearest to another one.
use Rattle.std.specs.Prelude.{ℕ, ◌/◌, Bool, ◌&&◌, nat_le, List, [], ◌∷◌, length, Option, Some, None, codes, if◌then◌else◌}
use Rattle.std.specs.Str.{chars}
use Rattle.strsim.specs.Edits.{osa_table}
use Rattle.ot_faults.specs.declared.reached.Stage.{Stage}
use Rattle.ot_faults.specs.declared.reached.Stage.TheVariants.{Opening, AfterClients, AfterPresent, InBody}
use Rattle.ot_faults.specs.declared.wanted.Word.{Word}
use Rattle.ot_faults.specs.declared.wanted.Word.TheVariants.{Clients, Present, Start, Edit, Take, Deliver, Acknowledge, Read, ReadServer, Join}

abbrev pub word_text : Word → List ℕ
word_text Clients = codes "clients"
word_text Present = codes "present"
word_text Start = codes "start"
word_text Edit = codes "edit"
word_text Take = codes "take"
word_text Deliver = codes "deliver"
word_text Acknowledge = codes "ack"
word_text Read = codes "read"
word_text ReadServer = codes "read-server"
word_text Join = codes "join"

-- those that may begin a line at this stage
abbrev pub instructions : List Word
instructions = Edit ∷ Take ∷ Deliver ∷ Acknowledge ∷ Read ∷ ReadServer ∷ Join ∷ []

abbrev pub words_at : Stage → List Word
words_at Opening = Clients ∷ []
words_at AfterClients = Present ∷ Start ∷ instructions
words_at AfterPresent = Start ∷ instructions
words_at InBody = instructions

-- how many characters are changed, put in, left out or exchanged with the next to make one text of the other
abbrev pub distance : List ℕ → List ℕ → ℕ
distance found text = (osa_table (chars found) (chars text)).last_row (length (chars text))

-- the first word at most so far
abbrev pub first_within : ℕ → List ℕ → List Word → Option Word
first_within most found [] = None
first_within most found (w ∷ ws) = if nat_le (distance found (word_text w)) most then Some w else first_within most found ws

-- the same where that are not more than half of the characters; nothing is near to a longer text than 16
abbrev pub may_be_near : ℕ → ℕ → Bool
may_be_near most count = nat_le most (count / 2) && nat_le count 16

abbrev pub first_near : ℕ → List ℕ → List Word → Option Word
first_near most found ws = if may_be_near most (length (chars found)) then first_within most found ws else None

abbrev pub or_word : Option Word → Option Word → Option Word
or_word None later = later
or_word (Some w) later = Some w

-- the first of those with the least distance: 1, or 2
abbrev pub nearest_among : List ℕ → List Word → Option Word
nearest_among found ws = or_word (first_near 1 found ws) (first_near 2 found ws)
