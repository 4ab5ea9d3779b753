-- Why an instruction is refused, and what would repair it.
use Rattle.std.specs.Prelude.{ℕ, suc, Bool, false, List, [], ◌∷◌, ◌+◌, ◌++◌, ◌-◌, ◌==◌, get_or, length, nat_lt, slice_get, Option, Some, None, codes, decimal, if◌then◌else◌}
use Rattle.std.specs.List.{count_by}
use Rattle.ot_isa.specs.Program.{client_of}
use Rattle.ot_isa.specs.declared.elements.Tagged.{Tagged}
use Rattle.ot_isa.specs.declared.instruction.Instr.{Instr}
use Rattle.ot_isa.specs.declared.instruction.Instr.TheVariants.{Edit, Take, Deliver, Acknowledge, Join}
use Rattle.ot_model.specs.declared.shown.Refusal.{Refusal}
use Rattle.ot_model.specs.declared.shown.Refusal.TheVariants.{NoSuchClient, StepsFull, NotJoined, AlreadyJoined, BadBase, ClientFull, LinkEmpty, WrongHead, Memory}
use Rattle.ot_model.specs.Operation.{Operation, inserted}
use Rattle.ot_model.specs.Table.{Client, Entry, Message, State}
use Rattle.ot_values.specs.Values.{refusal_text}
use Rattle.ot_explain.specs.Words.{entry_text, number, of_client}
use Rattle.ot_explain.specs.Told.{heading, user_words}

-- how many characters of a document are past U+FFFF
abbrev pub wide : List Tagged → ℕ
wide list = count_by (λ (t : Tagged). nat_lt 65535 t.ch) list

-- how far a base length is from the document's
abbrev pub gap_words : ℕ → ℕ → List ℕ
gap_words base count = if nat_lt base count then decimal (count - base) ++ codes " too few" else decimal (base - count) ++ codes " too many"

-- a base length that is the document's in UTF-16, which counts so many units: two for each character past U+FFFF
abbrev pub units_words : ℕ → ℕ → List ℕ
units_words base units =
    if base == units then number (codes "; lengths count Unicode scalars, and ") base (codes " is the document's length in UTF-16, which counts 2 for each past U+FFFF")
    else []

-- an edit that is not over the whole document, which has so many characters past U+FFFF
abbrev pub base_words : ℕ → ℕ → List Tagged → List ℕ
base_words c base list =
    number (codes "the edit takes documents of length ") base (codes ", ")
    ++ (number (codes "client ") c (codes "'s has length ")
    ++ ((decimal (length list) ++ codes "; what an edit retains and deletes has to span the whole document: ")
    ++ (gap_words base (length list) ++ units_words base (length list + wide list))))

-- a client that has inserted too much
abbrev pub full_words : ℕ → ℕ → ℕ → List ℕ
full_words c count more =
    codes "client " ++ (decimal c ++ (codes " has inserted " ++ (decimal count ++ (codes " of at most 15000 characters and would insert " ++ (decimal more ++ codes " more")))))

-- an acknowledgement that is not there: the message has not been taken, or there was none
abbrev pub unconfirmed : ℕ → Option Message → List ℕ
unconfirmed c None = number (codes "client ") c (codes " waits for no acknowledgement")
unconfirmed c (Some m) = codes "the server has not taken the message of client " ++ (decimal c ++ (codes " yet: take " ++ (decimal c ++ codes " comes first")))

-- a link without a message
abbrev pub empty_words : Instr → State → List ℕ
empty_words (Take c) s = number (codes "no message of client ") c (codes " is under way: it has to send an edit first, and a message is taken once")
empty_words (Deliver c) s = number (codes "nothing is under way to client ") c (codes ": the server has to take another client's message first")
empty_words (Acknowledge c) s = of_client s c (λ x. unconfirmed c x.message)
empty_words _ s = []

abbrev pub next_words : ℕ → Option Entry → List ℕ
next_words c entry = number (codes "the next message to client ") c (codes " is ") ++ (entry_text entry ++ (codes ": deliver " ++ decimal c))

-- a message of the other kind at the head of the link
abbrev pub head_words : Instr → State → List ℕ
head_words (Deliver c) s = codes "the next message to client " ++ (decimal c ++ (codes " acknowledges its own operation: ack " ++ decimal c))
head_words (Acknowledge c) s = of_client s c (λ x. next_words c (slice_get s.log x.revision))
head_words _ s = []

-- what is said of an edit
abbrev pub of_edit : Instr → State → (ℕ → Operation ℕ → Client → List ℕ) → List ℕ
of_edit (Edit c op) s words = of_client s c (words c op)
of_edit _ s words = []

-- where the first `join` of a client stands among instructions, the first of which has this number
abbrev pub joins : ℕ → Instr → Bool
joins c (Join k) = k == c
joins c _ = false

abbrev pub join_from : ℕ → ℕ → List Instr → Option ℕ
join_from c n [] = None
join_from c n (i ∷ is) = if joins c i then Some n else join_from c (suc n) is

-- the line of that instruction, where instructions stand at these lines
abbrev pub join_words : List ℕ → Option ℕ → List ℕ
join_words lines None = codes ", and no line says it"
join_words lines (Some n) = codes ", and stands in line " ++ decimal (get_or lines n 0)

-- a client that has not joined
abbrev pub absent_words : List ℕ → List Instr → Option ℕ → List ℕ
absent_words lines is None = []
absent_words lines is (Some c) =
    number (codes "client ") c (codes " has not joined: join ") ++ ((decimal c ++ codes " comes first") ++ join_words lines (join_from c 0 is))

-- why the instruction of a schedule is refused in the state s
abbrev pub reason : List ℕ → List Instr → Refusal → Instr → State → List ℕ
reason lines is NoSuchClient i s = codes "the client is not there"
reason lines is StepsFull i s = codes "a machine performs at most 1000000 instructions"
reason lines is NotJoined i s = absent_words lines is (client_of i)
reason lines is AlreadyJoined i s = codes "the client is there already: it joined before, or was there at the opening, as all clients are without a line `present P`"
reason lines is BadBase i s = of_edit i s (λ c op x. base_words c op.base x.list)
reason lines is ClientFull i s = of_edit i s (λ c op x. full_words c x.count (inserted op))
reason lines is LinkEmpty i s = empty_words i s
reason lines is WrongHead i s = head_words i s
reason lines is Memory i s = codes "no memory was found"

-- the edit that was tried
abbrev pub tried : Instr → List ℕ
tried (Edit c op) = user_words c op ++ codes "\n"
tried _ = []

-- a paragraph for an instruction that is refused; `lines` are those of the instructions `is`
abbrev pub refused_paragraph : List ℕ → List Instr → ℕ → Instr → State → Refusal → List ℕ
refused_paragraph lines is place i s r =
    heading (get_or lines place 0) place i ++ (tried i ++ ((codes "  refused: " ++ (refusal_text r ++ codes ": ")) ++ (reason lines is r i s ++ codes "\n")))
