-- What an instruction did, in words: what the state before it says, and then what it applied and what the state after it says.
use Rattle.std.specs.Prelude.{ℕ, List, [], ◌++◌, ◌-◌, ◌==◌, length, slice_get, Option, Some, None, codes, decimal, if◌then◌else◌}
use Rattle.ot_isa.specs.Program.{Program, client_of}
use Rattle.ot_isa.specs.declared.instruction.Instr.{Instr}
use Rattle.ot_isa.specs.declared.instruction.Instr.TheVariants.{Edit, Take, Deliver, Acknowledge, Join, Read, ReadServer}
use Rattle.ot_model.specs.Operation.{Operation}
use Rattle.ot_model.specs.Table.{Client, Message, State}
use Rattle.ot_machine.specs.Readers.{phase_name}
use Rattle.ot_machine.specs.declared.state.Phase.{Phase}
use Rattle.ot_machine.specs.declared.state.Phase.TheVariants.{NotJoined, Synchronized, AwaitingConfirm, AwaitingWithBuffer}
use Rattle.ot_steps.specs.Lines.{plain_operation, word_of}
use Rattle.ot_machine.specs.Effects.{client_in}
use Rattle.ot_steps.specs.Steps.{applies, buffer_of, last_of, outstanding_of}
use Rattle.ot_steps.specs.Text.{word_text}
use Rattle.ot_explain.specs.Words.{document_text, document_words, entry_text, number, operation_words, with_operation}

-- ---- what the state before it says

-- an edit of a client's user, up to where it goes
abbrev pub user_words : ℕ → Operation ℕ → List ℕ
user_words c op = number (codes "  the user of client ") c (codes " edits ") ++ operation_words op

-- where an edit goes: to the server, or into the buffer
abbrev pub edit_goes : ℕ → Phase → List ℕ
edit_goes revision NotJoined = codes "\n"
edit_goes revision Synchronized = number (codes "; it is sent at revision ") revision (codes "\n")
edit_goes revision AwaitingConfirm = codes "; it becomes the buffer\n"
edit_goes revision AwaitingWithBuffer = codes "; it is composed into the buffer\n"

abbrev pub edit_words : ℕ → Operation ℕ → Client → List ℕ
edit_words c op x = user_words c op ++ edit_goes x.revision (phase_name x.phase)

-- how many operations of the log the server transforms a message against: those that its client had not seen
abbrev pub against_log : ℕ → List ℕ
against_log count =
    if count == 0 then codes ","
    else if count == 1 then codes ", transforms it against 1 operation of the log"
    else number (codes ", transforms it against ") count (codes " operations of the log")

-- the message of client c, at a server whose log has so many entries
abbrev pub take_words : ℕ → ℕ → Option Message → List ℕ
take_words c entries None = codes "  the server takes nothing"
take_words c entries (Some m) =
    number (codes "  the server takes client ") c (codes "'s message of revision ")
    ++ ((decimal m.revision ++ codes ", ") ++ (operation_words (plain_operation m.op) ++ against_log (entries - m.revision)))

-- the operation of the log that a client takes, and what it transforms it against
abbrev pub deliver_words : State → ℕ → Client → List ℕ
deliver_words s c x =
    number (codes "  client ") c (codes " takes ")
    ++ (entry_text (slice_get s.log x.revision)
    ++ (with_operation (codes ", transforms it against its outstanding operation ") (outstanding_of x.phase) []
    ++ with_operation (codes " and its buffer ") (buffer_of x.phase) []))

-- what is confirmed, and what then goes on
abbrev pub acknowledge_words : ℕ → Client → List ℕ
acknowledge_words c x =
    number (codes "  client ") c (codes " has its outstanding operation confirmed")
    ++ (with_operation (codes ", ") (outstanding_of x.phase) []
    ++ (with_operation (codes "; it sends its buffer ") (buffer_of x.phase) (codes "; it has no buffer") ++ codes "\n"))

abbrev pub before : Instr → State → List ℕ
before (Edit c op) s = edit_words c op (client_in s c)
before (Take c) s = take_words c (length s.log) (client_in s c).message
before (Deliver c) s = deliver_words s c (client_in s c)
before (Acknowledge c) s = acknowledge_words c (client_in s c)
before (Join c) s = number (codes "  client ") c (codes " joins with the server's document and revision\n")
before _ s = []

-- ---- what it applied by a delivery, and what the state after it says

-- of a client that has joined
abbrev pub client_words : ℕ → Client → List ℕ
client_words c y =
    number (codes "  client ") c (codes " at revision ")
    ++ (decimal y.revision
    ++ (with_operation (codes " awaits the confirmation of ") (outstanding_of y.phase) (codes " is synchronized")
    ++ (with_operation (codes ", with the buffer ") (buffer_of y.phase) [] ++ document_words (codes "; its document is ") y.list)))

-- the last operation of the log
abbrev pub appended_words : State → List ℕ
appended_words t =
    with_operation (codes " and appends ") (last_of t.log) []
    ++ ((codes " as revision " ++ decimal (length t.log)) ++ document_words (codes "\n  the server's document is now ") t.server)

abbrev pub after : Instr → Option (Operation ℕ) → State → List ℕ
after (Take c) applied t = appended_words t
after (Deliver c) applied t = with_operation (codes " and applies ") applied [] ++ (codes "\n" ++ client_words c (client_in t c))
after (Read c) applied t = (codes "  client " ++ decimal c) ++ document_words (codes "'s document is ") (client_in t c).list
after ReadServer applied t = document_words (codes "  the server's document is ") t.server
after (Edit c op) applied t = client_words c (client_in t c)
after (Acknowledge c) applied t = client_words c (client_in t c)
after (Join c) applied t = client_words c (client_in t c)

-- ---- paragraphs

-- the client that an instruction names, and the line's end
abbrev pub named : Option ℕ → List ℕ
named None = codes "\n"
named (Some c) = number (codes " ") c (codes "\n")

-- line L, instruction N: take 1
abbrev pub heading : ℕ → ℕ → Instr → List ℕ
heading line place i = number (codes "line ") line (codes ", instruction ") ++ ((decimal place ++ codes ": ") ++ (word_text (word_of i) ++ named (client_of i)))

-- an instruction that leads from the state s to the state t
abbrev pub paragraph : ℕ → ℕ → Instr → State → State → List ℕ
paragraph line place i s t = heading line place i ++ (before i s ++ after i (applies i s) t)

-- the opening: the present clients, and the text that they and the server start with
abbrev pub opening_words : Program → List ℕ
opening_words s =
    codes "the opening: " ++ (decimal s.present ++ (codes " of " ++ (decimal s.clients ++ (codes " clients joined, every document is " ++ (document_text s.start ++ codes "\n")))))
