-- The lines of a reply.
use Rattle.std.specs.Prelude.{◌≡◌, ℕ, Bool, true, false, List, ◌++◌, codes, decimal}
use Rattle.ot_report.specs.Printed.{line, IsEnd}
use Rattle.ot_values.specs.Values.{refusal_text}
use Rattle.ot_debug.specs.Session.{Session}
use Rattle.ot_debug.specs.declared.command.Why.{Why}
use Rattle.ot_debug.specs.declared.command.Why.TheVariants as why
use Rattle.ot_debug.specs.declared.command.Reply.{Reply}
use Rattle.ot_debug.specs.declared.command.Reply.TheVariants.{Stopped, Done, Place, Shown, NoSuchPlace, NoSuchClient, Memory}

-- why a run stopped
abbrev pub why_text : Why → List ℕ
why_text why.Break = codes "break"
why_text (why.Watch number) = codes "watch " ++ decimal number
why_text why.End = codes "end"
why_text (why.Refused refusal) = codes "refused " ++ refusal_text refusal
why_text why.Count = codes "count"

-- at P: REASON
abbrev pub stopped_line : ℕ → Why → List ℕ
stopped_line at reason = codes "at " ++ (decimal at ++ (codes ": " ++ line (why_text reason)))

-- at P
abbrev pub place_line : ℕ → List ℕ
place_line at = codes "at " ++ line (decimal at)

abbrev pub no_memory : List ℕ
no_memory = line (codes "no memory")

abbrev pub bad_command : List ℕ
bad_command = line (codes "bad command")

-- the text is that of a reply in this session; a state is shown as a run's end is
abbrev pub IsReplyText : Session → Reply → List ℕ → Type 0
IsReplyText session (Stopped at reason) text = text ≡ stopped_line at reason
IsReplyText session Done text = text ≡ line (codes "ok")
IsReplyText session (Place at) text = text ≡ place_line at
IsReplyText session (Shown state) text = IsEnd session.place.state text
IsReplyText session NoSuchPlace text = text ≡ line (codes "no such place")
IsReplyText session NoSuchClient text = text ≡ line (codes "no such client")
IsReplyText session Memory text = text ≡ no_memory

-- the reply's text has to be made
abbrev pub IsMade : Reply → Type 0
IsMade (Stopped at reason) = Unit {0}
IsMade Done = ⊥
IsMade (Place at) = Unit {0}
IsMade (Shown state) = Unit {0}
IsMade NoSuchPlace = ⊥
IsMade NoSuchClient = ⊥
IsMade Memory = ⊥

-- a refused instruction
abbrev pub is_refused : Why → Bool
is_refused why.Break = false
is_refused (why.Watch number) = false
is_refused why.End = false
is_refused (why.Refused refusal) = true
is_refused why.Count = false

-- a reply for which a session ends with status 1: a refused instruction, or out of memory
abbrev pub is_fault : Reply → Bool
is_fault (Stopped at reason) = is_refused reason
is_fault Done = false
is_fault (Place at) = false
is_fault (Shown state) = false
is_fault NoSuchPlace = false
is_fault NoSuchClient = false
is_fault Memory = true
