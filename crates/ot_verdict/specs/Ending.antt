-- What the documents become once everything has arrived, if no edit comes.
use Rattle.std.specs.Prelude.{ℕ, List, [], ◌∷◌, ◌==◌, drop, if◌then◌else◌}
use Rattle.ot_isa.specs.declared.elements.Tagged.{Tagged}
use Rattle.ot_model.specs.Operation.{apply}
use Rattle.ot_model.specs.Table.{Phase, NotJoined, Synchronized, AwaitingConfirm, AwaitingWithBuffer, Client, Entry, State, against_pending, phase_delivered}
use Rattle.ot_machine.specs.Effects.{client_in}
use Rattle.ot_verdict.specs.Pending.{untaken}

-- the client's own operation is confirmed (ot.js: `serverAck`): the buffer becomes the outstanding operation
abbrev pub phase_confirmed : Phase → Phase
phase_confirmed NotJoined = NotJoined
phase_confirmed Synchronized = Synchronized
phase_confirmed (AwaitingConfirm o) = Synchronized
phase_confirmed (AwaitingWithBuffer o b) = AwaitingConfirm b

-- the list of client c, which is in this phase and has this list, once it has received these entries of the log, the next one first
abbrev pub list_after : ℕ → List Entry → Phase → List Tagged → List Tagged
list_after c [] phase list = list
list_after c (h ∷ ahead) phase list =
    if h.maker == c then list_after c ahead (phase_confirmed phase) list
    else list_after c ahead (phase_delivered phase h.op) (apply (against_pending phase h.op) list)

-- the list of client c once it has received all that is on its way to it
abbrev pub received : State → ℕ → Client → List Tagged
received s c x = list_after c (drop x.revision s.log) x.phase x.list

-- where these clients have edits that the server has not taken: the server's list if there is none; else that of the first of them, once
-- it has received everything, as it has its own edits already
abbrev pub ending_of : State → List ℕ → List Tagged
ending_of s [] = s.server
ending_of s (c ∷ others) = received s c (client_in s c)

-- what all documents become, where at most one client has such edits
abbrev pub ending : State → List Tagged
ending s = ending_of s (untaken s)
