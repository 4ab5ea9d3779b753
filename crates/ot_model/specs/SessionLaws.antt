-- The laws of sessions.
use Rattle.std.specs.Prelude.{◌≡◌, ◌+◌, ◌≤◌, ◌⊎◌, List, ◌++◌, ◌∷◌, [], length, slice_get, Option, Some, None}
use Rattle.ot_isa.specs.declared.instruction.Instr.{Instr}
use Rattle.ot_model.specs.declared.shown.Shown.{Shown}
use Rattle.ot_model.specs.Table.{Client, State, Message, Head, step}
use Rattle.ot_model.specs.Sound.{IsSound, AreInstrs}
use Rattle.ot_model.specs.Part.{Part, PartPerformed, part_row, Leads, LeadsShowing}
use Rattle.ot_model.specs.Session.{IsPartIn, Session, IsAllowed, Begins, BeginsOver, IsOthers, IsWaiting, RunsShowing, RunsTo, install}
use Rattle.ot_model.specs.declared.limits.TheConstants.{STEP_LIMIT}

-- the table performs a session's steps as one block at any state that its start begins; the run shows what the session showed, and
-- leaves the session's client in place of the one that was there
abbrev pub SessionBlock : Type 0
SessionBlock =
    (p q : Part) (steps : List Instr) (shown : List Shown) (s : State) (x : Client)
    → Begins p s → p.client.message ≡ None → slice_get s.clients p.number ≡ Some x
    → length steps + s.steps ≤ STEP_LIMIT → LeadsShowing p steps q shown
    → RunsShowing s steps (install s q x.message (length steps + s.steps)) shown

-- a part goes on beginning its client, whatever others do, and whoever's message is taken
abbrev pub SessionWaits : Type 0
SessionWaits = (p : Part) (s : State) (i : Instr) → Begins p s → IsOthers p i → IsWaiting p (step s i)

-- what a session leaves is sound where it is installed
abbrev pub SessionSound : Type 0
SessionSound =
    (p q : Part) (steps : List Instr) (s : State) (x : Client)
    → IsSound s → Begins p s → p.client.message ≡ None → slice_get s.clients p.number ≡ Some x
    → length steps + s.steps ≤ STEP_LIMIT → AreInstrs steps → Leads p steps q
    → IsSound (install s q x.message (length steps + s.steps))

-- a client's part begins its client where it was made
abbrev pub PartBegins : Type 0
PartBegins = (s : State) (p : Part) → IsPartIn s p → Begins p s

-- the present part of an allowed session is a client in a sound state, what was on its uplink aside
abbrev pub PresentSound : Type 0
PresentSound =
    (x : Session) → IsAllowed x
    → (s : State) × (m : Option Message) × (rest : List Head) × IsSound s × BeginsOver x.now s m rest

-- what a session sends finds nothing of its client under way
abbrev pub SendsOnce : Type 0
SendsOnce =
    (p q : Part) (steps : List Instr) (s : State) (x : Client)
    → IsSound s → Begins p s → p.client.message ≡ None → slice_get s.clients p.number ≡ Some x
    → AreInstrs steps → Leads p steps q
    → (q.client.message ≡ None) ⊎ (x.message ≡ None)

-- one more step on the present part
abbrev pub SessionsGoOn : Type 0
SessionsGoOn =
    (p q r : Part) (steps : List Instr) (i : Instr) (list : Option Shown)
    → Leads p steps q → part_row q i ≡ PartPerformed r list → Leads p (steps ++ i ∷ []) r

-- runs one after the other
abbrev pub RunsGoOn : Type 0
RunsGoOn = (s t u : State) (is js : List Instr) → RunsTo s is t → RunsTo t js u → RunsTo s (is ++ js) u
