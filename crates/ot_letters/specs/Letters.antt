-- Sessions with other letters: f of each letter in its place. Tags, places, numbers and refusals stay as they are.
use Rattle.std.specs.Prelude.{ℕ, List, [], ◌∷◌, map, Option, Some, None, option_map}
use Rattle.ot_isa.specs.declared.elements.Tagged.{Tagged}
use Rattle.ot_isa.specs.declared.instruction.Instr.{Instr}
use Rattle.ot_isa.specs.declared.instruction.Instr.TheVariants.{Edit, Take, Deliver, Acknowledge, Read, Join, ReadServer}
use Rattle.ot_isa.specs.Program.{Program}
use Rattle.ot_codes.specs.Shape.{mapped}
use Rattle.ot_model.specs.Operation.{Operation}
use Rattle.ot_model.specs.declared.shown.Refusal.{Refusal}
use Rattle.ot_model.specs.declared.shown.Shown.{Shown}
use Rattle.ot_model.specs.Table.{Entry, Message, Phase, NotJoined, Synchronized, AwaitingConfirm, AwaitingWithBuffer, Client, State, Head, Ack, Op, Outcome, Performed, Refused, NoRow, Place, step}
use Rattle.ot_letters.specs.Elements as elements

-- a character with another letter, and its own tag
abbrev pub with_letter : (ℕ → ℕ) → Tagged → Tagged
with_letter f t = record { ch = f t.ch; tag = t.tag }

abbrev pub mapped_list : (ℕ → ℕ) → List Tagged → List Tagged
mapped_list f list = map (with_letter f) list

-- an operation of a state, whose characters are tagged; the letters of an edit have no tags yet
abbrev pub mapped_operation : (ℕ → ℕ) → Operation Tagged → Operation Tagged
mapped_operation f op = mapped (with_letter f) op

abbrev pub mapped_edit : (ℕ → ℕ) → Operation ℕ → Operation ℕ
mapped_edit f op = mapped f op

abbrev pub mapped_instr : (ℕ → ℕ) → Instr → Instr
mapped_instr f (Edit c op) = Edit c (mapped_edit f op)
mapped_instr f (Take c) = Take c
mapped_instr f (Deliver c) = Deliver c
mapped_instr f (Acknowledge c) = Acknowledge c
mapped_instr f (Read c) = Read c
mapped_instr f (Join c) = Join c
mapped_instr f ReadServer = ReadServer

abbrev pub mapped_instrs : (ℕ → ℕ) → List Instr → List Instr
mapped_instrs f is = map (mapped_instr f) is

-- a schedule: the letters of its start text and of its edits
abbrev pub mapped_program : (ℕ → ℕ) → Program → Program
mapped_program f s = record { clients = s.clients; present = s.present; start = map f s.start; instrs = mapped_instrs f s.instrs }

abbrev pub mapped_message : (ℕ → ℕ) → Message → Message
mapped_message f m = elements.mapped_message (with_letter f) m

abbrev pub mapped_entry : (ℕ → ℕ) → Entry → Entry
mapped_entry f entry = elements.mapped_entry (with_letter f) entry

-- a client's pending operations
abbrev pub mapped_phase : (ℕ → ℕ) → Phase → Phase
mapped_phase f NotJoined = NotJoined
mapped_phase f Synchronized = Synchronized
mapped_phase f (AwaitingConfirm o) = AwaitingConfirm (mapped_operation f o)
mapped_phase f (AwaitingWithBuffer o b) = AwaitingWithBuffer (mapped_operation f o) (mapped_operation f b)

abbrev pub mapped_client : (ℕ → ℕ) → Client → Client
mapped_client f x =
    record {
      revision = x.revision;
      phase = mapped_phase f x.phase;
      list = mapped_list f x.list;
      count = x.count;
      message = option_map (mapped_message f) x.message;
    }

abbrev pub mapped_state : (ℕ → ℕ) → State → State
mapped_state f s =
    record {
      log = map (mapped_entry f) s.log;
      server = mapped_list f s.server;
      clients = map (mapped_client f) s.clients;
      steps = s.steps;
    }

-- a message to a client
abbrev pub mapped_head : (ℕ → ℕ) → Head → Head
mapped_head f Ack = Ack
mapped_head f (Op op) = Op (mapped_operation f op)

-- a list that a read shows
abbrev pub mapped_shown : (ℕ → ℕ) → Shown → Shown
mapped_shown f shown = record { who = shown.who; list = mapped_list f shown.list }

abbrev pub mapped_outcome : (ℕ → ℕ) → Outcome → Outcome
mapped_outcome f (Performed s shown) = Performed (mapped_state f s) (option_map (mapped_shown f) shown)
mapped_outcome f (Refused r) = Refused r
mapped_outcome f NoRow = NoRow

abbrev pub mapped_place : (ℕ → ℕ) → Place → Place
mapped_place f p = record { state = mapped_state f p.state; shown = map (mapped_shown f) p.shown }

-- the refusal with which a run stops, if it stops with one
abbrev pub refusal_in : List Instr → State → Option Refusal
refusal_in [] s = None
refusal_in (i ∷ is) s = elim (step s i) [ Performed t list ↦ refusal_in is t | Refused r ↦ Some r | NoRow ↦ None ]
