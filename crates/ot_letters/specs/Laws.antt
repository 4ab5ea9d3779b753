-- The laws of sessions with other letters: what is done with mapped letters is what is done, with its letters mapped.
use Rattle.std.specs.Prelude.{◌≡◌, ◌↔◌, ℕ, List, length, map, Some, option_map}
use Rattle.std.specs.List.{filter, AllZip}
use Rattle.ot_codes.specs.Shape.{mapped, shape}
use Rattle.ot_operation.specs.Operation.{Operation, apply, invert}
use Rattle.ot_operation.specs.Compose.{compose}
use Rattle.ot_operation.specs.Merge.{first_after, second_after}
use Rattle.ot_client.specs.State as client
use Rattle.ot_server.specs.Faults as server_faults
use Rattle.ot_server.specs.History.{Entry, History, transform_over, received}
use Rattle.ot_isa.specs.Program.{Program}
use Rattle.ot_isa.specs.declared.instruction.Instr.{Instr}
use Rattle.ot_isa.specs.declared.instruction.Instr.TheVariants.{Edit}
use Rattle.ot_model.specs.Table.{State, Client, Place, begin, tag_operation, downlink, step, run, performed, IsQuiet}
use Rattle.ot_model.specs.Runs.{done, place_at}
use Rattle.ot_model.specs.Sound.{AreInstrs}
use Rattle.ot_model.specs.Orders.{Machine, is_at}
use Rattle.ot_letters.specs.Elements as elements
use Rattle.ot_letters.specs.Elements.{mapped_log, mapped_history}
use Rattle.ot_letters.specs.Letters.{mapped_operation, mapped_edit, mapped_instr, mapped_instrs, mapped_client, mapped_state, mapped_head, mapped_outcome, mapped_place, mapped_program, refusal_in}
use Rattle.ot_letters.specs.Alike.{AreAlikeTexts, AreAlikeInstrs, AreAlike, AreAlikeStates, AreAlikeOutcomes, AreAlikePlaces}

-- ---- operations over any elements

abbrev pub ApplyMaps : Type 0 → Type 0 → Type 0
ApplyMaps A B = (f : A → B) (op : Operation A) (document : List A) → apply (mapped f op) (map f document) ≡ map f (apply op document)

abbrev pub ComposeMaps : Type 0 → Type 0 → Type 0
ComposeMaps A B = (f : A → B) (a b : Operation A) → compose (mapped f a) (mapped f b) ≡ mapped f (compose a b)

abbrev pub TransformMaps : Type 0 → Type 0 → Type 0
TransformMaps A B =
    (f : A → B) (a b : Operation A)
    → (first_after (mapped f a) (mapped f b) ≡ mapped f (first_after a b)) × (second_after (mapped f a) (mapped f b) ≡ mapped f (second_after a b))

abbrev pub InvertMaps : Type 0 → Type 0 → Type 0
InvertMaps A B = (f : A → B) (op : Operation A) (document : List A) → invert (mapped f op) (map f document) ≡ mapped f (invert op document)

-- ---- ot.js' client and server

-- an edit, and what it sends
abbrev pub EditMaps : Type 0 → Type 0 → Type 0
EditMaps A B =
    (f : A → B) (state : client.State A) (op : Operation A)
    → (client.edited (elements.mapped_client f state) (mapped f op) ≡ elements.mapped_client f (client.edited state op))
    × (client.message_edited state.revision (elements.mapped_phase f state.phase) (mapped f op)
    ≡ option_map (elements.mapped_message f) (client.message_edited state.revision state.phase op))

-- a delivery, and what the client applies
abbrev pub DeliverMaps : Type 0 → Type 0 → Type 0
DeliverMaps A B =
    (f : A → B) (state : client.State A) (op : Operation A)
    → (client.delivered (elements.mapped_client f state) (mapped f op) ≡ elements.mapped_client f (client.delivered state op))
    × (client.against_pending (elements.mapped_phase f state.phase) (mapped f op) ≡ mapped f (client.against_pending state.phase op))

-- an acknowledgement, and what it sends
abbrev pub AcknowledgeMaps : Type 0 → Type 0 → Type 0
AcknowledgeMaps A B =
    (f : A → B) (revision : ℕ) (phase : client.Phase A)
    → (client.phase_acknowledged (elements.mapped_phase f phase) ≡ option_map (elements.mapped_phase f) (client.phase_acknowledged phase))
    × (client.message_acknowledged revision (elements.mapped_phase f phase)
    ≡ option_map (elements.mapped_message f) (client.message_acknowledged revision phase))

-- an operation that the server receives: its fault if it has one, what it becomes, and the history after it
abbrev pub ReceiveMaps : Type 0 → Type 0 → Type 0
ReceiveMaps A B =
    (f : A → B) (history : History A) (maker revision : ℕ) (op : Operation A)
    → (server_faults.fault_of (mapped_history f history) revision (mapped f op) ≡ server_faults.fault_of history revision op)
    × (transform_over (mapped f op) (mapped_log f history.log) ≡ mapped f (transform_over op history.log))
    × (received (mapped_history f history) maker revision (mapped f op) ≡ mapped_history f (received history maker revision op))

-- ---- the table

abbrev pub TagMaps : Type 0
TagMaps = (f : ℕ → ℕ) (origin serial : ℕ) (op : Operation ℕ) → tag_operation origin serial (mapped_edit f op) ≡ mapped_operation f (tag_operation origin serial op)

abbrev pub OpeningMaps : Type 0
OpeningMaps = (f : ℕ → ℕ) (clients present : ℕ) (text : List ℕ) → begin clients present (map f text) ≡ mapped_place f (begin clients present text)

abbrev pub DownlinkMaps : Type 0
DownlinkMaps = (f : ℕ → ℕ) (s : State) (c : ℕ) (x : Client) → downlink (mapped_state f s) c (mapped_client f x) ≡ map (mapped_head f) (downlink s c x)

-- an instruction is performed, or refused with the same refusal, or has no row, as it is without the map
abbrev pub StepMaps : Type 0
StepMaps = (f : ℕ → ℕ) (s : State) (i : Instr) → step (mapped_state f s) (mapped_instr f i) ≡ mapped_outcome f (step s i)

-- a run reaches its end exactly if it does without the map; else the same instruction is the first that is refused, for the same reason
abbrev pub RunMaps : Type 0
RunMaps =
    (f : ℕ → ℕ) (is : List Instr) (p : Place)
    → (run (mapped_instrs f is) (mapped_place f p) ≡ option_map (mapped_place f) (run is p))
    × (performed (mapped_instrs f is) (mapped_state f p.state) ≡ performed is p.state)
    × (refusal_in (mapped_instrs f is) (mapped_state f p.state) ≡ refusal_in is p.state)

-- the same of a schedule and of each of its places
abbrev pub ScheduleMaps : Type 0
ScheduleMaps =
    (f : ℕ → ℕ) (s : Program) (n : ℕ)
    → (done (mapped_program f s) ≡ done s) × (place_at (mapped_program f s) n ≡ option_map (mapped_place f) (place_at s n))

-- what a schedule can have as instructions
abbrev pub InstrsMap : Type 0
InstrsMap = (f : ℕ → ℕ) (is : List Instr) → AreInstrs (mapped_instrs f is) ↔ AreInstrs is

abbrev pub QuietMaps : Type 0
QuietMaps = (f : ℕ → ℕ) (s : State) → IsQuiet (mapped_state f s) ↔ IsQuiet s

-- each machine has the mapped instructions, in the same order
abbrev pub OrderMaps : Type 0
OrderMaps = (f : ℕ → ℕ) (is : List Instr) (w : Machine) → filter (is_at w) (mapped_instrs f is) ≡ mapped_instrs f (filter (is_at w) is)

-- ---- alike schedules

-- texts are alike exactly if they have one length, and edits exactly if they have one client and one shape
abbrev pub AlikeIsLength : Type 0
AlikeIsLength = (text other : List ℕ) → AreAlikeTexts text other ↔ (length text ≡ length other)

abbrev pub AlikeIsShape : Type 0
AlikeIsShape = (c d : ℕ) (a b : Operation ℕ) → AreAlikeInstrs (Edit c a) (Edit d b) ↔ ((c ≡ d) × (shape a ≡ shape b))

-- schedules are alike exactly if they have one length and alike instructions at each place
abbrev pub AlikeIsEach : Type 0
AlikeIsEach = (is js : List Instr) → AreAlike is js ↔ AllZip AreAlikeInstrs is js

-- alike texts have alike openings
abbrev pub OpeningsAreAlike : Type 0
OpeningsAreAlike = (clients present : ℕ) (text other : List ℕ) → AreAlikeTexts text other → AreAlikePlaces (begin clients present text) (begin clients present other)

-- alike instructions in alike states come to alike outcomes: refusals are the same
abbrev pub StepsAreAlike : Type 0
StepsAreAlike = (s t : State) (i j : Instr) → AreAlikeStates s t → AreAlikeInstrs i j → AreAlikeOutcomes (step s i) (step t j)

-- each run is performed exactly as far as the other, and refused for the same reason; where the first reaches its end, so does
-- the other, at an alike place, and both are quiet there or neither
pub record AreAlikeRuns (is js : List Instr) (p q : Place) : Type 0 where
  pub performed : performed is p.state ≡ performed js q.state
  pub refusal : refusal_in is p.state ≡ refusal_in js q.state
  pub ends : (e : Place) → run is p ≡ Some e → (g : Place) × (run js q ≡ Some g) × AreAlikePlaces e g × (IsQuiet e.state ↔ IsQuiet g.state)

-- the runs of alike schedules from alike places
abbrev pub RunsAreAlike : Type 0
RunsAreAlike = (is js : List Instr) (p q : Place) → AreAlike is js → AreAlikePlaces p q → AreAlikeRuns is js p q

-- of two alike states both are quiet, or neither
abbrev pub QuietIsAlike : Type 0
QuietIsAlike = (s t : State) → AreAlikeStates s t → IsQuiet s ↔ IsQuiet t
