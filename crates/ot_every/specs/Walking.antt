-- How the program goes through the sessions.
use Rattle.std.specs.Prelude.{◌≡◌, ◌⊎◌, ℕ, zero, suc, ◌+◌, ◌&&◌, ◌||◌, not, if◌then◌else◌, Bool, true, false, List, [], ◌∷◌, ◌++◌, length, map, slice_get, Option, Some, None, unwrap_or, ◌≤◌}
use Rattle.std.specs.List.{All, flat_map}
use Rattle.ot_isa.specs.Program.{client_of}
use Rattle.ot_isa.specs.declared.instruction.Instr.{Instr}
use Rattle.ot_isa.specs.declared.instruction.Instr.TheVariants.{Edit, Take, Deliver, Acknowledge, Read, Join, ReadServer}
use Rattle.ot_operation.specs.Operation.{Item, Operation}
use Rattle.ot_model.specs.declared.shown.Refusal.{Refusal}
use Rattle.ot_model.specs.declared.shown.Shown.{Shown}
use Rattle.ot_model.specs.Table.{Client, State, Performed, Refused, NoRow, opening, step}
use Rattle.ot_model.specs.Orders.{ClientMachine, ServerMachine, is_at}
use Rattle.ot_machine.specs.Undoing.{Undoes}
use Rattle.ot_machine.specs.declared.undo.Undo.{Undo}
use Rattle.ot_every.specs.Forms.{images}
use Rattle.ot_every.specs.Listing.{Earlier, edits, has_client, is_before, is_behind, machine_of, sessions_from, texts_after, Space}
use Rattle.ot_every.specs.declared.marks.Mark.{Mark}
use Rattle.ot_every.specs.declared.walk.Walk.{Walk}

-- ---- edits

-- the operation and then this image of so many more characters
abbrev pub longer : Operation ℕ → ℕ → List (Item ℕ) → Operation ℕ
longer op left image = record { base = op.base + left; image = op.image ++ image }

-- the operations that begin as op does, and go on over so many more characters with at most so many more insertions; none stands before the next character
abbrev pub ends : List ℕ → Operation ℕ → ℕ → ℕ → List (Operation ℕ)
ends text op left inserts = map (longer op left) (images text op.base left inserts)

-- the texts of insertions have at most 8 letters
abbrev pub AreShort : List (List ℕ) → Type 0
AreShort texts = All (λ text. length text ≤ 8) texts

-- a letter of an edit
abbrev pub letter_of : Bool → ℕ → ℕ
letter_of is_small edit = if is_small then 97 + edit else 65 + edit

-- ---- what comes late

-- an instruction of client c, which joins, receives or does neither, cannot come before this one
abbrev pub stops : ℕ → Bool → Bool → Earlier → Bool
stops c joins receives p =
    is_at (ClientMachine c) p.instr || (joins && is_at ServerMachine p.instr)
    || (receives && not (has_client (slice_get p.before.clients c) (is_behind p.before)))

-- it comes late at the end of a path, which is given backwards
abbrev pub is_late : ℕ → Bool → Bool → List Earlier → Bool
is_late c joins receives [] = false
is_late c joins receives (p ∷ path) =
    not (stops c joins receives p) && (is_before (ClientMachine c) (machine_of p.instr) || is_late c joins receives path)

-- a client's machine performs it
abbrev pub is_clients : Instr → Bool
is_clients (Edit c op) = true
is_clients (Take c) = false
is_clients (Deliver c) = true
is_clients (Acknowledge c) = true
is_clients (Join c) = true
is_clients (Read c) = true
is_clients ReadServer = false

-- what a mark says of an instruction of a path
pub record IsMark (m : Mark) (p : Earlier) : Type 0 where
  pub client : m.client ≡ unwrap_or (client_of p.instr) 0
  pub is_client : m.is_client ≡ is_clients p.instr
  pub is_server : m.is_server ≡ is_at ServerMachine p.instr
  pub behind : m.behind.items ≡ map (is_behind p.before) p.before.clients

-- the first so many marks are those of a path, which is given backwards
abbrev pub AreMarks : List Earlier → ℕ → List Mark → Type 0
AreMarks [] count marks = count ≡ 0
AreMarks (p ∷ path) count marks = (n : ℕ) × (m : Mark) × (count ≡ suc n) × (slice_get marks n ≡ Some m) × IsMark m p × AreMarks path n marks

-- ---- what is tried

abbrev pub unless : Bool → List Instr → List Instr
unless late is = if late then [] else is

-- of client c, what does not come late
abbrev pub tried_of : ℕ → List (List ℕ) → List Earlier → ℕ → Client → List Instr
tried_of inserts texts path c x =
    unless (is_late c false false path) (edits inserts texts c (length x.list))
    ++ (unless (is_late c false true path) (Deliver c ∷ Acknowledge c ∷ []) ++ unless (is_late c true false path) (Join c ∷ []))

-- the first of the clients is number c
abbrev pub tried_at : ℕ → List (List ℕ) → List Earlier → ℕ → List Client → List Instr
tried_at inserts texts path c [] = []
tried_at inserts texts path c (x ∷ clients) = tried_of inserts texts path c x ++ tried_at inserts texts path (suc c) clients

-- the sessions that go on with an instruction
abbrev pub sessions_by : ℕ → ℕ → List (List ℕ) → List Earlier → State → Instr → List (List Instr)
sessions_by inserts count texts path s i =
    elim (step s i) [
      | Performed t shown ↦ map (λ is. i ∷ is) (sessions_from inserts count (texts_after i texts) (record { before = s; instr = i } ∷ path) t)
      | Refused r ↦ []
      | NoRow ↦ []
    ]

-- the same sessions go on with these instructions as with those
abbrev pub LeadOn : ℕ → ℕ → List (List ℕ) → List Earlier → State → List Instr → List Instr → Type 0
LeadOn inserts count texts path s is js = flat_map (sessions_by inserts count texts path s) is ≡ flat_map (sessions_by inserts count texts path s) js

-- ---- the walk

-- the machine and the path are what they were
pub record IsSame (a b : Walk) : Type 0 where
  pub machine : b.machine ≡ a.machine
  pub instrs : b.instrs.items ≡ a.instrs.items
  pub marks : b.marks.items ≡ a.marks.items

-- the walk is at the opening
pub record IsBegun (space : Space) (w : Walk) : Type 0 where
  pub machine : w.machine ≡ opening space.clients space.present space.start
  pub instrs : w.instrs.items ≡ []
  pub marks : w.marks.items ≡ []

-- the table performs the instruction, and it is recorded
pub record Goes (a : Walk) (i : Instr) (b : Walk) (undo : Undo) : Type 0 where
  pub shown : Option Shown
  pub led : step a.machine i ≡ Performed b.machine shown
  pub undoes : Undoes a.machine b.machine undo
  pub instrs : b.instrs.items ≡ a.instrs.items ++ i ∷ []
  pub mark : Mark
  pub is_mark : IsMark mark (record { before = a.machine; instr = i })
  pub marks : b.marks.items ≡ a.marks.items ++ mark ∷ []

-- the table refuses it, and nothing has changed
pub record Stays (a : Walk) (i : Instr) (b : Walk) : Type 0 where
  pub refusal : Refusal
  pub refused : step a.machine i ≡ Refused refusal
  pub same : IsSame a b

abbrev pub GoesOrStays : Walk → Instr → Walk → Option Undo → Type 0
GoesOrStays a i b None = Stays a i b
GoesOrStays a i b (Some undo) = Goes a i b undo

-- ---- visits

-- behind these instructions
abbrev pub behind_all : List Instr → List (List Instr) → List (List Instr)
behind_all before sessions = map (λ is. before ++ is) sessions

-- each of the sessions is visited, one after the other; `visits` says what a visit makes of the visitor and the output
abbrev pub Visits : {V O : Type 0} → (V → O → List Instr → V → O → Type 0) → V → O → List (List Instr) → V → O → Type 0
Visits visits v o [] w q = (v ≡ w) × (o ≡ q)
Visits {V} {O} visits v o (x ∷ xs) w q = (u : V) × (p : O) × visits v o x u p × Visits visits u p xs w q

-- the first of them are visited, and then perhaps one visit stops; `stops` says what it leaves
abbrev pub VisitsPart : {V O : Type 0} → (V → O → List Instr → V → O → Type 0) → (V → O → List Instr → V → O → Type 0) → V → O → List (List Instr) → V → O → Type 0
VisitsPart visits stops v o [] w q = (v ≡ w) × (o ≡ q)
VisitsPart {V} {O} visits stops v o (x ∷ xs) w q =
    (v ≡ w) × (o ≡ q) ⊎ (stops v o x w q ⊎ ((u : V) × (p : O) × visits v o x u p × VisitsPart visits stops u p xs w q))

-- ---- parts

-- a visitor that leaves out sessions: so many before the next one that it hands on, and so many between two of them. It hands on a session, or leaves it out
abbrev pub HandsOn : {V O : Type 0} → (V → O → List Instr → V → O → Type 0) → ℕ → ℕ → V → O → List Instr → ℕ → ℕ → V → O → Type 0
HandsOn visits gap zero v o is gap' left' w q = (gap' ≡ gap) × (left' ≡ gap) × visits v o is w q
HandsOn visits gap (suc left) v o is gap' left' w q = (gap' ≡ gap) × (left' ≡ left) × (w ≡ v) × (q ≡ o)

-- a session that is handed on stops
abbrev pub StopsOn : {V O : Type 0} → (V → O → List Instr → V → O → Type 0) → ℕ → V → O → List Instr → V → O → Type 0
StopsOn stops left v o is w q = (left ≡ 0) × stops v o is w q
