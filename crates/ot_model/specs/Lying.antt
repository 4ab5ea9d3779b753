-- Where an edit of a run lies: in its client's outstanding operation, in the client's buffer, or in an entry of the log. And what the
-- counts of a trace say of the same.
use Rattle.std.specs.Prelude.{◌≡◌, ◌≢◌, ℕ, zero, suc, ◌-◌, ◌<◌, ◌≤◌, ◌⊎◌, ◌↔◌, Bool, true, false, ◌==◌, List, [], ◌∷◌, length, take, get_or, slice_get, count_by, Some}
use Rattle.ot_isa.specs.Program.{Program}
use Rattle.ot_isa.specs.declared.instruction.Instr.{Instr}
use Rattle.ot_isa.specs.declared.instruction.Instr.TheVariants.{Edit, Take, Deliver, Acknowledge, Join, Read, ReadServer}
use Rattle.ot_model.specs.Table.{Phase, NotJoined, Synchronized, AwaitingConfirm, AwaitingWithBuffer, absent, State, Performed, Refused, NoRow, step}
use Rattle.ot_model.specs.Runs.{IsRunnable, IsStateAt, opening_of}
use Rattle.ot_model.specs.Trace.{EventView}
use Rattle.ot_model.specs.Events.{Ledger, counted, ledger_after, actor, no_edits, trace_of}

-- what an edit can lie in: the outstanding operation of a client, its buffer, an entry of the log
pub data Holder : Type 0 where
  Outstanding : ℕ → Holder
  Buffer : ℕ → Holder
  LogEntry : ℕ → Holder

-- an edit of client c in this phase becomes the outstanding operation or the buffer, or is composed into the buffer
abbrev pub GoesInto : ℕ → Phase → Holder → Type 0
GoesInto c NotJoined h = ⊥
GoesInto c Synchronized h = h ≡ Outstanding c
GoesInto c (AwaitingConfirm o) h = h ≡ Buffer c
GoesInto c (AwaitingWithBuffer o b) h = h ≡ Buffer c

-- the instruction is an edit of client d, which goes into this
abbrev pub Enters : ℕ → Instr → State → Holder → Type 0
Enters d (Edit c op) s h = (d ≡ c) × GoesInto c (get_or s.clients c absent).phase h
Enters d (Take c) s h = ⊥
Enters d (Deliver c) s h = ⊥
Enters d (Acknowledge c) s h = ⊥
Enters d (Join c) s h = ⊥
Enters d (Read c) s h = ⊥
Enters d ReadServer s h = ⊥

-- What lies in g before the instruction lies in h after it. A take makes an entry of the outstanding operation, for which the client still
-- waits. An acknowledgement ends that, and sends the buffer.
abbrev pub Passes : Instr → State → Holder → Holder → Type 0
Passes (Edit c op) s g h = g ≡ h
Passes (Take c) s g h = (g ≡ h) ⊎ ((g ≡ Outstanding c) × (h ≡ LogEntry (length s.log)))
Passes (Deliver c) s g h = g ≡ h
Passes (Acknowledge c) s g h = ((g ≡ h) × (g ≢ Outstanding c) × (g ≢ Buffer c)) ⊎ ((g ≡ Buffer c) × (h ≡ Outstanding c))
Passes (Join c) s g h = g ≡ h
Passes (Read c) s g h = g ≡ h
Passes ReadServer s g h = g ≡ h

abbrev pub is_edit_by : ℕ → Instr → Bool
is_edit_by d (Edit c op) = c == d
is_edit_by d (Take c) = false
is_edit_by d (Deliver c) = false
is_edit_by d (Acknowledge c) = false
is_edit_by d (Join c) = false
is_edit_by d (Read c) = false
is_edit_by d ReadServer = false

-- how many of the instructions are edits of client d
abbrev pub edits_among : ℕ → List Instr → ℕ
edits_among d is = count_by (is_edit_by d) is

-- edit k of client d, the first being 0, lies in this once the first p instructions of the run are performed
abbrev pub LiesIn : Program → ℕ → ℕ → ℕ → Holder → Type 0
LiesIn run d k zero h = ⊥
LiesIn run d k (suc p) h =
    (s : State) × (i : Instr) × IsStateAt run p s × (slice_get run.instrs p ≡ Some i)
    × ((Enters d i s h × (edits_among d (take p run.instrs) ≡ k)) ⊎ ((g : Holder) × LiesIn run d k p g × Passes i s g h))

-- ---- what the counts say

-- the ledger once these instructions are performed, or as many of them as the table performs
abbrev pub ledger_from : State → Ledger → List Instr → Ledger
ledger_from s l [] = l
ledger_from s l (i ∷ is) =
    elim (step s i) [
      | Performed t shown ↦ ledger_from t (ledger_after l i (actor i s.clients absent)) is
      | Refused r ↦ l
      | NoRow ↦ l
    ]

-- the ledger once the first p instructions of the run are performed
abbrev pub ledger_at : Program → ℕ → Ledger
ledger_at run p = ledger_from (opening_of run) (no_edits run.clients) (take p run.instrs)

-- how many edits of client d lie in the first j log entries, by the ledger
abbrev pub in_entries : Ledger → ℕ → ℕ → ℕ
in_entries l j d = counted d 0 (take j l.entries)

-- how many edits of client c do not wait in its buffer
abbrev pub sent : Ledger → ℕ → ℕ
sent l c = get_or l.made c 0 - get_or l.buffered c 0

-- by the ledger, edit k of client d is one of those in this
abbrev pub IsCountedIn : State → Ledger → ℕ → ℕ → Holder → Type 0
IsCountedIn s l d k (Outstanding c) = (d ≡ c) × (in_entries l (get_or s.clients c absent).revision c ≤ k) × (k < sent l c)
IsCountedIn s l d k (Buffer c) = (d ≡ c) × (sent l c ≤ k) × (k < get_or l.made c 0)
IsCountedIn s l d k (LogEntry j) = (in_entries l j d ≤ k) × (k < in_entries l (suc j) d)

-- at each place of each run the relation and the ledger say the same
abbrev pub CountsTellWhatLies : Type 0
CountsTellWhatLies =
    (run : Program) (p : ℕ) (s : State) → IsRunnable run → p ≤ length run.instrs → IsStateAt run p s → (d k : ℕ) (h : Holder) → LiesIn run d k p h ↔ IsCountedIn s (ledger_at run p) d k h

-- ---- and what an event sees

-- the instruction is of this replica, of n clients and the server, which is replica n, and it is an edit or a read
abbrev pub IsNotedFor : ℕ → Instr → EventView → Type 0
IsNotedFor n (Edit c op) x = (x.replica ≡ c) × (x.edit ≡ true)
IsNotedFor n (Take c) x = ⊥
IsNotedFor n (Deliver c) x = ⊥
IsNotedFor n (Acknowledge c) x = ⊥
IsNotedFor n (Join c) x = ⊥
IsNotedFor n (Read c) x = (x.replica ≡ c) × (x.edit ≡ false)
IsNotedFor n ReadServer x = (x.replica ≡ n) × (x.edit ≡ false)

-- how many log entries the instruction's reader has: a client those below its revision, the server all
abbrev pub entries_had : Instr → State → ℕ
entries_had (Edit c op) s = (get_or s.clients c absent).revision
entries_had (Take c) s = 0
entries_had (Deliver c) s = 0
entries_had (Acknowledge c) s = 0
entries_had (Join c) s = 0
entries_had (Read c) s = (get_or s.clients c absent).revision
entries_had ReadServer s = length s.log

-- the event is of instruction i at place p, and sees the replica's own earlier edits, and of each other client those that lie in an entry that the reader has
pub record SeesWhatLies (run : Program) (p : ℕ) (s : State) (i : Instr) (x : EventView) : Type 0 where
  pub at : IsStateAt run p s
  pub instr : slice_get run.instrs p ≡ Some i
  pub noted : IsNotedFor run.clients i x
  pub own : get_or x.seen x.replica 0 ≡ edits_among x.replica (take p run.instrs)
  pub others : (d k : ℕ) → d ≢ x.replica → (k < get_or x.seen d 0) ↔ ((j : ℕ) × (j < entries_had i s) × LiesIn run d k p (LogEntry j))

-- each event of each trace does
abbrev pub EventsSeeWhatLies : Type 0
EventsSeeWhatLies =
    (run : Program) (n : ℕ) (x : EventView) → IsRunnable run → slice_get (trace_of run).events n ≡ Some x → (p : ℕ) × (s : State) × (i : Instr) × SeesWhatLies run p s i x
