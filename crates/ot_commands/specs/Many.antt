-- What `conform --many` writes and answers.
use Rattle.std.specs.Prelude.{◌≡◌, ◌⊎◌, ◌+◌, ◌-◌, ◌||◌, ◌&&◌, ◌==◌, not, ℕ, zero, suc, Bool, true, false, List, [], ◌∷◌, ◌++◌, length, Option, codes, decimal, if◌then◌else◌, ⊤}
use Rattle.std.specs.Io.KnownBytes.{Appends, Keeps}
use Rattle.streams.specs.Lines.{lines_of}
use Rattle.streams.specs.Streams.{WritesPart}
use Rattle.streams.specs.Outcomes.{Streams, Gives, OutOfMemory, Says, memory_fault}
use Rattle.ot_asm.specs.Canonical.{lines_text}
use Rattle.ot_conform.specs.Counted.{is_nothing}
use Rattle.ot_conform.specs.Json.{in_braces, member}
use Rattle.ot_conform.specs.Ruled.{Answer, IsAnswer}
use Rattle.ot_conform.specs.Summed.{Sum, no_sessions, sum_members, sum_text, sum_value, with_session}
use Rattle.ot_conform.specs.Unknown.{all_named}
use Rattle.ot_conform.specs.declared.comparison.Verdict.TheVariants as verdict
use Rattle.ot_conform.specs.declared.counts.Counts.{Counts}
use Rattle.ot_conform.specs.declared.reading.Compared.{Compared}
use Rattle.ot_explain.specs.Placed.{places_from}
use Rattle.ot_commands.specs.Answered.{Session, answer_members, answer_words, words_member}
use Rattle.ot_commands.specs.Conformed.{answer_status}
use Rattle.ot_commands.specs.Sessions.{IsCompared, IsSessionFault, TellsSession, next_lines, schedule_lines, session_read}
use Rattle.ot_commands.specs.declared.many.EachStop.{EachStop}
use Rattle.ot_commands.specs.declared.many.EachStop.TheVariants as each
use Rattle.ot_commands.specs.declared.many.Found.{Found}
use Rattle.ot_commands.specs.declared.many.Found.TheVariants as found
use Rattle.ot_commands.specs.declared.many.Stop.{Stop}
use Rattle.ot_commands.specs.declared.many.Stop.TheVariants as stop
use Rattle.ot_commands.specs.declared.sessions.ComparedSession.{ComparedSession}
use Rattle.ot_commands.specs.declared.sessions.SessionFault.{SessionFault}

-- ---- the answers

-- of the session of this number: its schedule, and what `conform` answers
abbrev pub session_words : ℕ → List ℕ → Session → Answer → List ℕ
session_words number text session a = codes "session " ++ (decimal number ++ codes "\n") ++ text ++ codes "%%\n" ++ answer_words session.said a

abbrev pub session_members : ℕ → List ℕ → Session → Answer → List ℕ
session_members number text session a =
    answer_members (places_from 1 session.lines) session.said a ++ (member (codes "session") (decimal number) ++ words_member (codes "schedule") text)

abbrev pub session_json : ℕ → List ℕ → Session → Answer → List ℕ
session_json number text session a = in_braces (session_members number text session a) ++ 10 ∷ []

abbrev pub session_text : Bool → ℕ → List ℕ → Session → Answer → List ℕ
session_text false number text session a = session_words number text session a
session_text true number text session a = session_json number text session a

-- of a comparison with the session's run
pub record IsToldOf (json : Bool) (number : ℕ) (text : List ℕ) (session : Session) (compared : Compared) (bytes : List ℕ) : Type 0 where
  pub answer : Answer
  pub is_answer : IsAnswer session.schedule compared answer
  pub is : bytes ≡ session_text json number text session answer

-- of so many sessions that conform, which is none of conforming where nothing was counted
abbrev pub sum_answer : Bool → ℕ → Sum → List ℕ
sum_answer false n s = sum_text n s
sum_answer true n s = in_braces (sum_members n s) ++ 10 ∷ []

abbrev pub sum_status : Sum → ℕ
sum_status s = if is_nothing s.counts then 1 else 0

-- ---- the first that does not conform

-- the first session of these lines conforms: `conform` says so. With what was compared of it the sum is another one
pub record Conforms (sparse : Bool) (first : ℕ) (lines : List (List ℕ)) (s s' : Sum) : Type 0 where
  pub session : Session
  pub compared : Compared
  pub counts : Counts
  pub is : IsCompared sparse first lines session compared
  pub status : answer_status session.said compared.verdict ≡ 0
  pub verdict_is : compared.verdict ≡ verdict.Conforms counts
  pub sum : s' ≡ with_session counts (all_named compared.unknown.items) s

-- so many sessions at the front of the input's lines conform: what was compared of them, and the lines behind them
abbrev pub Conform : Bool → List (List ℕ) → ℕ → Sum → List (List ℕ) → Type 0
Conform sparse all zero s rest = (s ≡ no_sessions) × (rest ≡ all)
Conform sparse all (suc n) s rest =
    (before : List (List ℕ)) × (t : Sum) × Conform sparse all n t before × Conforms sparse (length all - length before) before t s × (rest ≡ next_lines before)

-- the first session of these lines does not conform: `conform` says so, and that is what is written with its number and its schedule
pub record Fails (sparse json : Bool) (first : ℕ) (lines : List (List ℕ)) (number : ℕ) (status : ℕ) (streams : Streams) : Type 0 where
  pub session : Session
  pub compared : Compared
  pub is : IsCompared sparse first lines session compared
  pub fails : answer_status session.said compared.verdict ≡ 1
  pub bytes : List ℕ
  pub told : IsToldOf json number (lines_text session.lines) session compared bytes
  pub gives : Gives 1 bytes status streams

-- it is refused
pub record RefusesSession (json unread : Bool) (first : ℕ) (lines : List (List ℕ)) (number : ℕ) (status : ℕ) (streams : Streams) : Type 0 where
  pub fault : SessionFault
  pub is_fault : IsSessionFault unread first lines fault
  pub tells : TellsSession json number fault status streams

-- all sessions conform; or those before the one that is named do, and it does not, or is refused
pub record AnswersFirst (sparse json unread : Bool) (lines : List (List ℕ)) (status : ℕ) (streams : Streams) : Type 0 where
  pub count : ℕ
  pub sum : Sum
  pub rest : List (List ℕ)
  pub conform : Conform sparse lines count sum rest
  pub answers :
      ((rest ≡ []) × Gives (sum_status sum) (sum_answer json count sum) status streams)
      ⊎ Fails sparse json (length lines - length rest) rest (count + 1) status streams
      ⊎ RefusesSession json unread (length lines - length rest) rest (count + 1) status streams

abbrev pub ComparesFirst : Bool → Bool → Bool → List (List ℕ) → ℕ → Streams → Type 0
ComparesFirst sparse json unread lines status streams = AnswersFirst sparse json unread lines status streams ⊎ OutOfMemory status streams

-- ---- each

-- the answer of the first session of these lines, and whether it conforms
pub record IsAnswered (sparse json : Bool) (first : ℕ) (lines : List (List ℕ)) (number : ℕ) (bytes : List ℕ) (conforms : Bool) : Type 0 where
  pub session : Session
  pub compared : Compared
  pub is : IsCompared sparse first lines session compared
  pub told : IsToldOf json number (lines_text session.lines) session compared bytes
  pub conforms_is : conforms ≡ (answer_status session.said compared.verdict == 0)

-- the answers of so many sessions at the front of the input's lines, one behind the other; whether they conform, and the lines behind them
abbrev pub AreAnswered : Bool → Bool → List (List ℕ) → ℕ → List ℕ → Bool → List (List ℕ) → Type 0
AreAnswered sparse json all zero bytes conform rest = (bytes ≡ []) × (conform ≡ true) × (rest ≡ all)
AreAnswered sparse json all (suc n) bytes conform rest =
    (before : List (List ℕ))
    × (front own : List ℕ)
    × (conformed conforms : Bool)
    × AreAnswered sparse json all n front conformed before
    × IsAnswered sparse json (length all - length before) before (n + 1) own conforms
    × (bytes ≡ front ++ own)
    × (conform ≡ (conformed && conforms))
    × (rest ≡ next_lines before)

abbrev pub each_status : ℕ → Bool → ℕ
each_status n conform = if (n == 0) || not conform then 1 else 0

-- the answers are on the output; then there is no session, the next one is refused behind them, or memory ran out; or, only where a write failed, a
-- first part of them is
pub record ComparesEach (sparse json unread : Bool) (lines : List (List ℕ)) (status : ℕ) (streams : Streams) : Type 0 where
  pub count : ℕ
  pub bytes : List ℕ
  pub conform : Bool
  pub rest : List (List ℕ)
  pub are : AreAnswered sparse json lines count bytes conform rest
  pub ends :
      ((rest ≡ []) × Gives (each_status count conform) bytes status streams)
      ⊎ ((behind : Option (List ℕ)) × Appends streams.output behind bytes × RefusesSession json unread (length lines - length rest) rest (count + 1) status (record streams { output = behind }))
      ⊎ ((status ≡ 1) × Appends streams.output streams.output' bytes × Says memory_fault streams)
      ⊎ ((status ≡ 1) × WritesPart streams.output streams.output' bytes × (streams.broken ≡ true) × Keeps streams.faults streams.faults')

abbrev pub ComparesMany : Bool → Bool → Bool → Bool → List ℕ → ℕ → Streams → Type 0
ComparesMany false sparse json unread text status streams = ComparesFirst sparse json unread (lines_of text) status streams
ComparesMany true sparse json unread text status streams = ComparesEach sparse json unread (lines_of text) status streams

-- ---- for private clauses

-- the session is added where it conforms
abbrev pub Adds : Session → Compared → Sum → Sum → Bool → Type 0
Adds session compared s s' true =
    (counts : Counts) × (answer_status session.said compared.verdict ≡ 0) × (compared.verdict ≡ verdict.Conforms counts) × (s' ≡ with_session counts (all_named compared.unknown.items) s)
Adds session compared s s' false = answer_status session.said compared.verdict ≡ 1

-- the first that does not conform, or all
abbrev pub FindsFirst : Bool → List (List ℕ) → Found → Type 0
FindsFirst sparse all (found.All n sum) = Conform sparse all n (sum_value sum) []
FindsFirst sparse all (found.Fails number session) =
    (n : ℕ)
    × (s : Sum)
    × (rest : List (List ℕ))
    × Conform sparse all n s rest
    × (number ≡ n + 1)
    × IsCompared sparse (length all - length rest) rest (session_read session) session.compared
    × (session.text.items ≡ lines_text (schedule_lines rest))
    × (answer_status session.comments session.compared.verdict ≡ 1)

abbrev pub StopsFirst : Bool → Bool → List (List ℕ) → Stop → Type 0
StopsFirst sparse unread all stop.Memory = ⊤
StopsFirst sparse unread all (stop.Refused number fault) =
    (n : ℕ) × (s : Sum) × (rest : List (List ℕ)) × Conform sparse all n s rest × (number ≡ n + 1) × IsSessionFault unread (length all - length rest) rest fault

-- what is found is written
abbrev pub Writes : Bool → Found → ℕ → Streams → Type 0
Writes json (found.All n sum) status streams = Gives (sum_status (sum_value sum)) (sum_answer json n (sum_value sum)) status streams ⊎ OutOfMemory status streams
Writes json (found.Fails number session) status streams =
    ((bytes : List ℕ) × IsToldOf json number session.text.items (session_read session) session.compared bytes × Gives 1 bytes status streams) ⊎ OutOfMemory status streams

-- the answer of a session is written
abbrev pub WritesSession : Bool → ℕ → ComparedSession → Bool → Option (List ℕ) → Option (List ℕ) → Type 0
WritesSession json number session conforms old new =
    (bytes : List ℕ)
    × IsToldOf json number session.text.items (session_read session) session.compared bytes
    × (conforms ≡ (answer_status session.comments session.compared.verdict == 0))
    × Appends old new bytes

abbrev pub StopsWriting : Bool → ℕ → ComparedSession → EachStop → Bool → Option (List ℕ) → Option (List ℕ) → Type 0
StopsWriting json number session each.Memory broken old new = Keeps old new
StopsWriting json number session (each.Refused n fault) broken old new = ⊥
StopsWriting json number session each.Output broken old new =
    (bytes : List ℕ) × IsToldOf json number session.text.items (session_read session) session.compared bytes × (broken ≡ true) × WritesPart old new bytes

-- the answers of all are written
abbrev pub WritesEach : Bool → Bool → List (List ℕ) → ℕ → Option (List ℕ) → Option (List ℕ) → Type 0
WritesEach sparse json all status old new =
    (n : ℕ) × (bytes : List ℕ) × (conform : Bool) × AreAnswered sparse json all n bytes conform [] × (status ≡ each_status n conform) × Appends old new bytes

abbrev pub StopsEach : Bool → Bool → Bool → List (List ℕ) → EachStop → Bool → Option (List ℕ) → Option (List ℕ) → Type 0
StopsEach sparse json unread all each.Memory broken old new =
    (n : ℕ) × (bytes : List ℕ) × (conform : Bool) × (rest : List (List ℕ)) × AreAnswered sparse json all n bytes conform rest × Appends old new bytes
StopsEach sparse json unread all (each.Refused number fault) broken old new =
    (n : ℕ)
    × (bytes : List ℕ)
    × (conform : Bool)
    × (rest : List (List ℕ))
    × AreAnswered sparse json all n bytes conform rest
    × Appends old new bytes
    × (number ≡ n + 1)
    × IsSessionFault unread (length all - length rest) rest fault
StopsEach sparse json unread all each.Output broken old new =
    (n : ℕ) × (bytes : List ℕ) × (conform : Bool) × (rest : List (List ℕ)) × AreAnswered sparse json all n bytes conform rest × (broken ≡ true) × WritesPart old new bytes
