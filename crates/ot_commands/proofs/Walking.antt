-- Sessions one after the other, up to the first that does not conform, or each.
use Rattle.std.proofs.Common.{◌≡◌, ◌+◌, ◌-◌, ◌==◌, ℕ, Bool, true, List, [], ◌++◌, length, Option, Some, None, refl, sym, ap, subst, ◌∙◌, inl, inr, arith}
use Rattle.std.specs.Prelude.{◌&&◌, IfSome, ⊤}
use Rattle.std.specs.Io.KnownBytes.{Appends, Keeps}
use Rattle.std.proofs.KnownBytes.{Appends-kept, Appends-trans}
use Rattle.std.proofs.Math.Numerals.{add-one}
use Rattle.streams.specs.Lines.{lines_of}
use Rattle.streams.specs.Outcomes.{OutOfMemory, Says, Streams, memory_fault}
use Rattle.streams.proofs.Parts.{part_after}
use Rattle.ot_asm.specs.Canonical.{lines_text}
use Rattle.ot_conform.specs.Summed.{Sum, sum_value}
use Rattle.ot_conform.specs.declared.summed.Sum as program
use Rattle.ot_conform.specs.declared.comparison.Verdict.TheVariants as verdict
use Rattle.ot_commands.specs.Conformed.{answer_status}
use Rattle.ot_commands.specs.Many.{Adds, AreAnswered, ComparesEach, ComparesFirst, Conform, Conforms, FindsFirst, IsToldOf, StopsEach, StopsFirst, StopsWriting, Writes, WritesEach, WritesSession}
use Rattle.ot_commands.specs.Sessions.{IsCompared, IsNext, IsSessionFault, TellsSession, session_read}
use Rattle.ot_commands.specs.declared.many.EachStop.{EachStop}
use Rattle.ot_commands.specs.declared.many.EachStop.TheVariants as each
use Rattle.ot_commands.specs.declared.many.Found.{Found}
use Rattle.ot_commands.specs.declared.many.Found.TheVariants as found
use Rattle.ot_commands.specs.declared.many.Stop.TheVariants as stop
use Rattle.ot_commands.specs.declared.sessions.ComparedSession.{ComparedSession}
use Rattle.ot_commands.specs.declared.sessions.SessionFault.{SessionFault}

-- ---- statuses

-- ---- up to the first that does not conform

-- so many sessions conform, and so many lines were taken
abbrev pub Walked : Bool → Option (List ℕ) → Option (List ℕ) → ℕ → ℕ → Sum → Type 0
Walked sparse None now n first s = ⊤
Walked sparse (Some all) None n first s = ⊥
Walked sparse (Some all) (Some rest) n first s = Conform sparse (lines_of all) n s (lines_of rest) × (first + length (lines_of rest) ≡ length (lines_of all))

pub walk_on : (sparse : Bool) (all now next : Option (List ℕ)) (n first count : ℕ) (s s' : Sum) (c : ComparedSession) → Walked sparse all now n first s
    → IfSome now (λ a. IsNext sparse first (lines_of a) next (Some (c, count)))
    → Adds (session_read c) c.compared s s' true
    → Walked sparse all next (n + 1) count s'
walk_on sparse None now next n first count s s' c walked is adds = tt
walk_on sparse (Some all) None next n first count s s' c walked is adds = absurd walked
walk_on sparse (Some all) (Some now) None n first count s s' c walked (is, text, left, at) adds = absurd left
walk_on sparse (Some all) (Some now) (Some next) n first count s s' c walked (is, text, left, at) (counts, status, verdict_is, sum) =
    let here : first ≡ length (lines_of all) - length (lines_of now) = omega (arith, walked.1) in
    let compared = subst (λ (k : ℕ). IsCompared sparse k (lines_of now) (session_read c) c.compared) here is in
    let conforms : Conforms sparse (length (lines_of all) - length (lines_of now)) (lines_of now) s s' =
    record { session = session_read c; compared = c.compared; counts = counts; is = compared; status = status; verdict_is = verdict_is; sum = sum } in (
      subst (λ (k : ℕ). Conform sparse (lines_of all) k s' (lines_of next)) (sym (add-one n)) (lines_of now, s, walked.0, conforms, left),
      omega (arith, walked.1, at, ap length left),
    )

pub found_all : (sparse : Bool) (all now next : Option (List ℕ)) (n first : ℕ) (sum : program.Sum) → Walked sparse all now n first (sum_value sum) → IfSome now (λ a. IsNext sparse first (lines_of a) next None)
    → IfSome all (λ text. FindsFirst sparse (lines_of text) (found.All n sum))
found_all sparse None now next n first sum walked none = tt
found_all sparse (Some all) None next n first sum walked none = absurd walked
found_all sparse (Some all) (Some now) next n first sum walked none = subst (λ (ls : List (List ℕ)). Conform sparse (lines_of all) n (sum_value sum) ls) none walked.0

pub refused_one : (sparse unread : Bool) (all now : Option (List ℕ)) (n first number : ℕ) (s : Sum) (fault : SessionFault) → Walked sparse all now n first s → IfSome now (λ a. IsSessionFault unread first (lines_of a) fault) → number ≡ n + 1
    → IfSome all (λ text. StopsFirst sparse unread (lines_of text) (stop.Refused number fault))
refused_one sparse unread None now n first number s fault walked is at = tt
refused_one sparse unread (Some all) None n first number s fault walked is at = absurd walked
refused_one sparse unread (Some all) (Some now) n first number s fault walked is at =
    let here : first ≡ length (lines_of all) - length (lines_of now) = omega (arith, walked.1) in
    (n, s, lines_of now, walked.0, at, subst (λ (k : ℕ). IsSessionFault unread k (lines_of now) fault) here is)

-- ---- and it is written

pub answers_found : (sparse json unread : Bool) (all : Option (List ℕ)) (found : Found) (status : ℕ) (streams : Streams) → IfSome all (λ text. FindsFirst sparse (lines_of text) found) → Writes json found status streams
    → IfSome all (λ text. ComparesFirst sparse json unread (lines_of text) status streams)
answers_found sparse json unread None found status streams finds writes = tt
answers_found sparse json unread (Some all) (found.All n sum) status streams finds (inl gives) = inl (record { count = n; sum = sum_value sum; rest = []; conform = finds; answers = inl (refl, gives) })
answers_found sparse json unread (Some all) (found.All n sum) status streams finds (inr wants) = inr wants
answers_found sparse json unread (Some all) (found.Fails number c) status streams (n, s, rest, conform, at, is, text, fails) (inl (bytes, told, gives)) =
    let shown : c.text.items ≡ lines_text (lines_of c.text.items) = text ∙ ap lines_text (sym is.is.lines) in
    let named = subst (λ (k : ℕ). IsToldOf json k c.text.items (session_read c) c.compared bytes) at told in
    let telling = subst (λ (t : List ℕ). IsToldOf json (n + 1) t (session_read c) c.compared bytes) shown named in
    inl (record { count = n; sum = s; rest = rest; conform = conform; answers = inr (inl (record { session = session_read c; compared = c.compared; is = is; fails = fails; bytes = bytes; told = telling; gives = gives })) })
answers_found sparse json unread (Some all) (found.Fails number c) status streams finds (inr wants) = inr wants

pub answers_refused : (sparse json unread : Bool) (all : Option (List ℕ)) (number : ℕ) (fault : SessionFault) (status : ℕ) (streams : Streams) → IfSome all (λ text. StopsFirst sparse unread (lines_of text) (stop.Refused number fault))
    → TellsSession json number fault status streams
    → IfSome all (λ text. ComparesFirst sparse json unread (lines_of text) status streams)
answers_refused sparse json unread None number fault status streams stops tells = tt
answers_refused sparse json unread (Some all) number fault status streams (n, s, rest, conform, at, is) tells =
    let telling = subst (λ (k : ℕ). TellsSession json k fault status streams) at tells in
    inl (record { count = n; sum = s; rest = rest; conform = conform; answers = inr (inr (record { fault = fault; is_fault = is; tells = telling })) })

pub answers_wants : (sparse json unread : Bool) (all : Option (List ℕ)) (status : ℕ) (streams : Streams) → OutOfMemory status streams → IfSome all (λ text. ComparesFirst sparse json unread (lines_of text) status streams)
answers_wants sparse json unread None status streams wants = tt
answers_wants sparse json unread (Some all) status streams wants = inr wants

-- ---- each

-- so many sessions are answered, and so many lines were taken
abbrev pub Told : Bool → Bool → Option (List ℕ) → Option (List ℕ) → ℕ → ℕ → Bool → Option (List ℕ) → Option (List ℕ) → Type 0
Told sparse json None now n first conform old new = ⊤
Told sparse json (Some all) None n first conform old new = ⊥
Told sparse json (Some all) (Some rest) n first conform old new =
    (bytes : List ℕ) × AreAnswered sparse json (lines_of all) n bytes conform (lines_of rest) × (first + length (lines_of rest) ≡ length (lines_of all)) × Appends old new bytes

-- one more is written, whole or in part
abbrev IsMore : Bool → Bool → List ℕ → ℕ → Bool → ComparedSession → List ℕ → List ℕ → List ℕ → Type 0
IsMore sparse json all n conform c front own rest =
    AreAnswered sparse json (lines_of all) (n + 1) (front ++ own) (conform && (answer_status c.comments c.compared.verdict == 0)) (lines_of rest)

answered_more : (sparse json : Bool) (all now next : List ℕ) (n first count number : ℕ) (conform : Bool) (front own : List ℕ) (c : ComparedSession) → AreAnswered sparse json (lines_of all) n front conform (lines_of now)
    → first + length (lines_of now) ≡ length (lines_of all)
    → IsNext sparse first (lines_of now) (Some next) (Some (c, count))
    → IsToldOf json number c.text.items (session_read c) c.compared own
    → number ≡ n + 1
    → IsMore sparse json all n conform c front own next
answered_more sparse json all now next n first count number conform front own c are lines (is, text, left, taken) told at =
    let here : first ≡ length (lines_of all) - length (lines_of now) = omega (arith, lines) in
    let shown : c.text.items ≡ lines_text (lines_of c.text.items) = text ∙ ap lines_text (sym is.is.lines) in
    let named = subst (λ (k : ℕ). IsToldOf json k c.text.items (session_read c) c.compared own) at told in
    let telling = subst (λ (t : List ℕ). IsToldOf json (n + 1) t (session_read c) c.compared own) shown named in
    let compared = subst (λ (k : ℕ). IsCompared sparse k (lines_of now) (session_read c) c.compared) here is in
    subst (λ (k : ℕ). AreAnswered sparse json (lines_of all) k (front ++ own) (conform && (answer_status c.comments c.compared.verdict == 0)) (lines_of next)) (sym (add-one n)) (
      lines_of now,
      front,
      own,
      conform,
      answer_status c.comments c.compared.verdict == 0,
      are,
      record { session = session_read c; compared = c.compared; is = compared; told = telling; conforms_is = refl },
      refl,
      refl,
      left,
    )

pub told_on : (sparse json : Bool) (all now next old mid new : Option (List ℕ)) (n first count number : ℕ) (conform conforms : Bool) (c : ComparedSession) → Told sparse json all now n first conform old mid
    → IfSome now (λ a. IsNext sparse first (lines_of a) next (Some (c, count)))
    → WritesSession json number c conforms mid new
    → number ≡ n + 1
    → Told sparse json all next (n + 1) count (conform && conforms) old new
told_on sparse json None now next old mid new n first count number conform conforms c told is writes at = tt
told_on sparse json (Some all) None next old mid new n first count number conform conforms c told is writes at = absurd told
told_on sparse json (Some all) (Some now) None old mid new n first count number conform conforms c told (is, text, left, taken) writes at = absurd left
told_on sparse json (Some all) (Some now) (Some next) old mid new n first count number conform conforms c (front, are, lines, appends) is (own, tells, whether, wrote) at = (
  front ++ own,
  rw whether (answered_more sparse json all now next n first count number conform front own c are lines is tells at),
  omega (arith, lines, is.3, ap length is.2),
  Appends-trans old mid new front own appends wrote,
)

-- a session that is not written whole
pub told_stopped : (sparse json unread : Bool) (all now next old mid new : Option (List ℕ)) (n first count number : ℕ) (conform broken : Bool) (c : ComparedSession) (stop : EachStop) → Told sparse json all now n first conform old mid
    → IfSome now (λ a. IsNext sparse first (lines_of a) next (Some (c, count)))
    → StopsWriting json number c stop broken mid new
    → number ≡ n + 1
    → IfSome all (λ text. StopsEach sparse json unread (lines_of text) stop broken old new)
told_stopped sparse json unread None now next old mid new n first count number conform broken c stop told is stops at = tt
told_stopped sparse json unread (Some all) None next old mid new n first count number conform broken c stop told is stops at = absurd told
told_stopped sparse json unread (Some all) (Some now) None old mid new n first count number conform broken c stop told (is, text, left, taken) stops at = absurd left
told_stopped sparse json unread (Some all) (Some now) (Some next) old mid new n first count number conform broken c each.Memory (front, are, lines, appends) is keeps at =
    (n, front, conform, lines_of now, are, Appends-kept old mid new front appends keeps)
told_stopped sparse json unread (Some all) (Some now) (Some next) old mid new n first count number conform broken c (each.Refused k fault) told is stops at = absurd stops
told_stopped sparse json unread (Some all) (Some now) (Some next) old mid new n first count number conform broken c each.Output (front, are, lines, appends) is (own, tells, broke, part) at =
    (n + 1, front ++ own, _, lines_of next, answered_more sparse json all now next n first count number conform front own c are lines is tells at, broke, part_after old mid new front own appends part)

-- ---- and what is left on the streams

pub answers_each : (sparse json unread : Bool) (all : Option (List ℕ)) (status : ℕ) (streams : Streams) → IfSome all (λ text. WritesEach sparse json (lines_of text) status streams.output streams.output') → Keeps streams.faults streams.faults'
    → IfSome all (λ text. ComparesEach sparse json unread (lines_of text) status streams)
answers_each sparse json unread None status streams writes silent = tt
answers_each sparse json unread (Some all) status streams (n, bytes, conform, are, is, appends) silent =
    record { count = n; bytes = bytes; conform = conform; rest = []; are = are; ends = inl (refl, (inl (is, appends), silent)) }

pub each_refused : (sparse json unread : Bool) (all : Option (List ℕ)) (number : ℕ) (fault : SessionFault) (broken : Bool) (behind : Option (List ℕ)) (status : ℕ) (streams : Streams)
    → IfSome all (λ text. StopsEach sparse json unread (lines_of text) (each.Refused number fault) broken streams.output behind)
    → TellsSession json number fault status (record streams { output = behind })
    → IfSome all (λ text. ComparesEach sparse json unread (lines_of text) status streams)
each_refused sparse json unread None number fault broken behind status streams stops tells = tt
each_refused sparse json unread (Some all) number fault broken behind status streams (n, bytes, conform, rest, are, appends, at, is) tells =
    let telling = subst (λ (k : ℕ). TellsSession json k fault status (record streams { output = behind })) at tells in
    record { count = n; bytes = bytes; conform = conform; rest = rest; are = are; ends = inr (inl (behind, appends, record { fault = fault; is_fault = is; tells = telling })) }

pub each_wants : (sparse json unread : Bool) (all : Option (List ℕ)) (broken : Bool) (streams : Streams) → IfSome all (λ text. StopsEach sparse json unread (lines_of text) each.Memory broken streams.output streams.output') → Says memory_fault streams
    → IfSome all (λ text. ComparesEach sparse json unread (lines_of text) 1 streams)
each_wants sparse json unread None broken streams stops tells = tt
each_wants sparse json unread (Some all) broken streams (n, bytes, conform, rest, are, appends) tells =
    record { count = n; bytes = bytes; conform = conform; rest = rest; are = are; ends = inr (inr (inl (refl, appends, tells))) }

pub each_broken : (sparse json unread : Bool) (all : Option (List ℕ)) (streams : Streams) → IfSome all (λ text. StopsEach sparse json unread (lines_of text) each.Output streams.broken streams.output streams.output') → Keeps streams.faults streams.faults'
    → IfSome all (λ text. ComparesEach sparse json unread (lines_of text) 1 streams)
each_broken sparse json unread None streams stops silent = tt
each_broken sparse json unread (Some all) streams (n, bytes, conform, rest, are, broke, part) silent =
    record { count = n; bytes = bytes; conform = conform; rest = rest; are = are; ends = inr (inr (inr (refl, part, broke, silent))) }
