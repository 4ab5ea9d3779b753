-- A comparison behind a mark, from its parts.
use Rattle.std.proofs.Common.{◌≡◌, ◌-◌, ℕ, Bool, true, List, [], Option, Some, None, Ok, length, refl, ap, arith, inl, inr, subst}
use Rattle.std.specs.Prelude.{IfSome}
use Rattle.std.specs.Io.KnownBytes.{Keeps}
use Rattle.streams.specs.Lines.{lines_of}
use Rattle.ot_isa.specs.Program.{Program}
use Rattle.ot_asm.specs.Parts.{lines_before, lines_behind, TakesPart}
use Rattle.ot_asm.specs.Stepping.{outcome_of_lines}
use Rattle.ot_asm.specs.declared.fault.AsmFault.{AsmFault}
use Rattle.ot_asm.specs.Comments.{Said, comments_of}
use Rattle.ot_commands.specs.Answered.{Session}
use Rattle.ot_commands.specs.Faults.{IsLineFault, TellsFault, line_fault}
use Rattle.ot_commands.specs.Part.{HasFaultIn}
use Rattle.streams.specs.Outcomes.{Complains, Streams, OutOfMemory}
use Rattle.ot_conform.specs.Compared.{IsCaused, IsVerdictOf, NamesKeys, StopsBehind}
use Rattle.ot_conform.specs.Ports.{counted_lines}
use Rattle.ot_conform.specs.Unknown.{all_named}
use Rattle.ot_conform.specs.declared.reading.Compared.{Compared}
use Rattle.ot_conform.specs.declared.reading.CompareStop.{CompareStop}
use Rattle.ot_commands.proofs.KeptFaults.{tells_in}
use Rattle.ot_commands.specs.Conformed.{Compares, MayJudge, MayWrite, stop_fault}

-- the verdict on the lines that are left is written
pub judged : (sparse json unread : Bool) (session : Session) (earlier : ℕ) (input : Option (List ℕ)) (compared : Compared) (status : ℕ) (streams : Streams)
    → IfSome input (λ text. IsVerdictOf sparse session.schedule (counted_lines (lines_of text)) compared.verdict)
    → IfSome input (λ text. NamesKeys sparse session.schedule earlier (lines_of text) compared.verdict (all_named compared.unknown.items))
    → MayWrite json session compared status streams
    → IfSome input (λ text. MayJudge sparse json unread session (lines_of text) earlier status streams)
judged sparse json unread session earlier None compared status streams is names wrote = tt
judged sparse json unread session earlier (Some text) compared status streams is names (inl answers) = inl (record { compared = compared; is = is; unknown = names; answers = answers })
judged sparse json unread session earlier (Some text) compared status streams is names (inr wants) = inr (inr wants)

-- the comparison broke off
pub broke_off : (sparse json unread : Bool) (session : Session) (earlier : ℕ) (input : Option (List ℕ)) (stop : CompareStop) (streams : Streams)
    → IfSome input (λ text. StopsBehind sparse session.schedule stop earlier (lines_of text)) → Keeps streams.output streams.output' → IsCaused stop unread → Complains (line_fault (stop_fault stop)) streams.faults streams.faults' streams.faults_broken
    → IfSome input (λ text. MayJudge sparse json unread session (lines_of text) earlier 1 streams)
broke_off sparse json unread session earlier None stop streams behind silent cause tells = tt
broke_off sparse json unread session earlier (Some text) stop streams behind silent cause tells =
    inr (inl (record { stop = stop; behind = behind; silent = silent; cause = cause; tells = tells; status_is = refl }))

-- the lines before the mark, and the comparison of those behind it
pub compared : (sparse json unread : Bool) (known rest : Option (List ℕ)) (kept shown : List ℕ) (said : Said) (schedule : Program) (taken status : ℕ) (streams : Streams)
    → TakesPart true known rest taken
    → IfSome known (λ text. outcome_of_lines (lines_before true (lines_of text)) ≡ Ok schedule)
    → IfSome known (λ text. lines_of kept ≡ lines_before true (lines_of text))
    → said ≡ comments_of kept
    → shown ≡ kept
    → IfSome rest (λ behind. MayJudge sparse json unread (record { lines = lines_of shown; said = said; schedule = schedule }) (lines_of behind) taken status streams)
    → IfSome known (λ text. Compares sparse json unread text status streams)
compared sparse json unread None rest kept shown said schedule taken status streams part spelled keeps told is judged = tt
compared sparse json unread (Some text) None kept shown said schedule taken status streams part spelled keeps told is judged = absurd part
compared sparse json unread (Some text) (Some behind) kept shown said schedule taken status streams part spelled keeps told is judged =
    let so_many : taken ≡ length (lines_of text) - length (lines_behind true (lines_of text)) = omega (arith, part.1, ap length part.0) in
    inr (schedule, spelled, rw (← so_many, ← part.0, ← keeps, ← told, ← is) judged)

-- memory for their comments ran out
pub wanted : (sparse json unread : Bool) (known : Option (List ℕ)) (schedule : Program) (status : ℕ) (streams : Streams)
    → IfSome known (λ text. outcome_of_lines (lines_before true (lines_of text)) ≡ Ok schedule)
    → OutOfMemory status streams
    → IfSome known (λ text. Compares sparse json unread text status streams)
wanted sparse json unread None schedule status streams spelled wants = tt
wanted sparse json unread (Some text) schedule status streams spelled wants = inr (schedule, spelled, inr (inr wants))

-- they are refused
pub refused : (sparse json unread : Bool) (known : Option (List ℕ)) (kept shown : List ℕ) (fault : AsmFault) (status : ℕ) (streams : Streams)
    → IfSome known (λ text. IsLineFault unread (lines_before true (lines_of text)) fault)
    → IfSome known (λ text. HasFaultIn (lines_of kept) (lines_before true (lines_of text)) fault)
    → shown ≡ kept
    → TellsFault json (lines_of shown) fault status streams
    → IfSome known (λ text. Compares sparse json unread text status streams)
refused sparse json unread None kept shown fault status streams is has same tells = tt
refused sparse json unread (Some text) kept shown fault status streams is has same tells =
    let lines = lines_before true (lines_of text) in
    let told = subst (λ (t : List ℕ). TellsFault json (lines_of t) fault status streams) same tells in
    inl (record { fault = fault; is_fault = is; tells = tells_in json (lines_of kept) lines fault status streams has told })
