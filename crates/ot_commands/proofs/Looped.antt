-- A command loop behind a mark, from its parts.
use Rattle.std.proofs.Common.{◌≡◌, ◌-◌, ◌++◌, ℕ, Bool, true, List, [], Option, Some, None, Ok, length, refl, ap, arith, inl, inr}
use Rattle.std.specs.Prelude.{IfSome}
use Rattle.std.proofs.KnownBytes.{Keeps-refl}
use Rattle.streams.specs.Lines.{lines_of}
use Rattle.ot_isa.specs.Program.{Program}
use Rattle.ot_asm.specs.Parts.{lines_before, lines_behind, TakesPart}
use Rattle.ot_asm.specs.Stepping.{outcome_of_lines}
use Rattle.ot_debug.specs.Session.{Session, started}
use Rattle.ot_console.specs.declared.looping.LoopStop.{LoopStop}
use Rattle.ot_console.specs.Looping.{IsCaused, LoopsToEnd, LoopsPart}
use Rattle.streams.specs.Outcomes.{Streams}
use Rattle.ot_commands.specs.Debugged.{loop_status, Debugs, MayConverse, TellsStop}

-- each line was answered
pub converses : (schedule : Program) (before after : Session) (faulted : Bool) (input : Option (List ℕ)) (earlier : ℕ) (old new faults : Option (List ℕ)) (unread broken faults_broken : Bool)
    → before ≡ started schedule → LoopsToEnd before after faulted input old new
    → IfSome input (λ rest. MayConverse unread schedule (lines_of rest) earlier (loop_status faulted) (record { output = old; output' = new; broken = broken; faults = faults; faults' = faults; faults_broken = faults_broken }))
converses schedule before after faulted None earlier old new faults unread broken faults_broken begun said = tt
converses schedule before after faulted (Some rest) earlier old new faults unread broken faults_broken begun said =
    inl (record {
      after = after;
      text = said.text;
      faulted = faulted;
      loops = rw (said.all, ← begun) said.loops;
      gives = (inl (refl, said.written), Keeps-refl faults);
    })

-- the command loop broke off
pub breaks_off : (schedule : Program) (before after : Session) (stop : LoopStop) (input left : Option (List ℕ)) (earlier : ℕ) (old new faults faults' : Option (List ℕ)) (unread broken faults_broken : Bool)
    → before ≡ started schedule → LoopsPart stop earlier before after input left old new → IsCaused stop unread broken → TellsStop stop faults faults' faults_broken
    → IfSome input (λ rest. MayConverse unread schedule (lines_of rest) earlier 1 (record { output = old; output' = new; broken = broken; faults = faults; faults' = faults'; faults_broken = faults_broken }))
breaks_off schedule before after stop None left earlier old new faults faults' unread broken faults_broken begun said cause tells = tt
breaks_off schedule before after stop (Some rest) None earlier old new faults faults' unread broken faults_broken begun said cause tells = absurd said.taken
breaks_off schedule before after stop (Some rest) (Some behind) earlier old new faults faults' unread broken faults_broken begun said cause tells =
    inr (inl (record {
      stop = stop;
      answered = said.lines;
      left = lines_of (said.taken.0 ++ behind);
      front = said.taken.2;
      after = after;
      text = said.text;
      faulted = said.faulted;
      loops = rw (← begun) said.loops;
      written = said.written;
      cause = cause;
      number = said.number;
      tells = tells;
      status_is = refl;
    }))

-- the lines before the mark, and the command loop behind it
pub debugged : (known rest : Option (List ℕ)) (unread : Bool) (schedule : Program) (taken status : ℕ) (streams : Streams)
    → TakesPart true known rest taken
    → IfSome known (λ text. outcome_of_lines (lines_before true (lines_of text)) ≡ Ok schedule)
    → IfSome rest (λ behind. MayConverse unread schedule (lines_of behind) taken status streams)
    → IfSome known (λ text. Debugs unread text status streams)
debugged None rest unread schedule taken status streams part spelled looped = tt
debugged (Some text) None unread schedule taken status streams part spelled looped = absurd part
debugged (Some text) (Some behind) unread schedule taken status streams part spelled looped =
    let so_many : taken ≡ length (lines_of text) - length (lines_behind true (lines_of text)) = omega (arith, part.1, ap length part.0) in
    inr (schedule, spelled, rw (← so_many, ← part.0) looped)
