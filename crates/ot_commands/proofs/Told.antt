-- Why an input is no trace: from the bytes that were read to the input.
use Rattle.std.proofs.Common.{◌≡◌, ◌≢◌, ◌∙◌, ℕ, Bool, List, Option, Some, None, Err, inl, inr, subst, refl}
use Rattle.std.proofs.KnownBytes.{Keeps-refl}
use Rattle.std.specs.Prelude.{IfSome}
use Rattle.streams.specs.Outcomes.{Streams}
use Rattle.ot_judge.specs.declared.fault.TraceFault.{TraceFault}
use Rattle.ot_judge.specs.declared.fault.TraceFault.TheVariants as kind
use Rattle.ot_commands.specs.ExplainedTraces.{ExplainsTrace, IsReasonOfBytes, Tells}
use Rattle.ot_commands.specs.Judged.{trace_fault, trace_of_bytes}

pub told : (input : Option (List ℕ)) (unread : Bool) (bytes read : List ℕ) (fault : TraceFault) (words : List ℕ) (output : Option (List ℕ)) (broken : Bool) (faults faults' : Option (List ℕ)) (faults_broken : Bool)
    → IfSome input (λ text. bytes ≡ text) → read ≡ bytes → (fault ≢ kind.Memory → trace_of_bytes read ≡ Err fault) → (fault ≢ kind.Memory → IsReasonOfBytes read fault words)
    → Tells (trace_fault fault) words faults faults' faults_broken
    → IfSome input (λ text. ExplainsTrace unread text 1 (record { output = output; output' = output; broken = broken; faults = faults; faults' = faults'; faults_broken = faults_broken }))
told None unread bytes read fault words output broken faults faults' faults_broken is same named reason tells = tt
told (Some text) unread bytes read fault words output broken faults faults' faults_broken is same named reason tells =
    let all : read ≡ text = same ∙ is in
    inr (inl (record {
      fault = fault;
      words = words;
      named = λ other. subst (λ (t : List ℕ). trace_of_bytes t ≡ Err fault) all (named other);
      reason = λ other. subst (λ (t : List ℕ). IsReasonOfBytes t fault words) all (reason other);
      status_is = refl;
      output = Keeps-refl output;
      tells = tells;
    }))
