-- Why an input is no plan: from the bytes that were read to the input.
use Rattle.std.proofs.Common.{◌≡◌, ◌≢◌, ◌∙◌, ℕ, Bool, List, Option, Some, None, Err, inl, inr, subst, refl}
use Rattle.std.proofs.KnownBytes.{Keeps-refl}
use Rattle.std.specs.Prelude.{IfSome}
use Rattle.streams.specs.Outcomes.{Streams}
use Rattle.ot_plan.specs.Lines.{fault_line}
use Rattle.ot_plan.specs.Reading.{plan_of_bytes}
use Rattle.ot_plan.specs.declared.fault.PlanFault.{PlanFault}
use Rattle.ot_plan.specs.declared.fault.PlanFault.TheVariants as kind
use Rattle.ot_commands.specs.ExplainedPlans.{ExplainsPlan, IsReasonOfBytes}
use Rattle.ot_commands.specs.ExplainedTraces.{Tells}

pub told : (input : Option (List ℕ)) (unread : Bool) (bytes read : List ℕ) (fault : PlanFault) (words : List ℕ) (output : Option (List ℕ)) (broken : Bool) (faults faults' : Option (List ℕ)) (faults_broken : Bool)
    → IfSome input (λ text. bytes ≡ text) → read ≡ bytes → (fault ≢ kind.Memory → plan_of_bytes read ≡ Err fault) → (fault ≢ kind.Memory → IsReasonOfBytes read fault words)
    → Tells (fault_line fault) words faults faults' faults_broken
    → IfSome input (λ text. ExplainsPlan unread text 1 (record { output = output; output' = output; broken = broken; faults = faults; faults' = faults'; faults_broken = faults_broken }))
told None unread bytes read fault words output broken faults faults' faults_broken is same named reason tells = tt
told (Some text) unread bytes read fault words output broken faults faults' faults_broken is same named reason tells =
    let all : read ≡ text = same ∙ is in
    inr (inl (record {
      fault = fault;
      words = words;
      named = λ other. subst (λ (t : List ℕ). plan_of_bytes t ≡ Err fault) all (named other);
      reason = λ other. subst (λ (t : List ℕ). IsReasonOfBytes t fault words) all (reason other);
      status_is = refl;
      output = Keeps-refl output;
      tells = tells;
    }))
