use Rattle.std.proofs.Common.{◌≡◌, ◌∙◌, sym, ap, subst, Bool, true}
use Rattle.std.specs.Prelude.{is_some, string_bytes}
use Rattle.std.proofs.lemmas.Result.{IfOk-weaker}
use Rattle.streams.specs.Lines.{lines_of}
use Rattle.ot_faults.specs.Faults.{is_of_text}
use Rattle.ot_faults.specs.Words.{fault_members}
use Rattle.ot_commands.specs.Faults.{IsJsonOf, fault_json}
use Rattle.ot_commands.proofs.faults.members.Goals as goal

pub returns-in-Some : goal.returns-in-Some
returns-in-Some c =
    let found = rw c.in-Some.is at c.in_ok-found.ensures.fault in
    let of_text : is_of_text c.args.fault.kind ≡ true = sym c.in_ok-found.ensures.exact ∙ ap is_some c.in-Some.is in
    IfOk-weaker c.fault_members.result _ _
    (λ s same. subst (λ (b : Bool). IsJsonOf b (lines_of c.args.text.now) c.args.fault (fault_json c.args.fault (string_bytes s))) (sym of_text) (ap (fault_json c.args.fault) (same ∙ ap fault_members found)))
    c.fault_members.ensures
