use Rattle.std.proofs.Common.{◌≡◌, Bool, true, false, inl, refl, subst}
use Rattle.streams.proofs.Parts.{still_complains}
use Rattle.streams.specs.Lines.{lines_of}
use Rattle.streams.specs.Outcomes.{Complains}
use Rattle.ot_faults.specs.Faults.{Fault, is_of_text}
use Rattle.ot_faults.specs.Words.{fault_words}
use Rattle.ot_commands.specs.Explains.{AddsWords}
use Rattle.ot_commands.proofs.Refused.{lacks_words}
use Rattle.ot_commands.proofs.telling.complain_of_text.Goals as goal

pub returns-in-Ok-Some : goal.returns-in-Ok-Some
returns-in-Ok-Some g c =
    let told = g.F.Write.contents c.complain_of_line.new.faults in
    let new = g.F.Write.contents c.complain_of_words.new.faults in
    let failed = g.F.Sink.failed c.complain_of_words.new.faults in
    let exact : true ≡ is_of_text c.args.fault.kind = rw c.in-Ok-Some.field-0-is at c.in-Ok-Some.ensures.exact in
    let stands = rw c.in-Ok-Some.field-0-is at c.in-Ok-Some.ensures.fault in
    let added : AddsWords true (lines_of c.args.text.now) c.args.fault told new failed =
    inl (subst (λ (f : Fault). Complains (fault_words f) told new failed) stands c.complain_of_words.ensures.line) in
    record {
      told = told;
      line = still_complains _ _ _ failed _ c.complain_of_line.ensures.line c.complain_of_words.ensures.failed;
      behind = subst (λ (b : Bool). AddsWords b (lines_of c.args.text.now) c.args.fault told new failed) exact added;
    }

pub returns-in-Ok-None : goal.returns-in-Ok-None
returns-in-Ok-None g c =
    let told = g.F.Write.contents c.complain_of_line.new.faults in
    let failed = g.F.Sink.failed c.complain_of_line.new.faults in
    let exact : false ≡ is_of_text c.args.fault.kind = rw c.in-Ok-None.field-0-is at c.in-Ok-None.ensures.exact in
    let added : AddsWords false (lines_of c.args.text.now) c.args.fault told told failed = inl refl in
    record {
      told = told;
      line = c.complain_of_line.ensures.line;
      behind = subst (λ (b : Bool). AddsWords b (lines_of c.args.text.now) c.args.fault told told failed) exact added;
    }

pub returns-in-Err : goal.returns-in-Err
returns-in-Err g c =
    let told = g.F.Write.contents c.complain_of_line.new.faults in
    let new = g.F.Write.contents c.complain_of_memory.new.faults in
    let failed = g.F.Sink.failed c.complain_of_memory.new.faults in
    record {
      told = told;
      line = still_complains _ _ _ failed _ c.complain_of_line.ensures.line c.complain_of_memory.ensures.failed;
      behind = lacks_words (is_of_text c.args.fault.kind) (lines_of c.args.text.now) c.args.fault told new failed c.complain_of_memory.ensures.line;
    }
