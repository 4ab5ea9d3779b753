use Rattle.std.proofs.Common.{◌≡◌, rules, string_bytes}
use Rattle.std.specs.Option.{option_copied, option_map}
use Rattle.ot_steps.specs.Lines.{plain_operation}
use Rattle.ot_steps.proofs.Progress.{did, did_apply, leads_within}
use Rattle.ot_explain.specs.Explained.{line_at}
use Rattle.ot_explain.specs.Told.{heading}
use Rattle.ot_explain.proofs.Clients.{leads_from}
use Rattle.ot_explain.proofs.Progress.{paragraph_made}
use Rattle.ot_explain.proofs.paragraphs.perform.Goals as goal

pub push_after-requires : goal.push_after-requires
push_after-requires c = leads_within c.args.machine.now c.perform.new.self c.args.instr.now (did c.args.machine.now c.args.instr.now c.perform.new.self c.in-Ok.effect c.in-Ok.ensures.effect)

pub returns-clause-paragraph : goal.returns-clause-paragraph
returns-clause-paragraph c =
    let line = line_at c.args.lines.now c.args.number in
    let s = c.args.machine.now in
    let t = c.perform.new.self in
    let i = c.args.instr.now in
    let leads = did s i t c.in-Ok.effect c.in-Ok.ensures.effect in
    let begun : string_bytes c.push_heading.new.text ≡ heading line c.args.number i = search (rules) in
    let applied = did_apply s i t c.in-Ok.effect (option_copied c.operation.result) c.in-Ok.ensures.effect c.operation.ensures in
    record {
      shown = leads.0;
      performed = leads.1;
      is = paragraph_made line c.args.number i s t (option_map plain_operation (option_copied c.operation.result)) (string_bytes c.push_heading.new.text) (string_bytes c.push_before.new.text) (string_bytes c.push_after.new.text)
          begun (c.in_ok-push_before.ensures (leads_from s t i leads)) c.in_ok-push_after.ensures applied;
    }
