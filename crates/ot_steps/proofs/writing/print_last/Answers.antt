use Rattle.std.proofs.Common.{◌∙◌, ◌++◌, ap, List, ℕ, string_bytes}
use Rattle.ot_steps.proofs.Progress.{end_only, end_past, stop_and_end}
use Rattle.ot_steps.proofs.writing.print_last.Goals as goal

pub returns-in_default : goal.returns-in_default
returns-in_default c = end_only c.args.schedule.now c.args.machine.now c.args.stopped c.len-at.result c.is_quiet-quiet.result c.text.result c.in_default.not-Some c.len-at.ensures c.is_quiet-quiet.ensures.exact c.text.ensures

pub returns-in_default-get : goal.returns-in_default-get
returns-in_default-get c =
    end_past c.args.schedule.now c.args.machine.now c.args.stopped c.in-Some.place c.in-Some.refusal c.is_quiet-quiet.result (string_bytes c.in_ok-end.end)
    c.in-Some.is (c.get.ensures.none c.in_default-get.is) c.is_quiet-quiet.ensures.exact c.in_ok-end.ensures

pub returns : goal.returns
returns c =
    stop_and_end c.args.schedule.now c.args.machine.now c.args.stopped c.in-Some.place c.in-Some.refusal c.in-Some-get.instr.now c.is_quiet-quiet.result
    (string_bytes c.in_ok-text.text) (string_bytes c.in_ok-end.end) (string_bytes c.push_str.new.self)
    c.in-Some.is c.in-Some-get.ensures.some c.is_quiet-quiet.ensures.exact c.in_ok-text.ensures c.in_ok-end.ensures
    (c.in_ok-push_str.ensures.bytes ∙ ap (λ (t : List ℕ). string_bytes c.in_ok-text.text ++ t) c.as_str.ensures.value)
