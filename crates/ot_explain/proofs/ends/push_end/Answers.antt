use Rattle.std.proofs.Common.{◌∙◌, ◌++◌, ap, sym, string_bytes, Bool}
use Rattle.std.proofs.lemmas.Result.{on_ok_weaker}
use Rattle.ot_steps.proofs.Quiet.{quiet_is}
use Rattle.ot_explain.specs.Explained.{end_words}
use Rattle.ot_explain.proofs.Texts.{pushed}
use Rattle.ot_explain.proofs.ends.push_end.Goals as goal

pub returns-then-is_quiet : goal.returns-then-is_quiet
returns-then-is_quiet c =
    let old = string_bytes c.args.text.now in
    let quiet = sym c.if-is_quiet.true ∙ quiet_is c.is_quiet.result c.args.machine.now c.is_quiet.ensures.exact in
    on_ok_weaker c.push_str.result (λ e. e ∙ ap (λ (b : Bool). old ++ end_words b) quiet) (pushed c.push_str.result _ _ _ c.push_str.ensures.bytes)

pub returns : goal.returns
returns c =
    let old = string_bytes c.args.text.now in
    let quiet = sym c.if-is_quiet.false ∙ quiet_is c.is_quiet.result c.args.machine.now c.is_quiet.ensures.exact in
    on_ok_weaker c.push_str-2.result (λ e. e ∙ ap (λ (b : Bool). old ++ end_words b) quiet) (pushed c.push_str-2.result _ _ _ c.push_str-2.ensures.bytes)
