use Rattle.std.proofs.Common.{◌∙◌, ◌≡◌, false}
use Rattle.std.proofs.lemmas.Result.{IfOk-weaker}
use Rattle.clap.specs.Words.{app_of, rule_of}
use Rattle.clap.specs.declared.builder.action.ArgAction.TheVariants.{SetTrue}
use Rattle.ot_words.specs.Requests.{flag_rule}
use Rattle.ot_words.proofs.Shapes.{acted, flag_made, helped, longed, ruled}
use Rattle.ot_words.proofs.words.flagged.Goals as goal

pub returns : goal.returns
returns c =
    let flag = c.args.flag.now in
    let long = longed c.new.result c.long.result c.args.flag c.long.ensures in
    let action = acted c.long.result c.action.result SetTrue c.action.ensures in
    let help = helped c.action.result c.help-arg.result c.args.about c.help-arg.ensures in
    let rule = flag_made (rule_of c.new.result) (rule_of c.long.result) (rule_of c.action.result) (rule_of c.help-arg.result) flag c.new.ensures.rule long.0 action.0 help.0 in
    let local : c.help-arg.result.global ≡ false = help.1 ∙ action.1 ∙ long.1 ∙ c.new.ensures.optional.1 in
    IfOk-weaker c.arg.result _ _ (λ r adds. ruled (app_of c.args.command) (app_of r) (rule_of c.help-arg.result) (flag_rule flag) (adds.shape local) rule) c.arg.ensures
