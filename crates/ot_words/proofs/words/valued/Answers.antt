use Rattle.std.proofs.Common.{◌∙◌, ◌≡◌, false}
use Rattle.std.proofs.lemmas.Result.{IfOk-weaker}
use Rattle.clap.specs.Words.{app_of, rule_of}
use Rattle.clap.specs.declared.builder.action.ArgAction.TheVariants.{Set}
use Rattle.ot_words.specs.Requests.{option_rule}
use Rattle.ot_words.proofs.Shapes.{acted, helped, longed, named, option_made, ruled}
use Rattle.ot_words.proofs.words.valued.Goals as goal

pub returns : goal.returns
returns c =
    let option = c.args.option.now in
    let long = longed c.new.result c.long.result c.args.option c.long.ensures in
    let value = named c.long.result c.value_name.result c.args.value c.value_name.ensures in
    let action = acted c.value_name.result c.action.result Set c.action.ensures in
    let help = helped c.action.result c.help-arg.result c.args.about c.help-arg.ensures in
    let rule =
    option_made (rule_of c.new.result) (rule_of c.long.result) (rule_of c.value_name.result) (rule_of c.action.result) (rule_of c.help-arg.result) option c.new.ensures.rule long.0 value.0 action.0 help.0 in
    let local : c.help-arg.result.global ≡ false = help.1 ∙ action.1 ∙ value.1 ∙ long.1 ∙ c.new.ensures.optional.1 in
    IfOk-weaker c.arg.result _ _ (λ r adds. ruled (app_of c.args.command) (app_of r) (rule_of c.help-arg.result) (option_rule option) (adds.shape local) rule) c.arg.ensures
