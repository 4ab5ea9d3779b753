use Rattle.std.proofs.Common.{ap, ◌∙◌}
use Rattle.clap.specs.Simple.{app_of_fields}
use Rattle.ot_words.specs.Requests.{required, versioned}
use Rattle.ot_words.proofs.words.top.Goals as goal

pub returns : goal.returns
returns c =
    ap app_of_fields c.subcommand_required.ensures
    ∙ ap required (ap app_of_fields c.after_help.ensures ∙ ap app_of_fields c.version.ensures ∙ ap versioned (ap app_of_fields c.about.ensures ∙ c.new.ensures.app))
