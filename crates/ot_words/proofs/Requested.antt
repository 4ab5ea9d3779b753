-- What the matches of the program's words ask for.
use Rattle.std.proofs.Common.{◌≡◌, List, Option, Some, None, ap, refl, subst, sym, true, ◌∙◌}
use Rattle.std.specs.Prelude.{option_and_then, IsSome}
use Rattle.clap.specs.Simple.{App, HasMatchesOf, is_simple, subcommand_rows_of}
use Rattle.clap.specs.Words.{Text}
use Rattle.clap.specs.declared.parser.matches.ArgMatches.{ArgMatches}
use Rattle.ot_words.specs.declared.words.Asked.{Asked}
use Rattle.ot_words.specs.Requests.{otbench_app, request_in_rows, request_of}

is_simple_app : is_simple otbench_app ≡ true
unfolding otbench_app
is_simple_app = refl

pub requested : (words : List Text) (matches : ArgMatches) (app : App) (read : Option Asked) → app ≡ otbench_app → HasMatchesOf app words matches
    → read ≡ option_and_then request_in_rows (subcommand_rows_of matches) → request_of words ≡ read
requested words matches app read is has reads =
    let here : HasMatchesOf otbench_app words matches = subst (λ (a : App). HasMatchesOf a words matches) is has in
    ap (option_and_then request_in_rows) (sym (here is_simple_app).1) ∙ sym reads

pub none_some : (request : Option Asked) → request ≡ None → IsSome request → ⊥
none_some None is some = absurd (let clash = some in cc)
none_some (Some request) is some = absurd (cc)
