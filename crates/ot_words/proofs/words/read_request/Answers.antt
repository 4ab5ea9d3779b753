use Rattle.std.proofs.Common.{ap, ◌∙◌, map, sym, Some, None}
use Rattle.std.proofs.lemmas.Result.{err_from_is_err_and}
use Rattle.clap.specs.Words.{App, takes}
use Rattle.ot_words.proofs.Requested.{none_some, requested}
use Rattle.ot_words.proofs.words.read_request.Goals as goal

pub returns-in_err-matches-clause-refused : goal.returns-in_err-matches-clause-refused
returns-in_err-matches-clause-refused g c =
    let p = err_from_is_err_and c.from_residual-in_err-matches.result c.from_residual-in_err-matches.ensures.1 in
    rw (p.1, p.2) (λ taken some. c.in_err-matches.ensures.passes (ap (λ (a : App). takes a (map g.S.AsStr.text c.args.words.now)) c.in_ok-command.ensures ∙ taken))

pub returns-in-Some-clause-ok : goal.returns-in-Some-clause-ok
returns-in-Some-clause-ok g c =
    requested (map g.S.AsStr.text c.args.words.now) c.in_ok-matches.matches _ (Some c.in-Some.request) c.in_ok-command.ensures c.in_ok-matches.ensures.matches (sym c.in-Some.is ∙ c.in_ok-request.ensures)

pub returns-clause-refused : goal.returns-clause-refused
returns-clause-refused g c =
    let none = requested (map g.S.AsStr.text c.args.words.now) c.in_ok-matches.matches _ None c.in_ok-command.ensures c.in_ok-matches.ensures.matches (sym c.in-None.is ∙ c.in_ok-request.ensures) in
    λ taken some. absurd (none_some _ none some)
