use Rattle.std.proofs.Common.{rules, ◌≡◌}
use Rattle.std.specs.Str.{chars}
use Rattle.std.proofs.lemmas.Str.{chars_from_encodes}
use Rattle.ot_json.proofs.Added.{not_long}
use Rattle.ot_json.proofs.building.add_text.Goals as goal

pub returns-clause-ok : goal.returns-clause-ok
returns-clause-ok c =
    let got : c.in_ok-letters.letters.items ≡ chars c.args.text.now = search (rules, chars_from_encodes) in
    rw (← got) c.insert_vec.ensures.ok

pub returns-clause-fits : goal.returns-clause-fits
returns-clause-fits c =
    let got : c.in_ok-letters.letters.items ≡ chars c.args.text.now = search (rules, chars_from_encodes) in
    rw (← got) (not_long c.insert_vec.result c.insert_vec.ensures.too_long.1)

pub returns-clause-too_long : goal.returns-clause-too_long
returns-clause-too_long c =
    let got : c.in_ok-letters.letters.items ≡ chars c.args.text.now = search (rules, chars_from_encodes) in
    rw (← got) c.insert_vec.ensures.too_long.0
