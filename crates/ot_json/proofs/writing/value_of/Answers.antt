use Rattle.std.proofs.Common.{rules, ◌≡◌}
use Rattle.std.specs.String.{string_bytes}
use Rattle.std.specs.Str.{encode_utf8_all}
use Rattle.std.proofs.lemmas.Str.{IsUtf8-string_bytes}
use Rattle.ot_json.proofs.Counted.{are_scalars}
use Rattle.ot_json.proofs.writing.value_of.Goals as goal

pub returns-in_ok-letters-in-Insert-clause-scalars : goal.returns-in_ok-letters-in-Insert-clause-scalars
returns-in_ok-letters-in-Insert-clause-scalars c =
    let written : encode_utf8_all c.in-Insert.text.now ≡ string_bytes c.in_ok-letters-in-Insert.letters = search rules in
    rw c.in-Insert.is (are_scalars c.in-Insert.text.now _ (IsUtf8-string_bytes c.in_ok-letters-in-Insert.letters) written)
