-- The empty text is no JSON.
use Rattle.std.proofs.Common.{◌≡◌, ℕ, ◌<◌, List, [], ◌∷◌, length, refl, sym, arith}
use Rattle.std.specs.Prelude.{Some, None, Option}
use Rattle.serde_json.specs.Data.{Data}
use Rattle.serde_json.specs.Read.{read}
use Rattle.serde_json.proofs.OnLiterals.{serde_json_on_literals}

no-json : read [] ≡ None
unfolding serde_json_on_literals
no-json = refl

-- a text that is JSON is not empty
pub length-json : (text : List ℕ) (d : Data) → read text ≡ Some d → 0 < length text
length-json [] d e = absurd (let clash = sym no-json in cc)
length-json (b ∷ bs) d e = omega arith
