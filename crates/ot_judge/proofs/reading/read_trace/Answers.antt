use Rattle.std.proofs.Common.{◌≡◌, ◌<◌, ℕ, List, [], ◌∷◌, Some, length, arith}
use Rattle.json.specs.Json.{value}
use Rattle.json.specs.Lex.{lex, punctuate}
use Rattle.serde_json.specs.Data.{Data}
use Rattle.serde_json.specs.Read.{read}
use Rattle.ot_judge.proofs.reading.read_trace.Goals as goal

-- no JSON text is empty
not_empty : (text : List ℕ) (d : Data) → read text ≡ Some d → 0 < length text
unfolding value lex punctuate
not_empty [] d e = absurd cc
not_empty (b ∷ bs) d e = omega arith

pub returns-in-Ok-clause-memory : goal.returns-in-Ok-clause-memory
returns-in-Ok-clause-memory c = λ memory. not_empty c.args.text.now _ c.in-Ok.ensures.ok
