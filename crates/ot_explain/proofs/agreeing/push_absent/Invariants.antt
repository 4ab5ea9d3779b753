use Rattle.std.proofs.Common.{◌≡◌, ◌++◌, string_bytes, take}
use Rattle.ot_explain.specs.Agreeing.{absent_words}
use Rattle.ot_explain.proofs.agreeing.push_absent.Given as goal

abbrev pub invariant-loop-place : goal.invariant-loop-place
invariant-loop-place l = string_bytes l.text ≡ string_bytes l.fn.text ++ absent_words (take l.place l.clients)
