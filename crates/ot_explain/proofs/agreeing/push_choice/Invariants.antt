use Rattle.std.proofs.Common.{◌≡◌, ◌++◌, string_bytes, take}
use Rattle.ot_explain.specs.Agreeing.{choice_words}
use Rattle.ot_explain.proofs.agreeing.push_choice.Given as goal

abbrev pub invariant-loop-place : goal.invariant-loop-place
invariant-loop-place l = string_bytes l.text ≡ string_bytes l.fn.text ++ choice_words (take l.place l.clients)
