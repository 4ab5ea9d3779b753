use Rattle.std.proofs.Common.{◌≡◌, ◌++◌, string_bytes, take}
use Rattle.ot_explain.specs.Agreeing.{waiting_words}
use Rattle.ot_explain.proofs.agreeing.push_all_waiting.Given as goal

abbrev pub invariant-loop-place : goal.invariant-loop-place
invariant-loop-place l = string_bytes l.text ≡ string_bytes l.fn.text ++ waiting_words l.machine (take l.place l.waiting)
