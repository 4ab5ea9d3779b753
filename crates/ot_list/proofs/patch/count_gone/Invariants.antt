use Rattle.std.proofs.Common.{◌≡◌, ◌+◌, drop}
use Rattle.ot_list.specs.Spans.{all_gone}
use Rattle.ot_list.proofs.patch.count_gone.Given as goal

abbrev pub invariant-loop-span : goal.invariant-loop-span
invariant-loop-span l = l.gone + all_gone (drop l.span-index l.spans) ≡ all_gone l.spans
