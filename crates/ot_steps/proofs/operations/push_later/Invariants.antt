use Rattle.std.proofs.Common.{string_bytes}
use Rattle.ot_steps.proofs.Arrays.{AreGathered}
use Rattle.ot_steps.proofs.operations.push_later.Given as goal

abbrev pub invariant-loop-component : goal.invariant-loop-component
invariant-loop-component g l = AreGathered g.T.Letter.code l.fn.components l.component-iterator (string_bytes l.fn.text) (string_bytes l.text) l.bytes l.gathered
