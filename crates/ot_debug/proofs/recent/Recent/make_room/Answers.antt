use Rattle.std.proofs.Common.{◌∙◌, ◌++◌, ◌∷◌, [], ap, arith, sym, append_assoc, List}
use Rattle.ot_machine.specs.declared.undo.Undo.{Undo}
use Rattle.ot_debug.proofs.recent.Recent.make_room.Goals as goal

pub loop-self-preserved : goal.loop-self-preserved
loop-self-preserved c =
    let before = c.loop-self.invariant.rest in
    record {
      rest = record {
        gone = before.gone ++ c.in-Some.oldest ∷ [];
        were = before.were ∙ ap (λ (us : List Undo). before.gone ++ us) c.in-Some.ensures.items ∙ sym (append_assoc before.gone (c.in-Some.oldest ∷ []) c.pop_front.new.self.items);
      };
      stay = λ fits. absurd (omega (arith, fits, (c.loop-self.invariant.stay fits).0, c.loop-self.invariant.limit, c.loop-self-test.true, c.saturating_add.ensures));
      less = omega (arith, c.loop-self.invariant.less, c.saturating_sub-self.ensures);
      room = omega arith;
      limit = c.loop-self.invariant.limit;
      kept = c.loop-self.invariant.kept;
    }

pub returns-in_default-clause-rest : goal.returns-in_default-clause-rest
returns-in_default-clause-rest c =
    let before = c.loop-self.invariant.rest in
    record { gone = before.gone; were = before.were ∙ ap (λ (us : List Undo). before.gone ++ us) c.in_default.ensures.items }
