-- Messages that the server takes, and nothing else.
use Rattle.std.proofs.Common.{◌≡◌, ℕ, List, [], ◌∷◌, ◌++◌, map, refl, sym, ap, ◌∙◌, subst}
use Rattle.std.proofs.lemmas.List.{map-append}
use Rattle.ot_isa.specs.Program.{Program}
use Rattle.ot_isa.specs.declared.instruction.Instr.TheVariants.{Take}
use Rattle.ot_board.specs.declared.receipt.Receipt.{Receipt}
use Rattle.ot_board.specs.Boards.{BoardView, IsRecorded, with_steps}
use Rattle.ot_workers.specs.Turns.{AreTaken}
use Rattle.ot_workers.proofs.Receipted.{steps_none, steps_twice}

pub takes_none : (b a : BoardView) → a ≡ b → AreTaken b a
takes_none b a same = subst (AreTaken b) (sym same) (record { takes = []; recorded = sym (steps_none b.recorded); out_is = refl; parked_is = refl })

pub takes_one : (b a : BoardView) (c : ℕ) (r : Receipt) → IsRecorded b (Take c ∷ []) b.out a r → AreTaken b a
takes_one b a c r made = record { takes = c ∷ []; recorded = made.recorded; out_is = made.out_is; parked_is = made.parked_is }

pub takes_more : (b m a : BoardView) → AreTaken b m → AreTaken m a → AreTaken b a
takes_more b m a one two =
    record {
      takes = one.takes ++ two.takes;
      recorded =
          two.recorded
          ∙ ap (λ (p : Program). with_steps p (map Take two.takes)) one.recorded
          ∙ steps_twice b.recorded (map Take one.takes) (map Take two.takes)
          ∙ ap (with_steps b.recorded) (sym (map-append Take one.takes two.takes));
      out_is = two.out_is ∙ one.out_is;
      parked_is = two.parked_is ∙ one.parked_is;
    }
