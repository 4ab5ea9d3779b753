-- What is recorded has its receipts.
use Rattle.std.proofs.Common.{◌≡◌, ℕ, ◌+◌, List, [], ◌∷◌, ◌++◌, length, refl, sym, ap, ◌∙◌, subst, arith, append_assoc, append-nil, length-append}
use Rattle.ot_isa.specs.Program.{Program}
use Rattle.ot_isa.specs.declared.instruction.Instr.{Instr}
use Rattle.ot_board.specs.declared.receipt.Receipt.{Receipt}
use Rattle.ot_board.specs.Boards.{BoardView, with_steps}
use Rattle.ot_workers.specs.Receipts.{AreFrom, HasReceipts, steps_in}

steps_append : (xs ys : List Receipt) → steps_in (xs ++ ys) ≡ steps_in xs ++ steps_in ys
steps_append [] ys = refl
steps_append (x ∷ xs) ys = ap (λ (w : List Instr). x.steps.items ++ w) (steps_append xs ys) ∙ sym (append_assoc x.steps.items (steps_in xs) (steps_in ys))

from_append : (n m : ℕ) (xs ys : List Receipt) → m ≡ n + length (steps_in xs) → AreFrom n xs → AreFrom m ys → AreFrom n (xs ++ ys)
from_append n m [] ys is first rest = let e : m ≡ n = omega (arith, is) in subst (λ k. AreFrom k ys) e rest
from_append n m (x ∷ xs) ys is first rest =
    let long = length-append x.steps.items (steps_in xs) in
    (first.0, from_append (n + length x.steps.items) m xs ys (omega arith) first.1 rest)

pub steps_none : (p : Program) → with_steps p [] ≡ p
steps_none p = ap (λ (is : List Instr). record { clients = p.clients; present = p.present; start = p.start; instrs = is }) (append-nil p.instrs)

pub steps_twice : (p : Program) (xs ys : List Instr) → with_steps (with_steps p xs) ys ≡ with_steps p (xs ++ ys)
steps_twice p xs ys = ap (λ (is : List Instr). record { clients = p.clients; present = p.present; start = p.start; instrs = is }) (append_assoc p.instrs xs ys)

-- nothing is recorded
pub receipts_none : (b a : BoardView) (before after : List Receipt) → a.recorded ≡ b.recorded → after ≡ before → HasReceipts b before a after
receipts_none b a before after recorded added =
    record {
      more = [];
      added = added ∙ sym (append-nil before);
      recorded = recorded ∙ sym (steps_none b.recorded);
      places = tt;
    }

pub receipts_same : (b a : BoardView) (before after : List Receipt) → a ≡ b → after ≡ before → HasReceipts b before a after
receipts_same b a before after same added = receipts_none b a before after (ap (λ (v : BoardView). v.recorded) same) added

-- one call after another
pub receipts_more : (b m a : BoardView) (before between after : List Receipt) → HasReceipts b before m between → HasReceipts m between a after → HasReceipts b before a after
receipts_more b m a before between after one two =
    let long : length m.recorded.instrs ≡ length b.recorded.instrs + length (steps_in one.more) = ap (λ (p : Program). length p.instrs) one.recorded ∙ length-append b.recorded.instrs (steps_in one.more) in
    record {
      more = one.more ++ two.more;
      added = two.added ∙ ap (λ (w : List Receipt). w ++ two.more) one.added ∙ append_assoc before one.more two.more;
      recorded =
          two.recorded
          ∙ ap (λ (p : Program). with_steps p (steps_in two.more)) one.recorded
          ∙ steps_twice b.recorded (steps_in one.more) (steps_in two.more)
          ∙ ap (with_steps b.recorded) (sym (steps_append one.more two.more));
      places = from_append (length b.recorded.instrs) (length m.recorded.instrs) one.more two.more long one.places two.places;
    }

-- what is recorded leaves the number of clients
pub same_clients : (b a : BoardView) (before after : List Receipt) → HasReceipts b before a after → a.recorded.clients ≡ b.recorded.clients
same_clients b a before after has = ap (λ (p : Program). p.clients) has.recorded
