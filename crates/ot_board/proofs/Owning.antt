-- The steps of a session are of its own client.
use Rattle.std.proofs.Common.{◌≡◌, ℕ, ◌+◌, ◌<◌, List, [], ◌∷◌, refl, sym, ap, ◌∙◌, subst, Option, Some, None, true, false, Bool}
use Rattle.std.proofs.lemmas.Bool.{eqb-true}
use Rattle.std.proofs.lemmas.List.Elements.{All-nil, All-cons}
use Rattle.std.specs.Prelude.{◌==◌, nat_lt, not, length, if◌then◌else◌}
use Rattle.std.specs.List.{All}
use Rattle.ot_isa.specs.declared.instruction.Instr.{Instr}
use Rattle.ot_isa.specs.declared.instruction.Instr.TheVariants.{Edit, Take, Deliver, Acknowledge, Join, Read, ReadServer}
use Rattle.ot_isa.specs.Program.{IsForClients}
use Rattle.ot_model.specs.declared.shown.Shown.{Shown}
use Rattle.ot_model.specs.declared.shown.Refusal.TheVariants.{BadBase, ClientFull}
use Rattle.ot_model.specs.Operation.{inserted}
use Rattle.ot_model.specs.Table.{Client, Head, Ack, Op, acknowledged, delivered, edited, tag_operation, with_shown}
use Rattle.ot_model.specs.Part.{Part, PartOutcome, PartPerformed, PartRefused, PartNoRow, PartPlace, part_row, part_edit, part_deliver, part_acknowledge, part_with, part_read, if_own, run_part, with_part}

same_part : (p q : Part) (a b : Option Shown) → PartPerformed p a ≡ PartPerformed q b → p ≡ q
same_part p q a b e = cc

if_own_is : (p : Part) (c : ℕ) (o : PartOutcome) (q : Part) (list : Option Shown) → if_own p c o ≡ PartPerformed q list → (c ≡ p.number) × (o ≡ PartPerformed q list)
if_own_is p c o q list e = go (c == p.number) refl e
  where
    go : (b : Bool) → (c == p.number) ≡ b → (if b then o else PartNoRow) ≡ PartPerformed q list → (c ≡ p.number) × (o ≡ PartPerformed q list)
    go true is f = (eqb-true c p.number is, f)
    go false is f = absurd (cc)

edit_number : (p y q : Part) (list : Option Shown) (base full : Bool) → y.number ≡ p.number
    → (if not base then PartRefused BadBase else if full then PartRefused ClientFull else PartPerformed y None) ≡ PartPerformed q list → q.number ≡ p.number
edit_number p y q list false full same e = absurd (cc)
edit_number p y q list true true same e = absurd (cc)
edit_number p y q list true false same e = ap (λ (z : Part). z.number) (sym (same_part y q None list e)) ∙ same

deliver_number : (p q : Part) (list : Option Shown) (incoming : List Head) → part_deliver p incoming ≡ PartPerformed q list → q.number ≡ p.number
deliver_number p q list [] e = absurd (cc)
deliver_number p q list (Ack ∷ incoming) e = absurd (cc)
deliver_number p q list (Op h ∷ incoming) e = ap (λ (z : Part). z.number) (sym (same_part (with_part p (delivered p.client h) incoming) q None list e))

with_number : (p q : Part) (list : Option Shown) (o : Option Client) (incoming : List Head) → part_with p o incoming ≡ PartPerformed q list → q.number ≡ p.number
with_number p q list None incoming e = absurd (cc)
with_number p q list (Some x) incoming e = ap (λ (z : Part). z.number) (sym (same_part (with_part p x incoming) q None list e))

acknowledge_number : (p q : Part) (list : Option Shown) (incoming : List Head) → part_acknowledge p incoming ≡ PartPerformed q list → q.number ≡ p.number
acknowledge_number p q list [] e = absurd (cc)
acknowledge_number p q list (Op h ∷ incoming) e = absurd (cc)
acknowledge_number p q list (Ack ∷ incoming) e = with_number p q list (acknowledged p.client p.client.phase) incoming e

row_own : (n : ℕ) (p q : Part) (i : Instr) (list : Option Shown) → p.number < n → part_row p i ≡ PartPerformed q list → IsForClients n i × (q.number ≡ p.number)
row_own n p q (Edit c op) list below e =
    let f = if_own_is p c (part_edit p op) q list e in
    (subst (λ (k : ℕ). k < n) (sym f.0) below, edit_number p (with_part p (edited p.client (tag_operation p.number p.client.count op)) p.incoming) q list (op.base == length p.client.list) (nat_lt 15000 (p.client.count + inserted op)) refl f.1)
row_own n p q (Take c) list below e = absurd (cc)
row_own n p q (Deliver c) list below e =
    let f = if_own_is p c (part_deliver p p.incoming) q list e in
    (subst (λ (k : ℕ). k < n) (sym f.0) below, deliver_number p q list p.incoming f.1)
row_own n p q (Acknowledge c) list below e =
    let f = if_own_is p c (part_acknowledge p p.incoming) q list e in
    (subst (λ (k : ℕ). k < n) (sym f.0) below, acknowledge_number p q list p.incoming f.1)
row_own n p q (Join c) list below e = absurd (cc)
row_own n p q (Read c) list below e =
    let f = if_own_is p c (part_read p) q list e in
    (subst (λ (k : ℕ). k < n) (sym f.0) below, ap (λ (z : Part). z.number) (sym (same_part p q _ list f.1)))
row_own n p q ReadServer list below e = absurd (cc)

-- each step of a session names its client, which is there
pub all_own : (n : ℕ) (is : List Instr) (z w : PartPlace) → z.part.number < n → run_part is z ≡ Some w → All (IsForClients n) is
all_own n [] z w below e = All-nil (IsForClients n)
all_own n (i ∷ is) z w below e = go (λ q list below' f. all_own n is (record { part = q; shown = with_shown z.shown list }) w below' f) (part_row z.part i) refl e
  where
    go : ((q : Part) (list : Option Shown) → q.number < n → run_part is (record { part = q; shown = with_shown z.shown list }) ≡ Some w → All (IsForClients n) is)
        → (o : PartOutcome) → part_row z.part i ≡ o
        → (elim o [ PartPerformed q list ↦ run_part is (record { part = q; shown = with_shown z.shown list }) | PartRefused r ↦ None | PartNoRow ↦ None ]) ≡ Some w
        → All (IsForClients n) (i ∷ is)
    go on (PartPerformed q list) row f =
        let own = row_own n z.part q i list below row in
        All-cons (IsForClients n) i is own.0 (on q list (subst (λ (k : ℕ). k < n) (sym own.1) below) f)
    go on (PartRefused r) row f = absurd (cc)
    go on PartNoRow row f = absurd (cc)
