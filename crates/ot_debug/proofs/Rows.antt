-- What each row of the table leaves: as many clients, and a list shown exactly by a read.
use Rattle.std.proofs.Common.{◌≡◌, ℕ, ◌-◌, ◌≤◌, List, [], ◌∷◌, length, take, refl, ap, sym, ◌∙◌, subst, arith, Option, Some, None, replicate, length-append, length-set}
use Rattle.std.proofs.lemmas.List.{length-replicate}
use Rattle.std.proofs.lemmas.Option.{same_Some}
use Rattle.std.specs.Prelude.{is_some}
use Rattle.ot_isa.specs.Program.{Program, IsProgram}
use Rattle.ot_isa.specs.declared.instruction.Instr.{Instr}
use Rattle.ot_isa.specs.declared.instruction.Instr.TheVariants.{Edit, Take, Deliver, Acknowledge, Join, Read, ReadServer}
use Rattle.ot_model.specs.declared.shown.Shown.{Shown}
use Rattle.ot_model.specs.Table.{Client, State, Place, Outcome, Performed, Refused, NoRow, step, run, begin, with_shown, with_row, acknowledged, absent, present_with, start_list}
use Rattle.ot_model.specs.Runs.{place_at}
use Rattle.ot_model.proofs.Outcomes.{by_edit, by_take, by_deliver, by_acknowledge, by_join, by_read, by_read_server}
use Rattle.ot_debug.specs.Stepping.{is_read}

abbrev pub LeavesAll : State → Instr → Outcome → Type 0
LeavesAll s i (Performed t list) = (length t.clients ≡ length s.clients) × (is_some list ≡ is_read i)
LeavesAll s i (Refused r) = Unit {0}
LeavesAll s i NoRow = Unit {0}

by_row : (s : State) (c : ℕ) (o : Option Client) → LeavesAll s (Acknowledge c) (with_row s c o)
by_row s c None = tt
by_row s c (Some x) = (length-set s.clients c x, refl)

pub each_row : (s : State) (i : Instr) → LeavesAll s i (step s i)
each_row s (Edit c op) = by_edit (LeavesAll s (Edit c op)) (λ r. tt) s c op (λ x at below on base count. (length-set s.clients c _, refl))
each_row s (Take c) = by_take (LeavesAll s (Take c)) (λ r. tt) s c (λ x m at below on is. (length-set s.clients c _, refl))
each_row s (Deliver c) = by_deliver (LeavesAll s (Deliver c)) (λ r. tt) s c (λ x h at below on head other. (length-set s.clients c _, refl))
each_row s (Acknowledge c) = by_acknowledge (LeavesAll s (Acknowledge c)) (λ r. tt) s c (λ x h at below on head own. by_row s c (acknowledged x x.phase))
each_row s (Join c) = by_join (LeavesAll s (Join c)) (λ r. tt) s c (λ x at below off. (length-set s.clients c _, refl))
each_row s (Read c) = by_read (LeavesAll s (Read c)) (λ r. tt) s c (λ x at below on. (refl, refl))
each_row s ReadServer = by_read_server (LeavesAll s ReadServer) (λ r. tt) s (λ below. (refl, refl))

pub row_leaves : (s : State) (i : Instr) (t : State) (list : Option Shown) → step s i ≡ Performed t list → LeavesAll s i (Performed t list)
row_leaves s i t list e = subst (λ o. LeavesAll s i o) e (each_row s i)

-- so there are always as many clients as at the beginning
run_clients : (is : List Instr) (p q : Place) → run is p ≡ Some q → length q.state.clients ≡ length p.state.clients
run_clients [] p q e = ap (λ (r : Place). length r.state.clients) (sym (same_Some p q e))
run_clients (i ∷ is) p q e = go (λ r f. run_clients is r q f) (step p.state i) (each_row p.state i) e
  where
    go : ((r : Place) → run is r ≡ Some q → length q.state.clients ≡ length r.state.clients) → (o : Outcome) → LeavesAll p.state i o
        → (elim o [ Performed t list ↦ run is (record { state = t; shown = with_shown p.shown list }) | Refused r ↦ None | NoRow ↦ None ]) ≡ Some q
        → length q.state.clients ≡ length p.state.clients
    go on (Performed t list) leaves f = on (record { state = t; shown = with_shown p.shown list }) f ∙ leaves.0
    go on (Refused r) leaves f = absurd (cc)
    go on NoRow leaves f = absurd (cc)

pub clients_at : (s : Program) (p : ℕ) (q : Place) → IsProgram s → place_at s p ≡ Some q → length q.state.clients ≡ s.clients
clients_at s p q limits at =
    let le : s.present ≤ s.clients = limits.present_to in
    run_clients (take p s.instrs) (begin s.clients s.present s.start) q at
    ∙ length-append (replicate s.present (present_with (start_list s.start))) (replicate (s.clients - s.present) absent)
    ∙ (let a = length-replicate s.present (present_with (start_list s.start)) in let b = length-replicate (s.clients - s.present) absent in omega (arith, a, b))
