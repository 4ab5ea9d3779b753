-- What a take leaves under way.
use Rattle.std.proofs.Common.{◌≡◌, ℕ, zero, suc, ◌<◌, ◌≤◌, List, [], ◌∷◌, length, set, refl, sym, ap, ◌∙◌, subst, arith, inl, inr, Option, Some, None, Bool, true, false, length-set}
use Rattle.std.specs.Prelude.{slice_get, is_some, if◌then◌else◌}
use Rattle.std.specs.Option.{option_map}
use Rattle.std.proofs.lemmas.Bool.{cases_lt}
use Rattle.std.proofs.lemmas.Option.{same_Some, slice_get_within}
use Rattle.ot_isa.specs.declared.instruction.Instr.{Instr}
use Rattle.ot_isa.specs.declared.instruction.Instr.TheVariants.{Take}
use Rattle.ot_model.specs.declared.shown.Shown.{Shown}
use Rattle.ot_model.specs.declared.shown.Refusal.TheVariants.{LinkEmpty, NotJoined, StepsFull}
use Rattle.ot_model.specs.Table.{Client, State, Place, Message, Outcome, Performed, Refused, row, step, take_row}
use Rattle.ot_model.specs.Session.{RunsTo}
use Rattle.ot_model.proofs.Awaiting.{run_first}
use Rattle.ot_model.proofs.Exchanging.{emptied, same_state}
use Rattle.ot_model.proofs.Outcomes.{by_take}
use Rattle.ot_model.proofs.States.{slice_get-set_same}
use Rattle.ot_machine.specs.Readers.{ClientHas}
use Rattle.ot_board.specs.declared.receipt.Receipt.{Receipt}
use Rattle.ot_board.specs.Boards.{BoardView}
use Rattle.ot_workers.specs.Receipts.{HasReceipts}
use Rattle.ot_workers.specs.Turns.{AreTaken, AreUplinksEmpty, IsUplinkEmpty}
use Rattle.ot_workers.proofs.Receipted.{receipts_more}
use Rattle.ot_workers.proofs.Takes.{takes_more}

-- a run of one instruction is its row
pub ran_one : (s t : State) (i : Instr) → RunsTo s (i ∷ []) t → (a : Option Shown) × (step s i ≡ Performed t a)
ran_one s t i ran =
    let f = run_first i [] (record { state = s; shown = [] }) (record { state = t; shown = ran.0 }) ran.1 in
    let same : f.0 ≡ t = ap (λ (p : Place). p.state) (same_Some _ _ f.3) in
    (f.1, subst (λ (u : State). step s i ≡ Performed u f.1) same f.2)

-- a client whose message, if there was none, is none
set_empty : (xs : List Client) (d c : ℕ) (y : Client) → y.message ≡ None → ((x : Client) → slice_get xs c ≡ Some x → x.message ≡ None) → (z : Client) → slice_get (set xs d y) c ≡ Some z → z.message ≡ None
set_empty [] d c y none empty z at = empty z at
set_empty (x ∷ xs) zero zero y none empty z at = ap (λ (w : Client). w.message) (sym (same_Some y z at)) ∙ none
set_empty (x ∷ xs) zero (suc c) y none empty z at = empty z at
set_empty (x ∷ xs) (suc d) zero y none empty z at = empty z at
set_empty (x ∷ xs) (suc d) (suc c) y none empty z at = set_empty xs d c y none empty z at

-- what a take comes to
pub record IsTaken (s : State) (d : ℕ) (t : State) : Type 0 where
  pub empty : IsUplinkEmpty t d
  pub others : (c : ℕ) → IsUplinkEmpty s c → IsUplinkEmpty t c
  pub clients : length t.clients ≡ length s.clients

taken_row : (s t : State) (d : ℕ) (a : Option Shown) → step s (Take d) ≡ Performed t a → IsTaken s d t
taken_row s t d a row =
    by_take (λ o. o ≡ Performed t a → IsTaken s d t) (λ r f. absurd (cc)) s d
    (λ x m at below on sent f. subst (λ (u : State). IsTaken s d u) (same_state _ t None a f) (record {
      empty = λ y at_y. ap (λ (w : Client). w.message) (sym (same_Some (emptied x) y (sym (slice_get-set_same s.clients d x (emptied x) at) ∙ at_y)));
      others = λ c none. set_empty s.clients d c (emptied x) refl none;
      clients = length-set s.clients d (emptied x);
    }))
    row

pub taken : (s t : State) (d : ℕ) → RunsTo s (Take d ∷ []) t → IsTaken s d t
taken s t d ran = let f = ran_one s t (Take d) ran in taken_row s t d f.0 f.1

-- a client without a message, and one that is not there
pub none_up : {X Y : Type 0} (s : State) (c : ℕ) (f : Y → Message) (g : X → Y) (o : Option X) → ClientHas s c (λ x. x.message) (option_map f (option_map g o)) → is_some o ≡ false → IsUplinkEmpty s c
none_up s c f g None has none x at = same_Some x.message None (sym (ap (option_map (λ (w : Client). w.message)) at) ∙ has)
none_up s c f g (Some m) has none x at = absurd (cc)

pub none_there : (s : State) (c : ℕ) → length s.clients ≤ c → IsUplinkEmpty s c
none_there s c past x at = let within = slice_get_within s.clients c x at in absurd (omega arith)

not_empty : (full : Bool) (o : Outcome) → (o ≡ Refused LinkEmpty → ⊥) → (if full then Refused StepsFull else o) ≡ Refused LinkEmpty → ⊥
not_empty true o other e = absurd (cc)
not_empty false o other e = other e

sent_in : (s : State) (c : ℕ) (x : Client) (m : Option Message) (on : Bool) → is_some m ≡ true → on ≡ true → (if on then take_row s c x m else Refused NotJoined) ≡ Refused LinkEmpty → ⊥
sent_in s c x m false sent joined e = absurd (cc)
sent_in s c x None true sent joined e = absurd (cc)
sent_in s c x (Some m) true sent joined e = absurd (cc)

-- after the takes of the first so many clients
pub record HaveTaken (b : BoardView) (before : List Receipt) (count : ℕ) (a : BoardView) (after : List Receipt) : Type 0 where
  pub empty : (c : ℕ) → c < count → IsUplinkEmpty a.state c
  pub clients : length a.state.clients ≡ length b.state.clients
  pub takes : AreTaken b a
  pub receipts : HasReceipts b before a after

pub taken_more : (b m a : BoardView) (before between after : List Receipt) (count next : ℕ) → next ≡ suc count → HaveTaken b before count m between → IsUplinkEmpty a.state count
    → ((c : ℕ) → IsUplinkEmpty m.state c → IsUplinkEmpty a.state c) → length a.state.clients ≡ length m.state.clients → AreTaken m a → HasReceipts m between a after → HaveTaken b before next a after
taken_more b m a before between after count next is first here others clients takes receipts =
    record {
      empty = λ c below. elim (cases_lt c count) [
        | inl less ↦ others c (first.empty c less)
        | inr last ↦ let same : count ≡ c = omega arith in subst (IsUplinkEmpty a.state) same here
      ];
      clients = clients ∙ first.clients;
      takes = takes_more b m a first.takes takes;
      receipts = receipts_more b m a before between after first.receipts receipts;
    }

pub taken_all : (b a : BoardView) (before after : List Receipt) (count : ℕ) → length b.state.clients ≤ count → HaveTaken b before count a after → AreUplinksEmpty a.state
taken_all b a before after count all first c x at =
    let within = slice_get_within a.state.clients c x at in
    let clients = first.clients in
    first.empty c (omega arith) x at
