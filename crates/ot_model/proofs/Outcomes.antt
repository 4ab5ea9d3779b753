-- What holds of every refusal and of what the rows perform holds of every step.
use Rattle.std.proofs.Common.{◌≡◌, ℕ, ◌+◌, ◌<◌, ◌≤◌, length, refl, ◌≢◌, drop, Option, Some, None, Bool, true, false}
use Rattle.std.proofs.lemmas.Bool.{eqb-true, eqb-false, ltb-false, leb-false}
use Rattle.std.specs.Prelude.{slice_get, if◌then◌else◌, ◌==◌, nat_lt, nat_le, not}
use Rattle.ot_model.specs.Operation.{Operation, inserted}
use Rattle.ot_model.specs.Table.{is_joined, Client, State, Entry, Message, Outcome, Performed, Refused, step, at_client, row, edit_row, take_row, deliver_row, acknowledge_row, with_row, edited, taken, delivered, acknowledged, joined, tag_operation, with_client, shows}
use Rattle.ot_isa.specs.declared.instruction.Instr.{Instr}
use Rattle.ot_isa.specs.declared.instruction.Instr.TheVariants.{Edit, Take, Deliver, Acknowledge, Join, Read, ReadServer}
use Rattle.ot_model.specs.declared.shown.Refusal.{Refusal}
use Rattle.ot_model.specs.declared.shown.Refusal.TheVariants.{NotJoined, NoSuchClient, StepsFull, AlreadyJoined, BadBase, ClientFull, LinkEmpty, WrongHead}
use Rattle.ot_model.specs.declared.shown.Reader.TheVariants as reader
use Rattle.ot_server.specs.History.{transform_over}

module _ (P : Outcome → Type 0) (refused : (r : Refusal) → P (Refused r)) where
  pub by_full : (s : State) (outcome : Outcome) (full : Bool) → nat_le 1000000 s.steps ≡ full → (s.steps < 1000000 → P outcome) → P (if full then Refused StepsFull else outcome)
  by_full s outcome true is fine = refused StepsFull
  by_full s outcome false is fine = fine (leb-false 1000000 s.steps is)

  pub by_client : (s : State) (i : Instr) (c : ℕ) (o : Option Client) → slice_get s.clients c ≡ o → ((x : Client) → slice_get s.clients c ≡ Some x → s.steps < 1000000 → P (row s i c x)) → P (at_client s i c o)
  by_client s i c None at fine = refused NoSuchClient
  by_client s i c (Some x) at fine = by_full s (row s i c x) (nat_le 1000000 s.steps) refl (fine x at)

  pub by_joined : (x : Client) (outcome : Outcome) (on : Bool) → is_joined x.phase ≡ on → (is_joined x.phase ≡ true → P outcome) → P (if on then outcome else Refused NotJoined)
  by_joined x outcome true is fine = fine is
  by_joined x outcome false is fine = refused NotJoined

  by_base : (x : Client) (n : ℕ) (op : Operation ℕ) (outcome : Outcome) (base full : Bool) → (op.base == length x.list) ≡ base → nat_lt 15000 n ≡ full → (op.base ≡ length x.list → n ≤ 15000 → P outcome)
      → P (if not base then Refused BadBase else if full then Refused ClientFull else outcome)
  by_base x n op outcome false full is is_full fine = refused BadBase
  by_base x n op outcome true true is is_full fine = refused ClientFull
  by_base x n op outcome true false is is_full fine = fine (eqb-true op.base (length x.list) is) (ltb-false 15000 n is_full)

  pub by_edit : (s : State) (c : ℕ) (op : Operation ℕ)
      → ((x : Client) → slice_get s.clients c ≡ Some x → s.steps < 1000000 → is_joined x.phase ≡ true → op.base ≡ length x.list → x.count + inserted op ≤ 15000 → P (Performed (with_client s c (edited x (tag_operation c x.count op))) None))
      → P (step s (Edit c op))
  by_edit s c op fine =
      by_client s (Edit c op) c (slice_get s.clients c) refl (λ x at below. by_joined x (edit_row s c x op) (is_joined x.phase) refl (λ on.
      by_base x (x.count + inserted op) op (Performed (with_client s c (edited x (tag_operation c x.count op))) None) (op.base == length x.list) (nat_lt 15000 (x.count + inserted op)) refl refl (fine x at below on)))

  pub by_read : (s : State) (c : ℕ) → ((x : Client) → slice_get s.clients c ≡ Some x → s.steps < 1000000 → is_joined x.phase ≡ true → P (shows s (reader.Client c) x.list)) → P (step s (Read c))
  by_read s c fine =
      by_client s (Read c) c (slice_get s.clients c) refl (λ x at below. by_joined x (shows s (reader.Client c) x.list) (is_joined x.phase) refl (fine x at below))

  pub by_read_server : (s : State) → (s.steps < 1000000 → P (shows s reader.Server s.server)) → P (step s ReadServer)
  by_read_server s fine = by_full s (shows s reader.Server s.server) (nat_le 1000000 s.steps) refl fine

  by_message : (s : State) (c : ℕ) (x : Client) (message : Option Message) → x.message ≡ message → ((m : Message) → x.message ≡ Some m → P (Performed (taken s c x (transform_over m.op (drop m.revision s.log))) None)) → P (take_row s c x message)
  by_message s c x None is fine = refused LinkEmpty
  by_message s c x (Some m) is fine = fine m is

  pub by_take : (s : State) (c : ℕ) → ((x : Client) (m : Message) → slice_get s.clients c ≡ Some x → s.steps < 1000000 → is_joined x.phase ≡ true → x.message ≡ Some m → P (Performed (taken s c x (transform_over m.op (drop m.revision s.log))) None)) → P (step s (Take c))
  by_take s c fine =
      by_client s (Take c) c (slice_get s.clients c) refl (λ x at below. by_joined x (take_row s c x x.message) (is_joined x.phase) refl (λ on. by_message s c x x.message refl (λ m is. fine x m at below on is)))

  by_other : (h : Entry) (c : ℕ) (outcome : Outcome) (own : Bool) → (h.maker == c) ≡ own → (h.maker ≢ c → P outcome) → P (if own then Refused WrongHead else outcome)
  by_other h c outcome true is fine = refused WrongHead
  by_other h c outcome false is fine = fine (eqb-false h.maker c is)

  by_own : (h : Entry) (c : ℕ) (outcome : Outcome) (own : Bool) → (h.maker == c) ≡ own → (h.maker ≡ c → P outcome) → P (if own then outcome else Refused WrongHead)
  by_own h c outcome true is fine = fine (eqb-true h.maker c is)
  by_own h c outcome false is fine = refused WrongHead

  by_delivery : (s : State) (c : ℕ) (x : Client) (o : Option Entry) → slice_get s.log x.revision ≡ o → ((h : Entry) → slice_get s.log x.revision ≡ Some h → h.maker ≢ c → P (Performed (with_client s c (delivered x h.op)) None)) → P (deliver_row s c x o)
  by_delivery s c x None is fine = refused LinkEmpty
  by_delivery s c x (Some h) is fine = by_other h c (Performed (with_client s c (delivered x h.op)) None) (h.maker == c) refl (fine h is)

  pub by_deliver : (s : State) (c : ℕ) → ((x : Client) (h : Entry) → slice_get s.clients c ≡ Some x → s.steps < 1000000 → is_joined x.phase ≡ true → slice_get s.log x.revision ≡ Some h → h.maker ≢ c → P (Performed (with_client s c (delivered x h.op)) None)) → P (step s (Deliver c))
  by_deliver s c fine =
      by_client s (Deliver c) c (slice_get s.clients c) refl (λ x at below. by_joined x (deliver_row s c x (slice_get s.log x.revision)) (is_joined x.phase) refl (λ on. by_delivery s c x (slice_get s.log x.revision) refl (λ h head other. fine x h at below on head other)))

  by_answer : (s : State) (c : ℕ) (x : Client) (o : Option Entry) → slice_get s.log x.revision ≡ o → ((h : Entry) → slice_get s.log x.revision ≡ Some h → h.maker ≡ c → P (with_row s c (acknowledged x x.phase))) → P (acknowledge_row s c x o)
  by_answer s c x None is fine = refused LinkEmpty
  by_answer s c x (Some h) is fine = by_own h c (with_row s c (acknowledged x x.phase)) (h.maker == c) refl (fine h is)

  pub by_acknowledge : (s : State) (c : ℕ) → ((x : Client) (h : Entry) → slice_get s.clients c ≡ Some x → s.steps < 1000000 → is_joined x.phase ≡ true → slice_get s.log x.revision ≡ Some h → h.maker ≡ c → P (with_row s c (acknowledged x x.phase))) → P (step s (Acknowledge c))
  by_acknowledge s c fine =
      by_client s (Acknowledge c) c (slice_get s.clients c) refl (λ x at below. by_joined x (acknowledge_row s c x (slice_get s.log x.revision)) (is_joined x.phase) refl (λ on. by_answer s c x (slice_get s.log x.revision) refl (λ h head own. fine x h at below on head own)))

  by_absent : (s : State) (c : ℕ) (x : Client) (on : Bool) → is_joined x.phase ≡ on → (is_joined x.phase ≡ false → P (Performed (with_client s c (joined s x)) None)) → P (if on then Refused AlreadyJoined else Performed (with_client s c (joined s x)) None)
  by_absent s c x true is fine = refused AlreadyJoined
  by_absent s c x false is fine = fine is

  pub by_join : (s : State) (c : ℕ) → ((x : Client) → slice_get s.clients c ≡ Some x → s.steps < 1000000 → is_joined x.phase ≡ false → P (Performed (with_client s c (joined s x)) None)) → P (step s (Join c))
  by_join s c fine =
      by_client s (Join c) c (slice_get s.clients c) refl (λ x at below. by_absent s c x (is_joined x.phase) refl (fine x at below))
