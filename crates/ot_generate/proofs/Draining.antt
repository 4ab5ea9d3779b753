-- What comes next on the way to quiet.
use Rattle.std.proofs.Common.{◌≡◌, ◌⊎◌, inl, inr, ℕ, zero, suc, ◌+◌, ◌<◌, ◌≤◌, List, [], ◌∷◌, ◌++◌, length, get_or, take, refl, sym, ap, ◌∙◌, subst, arith, Bool, true, false, Option, Some, None, append_assoc}
use Rattle.std.specs.Prelude.{◌↔◌, slice_get, if◌then◌else◌, ◌==◌, IsTrue}
use Rattle.std.specs.Option.{option_map}
use Rattle.std.proofs.lemmas.Option.{get_or_from_slice_get, same_Some, slice_get_within}
use Rattle.ot_isa.specs.declared.instruction.Instr.{Instr}
use Rattle.ot_isa.specs.declared.instruction.Instr.TheVariants.{Take, Deliver}
use Rattle.ot_isa.specs.Program.{Program, with_instr, IsForClients, IsInstr, IsProgram}
use Rattle.ot_model.specs.declared.shown.Shown.{Shown}
use Rattle.ot_model.specs.Sound.{IsSound}
use Rattle.ot_model.specs.declared.shown.Refusal.{Refusal}
use Rattle.ot_model.specs.Runs.{opening_of}
use Rattle.ot_model.specs.Session.{RunsTo}
use Rattle.ot_model.specs.Table.{Client, Message, State, is_joined, step, Performed, Refused, IsQuiet}
use Rattle.ot_model.proofs.States.{take_entry}
use Rattle.std.proofs.lemmas.List.{length-append, length-take-le, take_all}
use Rattle.std.proofs.Math.Nat.{eq-or-lt_of_le}
use Rattle.ot_machine.specs.Answers.{IsPerformed}
use Rattle.ot_machine.specs.Readers.{ClientHas, head_at}
use Rattle.ot_machine.specs.declared.state.Head.{Head}
use Rattle.ot_machine.specs.declared.state.Head.TheVariants.{Ack, Op}
use Rattle.ot_machine.proofs.RowLaws.{not_full, performs}
use Rattle.ot_generate.specs.Completed.{Drains, IsCompletion, IsIncomplete, IsRefusedAt, first_of, next_of, or_next, receipt_next, receipt_of, take_next, taking}
use Rattle.ot_generate.specs.Completing.{IsDrained, IsDraining, IsFilled, IsFollowed, IsStuck}
use Rattle.ot_generate.specs.Left.{drain_due, due, owed}
use Rattle.ot_generate.specs.Walks.{WalkView, IsMade, IsWalk, MayMake, with_instrs}
use Rattle.ot_generate.specs.declared.completing.Incomplete.{Incomplete}
use Rattle.ot_generate.specs.declared.completing.Incomplete.TheVariants as incomplete
use Rattle.ot_generate.proofs.Moving.{at_zero, below_limit, has_received, head_entry, head_on, performs_acknowledge}
use Rattle.ot_generate.proofs.Owing.{due_open, has, same_client}
use Rattle.ot_generate.proofs.Reading.{is_whole}
use Rattle.ot_generate.proofs.Resting.{rests}

abbrev Next : Type 0
Next = ℕ → Client → Option Instr

or_none : (a b : Option Instr) → or_next a b ≡ None → (a ≡ None) × (b ≡ None)
or_none None b e = (refl, e)
or_none (Some i) b e = absurd (cc)

or_first : (a b : Option Instr) → a ≡ None → or_next a b ≡ b
or_first a b e = rw e refl

or_some : (a b : Option Instr) (i : Instr) → a ≡ Some i → or_next a b ≡ Some i
or_some a b i e = rw e refl

next_index : (next : Next) (c j : ℕ) (x : Client) (o : Option Instr) → next (c + suc j) x ≡ o → next (suc c + j) x ≡ o
next_index next c j x o e = let same : suc c + j ≡ c + suc j = omega arith in ap (λ k. next k x) same ∙ e

index_next : (next : Next) (c j : ℕ) (x : Client) (o : Option Instr) → next (suc c + j) x ≡ o → next (c + suc j) x ≡ o
index_next next c j x o e = let same : c + suc j ≡ suc c + j = omega arith in ap (λ k. next k x) same ∙ e

at_first : (next : Next) (c : ℕ) (x : Client) (o : Option Instr) → next (c + 0) x ≡ o → next c x ≡ o
at_first next c x o e = let same : c ≡ c + 0 = omega arith in ap (λ k. next k x) same ∙ e

first_at : (next : Next) (c : ℕ) (x : Client) (o : Option Instr) → next c x ≡ o → next (c + 0) x ≡ o
first_at next c x o e = let same : c + 0 ≡ c = omega arith in ap (λ k. next k x) same ∙ e

-- the client at index k has an instruction, and none before it
pub first_found : (next : Next) (c k : ℕ) (clients : List Client) (y : Client) (i : Instr)
    → ((j : ℕ) (x : Client) → j < k → slice_get clients j ≡ Some x → next (c + j) x ≡ None)
    → slice_get clients k ≡ Some y → next (c + k) y ≡ Some i → first_of next c clients ≡ Some i
first_found next c k [] y i before at is = absurd (cc)
first_found next c zero (x ∷ clients) y i before at is =
    let same : x ≡ y = same_Some x y at in
    or_some (next c x) (first_of next (suc c) clients) i (ap (next c) same ∙ at_first next c y (Some i) is)
first_found next c (suc k) (x ∷ clients) y i before at is =
    let none : next c x ≡ None = at_first next c x None (before zero x (omega arith) refl) in
    let rest = first_found next (suc c) k clients y i (λ j z less there. next_index next c j z None (before (suc j) z (omega arith) there)) at (next_index next c k y (Some i) is) in
    or_first (next c x) (first_of next (suc c) clients) none ∙ rest

-- no client has one
pub first_none : (next : Next) (c : ℕ) (clients : List Client)
    → ((j : ℕ) (x : Client) → slice_get clients j ≡ Some x → next (c + j) x ≡ None) → first_of next c clients ≡ None
first_none next c [] none = refl
first_none next c (x ∷ clients) none =
    or_first (next c x) (first_of next (suc c) clients) (at_first next c x None (none zero x refl))
    ∙ first_none next (suc c) clients (λ j z there. next_index next c j z None (none (suc j) z there))

none_each : (next : Next) (c : ℕ) (clients : List Client) → first_of next c clients ≡ None → (j : ℕ) (x : Client) → slice_get clients j ≡ Some x → next (c + j) x ≡ None
none_each next c [] none j x at = absurd (cc)
none_each next c (y ∷ clients) none zero x at =
    let both = or_none (next c y) (first_of next (suc c) clients) none in
    first_at next c x None (ap (next c) (sym (same_Some y x at)) ∙ both.0)
none_each next c (y ∷ clients) none (suc j) x at =
    let both = or_none (next c y) (first_of next (suc c) clients) none in
    index_next next c j x None (none_each next (suc c) clients both.1 j x at)

-- the client that has the first one
pub record IsFirst (next : Next) (c : ℕ) (clients : List Client) (i : Instr) : Type 0 where
  pub index : ℕ
  pub client : Client
  pub at : slice_get clients index ≡ Some client
  pub is : next (c + index) client ≡ Some i

some_first : (next : Next) (c : ℕ) (clients : List Client) (i : Instr) → first_of next c clients ≡ Some i → IsFirst next c clients i
some_first next c [] i e = absurd (cc)
some_first next c (x ∷ clients) i e = go (some_first next (suc c) clients i) (next c x) refl
  where
    go : (first_of next (suc c) clients ≡ Some i → IsFirst next (suc c) clients i) → (o : Option Instr) → next c x ≡ o → IsFirst next c (x ∷ clients) i
    go further None none =
        let rest = further (sym (or_first (next c x) (first_of next (suc c) clients) none) ∙ e) in
        record { index = suc rest.index; client = rest.client; at = rest.at; is = index_next next c rest.index rest.client (Some i) rest.is }
    go further (Some j) some =
        let same : Some j ≡ Some i = sym (or_some (next c x) (first_of next (suc c) clients) j some) ∙ e in
        record { index = zero; client = x; at = refl; is = first_at next c x (Some i) (some ∙ same) }

-- from index zero on
at_index : (next : Next) (k : ℕ) (x : Client) (o : Option Instr) → next (0 + k) x ≡ o → next k x ≡ o
at_index next k x o e = let same : k ≡ 0 + k = omega arith in ap (λ j. next j x) same ∙ e

no_message : (c : ℕ) (x : Client) → take_next c x ≡ None → is_joined x.phase ≡ true → x.message ≡ None
no_message c x none on = go x.message refl
  where
    here : taking c x.message ≡ None
    here = rw on at none

    go : (m : Option Message) → x.message ≡ m → x.message ≡ None
    go None is = is
    go (Some m) is = absurd (let clash : taking c (Some m) ≡ None = ap (taking c) (sym is) ∙ here in cc)

head_none : (c : ℕ) (o : Option Head) → option_map (receipt_of c) o ≡ None → o ≡ None
head_none c None e = refl
head_none c (Some h) e = absurd (cc)

-- where nothing comes next all is quiet
pub quiet_at_last : (s : State) → IsSound s → next_of s ≡ None → IsQuiet s
quiet_at_last s sound none =
    let both = or_none (first_of take_next 0 s.clients) (first_of (receipt_next s) 0 s.clients) none in
    rests s sound (λ c less. (
      λ x at on. no_message c x (at_index take_next c x None (none_each take_next 0 s.clients both.0 c x at)) on,
      λ x at on.
          let none_here : receipt_next s c x ≡ None = at_index (receipt_next s) c x None (none_each (receipt_next s) 0 s.clients both.1 c x at) in
          let has : ClientHas s c (head_at s c 0) None = ap (option_map (head_at s c 0)) at ∙ ap Some (head_none c (head_at s c 0 x) none_here) in
          has_received s c has x at on,
    ))

-- a take is performed
message_there : (c : ℕ) (x : Client) (i : Instr) → take_next c x ≡ Some i → (is_joined x.phase ≡ true) × (m : Message) × (x.message ≡ Some m) × (i ≡ Take c)
message_there c x i e = go (is_joined x.phase) refl x.message refl
  where
    go : (b : Bool) → is_joined x.phase ≡ b → (o : Option Message) → x.message ≡ o → (is_joined x.phase ≡ true) × (m : Message) × (x.message ≡ Some m) × (i ≡ Take c)
    go false off o is = absurd (let none : take_next c x ≡ None = rw off refl in let clash = sym none ∙ e in cc)
    go true on None is = absurd (let none : take_next c x ≡ None = rw (on, is) refl in let clash = sym none ∙ e in cc)
    go true on (Some m) is = let some : take_next c x ≡ Some (Take c) = rw (on, is) refl in (on, m, is, same_Some i (Take c) (sym e ∙ some))

performs_take : (s : State) (c : ℕ) (x : Client) (m : Message) → s.steps < 1000000 → slice_get s.clients c ≡ Some x → is_joined x.phase ≡ true → x.message ≡ Some m → IsPerformed (step s (Take c))
performs_take s c x m below at on sent = rw (at, not_full s.steps below, on, sent) tt

-- a receipt is performed
joined_head : (s : State) (c : ℕ) (x : Client) (h : Head) → head_at s c 0 x ≡ Some h → is_joined x.phase ≡ true
joined_head s c x h e = go (is_joined x.phase) refl
  where
    go : (b : Bool) → is_joined x.phase ≡ b → is_joined x.phase ≡ true
    go true on = on
    go false off = absurd (let none : head_at s c 0 x ≡ None = rw off refl in let clash = sym none ∙ e in cc)

is_others : (own : Bool) (k n : ℕ) → ◌≡◌ {A = Head} (if own then Ack else Op k) (Op n) → own ≡ false
is_others true k n e = absurd (cc)
is_others false k n e = refl

performs_deliver : (s : State) (c n : ℕ) (x : Client) → s.steps < 1000000 → slice_get s.clients c ≡ Some x → head_at s c 0 x ≡ Some (Op n) → IsPerformed (step s (Deliver c))
performs_deliver s c n x below at head =
    let on = joined_head s c x (Op n) head in
    let entry = head_entry c (x.revision + 0) s.log (Op n) (head_on s c x (Op n) on head) in
    let there : slice_get s.log x.revision ≡ Some entry.0 = ap (slice_get s.log) (sym (at_zero x.revision)) ∙ entry.1 in
    let other : (entry.0.maker == c) ≡ false = is_others (entry.0.maker == c) (x.revision + 0) n entry.2 in
    rw (at, not_full s.steps below, on, there, other) tt

performs_receipt : (s : State) (c : ℕ) (x : Client) (h : Head) → IsSound s → s.steps < 1000000 → slice_get s.clients c ≡ Some x → head_at s c 0 x ≡ Some h → IsPerformed (step s (receipt_of c h))
performs_receipt s c x Ack sound below at head =
    let on = joined_head s c x Ack head in
    performs_acknowledge s c sound below (ap (option_map (λ (z : Client). is_joined z.phase)) at ∙ ap Some on) (ap (option_map (head_at s c 0)) at ∙ ap Some head)
performs_receipt s c x (Op n) sound below at head = performs_deliver s c n x below at head

one_more : (w : WalkView) → w.is_open ≡ true → length w.recorded.instrs < w.room → length w.recorded.instrs + owed w.is_open w.state + drain_due w.is_open ≤ w.room
one_more w on less =
    let none : owed w.is_open w.state ≡ 0 = ap (λ b. owed b w.state) on in
    let one : drain_due w.is_open ≡ 1 = ap drain_due on in
    omega arith

may_take : (w : WalkView) (c : ℕ) (x : Client) (m : Message) → IsWalk w → w.is_open ≡ true → length w.recorded.instrs < w.room
    → slice_get w.state.clients c ≡ Some x → is_joined x.phase ≡ true → x.message ≡ Some m → MayMake w (Take c)
may_take w c x m kept on less at joined sent =
    let inside = slice_get_within w.state.clients c x at in
    let clients = kept.clients in
    record {
      performed = performs_take w.state c x m (below_limit w kept) at joined sent;
      client = omega arith;
      room = one_more w on less;
    }

may_receive : (w : WalkView) (c : ℕ) (x : Client) (h : Head) → IsWalk w → w.is_open ≡ true → length w.recorded.instrs < w.room
    → slice_get w.state.clients c ≡ Some x → head_at w.state c 0 x ≡ Some h → MayMake w (receipt_of c h)
may_receive w c x Ack kept on less at head =
    let inside = slice_get_within w.state.clients c x at in
    let clients = kept.clients in
    record { performed = performs_receipt w.state c x Ack kept.sound (below_limit w kept) at head; client = omega arith; room = one_more w on less }
may_receive w c x (Op n) kept on less at head =
    let inside = slice_get_within w.state.clients c x at in
    let clients = kept.clients in
    record { performed = performs_receipt w.state c x (Op n) kept.sound (below_limit w kept) at head; client = omega arith; room = one_more w on less }

head_there : (s : State) (c : ℕ) (x : Client) (i : Instr) → receipt_next s c x ≡ Some i → (h : Head) × (head_at s c 0 x ≡ Some h) × (i ≡ receipt_of c h)
head_there s c x i e = go (head_at s c 0 x) refl
  where
    go : (o : Option Head) → head_at s c 0 x ≡ o → (h : Head) × (head_at s c 0 x ≡ Some h) × (i ≡ receipt_of c h)
    go None is = absurd (let clash : None ≡ Some i = ap (option_map (receipt_of c)) (sym is) ∙ e in cc)
    go (Some h) is =
        let same : Some (receipt_of c h) ≡ Some i = ap (option_map (receipt_of c)) (sym is) ∙ e in
        (h, is, sym (same_Some (receipt_of c h) i same))

-- what comes next can be made
pub may_next : (w : WalkView) (i : Instr) → IsWalk w → w.is_open ≡ true → length w.recorded.instrs < w.room → next_of w.state ≡ Some i → MayMake w i
may_next w i kept on less next = go (first_of take_next 0 w.state.clients) refl
  where
    go : (o : Option Instr) → first_of take_next 0 w.state.clients ≡ o → MayMake w i
    go None none =
        let s = w.state in
        let receipt = sym (or_first (first_of take_next 0 s.clients) (first_of (receipt_next s) 0 s.clients) none) ∙ next in
        let first = some_first (receipt_next s) 0 s.clients i receipt in
        let found = head_there s first.index first.client i (at_index (receipt_next s) first.index first.client (Some i) first.is) in
        subst (MayMake w) (sym found.2) (may_receive w first.index first.client found.0 kept on less first.at found.1)
    go (Some j) some =
        let s = w.state in
        let same : Some j ≡ Some i = sym (or_some (first_of take_next 0 s.clients) (first_of (receipt_next s) 0 s.clients) j some) ∙ next in
        let first = some_first take_next 0 s.clients j some in
        let found = message_there first.index first.client j (at_index take_next first.index first.client (Some j) first.is) in
        let is : i ≡ Take first.index = sym (same_Some j i same) ∙ found.3 in
        subst (MayMake w) (sym is) (may_take w first.index first.client found.1 kept on less first.at found.0 found.2)

from_zero : (next : Next) (k : ℕ) (x : Client) (o : Option Instr) → next k x ≡ o → next (0 + k) x ≡ o
from_zero next k x o e = let same : 0 + k ≡ k = omega arith in ap (λ j. next j x) same ∙ e

-- the first take
pub take_found : (s : State) (k : ℕ) (i : Instr) → ((j : ℕ) (x : Client) → j < k → slice_get s.clients j ≡ Some x → take_next j x ≡ None)
    → ClientHas s k (take_next k) (Some i) → Some i ≡ next_of s
take_found s k i before h =
    let f = has s k (take_next k) (Some i) h in
    let first = first_found take_next 0 k s.clients f.0 i (λ j x less there. from_zero take_next j x None (before j x less there)) f.1 (from_zero take_next k f.0 (Some i) f.2) in
    sym (or_some (first_of take_next 0 s.clients) (first_of (receipt_next s) 0 s.clients) i first)

pub no_take : (s : State) (n : ℕ) → length s.clients ≤ n → ((j : ℕ) (x : Client) → j < n → slice_get s.clients j ≡ Some x → take_next j x ≡ None) → first_of take_next 0 s.clients ≡ None
no_take s n past before = first_none take_next 0 s.clients (λ j x there. let inside = slice_get_within s.clients j x there in from_zero take_next j x None (before j x (omega arith) there))

-- the first receipt
pub receipt_found : (s : State) (k : ℕ) (i : Instr) → first_of take_next 0 s.clients ≡ None → ((j : ℕ) (x : Client) → j < k → slice_get s.clients j ≡ Some x → receipt_next s j x ≡ None)
    → ClientHas s k (receipt_next s k) (Some i) → Some i ≡ next_of s
receipt_found s k i none before h =
    let f = has s k (receipt_next s k) (Some i) h in
    let first = first_found (receipt_next s) 0 k s.clients f.0 i (λ j x less there. from_zero (receipt_next s) j x None (before j x less there)) f.1 (from_zero (receipt_next s) k f.0 (Some i) f.2) in
    sym (or_first (first_of take_next 0 s.clients) (first_of (receipt_next s) 0 s.clients) none ∙ first)

pub nothing_next : (s : State) (n : ℕ) → first_of take_next 0 s.clients ≡ None → length s.clients ≤ n → ((j : ℕ) (x : Client) → j < n → slice_get s.clients j ≡ Some x → receipt_next s j x ≡ None) → None ≡ next_of s
nothing_next s n none past before =
    let rest = first_none (receipt_next s) 0 s.clients (λ j x there. let inside = slice_get_within s.clients j x there in from_zero (receipt_next s) j x None (before j x (omega arith) there)) in
    sym (or_first (first_of take_next 0 s.clients) (first_of (receipt_next s) 0 s.clients) none ∙ rest)

-- one client more has nothing
pub none_more : (next : Next) (s : State) (k : ℕ) → ((j : ℕ) (x : Client) → j < k → slice_get s.clients j ≡ Some x → next j x ≡ None) → ClientHas s k (next k) None
    → (j : ℕ) (x : Client) → j < k + 1 → slice_get s.clients j ≡ Some x → next j x ≡ None
none_more next s k before h j x less at = let le : j ≤ k = omega arith in go (eq-or-lt_of_le le)
  where
    go : (j ≡ k) ⊎ (j < k) → next j x ≡ None
    go (inr below) = before j x below at
    go (inl same) =
        let f = has s k (next k) None h in
        let here : slice_get s.clients k ≡ Some x = ap (slice_get s.clients) (sym same) ∙ at in
        ap (λ n. next n x) same ∙ ap (next k) (same_client s k x f.0 here f.1) ∙ f.2

-- an instruction that was given, and is performed
pub may_follow : (w : WalkView) (i : Instr) (t : State) (shown : Option Shown) → w.is_open ≡ true → length w.recorded.instrs < w.room → IsForClients w.recorded.clients i
    → step w.state i ≡ Performed t shown → MayMake w i
may_follow w i t shown on less client row =
    let none : owed w.is_open w.state ≡ 0 = ap (λ b. owed b w.state) on in
    let one : due w.is_open (length w.state.clients) i ≡ 1 = ap (λ b. due b (length w.state.clients) i) on ∙ due_open (length w.state.clients) i in
    record { performed = performs (step w.state i) t shown row; client = client; room = omega arith }

pub may_follow_view : (w v : WalkView) (i : Instr) (t : State) (shown : Option Shown) → w ≡ v → v.is_open ≡ true → length v.recorded.instrs < v.room → IsForClients v.recorded.clients i
    → step w.state i ≡ Performed t shown → MayMake w i
may_follow_view w v i t shown same on less client row =
    may_follow w i t shown (subst (λ (z : WalkView). z.is_open ≡ true) (sym same) on) (subst (λ (z : WalkView). length z.recorded.instrs < z.room) (sym same) less)
    (subst (λ (z : WalkView). IsForClients z.recorded.clients i) (sym same) client) row

-- an instruction of a schedule is one for its clients
pub for_clients : (p : Program) (k : ℕ) (i : Instr) (w : WalkView) → IsProgram p → IsFollowed p k w → slice_get p.instrs k ≡ Some i → IsForClients w.recorded.clients i
for_clients p k i w limits so_far at =
    let here : IsInstr p.clients (get_or p.instrs k i) = limits.instrs_are k i (slice_get_within p.instrs k i at) in
    let is : IsInstr p.clients i = subst (IsInstr p.clients) (get_or_from_slice_get p.instrs k i i at) here in
    subst (λ n. IsForClients n i) (sym (ap (λ (q : Program). q.clients) so_far.recorded)) is.0

pub follow_room : (p : Program) (k : ℕ) (w : WalkView) → IsProgram p → IsFollowed p k w → k < length p.instrs → length w.recorded.instrs < w.room
follow_room p k w limits so_far less =
    let many : length w.recorded.instrs ≡ length (take k p.instrs) = ap (λ (q : Program). length q.instrs) so_far.recorded in
    let le : k ≤ length p.instrs = omega arith in
    let taken = length-take-le k p.instrs le in
    let room = so_far.room in
    let most = limits.instrs_fit in
    omega arith

-- a way to quiet goes on
drains_more : (s t u : State) (is : List Instr) (i : Instr) (shown : Option Shown) → Drains s is t → next_of t ≡ Some i → step t i ≡ Performed u shown → Drains s (is ++ i ∷ []) u
drains_more s t u [] i shown e next row =
    (subst (λ (z : State). next_of z ≡ Some i) (sym e) next, u, shown, subst (λ (z : State). step z i ≡ Performed u shown) (sym e) row, refl)
drains_more s t u (j ∷ is) i shown (first, mid, list, row, rest) next last = (first, mid, list, row, drains_more mid t u is i shown rest next last)

with_one_more : (p : Program) (more : List Instr) (i : Instr) → with_instr (with_instrs p more) i ≡ with_instrs p (more ++ i ∷ [])
with_one_more p more i = ap (λ (is : List Instr). record p { instrs = is }) (append_assoc p.instrs more (i ∷ []))

pub draining_more : (a b d : WalkView) (more : List Instr) (i : Instr) → IsDraining a more b → next_of b.state ≡ Some i → IsMade b i d → IsDraining a (more ++ i ∷ []) d
draining_more a b d more i along next made =
    record {
      recorded = made.recorded ∙ ap (λ (p : Program). with_instr p i) along.recorded ∙ with_one_more a.recorded more i;
      drains = drains_more a.state b.state d.state more i made.shown along.drains next made.row;
      room = made.room ∙ along.room;
      is_open = made.is_open ∙ along.is_open;
    }

-- a record that is not full has room for one more
pub room_left : (w : WalkView) (b : Bool) → IsWalk w → (IsTrue b ↔ (length w.recorded.instrs ≡ w.room)) → b ≡ false → length w.recorded.instrs < w.room
room_left w b kept full off = let le : length w.recorded.instrs ≤ w.room = omega (arith, kept.fits) in go (eq-or-lt_of_le le)
  where
    go : (length w.recorded.instrs ≡ w.room) ⊎ (length w.recorded.instrs < w.room) → length w.recorded.instrs < w.room
    go (inr less) = less
    go (inl same) = absurd (let is : IsTrue false = subst IsTrue off (full.1 same) in cc)

-- the record is full, and something comes next
pub filled : (a b : WalkView) (more : List Instr) (i : Instr) → IsDraining a more b → next_of b.state ≡ Some i → length b.recorded.instrs ≡ b.room → IsFilled a
filled a b more i along next full =
    let many : length b.recorded.instrs ≡ length (a.recorded.instrs ++ more) = ap (λ (p : Program). length p.instrs) along.recorded in
    let sum = length-append a.recorded.instrs more in
    let room = along.room in
    record {
      more = more;
      end = b.state;
      drains = along.drains;
      unsettled = λ none. absurd (let clash = sym next ∙ none in cc);
      full = omega arith;
    }

with_taken : (p : Program) (is js : List Instr) → is ≡ js
    → ◌≡◌ {A = Program} (record { clients = p.clients; present = p.present; start = p.start; instrs = is }) (record { clients = p.clients; present = p.present; start = p.start; instrs = js })
with_taken p is js e = ap (λ (l : List Instr). record { clients = p.clients; present = p.present; start = p.start; instrs = l }) e

pub followed_more : (p : Program) (k : ℕ) (a b : WalkView) (i : Instr) → IsFollowed p k a → slice_get p.instrs k ≡ Some i → IsMade a i b → IsFollowed p (k + 1) b
followed_more p k a b i so_far at made =
    let same : k + 1 ≡ suc k = omega arith in
    let taken : take (k + 1) p.instrs ≡ take k p.instrs ++ i ∷ [] = ap (λ n. take n p.instrs) same ∙ take_entry p.instrs k i at in
    record {
      recorded = made.recorded ∙ ap (λ (q : Program). with_instr q i) so_far.recorded ∙ with_taken p (take k p.instrs ++ i ∷ []) (take (k + 1) p.instrs) (sym taken);
      room = made.room ∙ so_far.room;
      is_open = made.is_open ∙ so_far.is_open;
    }

followed_runs : (p : Program) (k : ℕ) (w : WalkView) → IsFollowed p k w → IsWalk w → RunsTo (opening_of p) (take k p.instrs) w.state
followed_runs p k w so_far kept = subst (λ (q : Program). RunsTo (opening_of q) q.instrs w.state) so_far.recorded kept.replays

-- an instruction is refused on the way
pub refused_at : (p : Program) (k : ℕ) (w : WalkView) (i : Instr) (r : Refusal) → IsFollowed p k w → IsWalk w → slice_get p.instrs k ≡ Some i → step w.state i ≡ Refused r → IsRefusedAt p k r
refused_at p k w i r so_far kept at row = record { before = w.state; begins = followed_runs p k w so_far kept; refused = (i, at, row) }

whole_run : (p : Program) (w : WalkView) → IsFollowed p (length p.instrs) w → IsWalk w → RunsTo (opening_of p) p.instrs w.state
whole_run p w so_far kept =
    let le : length p.instrs ≤ length p.instrs = omega arith in
    subst (λ (is : List Instr). RunsTo (opening_of p) is w.state) (take_all (length p.instrs) p.instrs le) (followed_runs p (length p.instrs) w so_far kept)

same_program : (p : Program) (w : WalkView) → IsFollowed p (length p.instrs) w → w.recorded ≡ p
same_program p w so_far =
    let le : length p.instrs ≤ length p.instrs = omega arith in
    so_far.recorded ∙ with_taken p (take (length p.instrs) p.instrs) p.instrs (take_all (length p.instrs) p.instrs le)

-- the whole schedule
pub completed : (p : Program) (a b : WalkView) → IsFollowed p (length p.instrs) a → IsWalk a → IsDrained a b → IsWalk b → IsCompletion p b.recorded
completed p a b so_far kept drained kept_end =
    record {
      more = drained.more;
      instrs = drained.draining.recorded ∙ ap (λ (q : Program). with_instrs q drained.more) (same_program p a so_far);
      before = a.state;
      end = b.state;
      begins = whole_run p a so_far kept;
      drains = drained.draining.drains;
      settled = drained.settled;
      ends = kept_end.replays;
      whole = is_whole b kept_end;
      quiet = quiet_at_last b.state kept_end.sound drained.settled;
    }

pub stuck : (p : Program) (a : WalkView) (e : Incomplete) → IsFollowed p (length p.instrs) a → IsWalk a → IsStuck a e → IsIncomplete p e
stuck p a (incomplete.Refused place refusal) so_far kept is = absurd is
stuck p a incomplete.TooMany so_far kept is =
    let many = ap (λ (q : Program). length q.instrs) (same_program p a so_far) in
    let room = so_far.room in
    let full = is.full in
    record {
      more = is.more;
      before = a.state;
      end = is.end;
      begins = whole_run p a so_far kept;
      drains = is.drains;
      unsettled = is.unsettled;
      full = omega arith;
    }
stuck p a incomplete.Memory so_far kept is = tt
