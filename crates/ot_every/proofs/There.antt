-- Whether what an instruction receives is there: it is where the instruction is performed, it stays while other machines go on, and
-- where it is, the instruction lacks nothing.
use Rattle.std.proofs.Common.{◌≡◌, ℕ, zero, suc, ◌<◌, ◌≤◌, ◌≢◌, List, [], ◌∷◌, ◌++◌, length, set, refl, sym, ap, ◌∙◌, subst, arith, inl, inr, Option, Some, None, Bool, true, false}
use Rattle.std.specs.Prelude.{◌==◌, if◌then◌else◌, nat_le, slice_get, is_some}
use Rattle.std.proofs.lemmas.Bool.{cases_eq, eq-eqb, ltb-true, lt-ltb}
use Rattle.ot_isa.specs.declared.instruction.Instr.{Instr}
use Rattle.ot_isa.specs.declared.instruction.Instr.TheVariants.{Edit, Take, Deliver, Acknowledge, Join, Read, ReadServer}
use Rattle.ot_model.specs.declared.shown.Shown.{Shown}
use Rattle.ot_model.specs.declared.shown.Refusal.TheVariants.{StepsFull, NotJoined, LinkEmpty, WrongHead}
use Rattle.ot_model.specs.Table.{is_joined, Client, State, Entry, Message, Outcome, Performed, Refused, step, at_client, if_joined, deliver_row, acknowledge_row, with_row, acknowledged}
use Rattle.ot_model.specs.Orders.{ClientMachine, is_at}
use Rattle.ot_model.proofs.States.{slice_get-set_same, slice_get-set_other}
use Rattle.ot_model.proofs.Outcomes.{by_take, by_deliver, by_acknowledge}
use Rattle.ot_model.proofs.Exchanging.{emptied, kind}
use Rattle.ot_model.proofs.Earlier.{Grew, HasMessage, Missing, earlier}
use Rattle.ot_model.proofs.Reordering.{IsApart}
use Rattle.ot_every.specs.Listing.{machine_of, has_client, is_behind, is_there}

within : {X : Type 0} (xs : List X) (i : ℕ) (x : X) → slice_get xs i ≡ Some x → i < length xs
within [] i x e = absurd (cc)
within (y ∷ xs) zero x e = omega arith
within (y ∷ xs) (suc i) x e = let r = within xs i x e in omega (arith, r)

some_at : {X : Type 0} (xs : List X) (i : ℕ) → i < length xs → (x : X) × (slice_get xs i ≡ Some x)
some_at [] i h = absurd (omega (arith, h))
some_at (y ∷ xs) zero h = (y, refl)
some_at (y ∷ xs) (suc i) h = some_at xs i (omega (arith, h))

-- ---- where it is performed, it is there

pub performed_there : (s : State) (i : Instr) (t : State) (a : Option Shown) → step s i ≡ Performed t a → is_there s i ≡ true
performed_there s (Edit c op) t a e = refl
performed_there s (Take c) t a e =
    by_take (λ o. o ≡ Performed t a → is_there s (Take c) ≡ true) (λ r f. absurd (cc)) s c (λ x m at below on sent f. rw (at, sent) refl) e
performed_there s (Deliver c) t a e =
    by_deliver (λ o. o ≡ Performed t a → is_there s (Deliver c) ≡ true) (λ r f. absurd (cc)) s c (λ x h at below on head other f. rw at (lt-ltb x.revision (length s.log) (within s.log x.revision h head))) e
performed_there s (Acknowledge c) t a e =
    by_acknowledge (λ o. o ≡ Performed t a → is_there s (Acknowledge c) ≡ true) (λ r f. absurd (cc)) s c (λ x h at below on head own f. rw at (lt-ltb x.revision (length s.log) (within s.log x.revision h head))) e
performed_there s (Join c) t a e = refl
performed_there s (Read c) t a e = refl
performed_there s ReadServer t a e = refl

-- ---- it stays

behind_longer : (s t : State) (x y : Client) → y.revision ≡ x.revision → length s.log ≤ length t.log → is_behind s x ≡ true → is_behind t y ≡ true
behind_longer s t x y revision longer e = lt-ltb y.revision (length t.log) (let n = ltb-true x.revision (length s.log) e in omega (arith, n, revision, longer))

has_behind : (s t : State) (o : Option Client) → length s.log ≤ length t.log → has_client o (is_behind s) ≡ true → has_client o (is_behind t) ≡ true
has_behind s t None longer e = absurd (cc)
has_behind s t (Some x) longer e = behind_longer s t x x refl longer e

-- a take changes a client's message alone
receipt_taken : (s t : State) (k c : ℕ) (x : Client) → slice_get s.clients k ≡ Some x → t.clients ≡ set s.clients k (emptied x) → length s.log ≤ length t.log
    → has_client (slice_get s.clients c) (is_behind s) ≡ true → has_client (slice_get t.clients c) (is_behind t) ≡ true
receipt_taken s t k c x at clients longer there = elim (cases_eq k c) [
  | inl same ↦
      let at_t : slice_get t.clients c ≡ Some (emptied x) =
      ap (λ (w : List Client). slice_get w c) clients ∙ subst (λ (n : ℕ). slice_get (set s.clients k (emptied x)) n ≡ Some (emptied x)) same (slice_get-set_same s.clients k x (emptied x) at) in
      let at_s : slice_get s.clients c ≡ Some x = subst (λ (n : ℕ). slice_get s.clients n ≡ Some x) same at in
      rw at_t (behind_longer s t x (emptied x) refl longer (rw at_s at there))
  | inr other ↦
      let kept : slice_get t.clients c ≡ slice_get s.clients c = ap (λ (w : List Client). slice_get w c) clients ∙ slice_get-set_other s.clients k c (emptied x) (λ d. other (sym d)) in
      rw kept (has_behind s t (slice_get s.clients c) longer there)
]

longer_log : {X : Type 0} (xs : List X) (x : X) → length xs ≤ length (xs ++ x ∷ [])
longer_log [] x = omega arith
longer_log (y ∷ xs) x = let r = longer_log xs x in omega (arith, r)

-- what a client has to receive, it still has after an instruction of another machine
receipt_stays : (s : State) (i j : Instr) (t : State) (a : Option Shown) (c : ℕ) → step s i ≡ Performed t a → IsApart i j → is_at (ClientMachine c) j ≡ true
    → has_client (slice_get s.clients c) (is_behind s) ≡ true → has_client (slice_get t.clients c) (is_behind t) ≡ true
receipt_stays s i j t a c e apart at_j there = elim (kind s i t a e) [
  | inl m ↦
      let other : m.c ≢ c = λ same. (let off = apart (ClientMachine m.c) m.own in let on = subst (λ (n : ℕ). is_at (ClientMachine n) j ≡ true) (sym same) at_j in absurd (cc)) in
      let kept : slice_get (set s.clients m.c m.y) c ≡ slice_get s.clients c = slice_get-set_other s.clients m.c c m.y (λ d. other (sym d)) in
      rw (m.after, kept) there
  | inr (inl k) ↦
      receipt_taken s t k.c c k.x k.at (ap (λ (w : State). w.clients) k.after) (rw k.after (longer_log s.log _)) there
  | inr (inr r) ↦ rw r.after there
]

pub there_stays : (s : State) (i j : Instr) (t : State) (a : Option Shown) (c : ℕ) → step s i ≡ Performed t a → IsApart i j → machine_of j ≡ ClientMachine c → is_there s j ≡ true → is_there t j ≡ true
there_stays s i (Edit d op) t a c e apart own there = refl
there_stays s i (Take d) t a c e apart own there = absurd (cc)
there_stays s i (Deliver d) t a c e apart own there = receipt_stays s i (Deliver d) t a d e apart (eq-eqb d d refl) there
there_stays s i (Acknowledge d) t a c e apart own there = receipt_stays s i (Acknowledge d) t a d e apart (eq-eqb d d refl) there
there_stays s i (Join d) t a c e apart own there = refl
there_stays s i (Read d) t a c e apart own there = refl
there_stays s i ReadServer t a c e apart own there = refl

-- ---- where it is there, nothing is lacking

not_full : (b : Bool) (o : Outcome) → (o ≡ Refused LinkEmpty → ⊥) → (if b then Refused StepsFull else o) ≡ Refused LinkEmpty → ⊥
not_full true o not e = absurd (cc)
not_full false o not e = not e

not_absent : (b : Bool) (o : Outcome) → (o ≡ Refused LinkEmpty → ⊥) → (if b then o else Refused NotJoined) ≡ Refused LinkEmpty → ⊥
not_absent true o not e = not e
not_absent false o not e = absurd (cc)

other_not_empty : (b : Bool) (t : State) (a : Option Shown) → (if b then Refused WrongHead else Performed t a) ≡ Refused LinkEmpty → ⊥
other_not_empty true t a e = absurd (cc)
other_not_empty false t a e = absurd (cc)

row_not_empty : (s : State) (c : ℕ) (o : Option Client) → with_row s c o ≡ Refused LinkEmpty → ⊥
row_not_empty s c None e = absurd (cc)
row_not_empty s c (Some x) e = absurd (cc)

own_not_empty : (b : Bool) (s : State) (c : ℕ) (o : Option Client) → (if b then with_row s c o else Refused WrongHead) ≡ Refused LinkEmpty → ⊥
own_not_empty true s c o e = row_not_empty s c o e
own_not_empty false s c o e = absurd (cc)

head_there : (s : State) (x : Client) → is_behind s x ≡ true → (h : Entry) × (slice_get s.log x.revision ≡ Some h)
head_there s x e = some_at s.log x.revision (ltb-true x.revision (length s.log) e)

deliver_not_empty : (s : State) (c : ℕ) (o : Option Client) → has_client o (is_behind s) ≡ true → at_client s (Deliver c) c o ≡ Refused LinkEmpty → ⊥
deliver_not_empty s c None there e = absurd (cc)
deliver_not_empty s c (Some x) there e =
    not_full (nat_le 1000000 s.steps) (if_joined x (deliver_row s c x (slice_get s.log x.revision)))
    (not_absent (is_joined x.phase) (deliver_row s c x (slice_get s.log x.revision))
    (λ f. (let h = head_there s x there in other_not_empty (h.0.maker == c) _ None (rw h.1 at f)))) e

acknowledge_not_empty : (s : State) (c : ℕ) (o : Option Client) → has_client o (is_behind s) ≡ true → at_client s (Acknowledge c) c o ≡ Refused LinkEmpty → ⊥
acknowledge_not_empty s c None there e = absurd (cc)
acknowledge_not_empty s c (Some x) there e =
    not_full (nat_le 1000000 s.steps) (if_joined x (acknowledge_row s c x (slice_get s.log x.revision)))
    (not_absent (is_joined x.phase) (acknowledge_row s c x (slice_get s.log x.revision))
    (λ f. (let h = head_there s x there in own_not_empty (h.0.maker == c) s c (acknowledged x x.phase) (rw h.1 at f)))) e

message_there : (s : State) (c : ℕ) (o : Option Client) → slice_get s.clients c ≡ o → has_client o (λ x. is_some x.message) ≡ true → HasMessage c s
message_there s c None at there = absurd (cc)
message_there s c (Some x) at there = go x.message refl there
  where
    go : (m : Option Message) → x.message ≡ m → is_some m ≡ true → HasMessage c s
    go None is on = absurd (cc)
    go (Some m) is on = (x, m, at, is)

not_early : (s t : State) (j : Instr) → is_there s j ≡ true → step s j ≡ Refused LinkEmpty → Missing s t j → ⊥
not_early s t (Edit c op) there empty missing = missing
not_early s t (Take c) there empty missing = missing.0 (message_there s c (slice_get s.clients c) refl there)
not_early s t (Deliver c) there empty missing = deliver_not_empty s c (slice_get s.clients c) there empty
not_early s t (Acknowledge c) there empty missing = acknowledge_not_empty s c (slice_get s.clients c) there empty
not_early s t (Join c) there empty missing = missing
not_early s t (Read c) there empty missing = missing
not_early s t ReadServer there empty missing = missing

-- an instruction that is performed after instructions of other machines is performed before them, if what it receives is there
pub lacks_nothing : (s t u : State) (j : Instr) (b : Option Shown) → Grew j s t → step t j ≡ Performed u b → is_there s j ≡ true → (v : State) × (d : Option Shown) × (step s j ≡ Performed v d)
lacks_nothing s t u j b grew e there = elim (earlier s t u j b grew e) [
  | inl now ↦ now
  | inr (empty, missing) ↦ absurd (not_early s t j there empty missing)
]
