-- Whose edit `complete` has the server take first.
use Rattle.std.proofs.Common.{◌≡◌, ℕ, zero, suc, ◌+◌, ◌<◌, ◌≤◌, ◌≢◌, List, [], ◌∷◌, length, drop, take, set, refl, sym, ap, ap₂, ◌∙◌, subst, arith, inl, inr, Bool, true, false, Option, Some, None}
use Rattle.std.proofs.Math.Nat.{eq-or-lt_of_le}
use Rattle.std.proofs.lemmas.Option.{get_or_from_slice_get, same_Some, slice_get-get_or, slice_get_within}
use Rattle.std.specs.Prelude.{◌||◌, ◌⊎◌, slice_get, is_some, if◌then◌else◌}
use Rattle.std.specs.Option.{option_map}
use Rattle.ot_isa.specs.declared.instruction.Instr.{Instr}
use Rattle.ot_isa.specs.declared.instruction.Instr.TheVariants.{Take, Deliver, Acknowledge}
use Rattle.ot_model.specs.declared.shown.Shown.{Shown}
use Rattle.ot_model.specs.Sound.{IsOutcomeSound, IsPhaseSound, IsSound}
use Rattle.ot_model.specs.Table.{Phase, NotJoined, Synchronized, AwaitingConfirm, AwaitingWithBuffer, is_joined, absent, Client, Entry, Message, State, Performed, acknowledged, delivered, step, with_client, with_row}
use Rattle.ot_model.proofs.Algebra.{laws}
use Rattle.ot_model.proofs.Outcomes.{by_deliver, by_acknowledge}
use Rattle.ot_model.proofs.States.{sent_joined, slice_get-set_other, slice_get-set_same}
use Rattle.ot_model.proofs.Steps.{step_sound}
use Rattle.ot_machine.specs.Effects.{client_in}
use Rattle.ot_machine.specs.Readers.{ClientHas, head_at}
use Rattle.ot_machine.specs.declared.state.Head.{Head}
use Rattle.ot_machine.specs.declared.state.Head.TheVariants.{Ack, Op}
use Rattle.ot_generate.specs.Completed.{first_of, next_of, or_next, receipt_next, receipt_of, take_next}
use Rattle.ot_generate.proofs.Draining.{quiet_at_last}
use Rattle.ot_generate.proofs.Moving.{has_received}
use Rattle.ot_verdict.specs.Pending.{has_buffer, untaken}
use Rattle.ot_verdict.specs.First.{buffers, first_take, first_taken, first_that, has_message, or_number, CompletionTakes}
use Rattle.ot_verdict.proofs.Idle.{AreIdle, has_buffer_delivered, idle_none}
use Rattle.ot_verdict.proofs.Keeping.{Kept}

-- ---- the first client that passes a test

-- one at this place passes, and none before it
first_at : (test : Client → Bool) (first d : ℕ) (clients : List Client) (y : Client) → slice_get clients d ≡ Some y → test y ≡ true
    → ((j : ℕ) (x : Client) → j < d → slice_get clients j ≡ Some x → test x ≡ false) → first_that test first clients ≡ Some (first + d)
first_at test first d [] y at passes before = absurd (cc)
first_at test first zero (x ∷ clients) y at passes before =
    let same : first ≡ first + 0 = omega arith in
    ap (λ (b : Bool). if b then Some first else first_that test (suc first) clients) (ap test (same_Some x y at) ∙ passes) ∙ ap Some same
first_at test first (suc d) (x ∷ clients) y at passes before =
    let same : suc first + d ≡ first + suc d = omega arith in
    ap (λ (b : Bool). if b then Some first else first_that test (suc first) clients) (before zero x (omega arith) refl)
    ∙ first_at test (suc first) d clients y at passes (λ j z less there. before (suc j) z (omega arith) there)
    ∙ ap Some same

-- none passes
first_none : (test : Client → Bool) (first : ℕ) (clients : List Client) → ((j : ℕ) (x : Client) → slice_get clients j ≡ Some x → test x ≡ false) → first_that test first clients ≡ None
first_none test first [] none = refl
first_none test first (x ∷ clients) none =
    ap (λ (b : Bool). if b then Some first else first_that test (suc first) clients) (none zero x refl) ∙ first_none test (suc first) clients (λ j z there. none (suc j) z there)

none_passes : (test : Client → Bool) (first : ℕ) (clients : List Client) → first_that test first clients ≡ None → (j : ℕ) (x : Client) → slice_get clients j ≡ Some x → test x ≡ false
none_passes test first [] e j x at = absurd (cc)
none_passes test first (y ∷ clients) e j x at = go (λ rest k there. none_passes test (suc first) clients rest k x there) (test y) refl e j at
  where
    go : (first_that test (suc first) clients ≡ None → (k : ℕ) → slice_get clients k ≡ Some x → test x ≡ false) → (b : Bool) → test y ≡ b → (if b then Some first else first_that test (suc first) clients) ≡ None
        → (k : ℕ) → slice_get (y ∷ clients) k ≡ Some x → test x ≡ false
    go on true is f k there = absurd (cc)
    go on false is f zero there = ap test (sym (same_Some y x there)) ∙ is
    go on false is f (suc k) there = on f k there

-- a client is changed, and the test is not
first_set : (test : Client → Bool) (first d : ℕ) (clients : List Client) (x y : Client) → slice_get clients d ≡ Some x → test y ≡ test x → first_that test first (set clients d y) ≡ first_that test first clients
first_set test first d [] x y at same = refl
first_set test first zero (z ∷ clients) x y at same = ap (λ (b : Bool). if b then Some first else first_that test (suc first) clients) (same ∙ ap test (sym (same_Some z x at)))
first_set test first (suc d) (z ∷ clients) x y at same = ap (λ (o : Option ℕ). if test z then Some first else o) (first_set test (suc first) d clients x y at same)

-- ---- the take that comes next

take_is : (c : ℕ) (x : Client) → (has_message x ≡ true → is_joined x.phase ≡ true) → take_next c x ≡ (if has_message x then Some (Take c) else None)
take_is c x sends = go (is_joined x.phase) refl x.message refl
  where
    go : (b : Bool) → is_joined x.phase ≡ b → (o : Option Message) → x.message ≡ o → take_next c x ≡ (if has_message x then Some (Take c) else None)
    go true on None is = rw (on, is) refl
    go true on (Some m) is = rw (on, is) refl
    go false off None is = rw (off, is) refl
    go false off (Some m) is = absurd (let clash : false ≡ true = sym off ∙ sends (ap is_some is) in cc)

takes_first : (first : ℕ) (clients : List Client) → ((j : ℕ) (x : Client) → slice_get clients j ≡ Some x → has_message x ≡ true → is_joined x.phase ≡ true)
    → first_of take_next first clients ≡ option_map Take (first_that has_message first clients)
takes_first first [] sends = refl
takes_first first (x ∷ clients) sends =
    ap (λ (o : Option Instr). or_next o (first_of take_next (suc first) clients)) (take_is first x (sends zero x refl))
    ∙ go (has_message x) (takes_first (suc first) clients (λ j z there. sends (suc j) z there))
  where
    go : (b : Bool) → first_of take_next (suc first) clients ≡ option_map Take (first_that has_message (suc first) clients)
        → or_next (if b then Some (Take first) else None) (first_of take_next (suc first) clients) ≡ option_map Take (if b then Some first else first_that has_message (suc first) clients)
    go true rest = refl
    go false rest = rest

senders_joined : (s : State) → IsSound s → (j : ℕ) (x : Client) → slice_get s.clients j ≡ Some x → has_message x ≡ true → is_joined x.phase ≡ true
senders_joined s (start, text, sound) j x at sends = go x.message refl
  where
    go : (o : Option Message) → x.message ≡ o → is_joined x.phase ≡ true
    go None is = absurd (let clash : false ≡ true = sym (ap is_some is) ∙ sends in cc)
    go (Some m) is = sent_joined start text s j x m sound at is

-- ---- the receipt that comes next

record IsFound (next : ℕ → Client → Option Instr) (first : ℕ) (clients : List Client) (i : Instr) : Type 0 where
  index : ℕ
  client : Client
  at : slice_get clients index ≡ Some client
  is : next (first + index) client ≡ Some i
  before : (j : ℕ) (x : Client) → j < index → slice_get clients j ≡ Some x → next (first + j) x ≡ None

moved : (next : ℕ → Client → Option Instr) (a b : ℕ) (x : Client) (o : Option Instr) → a ≡ b → next a x ≡ o → next b x ≡ o
moved next a b x o same e = ap (λ (k : ℕ). next k x) (sym same) ∙ e

found : (next : ℕ → Client → Option Instr) (first : ℕ) (clients : List Client) (i : Instr) → first_of next first clients ≡ Some i → IsFound next first clients i
found next first [] i e = absurd (cc)
found next first (x ∷ clients) i e = go (found next (suc first) clients i) (next first x) refl e
  where
    go : (first_of next (suc first) clients ≡ Some i → IsFound next (suc first) clients i) → (o : Option Instr) → next first x ≡ o → or_next o (first_of next (suc first) clients) ≡ Some i → IsFound next first (x ∷ clients) i
    go further (Some j) is f =
        let same : first ≡ first + 0 = omega arith in
        record { index = zero; client = x; at = refl; is = moved next first (first + 0) x (Some i) same (is ∙ f); before = λ k z less there. absurd (omega arith) }
    go further None is f =
        let rest = further f in
        let same : suc first + rest.index ≡ first + suc rest.index = omega arith in
        record { index = suc rest.index; client = rest.client; at = rest.at; is = moved next (suc first + rest.index) (first + suc rest.index) rest.client (Some i) same rest.is; before = earlier rest }
      where
        earlier : (rest : IsFound next (suc first) clients i) → (k : ℕ) (z : Client) → k < suc rest.index → slice_get (x ∷ clients) k ≡ Some z → next (first + k) z ≡ None
        earlier rest zero z less there =
            let same : first ≡ first + 0 = omega arith in
            moved next first (first + 0) z None same (ap (next first) (sym (same_Some x z there)) ∙ is)
        earlier rest (suc k) z less there =
            let same : suc first + k ≡ first + suc k = omega arith in
            moved next (suc first + k) (first + suc k) z None same (rest.before k z (omega arith) there)

-- a client with a buffer, and no message on its way, has its acknowledgement still to receive
no_buffer : (s : State) (c : ℕ) (x : Client) → IsSound s → slice_get s.clients c ≡ Some x → has_message x ≡ false → (is_joined x.phase ≡ true → drop x.revision s.log ≡ []) → buffers x ≡ false
no_buffer s c x (start, text, sound) at silent received = go x.phase refl
  where
    none : (o : Option Message) → is_some o ≡ false → o ≡ None
    none None e = refl
    none (Some m) e = absurd (cc)

    go : (phase : Phase) → x.phase ≡ phase → has_buffer x.phase ≡ false
    go NotJoined is = ap has_buffer is
    go Synchronized is = ap has_buffer is
    go (AwaitingConfirm o) is = ap has_buffer is
    go (AwaitingWithBuffer o b) is =
        let seen = take x.revision s.log in
        let whole : IsPhaseSound c x.phase start seen (drop x.revision s.log) x.list x.message = sound.clients c x at in
        let now : IsPhaseSound c (AwaitingWithBuffer o b) start seen (drop x.revision s.log) x.list x.message = subst (λ (p : Phase). IsPhaseSound c p start seen (drop x.revision s.log) x.list x.message) is whole in
        let sent : IsPhaseSound c (AwaitingWithBuffer o b) start seen (drop x.revision s.log) x.list None = subst (λ (m : Option Message). IsPhaseSound c (AwaitingWithBuffer o b) start seen (drop x.revision s.log) x.list m) (none x.message silent) now in
        let still : IsPhaseSound c (AwaitingWithBuffer o b) start seen [] x.list None = subst (λ (ahead : List Entry). IsPhaseSound c (AwaitingWithBuffer o b) start seen ahead x.list None) (received (ap is_joined is)) sent in
        absurd still.sent

-- ---- a receipt while no message is on its way

module _ (s : State) (sound : IsSound s) (silent : (j : ℕ) (x : Client) → slice_get s.clients j ≡ Some x → has_message x ≡ false) where
  no_first : first_that has_message 0 s.clients ≡ None
  no_first = first_none has_message 0 s.clients silent

  -- a client that sends nothing and keeps its buffer or its having none
  same_first : (d : ℕ) (x y : Client) → slice_get s.clients d ≡ Some x → has_message y ≡ has_message x → buffers y ≡ buffers x → first_taken (with_client s d y) ≡ first_taken s
  same_first d x y at message buffer =
      ap₂ or_number (first_set has_message 0 d s.clients x y at message) (first_set buffers 0 d s.clients x y at buffer)

  delivered_first : (d : ℕ) → Kept (λ t. first_taken t ≡ first_taken s) (step s (Deliver d))
  delivered_first d = by_deliver (Kept (λ t. first_taken t ≡ first_taken s)) (λ r. tt) s d (λ x h at below on head other. same_first d x (delivered x h.op) at refl (has_buffer_delivered x.phase h.op))

  -- the buffer is sent
  sends_first : (d : ℕ) (x y : Client) → slice_get s.clients d ≡ Some x → buffers x ≡ true → has_message y ≡ true → ((j : ℕ) (z : Client) → j < d → slice_get s.clients j ≡ Some z → buffers z ≡ false)
      → first_taken (with_client s d y) ≡ first_taken s
  sends_first d x y at full sends before =
      let new : first_that has_message 0 (set s.clients d y) ≡ Some (0 + d) =
      first_at has_message 0 d (set s.clients d y) y (slice_get-set_same s.clients d x y at) sends
      (λ j z less there. (
      let apart : j ≢ d = λ same. absurd (omega arith) in
      silent j z (sym (slice_get-set_other s.clients d j y apart) ∙ there)
      )) in
      let old : first_that buffers 0 s.clients ≡ Some (0 + d) = first_at buffers 0 d s.clients x at full before in
      ap (λ (o : Option ℕ). or_number o (first_that buffers 0 (set s.clients d y))) new ∙ sym (ap₂ or_number no_first old)

  acknowledged_first : (d : ℕ) → ((j : ℕ) (z : Client) → j < d → slice_get s.clients j ≡ Some z → buffers z ≡ false) → Kept (λ t. first_taken t ≡ first_taken s) (step s (Acknowledge d))
  acknowledged_first d before = by_acknowledge (Kept (λ t. first_taken t ≡ first_taken s)) (λ r. tt) s d (λ x h at below on head own. go x at x.phase refl)
    where
      go : (x : Client) → slice_get s.clients d ≡ Some x → (phase : Phase) → x.phase ≡ phase → Kept (λ t. first_taken t ≡ first_taken s) (with_row s d (acknowledged x phase))
      go x at NotJoined is = tt
      go x at Synchronized is = tt
      go x at (AwaitingConfirm o) is = same_first d x (record { revision = suc x.revision; phase = Synchronized; list = x.list; count = x.count; message = x.message }) at refl (sym (ap has_buffer is))
      go x at (AwaitingWithBuffer o b) is =
          sends_first d x (record { revision = suc x.revision; phase = AwaitingConfirm b; list = x.list; count = x.count; message = Some (record { revision = suc x.revision; op = b }) }) at (ap has_buffer is) refl before

-- ---- what `complete` appends

kept_at : (P : State → Type 0) (s t : State) (i : Instr) (shown : Option Shown) → step s i ≡ Performed t shown → Kept P (step s i) → P t
kept_at P s t i shown row kept = subst (Kept P) row kept

sound_at : (s t : State) (i : Instr) (shown : Option Shown) → step s i ≡ Performed t shown → IsOutcomeSound (step s i) → IsSound t
sound_at s t i shown row kept = subst IsOutcomeSound row kept

no_head : (c : ℕ) (o : Option Head) → option_map (receipt_of c) o ≡ None → o ≡ None
no_head c None e = refl
no_head c (Some h) e = absurd (cc)

no_take : (o : Option ℕ) → option_map Take o ≡ None → o ≡ None
no_take None e = refl
no_take (Some c) e = absurd (cc)

first_rest : (a b : Option Instr) → a ≡ None → or_next a b ≡ b
first_rest a b e = rw e refl

-- the clients before the first to whom something is on its way have no buffers
bare_before : (s : State) → IsSound s → ((j : ℕ) (x : Client) → slice_get s.clients j ≡ Some x → has_message x ≡ false) → (j : ℕ) (z : Client) → slice_get s.clients j ≡ Some z → receipt_next s j z ≡ None → buffers z ≡ false
bare_before s sound silent j z at none =
    let head : ClientHas s j (head_at s j 0) None = ap (option_map (head_at s j 0)) at ∙ ap Some (no_head j (head_at s j 0 z) none) in
    no_buffer s j z sound at (silent j z at) (λ on. has_received s j head z at on)

from_zero : (next : ℕ → Client → Option Instr) (k : ℕ) (x : Client) (o : Option Instr) → next (0 + k) x ≡ o → next k x ≡ o
from_zero next k x o e = let same : 0 + k ≡ k = omega arith in moved next (0 + k) k x o same e

-- what the receipt that comes next is, and what it leaves
receipt_leaves : (s mid : State) (i : Instr) (shown : Option Shown) (is : List Instr) → IsSound s → first_that has_message 0 s.clients ≡ None → next_of s ≡ Some i → step s i ≡ Performed mid shown
    → (first_take (i ∷ is) ≡ first_take is) × (first_taken mid ≡ first_taken s) × IsSound mid
receipt_leaves s mid i shown is sound none next row = go (head_at s f.index 0 f.client) receipt
  where
    silent : (j : ℕ) (x : Client) → slice_get s.clients j ≡ Some x → has_message x ≡ false
    silent = none_passes has_message 0 s.clients none

    no_takes : first_of take_next 0 s.clients ≡ None
    no_takes = takes_first 0 s.clients (senders_joined s sound) ∙ ap (option_map Take) none

    f : IsFound (receipt_next s) 0 s.clients i
    f = found (receipt_next s) 0 s.clients i (sym (first_rest (first_of take_next 0 s.clients) (first_of (receipt_next s) 0 s.clients) no_takes) ∙ next)

    receipt : receipt_next s f.index f.client ≡ Some i
    receipt = from_zero (receipt_next s) f.index f.client (Some i) f.is

    before : (j : ℕ) (z : Client) → j < f.index → slice_get s.clients j ≡ Some z → buffers z ≡ false
    before j z less there = bare_before s sound silent j z there (from_zero (receipt_next s) j z None (f.before j z less there))

    at_receipt : (k : Instr) → k ≡ i → (first_take (k ∷ is) ≡ first_take is) → Kept (λ t. first_taken t ≡ first_taken s) (step s k) → IsOutcomeSound (step s k) → (first_take (i ∷ is) ≡ first_take is) × (first_taken mid ≡ first_taken s) × IsSound mid
    at_receipt k same skips kept fine =
        let row_k : step s k ≡ Performed mid shown = ap (step s) same ∙ row in
        (subst (λ (j : Instr). first_take (j ∷ is) ≡ first_take is) same skips, kept_at (λ t. first_taken t ≡ first_taken s) s mid k shown row_k kept, sound_at s mid k shown row_k fine)

    go : (o : Option Head) → option_map (receipt_of f.index) o ≡ Some i → (first_take (i ∷ is) ≡ first_take is) × (first_taken mid ≡ first_taken s) × IsSound mid
    go None e = absurd (cc)
    go (Some Ack) e = at_receipt (Acknowledge f.index) (same_Some (Acknowledge f.index) i e) refl (acknowledged_first s sound silent f.index before) (step_sound laws s (Acknowledge f.index) sound tt)
    go (Some (Op n)) e = at_receipt (Deliver f.index) (same_Some (Deliver f.index) i e) refl (delivered_first s sound silent f.index) (step_sound laws s (Deliver f.index) sound tt)

-- where nothing comes next, nobody's is taken
nobody : (s : State) → IsSound s → next_of s ≡ None → first_taken s ≡ None
nobody s sound none = ap₂ or_number (first_none has_message 0 s.clients no_messages) (first_none buffers 0 s.clients no_buffers)
  where
    quiet : (c : ℕ) (x : Client) → slice_get s.clients c ≡ Some x → is_joined x.phase ≡ true → (x.message ≡ None) × (x.phase ≡ Synchronized)
    quiet c x at on = let q = quiet_at_last s sound none c x at on in (q.no_message, q.synchronized)

    no_messages : (j : ℕ) (x : Client) → slice_get s.clients j ≡ Some x → has_message x ≡ false
    no_messages j x at = go (has_message x) refl
      where
        go : (b : Bool) → has_message x ≡ b → has_message x ≡ false
        go false e = e
        go true e = ap is_some (quiet j x at (senders_joined s sound j x at e)).0

    no_buffers : (j : ℕ) (x : Client) → slice_get s.clients j ≡ Some x → buffers x ≡ false
    no_buffers j x at = go x.phase refl
      where
        go : (p : Phase) → x.phase ≡ p → has_buffer x.phase ≡ false
        go NotJoined is = ap has_buffer is
        go Synchronized is = ap has_buffer is
        go (AwaitingConfirm o) is = ap has_buffer is
        go (AwaitingWithBuffer o b) is = ap has_buffer (quiet j x at (ap is_joined is)).1

pub completion_takes : CompletionTakes
completion_takes s t [] sound same none = sym (nobody s sound (subst (λ (u : State). next_of u ≡ None) (sym same) none))
completion_takes s t (i ∷ is) sound (next, mid, shown, row, rest) none = go (λ fine. completion_takes mid t is fine rest none) (first_that has_message 0 s.clients) refl
  where
    go : (IsSound mid → first_take is ≡ first_taken mid) → (o : Option ℕ) → first_that has_message 0 s.clients ≡ o → first_take (i ∷ is) ≡ first_taken s
    go further None no_one =
        let left = receipt_leaves s mid i shown is sound no_one next row in
        left.0 ∙ further left.2 ∙ left.1
    go further (Some c) some =
        let takes : first_of take_next 0 s.clients ≡ Some (Take c) = takes_first 0 s.clients (senders_joined s sound) ∙ ap (option_map Take) some in
        let is_take : Some (Take c) ≡ Some i = sym (ap (λ (o : Option Instr). or_next o (first_of (receipt_next s) 0 s.clients)) takes) ∙ next in
        ap (λ (j : Instr). first_take (j ∷ is)) (sym (same_Some (Take c) i is_take)) ∙ ap (λ (o : Option ℕ). or_number o (first_that buffers 0 s.clients)) (sym some)

-- ---- where a client has edits that the server has not taken, one's is taken first
both_none : (a b : Option ℕ) → or_number a b ≡ None → (a ≡ None) × (b ≡ None)
both_none None b e = (refl, e)
both_none (Some c) b e = absurd (cc)

pub someone : (s : State) → 1 ≤ length (untaken s) → first_taken s ≡ None → ⊥
someone s some none =
    let both = both_none (first_that has_message 0 s.clients) (first_that buffers 0 s.clients) none in
    let idle : AreIdle s.clients = λ d x at. ap₂ (λ (a b : Bool). a || b) (none_passes has_message 0 s.clients both.0 d x at) (none_passes buffers 0 s.clients both.1 d x at) in
    let nobody_has = ap length (idle_none 0 s.clients idle) in
    absurd (omega (arith, some, nobody_has))

-- a search from client to client
pub found_at : (test : Client → Bool) (s : State) (k : ℕ) (b : Bool) → ((j : ℕ) (x : Client) → j < k → slice_get s.clients j ≡ Some x → test x ≡ false) → k < length s.clients → b ≡ test (client_in s k) → b ≡ true
    → Some k ≡ first_that test 0 s.clients
found_at test s k b before inside is on =
    let same : 0 + k ≡ k = omega arith in
    sym (first_at test 0 k s.clients (client_in s k) (slice_get-get_or s.clients k absent inside) (sym is ∙ on) before ∙ ap Some same)

pub not_found : (test : Client → Bool) (s : State) (n : ℕ) → length s.clients ≤ n → ((j : ℕ) (x : Client) → j < n → slice_get s.clients j ≡ Some x → test x ≡ false) → None ≡ first_that test 0 s.clients
not_found test s n all before = sym (first_none test 0 s.clients (λ j x at. let inside = slice_get_within s.clients j x at in before j x (omega arith) at))

pub one_more : (test : Client → Bool) (s : State) (k : ℕ) (b : Bool) → ((j : ℕ) (x : Client) → j < k → slice_get s.clients j ≡ Some x → test x ≡ false) → b ≡ test (client_in s k) → b ≡ false
    → (j : ℕ) (x : Client) → j < k + 1 → slice_get s.clients j ≡ Some x → test x ≡ false
one_more test s k b before is off j x less at = let le : j ≤ k = omega arith in go (eq-or-lt_of_le le)
  where
    go : (j ≡ k) ⊎ (j < k) → test x ≡ false
    go (inr below) = before j x below at
    go (inl same) =
        let here : client_in s k ≡ x = get_or_from_slice_get s.clients k x absent (ap (slice_get s.clients) (sym same) ∙ at) in
        ap test (sym here) ∙ sym is ∙ off
