-- The clients with edits that the server has not taken are those of whom it takes a message before everything has arrived.
use Rattle.std.proofs.Common.{◌≡◌, ℕ, suc, ◌≢◌, List, [], ◌∷◌, set, refl, sym, ap, ap₂, ◌∙◌, subst, inl, inr, Bool, true, false, Option, Some, None}
use Rattle.std.proofs.lemmas.Bool.{cases_eq, eqb-false, ne_eqb}
use Rattle.std.proofs.lemmas.Option.{same_Some}
use Rattle.std.specs.Prelude.{◌||◌, ◌==◌, slice_get, is_some}
use Rattle.std.specs.Option.{option_map}
use Rattle.ot_isa.specs.declared.instruction.Instr.{Instr}
use Rattle.ot_isa.specs.declared.instruction.Instr.TheVariants.{Edit, Take, Deliver, Acknowledge, Join, Read, ReadServer}
use Rattle.ot_model.specs.Orders.{is_take_by}
use Rattle.ot_model.specs.Sound.{AreInstrs, IsSound}
use Rattle.ot_model.specs.Table.{Phase, NotJoined, Synchronized, AwaitingConfirm, AwaitingWithBuffer, Client, Message, State, Place, Outcome, Performed, Refused, NoRow, acknowledged, delivered, joined, run, step, taken, with_client, with_row, with_shown, IsQuiet}
use Rattle.ot_model.proofs.Algebra.{laws}
use Rattle.ot_model.proofs.Awaiting.{run_first}
use Rattle.ot_model.proofs.Outcomes.{by_take, by_deliver, by_acknowledge, by_join, by_read, by_read_server}
use Rattle.ot_model.proofs.States.{not_joined, slice_get-set_other, slice_get-set_same}
use Rattle.ot_model.proofs.Steps.{run_sound}
use Rattle.ot_machine.specs.Readers.{ClientHas}
use Rattle.ot_verdict.specs.Pending.{has_buffer, has_untaken}
use Rattle.ot_verdict.specs.First.{takes_of, NamedAreTaken}
use Rattle.ot_verdict.specs.Laws.{AreNoEdits, HasArrived, IsNoEdit}
use Rattle.ot_verdict.proofs.Ending.{arrived_quiet, no_edits_are}
use Rattle.ot_verdict.proofs.Idle.{has_buffer_delivered, idle_sends_nothing, or_false, untaken_joined}
use Rattle.ot_verdict.proofs.Keeping.{Kept}

abbrev is_take_of : ℕ → Instr → Bool
is_take_of c i = is_take_by (λ d. d == c) i

-- ---- one instruction that is no edit

-- a client changed, and not whether it has such edits
same_untaken : (c d : ℕ) (b : Bool) (s : State) (x y : Client) → slice_get s.clients d ≡ Some x → has_untaken y ≡ has_untaken x → ClientHas s c has_untaken b → ClientHas (with_client s d y) c has_untaken b
same_untaken c d b s x y at same has = elim (cases_eq d c) [
  | inl e ↦ (
      let here : slice_get s.clients c ≡ Some x = ap (slice_get s.clients) (sym e) ∙ at in
      let now : slice_get (set s.clients d y) c ≡ Some y = ap (slice_get (set s.clients d y)) (sym e) ∙ slice_get-set_same s.clients d x y at in
      ap (option_map has_untaken) now ∙ ap Some same ∙ sym (ap (option_map has_untaken) here) ∙ has)
  | inr other ↦ ap (option_map has_untaken) (slice_get-set_other s.clients d c y (λ e. other (sym e))) ∙ has
]

or_true : (a : Bool) → (a || true) ≡ true
or_true true = refl
or_true false = refl

acknowledged_untaken : (c d : ℕ) (b : Bool) (s : State) (x : Client) → slice_get s.clients d ≡ Some x → ClientHas s c has_untaken b → (phase : Phase) → x.phase ≡ phase → Kept (λ t. ClientHas t c has_untaken b) (with_row s d (acknowledged x phase))
acknowledged_untaken c d b s x at has NotJoined is = tt
acknowledged_untaken c d b s x at has Synchronized is = tt
acknowledged_untaken c d b s x at has (AwaitingConfirm o) is =
    same_untaken c d b s x (record { revision = suc x.revision; phase = Synchronized; list = x.list; count = x.count; message = x.message }) at (sym (ap (λ (p : Phase). is_some x.message || has_buffer p) is)) has
acknowledged_untaken c d b s x at has (AwaitingWithBuffer o w) is =
    same_untaken c d b s x (record { revision = suc x.revision; phase = AwaitingConfirm w; list = x.list; count = x.count; message = Some (record { revision = suc x.revision; op = w }) }) at
    (sym (ap (λ (p : Phase). is_some x.message || has_buffer p) is ∙ or_true (is_some x.message))) has

-- unless it takes the client's own message, whether the client has such edits stays
untaken_kept : (c : ℕ) (b : Bool) (s : State) (i : Instr) → IsNoEdit i → is_take_of c i ≡ false → ClientHas s c has_untaken b → Kept (λ t. ClientHas t c has_untaken b) (step s i)
untaken_kept c b s (Edit d op) plain other has = absurd plain
untaken_kept c b s (Take d) plain other has = by_take (Kept (λ t. ClientHas t c has_untaken b)) (λ r. tt) s d (λ x m at below on sent.
    let apart : c ≢ d = λ e. eqb-false d c other (sym e) in
    ap (option_map has_untaken) (slice_get-set_other s.clients d c _ apart) ∙ has)
untaken_kept c b s (Deliver d) plain other has = by_deliver (Kept (λ t. ClientHas t c has_untaken b)) (λ r. tt) s d (λ x h at below on head foreign.
    same_untaken c d b s x (delivered x h.op) at (ap (λ (w : Bool). is_some x.message || w) (has_buffer_delivered x.phase h.op)) has)
untaken_kept c b s (Acknowledge d) plain other has = by_acknowledge (Kept (λ t. ClientHas t c has_untaken b)) (λ r. tt) s d (λ x h at below on head own. acknowledged_untaken c d b s x at has x.phase refl)
untaken_kept c b s (Join d) plain other has = by_join (Kept (λ t. ClientHas t c has_untaken b)) (λ r. tt) s d (λ x at below off.
    same_untaken c d b s x (joined s x) at (sym (ap (λ (p : Phase). is_some x.message || has_buffer p) (not_joined x.phase off))) has)
untaken_kept c b s (Read d) plain other has = by_read (Kept (λ t. ClientHas t c has_untaken b)) (λ r. tt) s d (λ x at below on. has)
untaken_kept c b s ReadServer plain other has = by_read_server (Kept (λ t. ClientHas t c has_untaken b)) (λ r. tt) s (λ below. has)

always : (b : Bool) → b ≡ false → (o : Outcome) → Kept (λ t. b ≡ false) o
always b e (Performed t shown) = e
always b e (Refused r) = tt
always b e NoRow = tt

-- a client without such edits has no message to be taken
idle_not_taken : (c : ℕ) (s : State) (i : Instr) → ClientHas s c has_untaken false → Kept (λ t. is_take_of c i ≡ false) (step s i)
idle_not_taken c s (Edit d op) has = always false refl (step s (Edit d op))
idle_not_taken c s (Take d) has = by_take (Kept (λ t. (d == c) ≡ false)) (λ r. tt) s d (λ x m at below on sent. elim (cases_eq d c) [
  | inl e ↦ (
      let here : slice_get s.clients c ≡ Some x = ap (slice_get s.clients) (sym e) ∙ at in
      let idle : has_untaken x ≡ false = same_Some (has_untaken x) false (sym (ap (option_map has_untaken) here) ∙ has) in
      absurd (idle_sends_nothing x m idle sent))
  | inr other ↦ ne_eqb d c other
])
idle_not_taken c s (Deliver d) has = always false refl (step s (Deliver d))
idle_not_taken c s (Acknowledge d) has = always false refl (step s (Acknowledge d))
idle_not_taken c s (Join d) has = always false refl (step s (Join d))
idle_not_taken c s (Read d) has = always false refl (step s (Read d))
idle_not_taken c s ReadServer has = always false refl (step s ReadServer)

-- ---- runs without an edit

none_taken : (c : ℕ) (is : List Instr) (p q : Place) → AreNoEdits is → ClientHas p.state c has_untaken false → run is p ≡ Some q → takes_of c is ≡ false
none_taken c [] p q free has e = refl
none_taken c (i ∷ is) p q free has e =
    let f = run_first i is p q e in
    let other : is_take_of c i ≡ false = subst (Kept (λ t. is_take_of c i ≡ false)) f.2 (idle_not_taken c p.state i has) in
    let now : ClientHas f.0 c has_untaken false = subst (Kept (λ t. ClientHas t c has_untaken false)) f.2 (untaken_kept c false p.state i free.0 other has) in
    ap (λ (b : Bool). b || takes_of c is) other ∙ none_taken c is (record { state = f.0; shown = with_shown p.shown f.1 }) q free.1 now f.3

still_untaken : (c : ℕ) (is : List Instr) (p q : Place) → AreNoEdits is → takes_of c is ≡ false → ClientHas p.state c has_untaken true → run is p ≡ Some q → ClientHas q.state c has_untaken true
still_untaken c [] p q free none has e = subst (λ (w : Place). ClientHas w.state c has_untaken true) (same_Some p q e) has
still_untaken c (i ∷ is) p q free none has e =
    let f = run_first i is p q e in
    let both = or_false (is_take_of c i) (takes_of c is) none in
    let now : ClientHas f.0 c has_untaken true = subst (Kept (λ t. ClientHas t c has_untaken true)) f.2 (untaken_kept c true p.state i free.0 both.0 has) in
    still_untaken c is (record { state = f.0; shown = with_shown p.shown f.1 }) q free.1 both.1 now f.3

-- where all is quiet, no client has such edits
quiet_taken : (t : State) (c : ℕ) → IsSound t → IsQuiet t → ClientHas t c has_untaken true → ⊥
quiet_taken t c sound quiet has = go (slice_get t.clients c) refl has
  where
    go : (o : Option Client) → slice_get t.clients c ≡ o → option_map has_untaken o ≡ Some true → ⊥
    go None at e = absurd (cc)
    go (Some y) at e =
        let busy : has_untaken y ≡ true = same_Some (has_untaken y) true e in
        let q = quiet c y at (untaken_joined t c y sound at busy) in
        let idle : has_untaken y ≡ false = ap₂ (λ (m : Option Message) (p : Phase). is_some m || has_buffer p) q.no_message q.synchronized in
        absurd (let clash : true ≡ false = sym busy ∙ idle in cc)

pub named_are_taken : NamedAreTaken
named_are_taken s t is c x sound free (shown, e) arrived at = go (has_untaken x) refl (takes_of c is) refl
  where
    has : (b : Bool) → has_untaken x ≡ b → ClientHas s c has_untaken b
    has b f = ap (option_map has_untaken) at ∙ ap Some f

    here : Place
    here = record { state = s; shown = [] }

    there : Place
    there = record { state = t; shown = shown }

    go : (b : Bool) → has_untaken x ≡ b → (k : Bool) → takes_of c is ≡ k → takes_of c is ≡ has_untaken x
    go false f k g = none_taken c is here there free (has false f) e ∙ sym f
    go true f true g = g ∙ sym f
    go true f false g =
        let fine : IsSound t = run_sound laws is here there sound (no_edits_are is free) e in
        absurd (quiet_taken t c fine (arrived_quiet t fine arrived) (still_untaken c is here there free g (has true f) e))
