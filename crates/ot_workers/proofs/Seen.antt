-- The clients as they are seen.
use Rattle.std.proofs.Common.{◌≡◌, ℕ, zero, suc, ◌<◌, List, [], ◌∷◌, length, set, refl, sym, ap, ◌∙◌, subst, arith, get_or, inl, inr, ◌⊎◌, Option, Some, None, Result, Ok, Err, Bool, false, Bor}
use Rattle.std.specs.Prelude.{slice_get, slice_index_or, is_some, IfErr, IsErrAnd, OnErr, Vec}
use Rattle.std.specs.Option.{option_copied}
use Rattle.std.specs.declared.alloc.Global.{Global}
use Rattle.std.proofs.lemmas.Bool.{cases_lt}
use Rattle.std.proofs.lemmas.Option.{same_Some, slice_get-get_or}
use Rattle.ot_model.proofs.States.{slice_get-set_other}
use Rattle.ot_plan.specs.declared.typing.Typing.{Typing}
use Rattle.ot_board.specs.declared.receipt.Receipt.{Receipt}
use Rattle.ot_board.specs.Boards.{BoardView}
use Rattle.ot_workers.specs.Choosing.{choice, nobody, way}
use Rattle.ot_workers.specs.declared.choosing.Seat.{Seat}
use Rattle.ot_workers.specs.declared.choosing.Way.{Way}
use Rattle.ot_workers.specs.declared.choosing.Way.TheVariants.{Join}
use Rattle.ot_workers.specs.declared.fault.WorkFault.{WorkFault}
use Rattle.ot_workers.specs.declared.shared.Inside.{Inside}
use Rattle.ot_workers.specs.Receipts.{HasReceipts}
use Rattle.ot_workers.specs.Turns.{AreSeen, AreTaken, AreUplinksEmpty, HasJoined, HasJoinedAlone, IsLookedAt, IsSeen, next_action}
use Rattle.ot_workers.proofs.Receipted.{same_clients}
use Rattle.ot_workers.proofs.Round.{chosen_at}

-- what was written
got : (xs : List Seat) (n : ℕ) (x y : Seat) → slice_get (set xs n x) n ≡ Some y → x ≡ y
got [] n x y at = absurd (cc)
got (z ∷ xs) zero x y at = same_Some x y at
got (z ∷ xs) (suc n) x y at = got xs n x y at

-- the first so many clients are seen
pub record AreFirstSeen (b : BoardView) (typing : List (Vec Typing Global)) (typed : List ℕ) (count : ℕ) (seats : List Seat) : Type 0 where
  pub each : (c : ℕ) (s : Seat) → c < count → slice_get seats c ≡ Some s → IsSeen b (is_some (next_action typing typed c)) c s

pub seen_more : (b : BoardView) (typing : List (Vec Typing Global)) (typed : List ℕ) (count next : ℕ) (seats after : List Seat) (seat : Seat) → next ≡ suc count → after ≡ set seats count seat
    → IsSeen b (is_some (next_action typing typed count)) count seat → AreFirstSeen b typing typed count seats → AreFirstSeen b typing typed next after
seen_more b typing typed count next seats after seat is written seen before =
    record {
      each = λ c s below at.
          let there : slice_get (set seats count seat) c ≡ Some s = ap (λ (l : List Seat). slice_get l c) (sym written) ∙ at in
          elim (cases_lt c count) [
            | inl less ↦ before.each c s less (sym (slice_get-set_other seats count c seat (λ e. absurd (omega (arith, less, e)))) ∙ there)
            | inr last ↦
                let same : count ≡ c = omega arith in
                subst (λ k. IsSeen b (is_some (next_action typing typed k)) k s) same
                (subst (IsSeen b (is_some (next_action typing typed count)) count) (got seats count seat s (ap (slice_get (set seats count seat)) same ∙ there)) seen)
          ];
    }

-- whether there is an action that is seen
pub some_shown : (o : Option (Bor Typing)) (p : Option Typing) (b : Bool) → b ≡ is_some o → option_copied o ≡ p → b ≡ is_some p
some_shown None p b e same = e ∙ ap (λ (x : Option Typing). is_some x) same
some_shown (Some t) p b e same = e ∙ ap (λ (x : Option Typing). is_some x) same

-- what is known when the clients have been looked at
pub looked_at : (typing : List (Vec Typing Global)) (i : Inside) (b : BoardView) (before after : List Receipt) (typed : List ℕ) (seats given : List Seat) → i.stopped ≡ false → AreTaken i.board b → AreUplinksEmpty b.state
    → HasReceipts i.board before b after → typed ≡ i.typed.items → seats ≡ given → length given ≡ length i.seats.items → AreSeen b typing typed given → IsLookedAt typing i seats b
looked_at typing i b before after typed seats given going takes taken receipts same shown long seen =
    let kept : i.board.recorded.clients ≡ b.recorded.clients = sym (same_clients i.board b before after receipts) in
    record {
      going = going;
      takes = takes;
      taken = taken;
      counts = i.counts ∙ kept;
      places = ap (λ (l : List Seat). length l) shown ∙ long ∙ i.places ∙ kept;
      seen = subst (λ (l : List Seat). AreSeen b typing i.typed.items l) (sym shown) (subst (λ (l : List ℕ). AreSeen b typing l given) same seen);
    }

-- the seat of the client that is chosen
pub chosen_seat : (typing : List (Vec Typing Global)) (i : Inside) (b : BoardView) (seats : List Seat) (w k c n : ℕ) (y : Way) → length b.state.clients ≡ b.recorded.clients → IsLookedAt typing i seats b
    → choice seats w k ≡ Some (c, y) → n ≡ c → (u : Bool) × (s : Seat) × IsSeen b u n s × (way s ≡ Some y)
chosen_seat typing i b seats w k c n y size looked chosen same =
    let facts = chosen_at seats w k c y chosen in
    let within : c < length b.state.clients = omega (arith, facts.0, size, looked.places) in
    let seat = slice_index_or seats c nobody in
    let at : slice_get seats c ≡ Some seat = slice_get-get_or seats c seat facts.0 ∙ ap (λ (s : Seat). Some s) (get_or_same seats c seat nobody facts.0) in
    let u = is_some (next_action typing i.typed.items c) in
    (u, seat, subst (λ (m : ℕ). IsSeen b u m seat) (sym same) (looked.seen c seat within at), facts.1)
  where
    get_or_same : (xs : List Seat) (m : ℕ) (x y : Seat) → m < length xs → get_or xs m x ≡ get_or xs m y
    get_or_same [] m x y below = absurd (omega (arith, below))
    get_or_same (z ∷ zs) zero x y below = refl
    get_or_same (z ∷ zs) (suc m) x y below = get_or_same zs m x y (omega (arith, below))

-- what a session that could not be had leaves
pub cut_off : (typing : List (Vec Typing Global)) (i : Inside) (b a : BoardView) (seats : List Seat) (w k c n : ℕ) (y : Way) → IsLookedAt typing i seats b → choice seats w k ≡ Some (c, y) → n ≡ c
    → (a ≡ b) ⊎ ((y ≡ Join) × HasJoined b n a) → AreTaken i.board a ⊎ HasJoinedAlone typing w k i seats a
cut_off typing i b a seats w k c n y looked chosen same (inl kept) = inl (subst (AreTaken i.board) (sym kept) looked.takes)
cut_off typing i b a seats w k c n y looked chosen same (inr joined) =
    inr (record {
      board = b;
      looked = looked;
      client = c;
      chosen = chosen ∙ ap (λ (z : Way). Some (c, z)) joined.0;
      joined = subst (λ (m : ℕ). HasJoined b m a) same joined.1;
    })

-- the error of a call that is passed on
pub by_residual : {X : Type 0} (r : Result X WorkFault) (P Q : WorkFault → Type 0) → IsErrAnd r P → ((f : WorkFault) → P f → Q f) → IfErr r Q
by_residual (Ok x) P Q is on = tt
by_residual (Err f) P Q is on = on f is

pub on_err : {X : Type 0} (r : Result X WorkFault) (P : Type 0) → P → OnErr r P
on_err (Ok x) P is = tt
on_err (Err f) P is = is
