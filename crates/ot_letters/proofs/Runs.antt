-- Runs, quiet states and the orders of machines with other letters.
use Rattle.std.proofs.Common.{◌≡◌, ℕ, suc, List, [], ◌∷◌, map, take, drop, Bool, true, false, Option, Some, None, refl, sym, ap, ◌∙◌, subst}
use Rattle.std.proofs.lemmas.List.{map-append, take-map, drop-map}
use Rattle.std.proofs.lemmas.Option.{slice_get-map, same_Some}
use Rattle.std.specs.Prelude.{◌↔◌, option_map, slice_get, cond}
use Rattle.std.specs.List.{filter}
use Rattle.ot_codes.proofs.Mapped.{rises-mapped, rises-mapped_back}
use Rattle.ot_isa.specs.Program.{Program}
use Rattle.ot_isa.specs.declared.instruction.Instr.{Instr}
use Rattle.ot_isa.specs.declared.instruction.Instr.TheVariants.{Edit, Take, Deliver, Acknowledge, Read, Join, ReadServer}
use Rattle.ot_model.specs.declared.shown.Refusal.{Refusal}
use Rattle.ot_model.specs.declared.shown.Shown.{Shown}
use Rattle.ot_model.specs.Table.{Entry, Phase, NotJoined, Synchronized, AwaitingConfirm, AwaitingWithBuffer, is_joined, Client, State, Outcome, Performed, Refused, NoRow, Place, with_shown, step, run, performed, opening, begin, IsQuietClient, IsQuiet}
use Rattle.ot_model.specs.Runs.{done, place_at}
use Rattle.ot_model.specs.Sound.{IsInstr, AreInstrs}
use Rattle.ot_model.specs.Orders.{Machine, ClientMachine, ServerMachine, is_at}
use Rattle.ot_letters.specs.Letters.{mapped_instr, mapped_instrs, mapped_message, mapped_entry, mapped_phase, mapped_client, mapped_state, mapped_shown, mapped_outcome, mapped_place, mapped_program, refusal_in}
use Rattle.ot_letters.proofs.Steps.{step-mapped, opening-mapped, joined-mapped}

-- ---- runs

shown-mapped : (f : ℕ → ℕ) (shown : List Shown) (list : Option Shown) → with_shown (map (mapped_shown f) shown) (option_map (mapped_shown f) list) ≡ map (mapped_shown f) (with_shown shown list)
shown-mapped f shown None = refl
shown-mapped f shown (Some list) = sym (map-append (mapped_shown f) shown (list ∷ []))

-- where the rest of a run leads to, and how much of it is performed, after an outcome
abbrev goes_on : List Instr → List Shown → Outcome → Option Place
goes_on is shown o = elim o [ Performed t list ↦ run is (record { state = t; shown = with_shown shown list }) | Refused r ↦ None | NoRow ↦ None ]

abbrev counts_on : List Instr → Outcome → ℕ
counts_on is o = elim o [ Performed t list ↦ suc (performed is t) | Refused r ↦ 0 | NoRow ↦ 0 ]

pub run-mapped : (f : ℕ → ℕ) (is : List Instr) (p : Place) → run (mapped_instrs f is) (mapped_place f p) ≡ option_map (mapped_place f) (run is p)
run-mapped f [] p = refl
run-mapped f (i ∷ is) p =
    ap (goes_on (mapped_instrs f is) (map (mapped_shown f) p.shown)) (step-mapped f p.state i) ∙ go (λ r. run-mapped f is r) (step p.state i)
  where
    go : ((r : Place) → run (mapped_instrs f is) (mapped_place f r) ≡ option_map (mapped_place f) (run is r)) → (o : Outcome)
        → goes_on (mapped_instrs f is) (map (mapped_shown f) p.shown) (mapped_outcome f o) ≡ option_map (mapped_place f) (goes_on is p.shown o)
    go on (Performed t list) =
        ap (λ (shown : List Shown). run (mapped_instrs f is) (record { state = mapped_state f t; shown = shown })) (shown-mapped f p.shown list)
        ∙ on (record { state = t; shown = with_shown p.shown list })
    go on (Refused r) = refl
    go on NoRow = refl

pub performed-mapped : (f : ℕ → ℕ) (is : List Instr) (s : State) → performed (mapped_instrs f is) (mapped_state f s) ≡ performed is s
performed-mapped f [] s = refl
performed-mapped f (i ∷ is) s = ap (counts_on (mapped_instrs f is)) (step-mapped f s i) ∙ go (λ t. performed-mapped f is t) (step s i)
  where
    go : ((t : State) → performed (mapped_instrs f is) (mapped_state f t) ≡ performed is t) → (o : Outcome)
        → counts_on (mapped_instrs f is) (mapped_outcome f o) ≡ counts_on is o
    go on (Performed t list) = ap suc (on t)
    go on (Refused r) = refl
    go on NoRow = refl

-- the refusal of the rest of a run after an outcome
abbrev refuses_on : List Instr → Outcome → Option Refusal
refuses_on is o = elim o [ Performed t list ↦ refusal_in is t | Refused r ↦ Some r | NoRow ↦ None ]

pub refusal-mapped : (f : ℕ → ℕ) (is : List Instr) (s : State) → refusal_in (mapped_instrs f is) (mapped_state f s) ≡ refusal_in is s
refusal-mapped f [] s = refl
refusal-mapped f (i ∷ is) s = ap (refuses_on (mapped_instrs f is)) (step-mapped f s i) ∙ go (λ t. refusal-mapped f is t) (step s i)
  where
    go : ((t : State) → refusal_in (mapped_instrs f is) (mapped_state f t) ≡ refusal_in is t) → (o : Outcome)
        → refuses_on (mapped_instrs f is) (mapped_outcome f o) ≡ refuses_on is o
    go on (Performed t list) = on t
    go on (Refused r) = refl
    go on NoRow = refl

pub begin-mapped : (f : ℕ → ℕ) (clients present : ℕ) (text : List ℕ) → begin clients present (map f text) ≡ mapped_place f (begin clients present text)
begin-mapped f clients present text = ap (λ (s : State). record { state = s; shown = [] }) (opening-mapped f clients present text)

pub done-mapped : (f : ℕ → ℕ) (s : Program) → done (mapped_program f s) ≡ done s
done-mapped f s =
    ap (performed (mapped_instrs f s.instrs)) (opening-mapped f s.clients s.present s.start) ∙ performed-mapped f s.instrs (opening s.clients s.present s.start)

pub place_at-mapped : (f : ℕ → ℕ) (s : Program) (n : ℕ) → place_at (mapped_program f s) n ≡ option_map (mapped_place f) (place_at s n)
place_at-mapped f s n =
    ap (λ (is : List Instr). run is (begin s.clients s.present (map f s.start))) (take-map (mapped_instr f) n s.instrs)
    ∙ ap (run (mapped_instrs f (take n s.instrs))) (begin-mapped f s.clients s.present s.start)
    ∙ run-mapped f (take n s.instrs) (begin s.clients s.present s.start)

instr-mapped : (f : ℕ → ℕ) (i : Instr) → IsInstr (mapped_instr f i) ↔ IsInstr i
instr-mapped f (Edit c op) = (rises-mapped_back f 0 op.base op.image, rises-mapped f 0 op.base op.image)
instr-mapped f (Take c) = (λ h. h, λ h. h)
instr-mapped f (Deliver c) = (λ h. h, λ h. h)
instr-mapped f (Acknowledge c) = (λ h. h, λ h. h)
instr-mapped f (Read c) = (λ h. h, λ h. h)
instr-mapped f (Join c) = (λ h. h, λ h. h)
instr-mapped f ReadServer = (λ h. h, λ h. h)

pub instrs-mapped : (f : ℕ → ℕ) (is : List Instr) → AreInstrs (mapped_instrs f is) ↔ AreInstrs is
instrs-mapped f [] = (λ h. h, λ h. h)
instrs-mapped f (i ∷ is) = (
  λ h. ((instr-mapped f i).0 h.0, (instrs-mapped f is).0 h.1),
  λ h. ((instr-mapped f i).1 h.0, (instrs-mapped f is).1 h.1),
)

-- ---- quiet states

from_None : {X Y : Type 0} (g : X → Y) (o : Option X) → option_map g o ≡ None → o ≡ None
from_None g None e = refl
from_None g (Some x) e = absurd (cc)

pub from_Some : {X Y : Type 0} (g : X → Y) (o : Option X) (y : Y) → option_map g o ≡ Some y → (x : X) × (o ≡ Some x) × (g x ≡ y)
from_Some g None y e = absurd (cc)
from_Some g (Some x) y e = (x, refl, same_Some (g x) y e)

from_nil : {X Y : Type 0} (g : X → Y) (xs : List X) → map g xs ≡ [] → xs ≡ []
from_nil g [] e = refl
from_nil g (x ∷ xs) e = absurd (cc)

from_synchronized : (f : ℕ → ℕ) (phase : Phase) → mapped_phase f phase ≡ Synchronized → phase ≡ Synchronized
from_synchronized f NotJoined e = absurd (cc)
from_synchronized f Synchronized e = refl
from_synchronized f (AwaitingConfirm o) e = absurd (cc)
from_synchronized f (AwaitingWithBuffer o b) e = absurd (cc)

quiet_client-mapped : (f : ℕ → ℕ) (log : List Entry) (x : Client) → IsQuietClient (map (mapped_entry f) log) (mapped_client f x) ↔ IsQuietClient log x
quiet_client-mapped f log x = (
  λ q. record {
    no_message = from_None (mapped_message f) x.message q.no_message;
    no_downlink = from_nil (mapped_entry f) (drop x.revision log) (sym (drop-map (mapped_entry f) x.revision log) ∙ q.no_downlink);
    synchronized = from_synchronized f x.phase q.synchronized;
  },
  λ q. record {
    no_message = ap (option_map (mapped_message f)) q.no_message;
    no_downlink = drop-map (mapped_entry f) x.revision log ∙ ap (map (mapped_entry f)) q.no_downlink;
    synchronized = ap (mapped_phase f) q.synchronized;
  },
)

pub quiet-mapped : (f : ℕ → ℕ) (s : State) → IsQuiet (mapped_state f s) ↔ IsQuiet s
quiet-mapped f s = (
  λ quiet c x at on.
      (quiet_client-mapped f s.log x).0
      (quiet c (mapped_client f x) (slice_get-map (mapped_client f) s.clients c ∙ ap (option_map (mapped_client f)) at) (joined-mapped f x.phase ∙ on)),
  λ quiet c y at on.
      let found = from_Some (mapped_client f) (slice_get s.clients c) y (sym (slice_get-map (mapped_client f) s.clients c) ∙ at) in
      let joined : is_joined found.0.phase ≡ true = sym (joined-mapped f found.0.phase) ∙ ap (λ (z : Client). is_joined z.phase) found.2 ∙ on in
      subst (IsQuietClient (map (mapped_entry f) s.log)) found.2 ((quiet_client-mapped f s.log found.0).1 (quiet c found.0 found.1 joined)),
)

-- ---- machines

pub is_at-mapped : (f : ℕ → ℕ) (w : Machine) (i : Instr) → is_at w (mapped_instr f i) ≡ is_at w i
is_at-mapped f (ClientMachine c) (Edit d op) = refl
is_at-mapped f (ClientMachine c) (Take d) = refl
is_at-mapped f (ClientMachine c) (Deliver d) = refl
is_at-mapped f (ClientMachine c) (Acknowledge d) = refl
is_at-mapped f (ClientMachine c) (Read d) = refl
is_at-mapped f (ClientMachine c) (Join d) = refl
is_at-mapped f (ClientMachine c) ReadServer = refl
is_at-mapped f ServerMachine (Edit d op) = refl
is_at-mapped f ServerMachine (Take d) = refl
is_at-mapped f ServerMachine (Deliver d) = refl
is_at-mapped f ServerMachine (Acknowledge d) = refl
is_at-mapped f ServerMachine (Read d) = refl
is_at-mapped f ServerMachine (Join d) = refl
is_at-mapped f ServerMachine ReadServer = refl

cond-mapped : (f : ℕ → ℕ) (own : Bool) (i : Instr) (is : List Instr) → cond own (mapped_instr f i ∷ mapped_instrs f is) (mapped_instrs f is) ≡ mapped_instrs f (cond own (i ∷ is) is)
cond-mapped f true i is = refl
cond-mapped f false i is = refl

pub orders-mapped : (f : ℕ → ℕ) (is : List Instr) (w : Machine) → filter (is_at w) (mapped_instrs f is) ≡ mapped_instrs f (filter (is_at w) is)
orders-mapped f [] w = refl
orders-mapped f (i ∷ is) w =
    ap (λ (own : Bool). cond own (mapped_instr f i ∷ filter (is_at w) (mapped_instrs f is)) (filter (is_at w) (mapped_instrs f is))) (is_at-mapped f w i)
    ∙ ap (λ (rest : List Instr). cond (is_at w i) (mapped_instr f i ∷ rest) rest) (orders-mapped f is w)
    ∙ cond-mapped f (is_at w i) i (filter (is_at w) is)
