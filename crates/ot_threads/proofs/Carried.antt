-- A plan's users may share a board that has just been opened.
use Rattle.std.proofs.Common.{◌≡◌, ℕ, zero, suc, ◌+◌, ◌<◌, ◌≤◌, List, length, replicate, refl, subst, arith, Bool, false}
use Rattle.std.specs.Prelude.{Some, slice_get}
use Rattle.std.specs.List.{All}
use Rattle.std.proofs.lemmas.Option.{get_or_from_slice_get, slice_get_within}
use Rattle.ot_model.specs.Table.{Client}
use Rattle.ot_model.proofs.Steps.{each_opening}
use Rattle.ot_plan.specs.Typing.{Action}
use Rattle.ot_plan.specs.Plan.{PlanView, IsPlan, AreActions}
use Rattle.ot_board.specs.Boards.{BoardView, fresh}
use Rattle.ot_workers.specs.Sharing.{MayShare, MayType}

all_at : {X : Type 0} (P : X → Type 0) (xs : List X) (c : ℕ) (x : X) → All P xs → slice_get xs c ≡ Some x → P x
all_at P xs c x all at = subst P (get_or_from_slice_get xs c x x at) (all c x (slice_get_within xs c x at))

home : (n c : ℕ) → c < n → slice_get (replicate n false) c ≡ Some false
home zero c below = absurd (omega (arith, below))
home (suc n) zero below = refl
home (suc n) (suc c) below = home n c (omega (arith, below))

may_type : (p : PlanView) → IsPlan p → (c : ℕ) (actions : List Action) → slice_get p.typing c ≡ Some actions → MayType (fresh p.clients p.present p.start) c actions
may_type p is c actions at =
    let fit : AreActions actions = all_at AreActions p.typing c actions is.typing_fits at in
    let inside = slice_get_within p.typing c actions at in
    let each = is.one_each in
    record {
      home = home p.clients c (omega (arith, inside, each));
      few = fit.few;
      short = λ x here.
          let none : x.count ≡ 0 = each_opening (λ d (y : Client). y.count ≡ 0) p.clients p.present p.start (λ d. refl) (λ d. refl) c x here in
          let short = fit.short in
          omega (arith, none, short);
    }

may_share : (p : PlanView) → IsPlan p → MayShare (fresh p.clients p.present p.start) p.typing
may_share p is = record { one_each = is.one_each; each = may_type p is }

-- the same of what the code has read of the plan
pub shared_from : (p : PlanView) (b : BoardView) (typing : List (List Action)) (n m : ℕ) (text : List ℕ) → IsPlan p → n ≡ p.clients → m ≡ p.present → text ≡ p.start
    → b ≡ fresh n m text → typing ≡ p.typing → MayShare b typing
shared_from p b typing n m text is clients present start opened typed = rw (opened, clients, present, start, typed) (may_share p is)
