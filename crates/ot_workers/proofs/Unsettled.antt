-- Sessions that are not settled, and what a turn's end leaves.
use Rattle.std.proofs.Common.{◌≡◌, ◌≢◌, refl, inl, inr, Option, Some}
use Rattle.ot_model.specs.Session.{Session}
use Rattle.ot_board.specs.declared.receipt.Replayed.{Replayed}
use Rattle.ot_board.specs.declared.refusal.SettleRefusal.{SettleRefusal}
use Rattle.ot_board.specs.declared.refusal.SettleRefusal.TheVariants as settle
use Rattle.ot_board.specs.Boards.{BoardView, IsHere, IsReplayed, IsReplayRefusal}
use Rattle.ot_workers.specs.Faults.{settle_fault}
use Rattle.ot_workers.specs.Turns.{IsUnsettled}
use Rattle.ot_workers.specs.declared.fault.WorkFault.{WorkFault}

at_home : (x : Session) (b : BoardView) (refusal : SettleRefusal) → IsReplayRefusal b x refusal → IsHere b x → refusal ≡ settle.Memory
at_home x b settle.Stranger is here = absurd (is (here.0, here.1))
at_home x b settle.Memory is here = refl

pub refused_at_once : (x : Session) (b a : BoardView) (refusal : SettleRefusal) (fault : WorkFault) → fault ≡ settle_fault refusal → IsReplayRefusal b x refusal → a ≡ b → IsUnsettled x b a fault
refused_at_once x b a refusal fault from is same = record { refusal = refusal; fault_is = from; here = at_home x b refusal is; left = inl (is, same) }

only_memory : (refusal : SettleRefusal) (o : Option SettleRefusal) → o ≡ Some refusal → o ≢ Some settle.Stranger → refusal ≡ settle.Memory
only_memory settle.Stranger o is other = absurd (other is)
only_memory settle.Memory o is other = refl

pub settled_in_part : (x : Session) (b a : BoardView) (r : Replayed) (refusal : SettleRefusal) (fault : WorkFault) → fault ≡ settle_fault refusal → IsReplayed b x a r → r.stopped ≡ Some refusal
    → (IsHere b x → r.stopped ≢ Some settle.Stranger) → IsUnsettled x b a fault
settled_in_part x b a r refusal fault from made stopped home =
    record { refusal = refusal; fault_is = from; here = λ here. only_memory refusal r.stopped stopped (home here); left = inr (r, made, stopped) }
