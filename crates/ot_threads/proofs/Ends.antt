-- The workers' ends, one after the other.
use Rattle.std.proofs.Common.{◌≡◌, ℕ, ◌+◌, ◌<◌, ◌≤◌, List, length, take, refl, ap, sym, ◌∙◌, subst, arith}
use Rattle.std.specs.Prelude.{Option, Some, None, slice_get, slice_index_or}
use Rattle.std.specs.List.{All}
use Rattle.std.proofs.lemmas.List.{take_all}
use Rattle.std.proofs.lemmas.List.Elements.{All-more}
use Rattle.std.proofs.lemmas.Option.{slice_get_read}
use Rattle.ot_workers.specs.declared.fault.WorkFault.{WorkFault}
use Rattle.ot_workers.specs.declared.working.WorkerEnd.{WorkerEnd}
use Rattle.ot_threads.specs.Concluded.{IsFaultless, IsFirstFault}

-- the end that was read has a fault, and none before it has
pub first : (ends : List WorkerEnd) (i : ℕ) (e : WorkerEnd) (fault : WorkFault) → i < length ends → e ≡ slice_index_or ends i e → e.fault ≡ Some fault
    → All IsFaultless (take i ends) → IsFirstFault ends fault
first ends i e fault within is has before =
    record { worker = i; end = e; end_is = slice_get_read ends (length ends) i e refl within is; fault_is = has; before = before }

-- one more without a fault
pub one_more : (ends : List WorkerEnd) (i : ℕ) (e : WorkerEnd) → i < length ends → e ≡ slice_index_or ends i e → All IsFaultless (take i ends) → e.fault ≡ None
    → All IsFaultless (take (i + 1) ends)
one_more ends i e within is before none = All-more IsFaultless ends i e within before (subst IsFaultless is none)

pub all_taken : (ends : List WorkerEnd) (i : ℕ) → length ends ≤ i → All IsFaultless (take i ends) → All IsFaultless ends
all_taken ends i past all = subst (λ es. All IsFaultless es) (take_all i ends past) all
