-- What a delivery makes of the list of a client that is synchronized.
use Rattle.std.specs.Prelude.{◌≡◌, ℕ, List, Some, slice_get}
use Rattle.ot_operation.specs.Operation.{apply}
use Rattle.ot_isa.specs.declared.elements.Tagged.{Tagged}
use Rattle.ot_model.specs.Table.{Client, Entry, State, Synchronized}

-- the client is synchronized, at that revision
abbrev pub IsSynchronizedAt : ℕ → Client → Type 0
IsSynchronizedAt revision x = (x.phase ≡ Synchronized) × (x.revision ≡ revision)

-- where client c is there and the log has a next entry for it, the client is synchronized, and the entry makes this list of the client's
abbrev pub IsDelivered : State → ℕ → List Tagged → Type 0
IsDelivered s c list =
    (x : Client) (h : Entry) → slice_get s.clients c ≡ Some x → slice_get s.log x.revision ≡ Some h → (x.phase ≡ Synchronized) × (list ≡ apply h.op x.list)
