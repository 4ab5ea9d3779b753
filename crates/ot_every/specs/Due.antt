-- How many instructions are still to come until a session ends.
use Rattle.std.specs.Prelude.{◌≡◌, ℕ, suc, ◌+◌, ◌-◌, ◌*◌, ◌≤◌, length, sum_by, count_by, if◌then◌else◌}
use Rattle.ot_model.specs.Table.{Client, State, is_joined}
use Rattle.ot_generate.specs.Left.{in_transit, in_buffer}

-- how many clients have joined
abbrev pub joined : State → ℕ
joined s = count_by (λ x. is_joined x.phase) s.clients

-- of a client, where n clients receive a message: its message and its buffer are taken and received, and it receives the rest of a log of this length, or joins
abbrev pub due_of : ℕ → ℕ → Client → ℕ
due_of n logged x = in_transit n x.message + in_buffer n x.phase + (if is_joined x.phase then logged - x.revision else 1)

-- of all clients. Edits and joins may add to it
abbrev pub due : State → ℕ
due s = sum_by (due_of (joined s) (length s.log)) s.clients

-- a session may end after so many more instructions, of which so many are edits: once all have joined, some of the edits add a take and its receipts, and nothing else
-- is added
pub record MayEnd (edits room : ℕ) (s : State) : Type 0 where
  pub least : edits + due s ≤ room
  pub exact : joined s ≡ length s.clients → (sent : ℕ) × (sent ≤ edits) × (room ≡ edits + due s + sent * suc (length s.clients))
