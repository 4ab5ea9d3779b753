-- What of a session has not arrived: operations on their way to the server, operations in buffers, messages on their way to clients.
use Rattle.std.specs.Prelude.{ℕ, zero, suc, List, [], ◌∷◌, ◌++◌, ◌||◌, length, Bool, true, false, Option, Some, None, is_some, if◌then◌else◌}
use Rattle.ot_model.specs.Table.{Phase, NotJoined, Synchronized, AwaitingConfirm, AwaitingWithBuffer, is_joined, Client, Message, State, downlink}
use Rattle.ot_verdict.specs.declared.waiting.Waiting.{Waiting}
use Rattle.ot_verdict.specs.declared.waiting.Waiting.TheVariants.{Sent, Buffered, Incoming}

-- what each of these clients gives, in order; the first of them has number c
abbrev pub each_gives : {A : Type 0} → (ℕ → Client → List A) → ℕ → List Client → List A
each_gives give c [] = []
each_gives give c (x ∷ clients) = give c x ++ each_gives give (suc c) clients

-- ---- edits that the server has not taken

abbrev pub has_buffer : Phase → Bool
has_buffer NotJoined = false
has_buffer Synchronized = false
has_buffer (AwaitingConfirm o) = false
has_buffer (AwaitingWithBuffer o b) = true

-- edits of the client are on their way to the server, or in its buffer
abbrev pub has_untaken : Client → Bool
has_untaken x = is_some x.message || has_buffer x.phase

abbrev pub number_if : Bool → ℕ → List ℕ
number_if b c = if b then c ∷ [] else []

-- the clients with edits that the server has not taken, by number
abbrev pub untaken : State → List ℕ
untaken s = each_gives (λ c x. number_if (has_untaken x) c) 0 s.clients

-- ---- the clients that have not joined, by number

abbrev pub is_absent : Client → Bool
is_absent x = if is_joined x.phase then false else true

abbrev pub absent : State → List ℕ
absent s = each_gives (λ c x. number_if (is_absent x) c) 0 s.clients

-- ---- all that has not arrived

-- a message on its way to the server
abbrev pub sent_by : ℕ → Option Message → List Waiting
sent_by c None = []
sent_by c (Some m) = Sent c ∷ []

abbrev pub buffered_by : ℕ → Phase → List Waiting
buffered_by c phase = if has_buffer phase then Buffered c ∷ [] else []

-- so many messages on their way to the client
abbrev pub incoming_to : ℕ → ℕ → List Waiting
incoming_to c zero = []
incoming_to c (suc n) = Incoming c (suc n) ∷ []

abbrev pub waiting_at : State → ℕ → Client → List Waiting
waiting_at s c x = sent_by c x.message ++ (buffered_by c x.phase ++ incoming_to c (length (downlink s c x)))

-- client by client: its message on its way to the server, its buffer, the messages on their way to it
abbrev pub waiting : State → List Waiting
waiting s = each_gives (waiting_at s) 0 s.clients
