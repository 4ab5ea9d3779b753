-- The verdict as a line of JSON. It is made of the same value as its words.
use Rattle.std.specs.Prelude.{ℕ, List, [], ◌∷◌, ◌++◌, Bool, true, false, Option, Some, None, codes, decimal, length, map}
use Rattle.ot_isa.specs.declared.elements.Tagged.{Tagged}
use Rattle.ot_isa.specs.Program.{Program}
use Rattle.ot_json.specs.Writing.{text_of_operation}
use Rattle.ot_model.specs.Operation.{Operation}
use Rattle.ot_model.specs.Table.{State}
use Rattle.ot_model.specs.declared.shown.Refusal.{Refusal}
use Rattle.ot_machine.specs.declared.outcome.Ending.{Ending}
use Rattle.ot_machine.specs.Effects.{client_in}
use Rattle.ot_steps.specs.Steps.{buffer_of, is_quiet}
use Rattle.ot_values.specs.Items.{with_items}
use Rattle.ot_values.specs.Values.{refusal_text, text_of}
use Rattle.ot_verdict.specs.Pending.{absent, untaken, waiting}
use Rattle.ot_verdict.specs.Ending.{ending}
use Rattle.ot_verdict.specs.First.{first_taken}
use Rattle.ot_verdict.specs.declared.waiting.Waiting.{Waiting}
use Rattle.ot_verdict.specs.declared.waiting.Waiting.TheVariants.{Sent, Buffered, Incoming}
use Rattle.ot_explain.specs.Agreeing.{sent_of}

-- the operation, whole, where there is one
abbrev pub operation_member : Option (Operation ℕ) → List ℕ
operation_member None = []
operation_member (Some op) = codes ",\"operation\":" ++ text_of_operation op

abbrev pub count_member : ℕ → List ℕ
count_member n = codes ",\"count\":" ++ decimal n

-- something that has not arrived: {"what":"sent","client":0,"operation":["a"]}
abbrev pub waiting_object : List ℕ → ℕ → List ℕ → List ℕ
waiting_object what c more = codes "{\"what\":\"" ++ (what ++ (codes "\",\"client\":" ++ (decimal c ++ (more ++ codes "}"))))

abbrev pub waiting_json : State → Waiting → List ℕ
waiting_json s (Sent c) = waiting_object (codes "sent") c (operation_member (sent_of (client_in s c).message))
waiting_json s (Buffered c) = waiting_object (codes "buffered") c (operation_member (buffer_of (client_in s c).phase))
waiting_json s (Incoming c n) = waiting_object (codes "incoming") c (count_member n)

-- the items of all that has not arrived, and of clients
abbrev pub waiting_items : State → List Waiting → List ℕ
waiting_items s waiting = with_items [] (map (waiting_json s) waiting)

abbrev pub client_items : List ℕ → List ℕ
client_items clients = with_items [] (map decimal clients)

-- what all documents are, or become
abbrev pub document_members : List ℕ → List Tagged → List ℕ
document_members verdict list = codes ",\"verdict\":\"" ++ (verdict ++ (codes "\",\"document\":" ++ text_of list))

-- whose edit `complete` has the server take first
abbrev pub first_member : Option ℕ → List ℕ
first_member None = []
first_member (Some c) = codes ",\"first\":" ++ decimal c

abbrev pub depends_members : List ℕ → Option ℕ → List ℕ
depends_members clients first = codes ",\"verdict\":\"depends\",\"choice\":[" ++ (client_items clients ++ (codes "]" ++ first_member first))

-- where these clients have edits that the server has not taken
abbrev pub ending_members : State → List ℕ → List ℕ
ending_members s [] = document_members (codes "will be") (ending s)
ending_members s (c ∷ []) = document_members (codes "will be") (ending s)
ending_members s (c ∷ d ∷ more) = depends_members (c ∷ d ∷ more) (first_taken s)

abbrev pub outlook_members : State → Bool → List ℕ
outlook_members s true = document_members (codes "must be") s.server
outlook_members s false = ending_members s (untaken s)

-- the verdict on a state
abbrev pub verdict_members : State → List ℕ
verdict_members s =
    outlook_members s (is_quiet s) ++ (codes ",\"waiting\":[" ++ (waiting_items s (waiting s) ++ (codes "],\"absent\":[" ++ (client_items (absent s) ++ codes "]"))))

-- how many instructions were performed, and why the next one was not, if it was not
abbrev pub place_members : Program → Option (ℕ × Refusal) → List ℕ
place_members s None = codes "\"at\":" ++ decimal (length s.instrs)
place_members s (Some stop) = codes "\"at\":" ++ (decimal stop.0 ++ (codes ",\"stopped\":\"" ++ (refusal_text stop.1 ++ codes "\"")))

-- of a schedule whose run ends so
abbrev pub outlook_json : Program → Ending → List ℕ
outlook_json s e = codes "{" ++ (place_members s e.stopped ++ (verdict_members e.machine ++ codes "}\n"))
