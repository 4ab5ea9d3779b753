-- A port that conforms does so too with the messages.
use Rattle.std.proofs.Common.{◌≡◌, ℕ, List, [], ◌∷◌, Bool, true, false, Option, Some, None, option_and_then, refl, ap, ◌∙◌, subst}
use Rattle.std.specs.Prelude.{codes, is_some, if◌then◌else◌}
use Rattle.serde_json.specs.Data.{Data, Members, null, boolean, number, string, array, object, put}
use Rattle.serde_json.specs.Find.{get}
use Rattle.ot_model.specs.Runs.{opening_of}
use Rattle.ot_conform.specs.Differences.{Ahead, Wanted, Limit, Conforms, ahead_from, field_of, field_of_key, field_of_message, first_key, from_opening, is_same, message_of_stop, or_next, over, unless_differs}
use Rattle.ot_conform.specs.Due.{DueLine, opening_due}
use Rattle.ot_conform.specs.Keys.{first_keys, found_at, is_told, other_keys}
use Rattle.ot_conform.specs.Laws.{MessagesConform, received_data, with_message, with_messages}
use Rattle.ot_conform.specs.Ports.{PortLine, Told, OtherForm, NoText, Nothing, is_opening_line}
use Rattle.ot_conform.specs.Received.{Received, Taken, Delivered, message_agrees}
use Rattle.ot_steps.specs.declared.key.Key.{Key}
use Rattle.ot_steps.specs.declared.key.Key.TheVariants as key
use Rattle.ot_conform.specs.declared.meeting.Field.{Field}
use Rattle.ot_conform.specs.declared.meeting.Field.TheVariants as field
use Rattle.ot_conform.proofs.Conforming.{number_written, operation_written}
use Rattle.ot_conform.proofs.FirstKey.{same_first}
use Rattle.ot_conform.proofs.LineMembers.{got_put}

-- ---- one object

abbrev with_it : Received → Members → Data
with_it received ms = object (put (codes "message") (received_data received) ms)

-- the message agrees with what is received
own_message : (received : Received) → message_agrees (Some received) (Some (received_data received)) ≡ true
own_message (Taken m) = rw (number_written m.revision, operation_written m.operation) refl
own_message (Delivered op) = rw (operation_written op) refl

message_there : (received : Received) (ms : Members) → get (codes "message") (with_it received ms) ≡ Some (received_data received)
message_there received ms = got_put (codes "message") (codes "message") (received_data received) ms

-- nothing else is another
same_under : (received : Received) (ms : Members) (k : Key) → found_at k (with_it received ms) ≡ found_at k (object ms)
same_under received ms key.At = got_put (codes "at") (codes "message") (received_data received) ms
same_under received ms key.Clients = got_put (codes "clients") (codes "message") (received_data received) ms
same_under received ms key.Present = got_put (codes "present") (codes "message") (received_data received) ms
same_under received ms key.Start = got_put (codes "start") (codes "message") (received_data received) ms
same_under received ms key.Do = got_put (codes "do") (codes "message") (received_data received) ms
same_under received ms key.Client = got_put (codes "client") (codes "message") (received_data received) ms
same_under received ms key.Edit = got_put (codes "edit") (codes "message") (received_data received) ms
same_under received ms key.Stopped = got_put (codes "stopped") (codes "message") (received_data received) ms
same_under received ms key.Revision = got_put (codes "revision") (codes "message") (received_data received) ms
same_under received ms key.State = got_put (codes "state") (codes "message") (received_data received) ms
same_under received ms key.Outstanding = got_put (codes "outstanding") (codes "message") (received_data received) ms
same_under received ms key.Buffer = got_put (codes "buffer") (codes "message") (received_data received) ms
same_under received ms key.Sent = got_put (codes "sent") (codes "message") (received_data received) ms
same_under received ms key.SentRevision = ap (option_and_then (get (codes "revision"))) (got_put (codes "sent") (codes "message") (received_data received) ms)
same_under received ms key.SentOperation = ap (option_and_then (get (codes "operation"))) (got_put (codes "sent") (codes "message") (received_data received) ms)
same_under received ms key.Applied = got_put (codes "applied") (codes "message") (received_data received) ms
same_under received ms key.Appended = got_put (codes "appended") (codes "message") (received_data received) ms
same_under received ms key.Document = got_put (codes "document") (codes "message") (received_data received) ms
same_under received ms key.End = got_put (codes "end") (codes "message") (received_data received) ms

-- ---- one line

-- no difference is one with a message that agrees either
none_still : (stop message : Bool) (first others : Option Key) (before after : Option Field)
    → (if stop then or_next (field_of_key first) (or_next (field_of_message message) (field_of_key others)) else or_next before (Some field.Stopped)) ≡ None
    → (if stop then or_next (field_of_key first) (or_next (field_of_message true) (field_of_key others)) else or_next after (Some field.Stopped)) ≡ None
none_still true true first others before after e = e
none_still true false None others before after e = absurd (cc)
none_still true false (Some k) others before after e = e
none_still false message first others None after e = absurd (cc)
none_still false message first others (Some f) after e = absurd (cc)

object_still : (due : DueLine) (received : Received) (ms : Members) → due.received ≡ Some received → field_of due (Told (object ms)) ≡ None → field_of due (Told (with_it received ms)) ≡ None
object_still due received ms is agrees =
    let same : (k : Key) → found_at k (with_it received ms) ≡ found_at k (object ms) = same_under received ms in
    let first : first_key first_keys due.line (with_it received ms) ≡ first_key first_keys due.line (object ms) = same_first first_keys due.line (with_it received ms) (object ms) same in
    let others : first_key other_keys due.line (with_it received ms) ≡ first_key other_keys due.line (object ms) = same_first other_keys due.line (with_it received ms) (object ms) same in
    let message : message_agrees due.received (get (codes "message") (with_it received ms)) ≡ true =
    ap (message_agrees due.received) (message_there received ms) ∙ ap (λ (o : Option Received). message_agrees o (Some (received_data received))) is ∙ own_message received in
    rw (same_under received ms key.Stopped, first, others, message)
    (none_still (is_same (is_some due.line.stopped) (is_told (get (codes "stopped") (object ms)))) (message_agrees due.received (get (codes "message") (object ms)))
    (first_key first_keys due.line (object ms)) (first_key other_keys due.line (object ms))
    (message_of_stop due.received (message_agrees due.received (get (codes "message") (object ms)))) (message_of_stop due.received true) agrees)

line_still : (due : DueLine) (received : Option Received) (line : PortLine) → due.received ≡ received → field_of due line ≡ None → field_of due (with_message received line) ≡ None
line_still due None line is agrees = agrees
line_still due (Some received) (Told null) is agrees = agrees
line_still due (Some received) (Told (boolean b)) is agrees = agrees
line_still due (Some received) (Told (number n)) is agrees = agrees
line_still due (Some received) (Told (string s)) is agrees = agrees
line_still due (Some received) (Told (array ds)) is agrees = agrees
line_still due (Some received) (Told (object ms)) is agrees = object_still due received ms is agrees
line_still due (Some received) (OtherForm bytes) is agrees = agrees
line_still due (Some received) NoText is agrees = agrees
line_still due (Some received) Nothing is agrees = agrees

-- ---- all lines

over_still : (last : ℕ) (ahead : List Ahead) (lines : List PortLine) → over false last ahead lines ≡ Conforms → over false last ahead (with_messages ahead lines) ≡ Conforms
over_still last [] lines agrees = agrees
over_still last (Wanted due ∷ ahead) [] agrees = agrees
over_still last (Wanted due ∷ ahead) (line ∷ lines) agrees = go (over_still due.line.at ahead lines) (field_of due line) refl agrees
  where
    go : (over false due.line.at ahead lines ≡ Conforms → over false due.line.at ahead (with_messages ahead lines) ≡ Conforms) → (f : Option Field) → field_of due line ≡ f → unless_differs due line f (over false due.line.at ahead lines) ≡ Conforms
        → over false last (Wanted due ∷ ahead) (with_message due.received line ∷ with_messages ahead lines) ≡ Conforms
    go others None is rest =
        let none : field_of due (with_message due.received line) ≡ None = line_still due due.received line refl is in
        rw none (others rest)
    go others (Some f) is rest = absurd (cc)
over_still last (Limit at refusal ∷ ahead) lines agrees = agrees

same_opening : (received : Option Received) (line : PortLine) → is_opening_line (with_message received line) ≡ is_opening_line line
same_opening None line = refl
same_opening (Some received) (Told null) = refl
same_opening (Some received) (Told (boolean b)) = refl
same_opening (Some received) (Told (number n)) = refl
same_opening (Some received) (Told (string s)) = refl
same_opening (Some received) (Told (array ds)) = refl
same_opening (Some received) (Told (object ms)) = rw (same_under received ms key.At, same_under received ms key.Do, same_under received ms key.Stopped, same_under received ms key.End) refl
same_opening (Some received) (OtherForm bytes) = refl
same_opening (Some received) NoText = refl
same_opening (Some received) Nothing = refl

unopened : (opening : DueLine) (ahead : List Ahead) (line : PortLine) (lines : List PortLine) → is_opening_line line ≡ false
    → from_opening false opening ahead (with_messages ahead (line ∷ lines)) ≡ over false 0 ahead (with_messages ahead (line ∷ lines))
unopened opening [] line lines off = rw off refl
unopened opening (Wanted due ∷ ahead) line lines off =
    let still_off : is_opening_line (with_message due.received line) ≡ false = same_opening due.received line ∙ off in
    rw still_off refl
unopened opening (Limit at refusal ∷ ahead) line lines off = rw off refl

told_still : (opening : DueLine) (ahead : List Ahead) (line : PortLine) (lines : List PortLine) (on : Bool) → opening.received ≡ None → is_opening_line line ≡ on → from_opening false opening ahead (line ∷ lines) ≡ Conforms
    → from_opening false opening ahead (if on then line ∷ with_messages ahead lines else with_messages ahead (line ∷ lines)) ≡ Conforms
told_still opening ahead line lines true none is agrees =
    let given : over false 0 (Wanted opening ∷ ahead) (line ∷ lines) ≡ Conforms = rw is at agrees in
    let still : over false 0 (Wanted opening ∷ ahead) (with_message opening.received line ∷ with_messages ahead lines) ≡ Conforms = over_still 0 (Wanted opening ∷ ahead) (line ∷ lines) given in
    let same : over false 0 (Wanted opening ∷ ahead) (line ∷ with_messages ahead lines) ≡ Conforms =
    subst (λ (r : Option Received). over false 0 (Wanted opening ∷ ahead) (with_message r line ∷ with_messages ahead lines) ≡ Conforms) none still in
    rw is same
told_still opening ahead line lines false none is agrees =
    let given : over false 0 ahead (line ∷ lines) ≡ Conforms = rw is at agrees in
    unopened opening ahead line lines is ∙ over_still 0 ahead (line ∷ lines) given

pub messages_conform : MessagesConform
messages_conform s [] agrees = agrees
messages_conform s (line ∷ lines) agrees = told_still (opening_due s) (ahead_from 0 (opening_of s) s.instrs) line lines (is_opening_line line) refl refl agrees
