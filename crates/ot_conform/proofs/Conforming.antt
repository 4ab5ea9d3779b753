-- The lines of `steps` themselves agree with those that are due.
use Rattle.std.proofs.Common.{◌≡◌, ℕ, zero, suc, ◌+◌, ◌≤◌, List, [], ◌∷◌, ◌++◌, length, map, drop, take, Bool, true, false, Option, Some, None, refl, sym, ap, ◌∙◌, subst, arith, inl, inr}
use Rattle.std.specs.Prelude.{◌⊎◌, ◌||◌, option_map, codes, is_some, if◌then◌else◌}
use Rattle.std.proofs.lemmas.Option.{same_Some}
use Rattle.std.proofs.lemmas.Slice.Eq.{bytes_eq-Decides}
use Rattle.std.specs.Str.{bytes_eq, encode_utf8_all}
use Rattle.json.specs.Print.{escape_byte, quoted}
use Rattle.serde_json.specs.Data.{Data, number, string, unsigned}
use Rattle.serde_json.specs.Find.{get}
use Rattle.serde_json.specs.Written.{compact_text}
use Rattle.serde_json.specs.View.{items_of}
use Rattle.ot_operation.specs.Run.{Run, Keep, Add, Skip, normal_runs}
use Rattle.ot_json.specs.Writing.{data_of}
use Rattle.ot_isa.specs.Program.{Program}
use Rattle.ot_isa.specs.declared.instruction.Instr.{Instr}
use Rattle.ot_isa.specs.declared.instruction.Instr.TheVariants.{Edit, Take, Deliver, Acknowledge, Join, Read, ReadServer}
use Rattle.ot_model.specs.declared.shown.Refusal.{Refusal}
use Rattle.ot_model.specs.declared.shown.Refusal.TheVariants as refusal
use Rattle.ot_model.specs.declared.shown.Shown.{Shown}
use Rattle.ot_model.specs.Operation.{Operation}
use Rattle.ot_model.specs.Table.{Outcome as Stepped, Performed, Refused, NoRow, Place, State, begin, run, step, with_shown}
use Rattle.ot_model.specs.Runs.{opening_of, place_at}
use Rattle.ot_machine.specs.Ended.{reached, IsRefusedIn, IsStop, IsStopAt}
use Rattle.ot_steps.specs.Lines.{Line}
use Rattle.ot_steps.specs.Lines as lines
use Rattle.ot_machine.specs.Effects.{sends}
use Rattle.ot_steps.specs.Steps.{applies, end_line, has_document, is_quiet, last_lines, lines_from, opening_line, run_lines, step_line, stop_at, stop_line, whole_line}
use Rattle.ot_steps.specs.Text.{Name, Number, Op, Sent, Text, Value, end_text, value_at, value_text, word_text}
use Rattle.ot_steps.proofs.Running.{reached_within}
use Rattle.ot_values.specs.Values.{phase_word, refusal_text}
use Rattle.ot_machine.specs.declared.state.Phase.{Phase}
use Rattle.ot_machine.specs.declared.state.Phase.TheVariants as phase
use Rattle.ot_conform.specs.Differences.{Ahead, Wanted, Outcome, Conforms, Stopped, ahead_from, ending, field_of, first_key, from_opening, is_limit, is_same, outcome, over, stopping}
use Rattle.ot_conform.specs.Received.{message_agrees, receives}
use Rattle.ot_conform.specs.Due.{DueLine, end_due, opening_due, step_due, stop_due}
use Rattle.ot_conform.specs.Keys.{agrees, are_plain, first_keys, found_at, is_told, is_written, other_keys}
use Rattle.ot_conform.specs.Laws as laws
use Rattle.ot_conform.specs.Laws.{IsOfTable, Say, Says, SaysLine, StepsConform, operation_data, outcome_at}
use Rattle.ot_conform.specs.Ports.{PortLine, Told, OtherForm, NoText, Nothing, is_opening_line}
use Rattle.ot_steps.specs.declared.key.Key.{Key}
use Rattle.ot_steps.specs.declared.key.Key.TheVariants as key
use Rattle.ot_conform.proofs.FirstKey.{all_agree}
use Rattle.ot_conform.proofs.Outcomes.{ahead_past, ahead_refused, goes_on, over_agrees, stops_all}

-- ---- values are plain, and written as they are

same_bytes : (bytes : List ℕ) → bytes_eq bytes bytes ≡ true
same_bytes bytes = (bytes_eq-Decides bytes bytes).1 refl

runs_plain : (rs : List (Run ℕ)) → are_plain (items_of (map data_of rs)) ≡ true
runs_plain [] = refl
runs_plain (Keep n ∷ rs) = runs_plain rs
runs_plain (Add s ∷ rs) = runs_plain rs
runs_plain (Skip n ∷ rs) = runs_plain rs

pub operation_written : (op : Operation ℕ) → is_written (value_text (Op op)) (operation_data op) ≡ true
operation_written op = rw (runs_plain (normal_runs op)) (same_bytes (compact_text (operation_data op)))

text_written : (bytes : List ℕ) → is_written (quoted bytes) (string bytes) ≡ true
text_written bytes = same_bytes (quoted bytes)

pub number_written : (n : ℕ) → is_written (value_text (Number n)) (laws.data_of (Number n)) ≡ true
number_written n = same_bytes (value_text (Number n))

-- a name stands in JSON as it is
abbrev IsPlainName : List ℕ → Type 0
IsPlainName name = quoted name ≡ value_text (Name name)

name_written : (name : List ℕ) → IsPlainName name → is_written (value_text (Name name)) (string name) ≡ true
name_written name plain = subst (λ (t : List ℕ). is_written t (string name) ≡ true) plain (text_written name)

word_plain : (w : lines.Word) → IsPlainName (word_text w)
unfolding escape_byte
word_plain lines.Edit = refl
word_plain lines.Take = refl
word_plain lines.Deliver = refl
word_plain lines.Ack = refl
word_plain lines.Join = refl
word_plain lines.Read = refl
word_plain lines.ReadServer = refl

phase_plain : (p : Phase) → IsPlainName (phase_word p)
unfolding escape_byte
phase_plain phase.NotJoined = refl
phase_plain phase.Synchronized = refl
phase_plain phase.AwaitingConfirm = refl
phase_plain phase.AwaitingWithBuffer = refl

end_plain : (quiet : Bool) → IsPlainName (end_text quiet)
unfolding escape_byte
end_plain true = refl
end_plain false = refl

refusal_plain : (r : Refusal) → IsPlainName (refusal_text r)
unfolding escape_byte
refusal_plain refusal.NoSuchClient = refl
refusal_plain refusal.StepsFull = refl
refusal_plain refusal.NotJoined = refl
refusal_plain refusal.AlreadyJoined = refl
refusal_plain refusal.BadBase = refl
refusal_plain refusal.ClientFull = refl
refusal_plain refusal.LinkEmpty = refl
refusal_plain refusal.WrongHead = refl
refusal_plain refusal.Memory = refl

-- ---- what a line says under a key, where it has something there, agrees

abbrev said : Option Value → Option Data
said v = option_map laws.data_of v

abbrev Agrees : Key → Line → Type 0
Agrees k line = agrees (value_at k line) (said (value_at k line)) ≡ true

optional : {A : Type 0} (value : A → Value) (o : Option A) → ((x : A) → agrees (Some (value x)) (Some (laws.data_of (value x))) ≡ true)
    → agrees (option_map value o) (said (option_map value o)) ≡ true
optional value None each = refl
optional value (Some x) each = each x

agrees_with_itself : (k : Key) (line : Line) → Agrees k line
agrees_with_itself key.At line = number_written line.at
agrees_with_itself key.Clients line = optional Number line.clients number_written
agrees_with_itself key.Present line = optional Number line.present number_written
agrees_with_itself key.Start line = optional Text line.start (λ text. text_written (encode_utf8_all text))
agrees_with_itself key.Do line = optional (λ w. Name (word_text w)) line.word (λ w. name_written (word_text w) (word_plain w))
agrees_with_itself key.Client line = optional Number line.client number_written
agrees_with_itself key.Edit line = optional Op line.edit operation_written
agrees_with_itself key.Stopped line = optional (λ r. Name (refusal_text r)) line.stopped (λ r. name_written (refusal_text r) (refusal_plain r))
agrees_with_itself key.Revision line = optional Number line.revision number_written
agrees_with_itself key.State line = optional (λ p. Name (phase_word p)) line.state (λ p. name_written (phase_word p) (phase_plain p))
agrees_with_itself key.Outstanding line = optional Op line.outstanding operation_written
agrees_with_itself key.Buffer line = optional Op line.buffer operation_written
agrees_with_itself key.Sent line = optional Sent line.sent (λ m. refl)
agrees_with_itself key.SentRevision line = optional (λ m. Number m.revision) line.sent (λ m. number_written m.revision)
agrees_with_itself key.SentOperation line = optional (λ m. Op m.operation) line.sent (λ m. operation_written m.operation)
agrees_with_itself key.Applied line = optional Op line.applied operation_written
agrees_with_itself key.Appended line = optional Op line.appended operation_written
agrees_with_itself key.Document line = optional Text line.document (λ text. text_written (encode_utf8_all text))
agrees_with_itself key.End line = optional (λ q. Name (end_text q)) line.quiet (λ q. name_written (end_text q) (end_plain q))

-- ---- a line that shows less than the run has

-- a line of values that another has, and both stop or none does
pub record Shows (shown line : Line) : Type 0 where
  pub values : (k : Key) → (value_at k shown ≡ None) ⊎ (value_at k shown ≡ value_at k line)
  pub stopped : shown.stopped ≡ line.stopped

pub all_shown : (line : Line) → Shows line line
all_shown line = record { values = λ k. inr refl; stopped = refl }

value_agrees : (k : Key) (shown line : Line) → (value_at k shown ≡ None) ⊎ (value_at k shown ≡ value_at k line) → agrees (value_at k line) (said (value_at k shown)) ≡ true
value_agrees k shown line (inl none) = ap (λ (v : Option Value). agrees (value_at k line) (said v)) none
value_agrees k shown line (inr same) = ap (λ (v : Option Value). agrees (value_at k line) (said v)) same ∙ agrees_with_itself k line

key_agrees : (line shown : Line) (d : Data) → Shows shown line → Says shown d → (k : Key) → agrees (value_at k line) (found_at k d) ≡ true
key_agrees line shown d shows says k = ap (agrees (value_at k line)) (says.under k) ∙ value_agrees k shown line (shows.values k)

pub stop_agrees : (stopped : Option Refusal) → is_told (said (option_map (λ r. Name (refusal_text r)) stopped)) ≡ is_some stopped
stop_agrees None = refl
stop_agrees (Some r) = refl

same_stop : (b : Bool) → is_same b b ≡ true
same_stop true = refl
same_stop false = refl

pub line_agrees : (due : DueLine) (shown : Line) (d : Data) → Shows shown due.line → Says shown d → field_of due (Told d) ≡ None
line_agrees due shown d shows says =
    let stop : is_told (get (codes "stopped") d) ≡ is_some due.line.stopped = ap is_told (says.under key.Stopped) ∙ stop_agrees shown.stopped ∙ ap is_some shows.stopped in
    let first : first_key first_keys due.line d ≡ None = all_agree first_keys due.line d (key_agrees due.line shown d shows says) in
    let message : message_agrees due.received (get (codes "message") d) ≡ true = ap (message_agrees due.received) says.message in
    let others : first_key other_keys due.line d ≡ None = all_agree other_keys due.line d (key_agrees due.line shown d shows says) in
    rw (stop, same_stop (is_some due.line.stopped), first, message, others) refl

-- ---- the line of an instruction shows what the run has there

-- the line without what `steps` leaves out
abbrev less : Bool → Bool → Bool → Line → Line
less moved document applied line =
    record line {
      revision = if moved then line.revision else None;
      state = if moved then line.state else None;
      outstanding = if moved then line.outstanding else None;
      buffer = if moved then line.buffer else None;
      applied = if applied then line.applied else None;
      document = if document then line.document else None;
    }

abbrev moves : Instr → Bool
moves (Edit c op) = true
moves (Take c) = true
moves (Deliver c) = true
moves (Acknowledge c) = true
moves (Join c) = true
moves (Read c) = false
moves ReadServer = false

abbrev tells_applied : Instr → Bool
tells_applied (Edit c op) = false
tells_applied (Take c) = true
tells_applied (Deliver c) = true
tells_applied (Acknowledge c) = true
tells_applied (Join c) = true
tells_applied (Read c) = true
tells_applied ReadServer = true

abbrev whole : ℕ → Instr → State → State → Line
whole at i s t = whole_line at i (sends i s) (applies i s) t

step_is_less : (documents : Bool) (at : ℕ) (i : Instr) (s t : State) → step_line documents at i s t ≡ less (moves i) (has_document i || documents) (tells_applied i) (whole at i s t)
step_is_less documents at (Edit c op) s t = refl
step_is_less documents at (Take c) s t = refl
step_is_less documents at (Deliver c) s t = refl
step_is_less documents at (Acknowledge c) s t = refl
step_is_less documents at (Join c) s t = refl
step_is_less documents at (Read c) s t = refl
step_is_less documents at ReadServer s t = refl

unless : {A : Type 0} (value : A → Value) (b : Bool) (o : Option A) → (option_map value (if b then o else None) ≡ None) ⊎ (option_map value (if b then o else None) ≡ option_map value o)
unless value true o = inr refl
unless value false o = inl refl

less_shown : (moved document applied : Bool) (line : Line) → Shows (less moved document applied line) line
less_shown moved document applied line = record { values = at; stopped = refl }
  where
    at : (k : Key) → (value_at k (less moved document applied line) ≡ None) ⊎ (value_at k (less moved document applied line) ≡ value_at k line)
    at key.At = inr refl
    at key.Clients = inr refl
    at key.Present = inr refl
    at key.Start = inr refl
    at key.Do = inr refl
    at key.Client = inr refl
    at key.Edit = inr refl
    at key.Stopped = inr refl
    at key.Revision = unless Number moved line.revision
    at key.State = unless (λ p. Name (phase_word p)) moved line.state
    at key.Outstanding = unless Op moved line.outstanding
    at key.Buffer = unless Op moved line.buffer
    at key.Sent = inr refl
    at key.SentRevision = inr refl
    at key.SentOperation = inr refl
    at key.Applied = unless Op applied line.applied
    at key.Appended = inr refl
    at key.Document = unless Text document line.document
    at key.End = inr refl

pub step_shown : (documents : Bool) (at : ℕ) (i : Instr) (s t : State) → Shows (step_line documents at i s t) (whole at i s t)
step_shown documents at i s t =
    subst (λ (shown : Line). Shows shown (whole at i s t)) (sym (step_is_less documents at i s t))
    (less_shown (moves i) (has_document i || documents) (tells_applied i) (whole at i s t))

-- ---- all lines

-- a port's line that says this one agrees
pub says_agrees : (due : DueLine) (shown : Line) (port : PortLine) → Shows shown due.line → SaysLine shown port → field_of due port ≡ None
says_agrees due shown (Told d) shows says = line_agrees due shown d shows says
says_agrees due shown (OtherForm bytes) shows says = absurd says
says_agrees due shown NoText shows says = absurd says
says_agrees due shown Nothing shows says = absurd says

-- the first line that is due agrees, and so it goes on with the rest
first_agrees : (last : ℕ) (due : DueLine) (ahead : List Ahead) (shown : Line) (shows : Shows shown due.line) (rest : List Line) (ports : List PortLine) (o : Outcome)
    → ((left : List PortLine) → Say rest left → over false due.line.at ahead left ≡ o) → Say (shown ∷ rest) ports → over false last (Wanted due ∷ ahead) ports ≡ o
first_agrees last due ahead shown shows rest [] o on say = absurd say
first_agrees last due ahead shown shows rest (port ∷ ports) o on say =
    over_agrees false last due ahead port ports refl (says_agrees due shown port shows say.0) ∙ on ports say.1

-- from any place on
steps_agree : (documents : Bool) (is : List Instr) (n at end : ℕ) (p q : Place) (tail : List Line) (ports : List PortLine) (o : Outcome)
    → n ≤ length is → end ≡ at + n → run (take n is) p ≡ Some q
    → ((left : List PortLine) → Say tail left → over false end (ahead_from end q.state (drop n is)) left ≡ o)
    → Say (lines_from documents at p.state (take n is) ++ tail) ports → over false at (ahead_from at p.state is) ports ≡ o
steps_agree documents is zero at end p q tail ports o few so here on say =
    let same : p ≡ q = same_Some p q here in
    let place : at ≡ end = omega (arith, so) in
    ap (λ (e : ℕ). over false e (ahead_from e p.state is) ports) place ∙ ap (λ (r : Place). over false end (ahead_from end r.state is) ports) same ∙ on ports say
steps_agree documents [] (suc n) at end p q tail ports o few so here on say = absurd (omega (arith, few))
steps_agree documents (i ∷ is) (suc n) at end p q tail ports o few so here on say =
    go (λ t list after left. steps_agree documents is n (suc at) end (record { state = t; shown = with_shown p.shown list }) q tail left o (omega (arith, few)) (omega (arith, so)) after on) (step p.state i) here say
  where
    go : ((t : State) (list : Option Shown) → run (take n is) (record { state = t; shown = with_shown p.shown list }) ≡ Some q → (left : List PortLine)
        → Say (lines_from documents (suc at) t (take n is) ++ tail) left → over false (suc at) (ahead_from (suc at) t is) left ≡ o)
        → (out : Stepped)
        → (elim out [ Performed t list ↦ run (take n is) (record { state = t; shown = with_shown p.shown list }) | Refused r ↦ None | NoRow ↦ None ]) ≡ Some q
        → Say ((elim out [ Performed t list ↦ step_line documents (suc at) i p.state t ∷ lines_from documents (suc at) t (take n is) | Refused r ↦ [] | NoRow ↦ [] ]) ++ tail) ports
        → over false at (elim out [ Performed t list ↦ Wanted (step_due (suc at) i (sends i p.state) (applies i p.state) (receives i p.state) t) ∷ ahead_from (suc at) t is | Refused r ↦ stopping at p.state i r | NoRow ↦ [] ]) ports ≡ o
    go next (Performed t list) here say =
        first_agrees at (step_due (suc at) i (sends i p.state) (applies i p.state) (receives i p.state) t) (ahead_from (suc at) t is)
        (step_line documents (suc at) i p.state t) (step_shown documents (suc at) i p.state t)
        (lines_from documents (suc at) t (take n is) ++ tail) ports o
        (next t list here)
        say
    go next (Refused r) here say = absurd (cc)
    go next NoRow here say = absurd (cc)

-- the end
end_agrees : (last at : ℕ) (s : State) (ports : List PortLine) → Say (end_line at (is_quiet s) ∷ []) ports → over false last (ending at s) ports ≡ Conforms
end_agrees last at s ports say = first_agrees last (end_due at (is_quiet s)) [] (end_line at (is_quiet s)) (all_shown (end_line at (is_quiet s))) [] ports Conforms none_left say
  where
    none_left : (left : List PortLine) → Say [] left → over false at [] left ≡ Conforms
    none_left [] say = refl
    none_left (port ∷ left) say = absurd say

-- a stop and the end behind it
stop_agrees_at : (at : ℕ) (s : State) (i : Instr) (r : Refusal) (ports : List PortLine) (limit : Bool) → is_limit r ≡ limit → Say (stop_line at i r ∷ end_line at (is_quiet s) ∷ []) ports
    → over false at (stopping at s i r) ports ≡ (if is_limit r then Stopped at r else Conforms)
stop_agrees_at at s i r ports true limit say = stops_all at at s i r ports limit ∙ rw limit refl
stop_agrees_at at s i r ports false limit say =
    ap (λ (ahead : List Ahead). over false at ahead ports) (goes_on at s i r limit)
    ∙ first_agrees at (stop_due at i r) (ending at s) (stop_line at i r) (all_shown (stop_line at i r)) (end_line at (is_quiet s) ∷ []) ports Conforms (λ left others. end_agrees at at s left others) say
    ∙ rw limit refl

-- an instruction that is refused for another reason than out of memory is refused by the table
pub refused_by_table : (s : Program) (state : State) (place : ℕ) (r : Refusal) → (r ≡ refusal.Memory → ⊥) → IsStopAt s state place r → IsRefusedIn s state place r
refused_by_table s state place refusal.NoSuchClient table stop = stop.1
refused_by_table s state place refusal.StepsFull table stop = stop.1
refused_by_table s state place refusal.NotJoined table stop = stop.1
refused_by_table s state place refusal.AlreadyJoined table stop = stop.1
refused_by_table s state place refusal.BadBase table stop = stop.1
refused_by_table s state place refusal.ClientFull table stop = stop.1
refused_by_table s state place refusal.LinkEmpty table stop = stop.1
refused_by_table s state place refusal.WrongHead table stop = stop.1
refused_by_table s state place refusal.Memory table stop = absurd (table refl)

-- behind the instructions that are performed
last_agree : (s : Program) (state : State) (stopped : Option (ℕ × Refusal)) (ports : List PortLine) → IsStop s state stopped → IsOfTable stopped → Say (last_lines s state stopped) ports
    → over false (reached s stopped) (ahead_from (reached s stopped) state (drop (reached s stopped) s.instrs)) ports ≡ outcome_at stopped
last_agree s state None ports stop table say =
    let end : ℕ = length s.instrs in
    ap (λ (ahead : List Ahead). over false end ahead ports) (ahead_past end state s.instrs (omega arith)) ∙ end_agrees end end state ports say
last_agree s state (Some stop) ports is table say =
    let refused = refused_by_table s state stop.0 stop.1 table is in
    let two : Say (stop_line stop.0 refused.0 stop.1 ∷ end_line stop.0 (is_quiet state) ∷ []) ports =
    subst (λ (o : Option Instr). Say (stop_at stop.0 stop.1 o ++ end_line stop.0 (is_quiet state) ∷ []) ports) refused.1 say in
    ap (λ (ahead : List Ahead). over false stop.0 ahead ports) (ahead_refused stop.0 state refused.0 s.instrs stop.1 refused.1 refused.2)
    ∙ stop_agrees_at stop.0 state refused.0 stop.1 ports (is_limit stop.1) refl two

-- the opening's line is taken for it
pub is_the_opening : (s : Program) (port : PortLine) → SaysLine (opening_line s) port → is_opening_line port ≡ true
is_the_opening s (Told d) says =
    let at : get (codes "at") d ≡ Some (number (unsigned 0)) = says.under key.At in
    let word : get (codes "do") d ≡ None = says.under key.Do in
    let stopped : get (codes "stopped") d ≡ None = says.under key.Stopped in
    let end : get (codes "end") d ≡ None = says.under key.End in
    rw (at, word, stopped, end) refl
is_the_opening s (OtherForm bytes) says = absurd says
is_the_opening s NoText says = absurd says
is_the_opening s Nothing says = absurd says

opened : (opening : DueLine) (ahead : List Ahead) (port : PortLine) (ports : List PortLine) → is_opening_line port ≡ true → from_opening false opening ahead (port ∷ ports) ≡ over false 0 (Wanted opening ∷ ahead) (port ∷ ports)
opened opening ahead port ports on = rw on refl

run_agrees : (documents : Bool) (s : Program) (stopped : Option (ℕ × Refusal)) (place : Place) (ports : List PortLine) → place_at s (reached s stopped) ≡ Some place → IsStop s place.state stopped → IsOfTable stopped
    → Say (run_lines documents s place.state stopped) ports → outcome false s ports ≡ outcome_at stopped
run_agrees documents s stopped place [] at stop table say = absurd say
run_agrees documents s stopped place (port ∷ ports) at stop table say =
    let n : ℕ = reached s stopped in
    opened (opening_due s) (ahead_from 0 (opening_of s) s.instrs) port ports (is_the_opening s port say.0)
    ∙ first_agrees 0 (opening_due s) (ahead_from 0 (opening_of s) s.instrs) (opening_line s) (all_shown (opening_line s)) (lines_from documents 0 (opening_of s) (take n s.instrs) ++ last_lines s place.state stopped)
    (port ∷ ports) (outcome_at stopped)
    (λ left others. steps_agree documents s.instrs n 0 n (begin s.clients s.present s.start) place (last_lines s place.state stopped) left (outcome_at stopped)
    (reached_within s place.state stopped stop) (omega arith) at (λ rest more. last_agree s place.state stopped rest stop table more) others)
    say

pub steps_conform : StepsConform
steps_conform documents s stopped lines ports are table say =
    run_agrees documents s stopped are.place ports are.at are.stop table (subst (λ (ls : List Line). Say ls ports) are.are say)
