-- What ot_asm makes of the lines before one is what ot_faults counts.
use Rattle.std.proofs.Common.{◌≡◌, ◌∙◌, ◌+◌, ◌-◌, ℕ, Bool, true, false, ◌||◌, nat_le, nat_lt, List, [], ◌∷◌, length, Option, None, Some, Result, Ok, Err, refl, sym, ap}
use Rattle.std.specs.Prelude.{⊤, codes, if◌then◌else◌, take}
use Rattle.std.specs.Str.{is_utf8}
use Rattle.ot_operation.specs.Operation.{Operation}
use Rattle.ot_isa.specs.Program.{Program, opening, with_instr}
use Rattle.ot_isa.specs.declared.instruction.Instr.{Instr}
use Rattle.ot_isa.specs.declared.instruction.Instr.TheVariants as instr
use Rattle.ot_json.specs.declared.fault.OpFault.{OpFault}
use Rattle.ot_json.specs.declared.fault.OpFault.TheVariants as op_fault
use Rattle.ot_asm.specs.Numbers.{number}
use Rattle.ot_asm.specs.Stepping.{Answer, BodyView, at_end, client_line, clients_line, counted_line, drafted, edit_line, first_line, go_on, keyword_line, line_step, now_drafted, operation_of_rest, present_at, present_line, pushed, run, start_at, start_line, string_of_text, with_client, with_edit, with_number, with_start}
use Rattle.ot_asm.specs.Words.{after_word, counts, first_word, keyword_of, trimmed}
use Rattle.ot_asm.specs.declared.fault.Kind.{Kind}
use Rattle.ot_asm.specs.declared.fault.Kind.TheVariants.{BadClient, BadText, TooLong, TooMany}
use Rattle.ot_asm.specs.declared.section.Section.{Section}
use Rattle.ot_asm.specs.declared.section.Section.TheVariants as section
use Rattle.ot_faults.specs.Laws.{StagesAreMade, WordsAreTaken, is_one_of, reached_of, stage_of}
use Rattle.ot_faults.specs.Nearest.{words_at}
use Rattle.ot_faults.specs.Reached.{counted, next_clients, next_stage, number_or_zero, passed, reached_from}
use Rattle.ot_faults.specs.declared.reached.Reached.{Reached}
use Rattle.ot_faults.specs.declared.reached.Stage.{Stage}
use Rattle.ot_faults.specs.declared.reached.Stage.TheVariants.{AfterClients, AfterPresent, InBody}
use Rattle.ot_faults.proofs.Taken.{Spelled, by_section, is_ack, is_clients, is_deliver, is_edit, is_join, is_other, is_present, is_read, is_server, is_start, is_take, spelled, takes_step}

-- the draft of an answer stands at this stage and has so many clients
abbrev Leads : Answer → Stage → ℕ → Type 0
Leads (Ok draft) s n = reached_of (Some draft) ≡ record { stage = s; clients = n }
Leads (Err kind) s n = ⊤

leads_end : (rest : List ℕ) (answer : Answer) (s : Stage) (n : ℕ) → Leads answer s n → Leads (at_end rest answer) s n
leads_end [] answer s n h = h
leads_end (b ∷ bs) answer s n h = tt

leads_number : (o : Option ℕ) (then_do : ℕ → Answer) (s : Stage) (n : ℕ) → ((k : ℕ) → Leads (then_do k) s n) → Leads (with_number o then_do) s n
leads_number None then_do s n h = tt
leads_number (Some k) then_do s n h = h k

leads_pushed : (program : Program) (i : Instr) → Leads (pushed program i) InBody program.clients
leads_pushed program i = by (nat_le 100000 (length program.instrs))
  where
    by : (full : Bool) → Leads (if full then Err TooMany else drafted section.InBody (with_instr program i)) InBody program.clients
    by true = tt
    by false = refl

leads_client : (clients : ℕ) (rest : List ℕ) (then_do : ℕ → Answer) (s : Stage) (n : ℕ) → ((k : ℕ) → Leads (then_do k) s n) → Leads (with_client clients rest then_do) s n
leads_client clients rest then_do s n h = leads_number (number (first_word rest)) (λ k. if nat_lt k clients then then_do k else Err BadClient) s n (λ k. by k (nat_lt k clients))
  where
    by : (k : ℕ) (known : Bool) → Leads (if known then then_do k else Err BadClient) s n
    by k true = h k
    by k false = tt

leads_line : (program : Program) (rest : List ℕ) (make : ℕ → Instr) → Leads (client_line program rest make) InBody program.clients
leads_line program rest make =
    leads_client program.clients rest (λ client. at_end (after_word rest) (pushed program (make client))) InBody program.clients
    (λ k. leads_end (after_word rest) (pushed program (make k)) InBody program.clients (leads_pushed program (make k)))

leads_operation : (program : Program) (client : ℕ) (op : Result (Operation ℕ) OpFault) → Leads (with_edit program client op) InBody program.clients
leads_operation program client (Ok op) = leads_pushed program (instr.Edit client op)
leads_operation program client (Err op_fault.NotJson) = tt
leads_operation program client (Err op_fault.NotArray) = tt
leads_operation program client (Err (op_fault.BadComponent i)) = tt
leads_operation program client (Err op_fault.TooLong) = tt
leads_operation program client (Err op_fault.Memory) = tt

leads_edit : (program : Program) (rest : List ℕ) → Leads (edit_line program rest) InBody program.clients
leads_edit program rest =
    leads_client program.clients rest (λ client. with_edit program client (operation_of_rest (after_word rest))) InBody program.clients
    (λ k. leads_operation program k (operation_of_rest (after_word rest)))

leads_text : (program : Program) (start : Option (List ℕ)) → Leads (with_start program start) InBody program.clients
leads_text program None = tt
leads_text program (Some start) = by (nat_lt 40000 (length start))
  where
    by : (long : Bool) → Leads (if long then Err TooLong else drafted section.InBody (opening program.clients program.present start)) InBody program.clients
    by true = tt
    by false = refl

leads_start : (program : Program) (rest : List ℕ) → Leads (start_line program rest) InBody program.clients
leads_start program rest = leads_text program (string_of_text rest)

leads_present : (program : Program) (rest : List ℕ) → Leads (present_line program rest) AfterPresent program.clients
leads_present program rest =
    leads_number (number (first_word rest)) (λ n. if nat_lt program.clients n then Err BadClient else at_end (after_word rest) (drafted section.AfterPresent (opening program.clients n [])))
    AfterPresent program.clients (λ k. by k (nat_lt program.clients k))
  where
    by : (k : ℕ) (many : Bool) → Leads (if many then Err BadClient else at_end (after_word rest) (drafted section.AfterPresent (opening program.clients k []))) AfterPresent program.clients
    by k true = tt
    by k false = leads_end (after_word rest) (drafted section.AfterPresent (opening program.clients k [])) AfterPresent program.clients refl

leads_clients : (rest : List ℕ) → Leads (clients_line rest) AfterClients (number_or_zero (number (first_word rest)))
leads_clients rest = of_number (number (first_word rest))
  where
    by : (k : ℕ) (wrong : Bool) → Leads (if wrong then Err BadClient else at_end (after_word rest) (drafted section.AfterClients (opening k k []))) AfterClients k
    by k true = tt
    by k false = leads_end (after_word rest) (drafted section.AfterClients (opening k k [])) AfterClients k refl

    of_number : (o : Option ℕ) → Leads (with_number o (λ n. if nat_lt n 1 || nat_lt 64 n then Err BadClient else at_end (after_word rest) (drafted section.AfterClients (opening n n [])))) AfterClients (number_or_zero o)
    of_number None = tt
    of_number (Some k) = by k (nat_lt k 1 || nat_lt 64 k)

-- ---- by the first word

abbrev LeadsOn : List ℕ → Program → Answer → Section → Type 0
LeadsOn w program answer s = Leads answer (next_stage (stage_of s) w) program.clients

leads_keyword : (s : Section) (program : Program) (w rest : List ℕ) → Spelled w → LeadsOn w program (keyword_line (record { section = s; program = program }) (keyword_of w) rest) s
leads_keyword s program w rest (is_clients e) = rw e tt
leads_keyword s program w rest (is_present e) = rw e (by_section (λ x. LeadsOn (codes "present") program (present_at x program rest) x) (leads_present program rest) tt tt s)
leads_keyword s program w rest (is_start e) = rw e (by_section (λ x. LeadsOn (codes "start") program (start_at x program rest) x) (leads_start program rest) (leads_start program rest) tt s)
leads_keyword s program w rest (is_edit e) = let h = leads_edit program rest in rw e (by_section (LeadsOn (codes "edit") program (edit_line program rest)) h h h s)
leads_keyword s program w rest (is_take e) = let h = leads_line program rest instr.Take in rw e (by_section (LeadsOn (codes "take") program (client_line program rest instr.Take)) h h h s)
leads_keyword s program w rest (is_deliver e) =
    let h = leads_line program rest instr.Deliver in rw e (by_section (LeadsOn (codes "deliver") program (client_line program rest instr.Deliver)) h h h s)
leads_keyword s program w rest (is_ack e) =
    let h = leads_line program rest instr.Acknowledge in rw e (by_section (LeadsOn (codes "ack") program (client_line program rest instr.Acknowledge)) h h h s)
leads_keyword s program w rest (is_read e) = let h = leads_line program rest instr.Read in rw e (by_section (LeadsOn (codes "read") program (client_line program rest instr.Read)) h h h s)
leads_keyword s program w rest (is_join e) = let h = leads_line program rest instr.Join in rw e (by_section (LeadsOn (codes "join") program (client_line program rest instr.Join)) h h h s)
leads_keyword s program w rest (is_server e) =
    let h = leads_end rest (pushed program instr.ReadServer) InBody program.clients (leads_pushed program instr.ReadServer) in
    rw e (by_section (LeadsOn (codes "read-server") program (at_end rest (pushed program instr.ReadServer))) h h h s)
leads_keyword s program w rest (is_other o) = rw (o.clients, o.present, o.start, o.edit, o.take, o.deliver, o.ack, o.read, o.join, o.server) tt

leads_first : (w rest : List ℕ) → Spelled w → Leads (first_line (keyword_of w) rest) AfterClients (number_or_zero (number (first_word rest)))
leads_first w rest (is_clients e) = rw e (leads_clients rest)
leads_first w rest (is_present e) = rw e tt
leads_first w rest (is_start e) = rw e tt
leads_first w rest (is_edit e) = rw e tt
leads_first w rest (is_take e) = rw e tt
leads_first w rest (is_deliver e) = rw e tt
leads_first w rest (is_ack e) = rw e tt
leads_first w rest (is_read e) = rw e tt
leads_first w rest (is_join e) = rw e tt
leads_first w rest (is_server e) = rw e tt
leads_first w rest (is_other o) = rw (o.clients, o.present, o.start, o.edit, o.take, o.deliver, o.ack, o.read, o.join, o.server) tt

-- ---- line by line

-- the draft of an answer that is right
made : (answer : Answer) (s : Stage) (n : ℕ) (after : Option BodyView) → Leads answer s n → now_drafted answer ≡ Ok after → record { stage = s; clients = n } ≡ reached_of after
made (Ok draft) s n after h e =
    let same : Some draft ≡ after = cc in
    sym h ∙ ap reached_of same
made (Err kind) s n after h e = absurd (cc e)

pub same_clients : (s : Section) (clients : ℕ) (line : List ℕ) → clients ≡ next_clients (stage_of s) clients line
same_clients s clients line = by_section (λ x. clients ≡ next_clients (stage_of x) clients line) refl refl refl s

pub counted_made : (draft after : Option BodyView) (line : List ℕ) → now_drafted (counted_line draft line) ≡ Ok after → counted (reached_of draft) line ≡ reached_of after
counted_made None after line e =
    made (counted_line None line) AfterClients (number_or_zero (number (first_word (after_word line)))) after (leads_first (first_word line) (after_word line) (spelled (first_word line))) e
counted_made (Some draft) after line e =
    rw (sym (same_clients draft.section draft.program.clients line))
    (made (counted_line (Some draft) line) (next_stage (stage_of draft.section) (first_word line)) draft.program.clients after
    (leads_keyword draft.section draft.program (first_word line) (after_word line) (spelled (first_word line))) e)

passed_made : (draft after : Option BodyView) (line : List ℕ) → line_step draft line ≡ Ok after → passed (reached_of draft) line ≡ reached_of after
unfolding line_step
passed_made draft after line e = by (is_utf8 line) (counts (trimmed line)) e
  where
    by : (text some : Bool) → (if text then (if some then now_drafted (counted_line draft (trimmed line)) else Ok draft) else Err BadText) ≡ Ok after
        → (if some then counted (reached_of draft) (trimmed line) else reached_of draft) ≡ reached_of after
    by false some is = absurd (cc is)
    by true false is = let same : draft ≡ after = cc in ap reached_of same
    by true true is = counted_made draft after (trimmed line) is

all_made : (lines : List (List ℕ)) (line : ℕ) (draft after : Option BodyView) → run line draft lines ≡ Ok after → reached_from (reached_of draft) lines ≡ reached_of after
unfolding run reached_from
all_made [] line draft after e = let same : draft ≡ after = cc in ap reached_of same
all_made (l ∷ ls) line draft after e = by (λ next ok. all_made ls (line + 1) next after ok) (line_step draft l) refl e
  where
    by : ((next : Option BodyView) → run (line + 1) next ls ≡ Ok after → reached_from (reached_of next) ls ≡ reached_of after) → (r : Result (Option BodyView) Kind) → line_step draft l ≡ r
        → go_on line r (λ next. run (line + 1) next ls) ≡ Ok after → reached_from (passed (reached_of draft) l) ls ≡ reached_of after
    by below (Ok next) is ok = rw (passed_made draft next l is) (below next ok)
    by below (Err kind) is ok = absurd (cc ok)

pub stages_made : StagesAreMade
stages_made lines number draft makes = all_made (take (number - 1) lines) 1 None draft makes

pub words_taken : WordsAreTaken
words_taken lines number draft line makes text some =
    takes_step draft line text some ∙ ap (λ (r : Reached). is_one_of (first_word (trimmed line)) (words_at r.stage)) (sym (stages_made lines number draft makes))
