-- Which words ot_asm takes at the beginning of a line.
use Rattle.std.proofs.Common.{◌≡◌, ◌∙◌, ℕ, Bool, true, false, ◌||◌, nat_le, nat_lt, List, [], ◌∷◌, length, Option, None, Some, Result, Ok, Err, refl}
use Rattle.std.specs.Prelude.{codes, if◌then◌else◌}
use Rattle.std.specs.Str.{bytes_eq, is_utf8}
use Rattle.std.proofs.lemmas.Slice.Eq.{bytes_eq-Decides}
use Rattle.ot_operation.specs.Operation.{Operation}
use Rattle.ot_isa.specs.Program.{Program, opening, with_instr}
use Rattle.ot_isa.specs.declared.instruction.Instr.{Instr}
use Rattle.ot_isa.specs.declared.instruction.Instr.TheVariants as instr
use Rattle.ot_json.specs.declared.fault.OpFault.{OpFault}
use Rattle.ot_json.specs.declared.fault.OpFault.TheVariants as op_fault
use Rattle.ot_asm.specs.Numbers.{number}
use Rattle.ot_asm.specs.Stepping.{Answer, BodyView, at_end, client_line, clients_line, counted_line, drafted, edit_line, first_line, keyword_line, line_step, now_drafted, operation_of_rest, present_at, present_line, pushed, start_at, start_line, string_of_text, with_client, with_edit, with_number, with_start}
use Rattle.ot_asm.specs.Words.{after_word, counts, first_word, keyword_of, trimmed}
use Rattle.ot_asm.specs.declared.fault.Kind.TheVariants.{BadClient, TooLong, TooMany}
use Rattle.ot_asm.specs.declared.section.Section.{Section}
use Rattle.ot_asm.specs.declared.section.Section.TheVariants as section
use Rattle.ot_faults.specs.Laws.{is_one_of, reached_of, stage_of, takes_word}
use Rattle.ot_faults.specs.Nearest.{words_at}
use Rattle.ot_faults.specs.declared.reached.Stage.TheVariants.{Opening}

-- ---- which word a word is

pub record IsOther (w : List ℕ) : Type 0 where
  pub clients : bytes_eq w (codes "clients") ≡ false
  pub present : bytes_eq w (codes "present") ≡ false
  pub start : bytes_eq w (codes "start") ≡ false
  pub edit : bytes_eq w (codes "edit") ≡ false
  pub take : bytes_eq w (codes "take") ≡ false
  pub deliver : bytes_eq w (codes "deliver") ≡ false
  pub ack : bytes_eq w (codes "ack") ≡ false
  pub read : bytes_eq w (codes "read") ≡ false
  pub join : bytes_eq w (codes "join") ≡ false
  pub server : bytes_eq w (codes "read-server") ≡ false

pub data Spelled (w : List ℕ) : Type 0 where
  is_clients : w ≡ codes "clients" → Spelled w
  is_present : w ≡ codes "present" → Spelled w
  is_start : w ≡ codes "start" → Spelled w
  is_edit : w ≡ codes "edit" → Spelled w
  is_take : w ≡ codes "take" → Spelled w
  is_deliver : w ≡ codes "deliver" → Spelled w
  is_ack : w ≡ codes "ack" → Spelled w
  is_read : w ≡ codes "read" → Spelled w
  is_join : w ≡ codes "join" → Spelled w
  is_server : w ≡ codes "read-server" → Spelled w
  is_other : IsOther w → Spelled w

-- the word itself, or not so
is_word : (w word : List ℕ) → (w ≡ word → Spelled w) → (bytes_eq w word ≡ false → Spelled w) → Spelled w
is_word w word here else_so = by (bytes_eq w word) refl
  where
    by : (b : Bool) → bytes_eq w word ≡ b → Spelled w
    by true e = here ((bytes_eq-Decides w word).0 e)
    by false e = else_so e

pub spelled : (w : List ℕ) → Spelled w
spelled w =
    is_word w (codes "clients") is_clients (λ c.
    is_word w (codes "present") is_present (λ p.
    is_word w (codes "start") is_start (λ s.
    is_word w (codes "edit") is_edit (λ e.
    is_word w (codes "take") is_take (λ t.
    is_word w (codes "deliver") is_deliver (λ d.
    is_word w (codes "ack") is_ack (λ a.
    is_word w (codes "read") is_read (λ r.
    is_word w (codes "join") is_join (λ j.
    is_word w (codes "read-server") is_server (λ v.
    is_other (record { clients = c; present = p; start = s; edit = e; take = t; deliver = d; ack = a; read = r; join = j; server = v })))))))))))

pub by_section : (P : Section → Type 0) → P section.AfterClients → P section.AfterPresent → P section.InBody → (s : Section) → P s
by_section P c p b section.AfterClients = c
by_section P c p b section.AfterPresent = p
by_section P c p b section.InBody = b

-- ---- the faults behind the first word

abbrev takes : Answer → Bool
takes answer = takes_word (now_drafted answer)

takes_end : (rest : List ℕ) (answer : Answer) → takes answer ≡ true → takes (at_end rest answer) ≡ true
takes_end [] answer e = e
takes_end (b ∷ bs) answer e = refl

takes_number : (n : Option ℕ) (then_do : ℕ → Answer) → ((k : ℕ) → takes (then_do k) ≡ true) → takes (with_number n then_do) ≡ true
takes_number None then_do e = refl
takes_number (Some k) then_do e = e k

takes_pushed : (program : Program) (i : Instr) → takes (pushed program i) ≡ true
takes_pushed program i = by (nat_le 100000 (length program.instrs))
  where
    by : (full : Bool) → takes (if full then Err TooMany else drafted section.InBody (with_instr program i)) ≡ true
    by true = refl
    by false = refl

takes_client : (clients : ℕ) (rest : List ℕ) (then_do : ℕ → Answer) → ((k : ℕ) → takes (then_do k) ≡ true) → takes (with_client clients rest then_do) ≡ true
takes_client clients rest then_do e = takes_number (number (first_word rest)) (λ k. if nat_lt k clients then then_do k else Err BadClient) (λ k. by k (nat_lt k clients))
  where
    by : (k : ℕ) (known : Bool) → takes (if known then then_do k else Err BadClient) ≡ true
    by k true = e k
    by k false = refl

takes_line : (program : Program) (rest : List ℕ) (make : ℕ → Instr) → takes (client_line program rest make) ≡ true
takes_line program rest make =
    takes_client program.clients rest (λ client. at_end (after_word rest) (pushed program (make client)))
    (λ k. takes_end (after_word rest) (pushed program (make k)) (takes_pushed program (make k)))

takes_operation : (program : Program) (client : ℕ) (op : Result (Operation ℕ) OpFault) → takes (with_edit program client op) ≡ true
takes_operation program client (Ok op) = takes_pushed program (instr.Edit client op)
takes_operation program client (Err op_fault.NotJson) = refl
takes_operation program client (Err op_fault.NotArray) = refl
takes_operation program client (Err (op_fault.BadComponent i)) = refl
takes_operation program client (Err op_fault.TooLong) = refl
takes_operation program client (Err op_fault.Memory) = refl

takes_edit : (program : Program) (rest : List ℕ) → takes (edit_line program rest) ≡ true
takes_edit program rest =
    takes_client program.clients rest (λ client. with_edit program client (operation_of_rest (after_word rest)))
    (λ k. takes_operation program k (operation_of_rest (after_word rest)))

takes_text : (program : Program) (start : Option (List ℕ)) → takes (with_start program start) ≡ true
takes_text program None = refl
takes_text program (Some start) = by (nat_lt 40000 (length start))
  where
    by : (long : Bool) → takes (if long then Err TooLong else drafted section.InBody (opening program.clients program.present start)) ≡ true
    by true = refl
    by false = refl

takes_start : (program : Program) (rest : List ℕ) → takes (start_line program rest) ≡ true
takes_start program rest = takes_text program (string_of_text rest)

takes_present : (program : Program) (rest : List ℕ) → takes (present_line program rest) ≡ true
takes_present program rest =
    takes_number (number (first_word rest)) (λ n. if nat_lt program.clients n then Err BadClient else at_end (after_word rest) (drafted section.AfterPresent (opening program.clients n [])))
    (λ k. by k (nat_lt program.clients k))
  where
    by : (k : ℕ) (many : Bool) → takes (if many then Err BadClient else at_end (after_word rest) (drafted section.AfterPresent (opening program.clients k []))) ≡ true
    by k true = refl
    by k false = takes_end (after_word rest) (drafted section.AfterPresent (opening program.clients k [])) refl

takes_clients : (rest : List ℕ) → takes (clients_line rest) ≡ true
takes_clients rest =
    takes_number (number (first_word rest)) (λ n. if nat_lt n 1 || nat_lt 64 n then Err BadClient else at_end (after_word rest) (drafted section.AfterClients (opening n n [])))
    (λ k. by k (nat_lt k 1 || nat_lt 64 k))
  where
    by : (k : ℕ) (wrong : Bool) → takes (if wrong then Err BadClient else at_end (after_word rest) (drafted section.AfterClients (opening k k []))) ≡ true
    by k true = refl
    by k false = takes_end (after_word rest) (drafted section.AfterClients (opening k k [])) refl

-- ---- the first word

abbrev IsListed : List ℕ → Bool → Section → Type 0
IsListed w taken s = taken ≡ is_one_of w (words_at (stage_of s))

other_listed : (w : List ℕ) (s : Section) → IsOther w → IsListed w false s
other_listed w section.AfterClients o = rw (o.present, o.start, o.edit, o.take, o.deliver, o.ack, o.read, o.server, o.join) refl
other_listed w section.AfterPresent o = rw (o.start, o.edit, o.take, o.deliver, o.ack, o.read, o.server, o.join) refl
other_listed w section.InBody o = rw (o.edit, o.take, o.deliver, o.ack, o.read, o.server, o.join) refl

takes_keyword : (s : Section) (program : Program) (w rest : List ℕ) → Spelled w → IsListed w (takes (keyword_line (record { section = s; program = program }) (keyword_of w) rest)) s
takes_keyword s program w rest (is_clients e) = rw e (by_section (IsListed (codes "clients") false) refl refl refl s)
takes_keyword s program w rest (is_present e) = rw e (by_section (λ x. IsListed (codes "present") (takes (present_at x program rest)) x) (takes_present program rest) refl refl s)
takes_keyword s program w rest (is_start e) = rw e (by_section (λ x. IsListed (codes "start") (takes (start_at x program rest)) x) (takes_start program rest) (takes_start program rest) refl s)
takes_keyword s program w rest (is_edit e) = rw e (takes_edit program rest ∙ by_section (IsListed (codes "edit") true) refl refl refl s)
takes_keyword s program w rest (is_take e) = rw e (takes_line program rest instr.Take ∙ by_section (IsListed (codes "take") true) refl refl refl s)
takes_keyword s program w rest (is_deliver e) = rw e (takes_line program rest instr.Deliver ∙ by_section (IsListed (codes "deliver") true) refl refl refl s)
takes_keyword s program w rest (is_ack e) = rw e (takes_line program rest instr.Acknowledge ∙ by_section (IsListed (codes "ack") true) refl refl refl s)
takes_keyword s program w rest (is_read e) = rw e (takes_line program rest instr.Read ∙ by_section (IsListed (codes "read") true) refl refl refl s)
takes_keyword s program w rest (is_join e) = rw e (takes_line program rest instr.Join ∙ by_section (IsListed (codes "join") true) refl refl refl s)
takes_keyword s program w rest (is_server e) =
    rw e (takes_end rest (pushed program instr.ReadServer) (takes_pushed program instr.ReadServer) ∙ by_section (IsListed (codes "read-server") true) refl refl refl s)
takes_keyword s program w rest (is_other o) = rw (o.clients, o.present, o.start, o.edit, o.take, o.deliver, o.ack, o.read, o.join, o.server) (other_listed w s o)

takes_first : (w rest : List ℕ) → Spelled w → takes (first_line (keyword_of w) rest) ≡ is_one_of w (words_at Opening)
takes_first w rest (is_clients e) = rw e (takes_clients rest)
takes_first w rest (is_present e) = rw e refl
takes_first w rest (is_start e) = rw e refl
takes_first w rest (is_edit e) = rw e refl
takes_first w rest (is_take e) = rw e refl
takes_first w rest (is_deliver e) = rw e refl
takes_first w rest (is_ack e) = rw e refl
takes_first w rest (is_read e) = rw e refl
takes_first w rest (is_join e) = rw e refl
takes_first w rest (is_server e) = rw e refl
takes_first w rest (is_other o) = rw (o.clients, o.present, o.start, o.edit, o.take, o.deliver, o.ack, o.read, o.join, o.server) refl

takes_counted : (draft : Option BodyView) (line : List ℕ) → takes (counted_line draft line) ≡ is_one_of (first_word line) (words_at (reached_of draft).stage)
takes_counted None line = takes_first (first_word line) (after_word line) (spelled (first_word line))
takes_counted (Some draft) line = takes_keyword draft.section draft.program (first_word line) (after_word line) (spelled (first_word line))

pub takes_step : (draft : Option BodyView) (line : List ℕ) → is_utf8 line ≡ true → counts (trimmed line) ≡ true
    → takes_word (line_step draft line) ≡ is_one_of (first_word (trimmed line)) (words_at (reached_of draft).stage)
unfolding line_step
takes_step draft line text some = rw (text, some) (takes_counted draft (trimmed line))
