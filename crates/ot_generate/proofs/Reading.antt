-- The reads at the end, and the whole session.
use Rattle.std.proofs.Common.{◌≡◌, ℕ, zero, suc, ◌+◌, ◌<◌, ◌≤◌, List, [], ◌∷◌, ◌++◌, length, drop, refl, sym, ap, ◌∙◌, subst, arith, Bool, true, false, Some, append_assoc}
use Rattle.std.specs.Prelude.{slice_get, if◌then◌else◌}
use Rattle.std.proofs.lemmas.List.{drop_all, length-append, take_all}
use Rattle.ot_isa.specs.declared.instruction.Instr.{Instr}
use Rattle.ot_isa.specs.declared.instruction.Instr.TheVariants.{Read, ReadServer}
use Rattle.ot_isa.specs.Program.{Program}
use Rattle.ot_model.specs.declared.shown.Shown.{Shown}
use Rattle.ot_model.specs.Table.{Client, State, Outcome, Performed, Refused, NoRow, begin, is_joined, run, IsQuiet, IsQuietClient}
use Rattle.ot_model.specs.Runs.{place_at}
use Rattle.ot_model.proofs.States.{drop_entry}
use Rattle.ot_machine.specs.Orders.{IsWhole}
use Rattle.ot_machine.proofs.Stopping.{whole}
use Rattle.ot_generate.specs.Generated.{reads_from, EndsRead, IsGenerated, IsWandered}
use Rattle.ot_generate.specs.Shapes.{ShapeView}
use Rattle.ot_generate.specs.Walks.{WalkView, IsRead, IsReadAt, IsWalk, opened_up, with_instrs}

-- a read moves nothing
abbrev Stays : State → Outcome → Type 0
Stays s (Performed t shown) = (t.clients ≡ s.clients) × (t.log ≡ s.log)
Stays s (Refused r) = Unit {0}
Stays s NoRow = Unit {0}

with_more : (p : Program) (xs ys : List Instr) → with_instrs (with_instrs p xs) ys ≡ with_instrs p (xs ++ ys)
with_more p xs ys = ap (λ (is : List Instr). record p { instrs = is }) (append_assoc p.instrs xs ys)

pub read_both : (a b d : WalkView) (xs ys : List Instr) → IsRead a xs b → IsRead b ys d → IsRead a (xs ++ ys) d
read_both a b d xs ys first second =
    record {
      recorded = second.recorded ∙ ap (λ (p : Program). with_instrs p ys) first.recorded ∙ with_more a.recorded xs ys;
      clients = second.clients ∙ first.clients;
      log = second.log ∙ first.log;
      room = second.room ∙ first.room;
      is_open = second.is_open ∙ first.is_open;
    }

-- the clients below c are read
pub record IsReadTo (a b : WalkView) (c : ℕ) : Type 0 where
  pub reads : List Instr
  pub read : IsRead a reads b
  pub few : length reads ≤ c
  pub rest : reads ++ reads_from c (drop c a.state.clients) ≡ reads_from 0 a.state.clients

one_read : (c : ℕ) (x : Client) (rest : List Client) (b : Bool) → is_joined x.phase ≡ b
    → reads_from c (x ∷ rest) ≡ (if is_joined x.phase then Read c ∷ [] else []) ++ reads_from (suc c) rest
one_read c x rest true on = rw on refl
one_read c x rest false off = rw off refl

at_most_one : (c : ℕ) (b : Bool) → length (if b then Read c ∷ [] else []) ≤ 1
at_most_one c true = omega arith
at_most_one c false = omega arith

read_to_next : (a b d : WalkView) (c : ℕ) (x : Client) → IsReadTo a b c → slice_get a.state.clients c ≡ Some x → IsRead b (if is_joined x.phase then Read c ∷ [] else []) d → IsReadTo a d (c + 1)
read_to_next a b d c x to at next =
    let more : List Instr = if is_joined x.phase then Read c ∷ [] else [] in
    let clients = a.state.clients in
    let e : reads_from c (drop c clients) ≡ more ++ reads_from (suc c) (drop (suc c) clients) = ap (reads_from c) (drop_entry clients c x at) ∙ one_read c x (drop (suc c) clients) (is_joined x.phase) refl in
    let all : (to.reads ++ more) ++ reads_from (suc c) (drop (suc c) clients) ≡ reads_from 0 clients =
    append_assoc to.reads more (reads_from (suc c) (drop (suc c) clients)) ∙ ap (λ (is : List Instr). to.reads ++ is) (sym e) ∙ to.rest in
    let few = to.few in
    let one = at_most_one c (is_joined x.phase) in
    let same : suc c ≡ c + 1 = omega arith in
    record {
      reads = to.reads ++ more;
      read = read_both a b d to.reads more to.read next;
      few = omega (arith, length-append to.reads more);
      rest = subst (λ k. (to.reads ++ more) ++ reads_from k (drop k clients) ≡ reads_from 0 clients) same all;
    }

there : (xs : List Client) (i : ℕ) → i < length xs → (x : Client) × (slice_get xs i ≡ Some x)
there [] i less = absurd (omega arith)
there (x ∷ xs) zero less = (x, refl)
there (x ∷ xs) (suc i) less = there xs i (omega arith)

pub read_next : (a b d : WalkView) (c : ℕ) → IsReadTo a b c → c < length a.state.clients → IsReadAt b c d → IsReadTo a d (c + 1)
read_next a b d c to less next =
    let x = there a.state.clients c less in
    read_to_next a b d c x.0 to x.1 (next x.0 (ap (λ (xs : List Client). slice_get xs c) to.read.clients ∙ x.1))

pub read_to_end : (a b d : WalkView) (c : ℕ) → IsReadTo a b c → length a.state.clients ≤ c → IsRead b (ReadServer ∷ []) d → IsRead a (reads_from 0 a.state.clients) d
read_to_end a b d c to past last =
    let whole : to.reads ++ ReadServer ∷ [] ≡ reads_from 0 a.state.clients =
    ap (λ (clients : List Client). to.reads ++ reads_from c clients) (sym (drop_all c a.state.clients past)) ∙ to.rest in
    subst (λ (is : List Instr). IsRead a is d) whole (read_both a b d to.reads (ReadServer ∷ []) to.read last)

-- a session's schedule is performed whole, and leads to its state
pub ends_in : (w : WalkView) → IsWalk w → (shown : List Shown) × (place_at w.recorded (length w.recorded.instrs) ≡ Some (record { state = w.state; shown = shown }))
ends_in w kept =
    let p = w.recorded in
    let le : length p.instrs ≤ length p.instrs = omega arith in
    (kept.replays.0, ap (λ is. run is (begin p.clients p.present p.start)) (take_all (length p.instrs) p.instrs le) ∙ kept.replays.1)

pub is_whole : (w : WalkView) → IsWalk w → IsWhole w.recorded
is_whole w kept =
    let end = ends_in w kept in
    let n = length w.recorded.instrs in
    sym (whole w.recorded n (record { state = w.state; shown = end.0 }) (omega arith) (omega arith) end.1).1

still_quiet : (s t : State) → t.clients ≡ s.clients → t.log ≡ s.log → IsQuiet s → IsQuiet t
still_quiet s t clients log quiet c x at on =
    subst (λ entries. IsQuietClient entries x) (sym log) (quiet c x (ap (λ (xs : List Client). slice_get xs c) (sym clients) ∙ at) on)

pub ends_read : (a b : WalkView) → IsQuiet a.state → IsRead (opened_up a) (reads_from 0 a.state.clients) b → IsWalk b → EndsRead (length a.recorded.instrs) b.recorded
ends_read a b quiet read kept =
    let end = ends_in b kept in
    record {
      end = record { state = b.state; shown = end.0 };
      at_end = end.1;
      quiet = still_quiet a.state b.state read.clients read.log quiet;
      before = a.recorded.instrs;
      reads = ap (λ (p : Program). p.instrs) read.recorded ∙ ap (λ (clients : List Client). a.recorded.instrs ++ reads_from 0 clients) (sym read.clients);
      many_is = refl;
    }

pub generated_open : (shape : ShapeView) (w : WalkView) → IsWandered shape w → IsWalk w → shape.is_open ≡ true → IsGenerated shape w.recorded
generated_open shape w walked kept on =
    record {
      clients = walked.clients;
      present = walked.present;
      start = walked.start;
      whole = is_whole w kept;
      is_open = λ _. walked.many;
      closed = λ off. absurd (let clash = sym on ∙ off in cc);
    }
