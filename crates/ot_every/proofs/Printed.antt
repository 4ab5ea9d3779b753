-- The schedule that is printed of a session is performed whole, and ends settled.
use Rattle.std.proofs.Common.{◌≡◌, ℕ, zero, suc, ◌+◌, ◌-◌, ◌*◌, ◌<◌, ◌≤◌, List, [], ◌∷◌, ◌++◌, length, map, refl, sym, ap, ◌∙◌, arith, get_or, replicate, length-append, Option, Some, true, cond}
use Rattle.std.specs.Prelude.{◌&&◌, nat_le, slice_get, count_by}
use Rattle.std.specs.List.{All, flat_map, range_with_len}
use Rattle.std.proofs.lemmas.Bool.{lt-leb, leb-true}
use Rattle.std.proofs.lemmas.List.{length-replicate}
use Rattle.std.proofs.lemmas.List.Elements.{All-append, All-cons, All-nil}
use Rattle.std.proofs.lemmas.List.Sums.{sum_by-append}
use Rattle.std.proofs.lemmas.Option.{same_Some, slice_get-get_or}
use Rattle.ot_isa.specs.declared.instruction.Instr.{Instr}
use Rattle.ot_isa.specs.declared.instruction.Instr.TheVariants.{Read, ReadServer}
use Rattle.ot_model.specs.declared.shown.Reader.TheVariants as reader
use Rattle.ot_model.specs.declared.shown.Shown.{Shown}
use Rattle.ot_model.specs.Table.{absent, Client, State, Place, Performed, is_joined, begin, opening, present_with, start_list, run, step, with_shown}
use Rattle.ot_model.proofs.Awaiting.{run_first}
use Rattle.ot_model.proofs.Exchanging.{one_on, read_server_now}
use Rattle.ot_model.proofs.Reordering.{run_then}
use Rattle.ot_model.proofs.Runs.{run-append}
use Rattle.ot_generate.proofs.Owing.{paid}
use Rattle.ot_every.specs.Listing.{is_settled, Space, texts_from, sessions_of, most, sessions}
use Rattle.ot_every.specs.Laws.{is_edit, IsSmall, IsSpace, IsSession}
use Rattle.ot_every.specs.Printed.{reads, schedule_of, PrintedAreSessions}
use Rattle.ot_every.specs.Spaces.{is_space}
use Rattle.ot_every.proofs.Complete.{other_counts}
use Rattle.ot_every.proofs.Lists.{IsIn, all_in, flat_cases, range_cases}
use Rattle.ot_every.proofs.Listed.{listed_goes}
use Rattle.ot_every.proofs.Machines.{both_true}
use Rattle.ot_every.proofs.Quiet.{settled_is}
use Rattle.ot_every.proofs.Valid.{goes_edits, goes_runs, goes_small, have_letters, length_texts, texts_long}

-- ---- the reads of each client and of the server, which has so many clients from number c on

abbrev reads_from : ℕ → ℕ → List Instr
reads_from c n = map Read (range_with_len c n) ++ ReadServer ∷ []

read_on : (s : State) (c : ℕ) (x : Client) → slice_get s.clients c ≡ Some x → s.steps < 1000000 → is_joined x.phase ≡ true → step s (Read c) ≡ Performed (one_on s) (Some (record { who = reader.Client c; list = x.list }))
read_on s c x at below on = rw (at, lt-leb 1000000 s.steps below, on) refl

reads_run : (n c : ℕ) (p : Place) → is_settled p.state ≡ true → c + n ≡ length p.state.clients → p.state.steps + n < 1000000 → (q : Place) × (run (reads_from c n) p ≡ Some q) × (is_settled q.state ≡ true)
reads_run zero c p settled all room =
    let shown : Option Shown = Some (record { who = reader.Server; list = p.state.server }) in
    let q : Place = record { state = one_on p.state; shown = with_shown p.shown shown } in
    (q, run_then ReadServer [] p (one_on p.state) shown (read_server_now p.state (omega (arith, room))), settled)
reads_run (suc n) c p settled all room =
    let x = get_or p.state.clients c absent in
    let at : slice_get p.state.clients c ≡ Some x = slice_get-get_or p.state.clients c absent (omega (arith, all)) in
    let shown : Option Shown = Some (record { who = reader.Client c; list = x.list }) in
    let there : Place = record { state = one_on p.state; shown = with_shown p.shown shown } in
    let rest = reads_run n (c + 1) there settled (omega (arith, all)) (omega (arith, room)) in
    (rest.0, run_then (Read c) (reads_from (c + 1) n) p (one_on p.state) shown (read_on p.state c x at (omega (arith, room)) ((settled_is p.state settled).joined c x at)) ∙ rest.1, rest.2)

no_edits : (n c : ℕ) → count_by is_edit (reads_from c n) ≡ 0
no_edits zero c = other_counts ReadServer [] refl
no_edits (suc n) c = other_counts (Read c) (reads_from (c + 1) n) refl ∙ no_edits n (c + 1)

all_small : (letters inserts n c : ℕ) → All (IsSmall letters inserts) (reads_from c n)
all_small letters inserts zero c = All-cons (IsSmall letters inserts) ReadServer [] tt (All-nil (IsSmall letters inserts))
all_small letters inserts (suc n) c = All-cons (IsSmall letters inserts) (Read c) (reads_from (c + 1) n) tt (all_small letters inserts n (c + 1))

one_run : (is js : List Instr) (p q r : Place) → run is p ≡ Some q → run js q ≡ Some r → run (is ++ js) p ≡ Some r
one_run is js p q r first second = run-append is js p q first ∙ second

-- ---- how many clients and steps there are after a run

run_counts : (is : List Instr) (p q : Place) → run is p ≡ Some q → (length q.state.clients ≡ length p.state.clients) × (q.state.steps ≡ p.state.steps + length is)
run_counts [] p q e =
    let same = sym (same_Some p q e) in
    let steps = ap (λ (w : Place). w.state.steps) same in
    (ap (λ (w : Place). length w.state.clients) same, omega (arith, steps))
run_counts (i ∷ is) p q e =
    let f = run_first i is p q e in
    let one = paid p.state f.0 i f.1 f.2 in
    let rest = run_counts is (record { state = f.0; shown = with_shown p.shown f.1 }) q f.3 in
    let a = one.steps in
    let b = rest.1 in
    (rest.0 ∙ one.clients, omega (arith, a, b))

opening_clients : (clients present : ℕ) (text : List ℕ) → present ≤ clients → length (opening clients present text).clients ≡ clients
opening_clients clients present text le =
    let a = length-append (replicate present (present_with (start_list text))) (replicate (clients - present) absent) in
    let b = length-replicate present (present_with (start_list text)) in
    let d = length-replicate (clients - present) absent in
    omega (arith, a, b, d, le)

-- ---- a space that may be asked for

pub record IsAskable (space : Space) : Type 0 where
  pub space_is : IsSpace space
  pub clients : space.clients ≤ 4
  pub edits : space.edits ≤ 6

askable : (s : Space) → is_space s ≡ true → IsAskable s
askable s e =
    let a = both_true (nat_le 1 s.clients) (nat_le s.clients 4 && (nat_le s.present s.clients && (nat_le (length s.start) 8 && (nat_le s.edits 6 && (nat_le s.inserts 8 && (nat_le 1 s.letters && nat_le s.letters 8)))))) e in
    let b = both_true (nat_le s.clients 4) (nat_le s.present s.clients && (nat_le (length s.start) 8 && (nat_le s.edits 6 && (nat_le s.inserts 8 && (nat_le 1 s.letters && nat_le s.letters 8))))) a.1 in
    let c = both_true (nat_le s.present s.clients) (nat_le (length s.start) 8 && (nat_le s.edits 6 && (nat_le s.inserts 8 && (nat_le 1 s.letters && nat_le s.letters 8)))) b.1 in
    let d = both_true (nat_le (length s.start) 8) (nat_le s.edits 6 && (nat_le s.inserts 8 && (nat_le 1 s.letters && nat_le s.letters 8))) c.1 in
    let f = both_true (nat_le s.edits 6) (nat_le s.inserts 8 && (nat_le 1 s.letters && nat_le s.letters 8)) d.1 in
    let g = both_true (nat_le s.inserts 8) (nat_le 1 s.letters && nat_le s.letters 8) f.1 in
    let h = both_true (nat_le 1 s.letters) (nat_le s.letters 8) g.1 in
    let clients = leb-true s.clients 4 b.0 in
    let present = leb-true s.present s.clients c.0 in
    let start = leb-true (length s.start) 8 d.0 in
    let edits = leb-true s.edits 6 f.0 in
    let letters = leb-true 1 s.letters h.0 in
    record { space_is = record { clients = omega (arith, clients); present = present; start = omega (arith, start); letters = letters }; clients = clients; edits = edits }

few_instrs : (clients present edits : ℕ) → clients ≤ 4 → edits ≤ 6 → edits * (clients + 2) + (clients - present) ≤ 1000
few_instrs clients present edits a b = let c : edits * (clients + 2) ≤ 6 * 6 = grind arith in omega (arith, a, c)

-- ---- the sessions

pub printed_are_sessions : PrintedAreSessions
printed_are_sessions space asked = all_in (λ is. IsSession space space.start (schedule_of space is).instrs) (sessions space) (λ is h. go is h (askable space asked))
  where
    go : (is : List Instr) → IsIn is (sessions space) → IsAskable space → IsSession space space.start (schedule_of space is).instrs
    go is h ask =
        let f = flat_cases (λ edits. flat_map (sessions_of space edits) (range_with_len 0 (suc (most space edits)))) is (range_with_len 0 (suc space.edits)) h in
        let g = flat_cases (sessions_of space f.0) is (range_with_len 0 (suc (most space f.0))) f.2 in
        let edits = (range_cases 0 (suc space.edits) f.0 f.1).1 in
        let count = (range_cases 0 (suc (most space f.0)) g.0 g.1).1 in
        let texts = texts_from space.letters 0 f.0 in
        let start = begin space.clients space.present space.start in
        let goes = listed_goes space.inserts g.0 texts [] start.state is (have_letters space.letters 0 f.0 ask.space_is.letters) g.2 in
        let r = goes_runs space.inserts texts [] start is goes.1 in
        let counts = run_counts is start r.0 r.1 in
        let clients = counts.0 ∙ opening_clients space.clients space.present space.start ask.space_is.present in
        let steps = counts.1 in
        let long = goes.0 in
        let few_clients = ask.clients in
        let few_edits = ask.edits in
        let most_few = few_instrs space.clients space.present f.0 few_clients (omega (arith, few_edits, edits)) in
        let room : r.0.state.steps + space.clients < 1000000 = omega (arith, steps, long, count, most_few, few_clients) in
        let last = reads_run space.clients 0 r.0 r.2 (omega (arith, clients)) room in
        let made = goes_edits space.inserts texts [] start.state is goes.1 in
        let many = length_texts space.letters 0 f.0 in
        let sum = sum_by-append (λ (i : Instr). cond (is_edit i) 1 0) is (reads space.clients) in
        let none = no_edits space.clients 0 in
        record {
          place = last.0;
          runs = one_run is (reads space.clients) start r.0 last.0 r.1 last.1;
          settled = settled_is last.0.state last.2;
          few = omega (arith, made, many, sum, none, edits);
          small = All-append (IsSmall space.letters space.inserts) is (reads space.clients) (goes_small space.letters space.inserts texts [] start.state is (texts_long space.letters 0 f.0) goes.1) (all_small space.letters space.inserts space.clients 0);
        }
