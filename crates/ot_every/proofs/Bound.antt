-- How many instructions a session has at most: an edit counts itself, its take and its receipt by each client, and each client that is not
-- present joins once.
use Rattle.std.proofs.Common.{◌≡◌, ℕ, suc, ◌+◌, ◌-◌, ◌*◌, ◌≤◌, List, [], ◌∷◌, length, set, replicate, refl, sym, ap, ◌∙◌, subst, arith, Some, Bool, true, false, cond, length-append}
use Rattle.std.specs.Prelude.{slice_get, sum_by, count_by}
use Rattle.std.proofs.lemmas.List.{length-map, length-replicate}
use Rattle.std.proofs.lemmas.List.Folds.{sum_by-replicate}
use Rattle.std.proofs.lemmas.List.Sums.{sum_by-append, sum_by-cons, sum_by-set}
use Rattle.std.proofs.lemmas.Option.{get_or_from_slice_get, slice_get_within}
use Rattle.ot_isa.specs.declared.instruction.Instr.{Instr}
use Rattle.ot_isa.specs.declared.instruction.Instr.TheVariants.{Edit, Take, Deliver, Acknowledge, Join, Read, ReadServer}
use Rattle.ot_model.specs.Table.{Phase, NotJoined, Synchronized, AwaitingConfirm, AwaitingWithBuffer, is_joined, Client, absent, present_with, start_list, State, Place, Outcome, Performed, Refused, NoRow, acknowledged, delivered, edited, joined, tag_operation, with_row, opening, begin, step, run, with_shown}
use Rattle.ot_model.proofs.States.{joined_edited, joined_delivered}
use Rattle.ot_model.proofs.Outcomes.{by_edit, by_take, by_deliver, by_acknowledge, by_join, by_read, by_read_server}
use Rattle.ot_model.proofs.Exchanging.{emptied}
use Rattle.ot_model.proofs.Awaiting.{run_first}
use Rattle.ot_letters.specs.Letters.{mapped_instr, mapped_instrs}
use Rattle.ot_letters.specs.Alike.{blank}
use Rattle.ot_generate.specs.Left.{left, due}
use Rattle.ot_generate.proofs.Owing.{paid, nothing_left}
use Rattle.ot_every.specs.Listing.{Space, most}
use Rattle.ot_every.specs.Laws.{is_edit, is_read, IsSpace}
use Rattle.ot_every.proofs.Complete.{other_counts}

-- a client that has not joined counts one
abbrev away : Client → ℕ
away x = cond (is_joined x.phase) 0 1

abbrev absents : State → ℕ
absents s = sum_by away s.clients

abbrev joins : Instr → ℕ
joins (Edit c op) = 0
joins (Take c) = 0
joins (Deliver c) = 0
joins (Acknowledge c) = 0
joins (Join c) = 1
joins (Read c) = 0
joins ReadServer = 0

-- as many fewer have not joined
abbrev Fewer : State → ℕ → Outcome → Type 0
Fewer s k (Performed t shown) = absents t + k ≤ absents s
Fewer s k (Refused r) = Unit {0}
Fewer s k NoRow = Unit {0}

sum_set : (clients : List Client) (c : ℕ) (x y : Client) → slice_get clients c ≡ Some x → sum_by away (set clients c y) + away x ≡ sum_by away clients + away y
sum_set clients c x y at =
    subst (λ (z : Client). sum_by away (set clients c y) + away z ≡ sum_by away clients + away y) (get_or_from_slice_get clients c x x at) (sum_by-set away clients c y x (slice_get_within clients c x at))

fewer_client : (s : State) (c k : ℕ) (x y : Client) → slice_get s.clients c ≡ Some x → away y + k ≤ away x → sum_by away (set s.clients c y) + k ≤ absents s
fewer_client s c k x y at le = let e = sum_set s.clients c x y at in omega (arith, le, e)

here_counts : (x : Client) → is_joined x.phase ≡ true → away x ≡ 0
here_counts x on = rw on refl

fewer : (s : State) (i : Instr) → Fewer s (joins i) (step s i)
fewer s (Edit c op) = by_edit (Fewer s 0) (λ r. tt) s c op (λ x at below on base few.
    let y = edited x (tag_operation c x.count op) in
    let none = here_counts y (joined_edited x.phase (tag_operation c x.count op) on) in
    fewer_client s c 0 x y at (omega (arith, none)))
fewer s (Take c) = by_take (Fewer s 0) (λ r. tt) s c (λ x m at below on sent. fewer_client s c 0 x (emptied x) at (omega arith))
fewer s (Deliver c) = by_deliver (Fewer s 0) (λ r. tt) s c (λ x h at below on head other.
    let none = here_counts (delivered x h.op) (joined_delivered x.phase h.op on) in
    fewer_client s c 0 x (delivered x h.op) at (omega (arith, none)))
fewer s (Acknowledge c) = by_acknowledge (Fewer s 0) (λ r. tt) s c (λ x h at below on head own. go x at x.phase)
  where
    go : (x : Client) → slice_get s.clients c ≡ Some x → (phase : Phase) → Fewer s 0 (with_row s c (acknowledged x phase))
    go x at NotJoined = tt
    go x at Synchronized = tt
    go x at (AwaitingConfirm o) = fewer_client s c 0 x (record { revision = suc x.revision; phase = Synchronized; list = x.list; count = x.count; message = x.message }) at (omega arith)
    go x at (AwaitingWithBuffer o b) =
        fewer_client s c 0 x (record { revision = suc x.revision; phase = AwaitingConfirm b; list = x.list; count = x.count; message = Some (record { revision = suc x.revision; op = b }) }) at (omega arith)
fewer s (Join c) = by_join (Fewer s 1) (λ r. tt) s c (λ x at below off.
    let one : away x ≡ 1 = rw off refl in
    fewer_client s c 1 x (joined s x) at (omega (arith, one)))
fewer s (Read c) = by_read (Fewer s 0) (λ r. tt) s c (λ x at below on. omega arith)
fewer s ReadServer = by_read_server (Fewer s 0) (λ r. tt) s (λ below. omega arith)

-- what an instruction adds to the work that is left and the joins that are due
abbrev adds : ℕ → Instr → ℕ
adds n i = cond (is_edit i) (n + 2) 0

due_adds : (n : ℕ) (i : Instr) → is_read i ≡ false → due false n i ≤ adds n i + joins i
due_adds n (Edit c op) unread = omega arith
due_adds n (Take c) unread = omega arith
due_adds n (Deliver c) unread = omega arith
due_adds n (Acknowledge c) unread = omega arith
due_adds n (Join c) unread = omega arith
due_adds n (Read c) unread = absurd (cc)
due_adds n ReadServer unread = absurd (cc)

times_suc : (k m : ℕ) → suc k * m ≡ m + k * m
times_suc k m = grind arith

zero_more : (m : ℕ) → 0 + m ≡ m
zero_more m = omega arith

count_adds : (n : ℕ) (i : Instr) (is : List Instr) → count_by is_edit (i ∷ is) * (n + 2) ≡ adds n i + count_by is_edit is * (n + 2)
count_adds n i is = go (is_edit i) refl
  where
    go : (b : Bool) → is_edit i ≡ b → count_by is_edit (i ∷ is) * (n + 2) ≡ cond (is_edit i) (n + 2) 0 + count_by is_edit is * (n + 2)
    go true on =
        let e = sum_by-cons (λ (x : Instr). cond (is_edit x) 1 0) i is in
        let one : ◌≡◌ {A = ℕ} (cond (is_edit i) 1 0) 1 = rw on refl in
        let more : count_by is_edit (i ∷ is) ≡ suc (count_by is_edit is) = omega (arith, e, one) in
        let all : ◌≡◌ {A = ℕ} (cond (is_edit i) (n + 2) 0) (n + 2) = rw on refl in
        ap (λ k. k * (n + 2)) more ∙ times_suc (count_by is_edit is) (n + 2) ∙ ap (λ k. k + count_by is_edit is * (n + 2)) (sym all)
    go false off =
        let none : ◌≡◌ {A = ℕ} (cond (is_edit i) (n + 2) 0) 0 = rw off refl in
        ap (λ k. k * (n + 2)) (other_counts i is off) ∙ sym (ap (λ k. k + count_by is_edit is * (n + 2)) none ∙ zero_more (count_by is_edit is * (n + 2)))

-- none of the instructions reads
abbrev pub AreUnread : List Instr → Type 0
AreUnread [] = Unit {0}
AreUnread (i ∷ is) = (is_read i ≡ false) × AreUnread is

-- along a run
along : (n : ℕ) (is : List Instr) (p q : Place) → length p.state.clients ≡ n → AreUnread is → run is p ≡ Some q
    → length is ≤ (left p.state + absents p.state) + count_by is_edit is * (n + 2)
along n [] p q many unread e = omega arith
along n (i ∷ is) p q many unread e =
    let f = run_first i is p q e in
    let pays = paid p.state f.0 i f.1 f.2 in
    let cost = pays.pays in
    let same = ap (λ k. due false k i) many in
    let fewer_now : absents f.0 + joins i ≤ absents p.state = subst (Fewer p.state (joins i)) f.2 (fewer p.state i) in
    let rest = along n is (record { state = f.0; shown = with_shown p.shown f.1 }) q (pays.clients ∙ many) unread.1 f.3 in
    let first = due_adds n i unread.0 in
    let counts = count_adds n i is in
    omega (arith, cost, same, fewer_now, rest, first, counts)

pub opening_clients : (clients present : ℕ) (text : List ℕ) → present ≤ clients → length (opening clients present text).clients ≡ clients
opening_clients clients present text le =
    let a = length-append (replicate present (present_with (start_list text))) (replicate (clients - present) absent) in
    let b = length-replicate present (present_with (start_list text)) in
    let c = length-replicate (clients - present) absent in
    omega (arith, a, b, c, le)

times_zero : (n : ℕ) → n * 0 ≡ 0
times_zero n = omega arith

times_one : (n : ℕ) → n * 1 ≡ n
times_one n = omega arith

opening_absents : (clients present : ℕ) (text : List ℕ) → absents (opening clients present text) ≡ clients - present
opening_absents clients present text =
    let a = sum_by-append away (replicate present (present_with (start_list text))) (replicate (clients - present) absent) in
    let b = sum_by-replicate away present (present_with (start_list text)) in
    let c = sum_by-replicate away (clients - present) absent in
    a ∙ omega (arith, b, c, times_zero present, times_one (clients - present))

pub bounded : (space : Space) (start : List ℕ) (is : List Instr) (q : Place) → IsSpace space → run is (begin space.clients space.present start) ≡ Some q → AreUnread is
    → length (mapped_instrs blank is) ≤ most space (count_by is_edit is)
bounded space start is q asked e unread =
    let many = opening_clients space.clients space.present start asked.present in
    let r = along space.clients is (begin space.clients space.present start) q many unread e in
    let nothing = nothing_left space.clients space.present start in
    let absent = opening_absents space.clients space.present start in
    let same = length-map is (mapped_instr blank) in
    omega (arith, r, nothing, absent, same)
