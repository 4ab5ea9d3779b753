-- What an instruction that is performed takes of what is left to do.
use Rattle.std.proofs.Common.{◌≡◌, ℕ, suc, ◌+◌, ◌-◌, ◌*◌, ◌<◌, ◌≤◌, List, [], ◌∷◌, ◌++◌, length, take, set, get_or, refl, sym, ap, ◌∙◌, subst, arith, Bool, true, false, Option, Some, None, replicate, length-set}
use Rattle.std.specs.Prelude.{slice_get, sum_by, if◌then◌else◌}
use Rattle.std.specs.Option.{option_map}
use Rattle.std.proofs.lemmas.List.{length_push}
use Rattle.std.proofs.lemmas.List.Folds.{sum_by-replicate}
use Rattle.std.proofs.lemmas.List.Sums.{sum_by-append, sum_by-cons, sum_by-set, sum_by_more, sum_by_more_le}
use Rattle.std.proofs.lemmas.Option.{get_or_from_slice_get, same_Some, slice_get_within}
use Rattle.ot_isa.specs.declared.instruction.Instr.{Instr}
use Rattle.ot_isa.specs.declared.instruction.Instr.TheVariants.{Edit, Take, Deliver, Acknowledge, Read, Join, ReadServer}
use Rattle.ot_isa.specs.declared.elements.Tagged.{Tagged}
use Rattle.ot_model.specs.declared.shown.Shown.{Shown}
use Rattle.ot_model.specs.Operation.{Operation}
use Rattle.ot_model.specs.Table.{Phase, NotJoined, Synchronized, AwaitingConfirm, AwaitingWithBuffer, is_joined, Client, absent, present_with, start_list, State, Message, Outcome, Performed, Refused, NoRow, acknowledged, delivered, edited, joined, message_edited, phase_delivered, phase_edited, tag_operation, taken, with_client, with_row, opening, step}
use Rattle.ot_model.proofs.Outcomes.{by_edit, by_take, by_deliver, by_acknowledge, by_join, by_read, by_read_server}
use Rattle.ot_machine.specs.Readers.{ClientHas}
use Rattle.ot_generate.specs.Left.{in_transit, in_buffer, ahead, work, left, owed, due}

-- a fact of a client as one of its value
pub has : {A : Type 0} (s : State) (c : ℕ) (field : Client → A) (value : A) → ClientHas s c field value → (x : Client) × (slice_get s.clients c ≡ Some x) × (field x ≡ value)
has {A} s c field value h = go (slice_get s.clients c) refl h
  where
    go : (o : Option Client) → slice_get s.clients c ≡ o → option_map field o ≡ Some value → (x : Client) × (slice_get s.clients c ≡ Some x) × (field x ≡ value)
    go None at e = absurd (cc)
    go (Some x) at e = (x, at, same_Some (field x) value e)

pub same_client : (s : State) (c : ℕ) (x y : Client) → slice_get s.clients c ≡ Some x → slice_get s.clients c ≡ Some y → x ≡ y
same_client s c x y a b = same_Some x y (sym a ∙ b)

pub within : {A : Type 0} (s : State) (c : ℕ) (field : Client → A) (value : A) → ClientHas s c field value → c < length s.clients
within s c field value h = let f = has s c field value h in slice_get_within s.clients c f.0 f.1

-- one client more of the sum
pub left_more : (s : State) (c n : ℕ) → ClientHas s c (work (length s.clients) (length s.log)) n
    → (sum_by (work (length s.clients) (length s.log)) (take (c + 1) s.clients) ≡ sum_by (work (length s.clients) (length s.log)) (take c s.clients) + n)
    × (sum_by (work (length s.clients) (length s.log)) (take c s.clients) + n ≤ left s)
left_more s c n h =
    let f = work (length s.clients) (length s.log) in
    let x = has s c f n h in
    let inside = slice_get_within s.clients c x.0 x.1 in
    let is : f (get_or s.clients c x.0) ≡ n = ap f (get_or_from_slice_get s.clients c x.0 x.0 x.1) ∙ x.2 in
    let e = sum_by_more f s.clients c x.0 inside in
    let le = sum_by_more_le f s.clients c x.0 inside in
    (e ∙ ap (λ k. sum_by f (take c s.clients) + k) is, subst (λ k. sum_by f (take c s.clients) + k ≤ left s) is le)

-- a client changed
sum_set : (n logged : ℕ) (clients : List Client) (c : ℕ) (x y : Client) → slice_get clients c ≡ Some x
    → sum_by (work n logged) (set clients c y) + work n logged x ≡ sum_by (work n logged) clients + work n logged y
sum_set n logged clients c x y at =
    let e = sum_by-set (work n logged) clients c y x (slice_get_within clients c x at) in
    subst (λ (z : Client). sum_by (work n logged) (set clients c y) + work n logged z ≡ sum_by (work n logged) clients + work n logged y) (get_or_from_slice_get clients c x x at) e

left_set : (s : State) (c : ℕ) (x y : Client) → slice_get s.clients c ≡ Some x
    → left (with_client s c y) + work (length s.clients) (length s.log) x ≡ left s + work (length s.clients) (length s.log) y
left_set s c x y at =
    let many : left (with_client s c y) ≡ sum_by (work (length s.clients) (length s.log)) (set s.clients c y) =
    ap (λ k. sum_by (work k (length s.log)) (set s.clients c y)) (length-set s.clients c y) in
    ap (λ k. k + work (length s.clients) (length s.log) x) many ∙ sum_set (length s.clients) (length s.log) s.clients c x y at

-- an entry more is one message more for each
ahead_more : (b : Bool) (logged r : ℕ) → (if b then suc logged - r else 0) ≤ suc (if b then logged - r else 0)
ahead_more true logged r = omega arith
ahead_more false logged r = omega arith

work_more : (n logged : ℕ) (x : Client) → work n (suc logged) x ≤ suc (work n logged x)
work_more n logged x = let e = ahead_more (is_joined x.phase) logged x.revision in omega arith

sum_more : (n logged : ℕ) (clients : List Client) → sum_by (work n (suc logged)) clients ≤ sum_by (work n logged) clients + length clients
sum_more n logged [] = omega arith
sum_more n logged (x ∷ clients) =
    let rest = sum_more n logged clients in
    let first = work_more n logged x in
    let a = sum_by-cons (work n (suc logged)) x clients in
    let b = sum_by-cons (work n logged) x clients in
    omega arith

-- what is left, and how many clients and steps there are, after an instruction that takes so much
pub record IsPaid (s : State) (k : ℕ) (t : State) : Type 0 where
  pub pays : suc (left t) ≤ left s + k
  pub clients : length t.clients ≡ length s.clients
  pub steps : t.steps ≡ suc s.steps

abbrev Pays : State → ℕ → Outcome → Type 0
Pays s k (Performed t shown) = IsPaid s k t
Pays s k (Refused r) = Unit {0}
Pays s k NoRow = Unit {0}

-- a row that changes one client
paid_client : (s : State) (c k : ℕ) (x y : Client) → slice_get s.clients c ≡ Some x
    → suc (work (length s.clients) (length s.log) y) ≤ work (length s.clients) (length s.log) x + k → IsPaid s k (with_client s c y)
paid_client s c k x y at le =
    let e = left_set s c x y at in
    record { pays = omega arith; clients = length-set s.clients c y; steps = refl }

-- an edit
edit_work : (n r logged : ℕ) (x : Client) (op : Operation Tagged) (phase : Phase)
    → in_transit n (message_edited phase x op) + in_buffer n (phase_edited phase op) + (if is_joined (phase_edited phase op) then logged - r else 0)
    ≤ in_transit n x.message + in_buffer n phase + (if is_joined phase then logged - r else 0) + suc n
edit_work n r logged x op NotJoined = omega arith
edit_work n r logged x op Synchronized = omega arith
edit_work n r logged x op (AwaitingConfirm o) = omega arith
edit_work n r logged x op (AwaitingWithBuffer o b) = omega arith

one_up : (a b n : ℕ) → a ≤ b + suc n → suc a ≤ b + (n + 2)
one_up a b n le = omega arith

edited_work : (n logged : ℕ) (x : Client) (op : Operation Tagged) → suc (work n logged (edited x op)) ≤ work n logged x + (n + 2)
edited_work n logged x op = one_up (work n logged (edited x op)) (work n logged x) n (edit_work n x.revision logged x op x.phase)

edit_pays : (s : State) (c : ℕ) (op : Operation ℕ) → Pays s (length s.clients + 2) (step s (Edit c op))
edit_pays s c op = by_edit (Pays s (length s.clients + 2)) (λ r. tt) s c op (λ x at below on base few.
    paid_client s c (length s.clients + 2) x (edited x (tag_operation c x.count op)) at (edited_work (length s.clients) (length s.log) x (tag_operation c x.count op)))

-- a delivery
deliver_work : (n r logged message : ℕ) (op : Operation Tagged) (phase : Phase) → r < logged → is_joined phase ≡ true
    → suc (message + in_buffer n (phase_delivered phase op) + (if is_joined (phase_delivered phase op) then logged - suc r else 0))
    ≤ message + in_buffer n phase + (if is_joined phase then logged - r else 0)
deliver_work n r logged message op NotJoined less on = absurd (cc)
deliver_work n r logged message op Synchronized less on = omega arith
deliver_work n r logged message op (AwaitingConfirm o) less on = omega arith
deliver_work n r logged message op (AwaitingWithBuffer o b) less on = omega arith

deliver_pays : (s : State) (c : ℕ) → Pays s 0 (step s (Deliver c))
deliver_pays s c = by_deliver (Pays s 0) (λ r. tt) s c (λ x h at below on head other.
    let n = length s.clients in
    let less = slice_get_within s.log x.revision h head in
    paid_client s c 0 x (delivered x h.op) at (let e = deliver_work n x.revision (length s.log) (in_transit n x.message) h.op x.phase less on in omega arith))

-- an acknowledgement
acknowledge_pays : (s : State) (c : ℕ) → Pays s 0 (step s (Acknowledge c))
acknowledge_pays s c = by_acknowledge (Pays s 0) (λ r. tt) s c (λ x h at below on head own.
    go x at (slice_get_within s.log x.revision h head) x.phase refl)
  where
    go : (x : Client) → slice_get s.clients c ≡ Some x → x.revision < length s.log → (phase : Phase) → x.phase ≡ phase → Pays s 0 (with_row s c (acknowledged x phase))
    go x at less NotJoined is = tt
    go x at less Synchronized is = tt
    go x at less (AwaitingConfirm o) is =
        let n = length s.clients in
        let was : work n (length s.log) x ≡ in_transit n x.message + 0 + (length s.log - x.revision) = rw is refl in
        paid_client s c 0 x (record { revision = suc x.revision; phase = Synchronized; list = x.list; count = x.count; message = x.message }) at (omega arith)
    go x at less (AwaitingWithBuffer o b) is =
        let n = length s.clients in
        let was : work n (length s.log) x ≡ in_transit n x.message + suc n + (length s.log - x.revision) = rw is refl in
        paid_client s c 0 x (record {
          revision = suc x.revision;
          phase = AwaitingConfirm b;
          list = x.list;
          count = x.count;
          message = Some (record { revision = suc x.revision; op = b });
        }) at (omega arith)

-- a join
join_pays : (s : State) (c : ℕ) → Pays s 1 (step s (Join c))
join_pays s c = by_join (Pays s 1) (λ r. tt) s c (λ x at below off.
    let n = length s.clients in
    paid_client s c 1 x (joined s x) at (omega arith))

-- a take
take_pays : (s : State) (c : ℕ) → Pays s 0 (step s (Take c))
take_pays s c = by_take (Pays s 0) (λ r. tt) s c (λ x m at below on sent. go x m _ at sent)
  where
    go : (x : Client) (m : Message) (op : Operation Tagged) → slice_get s.clients c ≡ Some x → x.message ≡ Some m → IsPaid s 0 (taken s c x op)
    go x m op at sent =
        let n = length s.clients in
        let logged = length s.log in
        let y : Client = record { revision = x.revision; phase = x.phase; list = x.list; count = x.count; message = None } in
        let was : work n logged x ≡ suc n + in_buffer n x.phase + ahead logged x = ap (λ o. in_transit n o + in_buffer n x.phase + ahead logged x) sent in
        let one = length_push s.log (record { maker = c; op = op }) in
        let longer : length (s.log ++ record { maker = c; op = op } ∷ []) ≡ suc logged = omega arith in
        let many = length-set s.clients c y in
        let all : left (taken s c x op) ≡ sum_by (work n (suc logged)) (set s.clients c y) =
        ap (λ k. sum_by (work k (length (s.log ++ record { maker = c; op = op } ∷ []))) (set s.clients c y)) many ∙ ap (λ k. sum_by (work n k) (set s.clients c y)) longer in
        let more = sum_more n logged (set s.clients c y) in
        let changed = sum_set n logged s.clients c x y at in
        record { pays = omega arith; clients = many; steps = refl }

pays : (s : State) (i : Instr) → Pays s (due false (length s.clients) i) (step s i)
pays s (Edit c op) = edit_pays s c op
pays s (Take c) = take_pays s c
pays s (Deliver c) = deliver_pays s c
pays s (Acknowledge c) = acknowledge_pays s c
pays s (Join c) = join_pays s c
pays s (Read c) = by_read (Pays s 1) (λ r. tt) s c (λ x at below on. record { pays = omega arith; clients = refl; steps = refl })
pays s ReadServer = by_read_server (Pays s 1) (λ r. tt) s (λ below. record { pays = omega arith; clients = refl; steps = refl })

pub paid : (s t : State) (i : Instr) (shown : Option Shown) → step s i ≡ Performed t shown → IsPaid s (due false (length s.clients) i) t
paid s t i shown row = subst (Pays s (due false (length s.clients) i)) row (pays s i)

-- whether the end is open or not
pub due_open : (n : ℕ) (i : Instr) → due true n i ≡ 1
due_open n (Edit c op) = refl
due_open n (Take c) = refl
due_open n (Deliver c) = refl
due_open n (Acknowledge c) = refl
due_open n (Join c) = refl
due_open n (Read c) = refl
due_open n ReadServer = refl

pub owes : (b : Bool) (s t : State) (i : Instr) (shown : Option Shown) → step s i ≡ Performed t shown → suc (owed b t) ≤ owed b s + due b (length s.clients) i
owes true s t i shown row = let e = due_open (length s.clients) i in omega arith
owes false s t i shown row = (paid s t i shown row).pays

-- nothing is left to do at the opening
zero_times : (n : ℕ) → n * 0 ≡ 0
zero_times n = omega arith

pub nothing_left : (clients present : ℕ) (text : List ℕ) → left (opening clients present text) ≡ 0
nothing_left clients present text =
    let n = length (replicate present (present_with (start_list text)) ++ replicate (clients - present) absent) in
    let a = sum_by-append (work n 0) (replicate present (present_with (start_list text))) (replicate (clients - present) absent) in
    let b = sum_by-replicate (work n 0) present (present_with (start_list text)) in
    let c = sum_by-replicate (work n 0) (clients - present) absent in
    a ∙ omega (arith, b, c, zero_times present, zero_times (clients - present))

pub owes_nothing : (b : Bool) (clients present : ℕ) (text : List ℕ) → owed b (opening clients present text) ≡ 0
owes_nothing true clients present text = refl
owes_nothing false clients present text = nothing_left clients present text
