-- How many instructions are still to come: what each instruction takes of it, and that no session goes on where they cannot be so many.
use Rattle.std.proofs.Common.{◌≡◌, ℕ, zero, suc, ◌+◌, ◌-◌, ◌*◌, ◌<◌, ◌≤◌, List, [], ◌∷◌, length, take, drop, map, set, get_or, refl, sym, ap, ap₂, ◌∙◌, subst, arith, inl, inr, Option, Some, None, Bool, true, false, cond, length-set}
use Rattle.std.specs.Prelude.{◌⊎◌, slice_get, sum_by, count_by, if◌then◌else◌}
use Rattle.std.specs.Option.{option_map}
use Rattle.std.proofs.lemmas.List.{length_push, length-map}
use Rattle.std.proofs.lemmas.List.Sums.{sum_by-cons, sum_by-set, sum_by_more, sum_by_more_le}
use Rattle.std.proofs.lemmas.Option.{get_or_from_slice_get, slice_get_within}
use Rattle.ot_operation.specs.Operation.{IsOperation}
use Rattle.ot_isa.specs.declared.elements.Tagged.{Tagged}
use Rattle.ot_isa.specs.declared.instruction.Instr.{Instr}
use Rattle.ot_isa.specs.declared.instruction.Instr.TheVariants.{Edit, Take, Deliver, Acknowledge, Join, Read, ReadServer}
use Rattle.ot_model.specs.declared.shown.Shown.{Shown}
use Rattle.ot_model.specs.Operation.{Operation}
use Rattle.ot_model.specs.Table.{Phase, NotJoined, Synchronized, AwaitingConfirm, AwaitingWithBuffer, is_joined, Client, State, Entry, Message, Performed, acknowledged, delivered, downlink, edited, head_for, joined, message_edited, phase_edited, phase_delivered, tag_operation, taken, with_client, with_row, step}
use Rattle.ot_model.specs.Sound.{IsSound, IsInstr, IsSent, IsPhaseSound, NoneBy}
use Rattle.ot_server.specs.History.{transform_over}
use Rattle.ot_model.proofs.States.{drop_entry, joined_edited, joined_delivered}
use Rattle.ot_model.proofs.Exchanging.{emptied}
use Rattle.ot_model.proofs.Outcomes.{by_edit, by_take, by_deliver, by_acknowledge, by_join}
use Rattle.ot_model.proofs.Reordering.{sound_after}
use Rattle.ot_machine.specs.Readers.{ClientHas, phase_name}
use Rattle.ot_machine.specs.declared.state.Phase as shown
use Rattle.ot_generate.specs.Left.{in_transit, in_buffer}
use Rattle.ot_every.specs.Due as counts
use Rattle.ot_every.specs.Due.{due_of, due, MayEnd}
use Rattle.ot_every.specs.Forms.{forms}
use Rattle.ot_every.specs.Listing.{Earlier, at_clients, candidates, edits, is_empty, is_settled, sessions_from, takes, texts_after}
use Rattle.ot_every.proofs.Lists.{IsIn, in_cases, map_cases}
use Rattle.ot_every.proofs.Forms.{forms_rise}
use Rattle.ot_every.proofs.Machines.{both_true}
use Rattle.ot_every.proofs.Nothing.{none_from}
use Rattle.ot_every.proofs.Quiet.{settled_is}
use Rattle.ot_every.proofs.Settling.{has, same_client}

-- ---- a client changed

sum_set : (f : Client → ℕ) (clients : List Client) (c : ℕ) (x y : Client) → slice_get clients c ≡ Some x → sum_by f (set clients c y) + f x ≡ sum_by f clients + f y
sum_set f clients c x y at =
    subst (λ (z : Client). sum_by f (set clients c y) + f z ≡ sum_by f clients + f y) (get_or_from_slice_get clients c x x at) (sum_by-set f clients c y x (slice_get_within clients c x at))

abbrev here : Client → ℕ
here x = cond (is_joined x.phase) 1 0

joined_set : (s : State) (c : ℕ) (x y : Client) (log : List Entry) (server : List Tagged) → slice_get s.clients c ≡ Some x → is_joined y.phase ≡ is_joined x.phase
    → counts.joined (record { log = log; server = server; clients = set s.clients c y; steps = suc s.steps }) ≡ counts.joined s
joined_set s c x y log server at same =
    let e = sum_set here s.clients c x y at in
    let h : here y ≡ here x = ap (λ (b : Bool). cond b 1 0) same in
    omega (arith, e, h)

due_set : (s : State) (c : ℕ) (x y : Client) → slice_get s.clients c ≡ Some x → is_joined y.phase ≡ is_joined x.phase
    → due (with_client s c y) + due_of (counts.joined s) (length s.log) x ≡ due s + due_of (counts.joined s) (length s.log) y
due_set s c x y at same =
    let many : due (with_client s c y) ≡ sum_by (due_of (counts.joined s) (length s.log)) (set s.clients c y) =
    ap (λ (n : ℕ). sum_by (due_of n (length s.log)) (set s.clients c y)) (joined_set s c x y s.log s.server at same) in
    let e = sum_set (due_of (counts.joined s) (length s.log)) s.clients c x y at in
    omega (arith, many, e)

-- an entry more is one message more for each who has joined
one_more : (b : Bool) (l r : ℕ) → r ≤ l → (if b then suc l - r else 1) ≡ (if b then l - r else 1) + cond b 1 0
one_more true l r le = omega (arith, le)
one_more false l r le = omega arith

longer_sum : (n l : ℕ) (clients : List Client) → ((c : ℕ) (x : Client) → slice_get clients c ≡ Some x → x.revision ≤ l) → sum_by (due_of n (suc l)) clients ≡ sum_by (due_of n l) clients + sum_by here clients
longer_sum n l [] within = refl
longer_sum n l (x ∷ clients) within =
    let rest = longer_sum n l clients (λ c y at. within (suc c) y at) in
    let first = one_more (is_joined x.phase) l x.revision (within 0 x refl) in
    let a = sum_by-cons (due_of n (suc l)) x clients in
    let b = sum_by-cons (due_of n l) x clients in
    let d = sum_by-cons here x clients in
    omega (arith, rest, first, a, b, d)

-- ---- what an instruction takes and adds

-- a receipt or a take was due
pub record IsNearer (s t : State) : Type 0 where
  pub here_now : counts.joined t ≡ counts.joined s
  pub clients : length t.clients ≡ length s.clients
  pub cost : suc (due t) ≡ due s

-- an edit adds a take and its receipts, or nothing
pub record IsEdited (s t : State) : Type 0 where
  pub here_now : counts.joined t ≡ counts.joined s
  pub clients : length t.clients ≡ length s.clients
  pub cost : (due t ≡ due s) ⊎ (due t ≡ due s + suc (counts.joined s))

-- a join was due, and may add receipts
pub record IsGrown (s t : State) : Type 0 where
  pub here_now : counts.joined t ≡ suc (counts.joined s)
  pub clients : length t.clients ≡ length s.clients
  pub cost : due s ≤ suc (due t)

nearer_client : (s : State) (c : ℕ) (x y : Client) → slice_get s.clients c ≡ Some x → is_joined y.phase ≡ is_joined x.phase
    → suc (due_of (counts.joined s) (length s.log) y) ≡ due_of (counts.joined s) (length s.log) x → IsNearer s (with_client s c y)
nearer_client s c x y at same less =
    let e = due_set s c x y at same in
    record { here_now = joined_set s c x y s.log s.server at same; clients = length-set s.clients c y; cost = omega (arith, e, less) }

-- an edit
sends : (n k : ℕ) (m : Option Message) → (suc n + 0 + k ≡ in_transit n m + 0 + k) ⊎ (suc n + 0 + k ≡ in_transit n m + 0 + k + suc n)
sends n k None = inr (omega arith)
sends n k (Some m) = inl refl

edit_adds : (n k : ℕ) (x : Client) (op : Operation Tagged) (phase : Phase) → is_joined phase ≡ true
    → (in_transit n (message_edited phase x op) + in_buffer n (phase_edited phase op) + (if is_joined (phase_edited phase op) then k else 1) ≡ in_transit n x.message + in_buffer n phase + (if is_joined phase then k else 1))
    ⊎ (in_transit n (message_edited phase x op) + in_buffer n (phase_edited phase op) + (if is_joined (phase_edited phase op) then k else 1) ≡ in_transit n x.message + in_buffer n phase + (if is_joined phase then k else 1) + suc n)
edit_adds n k x op NotJoined on = absurd (cc)
edit_adds n k x op Synchronized on = sends n k x.message
edit_adds n k x op (AwaitingConfirm o) on = inr (omega arith)
edit_adds n k x op (AwaitingWithBuffer o b) on = inl refl

edit_due : (s : State) (c : ℕ) (x : Client) (op : Operation Tagged) → slice_get s.clients c ≡ Some x → is_joined x.phase ≡ true → IsEdited s (with_client s c (edited x op))
edit_due s c x op at on =
    let y = edited x op in
    let n = counts.joined s in
    let l = length s.log in
    let same : is_joined y.phase ≡ is_joined x.phase = joined_edited x.phase op on ∙ sym on in
    let e = due_set s c x y at same in
    record {
      here_now = joined_set s c x y s.log s.server at same;
      clients = length-set s.clients c y;
      cost = elim (edit_adds n (l - x.revision) x op x.phase on) [
        | inl none ↦ inl (let f : due_of n l y ≡ due_of n l x = none in omega (arith, e, f))
        | inr more ↦ inr (let f : due_of n l y ≡ due_of n l x + suc n = more in omega (arith, e, f))
      ];
    }

-- a delivery
deliver_takes : (n l r m : ℕ) (op : Operation Tagged) (phase : Phase) → r < l → is_joined phase ≡ true
    → suc (m + in_buffer n (phase_delivered phase op) + (if is_joined (phase_delivered phase op) then l - suc r else 1)) ≡ m + in_buffer n phase + (if is_joined phase then l - r else 1)
deliver_takes n l r m op NotJoined less on = absurd (cc)
deliver_takes n l r m op Synchronized less on = omega (arith, less)
deliver_takes n l r m op (AwaitingConfirm o) less on = omega (arith, less)
deliver_takes n l r m op (AwaitingWithBuffer o b) less on = omega (arith, less)

deliver_due : (s : State) (c : ℕ) (x : Client) (h : Entry) → slice_get s.clients c ≡ Some x → is_joined x.phase ≡ true → slice_get s.log x.revision ≡ Some h → IsNearer s (with_client s c (delivered x h.op))
deliver_due s c x h at on head =
    nearer_client s c x (delivered x h.op) at (joined_delivered x.phase h.op on ∙ sym on)
    (deliver_takes (counts.joined s) (length s.log) x.revision (in_transit (counts.joined s) x.message) h.op x.phase (slice_get_within s.log x.revision h head) on)

-- an acknowledgement: its operation is under way no more
own_unsent : (c : ℕ) (o : Operation Tagged) (start : List Tagged) (seen ahead rest : List Entry) (message : Option Message) (h : Entry) → ahead ≡ h ∷ rest → h.maker ≡ c → IsSent c o start seen ahead message → message ≡ None
own_unsent c o start seen ahead rest None h is own sent = refl
own_unsent c o start seen ahead rest (Some m) h is own sent = absurd ((subst (NoneBy c) is sent.none).0 own)

acknowledge_due : (s : State) (c : ℕ) (x : Client) (h : Entry) → IsSound s → slice_get s.clients c ≡ Some x → slice_get s.log x.revision ≡ Some h → h.maker ≡ c
    → (t : State) (a : Option Shown) → with_row s c (acknowledged x x.phase) ≡ Performed t a → IsNearer s t
acknowledge_due s c x h (start, text, sound) at head own t a e = go x.phase refl e
  where
    n : ℕ
    n = counts.joined s

    l : ℕ
    l = length s.log

    less : x.revision < length s.log
    less = slice_get_within s.log x.revision h head

    unsent : (o b : Operation Tagged) → x.phase ≡ AwaitingWithBuffer o b → x.message ≡ None
    unsent o b is =
        own_unsent c o start (take x.revision s.log) (drop x.revision s.log) (drop (suc x.revision) s.log) x.message h (drop_entry s.log x.revision h head) own
        (subst (λ (p : Phase). IsPhaseSound c p start (take x.revision s.log) (drop x.revision s.log) x.list x.message) is (sound.clients c x at)).sent

    go : (phase : Phase) → x.phase ≡ phase → with_row s c (acknowledged x phase) ≡ Performed t a → IsNearer s t
    go NotJoined is e = absurd (cc)
    go Synchronized is e = absurd (cc)
    go (AwaitingConfirm o) is e =
        let y : Client = record { revision = suc x.revision; phase = Synchronized; list = x.list; count = x.count; message = x.message } in
        let same : with_client s c y ≡ t = cc in
        let was : due_of n l x ≡ in_transit n x.message + 0 + (l - x.revision) = rw is refl in
        subst (IsNearer s) same (nearer_client s c x y at (sym (ap is_joined is)) (omega (arith, was, less)))
    go (AwaitingWithBuffer o b) is e =
        let y : Client = record { revision = suc x.revision; phase = AwaitingConfirm b; list = x.list; count = x.count; message = Some (record { revision = suc x.revision; op = b }) } in
        let same : with_client s c y ≡ t = cc in
        let was : due_of n l x ≡ 0 + suc n + (l - x.revision) = rw (is, unsent o b is) refl in
        subst (IsNearer s) same (nearer_client s c x y at (sym (ap is_joined is)) (omega (arith, was, less)))

-- a take
take_due : (s : State) (c : ℕ) (x : Client) (m : Message) (op : Operation Tagged) → IsSound s → slice_get s.clients c ≡ Some x → x.message ≡ Some m → IsNearer s (taken s c x op)
take_due s c x m op (start, text, sound) at sent =
    let n = counts.joined s in
    let l = length s.log in
    let y = emptied x in
    let t = taken s c x op in
    let longer : length t.log ≡ suc l = let one = length_push s.log (record { maker = c; op = op }) in omega (arith, one) in
    let many = joined_set s c x y t.log t.server at refl in
    let all : due t ≡ sum_by (due_of n (suc l)) (set s.clients c y) =
    ap₂ (λ (k j : ℕ). sum_by (due_of k j) (set s.clients c y)) many longer in
    let more = longer_sum n l s.clients sound.seen in
    let changed = sum_set (due_of n (suc l)) s.clients c x y at in
    let was : due_of n (suc l) x ≡ suc n + in_buffer n x.phase + (if is_joined x.phase then suc l - x.revision else 1) = ap (λ (o : Option Message). in_transit n o + in_buffer n x.phase + (if is_joined x.phase then suc l - x.revision else 1)) sent in
    record { here_now = many; clients = length-set s.clients c y; cost = omega (arith, all, more, changed, was) }

-- a join
wider : (n l : ℕ) (clients : List Client) → sum_by (due_of n l) clients ≤ sum_by (due_of (suc n) l) clients
wider n l [] = omega arith
wider n l (x ∷ clients) =
    let rest = wider n l clients in
    let a = sum_by-cons (due_of n l) x clients in
    let b = sum_by-cons (due_of (suc n) l) x clients in
    let first = wider_client n l x x.message x.phase in
    omega (arith, rest, a, b, first)
  where
    wider_client : (n l : ℕ) (x : Client) (m : Option Message) (phase : Phase) → in_transit n m + in_buffer n phase + (if is_joined x.phase then l - x.revision else 1) ≤ in_transit (suc n) m + in_buffer (suc n) phase + (if is_joined x.phase then l - x.revision else 1)
    wider_client n l x None NotJoined = omega arith
    wider_client n l x None Synchronized = omega arith
    wider_client n l x None (AwaitingConfirm o) = omega arith
    wider_client n l x None (AwaitingWithBuffer o b) = omega arith
    wider_client n l x (Some m) NotJoined = omega arith
    wider_client n l x (Some m) Synchronized = omega arith
    wider_client n l x (Some m) (AwaitingConfirm o) = omega arith
    wider_client n l x (Some m) (AwaitingWithBuffer o b) = omega arith

absent_buffer : (n : ℕ) (phase : Phase) → is_joined phase ≡ false → in_buffer n phase ≡ 0
absent_buffer n NotJoined off = refl
absent_buffer n Synchronized off = absurd (cc)
absent_buffer n (AwaitingConfirm o) off = absurd (cc)
absent_buffer n (AwaitingWithBuffer o b) off = absurd (cc)

join_due : (s : State) (c : ℕ) (x : Client) → slice_get s.clients c ≡ Some x → is_joined x.phase ≡ false → IsGrown s (with_client s c (joined s x))
join_due s c x at off =
    let n = counts.joined s in
    let l = length s.log in
    let y = joined s x in
    let t = with_client s c y in
    let e = sum_set here s.clients c x y at in
    let none : here x ≡ 0 = ap (λ (b : Bool). cond b 1 0) off in
    let more : counts.joined t ≡ suc n = omega (arith, e, none) in
    let all : due t ≡ sum_by (due_of (suc n) l) (set s.clients c y) = ap (λ (k : ℕ). sum_by (due_of k l) (set s.clients c y)) more in
    let changed = sum_set (due_of (suc n) l) s.clients c x y at in
    let was : due_of (suc n) l x ≡ in_transit (suc n) x.message + 0 + 1 =
    ap₂ (λ (k : ℕ) (b : Bool). in_transit (suc n) x.message + k + (if b then l - x.revision else 1)) (absent_buffer (suc n) x.phase off) off in
    let is : due_of (suc n) l y ≡ in_transit (suc n) x.message + 0 + (l - l) = refl in
    let w = wider n l s.clients in
    record { here_now = more; clients = length-set s.clients c y; cost = omega (arith, all, changed, was, is, w) }

-- ---- whether a session may end

pub nearer_ends : (edits room : ℕ) (s t : State) → IsNearer s t → MayEnd edits room t → MayEnd edits (suc room) s
nearer_ends edits room s t near ends =
    let d = near.cost in
    let least = ends.least in
    record {
      least = omega (arith, d, least);
      exact = λ all. (
          let e = ends.exact (near.here_now ∙ all ∙ sym near.clients) in
          let more : e.0 * suc (length t.clients) ≡ e.0 * suc (length s.clients) = ap (λ (n : ℕ). e.0 * suc n) near.clients in
          (e.0, e.1, one_on edits room (due t) (due s) (e.0 * suc (length t.clients)) (e.0 * suc (length s.clients)) e.2 d more)
          );
    }
  where
    one_on : (edits room d d' m m' : ℕ) → room ≡ edits + d + m → suc d ≡ d' → m ≡ m' → suc room ≡ edits + d' + m'
    one_on edits room d d' m m' e f g = omega (arith, e, f, g)

times_suc : (k m : ℕ) → suc k * m ≡ m + k * m
times_suc k m = grind arith

pub edited_ends : (edits room : ℕ) (s t : State) → IsEdited s t → MayEnd edits room t → MayEnd (suc edits) (suc room) s
edited_ends edits room s t near ends = go near.cost
  where
    same_more : (k : ℕ) → k * suc (length t.clients) ≡ k * suc (length s.clients)
    same_more k = ap (λ (n : ℕ). k * suc n) near.clients

    kept : (edits room d d' m m' : ℕ) → room ≡ edits + d + m → d ≡ d' → m ≡ m' → suc room ≡ suc edits + d' + m'
    kept edits room d d' m m' e f g = omega (arith, e, f, g)

    sent : (edits room d d' j n m m' m'' : ℕ) → room ≡ edits + d + m → d ≡ d' + suc j → j ≡ n → m ≡ m' → m'' ≡ suc n + m' → suc room ≡ suc edits + d' + m''
    sent edits room d d' j n m m' m'' e f g h i = omega (arith, e, f, g, h, i)

    go : (due t ≡ due s) ⊎ (due t ≡ due s + suc (counts.joined s)) → MayEnd (suc edits) (suc room) s
    go (inl none) =
        let least = ends.least in
        record {
          least = omega (arith, none, least);
          exact = λ all. (
              let e = ends.exact (near.here_now ∙ all ∙ sym near.clients) in
              let few = e.1 in
              (e.0, omega (arith, few), kept edits room (due t) (due s) (e.0 * suc (length t.clients)) (e.0 * suc (length s.clients)) e.2 none (same_more e.0))
              );
        }
    go (inr more) =
        let least = ends.least in
        record {
          least = omega (arith, more, least);
          exact = λ all. (
              let e = ends.exact (near.here_now ∙ all ∙ sym near.clients) in
              let few = e.1 in
              (suc e.0, omega (arith, few), sent edits room (due t) (due s) (counts.joined s) (length s.clients) (e.0 * suc (length t.clients)) (e.0 * suc (length s.clients)) (suc e.0 * suc (length s.clients)) e.2 more all (same_more e.0) (times_suc e.0 (suc (length s.clients))))
              );
        }

few_here : (clients : List Client) → sum_by here clients ≤ length clients
few_here [] = omega arith
few_here (x ∷ clients) =
    let rest = few_here clients in
    let a = sum_by-cons here x clients in
    let one = at_most (is_joined x.phase) in
    omega (arith, rest, a, one)
  where
    at_most : (b : Bool) → cond b 1 0 ≤ 1
    at_most true = omega arith
    at_most false = omega arith

pub grown_ends : (edits room : ℕ) (s t : State) → IsGrown s t → MayEnd edits room t → MayEnd edits (suc room) s
grown_ends edits room s t near ends =
    let d = near.cost in
    let least = ends.least in
    let few = few_here t.clients in
    let more = near.here_now in
    let many = near.clients in
    record {
      least = omega (arith, d, least);
      exact = λ all. absurd (omega (arith, few, more, many, all));
    }

-- ---- the instructions that may come next

-- an edit has a text and is an operation, and no instruction reads
abbrev pub IsTried : List (List ℕ) → Instr → Type 0
IsTried texts (Edit c op) = (suc (length (drop 1 texts)) ≡ length texts) × IsOperation op
IsTried texts (Take c) = Unit {0}
IsTried texts (Deliver c) = Unit {0}
IsTried texts (Acknowledge c) = Unit {0}
IsTried texts (Join c) = Unit {0}
IsTried texts (Read c) = ⊥
IsTried texts ReadServer = ⊥

edits_tried : (inserts : ℕ) (texts : List (List ℕ)) (c count : ℕ) (i : Instr) → IsIn i (edits inserts texts c count) → IsTried texts i
edits_tried inserts [] c count i h = absurd h
edits_tried inserts (text ∷ texts) c count i h =
    let r = map_cases (Edit c) i (forms text inserts count) h in
    subst (IsTried (text ∷ texts)) (sym r.2) (refl, forms_rise text inserts count r.0 r.1)

clients_tried : (inserts : ℕ) (texts : List (List ℕ)) (c : ℕ) (clients : List Client) (i : Instr) → IsIn i (at_clients inserts texts c clients) → IsTried texts i
clients_tried inserts texts c [] i h = absurd h
clients_tried inserts texts c (x ∷ clients) i h = elim (in_cases i (edits inserts texts c (length x.list)) _ h) [
  | inl edit ↦ edits_tried inserts texts c (length x.list) i edit
  | inr (inl e) ↦ subst (IsTried texts) (sym e) tt
  | inr (inr (inl e)) ↦ subst (IsTried texts) (sym e) tt
  | inr (inr (inr (inl e))) ↦ subst (IsTried texts) (sym e) tt
  | inr (inr (inr (inr later))) ↦ clients_tried inserts texts (suc c) clients i later
]

takes_tried : (texts : List (List ℕ)) (c : ℕ) (clients : List Client) (i : Instr) → IsIn i (takes c clients) → IsTried texts i
takes_tried texts c [] i h = absurd h
takes_tried texts c (x ∷ clients) i (inl e) = subst (IsTried texts) (sym e) tt
takes_tried texts c (x ∷ clients) i (inr h) = takes_tried texts (suc c) clients i h

candidates_tried : (inserts : ℕ) (texts : List (List ℕ)) (s : State) (i : Instr) → IsIn i (candidates inserts texts s) → IsTried texts i
candidates_tried inserts texts s i h = elim (in_cases i (at_clients inserts texts 0 s.clients) (takes 0 s.clients) h) [
  | inl client ↦ clients_tried inserts texts 0 s.clients i client
  | inr take ↦ takes_tried texts 0 s.clients i take
]

tried_instr : (texts : List (List ℕ)) (i : Instr) → IsTried texts i → IsInstr i
tried_instr texts (Edit c op) h = h.1
tried_instr texts (Take c) h = tt
tried_instr texts (Deliver c) h = tt
tried_instr texts (Acknowledge c) h = tt
tried_instr texts (Join c) h = tt
tried_instr texts (Read c) h = tt
tried_instr texts ReadServer h = tt

-- behind an instruction a session may end only if it may end before it
tried_ends : (room : ℕ) (texts : List (List ℕ)) (s : State) (i : Instr) (t : State) (a : Option Shown) → IsSound s → IsTried texts i → step s i ≡ Performed t a → MayEnd (length (texts_after i texts)) room t → MayEnd (length texts) (suc room) s
tried_ends room texts s (Edit c op) t a sound h e ends =
    by_edit (λ o. o ≡ Performed t a → MayEnd (length texts) (suc room) s) (λ r f. absurd (cc)) s c op
    (λ x at below on base few f. (
    let same : with_client s c (edited x (tag_operation c x.count op)) ≡ t = cc in
    subst (λ (n : ℕ). MayEnd n (suc room) s) h.0 (edited_ends (length (drop 1 texts)) room s t (subst (IsEdited s) same (edit_due s c x (tag_operation c x.count op) at on)) ends)
    )) e
tried_ends room texts s (Take c) t a sound h e ends =
    by_take (λ o. o ≡ Performed t a → MayEnd (length texts) (suc room) s) (λ r f. absurd (cc)) s c
    (λ x m at below on sent f. (
    let op = transform_over m.op (drop m.revision s.log) in
    let same : taken s c x op ≡ t = cc in
    nearer_ends (length texts) room s t (subst (IsNearer s) same (take_due s c x m op sound at sent)) ends
    )) e
tried_ends room texts s (Deliver c) t a sound h e ends =
    by_deliver (λ o. o ≡ Performed t a → MayEnd (length texts) (suc room) s) (λ r f. absurd (cc)) s c
    (λ x k at below on head other f. (
    let same : with_client s c (delivered x k.op) ≡ t = cc in
    nearer_ends (length texts) room s t (subst (IsNearer s) same (deliver_due s c x k at on head)) ends
    )) e
tried_ends room texts s (Acknowledge c) t a sound h e ends =
    by_acknowledge (λ o. o ≡ Performed t a → MayEnd (length texts) (suc room) s) (λ r f. absurd (cc)) s c
    (λ x k at below on head own f. nearer_ends (length texts) room s t (acknowledge_due s c x k sound at head own t a f) ends) e
tried_ends room texts s (Join c) t a sound h e ends =
    by_join (λ o. o ≡ Performed t a → MayEnd (length texts) (suc room) s) (λ r f. absurd (cc)) s c
    (λ x at below off f. (
    let same : with_client s c (joined s x) ≡ t = cc in
    grown_ends (length texts) room s t (subst (IsGrown s) same (join_due s c x at off)) ends
    )) e
tried_ends room texts s (Read c) t a sound h e ends = absurd h
tried_ends room texts s ReadServer t a sound h e ends = absurd h

-- ---- where all is settled nothing is to come

past : {X : Type 0} (n : ℕ) (xs : List X) → drop n xs ≡ [] → length xs - n ≡ 0
past n [] e = omega arith
past zero (x ∷ xs) e = absurd (cc)
past (suc n) (x ∷ xs) e = let r = past n xs e in omega (arith, r)

sum_none : (f : Client → ℕ) (clients : List Client) → ((c : ℕ) (x : Client) → slice_get clients c ≡ Some x → f x ≡ 0) → sum_by f clients ≡ 0
sum_none f [] none = refl
sum_none f (x ∷ clients) none =
    let rest = sum_none f clients (λ c y at. none (suc c) y at) in
    let first = none 0 x refl in
    let a = sum_by-cons f x clients in
    omega (arith, rest, first, a)

settled_ends : (s : State) → is_settled s ≡ true → MayEnd 0 0 s
settled_ends s settled =
    let q = settled_is s settled in
    let none : due s ≡ 0 = sum_none (due_of (counts.joined s) (length s.log)) s.clients (λ c x at. (
    let k = q.quiet c x at (q.joined c x at) in
    let ahead = past x.revision s.log k.no_downlink in
    ap₂ (λ (m : Option Message) (p : Phase). in_transit (counts.joined s) m + in_buffer (counts.joined s) p + (if is_joined p then length s.log - x.revision else 1)) k.no_message k.synchronized
    ∙ omega (arith, ahead)
    )) in
    record { least = omega (arith, none); exact = λ all. (0, omega arith, omega (arith, none)) }

-- ---- where a session cannot end, none goes on

pub record Cannot (room : ℕ) (texts : List (List ℕ)) (s : State) : Type 0 where
  pub sound : IsSound s
  pub cannot : MayEnd (length texts) room s → ⊥

empty_none : {X : Type 0} (xs : List X) → is_empty xs ≡ true → length xs ≡ 0
empty_none [] e = refl
empty_none (x ∷ xs) e = absurd (cc)

pub cannot_none : (inserts count : ℕ) (texts : List (List ℕ)) (path : List Earlier) (s : State) → Cannot count texts s → sessions_from inserts count texts path s ≡ []
cannot_none inserts = none_from inserts (λ count texts path s. Cannot count texts s)
    (λ texts path s k e. (
    let both = both_true (is_empty texts) (is_settled s) e in
    k.cannot (subst (λ (n : ℕ). MayEnd n 0 s) (sym (empty_none texts both.0)) (settled_ends s both.1))
    ))
    (λ count texts path s i t a k candidate in_time e. (
    let h = candidates_tried inserts texts s i candidate in
    record {
      sound = sound_after s i t a k.sound (tried_instr texts i h) e;
      cannot = λ ends. k.cannot (tried_ends count texts s i t a k.sound h e ends);
    }
    ))

-- ---- what the program counts

-- one client more that has joined, or has not
pub joined_more : (s : State) (c : ℕ) (on : Bool) → ClientHas s c (λ x. is_joined x.phase) on
    → (count_by (λ x. is_joined x.phase) (take (c + 1) s.clients) ≡ count_by (λ x. is_joined x.phase) (take c s.clients) + cond on 1 0) × (c < length s.clients)
joined_more s c on h =
    let x = has s c (λ x. is_joined x.phase) on h in
    let inside = slice_get_within s.clients c x.0 x.1 in
    let is : here (get_or s.clients c x.0) ≡ cond on 1 0 = ap here (get_or_from_slice_get s.clients c x.0 x.0 x.1) ∙ ap (λ (b : Bool). cond b 1 0) x.2 in
    (sum_by_more here s.clients c x.0 inside ∙ ap (λ (k : ℕ). sum_by here (take c s.clients) + k) is, inside)

pub due_more : (s : State) (c n : ℕ) → ClientHas s c (due_of (counts.joined s) (length s.log)) n
    → (sum_by (due_of (counts.joined s) (length s.log)) (take (c + 1) s.clients) ≡ sum_by (due_of (counts.joined s) (length s.log)) (take c s.clients) + n)
    × (sum_by (due_of (counts.joined s) (length s.log)) (take c s.clients) + n ≤ due s)
due_more s c n h =
    let f = due_of (counts.joined s) (length s.log) in
    let x = has s c f n h in
    let inside = slice_get_within s.clients c x.0 x.1 in
    let is : f (get_or s.clients c x.0) ≡ n = ap f (get_or_from_slice_get s.clients c x.0 x.0 x.1) ∙ x.2 in
    let e = sum_by_more f s.clients c x.0 inside in
    let le = sum_by_more_le f s.clients c x.0 inside in
    (e ∙ ap (λ k. sum_by f (take c s.clients) + k) is, subst (λ k. sum_by f (take c s.clients) + k ≤ due s) is le)

-- the messages to a client
pub length_drop : {X : Type 0} (n : ℕ) (xs : List X) → length (drop n xs) ≡ length xs - n
length_drop zero xs = omega arith
length_drop (suc n) [] = omega arith
length_drop (suc n) (x ∷ xs) = let r = length_drop n xs in omega (arith, r)

on_the_way : (b : Bool) (log : List Entry) (c r : ℕ) → length (if b then map (head_for c) (drop r log) else []) ≡ (if b then length log - r else 0)
on_the_way true log c r = length-map (drop r log) (head_for c) ∙ length_drop r log
on_the_way false log c r = refl

at_least : (b : Bool) (k : ℕ) → (if b then k else 0) ≤ (if b then k else 1)
at_least true k = omega arith
at_least false k = omega arith

-- what is on the way to a client is due
pub ahead_due : (s : State) (c ahead : ℕ) → ClientHas s c (λ x. length (downlink s c x)) ahead → (n : ℕ) × ClientHas s c (due_of (counts.joined s) (length s.log)) n × (ahead ≤ n)
ahead_due s c ahead h =
    let x = has s c (λ x. length (downlink s c x)) ahead h in
    let many = on_the_way (is_joined (x.0).phase) s.log c (x.0).revision in
    let le = at_least (is_joined (x.0).phase) (length s.log - (x.0).revision) in
    let is = x.2 in
    (due_of (counts.joined s) (length s.log) x.0, ap (option_map (due_of (counts.joined s) (length s.log))) x.1, omega (arith, many, le, is))

-- by the name of its phase
abbrev pub due_named : ℕ → ℕ → shown.Phase → ℕ
due_named n ahead shown.TheVariants.NotJoined = 1
due_named n ahead shown.TheVariants.Synchronized = ahead
due_named n ahead shown.TheVariants.AwaitingConfirm = ahead
due_named n ahead shown.TheVariants.AwaitingWithBuffer = suc n + ahead

named_is : (n k ahead : ℕ) (phase : Phase) → (if is_joined phase then k else 0) ≡ ahead → in_buffer n phase + (if is_joined phase then k else 1) ≡ due_named n ahead (phase_name phase)
named_is n k ahead NotJoined e = refl
named_is n k ahead Synchronized e = omega (arith, e)
named_is n k ahead (AwaitingConfirm o) e = omega (arith, e)
named_is n k ahead (AwaitingWithBuffer o b) e = ap (λ (m : ℕ). suc n + m) e

pub due_is : (s : State) (c n ahead sent : ℕ) (m : Option Message) (name : shown.Phase) → ClientHas s c (λ x. x.message) m → in_transit n m ≡ sent → ClientHas s c (λ x. phase_name x.phase) name → ClientHas s c (λ x. length (downlink s c x)) ahead
    → ClientHas s c (due_of n (length s.log)) (sent + due_named n ahead name)
due_is s c n ahead sent m name message transit phase down =
    let x = has s c (λ x. x.message) m message in
    let y = has s c (λ x. phase_name x.phase) name phase in
    let z = has s c (λ x. length (downlink s c x)) ahead down in
    let named : phase_name (x.0).phase ≡ name = ap (λ (w : Client). phase_name w.phase) (same_client s c x.0 y.0 x.1 y.1) ∙ y.2 in
    let many : (if is_joined (x.0).phase then length s.log - (x.0).revision else 0) ≡ ahead =
    sym (on_the_way (is_joined (x.0).phase) s.log c (x.0).revision) ∙ ap (λ (w : Client). length (downlink s c w)) (same_client s c x.0 z.0 x.1 z.1) ∙ z.2 in
    let rest = named_is n (length s.log - (x.0).revision) ahead (x.0).phase many ∙ ap (due_named n ahead) named in
    let sum : in_transit n (x.0).message ≡ sent = ap (in_transit n) x.2 ∙ transit in
    ap (option_map (due_of n (length s.log))) x.1
    ∙ ap Some (added (in_transit n (x.0).message) (in_buffer n (x.0).phase) (if is_joined (x.0).phase then length s.log - (x.0).revision else 1) sent (due_named n ahead name) sum rest)
  where
    added : (a b d e f : ℕ) → a ≡ e → b + d ≡ f → a + b + d ≡ e + f
    added a b d e f g h = omega (arith, g, h)
