-- What readers' lists share at two moments of a run.
use Rattle.std.proofs.Common.{◌≡◌, ◌≢◌, ℕ, zero, suc, ◌-◌, ◌<◌, ◌≤◌, List, [], ◌∷◌, ◌++◌, length, take, drop, refl, sym, ap, ◌∙◌, subst, arith, inl, inr, Option, Some, None, true, append_assoc}
use Rattle.std.proofs.lemmas.Bool.{cases_lt}
use Rattle.std.proofs.lemmas.List.{append-nil, take-append-drop, take-append-le, take-take, take_all}
use Rattle.std.proofs.lemmas.Option.{same_Some, slice_get_within}
use Rattle.std.specs.Prelude.{◌⊎◌, slice_get, IsTrue}
use Rattle.ot_isa.specs.Program.{Program}
use Rattle.ot_isa.specs.declared.elements.Tag.{Tag}
use Rattle.ot_isa.specs.declared.elements.Tagged.{Tagged}
use Rattle.ot_isa.specs.declared.instruction.Instr.{Instr}
use Rattle.ot_isa.specs.declared.instruction.Instr.TheVariants.{Edit, Take, Deliver, Acknowledge, Join, Read, ReadServer}
use Rattle.ot_model.specs.declared.shown.Reader.{Reader}
use Rattle.ot_model.specs.declared.shown.Reader.TheVariants as reader
use Rattle.ot_model.specs.Operation.{Operation, apply, news, first_after}
use Rattle.ot_model.specs.Table.{Phase, NotJoined, Synchronized, AwaitingConfirm, AwaitingWithBuffer, is_joined, Client, State, Entry, Message, Outcome, Performed, Refused, NoRow, Place, with_shown, with_row, start_list, opening, begin, run, step}
use Rattle.ot_model.specs.Runs.{IsRunnable, place_at}
use Rattle.ot_model.specs.Sound.{Fits, apply_entries, FitAll, Lands, IsSent, IsPhaseSound, IsSoundFrom, AreInstrs, news_sent, news_kept}
use Rattle.ot_model.specs.Trace.{contains}
use Rattle.ot_model.specs.WeakList.{IsBefore}
use Rattle.ot_model.specs.Events.{tags}
use Rattle.ot_model.specs.TraceLaws.{server_after, AgreeInOrder, HasList, HoldsBoth}
use Rattle.ot_model.proofs.Vertices.{Has, Before, HasNew, InPath, operations, Seen, In, IsOrdered}
use Rattle.ot_model.proofs.States.{FitAll_drop, transform_over_news}
use Rattle.ot_model.proofs.Lengths.{FitAll_take}
use Rattle.ot_model.proofs.Algebra.{laws}
use Rattle.ot_model.proofs.Keeping.{from, order_laws}
use Rattle.ot_model.proofs.Merging.{has_or}
use Rattle.ot_model.proofs.Known.{HasNew_take, Has_left, Has_right, document_has, NewBy_HasNew}
use Rattle.ot_model.proofs.Tags.{NewBy, NewBy_right, Has_start, log_tag, log_once, pending_tag}
use Rattle.ot_model.proofs.Outcomes.{by_edit, by_take, by_deliver, by_acknowledge, by_join, by_read, by_read_server}
use Rattle.ot_model.proofs.Steps.{opening_sound_from}
use Rattle.ot_model.proofs.Ordered.{Grows, ordered_from}
use Rattle.ot_model.proofs.Reading.{opening_ordered}
use Rattle.ot_model.proofs.Running.{IsNextOutcome, step_next}
use Rattle.ot_model.proofs.Runs.{run-append}
use Rattle.ot_model.proofs.Bridging.{In_has, Has_in, Stands_before, contains_in, in_contains}
use Rattle.ot_model.proofs.Judging.{before_stands}

-- the log only grows
abbrev IsLonger : State → Outcome → Type 0
IsLonger s (Performed t shown) = (more : List Entry) × (t.log ≡ s.log ++ more)
IsLonger s (Refused r) = Unit {0}
IsLonger s NoRow = Unit {0}

row_longer : (s : State) (c : ℕ) (o : Option Client) → IsLonger s (with_row s c o)
row_longer s c None = tt
row_longer s c (Some x) = ([], sym (append-nil s.log))

step_longer : (s : State) (i : Instr) → IsLonger s (step s i)
step_longer s (Edit c op) = by_edit (IsLonger s) (λ r. tt) s c op (λ x at below on base few. ([], sym (append-nil s.log)))
step_longer s (Take c) = by_take (IsLonger s) (λ r. tt) s c (λ x m at below on sent. (_, refl))
step_longer s (Deliver c) = by_deliver (IsLonger s) (λ r. tt) s c (λ x h at below on head other. ([], sym (append-nil s.log)))
step_longer s (Acknowledge c) = by_acknowledge (IsLonger s) (λ r. tt) s c (λ x h at below on head own. row_longer s c _)
step_longer s (Join c) = by_join (IsLonger s) (λ r. tt) s c (λ x at below off. ([], sym (append-nil s.log)))
step_longer s (Read c) = by_read (IsLonger s) (λ r. tt) s c (λ x at below on. ([], sym (append-nil s.log)))
step_longer s ReadServer = by_read_server (IsLonger s) (λ r. tt) s (λ below. ([], sym (append-nil s.log)))

-- where a run goes on from a state in which all lists so far have one order
pub record IsOn (start : List Tagged) (text : List ℕ) (s : State) (seen : List Seen) (t : State) : Type 0 where
  pub now : List Seen
  pub sound : IsSoundFrom start text t
  pub ordered : IsOrdered start t now
  pub kept : (u : Seen) → In u seen → In u now
  pub more : List Entry
  pub log : t.log ≡ s.log ++ more

pub run_on : (start : List Tagged) (text : List ℕ) (is : List Instr) (p q : Place) (seen : List Seen) → IsSoundFrom start text p.state → IsOrdered start p.state seen → AreInstrs is → run is p ≡ Some q → IsOn start text p.state seen q.state
run_on start text [] p q seen sound ordered all e =
    subst (λ (w : Place). IsOn start text p.state seen w.state) (same_Some p q e) (record { now = seen; sound = sound; ordered = ordered; kept = λ u h. h; more = []; log = sym (append-nil p.state.log) })
run_on start text (i ∷ is) p q seen sound ordered all e =
    go (λ r now st od f. run_on start text is r q now st od all.1 f) (step p.state i) (step_next laws order_laws start text p.state seen i sound ordered all.0) (step_longer p.state i) e
  where
    go : ((r : Place) (now : List Seen) → IsSoundFrom start text r.state → IsOrdered start r.state now → run is r ≡ Some q → IsOn start text r.state now q.state)
        → (o : Outcome) → IsNextOutcome start text seen i o → IsLonger p.state o
        → (elim o [ Performed t list ↦ run is (record { state = t; shown = with_shown p.shown list }) | Refused r ↦ None | NoRow ↦ None ]) ≡ Some q
        → IsOn start text p.state seen q.state
    go on (Performed t list) next longer f =
        let rest = on (record { state = t; shown = with_shown p.shown list }) next.now next.sound next.ordered f in
        record {
          now = rest.now;
          sound = rest.sound;
          ordered = rest.ordered;
          kept = λ u h. rest.kept u (next.more u h);
          more = longer.0 ++ rest.more;
          log = rest.log ∙ ap (λ (l : List Entry). l ++ rest.more) longer.1 ∙ append_assoc p.state.log longer.0 rest.more;
        }
    go on (Refused r) next longer f = absurd (cc)
    go on NoRow next longer f = absurd (cc)

-- all instructions, or the first of them
AreInstrs_take : (n : ℕ) (is : List Instr) → AreInstrs is → AreInstrs (take n is)
AreInstrs_take zero is all = tt
AreInstrs_take (suc n) [] all = tt
AreInstrs_take (suc n) (i ∷ is) all = (all.0, AreInstrs_take n is all.1)

AreInstrs_drop : (n : ℕ) (is : List Instr) → AreInstrs is → AreInstrs (drop n is)
AreInstrs_drop zero is all = all
AreInstrs_drop (suc n) [] all = tt
AreInstrs_drop (suc n) (i ∷ is) all = AreInstrs_drop n is all.1

take_nothing : (X : Type 0) (k : ℕ) → take {A = X} k [] ≡ []
take_nothing X zero = refl
take_nothing X (suc k) = refl

take_more : {X : Type 0} (p n : ℕ) (xs : List X) → p ≤ n → take n xs ≡ take p xs ++ take (n - p) (drop p xs)
take_more zero n xs le = let e : n - 0 ≡ n = omega arith in ap (λ (k : ℕ). take k xs) (sym e)
take_more (suc p) zero xs le = absurd (omega arith)
take_more {X} (suc p) (suc n) [] le = sym (take_nothing X (suc n - suc p))
take_more {X} (suc p) (suc n) (x ∷ xs) le =
    let e : suc n - suc p ≡ n - p = omega arith in
    ap (λ (ys : List X). x ∷ ys) (take_more p n xs (omega arith)) ∙ ap (λ k. x ∷ (take p xs ++ take k (drop p xs))) (sym e)

-- two moments of a schedule's run
pub record AreMoments (s : Program) (q r : Place) : Type 0 where
  pub first : IsOn (start_list s.start) s.start (opening s.clients s.present s.start) [] q.state
  pub later : (seen : List Seen) → IsOrdered (start_list s.start) q.state seen → IsOn (start_list s.start) s.start q.state seen r.state

pub moments : (s : Program) (p later : ℕ) (q r : Place) → IsRunnable s → p ≤ later → place_at s p ≡ Some q → place_at s later ≡ Some r → AreMoments s q r
moments s p later q r is le here there =
    let start = start_list s.start in
    let all = is.instrs in
    let b = begin s.clients s.present s.start in
    let first = run_on start s.start (take p s.instrs) b q [] (opening_sound_from s.clients s.present s.start is.clients is.present is.start) (opening_ordered s.clients s.present s.start) (AreInstrs_take p s.instrs all) here in
    let rest = take (later - p) (drop p s.instrs) in
    let on : run rest q ≡ Some r = sym (run-append (take p s.instrs) rest b q here) ∙ ap (λ (is : List Instr). run is b) (sym (take_more p later s.instrs le)) ∙ there in
    record {
      first = first;
      later = λ seen ordered. run_on start s.start rest q r seen first.sound ordered (AreInstrs_take (later - p) (drop p s.instrs) (AreInstrs_drop p s.instrs all)) on;
    }

-- a client's list, and the server's lists of a later moment
same_grows : (s : State) → Grows s s
same_grows s = record { more = []; log = sym (append-nil s.log); on = λ c x at. (x, at, omega arith, omega arith); back = λ c y at. (y, at, omega arith) }

here_ordered : (start : List Tagged) (text : List ℕ) (s : State) (seen : List Seen) (c : ℕ) (x : Client) → IsSoundFrom start text s → slice_get s.clients c ≡ Some x → is_joined x.phase ≡ true → IsOrdered start s seen
    → IsOrdered start s (record { owner = c; level = x.revision; list = x.list } ∷ seen)
here_ordered start text s seen c x sound at on ordered = ordered_from laws order_laws start text s s seen c x sound at on (same_grows s) ordered (λ owner w vertex. (owner, vertex))

path_at : (d : List Tagged) (k : ℕ) (log : List Entry) → InPath (apply_entries d (take k log)) d (operations log)
path_at d zero [] = refl
path_at d zero (h ∷ log) = inl refl
path_at d (suc k) [] = refl
path_at d (suc k) (h ∷ log) = inr (path_at (apply h.op d) k log)

before_is : (w : List Tagged) (a b : Tag) → IsBefore (tags w) a b → Before a b w
before_is w a b h = Stands_before a b w (before_stands a b (tags w) h)

pub lists_agree : (s : Program) (p later k : ℕ) (q r : Place) (c : ℕ) (x : Client) → IsRunnable s → p ≤ later → place_at s p ≡ Some q → place_at s later ≡ Some r → slice_get q.state.clients c ≡ Some x → is_joined x.phase ≡ true
    → AgreeInOrder (tags x.list) (server_after s r.state k)
lists_agree s p later k q r c x is le here there at on a b forth back =
    let start = start_list s.start in
    let both = moments s p later q r is le here there in
    let u : Seen = record { owner = c; level = x.revision; list = x.list } in
    let seen = u ∷ both.first.now in
    let end = both.later seen (here_ordered start s.start q.state both.first.now c x both.first.sound at on both.first.ordered) in
    let w = apply_entries start (take k r.state.log) in
    end.ordered.consistent c 65535 x.list w (inr (u, end.kept u (inl refl), refl, refl)) (inl (inl (refl, path_at start k r.state.log))) a b (before_is x.list a b forth) (before_is w b a back)

-- an element of a client's list is in the log's at its revision, or it is the client's own and not among those entries
Lands_by : (c : ℕ) (o : Operation Tagged) (d : List Tagged) (log : List Entry) (t : Tag) → FitAll d log → Fits o d → Lands c o log → Has t (news o) → NewBy c t log
Lands_by c o d [] t all fits lands h = absurd lands
Lands_by c o d (e ∷ log) t all fits (inl here) h = inl (here.0, rw here.1 h)
Lands_by c o d (e ∷ log) t all fits (inr far) h =
    inr (Lands_by c (first_after o e.op) (apply e.op d) log t all.1 (laws.first_fits o e.op d fits all.0) far.1 (rw (laws.first_news o e.op fits.rising all.0.rising (fits.base ∙ sym all.0.base)) h))

outstanding_by : (c : ℕ) (o : Operation Tagged) (start : List Tagged) (seen ahead : List Entry) (message : Option Message) (t : Tag) → FitAll start seen → FitAll (apply_entries start seen) ahead → Fits o (apply_entries start seen) → IsSent c o start seen ahead message → Has t (news o)
    → Has t (news_sent message) ⊎ NewBy c t ahead
outstanding_by c o start seen ahead None t before all fits sent h = inr (Lands_by c o (apply_entries start seen) ahead t all fits sent h)
outstanding_by c o start seen ahead (Some m) t before all fits sent h =
    let rest = FitAll_drop laws start m.revision seen before in
    let e : news o ≡ news m.op = ap (λ (a : Operation Tagged). news a) (sym sent.transformed) ∙ transform_over_news laws m.op (apply_entries start (take m.revision seen)) (drop m.revision seen) rest sent.fits in
    inl (rw e at h)

-- what a client's phase holds beyond the document at its revision
phase_has : (c : ℕ) (phase : Phase) (start : List Tagged) (seen ahead : List Entry) (list : List Tagged) (message : Option Message) (t : Tag) → FitAll start seen → FitAll (apply_entries start seen) ahead → is_joined phase ≡ true → IsPhaseSound c phase start seen ahead list message → Has t list
    → Has t (apply_entries start seen) ⊎ (Has t (news_sent message ++ news_kept phase) ⊎ NewBy c t ahead)
phase_has c NotJoined start seen ahead list message t before all on now h = absurd (cc)
phase_has c Synchronized start seen ahead list message t before all on now h = inl (subst (Has t) now.list_is h)
phase_has c (AwaitingConfirm o) start seen ahead list message t before all on now h = elim (from o (apply_entries start seen) t now.fits (subst (Has t) now.list_is h)) [
  | inl old ↦ inl old
  | inr new ↦ elim (outstanding_by c o start seen ahead message t before all now.fits now.sent new) [ inl sent ↦ inr (inl (Has_left t (news_sent message) [] sent)) | inr by ↦ inr (inr by) ]
]
phase_has c (AwaitingWithBuffer o b) start seen ahead list message t before all on now h = elim (from b (apply o (apply_entries start seen)) t now.buffer_fits (subst (Has t) now.list_is h)) [
  | inl old ↦ elim (from o (apply_entries start seen) t now.fits old) [
    | inl older ↦ inl older
    | inr new ↦ elim (outstanding_by c o start seen ahead message t before all now.fits now.sent new) [ inl sent ↦ inr (inl (Has_left t (news_sent message) (news b) sent)) | inr by ↦ inr (inr by) ]
  ]
  | inr new ↦ inr (inl (Has_right t (news_sent message) (news b) new))
]

HasNew_more : (t : Tag) (m n : ℕ) (log : List Entry) → m ≤ n → HasNew t (operations (take m log)) → HasNew t (operations (take n log))
HasNew_more t m n log le h = HasNew_take t m (take n log) (subst (λ (l : List Entry). HasNew t (operations l)) (sym (take-take m n log le)) h)

abbrev IsOwnAhead : ℕ → ℕ → List Entry → Tag → Type 0
IsOwnAhead c revision log t = (t.origin ≡ c) × (HasNew t (operations (take revision log)) → ⊥)

list_has : (start : List Tagged) (text : List ℕ) (s : State) (c : ℕ) (x : Client) (t : Tag) → IsSoundFrom start text s → slice_get s.clients c ≡ Some x → is_joined x.phase ≡ true → Has t x.list
    → Has t (apply_entries start (take x.revision s.log)) ⊎ IsOwnAhead c x.revision s.log t
list_has start text s c x t sound at on h =
    let seen = take x.revision s.log in
    let ahead = drop x.revision s.log in
    elim (phase_has c x.phase start seen ahead x.list x.message t (FitAll_take laws start x.revision s.log sound.fit) (FitAll_drop laws start x.revision s.log sound.fit) on (sound.clients c x at) h) [
      | inl old ↦ inl old
      | inr (inl waits) ↦ let facts = pending_tag start text s c x t sound at waits in inr (facts.0, λ new. facts.2 (HasNew_take t x.revision s.log new))
      | inr (inr by) ↦
          let whole : NewBy c t s.log = subst (NewBy c t) (take-append-drop x.revision s.log) (NewBy_right c t seen ahead by) in
          let facts = log_tag start text s c t sound whole in
          inr (facts.2, λ new. log_once start text s t seen ahead sound (take-append-drop x.revision s.log) new (NewBy_HasNew c t ahead by))
    ]

-- an element of a client's, in a document of the log, was inserted by an entry of it
document_new : (s : Program) (log : List Entry) (n c : ℕ) (t : Tag) → FitAll (start_list s.start) log → c < 65535 → t.origin ≡ c → Has t (apply_entries (start_list s.start) (take n log)) → HasNew t (operations (take n log))
document_new s log n c t fit few origin h = elim (document_has laws order_laws (start_list s.start) (take n log) t (FitAll_take laws (start_list s.start) n log fit) h) [
  | inl first ↦ absurd (let far = Has_start t 0 s.start first in omega arith)
  | inr new ↦ new
]

-- two different clients, the second at a later moment or the same
both_or : (w : List Tagged) (a b : Tag) → (Has a w × Has b w) ⊎ ((Has a w → ⊥) ⊎ (Has b w → ⊥))
both_or w a b = elim (has_or a w) [
  | inl first ↦ elim (has_or b w) [ inl second ↦ inl (first, second) | inr none ↦ inr (inr none) ]
  | inr none ↦ inr (inl none)
]

-- each of them would have an element of its own that the other has, and each of these would be in the log before the other
no_two : (s : Program) (q r : State) (more : List Entry) (c d : ℕ) (x y : Client) (u v : Tag) → IsSoundFrom (start_list s.start) s.start q → IsSoundFrom (start_list s.start) s.start r → r.log ≡ q.log ++ more
    → slice_get q.clients c ≡ Some x → is_joined x.phase ≡ true → slice_get r.clients d ≡ Some y → is_joined y.phase ≡ true → c ≢ d
    → Has u x.list → Has u y.list → Has v x.list → Has v y.list
    → (Has u (apply_entries (start_list s.start) (take x.revision q.log)) → ⊥) → (Has v (apply_entries (start_list s.start) (take y.revision r.log)) → ⊥) → ⊥
no_two s q r more c d x y u v sound sound' grows at on at' on' other u_x u_y v_x v_y not_u not_v =
    let start = start_list s.start in
    let few = sound.few in
    let few' = sound'.few in
    let inside = slice_get_within q.clients c x at in
    let inside' = slice_get_within r.clients d y at' in
    elim (list_has start s.start q c x u sound at on u_x) [
      | inl old ↦ not_u old
      | inr mine ↦ elim (list_has start s.start r d y v sound' at' on' v_y) [
        | inl old ↦ not_v old
        | inr its ↦ elim (list_has start s.start q c x v sound at on v_x) [
          | inr wrong ↦ other (sym wrong.0 ∙ its.0)
          | inl v_old ↦ elim (list_has start s.start r d y u sound' at' on' u_y) [
            | inr wrong ↦ other (sym mine.0 ∙ wrong.0)
            | inl u_old ↦
                let v_new = document_new s q.log x.revision d v sound.fit (omega arith) its.0 v_old in
                let u_new = document_new s r.log y.revision c u sound'.fit (omega arith) mine.0 u_old in
                let within = sound.seen c x at in
                let same : (n : ℕ) → n ≤ length q.log → take n r.log ≡ take n q.log = λ n le. ap (take n) grows ∙ take-append-le n q.log more le in
                elim (cases_lt x.revision y.revision) [
                  | inl before ↦ its.1 (HasNew_more v x.revision y.revision r.log (omega arith) (subst (λ (l : List Entry). HasNew v (operations l)) (sym (same x.revision within)) v_new))
                  | inr not_before ↦ mine.1 (HasNew_more u y.revision x.revision q.log (omega arith) (subst (λ (l : List Entry). HasNew u (operations l)) (same y.revision (omega arith)) u_new))
                ]
          ]
        ]
      ]
    ]

clients_share : (s : Program) (q r : State) (more : List Entry) (c d : ℕ) (x y : Client) (a b : Tag) → IsSoundFrom (start_list s.start) s.start q → IsSoundFrom (start_list s.start) s.start r → r.log ≡ q.log ++ more
    → slice_get q.clients c ≡ Some x → is_joined x.phase ≡ true → slice_get r.clients d ≡ Some y → is_joined y.phase ≡ true → c ≢ d
    → Has a x.list → Has b x.list → Has a y.list → Has b y.list
    → (Has a (apply_entries (start_list s.start) (take x.revision q.log)) × Has b (apply_entries (start_list s.start) (take x.revision q.log)))
    ⊎ (Has a (apply_entries (start_list s.start) (take y.revision r.log)) × Has b (apply_entries (start_list s.start) (take y.revision r.log)))
clients_share s q r more c d x y a b sound sound' grows at on at' on' other a_x b_x a_y b_y =
    let never = no_two s q r more c d x y in
    elim (both_or (apply_entries (start_list s.start) (take x.revision q.log)) a b) [
      | inl both ↦ inl both
      | inr one ↦ elim (both_or (apply_entries (start_list s.start) (take y.revision r.log)) a b) [
        | inl both ↦ inr both
        | inr another ↦ elim one [
          | inl no_a ↦ elim another [
            | inl no_a' ↦ absurd (never a a sound sound' grows at on at' on' other a_x a_y a_x a_y no_a no_a')
            | inr no_b' ↦ absurd (never a b sound sound' grows at on at' on' other a_x a_y b_x b_y no_a no_b')
          ]
          | inr no_b ↦ elim another [
            | inl no_a' ↦ absurd (never b a sound sound' grows at on at' on' other b_x b_y a_x a_y no_b no_a')
            | inr no_b' ↦ absurd (never b b sound sound' grows at on at' on' other b_x b_y b_x b_y no_b no_b')
          ]
        ]
      ]
    ]

-- in the tags' lists
has_of : (w : List Tagged) (a : Tag) → IsTrue (contains (tags w) a) → Has a w
has_of w a h = In_has a w (contains_in (tags w) a h)

of_has : (w : List Tagged) (a : Tag) → Has a w → IsTrue (contains (tags w) a)
of_has w a h = in_contains (tags w) a (Has_in a w h)

held : (w : List Tagged) (u : List Tag) (a b : Tag) → tags w ≡ u → HoldsBoth u a b → Has a w × Has b w
held w u a b is h = let g = subst (λ (l : List Tag). HoldsBoth l a b) (sym is) h in (has_of w a g.0, has_of w b g.1)

-- the server's list is its list after the whole log
server_held : (s : Program) (t : State) (u : List Tag) (revision : ℕ) (a b : Tag) → IsSoundFrom (start_list s.start) s.start t → HasList t reader.Server u revision → HoldsBoth u a b → HoldsBoth (server_after s t revision) a b
server_held s t u revision a b sound is h =
    let whole : take revision t.log ≡ t.log = take_all revision t.log (let e = is.1 in omega arith) in
    let same : u ≡ server_after s t revision = sym is.0 ∙ ap tags sound.server ∙ ap (λ (l : List Entry). tags (apply_entries (start_list s.start) l)) (sym whole) in
    subst (λ (l : List Tag). HoldsBoth l a b) same h

shared : (s : Program) (q r : State) (more : List Entry) (who who' : Reader) (u v : List Tag) (i j : ℕ) (a b : Tag) → IsSoundFrom (start_list s.start) s.start q → IsSoundFrom (start_list s.start) s.start r → r.log ≡ q.log ++ more
    → HasList q who u i → HasList r who' v j → (who ≡ who' → ⊥) → HoldsBoth u a b → HoldsBoth v a b
    → HoldsBoth (server_after s q i) a b ⊎ HoldsBoth (server_after s r j) a b
shared s q r more reader.Server who' u v i j a b sound sound' grows has has' other in_u in_v = inl (server_held s q u i a b sound has in_u)
shared s q r more (reader.Client c) reader.Server u v i j a b sound sound' grows has has' other in_u in_v = inr (server_held s r v j a b sound' has' in_v)
shared s q r more (reader.Client c) (reader.Client d) u v i j a b sound sound' grows (x, at, on, list, revision) (y, at', on', list', revision') other in_u in_v =
    let here = held x.list u a b list in_u in
    let there = held y.list v a b list' in_v in
    let w = apply_entries (start_list s.start) (take x.revision q.log) in
    let w' = apply_entries (start_list s.start) (take y.revision r.log) in
    elim (clients_share s q r more c d x y a b sound sound' grows at on at' on' (λ same. other (ap (λ (k : ℕ). reader.Client k) same)) here.0 here.1 there.0 there.1) [
      | inl both ↦ inl (subst (λ (k : ℕ). HoldsBoth (server_after s q k) a b) revision (of_has w a both.0, of_has w b both.1))
      | inr both ↦ inr (subst (λ (k : ℕ). HoldsBoth (server_after s r k) a b) revision' (of_has w' a both.0, of_has w' b both.1))
    ]

pub one_has_both : (s : Program) (p p' : ℕ) (q q' : Place) (who who' : Reader) (u u' : List Tag) (revision revision' : ℕ) (a b : Tag)
    → IsRunnable s → place_at s p ≡ Some q → place_at s p' ≡ Some q'
    → HasList q.state who u revision → HasList q'.state who' u' revision' → (who ≡ who' → ⊥)
    → HoldsBoth u a b → HoldsBoth u' a b
    → HoldsBoth (server_after s q.state revision) a b ⊎ HoldsBoth (server_after s q'.state revision') a b
one_has_both s p p' q q' who who' u u' revision revision' a b is here there has has' other in_u in_u' = elim (cases_lt p' p) [
  | inr from_here ↦
      let both = moments s p p' q q' is (omega arith) here there in
      let end = both.later both.first.now both.first.ordered in
      shared s q.state q'.state end.more who who' u u' revision revision' a b both.first.sound end.sound end.log has has' other in_u in_u'
  | inl from_there ↦
      let both = moments s p' p q' q is (omega arith) there here in
      let end = both.later both.first.now both.first.ordered in
      elim (shared s q'.state q.state end.more who' who u' u revision' revision a b both.first.sound end.sound end.log has' has (λ same. other (sym same)) in_u' in_u) [ inl first ↦ inr first | inr second ↦ inl second ]
]
