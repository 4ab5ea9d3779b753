-- What is tried leads to the same sessions as all that does not come late.
use Rattle.std.proofs.Common.{◌≡◌, ℕ, zero, suc, ◌+◌, ◌<◌, List, [], ◌∷◌, ◌++◌, length, take, drop, map, refl, sym, ap, ap₂, ◌∙◌, arith, inl, inr, Option, Some, None, Bool, true, false, append_assoc}
use Rattle.std.specs.Prelude.{not, slice_get, is_some, filter, flat_map, if◌then◌else◌}
use Rattle.std.specs.Option.{option_map}
use Rattle.std.proofs.lemmas.Bool.{eq-eqb, ne_eqb, lt-ltb}
use Rattle.std.proofs.lemmas.Grind.{flat_map-append}
use Rattle.std.proofs.lemmas.List.{append-nil, length-map, length-take-le, take-append-drop}
use Rattle.std.proofs.lemmas.Option.{same_Some, slice_get_within}
use Rattle.ot_isa.specs.declared.instruction.Instr.{Instr}
use Rattle.ot_isa.specs.declared.instruction.Instr.TheVariants.{Edit, Take, Deliver, Acknowledge, Join}
use Rattle.ot_model.specs.declared.shown.Shown.{Shown}
use Rattle.ot_model.specs.Table.{is_joined, Client, State, Entry, Message, Performed, downlink, head_for, step}
use Rattle.ot_model.specs.Orders.{ClientMachine}
use Rattle.ot_model.proofs.Outcomes.{by_take, by_deliver, by_acknowledge, by_join}
use Rattle.ot_machine.specs.Readers.{ClientHas, head_at, head_of}
use Rattle.ot_machine.specs.declared.state.Head.{Head}
use Rattle.ot_machine.specs.declared.state.Head.TheVariants.{Ack, Op}
use Rattle.ot_every.specs.Forms.{forms}
use Rattle.ot_every.specs.Listing.{Earlier, candidates, comes_late, edits, is_before, machine_of, takes}
use Rattle.ot_every.specs.Walking.{LeadOn, is_late, sessions_by, tried_at, tried_of, unless}
use Rattle.ot_every.proofs.Late.{candidates_left, takes_next, tried_next}
use Rattle.ot_every.proofs.Lists.{IsIn, in_cases, map_cases}
use Rattle.ot_every.proofs.Nothing.{IsWaiting, by_none, flat_none, later_none}
use Rattle.ot_every.proofs.Settling.{has}

-- ---- what leads to the same sessions

module _ (inserts count : ℕ) (texts : List (List ℕ)) (path : List Earlier) (s : State) where
  abbrev f : Instr → List (List Instr)
  f = sessions_by inserts count texts path s

  lead_more : (is js more : List Instr) → flat_map f is ≡ flat_map f js → flat_map f (is ++ more) ≡ flat_map f (js ++ more)
  lead_more is js more e = flat_map-append f is more ∙ ap (λ (xs : List (List Instr)). xs ++ flat_map f more) e ∙ sym (flat_map-append f js more)

  lead_behind : (first is js : List Instr) → flat_map f is ≡ flat_map f js → flat_map f (first ++ is) ≡ flat_map f (first ++ js)
  lead_behind first is js e = flat_map-append f first is ∙ ap (λ (xs : List (List Instr)). flat_map f first ++ xs) e ∙ sym (flat_map-append f first js)

  -- what leads to none may be left out
  lead_none : (is more : List Instr) → flat_map f more ≡ [] → flat_map f is ≡ flat_map f (is ++ more)
  lead_none is more none = sym (flat_map-append f is more ∙ ap (λ (xs : List (List Instr)). flat_map f is ++ xs) none ∙ append-nil (flat_map f is))

  none_of : (i : Instr) → ((t : State) (a : Option Shown) → step s i ≡ Performed t a → ⊥) → f i ≡ []
  none_of i not = by_none inserts count texts path s i (λ t a e. absurd (not t a e))

  one_none : (i : Instr) → f i ≡ [] → flat_map f (i ∷ []) ≡ []
  one_none i e = ap (λ (xs : List (List Instr)). xs ++ []) e

  -- ---- receipts

  deliver_head : (c : ℕ) (head : Option Head) → ClientHas s c (head_at s c 0) head → (t : State) (a : Option Shown) → step s (Deliver c) ≡ Performed t a → (n : ℕ) × (head ≡ Some (Op n))
  deliver_head c head here t a e =
      by_deliver (λ o. o ≡ Performed t a → (n : ℕ) × (head ≡ Some (Op n))) (λ r f. absurd (cc)) s c
      (λ x h at below on first other g. (
      let y = has s c (head_at s c 0) head here in
      let same : y.0 ≡ x = same_Some y.0 x (sym y.1 ∙ at) in
      let none : x.revision + 0 ≡ x.revision = omega arith in
      let is : head_at s c 0 x ≡ Some (head_of c (x.revision + 0) h) = rw (on, none, first) refl in
      (x.revision + 0, sym y.2 ∙ ap (head_at s c 0) same ∙ is ∙ ap (λ (b : Bool). Some (if b then Ack else Op (x.revision + 0))) (ne_eqb h.maker c other))
      )) e

  acknowledge_head : (c : ℕ) (head : Option Head) → ClientHas s c (head_at s c 0) head → (t : State) (a : Option Shown) → step s (Acknowledge c) ≡ Performed t a → head ≡ Some Ack
  acknowledge_head c head here t a e =
      by_acknowledge (λ o. o ≡ Performed t a → head ≡ Some Ack) (λ r f. absurd (cc)) s c
      (λ x h at below on first own g. (
      let y = has s c (head_at s c 0) head here in
      let same : y.0 ≡ x = same_Some y.0 x (sym y.1 ∙ at) in
      let none : x.revision + 0 ≡ x.revision = omega arith in
      let is : head_at s c 0 x ≡ Some (head_of c (x.revision + 0) h) = rw (on, none, first) refl in
      sym y.2 ∙ ap (head_at s c 0) same ∙ is ∙ ap (λ (b : Bool). Some (if b then Ack else Op (x.revision + 0))) (eq-eqb h.maker c own)
      )) e

  unless_none : (late : Bool) (is : List Instr) → flat_map f is ≡ [] → flat_map f (unless late is) ≡ []
  unless_none true is none = refl
  unless_none false is none = none

  pub no_receipt : (items : List Instr) (c : ℕ) (head : Option Head) (late : Bool) → ClientHas s c (head_at s c 0) head → head ≡ None → LeadOn inserts count texts path s items (items ++ unless late (Deliver c ∷ Acknowledge c ∷ []))
  no_receipt items c head late here none =
      lead_none items (unless late (Deliver c ∷ Acknowledge c ∷ [])) (unless_none late (Deliver c ∷ Acknowledge c ∷ [])
      (ap₂ (λ (xs ys : List (List Instr)). xs ++ (ys ++ [])) (none_of (Deliver c) (λ t a e. (let r = deliver_head c head here t a e in let g = sym none ∙ r.1 in absurd (cc)))) (none_of (Acknowledge c) (λ t a e. (let g = sym none ∙ acknowledge_head c head here t a e in absurd (cc))))))

  pub late_left : (items more : List Instr) (late : Bool) → late ≡ true → LeadOn inserts count texts path s items (items ++ unless late more)
  late_left items more late is = ap (flat_map f) (sym (ap (λ (b : Bool). items ++ unless b more) is ∙ append-nil items))

  pub own_receipt : (items : List Instr) (c : ℕ) (head : Option Head) (late : Bool) → ClientHas s c (head_at s c 0) head → head ≡ Some Ack → late ≡ false
      → LeadOn inserts count texts path s (items ++ Acknowledge c ∷ []) (items ++ unless late (Deliver c ∷ Acknowledge c ∷ []))
  own_receipt items c head late here ack in_time =
      lead_behind items (Acknowledge c ∷ []) (unless late (Deliver c ∷ Acknowledge c ∷ []))
      (sym (ap (λ (b : Bool). flat_map f (unless b (Deliver c ∷ Acknowledge c ∷ []))) in_time
      ∙ ap (λ (xs : List (List Instr)). xs ++ flat_map f (Acknowledge c ∷ [])) (none_of (Deliver c) (λ t a e. (let r = deliver_head c head here t a e in let g = sym ack ∙ r.1 in absurd (cc))))))

  pub other_receipt : (items : List Instr) (c n : ℕ) (head : Option Head) (late : Bool) → ClientHas s c (head_at s c 0) head → head ≡ Some (Op n) → late ≡ false
      → LeadOn inserts count texts path s (items ++ Deliver c ∷ []) (items ++ unless late (Deliver c ∷ Acknowledge c ∷ []))
  other_receipt items c n head late here op in_time =
      lead_behind items (Deliver c ∷ []) (unless late (Deliver c ∷ Acknowledge c ∷ []))
      (sym (ap (λ (b : Bool). flat_map f (unless b (Deliver c ∷ Acknowledge c ∷ []))) in_time
      ∙ ap (λ (xs : List (List Instr)). f (Deliver c) ++ xs) (one_none (Acknowledge c) (none_of (Acknowledge c) (λ t a e. (let g = sym op ∙ acknowledge_head c head here t a e in absurd (cc)))))))

  -- ---- joins

  pub no_join : (items : List Instr) (c : ℕ) (on late : Bool) → ClientHas s c (λ x. is_joined x.phase) on → on ≡ true → LeadOn inserts count texts path s items (items ++ unless late (Join c ∷ []))
  no_join items c on late here is =
      lead_none items (unless late (Join c ∷ [])) (unless_none late (Join c ∷ []) (one_none (Join c) (none_of (Join c) (λ t a e.
      by_join (λ o. o ≡ Performed t a → ⊥) (λ r f. absurd (cc)) s c (λ x at below off g. (
      let y = has s c (λ x. is_joined x.phase) on here in
      let same : y.0 ≡ x = same_Some y.0 x (sym y.1 ∙ at) in
      let joined = sym (ap (λ (z : Client). is_joined z.phase) same) ∙ y.2 ∙ is in
      absurd (cc)
      )) e))))

  pub one_join : (items : List Instr) (c : ℕ) (late : Bool) → late ≡ false → LeadOn inserts count texts path s (items ++ Join c ∷ []) (items ++ unless late (Join c ∷ []))
  one_join items c late in_time = ap (λ (b : Bool). flat_map f (items ++ unless b (Join c ∷ []))) (sym in_time)

  -- ---- takes

  untaken : (k : ℕ) (m : Option Message) → ClientHas s k (λ x. x.message) m → is_some m ≡ false → f (Take k) ≡ []
  untaken k m here none = none_of (Take k) (λ t a e.
      by_take (λ o. o ≡ Performed t a → ⊥) (λ r f. absurd (cc)) s k (λ x n at below on sent g. (
      let y = has s k (λ x. x.message) m here in
      let same : y.0 ≡ x = same_Some y.0 x (sym y.1 ∙ at) in
      let there : m ≡ Some n = sym y.2 ∙ ap (λ (z : Client). z.message) same ∙ sent in
      absurd (cc)
      )) e)

  pub takes_on : (first items : List Instr) (k : ℕ) → LeadOn inserts count texts path s items (first ++ takes 0 (take k s.clients)) → k < length s.clients
      → LeadOn inserts count texts path s (items ++ Take k ∷ []) (first ++ takes 0 (take (k + 1) s.clients))
  takes_on first items k so_far less =
      lead_more items (first ++ takes 0 (take k s.clients)) (Take k ∷ []) so_far
      ∙ ap (flat_map f) (takes_next first (first ++ takes 0 (take k s.clients)) s.clients k refl less)

  pub takes_past : (first items : List Instr) (k : ℕ) (m : Option Message) → LeadOn inserts count texts path s items (first ++ takes 0 (take k s.clients)) → ClientHas s k (λ x. x.message) m → is_some m ≡ false
      → LeadOn inserts count texts path s items (first ++ takes 0 (take (k + 1) s.clients))
  takes_past first items k m so_far here none =
      let y = has s k (λ x. x.message) m here in
      lead_none items (Take k ∷ []) (one_none (Take k) (untaken k m here none)) ∙ takes_on first items k so_far (slice_get_within s.clients k y.0 y.1)

  -- ---- all of a client

  pub client_on : (k : ℕ) (items one two three : List Instr) → LeadOn inserts count texts path s items (tried_at inserts texts path 0 (take k s.clients))
      → option_map (λ (x : Client). items ++ unless (is_late k false false path) (edits inserts texts k (length x.list))) (slice_get s.clients k) ≡ Some one
      → LeadOn inserts count texts path s two (one ++ unless (is_late k false true path) (Deliver k ∷ Acknowledge k ∷ []))
      → LeadOn inserts count texts path s three (two ++ unless (is_late k true false path) (Join k ∷ []))
      → LeadOn inserts count texts path s three (tried_at inserts texts path 0 (take (k + 1) s.clients))
  client_on k items one two three so_far first second third =
      let x = has s k (λ (x : Client). items ++ unless (is_late k false false path) (edits inserts texts k (length x.list))) one first in
      let E = unless (is_late k false false path) (edits inserts texts k (length (x.0).list)) in
      let R = unless (is_late k false true path) (Deliver k ∷ Acknowledge k ∷ []) in
      let J = unless (is_late k true false path) (Join k ∷ []) in
      let T = tried_at inserts texts path 0 (take k s.clients) in
      let all : ((T ++ E) ++ R) ++ J ≡ tried_at inserts texts path 0 (take (k + 1) s.clients) =
      tried_next inserts texts path s.clients k T (T ++ E) ((T ++ E) ++ R) (((T ++ E) ++ R) ++ J) refl
      (ap (option_map (λ (x : Client). T ++ unless (is_late k false false path) (edits inserts texts k (length x.list)))) x.1) refl refl in
      let one_is : flat_map f one ≡ flat_map f (T ++ E) = ap (flat_map f) (sym x.2) ∙ lead_more items T E so_far in
      let two_is : flat_map f two ≡ flat_map f ((T ++ E) ++ R) = second ∙ lead_more one (T ++ E) R one_is in
      third ∙ lead_more two ((T ++ E) ++ R) J two_is ∙ ap (flat_map f) all

  pub all_on : (items : List Instr) → LeadOn inserts count texts path s items (tried_at inserts texts path 0 s.clients ++ takes 0 s.clients)
      → LeadOn inserts count texts path s items (filter (λ i. not (comes_late path i)) (candidates inserts texts s))
  all_on items h = h ∙ ap (flat_map f) (candidates_left path inserts texts s)

  pub then_takes : (first items : List Instr) → LeadOn inserts count texts path s first (tried_at inserts texts path 0 s.clients) → LeadOn inserts count texts path s items (first ++ takes 0 s.clients)
      → LeadOn inserts count texts path s items (filter (λ i. not (comes_late path i)) (candidates inserts texts s))
  then_takes first items a b = all_on items (b ∙ lead_more first (tried_at inserts texts path 0 s.clients) (takes 0 s.clients) a)

-- ---- behind a client that waits

tried_append : (inserts : ℕ) (texts : List (List ℕ)) (path : List Earlier) (c : ℕ) (xs ys : List Client) → tried_at inserts texts path c (xs ++ ys) ≡ tried_at inserts texts path c xs ++ tried_at inserts texts path (c + length xs) ys
tried_append inserts texts path c [] ys = let none : c ≡ c + 0 = omega arith in ap (λ (n : ℕ). tried_at inserts texts path n ys) none
tried_append inserts texts path c (x ∷ xs) ys =
    let next : suc c + length xs ≡ c + suc (length xs) = omega arith in
    ap (λ (is : List Instr). tried_of inserts texts path c x ++ is) (tried_append inserts texts path (suc c) xs ys ∙ ap (λ (n : ℕ). tried_at inserts texts path (suc c) xs ++ tried_at inserts texts path n ys) next)
    ∙ sym (append_assoc (tried_of inserts texts path c x) (tried_at inserts texts path (suc c) xs) (tried_at inserts texts path (c + suc (length xs)) ys))

unless_cases : (late : Bool) (i : Instr) (is : List Instr) → IsIn i (unless late is) → IsIn i is
unless_cases true i is h = absurd h
unless_cases false i is h = h

edits_at : (inserts : ℕ) (texts : List (List ℕ)) (c count : ℕ) (i : Instr) → IsIn i (edits inserts texts c count) → machine_of i ≡ ClientMachine c
edits_at inserts [] c count i h = absurd h
edits_at inserts (text ∷ texts) c count i h = let r = map_cases (Edit c) i (forms text inserts count) h in ap machine_of r.2

tried_of_at : (inserts : ℕ) (texts : List (List ℕ)) (path : List Earlier) (c : ℕ) (x : Client) (i : Instr) → IsIn i (tried_of inserts texts path c x) → machine_of i ≡ ClientMachine c
tried_of_at inserts texts path c x i h = elim (in_cases i (unless (is_late c false false path) (edits inserts texts c (length x.list))) _ h) [
  | inl edit ↦ edits_at inserts texts c (length x.list) i (unless_cases (is_late c false false path) i (edits inserts texts c (length x.list)) edit)
  | inr rest ↦ elim (in_cases i (unless (is_late c false true path) (Deliver c ∷ Acknowledge c ∷ [])) _ rest) [
    | inl receipt ↦ receipt_at (unless_cases (is_late c false true path) i (Deliver c ∷ Acknowledge c ∷ []) receipt)
    | inr join ↦ join_at (unless_cases (is_late c true false path) i (Join c ∷ []) join)
  ]
]
  where
    receipt_at : IsIn i (Deliver c ∷ Acknowledge c ∷ []) → machine_of i ≡ ClientMachine c
    receipt_at (inl e) = ap machine_of e
    receipt_at (inr (inl e)) = ap machine_of e
    receipt_at (inr (inr none)) = absurd none

    join_at : IsIn i (Join c ∷ []) → machine_of i ≡ ClientMachine c
    join_at (inl e) = ap machine_of e
    join_at (inr none) = absurd none

tried_later : (inserts : ℕ) (texts : List (List ℕ)) (path : List Earlier) (k c : ℕ) (xs : List Client) (i : Instr) → k < c → IsIn i (tried_at inserts texts path c xs) → is_before (ClientMachine k) (machine_of i) ≡ true
tried_later inserts texts path k c [] i less h = absurd h
tried_later inserts texts path k c (x ∷ xs) i less h = elim (in_cases i (tried_of inserts texts path c x) _ h) [
  | inl own ↦ ap (is_before (ClientMachine k)) (tried_of_at inserts texts path c x i own) ∙ lt-ltb k c less
  | inr later ↦ tried_later inserts texts path k (suc c) xs i (omega (arith, less)) later
]

takes_later : (k c : ℕ) (xs : List Client) (i : Instr) → IsIn i (takes c xs) → is_before (ClientMachine k) (machine_of i) ≡ true
takes_later k c [] i h = absurd h
takes_later k c (x ∷ xs) i (inl e) = ap (λ (j : Instr). is_before (ClientMachine k) (machine_of j)) e
takes_later k c (x ∷ xs) i (inr h) = takes_later k (suc c) xs i h

pub waits_on : (inserts count : ℕ) (texts : List (List ℕ)) (path : List Earlier) (s : State) (k : ℕ) (items : List Instr) → IsWaiting k s → LeadOn inserts count texts path s items (tried_at inserts texts path 0 (take (k + 1) s.clients))
    → LeadOn inserts count texts path s items (filter (λ i. not (comes_late path i)) (candidates inserts texts s))
waits_on inserts count texts path s k items w h =
    let g = sessions_by inserts count texts path s in
    let less = slice_get_within s.clients k w.x w.at in
    let many : 0 + length (take (k + 1) s.clients) ≡ k + 1 = let e = length-take-le (k + 1) s.clients (omega (arith, less)) in omega (arith, e) in
    let rest = tried_at inserts texts path (k + 1) (drop (k + 1) s.clients) in
    let whole : tried_at inserts texts path 0 s.clients ≡ tried_at inserts texts path 0 (take (k + 1) s.clients) ++ rest =
    ap (tried_at inserts texts path 0) (sym (take-append-drop (k + 1) s.clients))
    ∙ tried_append inserts texts path 0 (take (k + 1) s.clients) (drop (k + 1) s.clients)
    ∙ ap (λ (n : ℕ). tried_at inserts texts path 0 (take (k + 1) s.clients) ++ tried_at inserts texts path n (drop (k + 1) s.clients)) many in
    let none = flat_none g rest (λ i j. later_none inserts count texts path s k i w (tried_later inserts texts path k (k + 1) (drop (k + 1) s.clients) i (omega arith) j)) in
    let untaken = flat_none g (takes 0 s.clients) (λ i j. later_none inserts count texts path s k i w (takes_later k 0 s.clients i j)) in
    all_on inserts count texts path s items
    (h
    ∙ lead_none inserts count texts path s (tried_at inserts texts path 0 (take (k + 1) s.clients)) rest none
    ∙ ap (flat_map g) (sym whole)
    ∙ lead_none inserts count texts path s (tried_at inserts texts path 0 s.clients) (takes 0 s.clients) untaken)

-- by the length of its downlink
filled : (b : Bool) (xs : List Entry) (c r : ℕ) → 0 < length (if b then map (head_for c) (drop r xs) else []) → (b ≡ true) × (r < length xs)
filled true xs c r more = (refl, left_over r xs (let e = length-map (drop r xs) (head_for c) in omega (arith, e, more)))
  where
    left_over : (r : ℕ) (xs : List Entry) → 0 < length (drop r xs) → r < length xs
    left_over zero xs more = more
    left_over (suc r) [] more = absurd (omega (arith, more))
    left_over (suc r) (x ∷ xs) more = let e = left_over r xs more in omega (arith, e)
filled false xs c r more = absurd (omega (arith, more))

pub waiting_is : (s : State) (c n : ℕ) → ClientHas s c (λ x. length (downlink s c x)) n → 0 < n → IsWaiting c s
waiting_is s c n here more =
    let x = has s c (λ x. length (downlink s c x)) n here in
    let many = x.2 in
    let f = filled (is_joined (x.0).phase) s.log c (x.0).revision (omega (arith, many, more)) in
    record { x = x.0; at = x.1; on = f.0; behind = lt-ltb (x.0).revision (length s.log) f.1 }
