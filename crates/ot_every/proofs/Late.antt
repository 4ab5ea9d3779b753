-- What comes late, by the marks of a path, and what is left of the candidates.
use Rattle.std.proofs.Common.{◌≡◌, ℕ, zero, suc, ◌+◌, ◌<◌, ◌≤◌, List, [], ◌∷◌, ◌++◌, length, take, drop, map, refl, sym, ap, ap₂, ◌∙◌, subst, arith, Option, Some, None, Bool, true, false, append_assoc}
use Rattle.std.specs.Prelude.{◌&&◌, ◌||◌, nat_lt, not, slice_get, unwrap_or, filter}
use Rattle.std.proofs.lemmas.List.Elements.{filter-append}
use Rattle.std.proofs.lemmas.List.{drop_all, length-append, length-take-le, append-nil}
use Rattle.std.specs.Option.{option_map}
use Rattle.std.proofs.lemmas.Option.{same_Some, slice_get_within}
use Rattle.ot_isa.specs.Program.{client_of}
use Rattle.ot_isa.specs.declared.instruction.Instr.{Instr}
use Rattle.ot_isa.specs.declared.instruction.Instr.TheVariants.{Edit, Take, Deliver, Acknowledge, Read, Join, ReadServer}
use Rattle.ot_isa.specs.declared.elements.Tagged.{Tagged}
use Rattle.ot_operation.specs.Operation.{Operation}
use Rattle.ot_model.specs.Table.{Client, State}
use Rattle.ot_model.specs.Orders.{ClientMachine, ServerMachine, is_at}
use Rattle.ot_model.proofs.Reordering.{filter_yes, filter_no}
use Rattle.ot_model.proofs.States.{drop_entry, take_entry}
use Rattle.ot_every.specs.Forms.{forms}
use Rattle.ot_every.specs.Listing.{Earlier, at_clients, candidates, comes_late, edits, has_client, is_before, is_behind, is_there, machine_of, takes}
use Rattle.ot_every.specs.Walking.{AreMarks, IsMark, is_clients, is_late, stops, tried_at, tried_of, unless}
use Rattle.ot_every.specs.declared.marks.Mark.{Mark}

-- ---- a mark

pub later_is : (c : ℕ) (i : Instr) → (not (is_clients i) || nat_lt c (unwrap_or (client_of i) 0)) ≡ is_before (ClientMachine c) (machine_of i)
later_is c (Edit d op) = refl
later_is c (Take d) = refl
later_is c (Deliver d) = refl
later_is c (Acknowledge d) = refl
later_is c (Join d) = refl
later_is c (Read d) = refl
later_is c ReadServer = refl

-- ---- the marks of a path

none_left : (count n : ℕ) → count ≡ 0 → count ≡ suc n → ⊥
none_left count n a b = let e = sym a ∙ b in omega (arith, e)

pub late_none : (path : List Earlier) (count c : ℕ) (joins receives : Bool) (marks : List Mark) → AreMarks path count marks → count ≡ 0 → false ≡ is_late c joins receives path
late_none [] count c joins receives marks are e = refl
late_none (p ∷ path) count c joins receives marks (n, m, more, at, is, are) e = absurd (none_left count n e more)

-- at the last mark
pub last_mark : (p : Earlier) (path : List Earlier) (count n : ℕ) (marks : List Mark) (m : Mark) → AreMarks (p ∷ path) count marks → count ≡ suc n → slice_get marks n ≡ Some m → IsMark m p × AreMarks path n marks
last_mark p path count n marks m (k, mark, more, at, is, are) e here =
    let same : k ≡ n = omega (arith, more, e) in
    let found : mark ≡ m = same_Some mark m (sym at ∙ ap (slice_get marks) same ∙ here) in
    (subst (λ (x : Mark). IsMark x p) found is, subst (λ (j : ℕ). AreMarks path j marks) same are)

pub late_stops : (path : List Earlier) (count n c : ℕ) (joins receives : Bool) (marks : List Mark) (m : Mark) → AreMarks path count marks → count ≡ suc n → slice_get marks n ≡ Some m
    → ((p : Earlier) → IsMark m p → true ≡ stops c joins receives p) → false ≡ is_late c joins receives path
late_stops [] count n c joins receives marks m are e here stopped = refl
late_stops (p ∷ path) count n c joins receives marks m are e here stopped =
    let last = last_mark p path count n marks m are e here in
    ap (λ (b : Bool). not b && (is_before (ClientMachine c) (machine_of p.instr) || is_late c joins receives path)) (stopped p last.0)

pub late_later : (path : List Earlier) (count n c : ℕ) (joins receives : Bool) (marks : List Mark) (m : Mark) → AreMarks path count marks → count ≡ suc n → slice_get marks n ≡ Some m
    → ((p : Earlier) → IsMark m p → false ≡ stops c joins receives p) → ((p : Earlier) → IsMark m p → true ≡ is_before (ClientMachine c) (machine_of p.instr)) → true ≡ is_late c joins receives path
late_later [] count n c joins receives marks m are e here free later = absurd (none_left count n are e)
late_later (p ∷ path) count n c joins receives marks m are e here free later =
    let last = last_mark p path count n marks m are e here in
    ap₂ (λ (b l : Bool). not b && (l || is_late c joins receives path)) (free p last.0) (later p last.0)

pub late_before : (path : List Earlier) (count n c : ℕ) (joins receives : Bool) (marks : List Mark) (m : Mark) (late : Bool) → AreMarks path count marks → count ≡ suc n → slice_get marks n ≡ Some m
    → ((p : Earlier) → IsMark m p → false ≡ stops c joins receives p) → ((p : Earlier) → IsMark m p → false ≡ is_before (ClientMachine c) (machine_of p.instr))
    → ((before : List Earlier) → AreMarks before n marks → late ≡ is_late c joins receives before) → late ≡ is_late c joins receives path
late_before [] count n c joins receives marks m late are e here free later rest = absurd (none_left count n are e)
late_before (p ∷ path) count n c joins receives marks m late are e here free later rest =
    let last = last_mark p path count n marks m are e here in
    rest path last.1 ∙ ap₂ (λ (b l : Bool). not b && (l || is_late c joins receives path)) (free p last.0) (later p last.0)

marks_longer : (path : List Earlier) (n : ℕ) (marks more : List Mark) → AreMarks path n marks → AreMarks path n (marks ++ more)
marks_longer [] n marks more are = are
marks_longer (p ∷ path) n marks more (k, m, count, at, is, are) = (k, m, count, longer marks k m at, is, marks_longer path k marks more are)
  where
    longer : (xs : List Mark) (k : ℕ) (m : Mark) → slice_get xs k ≡ Some m → slice_get (xs ++ more) k ≡ Some m
    longer [] k m at = absurd (cc)
    longer (x ∷ xs) zero m at = at
    longer (x ∷ xs) (suc k) m at = longer xs k m at

at_end : (xs : List Mark) (m : Mark) → slice_get (xs ++ m ∷ []) (length xs) ≡ Some m
at_end [] m = refl
at_end (x ∷ xs) m = at_end xs m

pub marks_push : (path : List Earlier) (marks : List Mark) (p : Earlier) (m : Mark) → AreMarks path (length marks) marks → IsMark m p → AreMarks (p ∷ path) (length (marks ++ m ∷ [])) (marks ++ m ∷ [])
marks_push path marks p m are is =
    let one = length-append marks (m ∷ []) in
    let longer : length (marks ++ m ∷ []) ≡ suc (length marks) = omega (arith, one) in
    (length marks, m, longer, at_end marks m, is, marks_longer path (length marks) marks (m ∷ []) are)

-- ---- what comes late, by what the instruction does

edit_by : (a s h b l : Bool) → (not (a || (false && s)) && (true && (b || l))) ≡ (not (a || (false && s) || (false && h)) && (b || l))
edit_by true s h b l = refl
edit_by false s h b l = refl

pub late_edit : (path : List Earlier) (c : ℕ) (op : Operation ℕ) → comes_late path (Edit c op) ≡ is_late c false false path
late_edit [] c op = refl
late_edit (p ∷ path) c op =
    edit_by (is_at (ClientMachine c) p.instr) (is_at ServerMachine p.instr) (not (has_client (slice_get p.before.clients c) (is_behind p.before))) (is_before (ClientMachine c) (machine_of p.instr)) (comes_late path (Edit c op))
    ∙ ap (λ (l : Bool). not (stops c false false p) && (is_before (ClientMachine c) (machine_of p.instr) || l)) (late_edit path c op)

receipt_by : (a s h b l : Bool) → (not (a || (false && s)) && (h && (b || l))) ≡ (not (a || (false && s) || (true && not h)) && (b || l))
receipt_by true s h b l = refl
receipt_by false s true b l = refl
receipt_by false s false b l = refl

pub late_deliver : (path : List Earlier) (c : ℕ) → comes_late path (Deliver c) ≡ is_late c false true path
late_deliver [] c = refl
late_deliver (p ∷ path) c =
    receipt_by (is_at (ClientMachine c) p.instr) (is_at ServerMachine p.instr) (has_client (slice_get p.before.clients c) (is_behind p.before)) (is_before (ClientMachine c) (machine_of p.instr)) (comes_late path (Deliver c))
    ∙ ap (λ (l : Bool). not (stops c false true p) && (is_before (ClientMachine c) (machine_of p.instr) || l)) (late_deliver path c)

pub late_acknowledge : (path : List Earlier) (c : ℕ) → comes_late path (Acknowledge c) ≡ is_late c false true path
late_acknowledge [] c = refl
late_acknowledge (p ∷ path) c =
    receipt_by (is_at (ClientMachine c) p.instr) (is_at ServerMachine p.instr) (has_client (slice_get p.before.clients c) (is_behind p.before)) (is_before (ClientMachine c) (machine_of p.instr)) (comes_late path (Acknowledge c))
    ∙ ap (λ (l : Bool). not (stops c false true p) && (is_before (ClientMachine c) (machine_of p.instr) || l)) (late_acknowledge path c)

join_by : (a s h b l : Bool) → (not (a || (true && s)) && (true && (b || l))) ≡ (not (a || (true && s) || (false && h)) && (b || l))
join_by true s h b l = refl
join_by false true h b l = refl
join_by false false h b l = refl

pub late_join : (path : List Earlier) (c : ℕ) → comes_late path (Join c) ≡ is_late c true false path
late_join [] c = refl
late_join (p ∷ path) c =
    join_by (is_at (ClientMachine c) p.instr) (is_at ServerMachine p.instr) (not (has_client (slice_get p.before.clients c) (is_behind p.before))) (is_before (ClientMachine c) (machine_of p.instr)) (comes_late path (Join c))
    ∙ ap (λ (l : Bool). not (stops c true false p) && (is_before (ClientMachine c) (machine_of p.instr) || l)) (late_join path c)

take_by : (a t : Bool) → (not a && (t && (false || false))) ≡ false
take_by true t = refl
take_by false true = refl
take_by false false = refl

pub late_take : (path : List Earlier) (c : ℕ) → comes_late path (Take c) ≡ false
late_take [] c = refl
late_take (p ∷ path) c =
    ap (λ (l : Bool). not (is_at ServerMachine p.instr || (true && is_at ServerMachine p.instr)) && (is_there p.before (Take c) && (false || l))) (late_take path c)
    ∙ take_by (is_at ServerMachine p.instr || (true && is_at ServerMachine p.instr)) (is_there p.before (Take c))

-- ---- what is left of the candidates

abbrev in_time : List Earlier → Instr → Bool
in_time path i = not (comes_late path i)

unless_nil : (late : Bool) → unless late [] ≡ []
unless_nil true = refl
unless_nil false = refl

kept_edits : (path : List Earlier) (c : ℕ) (ops : List (Operation ℕ)) (late : Bool) → is_late c false false path ≡ late → filter (in_time path) (map (Edit c) ops) ≡ unless late (map (Edit c) ops)
kept_edits path c [] late is = sym (unless_nil late)
kept_edits path c (op ∷ ops) true is =
    filter_no (in_time path) (Edit c op) (map (Edit c) ops) (ap not (late_edit path c op ∙ is)) ∙ kept_edits path c ops true is
kept_edits path c (op ∷ ops) false is =
    filter_yes (in_time path) (Edit c op) (map (Edit c) ops) (ap not (late_edit path c op ∙ is)) ∙ ap (λ (is : List Instr). Edit c op ∷ is) (kept_edits path c ops false is)

edits_left : (path : List Earlier) (inserts : ℕ) (texts : List (List ℕ)) (c count : ℕ) → filter (in_time path) (edits inserts texts c count) ≡ unless (is_late c false false path) (edits inserts texts c count)
edits_left path inserts [] c count = sym (unless_nil (is_late c false false path))
edits_left path inserts (text ∷ texts) c count = kept_edits path c (forms text inserts count) (is_late c false false path) refl

receipts_left : (path : List Earlier) (c : ℕ) (late : Bool) → is_late c false true path ≡ late → filter (in_time path) (Deliver c ∷ Acknowledge c ∷ []) ≡ unless late (Deliver c ∷ Acknowledge c ∷ [])
receipts_left path c true is =
    filter_no (in_time path) (Deliver c) (Acknowledge c ∷ []) (ap not (late_deliver path c ∙ is)) ∙ filter_no (in_time path) (Acknowledge c) [] (ap not (late_acknowledge path c ∙ is))
receipts_left path c false is =
    filter_yes (in_time path) (Deliver c) (Acknowledge c ∷ []) (ap not (late_deliver path c ∙ is))
    ∙ ap (λ (is : List Instr). Deliver c ∷ is) (filter_yes (in_time path) (Acknowledge c) [] (ap not (late_acknowledge path c ∙ is)))

join_left : (path : List Earlier) (c : ℕ) (late : Bool) → is_late c true false path ≡ late → filter (in_time path) (Join c ∷ []) ≡ unless late (Join c ∷ [])
join_left path c true is = filter_no (in_time path) (Join c) [] (ap not (late_join path c ∙ is))
join_left path c false is = filter_yes (in_time path) (Join c) [] (ap not (late_join path c ∙ is))

clients_left : (path : List Earlier) (inserts : ℕ) (texts : List (List ℕ)) (c : ℕ) (clients : List Client) → filter (in_time path) (at_clients inserts texts c clients) ≡ tried_at inserts texts path c clients
clients_left path inserts texts c [] = refl
clients_left path inserts texts c (x ∷ clients) =
    let rest = at_clients inserts texts (suc c) clients in
    let e = edits_left path inserts texts c (length x.list) in
    let r = receipts_left path c (is_late c false true path) refl in
    let j = join_left path c (is_late c true false path) refl in
    let more = clients_left path inserts texts (suc c) clients in
    let E = unless (is_late c false false path) (edits inserts texts c (length x.list)) in
    let R = unless (is_late c false true path) (Deliver c ∷ Acknowledge c ∷ []) in
    let J = unless (is_late c true false path) (Join c ∷ []) in
    let T = tried_at inserts texts path (suc c) clients in
    filter-append (in_time path) (edits inserts texts c (length x.list)) ((Deliver c ∷ Acknowledge c ∷ []) ++ ((Join c ∷ []) ++ rest))
    ∙ ap₂ (λ (xs ys : List Instr). xs ++ ys) e
    (filter-append (in_time path) (Deliver c ∷ Acknowledge c ∷ []) ((Join c ∷ []) ++ rest)
    ∙ ap₂ (λ (xs ys : List Instr). xs ++ ys) r (filter-append (in_time path) (Join c ∷ []) rest ∙ ap₂ (λ (xs ys : List Instr). xs ++ ys) j more))
    ∙ ap (λ (ys : List Instr). E ++ ys) (sym (append_assoc R J T))
    ∙ sym (append_assoc E (R ++ J) T)

takes_left : (path : List Earlier) (c : ℕ) (clients : List Client) → filter (in_time path) (takes c clients) ≡ takes c clients
takes_left path c [] = refl
takes_left path c (x ∷ clients) =
    filter_yes (in_time path) (Take c) (takes (suc c) clients) (ap not (late_take path c)) ∙ ap (λ (is : List Instr). Take c ∷ is) (takes_left path (suc c) clients)

pub candidates_left : (path : List Earlier) (inserts : ℕ) (texts : List (List ℕ)) (s : State)
    → tried_at inserts texts path 0 s.clients ++ takes 0 s.clients ≡ filter (in_time path) (candidates inserts texts s)
candidates_left path inserts texts s =
    sym (filter-append (in_time path) (at_clients inserts texts 0 s.clients) (takes 0 s.clients)
    ∙ ap₂ (λ (xs ys : List Instr). xs ++ ys) (clients_left path inserts texts 0 s.clients) (takes_left path 0 s.clients))

-- one client more
tried_push : (inserts : ℕ) (texts : List (List ℕ)) (path : List Earlier) (c : ℕ) (clients : List Client) (x : Client)
    → tried_at inserts texts path c (clients ++ x ∷ []) ≡ tried_at inserts texts path c clients ++ tried_of inserts texts path (c + length clients) x
tried_push inserts texts path c [] x =
    let same : c ≡ c + 0 = omega arith in
    append-nil (tried_of inserts texts path c x) ∙ ap (λ (n : ℕ). tried_of inserts texts path n x) same
tried_push inserts texts path c (y ∷ clients) x =
    let same : suc c + length clients ≡ c + suc (length clients) = omega arith in
    ap (λ (is : List Instr). tried_of inserts texts path c y ++ is) (tried_push inserts texts path (suc c) clients x ∙ ap (λ (n : ℕ). tried_at inserts texts path (suc c) clients ++ tried_of inserts texts path n x) same)
    ∙ sym (append_assoc (tried_of inserts texts path c y) (tried_at inserts texts path (suc c) clients) (tried_of inserts texts path (c + suc (length clients)) x))

takes_push : (c : ℕ) (clients : List Client) (x : Client) → takes c (clients ++ x ∷ []) ≡ takes c clients ++ Take (c + length clients) ∷ []
takes_push c [] x = let same : c ≡ c + 0 = omega arith in ap (λ (n : ℕ). Take n ∷ []) same
takes_push c (y ∷ clients) x =
    let same : suc c + length clients ≡ c + suc (length clients) = omega arith in
    ap (λ (is : List Instr). Take c ∷ is) (takes_push (suc c) clients x ∙ ap (λ (n : ℕ). takes (suc c) clients ++ Take n ∷ []) same)

there : {X : Type 0} (xs : List X) (k : ℕ) → k < length xs → (x : X) × (slice_get xs k ≡ Some x)
there [] k less = absurd (omega arith)
there (x ∷ xs) zero less = (x, refl)
there (x ∷ xs) (suc k) less = there xs k (omega arith)

length_taken : {X : Type 0} (xs : List X) (k : ℕ) → k < length xs → length (take k xs) ≡ k
length_taken xs k less = length-take-le k xs (omega arith)

pub takes_next : (first items : List Instr) (clients : List Client) (k : ℕ) → items ≡ first ++ takes 0 (take k clients) → k < length clients → items ++ Take k ∷ [] ≡ first ++ takes 0 (take (k + 1) clients)
takes_next first items clients k so_far less =
    let x = there clients k less in
    let next : suc k ≡ k + 1 = omega arith in
    let many : 0 + length (take k clients) ≡ k = let e = length_taken clients k less in omega (arith, e) in
    ap (λ (is : List Instr). is ++ Take k ∷ []) so_far
    ∙ append_assoc first (takes 0 (take k clients)) (Take k ∷ [])
    ∙ ap (λ (is : List Instr). first ++ is)
    (ap (λ (n : ℕ). takes 0 (take k clients) ++ Take n ∷ []) (sym many)
    ∙ sym (takes_push 0 (take k clients) x.0)
    ∙ ap (takes 0) (sym (take_entry clients k x.0 x.1))
    ∙ ap (λ (n : ℕ). takes 0 (take n clients)) next)

pub tried_next : (inserts : ℕ) (texts : List (List ℕ)) (path : List Earlier) (clients : List Client) (k : ℕ) (items one two three : List Instr)
    → items ≡ tried_at inserts texts path 0 (take k clients)
    → option_map (λ (x : Client). items ++ unless (is_late k false false path) (edits inserts texts k (length x.list))) (slice_get clients k) ≡ Some one
    → two ≡ one ++ unless (is_late k false true path) (Deliver k ∷ Acknowledge k ∷ [])
    → three ≡ two ++ unless (is_late k true false path) (Join k ∷ [])
    → three ≡ tried_at inserts texts path 0 (take (k + 1) clients)
tried_next inserts texts path clients k items one two three so_far first second third = go (slice_get clients k) refl first
  where
    go : (o : Option Client) → slice_get clients k ≡ o → option_map (λ (x : Client). items ++ unless (is_late k false false path) (edits inserts texts k (length x.list))) o ≡ Some one
        → three ≡ tried_at inserts texts path 0 (take (k + 1) clients)
    go None at e = absurd (cc)
    go (Some x) at e =
        let E = unless (is_late k false false path) (edits inserts texts k (length x.list)) in
        let R = unless (is_late k false true path) (Deliver k ∷ Acknowledge k ∷ []) in
        let J = unless (is_late k true false path) (Join k ∷ []) in
        let next : suc k ≡ k + 1 = omega arith in
        let less : k < length clients = slice_get_within clients k x at in
        let many : 0 + length (take k clients) ≡ k = let l = length_taken clients k less in omega (arith, l) in
        third
        ∙ ap (λ (is : List Instr). is ++ J) (second ∙ ap (λ (is : List Instr). is ++ R) (sym (same_Some (items ++ E) one e)))
        ∙ ap (λ (is : List Instr). is ++ J) (append_assoc items E R)
        ∙ append_assoc items (E ++ R) J
        ∙ ap (λ (is : List Instr). items ++ is) (append_assoc E R J)
        ∙ ap (λ (is : List Instr). is ++ (E ++ (R ++ J))) so_far
        ∙ ap (λ (n : ℕ). tried_at inserts texts path 0 (take k clients) ++ tried_of inserts texts path n x) (sym many)
        ∙ sym (tried_push inserts texts path 0 (take k clients) x)
        ∙ ap (tried_at inserts texts path 0) (sym (take_entry clients k x at))
        ∙ ap (λ (n : ℕ). tried_at inserts texts path 0 (take n clients)) next

-- the edits of a client
pub no_edits : (s : State) (c inserts made : ℕ) (items : List Instr) (texts : List (List ℕ)) (late : Bool) → c < length s.clients → length texts ≤ made
    → option_map (λ (x : Client). items ++ unless late (edits inserts (drop made texts) c (length x.list))) (slice_get s.clients c) ≡ Some items
no_edits s c inserts made items texts late less le =
    let x = there s.clients c less in
    ap (option_map (λ (x : Client). items ++ unless late (edits inserts (drop made texts) c (length x.list)))) x.1
    ∙ ap Some (ap (λ (ts : List (List ℕ)). items ++ unless late (edits inserts ts c (length (x.0).list))) (drop_all made texts le)
    ∙ ap (λ (is : List Instr). items ++ is) (unless_nil late) ∙ append-nil items)

pub late_edits : (s : State) (c inserts : ℕ) (items : List Instr) (texts : List (List ℕ)) (late : Bool) → c < length s.clients → late ≡ true
    → option_map (λ (x : Client). items ++ unless late (edits inserts texts c (length x.list))) (slice_get s.clients c) ≡ Some items
late_edits s c inserts items texts late less is =
    let x = there s.clients c less in
    ap (option_map (λ (x : Client). items ++ unless late (edits inserts texts c (length x.list)))) x.1
    ∙ ap Some (ap (λ (b : Bool). items ++ unless b (edits inserts texts c (length (x.0).list))) is ∙ append-nil items)

pub some_edits : (s : State) (c inserts made count : ℕ) (items new : List Instr) (texts : List (List ℕ)) (text : List ℕ) (list : List Tagged) (late : Bool)
    → late ≡ false → slice_get texts made ≡ Some text → option_map (λ (x : Client). x.list) (slice_get s.clients c) ≡ Some list → count ≡ length list
    → new ≡ items ++ map (λ x. Edit c x) (forms text inserts count)
    → option_map (λ (x : Client). items ++ unless late (edits inserts (drop made texts) c (length x.list))) (slice_get s.clients c) ≡ Some new
some_edits s c inserts made count items new texts text list late is at document many made_is = go (slice_get s.clients c) document
  where
    go : (o : Option Client) → option_map (λ (x : Client). x.list) o ≡ Some list → option_map (λ (x : Client). items ++ unless late (edits inserts (drop made texts) c (length x.list))) o ≡ Some new
    go None e = absurd (cc)
    go (Some x) e =
        ap (λ (b : Bool). Some (items ++ unless b (edits inserts (drop made texts) c (length x.list)))) is
        ∙ ap (λ (ts : List (List ℕ)). Some (items ++ edits inserts ts c (length x.list))) (drop_entry texts made text at)
        ∙ ap (λ (n : ℕ). Some (items ++ map (λ x. Edit c x) (forms text inserts n))) (ap length (same_Some x.list list e) ∙ sym many)
        ∙ ap Some (sym made_is)
