-- One instruction of a walk: forth, the sessions behind it, and back.
use Rattle.std.proofs.Common.{◌≡◌, ℕ, zero, suc, ◌+◌, ◌-◌, ◌<◌, ◌≤◌, List, [], ◌∷◌, ◌++◌, length, take, drop, map, refl, sym, ap, ◌∙◌, subst, arith, Option, Some, None, Bool, false, Result, Ok, Err}
use Rattle.std.specs.declared.alloc.Global.{Global}
use Rattle.std.specs.Prelude.{IsSomeAnd, OnErr, Vec, vec_items, slice_get, flat_map, filter, not, if◌then◌else◌, ◌&&◌}
use Rattle.std.specs.List.{range_with_len}
use Rattle.std.proofs.lemmas.Grind.{flat_map-append}
use Rattle.std.proofs.lemmas.List.{append-nil, length-map}
use Rattle.ot_isa.specs.declared.instruction.Instr.{Instr}
use Rattle.ot_isa.specs.declared.instruction.Instr.TheVariants.{Edit}
use Rattle.ot_operation.specs.Operation.{Operation}
use Rattle.ot_model.specs.declared.shown.Shown.{Shown}
use Rattle.ot_model.specs.Sound.{IsSound}
use Rattle.ot_model.specs.Table.{State, Performed, opening, step}
use Rattle.ot_machine.specs.Undoing.{Undoes}
use Rattle.ot_machine.specs.declared.undo.Undo.{Undo}
use Rattle.ot_every.specs.Due.{MayEnd}
use Rattle.ot_every.specs.Listing.{Earlier, Space, candidates, comes_late, is_empty, is_settled, sessions_from, sessions_of, texts_after, texts_from}
use Rattle.ot_every.specs.Walking.{AreMarks, Goes, GoesOrStays, IsBegun, IsMark, IsSame, LeadOn, Visits, VisitsPart, behind_all, sessions_by}
use Rattle.ot_every.specs.declared.marks.Mark.{Mark}
use Rattle.ot_every.specs.declared.walk.Walk.{Walk}
use Rattle.ot_every.proofs.Bound.{opening_clients}
use Rattle.ot_every.proofs.Remaining.{cannot_none, length_drop}
use Rattle.ot_every.proofs.Late.{marks_push}
use Rattle.ot_every.proofs.Visiting.{behind_cons, behind_nil, one_more, part_after, part_front, part_of_front, part_same, split_at, visits_append, visits_same}

-- the texts that are left
drop_one : {X : Type 0} (n : ℕ) (xs : List X) → drop 1 (drop n xs) ≡ drop (suc n) xs
drop_one zero [] = refl
drop_one zero (x ∷ xs) = refl
drop_one (suc n) [] = refl
drop_one (suc n) (x ∷ xs) = drop_one n xs

pub drop_next : (made : ℕ) (texts : List (List ℕ)) → drop 1 (drop made texts) ≡ drop (made + 1) texts
drop_next made texts = let next : suc made ≡ made + 1 = omega arith in drop_one made texts ∙ ap (λ (n : ℕ). drop n texts) next

pub edit_next : (i : Instr) (c : ℕ) (op : Operation ℕ) (made : ℕ) (texts : List (List ℕ)) → i ≡ Edit c op → texts_after i (drop made texts) ≡ drop (made + 1) texts
edit_next i c op made texts is = ap (λ (j : Instr). texts_after j (drop made texts)) is ∙ drop_next made texts

-- ---- what an instruction leads to

by_performed : (inserts count : ℕ) (texts : List (List ℕ)) (path : List Earlier) (s t : State) (i : Instr) (shown : Option Shown) → step s i ≡ Performed t shown
    → sessions_by inserts count texts path s i ≡ map (λ is. i ∷ is) (sessions_from inserts count (texts_after i texts) (record { before = s; instr = i } ∷ path) t)
by_performed inserts count texts path s t i shown led = rw (sessions_by, led) refl

-- the sessions behind an instruction, as those that go on with it
pub gone_sessions : (a0 a b : Walk) (i : Instr) (undo : Undo) (inserts count made made' : ℕ) (texts : List (List ℕ)) (path : List Earlier)
    → IsSame a0 a → Goes a i b undo → ((ts : List (List ℕ)) → texts_after i (drop made ts) ≡ drop made' ts)
    → behind_all b.instrs.items (sessions_from inserts count (drop made' texts) (record { before = a0.machine; instr = i } ∷ path) b.machine)
    ≡ behind_all a0.instrs.items (sessions_by inserts count (drop made texts) path a0.machine i)
gone_sessions a0 a b i undo inserts count made made' texts path same goes next =
    let p : Earlier = record { before = a0.machine; instr = i } in
    let led : step a0.machine i ≡ Performed b.machine goes.shown = ap (λ (s : State). step s i) (sym same.machine) ∙ goes.led in
    let instrs : b.instrs.items ≡ a0.instrs.items ++ i ∷ [] = goes.instrs ∙ ap (λ (is : List Instr). is ++ i ∷ []) same.instrs in
    ap (λ (is : List Instr). behind_all is (sessions_from inserts count (drop made' texts) (p ∷ path) b.machine)) instrs
    ∙ behind_cons a0.instrs.items i (sessions_from inserts count (drop made' texts) (p ∷ path) b.machine)
    ∙ ap (λ (ts : List (List ℕ)). behind_all a0.instrs.items (map (λ is. i ∷ is) (sessions_from inserts count ts (p ∷ path) b.machine))) (sym (next texts))
    ∙ ap (behind_all a0.instrs.items) (sym (by_performed inserts count (drop made texts) path a0.machine b.machine i goes.shown led))

-- and the marks behind it
pub gone_marks : (a0 a b : Walk) (i : Instr) (undo : Undo) (path : List Earlier) → IsSame a0 a → Goes a i b undo → AreMarks path (length a0.marks.items) a0.marks.items
    → AreMarks (record { before = a0.machine; instr = i } ∷ path) (length b.marks.items) b.marks.items
gone_marks a0 a b i undo path same goes are =
    let p : Earlier = record { before = a0.machine; instr = i } in
    let is : IsMark goes.mark p = subst (λ (s : State). IsMark goes.mark (record { before = s; instr = i })) same.machine goes.is_mark in
    let marks : b.marks.items ≡ a0.marks.items ++ goes.mark ∷ [] = goes.marks ∙ ap (λ (ms : List Mark). ms ++ goes.mark ∷ []) same.marks in
    subst (λ (ms : List Mark). AreMarks (p ∷ path) (length ms) ms) (sym marks) (marks_push path a0.marks.items p goes.mark are is)

-- the undo record is of the walk as it is then
pub gone_undoes : (a b d : Walk) (i : Instr) (undo : Undo) → Goes a i b undo → IsSame b d → Undoes a.machine d.machine undo
gone_undoes a b d i undo goes same = subst (λ (s : State). Undoes a.machine s undo) (sym same.machine) goes.undoes

-- back again
pub gone_back : (a0 a b d e : Walk) (i : Instr) (undo : Undo) → IsSame a0 a → Goes a i b undo → IsSame b d
    → ((earlier : State) → Undoes earlier d.machine undo → e.machine ≡ earlier)
    → ((before : List Instr) (last : Instr) → d.instrs.items ≡ before ++ last ∷ [] → e.instrs.items ≡ before)
    → ((before : List Mark) (last : Mark) → d.marks.items ≡ before ++ last ∷ [] → e.marks.items ≡ before)
    → IsSame a0 e
gone_back a0 a b d e i undo same goes on machine instrs marks =
    record {
      machine = machine a.machine (gone_undoes a b d i undo goes on) ∙ same.machine;
      instrs = instrs a.instrs.items i (on.instrs ∙ goes.instrs) ∙ same.instrs;
      marks = marks a.marks.items goes.mark (on.marks ∙ goes.marks) ∙ same.marks;
    }

-- ---- the visits of a loop over what is tried

module _ {V O : Type 0} (visits stops : V → O → List Instr → V → O → Type 0) where
  -- one that is performed adds those that go on with it
  pub goes_next : (before : List Instr) (f : Instr → List (List Instr)) (i : Instr) (k : ℕ) (items : List Instr) (xs : List (List Instr)) (v u w : V) (o p q : O)
      → slice_get items k ≡ Some i → xs ≡ behind_all before (f i)
      → Visits visits v o (behind_all before (flat_map f (take k items))) u p → Visits visits u p xs w q
      → Visits visits v o (behind_all before (flat_map f (take (k + 1) items))) w q
  goes_next before f i k items xs v u w o p q at is h g =
      let so_far = behind_all before (flat_map f (take k items)) in
      visits_same visits stops v w o q (so_far ++ behind_all before (f i)) (behind_all before (flat_map f (take (k + 1) items))) (one_more f before items k i at)
      (visits_append visits stops v u w o p q so_far (behind_all before (f i)) h (visits_same visits stops u w p q xs (behind_all before (f i)) is g))

  -- where the loop ends early, before an element or behind some of its sessions
  pub part_here : (before : List Instr) (f : Instr → List (List Instr)) (k : ℕ) (items : List Instr) (i : Instr) (v w : V) (o q : O) → slice_get items k ≡ Some i
      → Visits visits v o (behind_all before (flat_map f (take k items))) w q → VisitsPart visits stops v o (behind_all before (flat_map f items)) w q
  part_here before f k items i v w o q at h =
      let so_far = behind_all before (flat_map f (take k items)) in
      let rest = behind_all before (f i) ++ behind_all before (flat_map f (drop (suc k) items)) in
      part_same visits stops v w o q (so_far ++ rest) (behind_all before (flat_map f items)) (sym (split_at f before items k i at)) (part_of_front visits stops v w o q so_far rest h)

  pub part_inside : (before : List Instr) (f : Instr → List (List Instr)) (k : ℕ) (items : List Instr) (i : Instr) (xs : List (List Instr)) (v u w : V) (o p q : O)
      → slice_get items k ≡ Some i → xs ≡ behind_all before (f i)
      → Visits visits v o (behind_all before (flat_map f (take k items))) u p → VisitsPart visits stops u p xs w q
      → VisitsPart visits stops v o (behind_all before (flat_map f items)) w q
  part_inside before f k items i xs v u w o p q at is h g =
      let so_far = behind_all before (flat_map f (take k items)) in
      let here = behind_all before (f i) in
      let rest = behind_all before (flat_map f (drop (suc k) items)) in
      part_same visits stops v w o q (so_far ++ (here ++ rest)) (behind_all before (flat_map f items)) (sym (split_at f before items k i at))
      (part_after visits stops v u w o p q so_far (here ++ rest) h (part_front visits stops u w p q here rest (part_same visits stops u w p q xs here is g)))

-- ---- whole

-- where no instruction is left
end_none : (b : Bool) → b ≡ false → ◌≡◌ {A = List (List Instr)} (if b then [] ∷ [] else []) []
end_none b e = rw e refl

filled_drop : (n : ℕ) (texts : List (List ℕ)) (less : n < length texts) → is_empty (drop n texts) ≡ false
filled_drop zero [] less = absurd (omega arith)
filled_drop zero (t ∷ texts) less = refl
filled_drop (suc n) [] less = absurd (omega arith)
filled_drop (suc n) (t ∷ texts) less = filled_drop n texts (omega arith)

pub ends_short : (inserts count made : ℕ) (texts : List (List ℕ)) (path : List Earlier) (s : State) → count ≡ 0 → made < length texts → sessions_from inserts count (drop made texts) path s ≡ []
ends_short inserts count made texts path s none less =
    ap (λ (n : ℕ). sessions_from inserts n (drop made texts) path s) none
    ∙ end_none (is_empty (drop made texts) && is_settled s) (ap (λ (b : Bool). b && is_settled s) (filled_drop made texts less))

-- ---- from the opening

pub range_push : (a n : ℕ) → range_with_len a (suc n) ≡ range_with_len a n ++ (a + n) ∷ []
range_push a zero = let same : a ≡ a + 0 = omega arith in ap (λ (k : ℕ). k ∷ []) same
range_push a (suc n) =
    let same : a + 1 + n ≡ a + suc n = omega arith in
    ap (λ (ks : List ℕ). a ∷ ks) (range_push (a + 1) n ∙ ap (λ (k : ℕ). range_with_len (a + 1) n ++ k ∷ []) same)

range_apart : (a n m : ℕ) → range_with_len a (n + m) ≡ range_with_len a n ++ range_with_len (a + n) m
range_apart a zero m = let same : a ≡ a + 0 = omega arith in let none : 0 + m ≡ m = omega arith in ap (range_with_len a) none ∙ ap (λ (k : ℕ). range_with_len k m) same
range_apart a (suc n) m =
    let same : a + 1 + n ≡ a + suc n = omega arith in
    let more : suc n + m ≡ suc (n + m) = omega arith in
    ap (range_with_len a) more ∙ ap (λ (ks : List ℕ). a ∷ ks) (range_apart (a + 1) n m ∙ ap (λ (k : ℕ). range_with_len (a + 1) n ++ range_with_len k m) same)

module _ (g : ℕ → List (List Instr)) where
  pub range_more : (k : ℕ) → flat_map g (range_with_len 0 k) ++ g k ≡ flat_map g (range_with_len 0 (k + 1))
  range_more k =
      let next : suc k ≡ k + 1 = omega arith in
      let same : 0 + k ≡ k = omega arith in
      sym (ap (λ (n : ℕ). flat_map g (range_with_len 0 n)) (sym next) ∙ ap (flat_map g) (range_push 0 k) ∙ flat_map-append g (range_with_len 0 k) ((0 + k) ∷ [])
      ∙ ap (λ (n : ℕ). flat_map g (range_with_len 0 k) ++ (g n ++ [])) same
      ∙ ap (λ (xs : List (List Instr)). flat_map g (range_with_len 0 k) ++ xs) (append-nil (g k)))

  pub range_split : (k m : ℕ) → k < m → (rest : List (List Instr)) × ((flat_map g (range_with_len 0 k) ++ g k) ++ rest ≡ flat_map g (range_with_len 0 m))
  range_split k m less =
      let all : (k + 1) + (m - (k + 1)) ≡ m = omega arith in (
        flat_map g (range_with_len (0 + (k + 1)) (m - (k + 1))),
        ap (λ (xs : List (List Instr)). xs ++ flat_map g (range_with_len (0 + (k + 1)) (m - (k + 1)))) (range_more k)
            ∙ sym (flat_map-append g (range_with_len 0 (k + 1)) (range_with_len (0 + (k + 1)) (m - (k + 1))))
            ∙ ap (flat_map g) (sym (range_apart 0 (k + 1) (m - (k + 1))))
            ∙ ap (λ (n : ℕ). flat_map g (range_with_len 0 n)) all,
      )

pub begun_sessions : (space : Space) (w : Walk) (edits room inserts : ℕ) (texts : List (List ℕ)) → IsBegun space w → texts ≡ texts_from space.letters 0 edits → inserts ≡ space.inserts
    → behind_all w.instrs.items (sessions_from inserts room (drop 0 texts) [] w.machine) ≡ sessions_of space edits room
begun_sessions space w edits room inserts texts begun ts few =
    ap (λ (is : List Instr). behind_all is (sessions_from inserts room texts [] w.machine)) begun.instrs
    ∙ behind_nil (sessions_from inserts room texts [] w.machine)
    ∙ ap (λ (s : State). sessions_from inserts room texts [] s) begun.machine
    ∙ ap (λ (ys : List (List ℕ)). sessions_from inserts room ys [] (opening space.clients space.present space.start)) ts
    ∙ ap (λ (n : ℕ). sessions_from n room (texts_from space.letters 0 edits) [] (opening space.clients space.present space.start)) few

pub whole_sessions : (before : List Instr) (inserts count n : ℕ) (texts : List (List ℕ)) (path : List Earlier) (s : State) (items : List Instr)
    → LeadOn inserts n texts path s items (filter (λ i. not (comes_late path i)) (candidates inserts texts s)) → count ≡ suc n
    → behind_all before (flat_map (sessions_by inserts n texts path s) items) ≡ behind_all before (sessions_from inserts count texts path s)
whole_sessions before inserts count n texts path s items on e =
    ap (behind_all before) (on ∙ ap (λ (k : ℕ). sessions_from inserts k texts path s) (sym e))

-- where a session cannot end
pub ends_never : (inserts count made left : ℕ) (texts : List (Vec ℕ Global)) (path : List Earlier) (s : State) → IsSound s → left ≡ length texts - made → (MayEnd left count s → ⊥)
    → sessions_from inserts count (drop made (map vec_items texts)) path s ≡ []
ends_never inserts count made left texts path s sound is cannot =
    let many = length-map texts vec_items in
    let same : length (drop made (map vec_items texts)) ≡ left = length_drop made (map vec_items texts) ∙ omega (arith, many, is) in
    cannot_none inserts count (drop made (map vec_items texts)) path s (record { sound = sound; cannot = λ ends. cannot (subst (λ (n : ℕ). MayEnd n count s) same ends) })

pub begun_same : (space : Space) (a b : Walk) → IsBegun space a → IsSame a b → IsBegun space b
begun_same space a b begun same = record { machine = same.machine ∙ begun.machine; instrs = same.instrs ∙ begun.instrs; marks = same.marks ∙ begun.marks }

-- a space has at most 4 clients
pub opening_few : (clients present : ℕ) (text : List ℕ) (s : State) → s ≡ opening clients present text → present ≤ clients → clients ≤ 4 → length s.clients ≤ 4
opening_few clients present text s is le few =
    let many = ap (λ (t : State). length t.clients) is in
    let all = opening_clients clients present text le in
    omega (arith, many, all, few)

pub begun_marks : (space : Space) (w : Walk) → IsBegun space w → AreMarks [] (length w.marks.items) w.marks.items
begun_marks space w begun = ap length begun.marks

pub always_err : {T E P : Type 0} (r : Result T E) → P → OnErr r P
always_err (Ok x) p = tt
always_err (Err e) p = p

-- the table performs the instruction, with its undo record
pub went : (a b : Walk) (i : Instr) (t : State) (shown : Option Shown) (mark : Mark) (undo : Option Undo) → IsSomeAnd undo (Undoes a.machine t) → step a.machine i ≡ Performed t shown → b.machine ≡ t
    → b.instrs.items ≡ a.instrs.items ++ i ∷ [] → b.marks.items ≡ a.marks.items ++ mark ∷ [] → IsMark mark (record { before = a.machine; instr = i }) → GoesOrStays a i b undo
went a b i t shown mark None undoes led machine instrs marks is = absurd undoes
went a b i t shown mark (Some undo) undoes led machine instrs marks is =
    record {
      shown = shown;
      led = led ∙ ap (λ (s : State). Performed s shown) (sym machine);
      undoes = subst (λ (s : State). Undoes a.machine s undo) (sym machine) undoes;
      instrs = instrs;
      mark = mark;
      is_mark = is;
      marks = marks;
    }

module _ {V O : Type 0} (visits stops : V → O → List Instr → V → O → Type 0) where
  pub part_whole : (v w : V) (o q : O) (xs : List (List Instr)) → Visits visits v o xs w q → VisitsPart visits stops v o xs w q
  part_whole v w o q xs h = part_same visits stops v w o q (xs ++ []) xs (append-nil xs) (part_of_front visits stops v w o q xs [] h)

  pub visits_none : (v : V) (o : O) (before : List Instr) (xs : List (List Instr)) → xs ≡ [] → Visits visits v o (behind_all before xs) v o
  visits_none v o before xs e = visits_same visits stops v v o o [] (behind_all before xs) (sym (ap (behind_all before) e)) (refl, refl)

  pub range_next : (g : ℕ → List (List Instr)) (k : ℕ) (v u w : V) (o p q : O) (xs : List (List Instr)) → xs ≡ g k
      → Visits visits v o (flat_map g (range_with_len 0 k)) u p → Visits visits u p xs w q → Visits visits v o (flat_map g (range_with_len 0 (k + 1))) w q
  range_next g k v u w o p q xs e h r =
      visits_same visits stops v w o q (flat_map g (range_with_len 0 k) ++ g k) (flat_map g (range_with_len 0 (k + 1))) (range_more g k)
      (visits_append visits stops v u w o p q (flat_map g (range_with_len 0 k)) (g k) h (visits_same visits stops u w p q xs (g k) e r))

  pub range_part : (g : ℕ → List (List Instr)) (k m : ℕ) (v u w : V) (o p q : O) (xs : List (List Instr)) → k < m → xs ≡ g k
      → Visits visits v o (flat_map g (range_with_len 0 k)) u p → VisitsPart visits stops u p xs w q → VisitsPart visits stops v o (flat_map g (range_with_len 0 m)) w q
  range_part g k m v u w o p q xs less e h r =
      let split = range_split g k m less in
      part_same visits stops v w o q ((flat_map g (range_with_len 0 k) ++ g k) ++ split.0) (flat_map g (range_with_len 0 m)) split.1
      (part_front visits stops v w o q (flat_map g (range_with_len 0 k) ++ g k) split.0
      (part_after visits stops v u w o p q (flat_map g (range_with_len 0 k)) (g k) h (part_same visits stops u w p q xs (g k) e r)))
