-- The lists of inserting instructions, and how many characters each client has inserted in a run.
use Rattle.std.proofs.Common.{◌≡◌, ℕ, zero, suc, ◌+◌, ◌-◌, ◌<◌, ◌≤◌, List, [], ◌∷◌, ◌++◌, length, take, set, get_or, refl, sym, ap, ◌∙◌, subst, arith, inl, inr, Option, Some, None, Bool, false}
use Rattle.std.proofs.lemmas.Bool.{cases_eq, cases_lt, eq-eqb, eqb-true, false_from_ne_true}
use Rattle.std.proofs.lemmas.List.{append_assoc, append-nil, length-append, length-replicate, get_or-set_same, get_or-set_other, get_or_past}
use Rattle.std.proofs.lemmas.Option.{same_Some, slice_get_within, slice_get-get_or}
use Rattle.std.specs.Prelude.{◌⊎◌, replicate, slice_get, if◌then◌else◌, ◌==◌}
use Rattle.ot_isa.specs.Program.{Program, IsInstr, IsProgram, IsForClients}
use Rattle.ot_isa.specs.declared.instruction.Instr.{Instr}
use Rattle.ot_isa.specs.declared.instruction.Instr.TheVariants.{Edit, Take, Deliver, Acknowledge, Read, Join, ReadServer}
use Rattle.ot_model.specs.Operation.{Operation, inserted}
use Rattle.ot_model.specs.Table.{Client, State, Place, Outcome, Performed, Refused, NoRow, absent, acknowledged, begin, edited, opening, run, step, tag_operation, with_row, with_shown}
use Rattle.ot_model.proofs.Outcomes.{by_edit, by_take, by_deliver, by_acknowledge, by_join, by_read, by_read_server}
use Rattle.ot_model.proofs.Running.{acknowledged_keeps}
use Rattle.ot_model.proofs.States.{length-news-tag_items}
use Rattle.ot_model.proofs.Steps.{each_opening}
use Rattle.ot_report.specs.Authors.{inserted_by, inserters, AreInserters}

-- ---- lists

not_equal : (a b : ℕ) → (a ≡ b → ⊥) → (a == b) ≡ false
not_equal a b other = false_from_ne_true (a == b) (λ same. other (eqb-true a b same))

get_repeated : (m n i : ℕ) (rest : List ℕ) → i < m → slice_get (replicate m n ++ rest) i ≡ Some n
get_repeated zero n i rest below = absurd (omega (arith, below))
get_repeated (suc m) n zero rest below = refl
get_repeated (suc m) n (suc i) rest below = get_repeated m n i rest (omega (arith, below))

get_behind : (m n i : ℕ) (rest : List ℕ) → slice_get (replicate m n ++ rest) (m + i) ≡ slice_get rest i
get_behind zero n i rest = ap (λ (k : ℕ). slice_get rest k) (omega arith)
get_behind (suc m) n i rest =
    let more : suc m + i ≡ suc (m + i) = omega arith in
    ap (λ (k : ℕ). slice_get (replicate (suc m) n ++ rest) k) more ∙ get_behind m n i rest

length_inserters : (c number : ℕ) (i : Instr) (is : List Instr) → length (inserters c number (i ∷ is)) ≡ inserted_by c i + length (inserters c (suc number) is)
length_inserters c number i is = length-append (replicate (inserted_by c i) number) (inserters c (suc number) is) ∙ ap (λ (n : ℕ). n + length (inserters c (suc number) is)) (length-replicate (inserted_by c i) number)

-- an instruction that inserts something as c is an edit of c
inserts_only_edits : (c : ℕ) (i : Instr) → 1 ≤ inserted_by c i → (op : Operation ℕ) × (i ≡ Edit c op)
inserts_only_edits c (Edit d op) some = go (cases_eq d c) some
  where
    go : (d ≡ c) ⊎ (d ≡ c → ⊥) → 1 ≤ (if d == c then inserted op else 0) → (o : Operation ℕ) × (Edit d op ≡ Edit c o)
    go (inl same) more = (op, ap (λ (n : ℕ). Edit n op) same)
    go (inr other) more = absurd (omega (arith, more, ap (λ (b : Bool). if b then inserted op else 0) (not_equal d c other)))
inserts_only_edits c (Take d) some = absurd (omega (arith, some))
inserts_only_edits c (Deliver d) some = absurd (omega (arith, some))
inserts_only_edits c (Acknowledge d) some = absurd (omega (arith, some))
inserts_only_edits c (Read d) some = absurd (omega (arith, some))
inserts_only_edits c (Join d) some = absurd (omega (arith, some))
inserts_only_edits c ReadServer some = absurd (omega (arith, some))

inserted_by_self : (c : ℕ) (op : Operation ℕ) → inserted_by c (Edit c op) ≡ inserted op
inserted_by_self c op = ap (λ (b : Bool). if b then inserted op else 0) (eq-eqb c c refl)

-- what instruction k inserts as c is of k
pub edit_inserts : (c number k i : ℕ) (is : List Instr) (op : Operation ℕ) → slice_get is k ≡ Some (Edit c op) → length (inserters c number (take k is)) ≤ i → i < length (inserters c number (take k is)) + inserted op
    → slice_get (inserters c number is) i ≡ Some (number + k)
edit_inserts c number k i [] op at low high = absurd (cc)
edit_inserts c number zero i (e ∷ is) op at low high =
    let here : e ≡ Edit c op = same_Some e (Edit c op) at in
    let many : inserted_by c e ≡ inserted op = ap (inserted_by c) here ∙ inserted_by_self c op in
    get_repeated (inserted_by c e) number i (inserters c (suc number) is) (omega (arith, high, many)) ∙ ap Some (omega arith)
edit_inserts c number (suc k) i (e ∷ is) op at low high =
    let all = length_inserters c number e (take k is) in
    let split : i ≡ inserted_by c e + (i - inserted_by c e) = omega (arith, low, all) in
    ap (λ (n : ℕ). slice_get (inserters c number (e ∷ is)) n) split
    ∙ get_behind (inserted_by c e) number (i - inserted_by c e) (inserters c (suc number) is)
    ∙ edit_inserts c (suc number) k (i - inserted_by c e) is op at (omega (arith, low, all)) (omega (arith, low, high, all))
    ∙ ap Some (omega arith)

-- a character of c has an instruction, which is one of the first p where it is one of those that these insert
pub record IsInsertedBefore (c number p i : ℕ) (is : List Instr) : Type 0 where
  pub k : ℕ
  pub before : k < p
  pub op : Operation ℕ
  pub edit : slice_get is k ≡ Some (Edit c op)
  pub found : slice_get (inserters c number is) i ≡ Some (number + k)

pub inserted_before : (c number p i : ℕ) (is : List Instr) → i < length (inserters c number (take p is)) → IsInsertedBefore c number p i is
inserted_before c number zero i is below = absurd (omega (arith, below))
inserted_before c number (suc p) i [] below = absurd (omega (arith, below))
inserted_before c number (suc p) i (e ∷ is) below = elim (cases_lt i (inserted_by c e)) [
  | inl here ↦
      let edit = inserts_only_edits c e (omega (arith, here)) in
      record {
        k = 0;
        before = omega arith;
        op = edit.0;
        edit = ap Some edit.1;
        found = get_repeated (inserted_by c e) number i (inserters c (suc number) is) here ∙ ap Some (omega arith);
      }
  | inr past ↦
      let all = length_inserters c number e (take p is) in
      let rest = inserted_before c (suc number) p (i - inserted_by c e) is (omega (arith, below, all, past)) in
      let split : i ≡ inserted_by c e + (i - inserted_by c e) = omega (arith, past) in
      let low = rest.before in
      record {
        k = suc rest.k;
        before = omega arith;
        op = rest.op;
        edit = rest.edit;
        found =
            ap (λ (n : ℕ). slice_get (inserters c number (e ∷ is)) n) split
            ∙ get_behind (inserted_by c e) number (i - inserted_by c e) (inserters c (suc number) is)
            ∙ rest.found
            ∙ ap Some (omega arith);
      }
]

-- a client that is none of the schedule's inserts nothing
pub none_inserted : (clients c number : ℕ) (is : List Instr) → clients ≤ c → ((n : ℕ) (i : Instr) → slice_get is n ≡ Some i → IsForClients clients i) → inserters c number is ≡ []
none_inserted clients c number [] past all = refl
none_inserted clients c number (i ∷ is) past all =
    ap (λ (n : ℕ). replicate n number ++ inserters c (suc number) is) (nothing i (all 0 i refl))
    ∙ none_inserted clients c (suc number) is past (λ n. all (suc n))
  where
    nothing : (e : Instr) → IsForClients clients e → inserted_by c e ≡ 0
    nothing (Edit d op) below = ap (λ (b : Bool). if b then inserted op else 0) (not_equal d c (λ same. omega (arith, below, past, same)))
    nothing (Take d) below = refl
    nothing (Deliver d) below = refl
    nothing (Acknowledge d) below = refl
    nothing (Read d) below = refl
    nothing (Join d) below = refl
    nothing ReadServer below = refl

pub instr_at : (s : Program) (k : ℕ) (i : Instr) → IsProgram s → slice_get s.instrs k ≡ Some i → IsInstr s.clients i
instr_at s k i limits at =
    let inside = slice_get_within s.instrs k i at in
    let is : get_or s.instrs k i ≡ i = same_Some (get_or s.instrs k i) i (sym (slice_get-get_or s.instrs k i inside) ∙ at) in
    subst (IsInstr s.clients) is (limits.instrs_are k i inside)

-- the lists of the schedule's clients are those of all
pub all_inserters : (s : Program) (lists : List (List ℕ)) → IsProgram s → length lists ≡ s.clients → ((c : ℕ) → c < s.clients → get_or lists c [] ≡ inserters c 0 s.instrs) → AreInserters s.instrs lists
all_inserters s lists limits long below c = elim (cases_lt c s.clients) [
  | inl inside ↦ below c inside
  | inr past ↦ get_or_past lists c [] (omega (arith, long, past)) ∙ sym (none_inserted s.clients c 0 s.instrs past (λ n i at. (instr_at s n i limits at).0))
]

-- the lists, by one instruction more
pub one_instr_more : (c number p : ℕ) (is : List Instr) (i : Instr) → slice_get is p ≡ Some i → inserters c number (take (suc p) is) ≡ inserters c number (take p is) ++ replicate (inserted_by c i) (number + p)
one_instr_more c number p [] i at = absurd (cc)
one_instr_more c number zero (e ∷ is) i at =
    let here : e ≡ i = same_Some e i at in
    let first : number ≡ number + 0 = omega arith in
    append-nil (replicate (inserted_by c e) number) ∙ ap (λ (x : Instr). replicate (inserted_by c x) number) here ∙ ap (λ (n : ℕ). replicate (inserted_by c i) n) first
one_instr_more c number (suc p) (e ∷ is) i at =
    let later : suc number + p ≡ number + suc p = omega arith in
    ap (λ (xs : List ℕ). replicate (inserted_by c e) number ++ xs) (one_instr_more c (suc number) p is i at)
    ∙ sym (append_assoc (replicate (inserted_by c e) number) (inserters c (suc number) (take p is)) (replicate (inserted_by c i) (suc number + p)))
    ∙ ap (λ (n : ℕ). inserters c number (e ∷ take p is) ++ replicate (inserted_by c i) n) later

-- ---- counts of a run

-- how many characters client c has inserted
abbrev pub count_in : State → ℕ → ℕ
count_in s c = (get_or s.clients c absent).count

-- each count grows by what the instruction inserts
abbrev IsCounting : State → Instr → Outcome → Type 0
IsCounting s i (Performed t shown) = (c : ℕ) → count_in t c ≡ count_in s c + inserted_by c i
IsCounting s i (Refused r) = Unit {0}
IsCounting s i NoRow = Unit {0}

same_counts : (s : State) (c : ℕ) (x y : Client) (d : ℕ) → slice_get s.clients c ≡ Some x → y.count ≡ x.count → (get_or (set s.clients c y) d absent).count ≡ count_in s d + 0
same_counts s c x y d at same = elim (cases_eq d c) [
  | inl here ↦
      let inside = slice_get_within s.clients c x at in
      let is : get_or s.clients c absent ≡ x = same_Some (get_or s.clients c absent) x (sym (slice_get-get_or s.clients c absent inside) ∙ at) in
      rw here (omega (arith, ap (λ (z : Client). z.count) (get_or-set_same s.clients c y absent inside), ap (λ (z : Client). z.count) is, same))
  | inr other ↦ omega (arith, ap (λ (z : Client). z.count) (get_or-set_other s.clients c d y absent other))
]

edit_counts : (s : State) (c : ℕ) (x : Client) (op : Operation ℕ) (d : ℕ) → slice_get s.clients c ≡ Some x
    → (get_or (set s.clients c (edited x (tag_operation c x.count op))) d absent).count ≡ count_in s d + inserted_by d (Edit c op)
edit_counts s c x op d at = elim (cases_eq c d) [
  | inl here ↦
      let y = edited x (tag_operation c x.count op) in
      let inside = slice_get_within s.clients c x at in
      let is : get_or s.clients c absent ≡ x = same_Some (get_or s.clients c absent) x (sym (slice_get-get_or s.clients c absent inside) ∙ at) in
      let many = length-news-tag_items c x.count op.image in
      rw (← here) (omega (arith, ap (λ (z : Client). z.count) (get_or-set_same s.clients c y absent inside), ap (λ (z : Client). z.count) is, many, inserted_by_self c op))
  | inr other ↦
      let y = edited x (tag_operation c x.count op) in
      omega (arith, ap (λ (z : Client). z.count) (get_or-set_other s.clients c d y absent (λ e. other (sym e))), ap (λ (b : Bool). if b then inserted op else 0) (not_equal c d other))
]

row_counts : (s : State) (c : ℕ) (x : Client) (o : Option Client) → slice_get s.clients c ≡ Some x → acknowledged x x.phase ≡ o → IsCounting s (Acknowledge c) (with_row s c o)
row_counts s c x None at is = tt
row_counts s c x (Some y) at is = λ d. same_counts s c x y d at (acknowledged_keeps x y x.phase is).1

step_counts : (s : State) (i : Instr) → IsCounting s i (step s i)
step_counts s (Edit c op) = by_edit (IsCounting s (Edit c op)) (λ r. tt) s c op (λ x at below on base few d. edit_counts s c x op d at)
step_counts s (Take c) = by_take (IsCounting s (Take c)) (λ r. tt) s c (λ x m at below on sent d. same_counts s c x _ d at refl)
step_counts s (Deliver c) = by_deliver (IsCounting s (Deliver c)) (λ r. tt) s c (λ x h at below on head other d. same_counts s c x _ d at refl)
step_counts s (Acknowledge c) = by_acknowledge (IsCounting s (Acknowledge c)) (λ r. tt) s c (λ x h at below on head own. row_counts s c x (acknowledged x x.phase) at refl)
step_counts s (Join c) = by_join (IsCounting s (Join c)) (λ r. tt) s c (λ x at below off d. same_counts s c x _ d at refl)
step_counts s (Read c) = by_read (IsCounting s (Read c)) (λ r. tt) s c (λ x at below on d. omega arith)
step_counts s ReadServer = by_read_server (IsCounting s ReadServer) (λ r. tt) s (λ below d. omega arith)

run_counts : (is : List Instr) (p q : Place) (c number : ℕ) → run is p ≡ Some q → count_in q.state c ≡ count_in p.state c + length (inserters c number is)
run_counts [] p q c number e = omega (arith, ap (λ (r : Place). count_in r.state c) (same_Some p q e))
run_counts (i ∷ is) p q c number e = go (λ r f. run_counts is r q c (suc number) f) (step p.state i) (step_counts p.state i) e
  where
    go : ((r : Place) → run is r ≡ Some q → count_in q.state c ≡ count_in r.state c + length (inserters c (suc number) is)) → (o : Outcome) → IsCounting p.state i o
        → (elim o [ Performed t list ↦ run is (record { state = t; shown = with_shown p.shown list }) | Refused r ↦ None | NoRow ↦ None ]) ≡ Some q
        → count_in q.state c ≡ count_in p.state c + length (inserters c number (i ∷ is))
    go on (Performed t list) counting f = omega (arith, on (record { state = t; shown = with_shown p.shown list }) f, counting c, length_inserters c number i is)
    go on (Refused r) counting f = absurd (cc)
    go on NoRow counting f = absurd (cc)

none_counted : (clients present : ℕ) (text : List ℕ) (c : ℕ) → count_in (opening clients present text) c ≡ 0
none_counted clients present text c = elim (cases_lt c (length (opening clients present text).clients)) [
  | inl inside ↦ each_opening (λ d x. x.count ≡ 0) clients present text (λ d. refl) (λ d. refl) c (get_or (opening clients present text).clients c absent) (slice_get-get_or (opening clients present text).clients c absent inside)
  | inr past ↦ ap (λ (x : Client). x.count) (get_or_past (opening clients present text).clients c absent past)
]

-- a client's count is the number of characters that the instructions so far insert as it
pub counts_at : (s : Program) (p : ℕ) (q : Place) (c : ℕ) → run (take p s.instrs) (begin s.clients s.present s.start) ≡ Some q → count_in q.state c ≡ length (inserters c 0 (take p s.instrs))
counts_at s p q c at = omega (arith, run_counts (take p s.instrs) (begin s.clients s.present s.start) q c 0 at, none_counted s.clients s.present s.start c)
