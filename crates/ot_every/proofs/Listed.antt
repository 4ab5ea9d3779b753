-- What is listed: the sessions that the table performs, whose edits have the texts in turn, that end settled, and in which nothing comes late.
use Rattle.std.proofs.Common.{◌≡◌, ℕ, zero, suc, List, [], ◌∷◌, length, map, refl, sym, ap, subst, inl, inr, Option, Bool, true, false}
use Rattle.std.specs.Prelude.{◌&&◌, not, if◌then◌else◌}
use Rattle.ot_isa.specs.declared.instruction.Instr.{Instr}
use Rattle.ot_isa.specs.declared.instruction.Instr.TheVariants.{Edit, Take, Deliver, Acknowledge, Join, Read, ReadServer}
use Rattle.ot_model.specs.declared.shown.Shown.{Shown}
use Rattle.ot_model.specs.Table.{State, Outcome, Performed, Refused, NoRow, step}
use Rattle.ot_every.specs.Listing.{Earlier, comes_late, candidates, texts_after, is_empty, is_settled, sessions_from}
use Rattle.ot_every.proofs.Lists.{IsIn, in_map, map_cases, in_flat, flat_cases, in_filter, filter_cases}
use Rattle.ot_every.proofs.Nexts.{IsNext, HaveLetters, candidates_next, candidates_in}
use Rattle.ot_every.proofs.Machines.{both_true}

-- the session goes on from this state: each instruction is next, is performed and does not come late, and at the end all is settled
abbrev pub GoesOn : ℕ → List (List ℕ) → List Earlier → State → List Instr → Type 0
GoesOn inserts texts path s [] = (is_empty texts ≡ true) × (is_settled s ≡ true)
GoesOn inserts texts path s (i ∷ is) =
    (t : State) × (a : Option Shown) × (step s i ≡ Performed t a) × IsNext inserts texts i × (comes_late path i ≡ false)
    × GoesOn inserts (texts_after i texts) (record { before = s; instr = i } ∷ path) t is

-- the sessions that an instruction begins
abbrev pub behind : ℕ → ℕ → List (List ℕ) → List Earlier → State → Instr → Outcome → List (List Instr)
behind inserts count texts path s i o = elim o [
  | Performed t shown ↦ map (λ is. i ∷ is) (sessions_from inserts count (texts_after i texts) (record { before = s; instr = i } ∷ path) t)
  | Refused r ↦ []
  | NoRow ↦ []
]

pub behind_cases : (inserts count : ℕ) (texts : List (List ℕ)) (path : List Earlier) (s : State) (i : Instr) (is : List Instr) (o : Outcome) → IsIn is (behind inserts count texts path s i o)
    → (t : State) × (a : Option Shown) × (o ≡ Performed t a) × (js : List Instr) × IsIn js (sessions_from inserts count (texts_after i texts) (record { before = s; instr = i } ∷ path) t) × (is ≡ i ∷ js)
behind_cases inserts count texts path s i is (Performed t a) h = let r = map_cases (λ js. i ∷ js) is _ h in (t, a, refl, r.0, r.1, r.2)
behind_cases inserts count texts path s i is (Refused r) h = absurd h
behind_cases inserts count texts path s i is NoRow h = absurd h

pub not_late : (b : Bool) → not b ≡ true → b ≡ false
not_late true e = absurd (cc)
not_late false e = refl

pub letters_after : (i : Instr) (texts : List (List ℕ)) → HaveLetters texts → HaveLetters (texts_after i texts)
letters_after (Edit c op) [] l = tt
letters_after (Edit c op) ([] ∷ texts) l = absurd l
letters_after (Edit c op) ((x ∷ text) ∷ texts) l = l
letters_after (Take c) texts l = l
letters_after (Deliver c) texts l = l
letters_after (Acknowledge c) texts l = l
letters_after (Join c) texts l = l
letters_after (Read c) texts l = l
letters_after ReadServer texts l = l

end_cases : (b : Bool) (is : List Instr) → IsIn is (if b then [] ∷ [] else []) → (b ≡ true) × (is ≡ [])
end_cases true is (inl e) = (refl, e)
end_cases true is (inr h) = absurd h
end_cases false is h = absurd h

-- each session that is listed has this length, and goes on so
pub listed_goes : (inserts count : ℕ) (texts : List (List ℕ)) (path : List Earlier) (s : State) (is : List Instr) → HaveLetters texts → IsIn is (sessions_from inserts count texts path s) → (length is ≡ count) × GoesOn inserts texts path s is
listed_goes inserts zero texts path s is letters h =
    let r = end_cases (is_empty texts && is_settled s) is h in
    subst (λ (js : List Instr). (length js ≡ 0) × GoesOn inserts texts path s js) (sym r.1) (refl, both_true (is_empty texts) (is_settled s) r.0)
listed_goes inserts (suc count) texts path s is letters h =
    let f = flat_cases (λ i. behind inserts count texts path s i (step s i)) is _ h in
    let i = f.0 in
    let candidate = filter_cases (λ j. not (comes_late path j)) i (candidates inserts texts s) f.1 in
    let b = behind_cases inserts count texts path s i is (step s i) f.2 in
    let rest = listed_goes inserts count (texts_after i texts) (record { before = s; instr = i } ∷ path) b.0 b.3 (letters_after i texts letters) b.4 in
    subst (λ (js : List Instr). (length js ≡ suc count) × GoesOn inserts texts path s js) (sym b.5)
    (ap suc rest.0, (b.0, b.1, b.2, candidates_next inserts texts s i letters candidate.0, not_late (comes_late path i) candidate.1, rest.1))

-- each session that goes on so is listed
pub goes_listed : (inserts : ℕ) (texts : List (List ℕ)) (path : List Earlier) (s : State) (is : List Instr) → GoesOn inserts texts path s is → IsIn is (sessions_from inserts (length is) texts path s)
goes_listed inserts texts path s [] (none, settled) = rw (none, settled) (inl refl)
goes_listed inserts texts path s (i ∷ is) (t, a, e, next, late, rest) =
    let later = goes_listed inserts (texts_after i texts) (record { before = s; instr = i } ∷ path) t is rest in
    let here : IsIn (i ∷ is) (behind inserts (length is) texts path s i (step s i)) = rw e (in_map (λ js. i ∷ js) is (sessions_from inserts (length is) (texts_after i texts) (record { before = s; instr = i } ∷ path) t) later) in
    in_flat (λ j. behind inserts (length is) texts path s j (step s j)) i (i ∷ is) _
    (in_filter (λ j. not (comes_late path j)) i (candidates inserts texts s) (candidates_in inserts texts s i t a e next) (ap not late)) here
