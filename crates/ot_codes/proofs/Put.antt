-- One more code at the end of a list of codes.
use Rattle.std.proofs.Common.{◌≡◌, ℕ, zero, suc, ◌+◌, ◌-◌, ◌<◌, ◌≤◌, List, [], ◌∷◌, ◌++◌, length, take, set, get_or, true, false, Some, None, refl, sym, ap, ◌∙◌, arith, length-append, append_assoc}
use Rattle.std.proofs.lemmas.List.{append-nil, map-append, set-append_left, get_or_append_left}
use Rattle.std.proofs.Math.Seq.{set-append_seam}
use Rattle.ot_operation.specs.Operation.{with_insert}
use Rattle.ot_operation.specs.Run.{Run, Keep, Add, Skip, MayFollow, IsNormal, Extends}
use Rattle.ot_operation.proofs.RunLemmas.{longer_keep, one_more_keep, longer_drop, one_more_drop, longer_add, one_more_add, MayEnd, normal_push, normal_replace, normal_before_drop}
use Rattle.ot_operation.specs.Steps.{appended}
use Rattle.ot_codes.specs.declared.code.Code.{Code}
use Rattle.ot_codes.specs.declared.code.Code.TheVariants.{Retain, Insert, Delete}
use Rattle.ot_codes.specs.Codes.{blanks, run_of, runs_of, length_of, joined, stands_before, total_of, EndsWithDelete}

-- lists that end in an element

pub ends : {X : Type 0} (xs : List X) (k : ℕ) (d : X) → k + 1 ≡ length xs → xs ≡ take k xs ++ get_or xs k d ∷ []
ends [] k d h = absurd (omega (arith, h))
ends (x ∷ []) zero d h = refl
ends (x ∷ []) (suc k) d h = absurd (omega (arith, h))
ends (x ∷ y ∷ xs) zero d h = absurd (omega (arith, h))
ends {X} (x ∷ y ∷ xs) (suc k) d h = ap (λ (rest : List X). x ∷ rest) (ends (y ∷ xs) k d (omega (arith, h)))

pub set_end : {X : Type 0} (xs : List X) (k : ℕ) (e : X) → k + 1 ≡ length xs → set xs k e ≡ take k xs ++ e ∷ []
set_end [] k e h = absurd (omega (arith, h))
set_end (x ∷ []) zero e h = refl
set_end (x ∷ []) (suc k) e h = absurd (omega (arith, h))
set_end (x ∷ y ∷ xs) zero e h = absurd (omega (arith, h))
set_end {X} (x ∷ y ∷ xs) (suc k) e h = ap (λ (rest : List X). x ∷ rest) (set_end (y ∷ xs) k e (omega (arith, h)))

none_there : {X : Type 0} (xs : List X) → length xs ≡ 0 → xs ≡ []
none_there [] h = refl
none_there (x ∷ xs) h = absurd (omega (arith, h))

-- elements of which nothing is known

pub length-blanks : (count : ℕ) → length (blanks count) ≡ count
length-blanks zero = refl
length-blanks (suc count) = ap suc (length-blanks count)

pub blanks-add : (m n : ℕ) → blanks (m + n) ≡ blanks m ++ blanks n
blanks-add zero n = ap blanks (let e : zero + n ≡ n = omega arith in e)
blanks-add (suc m) n =
    let e : suc m + n ≡ suc (m + n) = omega arith in
    ap blanks e ∙ ap (λ (rest : List (Unit {0})). tt ∷ rest) (blanks-add m n)

pub runs_of-append : (xs ys : List Code) → runs_of (xs ++ ys) ≡ runs_of xs ++ runs_of ys
runs_of-append xs ys = map-append run_of xs ys

-- a neighbour of its kind is lengthened

joined_at :
    (front : List (Run (Unit {0}))) (last code both : Code) → joined last code ≡ Some both → 0 < length_of code → IsNormal (front ++ run_of last ∷ [])
    → Extends (front ++ run_of last ∷ []) (front ++ run_of both ∷ []) (λ op. appended op (run_of code))
joined_at front (Retain m) (Retain n) both is some normal =
    let e : Retain (m + n) ≡ both = cc in
    rw (← e) (record { normal = normal_replace front (Keep m) (Keep (m + n)) [] tt (omega arith) normal; operation = longer_keep front m n })
joined_at front (Delete m) (Delete n) both is some normal =
    let e : Delete (m + n) ≡ both = cc in
    rw (← e) (record { normal = normal_replace front (Skip m) (Skip (m + n)) [] tt (omega arith) normal; operation = longer_drop front m n })
joined_at front (Insert m) (Insert n) both is some normal =
    let e : Insert (m + n) ≡ both = cc in
    let filled : 0 < length (blanks (m + n)) = omega (arith, length-blanks (m + n), some) in
    rw (← e)
    (record {
      normal = normal_replace front (Add (blanks m)) (Add (blanks (m + n))) [] tt filled normal;
      operation = rw (blanks-add m n) (longer_add front (blanks m) (blanks n) [] (λ from. refl));
    })
joined_at front (Retain m) (Insert n) both is some normal = cc
joined_at front (Retain m) (Delete n) both is some normal = cc
joined_at front (Insert m) (Retain n) both is some normal = cc
joined_at front (Insert m) (Delete n) both is some normal = cc
joined_at front (Delete m) (Retain n) both is some normal = cc
joined_at front (Delete m) (Insert n) both is some normal = cc

pub at_last : (cs : List Code) (k : ℕ) (last : Code) → k + 1 ≡ length cs → last ≡ get_or cs k last → runs_of cs ≡ runs_of (take k cs) ++ run_of last ∷ []
at_last cs k last h is =
    ap runs_of (ends cs k last h ∙ ap (λ c. take k cs ++ c ∷ []) (sym is)) ∙ runs_of-append (take k cs) (last ∷ [])

pub joined_extends :
    (cs : List Code) (k : ℕ) (last code both : Code) → k + 1 ≡ length cs → last ≡ get_or cs k last → joined last code ≡ Some both → 0 < length_of code
    → IsNormal (runs_of cs) → Extends (runs_of cs) (runs_of (set cs k both)) (λ op. appended op (run_of code))
joined_extends cs k last code both h is joins some normal =
    let before = at_last cs k last h is in
    let after : runs_of (set cs k both) ≡ runs_of (take k cs) ++ run_of both ∷ [] = ap runs_of (set_end cs k both h) ∙ runs_of-append (take k cs) (both ∷ []) in
    rw (before, after) (joined_at (runs_of (take k cs)) last code both joins some (rw before at normal))

-- or it follows

may_end_last : (front : List (Run (Unit {0}))) (q r : Run (Unit {0})) → MayFollow q r → MayEnd (front ++ q ∷ []) r
may_end_last [] q r follows = follows
may_end_last (p ∷ []) q r follows = follows
may_end_last (p ∷ o ∷ front) q r follows = may_end_last (o ∷ front) q r follows

may_follow : (last code : Code) → joined last code ≡ None → stands_before code last ≡ false → MayFollow (run_of last) (run_of code)
may_follow (Retain m) (Retain n) apart behind = cc
may_follow (Retain m) (Insert n) apart behind = tt
may_follow (Retain m) (Delete n) apart behind = tt
may_follow (Insert m) (Retain n) apart behind = tt
may_follow (Insert m) (Insert n) apart behind = cc
may_follow (Insert m) (Delete n) apart behind = tt
may_follow (Delete m) (Retain n) apart behind = tt
may_follow (Delete m) (Insert n) apart behind = cc
may_follow (Delete m) (Delete n) apart behind = cc

pub pushed :
    (cs made : List Code) (code : Code) → made ≡ cs ++ code ∷ [] → 0 < length_of code → MayEnd (runs_of cs) (run_of code) → IsNormal (runs_of cs)
    → Extends (runs_of cs) (runs_of made) (λ op. appended op (run_of code))
pushed cs made (Retain n) is some ends normal =
    rw (ap runs_of is ∙ runs_of-append cs (Retain n ∷ [])) (record { normal = normal_push (runs_of cs) (Keep n) normal ends some; operation = one_more_keep (runs_of cs) n })
pushed cs made (Delete n) is some ends normal =
    rw (ap runs_of is ∙ runs_of-append cs (Delete n ∷ [])) (record { normal = normal_push (runs_of cs) (Skip n) normal ends some; operation = one_more_drop (runs_of cs) n })
pushed cs made (Insert n) is some ends normal =
    let filled : 0 < length (blanks n) = omega (arith, length-blanks n, some) in
    rw (ap runs_of is ∙ runs_of-append cs (Insert n ∷ []))
    (record {
      normal = normal_push (runs_of cs) (Add (blanks n)) normal ends filled;
      operation = one_more_add (runs_of cs) (blanks n) [] (λ from. refl) ∙ rw append-nil refl;
    })

pub later_pushed :
    (cs made : List Code) (k : ℕ) (last code : Code) → k + 1 ≡ length cs → last ≡ get_or cs k last → joined last code ≡ None → stands_before code last ≡ false
    → made ≡ cs ++ code ∷ [] → 0 < length_of code → IsNormal (runs_of cs)
    → Extends (runs_of cs) (runs_of made) (λ op. appended op (run_of code))
later_pushed cs made k last code h here apart behind is some normal =
    let follows : MayEnd (runs_of cs) (run_of code) = rw (at_last cs k last h here) (may_end_last (runs_of (take k cs)) (run_of last) (run_of code) (may_follow last code apart behind)) in
    pushed cs made code is some follows normal

-- an insertion stands before a deletion

pub before_delete : (code last : Code) → stands_before code last ≡ true → (code ≡ Insert (length_of code)) × (last ≡ Delete (length_of last))
before_delete (Insert n) (Delete m) is = (refl, refl)
before_delete (Retain n) last is = cc
before_delete (Delete n) last is = cc
before_delete (Insert n) (Retain m) is = cc
before_delete (Insert n) (Insert m) is = cc

pub at_delete :
    (cs : List Code) (k : ℕ) (last code : Code) → k + 1 ≡ length cs → last ≡ get_or cs k last → stands_before code last ≡ true → EndsWithDelete cs last
at_delete cs k last code h here is =
    let last_is : last ≡ Delete (length_of last) = (before_delete code last is).1 in
    (take k cs, length_of last, ends cs k last h ∙ ap (λ c. take k cs ++ c ∷ []) (sym here ∙ last_is), last_is)

skip_filled : (xs : List (Run (Unit {0}))) (n : ℕ) → IsNormal (xs ++ Skip n ∷ []) → 0 < n
skip_filled [] n normal = normal.0
skip_filled (x ∷ xs) n normal = skip_filled xs n normal.2

module _ (cs front : List Code) (n count : ℕ) (form : cs ≡ front ++ Delete n ∷ []) (some : 0 < count) (normal : IsNormal (runs_of cs)) where
  runs_form : runs_of cs ≡ runs_of front ++ Skip n ∷ []
  runs_form = ap runs_of form ∙ runs_of-append front (Delete n ∷ [])

  filled : 0 < length (blanks count)
  filled = omega (arith, length-blanks count, some)

  -- the code before the deletion
  pub longer_before :
      (made : List Code) (place before : ℕ) (code : Code) → place + 2 ≡ length cs → code ≡ get_or cs place code → code ≡ Insert before
      → made ≡ set cs place (Insert (before + count))
      → Extends (runs_of cs) (runs_of made) (λ op. with_insert op (blanks count))
  longer_before made place before code h here is made_is =
      let long : place + 1 ≡ length front = omega (arith, h, ap length form, length-append front (Delete n ∷ [])) in
      let last : code ≡ get_or front place code = here ∙ ap (λ xs. get_or xs place code) form ∙ get_or_append_left front (Delete n ∷ []) code place (omega (arith, long)) in
      let front_is : front ≡ take place front ++ Insert before ∷ [] = ends front place code long ∙ ap (λ c. take place front ++ c ∷ []) (sym last ∙ is) in
      let made_form : made ≡ (take place front ++ Insert (before + count) ∷ []) ++ Delete n ∷ [] =
      made_is ∙ ap (λ xs. set xs place (Insert (before + count))) form
      ∙ set-append_left front (Delete n ∷ []) place (Insert (before + count)) (omega (arith, long))
      ∙ ap (λ xs. xs ++ Delete n ∷ []) (set_end front place (Insert (before + count)) long) in
      let low : List (Run (Unit {0})) = runs_of (take place front) in
      let old_runs : runs_of cs ≡ low ++ Add (blanks before) ∷ Skip n ∷ [] =
      ap runs_of (form ∙ ap (λ f. f ++ Delete n ∷ []) front_is ∙ append_assoc (take place front) (Insert before ∷ []) (Delete n ∷ []))
      ∙ runs_of-append (take place front) (Insert before ∷ Delete n ∷ []) in
      let new_runs : runs_of made ≡ low ++ Add (blanks before ++ blanks count) ∷ Skip n ∷ [] =
      ap runs_of (made_form ∙ append_assoc (take place front) (Insert (before + count) ∷ []) (Delete n ∷ []))
      ∙ runs_of-append (take place front) (Insert (before + count) ∷ Delete n ∷ [])
      ∙ ap (λ t. low ++ Add t ∷ Skip n ∷ []) (blanks-add before count) in
      rw (old_runs, new_runs)
      (record {
        normal = normal_replace low (Add (blanks before)) (Add (blanks before ++ blanks count)) (Skip n ∷ []) tt
            (omega (arith, length-append (blanks before) (blanks count), filled)) (rw old_runs at normal);
        operation = longer_add low (blanks before) (blanks count) (Skip n ∷ []) (λ from. refl);
      })

  -- the insertion may stand before the deletion: nothing else is there, or what is there does not insert

  pub goes_first : length cs < 2 → IsNormal (runs_of (front ++ Insert count ∷ Delete n ∷ []))
  goes_first one = by front form
    where
      by : (f : List Code) → cs ≡ f ++ Delete n ∷ [] → IsNormal (runs_of (f ++ Insert count ∷ Delete n ∷ []))
      by [] e = (filled, tt, (skip_filled (runs_of front) n (rw runs_form at normal), tt, tt))
      by (x ∷ f) e = absurd (omega (arith, one, ap length e, length-append f (Delete n ∷ [])))

  pub goes_behind :
      (place : ℕ) (code : Code) → place + 2 ≡ length cs → code ≡ get_or cs place code → ((before : ℕ) → code ≡ Insert before → ⊥)
      → IsNormal (runs_of (front ++ Insert count ∷ Delete n ∷ []))
  goes_behind place code h here other =
      let long : suc place ≡ length front = omega (arith, h, ap length form, length-append front (Delete n ∷ [])) in
      let long_too : place + 1 ≡ length front = omega (arith, long) in
      let last : code ≡ get_or front place code = here ∙ ap (λ xs. get_or xs place code) form ∙ get_or_append_left front (Delete n ∷ []) code place (omega (arith, long)) in
      let front_is : runs_of front ≡ runs_of (take place front) ++ run_of code ∷ [] = at_last front place code long_too last in
      let old_runs : runs_of cs ≡ runs_of (take place front) ++ run_of code ∷ Skip n ∷ [] =
      runs_form ∙ ap (λ f. f ++ Skip n ∷ []) front_is ∙ append_assoc (runs_of (take place front)) (run_of code ∷ []) (Skip n ∷ []) in
      let follows : MayFollow (run_of code) (Skip n) = seam (runs_of (take place front)) (run_of code) (Skip n) [] (rw old_runs at normal) in
      let may : MayEnd (runs_of front) (Add (blanks count)) =
      rw front_is (may_end_last (runs_of (take place front)) (run_of code) (Add (blanks count)) (not_insert code other follows)) in
      rw (runs_of-append front (Insert count ∷ Delete n ∷ []))
      (normal_before_drop (runs_of front) (blanks count) n filled may (rw runs_form at normal))
    where
      seam : (xs : List (Run (Unit {0}))) (q r : Run (Unit {0})) (back : List (Run (Unit {0}))) → IsNormal (xs ++ q ∷ r ∷ back) → MayFollow q r
      seam [] q r back normal = normal.1
      seam (x ∷ xs) q r back normal = seam xs q r back normal.2

      not_insert : (c : Code) → ((before : ℕ) → c ≡ Insert before → ⊥) → MayFollow (run_of c) (Skip n) → MayFollow (run_of c) (Add (blanks count))
      not_insert (Retain m) other follows = tt
      not_insert (Insert m) other follows = absurd (other m refl)
      not_insert (Delete m) other follows = absurd follows

  pub put_before :
      (made : List Code) → made ≡ set (cs ++ Delete n ∷ []) (length (cs ++ Delete n ∷ []) - 2) (Insert count)
      → IsNormal (runs_of (front ++ Insert count ∷ Delete n ∷ [])) → Extends (runs_of cs) (runs_of made) (λ op. with_insert op (blanks count))
  put_before made made_is now =
      let long : length (front ++ Delete n ∷ Delete n ∷ []) - 2 ≡ length front = omega (arith, length-append front (Delete n ∷ Delete n ∷ [])) in
      let form_made : made ≡ front ++ Insert count ∷ Delete n ∷ [] =
      made_is ∙ ap (λ (xs : List Code). set (xs ++ Delete n ∷ []) (length (xs ++ Delete n ∷ []) - 2) (Insert count)) form
      ∙ ap (λ (xs : List Code). set xs (length xs - 2) (Insert count)) (append_assoc front (Delete n ∷ []) (Delete n ∷ []))
      ∙ ap (λ (k : ℕ). set (front ++ Delete n ∷ Delete n ∷ []) k (Insert count)) long
      ∙ set-append_seam front (Delete n) (Delete n ∷ []) (Insert count) in
      let runs_made : runs_of made ≡ runs_of front ++ Add (blanks count) ∷ Skip n ∷ [] =
      ap runs_of form_made ∙ runs_of-append front (Insert count ∷ Delete n ∷ []) in
      rw (runs_form, runs_made)
      (record {
        normal = rw (runs_of-append front (Insert count ∷ Delete n ∷ [])) at now;
        operation = one_more_add (runs_of front) (blanks count) (Skip n ∷ []) (λ from. refl);
      })

-- a code is no longer than all

pub within_total : (cs : List Code) (k : ℕ) (code : Code) → k < length cs → code ≡ get_or cs k code → length_of code ≤ total_of cs
within_total [] k code h is = absurd (omega (arith, h))
within_total (c ∷ cs) zero code h is = omega (arith, ap length_of is)
within_total (c ∷ cs) (suc k) code h is = omega (arith, within_total cs k code (omega (arith, h)) is)
