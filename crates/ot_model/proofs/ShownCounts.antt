-- Where each machine shows the same lists in the same order, all together are the same lists, each as often.
use Rattle.std.proofs.Common.{◌≡◌, List, [], ◌∷◌, ◌++◌, refl, sym, ap, ◌∙◌, Bool, true, false}
use Rattle.std.proofs.lemmas.Bool.{eqb-true, eq-eqb}
use Rattle.std.specs.Prelude.{count_by}
use Rattle.std.specs.List.{filter}
use Rattle.ot_model.specs.declared.shown.Shown.{Shown}
use Rattle.ot_model.specs.declared.shown.Reader.{Reader}
use Rattle.ot_model.specs.declared.shown.Reader.TheVariants as reader
use Rattle.ot_model.specs.Orders.{Machine, ClientMachine, ServerMachine, is_of, AreSameShown}
use Rattle.ot_model.specs.OrderLaws.{SameMultiset}
use Rattle.ot_model.proofs.Reordering.{filter_yes, filter_no, same_head, same_tail, count-moved, count-cons}

abbrev by : Machine → Shown → Bool
by w x = is_of w x.who

-- the one machine that shows a reader's lists
machine_of : Reader → Machine
machine_of (reader.Client c) = ClientMachine c
machine_of reader.Server = ServerMachine

of_its_own : (r : Reader) → is_of (machine_of r) r ≡ true
unfolding machine_of
of_its_own (reader.Client c) = eq-eqb c c refl
of_its_own reader.Server = refl

of_one : (w : Machine) (r : Reader) → is_of w r ≡ true → w ≡ machine_of r
unfolding machine_of
of_one (ClientMachine c) (reader.Client d) e = ap ClientMachine (sym (eqb-true d c e))
of_one (ClientMachine c) reader.Server e = absurd (cc)
of_one ServerMachine (reader.Client d) e = absurd (cc)
of_one ServerMachine reader.Server e = refl

-- none of these is of the machine
NoneOf : Machine → List Shown → Type 0
NoneOf w [] = Unit {0}
NoneOf w (x ∷ xs) = (by w x ≡ false) × NoneOf w xs

found : (w : Machine) (xs zs : List Shown) (y : Shown) → filter (by w) xs ≡ y ∷ zs → (pre : List Shown) × (post : List Shown) × (xs ≡ pre ++ y ∷ post) × NoneOf w pre
unfolding NoneOf
found w [] zs y e = absurd (cc)
found w (x ∷ xs) zs y e = go (by w x) refl (λ f. found w xs zs y f)
  where
    go : (b : Bool) → by w x ≡ b → (filter (by w) xs ≡ y ∷ zs → (pre : List Shown) × (post : List Shown) × (xs ≡ pre ++ y ∷ post) × NoneOf w pre) → (pre : List Shown) × (post : List Shown) × (x ∷ xs ≡ pre ++ y ∷ post) × NoneOf w pre
    go true on rest = ([], xs, ap (λ (k : Shown). k ∷ xs) (same_head x y (filter (by w) xs) zs (sym (filter_yes (by w) x xs on) ∙ e)), tt)
    go false off rest = let r = rest (sym (filter_no (by w) x xs off) ∙ e) in (x ∷ r.0, r.1, ap (λ (ks : List Shown). x ∷ ks) r.2, (off, r.3))

-- its own machine's first list can come first of all
moved : (pre post : List Shown) (y : Shown) → NoneOf (machine_of y.who) pre → AreSameShown (pre ++ y ∷ post) (y ∷ (pre ++ post))
unfolding NoneOf
moved [] post y none w = refl
moved (x ∷ pre) post y none w = go (moved pre post y none.1 w) (by w x) refl (by w y) refl
  where
    go : filter (by w) (pre ++ y ∷ post) ≡ filter (by w) (y ∷ (pre ++ post)) → (b : Bool) → by w x ≡ b → (d : Bool) → by w y ≡ d → filter (by w) (x ∷ (pre ++ y ∷ post)) ≡ filter (by w) (y ∷ x ∷ (pre ++ post))
    go rest true on true on_y = absurd (let off = ap (λ (m : Machine). by m x) (of_one w y.who on_y) in let no = none.0 in cc)
    go rest true on false off = rw (on, off) (ap (λ (ks : List Shown). x ∷ ks) (rest ∙ filter_no (by w) y (pre ++ post) off))
    go rest false off true on = rw (off, on) (rest ∙ filter_yes (by w) y (pre ++ post) on)
    go rest false off false off_y = rw (off, off_y) (rest ∙ filter_no (by w) y (pre ++ post) off_y)

without : (y : Shown) (xs ys : List Shown) → AreSameShown (y ∷ xs) (y ∷ ys) → AreSameShown xs ys
without y xs ys same w = go (by w y) refl
  where
    go : (b : Bool) → by w y ≡ b → filter (by w) xs ≡ filter (by w) ys
    go true on = same_tail y y (filter (by w) xs) (filter (by w) ys) (sym (filter_yes (by w) y xs on) ∙ same w ∙ filter_yes (by w) y ys on)
    go false off = sym (filter_no (by w) y xs off) ∙ same w ∙ filter_no (by w) y ys off

none_shown : (xs : List Shown) → AreSameShown xs [] → xs ≡ []
none_shown [] same = refl
none_shown (x ∷ xs) same = absurd (let e = sym (filter_yes (by (machine_of x.who)) x xs (of_its_own x.who)) ∙ same (machine_of x.who) in cc)

-- however they are counted
pub same_counts : (ys xs : List Shown) → AreSameShown xs ys → (p : Shown → Bool) → count_by p xs ≡ count_by p ys
same_counts [] xs same p = ap (count_by p) (none_shown xs same)
same_counts (y ∷ ys) xs same p =
    let w = machine_of y.who in
    let cut = found w xs (filter (by w) ys) y (same w ∙ filter_yes (by w) y ys (of_its_own y.who)) in
    let orders = without y (cut.0 ++ cut.1) ys (λ m. sym (moved cut.0 cut.1 y cut.3 m) ∙ ap (filter (by m)) (sym cut.2) ∙ same m) in
    ap (count_by p) cut.2 ∙ count-moved p cut.0 cut.1 y ∙ count-cons p y (cut.0 ++ cut.1) ys (same_counts ys (cut.0 ++ cut.1) orders p)

pub same_multiset : SameMultiset
same_multiset xs ys = same_counts ys xs
