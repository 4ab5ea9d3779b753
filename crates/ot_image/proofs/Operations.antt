-- Operations: what is read is spelled so, and what is spelled so is read.
use Rattle.std.proofs.Common.{◌≡◌, ℕ, ◌+◌, ◌^◌, ◌<◌, ◌≤◌, ◌==◌, ◌&&◌, nat_le, true, false, List, [], ◌∷◌, ◌++◌, map, length, Ok, refl, sym, ap, subst, ◌∙◌, append_assoc, length-append, arith}
use Rattle.std.proofs.lemmas.Bool.{ne_eqb, le-leb}
use Rattle.std.proofs.lemmas.List.{append-nil, length-map}
use Rattle.std.specs.List.{flat_map}
use Rattle.std.specs.Int.{w32}
use Rattle.ot_operation.specs.Operation.{New, olds, Operation, empty, with_insert}
use Rattle.ot_operation.specs.Run.{Run, Keep, Add, Skip, base_of, image_from, operation_of, IsFilled, MayFollow, IsNormal, normal_runs}
use Rattle.ot_operation.proofs.RunLemmas.{base_of-append, image_from-append, length-olds, runs_few, one_more_keep, one_more_drop, one_more_add, MayEnd, normal_push, front_may_end, longest_retain, longest_insert}
use Rattle.ot_image.specs.Reading.{Spot, number_at, times, Edited, may_follow, push_component, components_at, operation_at}
use Rattle.ot_operation.proofs.Normal.{normal_runs_back}
use Rattle.ot_image.specs.Spelling.{code_of, size_of, component, components}
use Rattle.ot_image.proofs.Premises.{AreSpelled, IsSpelled}
use Rattle.ot_image.proofs.Fields.{bind_ok, ok_is}
use Rattle.ot_image.proofs.Spelled.{IsBytes, Takes, Takes-then, Spells, Spells-then, Spells-map, wide32, number_takes, number_spells}
use Rattle.ot_image.proofs.Components.{word, op_with, fits_with, IsComponent, ComponentsLead, components_take, components_spell}

-- ---- one component after the other

abbrev LastIs : List (Run ℕ) → ℕ → Type 0
LastIs [] code = code ≡ 0
LastIs (r ∷ []) code = code ≡ code_of r
LastIs (_ ∷ r ∷ rs) code = LastIs (r ∷ rs) code

last_push : (front : List (Run ℕ)) (r : Run ℕ) → LastIs (front ++ r ∷ []) (code_of r)
last_push [] r = refl
last_push (q ∷ []) r = refl
last_push (q ∷ p ∷ front) r = last_push (p ∷ front) r

follow_may : (q r : Run ℕ) → may_follow (code_of q) (code_of r) ≡ true → MayFollow q r
follow_may (Keep _) (Keep _) e = absurd cc
follow_may (Keep _) (Add _) e = tt
follow_may (Keep _) (Skip _) e = tt
follow_may (Add _) (Keep _) e = tt
follow_may (Add _) (Add _) e = absurd cc
follow_may (Add _) (Skip _) e = tt
follow_may (Skip _) (Keep _) e = tt
follow_may (Skip _) (Add _) e = absurd cc
follow_may (Skip _) (Skip _) e = absurd cc

may_is_follow : (q r : Run ℕ) → MayFollow q r → may_follow (code_of q) (code_of r) ≡ true
may_is_follow (Keep _) (Keep _) e = absurd e
may_is_follow (Keep _) (Add _) e = refl
may_is_follow (Keep _) (Skip _) e = refl
may_is_follow (Add _) (Keep _) e = refl
may_is_follow (Add _) (Add _) e = absurd e
may_is_follow (Add _) (Skip _) e = refl
may_is_follow (Skip _) (Keep _) e = refl
may_is_follow (Skip _) (Add _) e = absurd e
may_is_follow (Skip _) (Skip _) e = absurd e

may_begin : (r : Run ℕ) → may_follow 0 (code_of r) ≡ true
may_begin (Keep _) = refl
may_begin (Add _) = refl
may_begin (Skip _) = refl

may_end : (front : List (Run ℕ)) (r : Run ℕ) (code : ℕ) → LastIs front code → may_follow code (code_of r) ≡ true → MayEnd front r
may_end [] r code last e = tt
may_end (q ∷ []) r code last e = follow_may q r (rw last at e)
may_end (q ∷ p ∷ front) r code last e = may_end (p ∷ front) r code last e

end_may : (front : List (Run ℕ)) (r : Run ℕ) (code : ℕ) → LastIs front code → MayEnd front r → may_follow code (code_of r) ≡ true
end_may [] r code last e = rw last (may_begin r)
end_may (q ∷ []) r code last e = rw last (may_is_follow q r e)
end_may (q ∷ p ∷ front) r code last e = end_may (p ∷ front) r code last e

filled_is : (r : Run ℕ) → (size_of r == 0) ≡ false → IsFilled r
filled_is (Keep n) e = grind arith
filled_is (Add s) e = grind arith
filled_is (Skip n) e = grind arith

is_filled : (r : Run ℕ) → IsFilled r → (size_of r == 0) ≡ false
is_filled (Keep n) f = ne_eqb n 0 (λ e. omega (arith, e, f))
is_filled (Add s) f = ne_eqb (length s) 0 (λ e. omega (arith, e, f))
is_filled (Skip n) f = ne_eqb n 0 (λ e. omega (arith, e, f))

one_more : (front : List (Run ℕ)) (r : Run ℕ) → op_with (operation_of front) r ≡ operation_of (front ++ r ∷ [])
one_more front (Keep n) = sym (one_more_keep front n)
one_more front (Add s) = ap (λ rs. with_insert (operation_of rs) s) (sym (append-nil front)) ∙ sym (one_more_add front s [] (λ _. refl))
one_more front (Skip n) = sym (one_more_drop front n)

-- the two lengths with one component more
fits_is : (op : Operation ℕ) (r : Run ℕ) → op.base ≤ 1000000 → length op.image ≤ 1000000 → fits_with (code_of r) op (size_of r) ≡ true → ((op_with op r).base ≤ 1000000) × (length (op_with op r).image ≤ 1000000)
fits_is op (Keep n) b t e = let l = longest_retain op n in let k : (op.base + n ≤ 1000000) × (length op.image + n ≤ 1000000) = grind arith in (k.0, omega (arith, l, k.0, k.1, b, t))
fits_is op (Add s) b t e = let l = longest_insert op s in let k : length op.image + length s ≤ 1000000 = grind arith in (b, omega (arith, l, k, b))
fits_is op (Skip n) b t e = let k : op.base + n ≤ 1000000 = grind arith in (k, t)

both : (m n : ℕ) → m ≤ 1000000 → n ≤ 1000000 → nat_le m 1000000 && nat_le n 1000000 ≡ true
both m n h k = rw (le-leb m 1000000 h, le-leb n 1000000 k) refl

size_small : (op : Operation ℕ) (r : Run ℕ) → op.base ≤ 1000000 → (op_with op r).base ≤ 1000000 → length (op_with op r).image ≤ 1000000 → size_of r < 2 ^ 32
size_small op (Keep n) b b' t' = omega (arith, b')
size_small op (Add s) b b' t' = omega (arith, t', length-append op.image (map New s), length-map s (λ (x : ℕ). New x))
size_small op (Skip n) b b' t' = omega (arith, b')

is_fits : (op : Operation ℕ) (r : Run ℕ) → op.base ≤ 1000000 → length op.image ≤ 1000000 → (op_with op r).base ≤ 1000000 → length (op_with op r).image ≤ 1000000 → fits_with (code_of r) op (size_of r) ≡ true
is_fits op (Keep n) b t b' t' =
    let l = longest_retain op n in
    both (op.base + n) (length op.image + n) (omega (arith, b')) (omega (arith, l, t', length-append op.image (olds {A = ℕ} op.base n), length-olds ℕ op.base n))
is_fits op (Add s) b t b' t' =
    let l = longest_insert op s in
    both op.base (length op.image + length s) b (omega (arith, length-append op.image (map New s), length-map s (λ (x : ℕ). New x), t'))
is_fits op (Skip n) b t b' t' = both (op.base + n) (length op.image) (omega (arith, b')) t

-- components that are read
record IsEdit (front : List (Run ℕ)) (x : Edited) : Type 0 where
  last : LastIs front x.last
  op : x.op ≡ operation_of front
  normal : IsNormal front
  base : x.op.base ≤ 1000000
  target : length x.op.image ≤ 1000000

edit_more : (front : List (Run ℕ)) (x : Edited) (r : Run ℕ) (y : Edited) → IsEdit front x → IsComponent x r y → IsEdit (front ++ r ∷ []) y
edit_more front x r y so is =
    let sizes = fits_is x.op r so.base so.target is.fits in
    subst (λ (z : Edited). IsEdit (front ++ r ∷ []) z) is.made (record {
      last = last_push front r;
      op = ap (λ (o : Operation ℕ). op_with o r) so.op ∙ one_more front r;
      normal = normal_push front r so.normal (may_end front r x.last so.last is.follows) (filled_is r is.filled);
      base = sizes.0;
      target = sizes.1;
    })

edit_all : (front rs : List (Run ℕ)) (x y : Edited) → IsEdit front x → ComponentsLead x rs y → IsEdit (front ++ rs) y
edit_all front [] x y so leads = subst (λ (z : Edited). IsEdit (front ++ []) z) leads (subst (λ (rs : List (Run ℕ)). IsEdit rs x) (sym (append-nil front)) so)
edit_all front (r ∷ rs) x y so leads =
    let k = edit_all (front ++ r ∷ []) rs leads.0 y (edit_more front x r leads.0 so leads.1) leads.2 in
    subst (λ (ss : List (Run ℕ)). IsEdit ss y) (append_assoc front (r ∷ []) rs) k

-- components that are to be read
within : (front : List (Run ℕ)) (r : Run ℕ) (rs : List (Run ℕ)) → (base_of (front ++ r ∷ []) ≤ base_of (front ++ r ∷ rs)) × (length (image_from 0 (front ++ r ∷ [])) ≤ length (image_from 0 (front ++ r ∷ rs)))
within front r rs =
    let whole : (front ++ r ∷ []) ++ rs ≡ front ++ r ∷ rs = append_assoc front (r ∷ []) rs in
    subst (λ (ss : List (Run ℕ)). (base_of (front ++ r ∷ []) ≤ base_of ss) × (length (image_from 0 (front ++ r ∷ [])) ≤ length (image_from 0 ss))) whole
    (omega (arith, base_of-append (front ++ r ∷ []) rs), rw (image_from-append 0 (front ++ r ∷ []) rs) (omega (arith, length-append (image_from 0 (front ++ r ∷ [])) (image_from (0 + base_of (front ++ r ∷ [])) rs))))

filled_at_end : (front : List (Run ℕ)) (r : Run ℕ) (rs : List (Run ℕ)) → IsNormal (front ++ r ∷ rs) → IsFilled r
filled_at_end [] r rs n = n.0
filled_at_end (q ∷ front) r rs n = filled_at_end front r rs n.2

edit_lead : (front rs : List (Run ℕ)) (x : Edited) → IsEdit front x → IsNormal (front ++ rs) → base_of (front ++ rs) ≤ 1000000 → length (image_from 0 (front ++ rs)) ≤ 1000000 → AreSpelled rs → (y : Edited) × ComponentsLead x rs y × IsEdit (front ++ rs) y
edit_lead front [] x so n b t are = (x, refl, subst (λ (ss : List (Run ℕ)). IsEdit ss x) (sym (append-nil front)) so)
edit_lead front (r ∷ rs) x so n b t are =
    let y : Edited = record { last = code_of r; op = op_with x.op r } in
    let whole : (front ++ r ∷ []) ++ rs ≡ front ++ r ∷ rs = append_assoc front (r ∷ []) rs in
    let w = within front r rs in
    let op : op_with x.op r ≡ operation_of (front ++ r ∷ []) = ap (λ (o : Operation ℕ). op_with o r) so.op ∙ one_more front r in
    let base : (op_with x.op r).base ≤ 1000000 = rw op (omega (arith, w.0, b)) in
    let target : length (op_with x.op r).image ≤ 1000000 = rw op (omega (arith, w.1, t)) in
    let filled = is_filled r (filled_at_end front r rs n) in
    let fits = is_fits x.op r so.base so.target base target in
    let step : IsComponent x r y = record {
      follows = end_may front r x.last so.last (front_may_end front r rs n);
      filled = filled;
      fits = fits;
      small = size_small x.op r so.base base target;
      scalars = are.0;
      made = refl;
    } in
    let others = edit_lead (front ++ r ∷ []) rs y (edit_more front x r y so step) (subst IsNormal (sym whole) n) (rw whole b) (rw whole t) are.1 in
    (others.0, (y, step, others.1), subst (λ (ss : List (Run ℕ)). IsEdit ss others.0) whole others.2)

begun : IsEdit [] (record { last = 0; op = empty })
begun = record { last = refl; op = refl; normal = tt; base = omega arith; target = omega arith }

pub components_taken : (n : ℕ) (s : Spot) (op : Operation ℕ) (t : Spot) → IsBytes s.rest → components_at n s ≡ Ok (op, t) → Takes s (flat_map component (normal_runs op)) t × (length (normal_runs op) ≡ n)
unfolding components_at
components_taken n s op t fits e =
    let a = bind_ok (times push_component n (record { last = 0; op = empty }) s) (λ edited. Ok (edited.0.op, edited.1)) (op, t) e in
    let k = components_take n (record { last = 0; op = empty }) s a.0.0 a.0.1 fits a.1 in
    let edit = edit_all [] k.0 (record { last = 0; op = empty }) a.0.0 begun k.2 in
    let runs : normal_runs a.0.0.op ≡ k.0 = ap normal_runs edit.op ∙ normal_runs_back k.0 edit.normal in
    let made : Takes s (flat_map component (normal_runs a.0.0.op)) a.0.1 × (length (normal_runs a.0.0.op) ≡ n) = (rw runs k.1, rw runs k.3) in
    subst (λ (p : Operation ℕ × Spot). Takes s (flat_map component (normal_runs p.0)) p.1 × (length (normal_runs p.0) ≡ n)) (ok_is (a.0.0.op, a.0.1) (op, t) a.2) made

pub components_spelled : (op : Operation ℕ) → IsSpelled op → Spells (components_at (length (normal_runs op))) (flat_map component (normal_runs op)) op
unfolding components_at
components_spelled op is =
    let rs = normal_runs op in
    let start : Edited = record { last = 0; op = empty } in
    let k = edit_lead [] rs start begun is.normal (rw (ap (λ (o : Operation ℕ). o.base) is.spelled) is.base) (rw (ap (λ (o : Operation ℕ). o.image) is.spelled) is.target) is.scalars in
    subst (λ (o : Operation ℕ). Spells (components_at (length rs)) (flat_map component rs) o) (k.2.op ∙ is.spelled)
    (Spells-map (times push_component (length rs) start) (λ edited. edited.op) k.0 (flat_map component rs) (components_spell start rs k.0 k.1))

pub operation_takes : (s : Spot) (op : Operation ℕ) (t : Spot) → IsBytes s.rest → operation_at s ≡ Ok (op, t) → Takes s (components (normal_runs op)) t
unfolding operation_at
operation_takes s op t fits e =
    let a = bind_ok (number_at w32 s) (λ count. components_at count.0 count.1) (op, t) e in
    let k0 = number_takes w32 (2 ^ 32) wide32 s a.0.0 a.0.1 fits a.1 in
    let k1 = components_taken a.0.0 a.0.1 op t k0.0.rest_fits a.2 in
    let count : Takes s (word (length (normal_runs op))) a.0.1 = rw k1.1 k0.0 in
    Takes-then s (word (length (normal_runs op))) a.0.1 (flat_map component (normal_runs op)) t count k1.0

pub operation_spells : (op : Operation ℕ) → IsSpelled op → Spells operation_at (components (normal_runs op)) op
unfolding operation_at
operation_spells op is =
    let few : length (normal_runs op) < 2 ^ 32 = omega (arith, runs_few 0 (normal_runs op) is.normal, is.base, is.target, ap (λ (o : Operation ℕ). o.base) is.spelled, ap (λ (o : Operation ℕ). length o.image) is.spelled) in
    Spells-then (number_at w32) (λ count. components_at count.0 count.1) (length (normal_runs op)) op (word (length (normal_runs op))) (flat_map component (normal_runs op)) (number_spells w32 (2 ^ 32) wide32 (length (normal_runs op)) few) (components_spelled op is)
