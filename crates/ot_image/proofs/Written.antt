-- What the writer of images needs.
use Rattle.std.proofs.Common.{◌≡◌, ℕ, ◌+◌, ◌≤◌, ◌<◌, ◌^◌, List, [], ◌∷◌, ◌++◌, map, length, max, take, refl, sym, ap, ◌∙◌, arith, append_assoc, length-append}
use Rattle.std.proofs.lemmas.List.{length-map, append-nil}
use Rattle.ot_operation.specs.Operation.{New, olds, Operation}
use Rattle.ot_operation.specs.Run.{Run, Keep, Add, Skip, base_of, image_from, operation_of, normal_runs}
use Rattle.std.specs.Prelude.{slice_get, Option, Some, None}
use Rattle.std.specs.Int.{w32, to_be_bytes}
use Rattle.std.specs.List.{flat_map}
use Rattle.std.proofs.lemmas.Grind.{flat_map-append}
use Rattle.std.proofs.lemmas.List.Concat.{flat_map-cons}
use Rattle.ot_isa.specs.declared.instruction.Instr.{Instr}
use Rattle.ot_isa.proofs.Lists.{take_got}
use Rattle.ot_image.specs.Spelling.{size_of, component, components, instruction}

later : (n from : ℕ) (r : Run ℕ) (rs : List (Run ℕ)) → ((at : ℕ) → n ≤ base_of rs + length (image_from at rs)) → n ≤ base_of (r ∷ rs) + length (image_from from (r ∷ rs))
later n from (Keep k) rs h = omega (arith, h (from + k), length-append (olds {A = ℕ} from k) (image_from (from + k) rs))
later n from (Add s) rs h = omega (arith, h from, length-append (map New s) (image_from from rs))
later n from (Skip k) rs h = omega (arith, h (from + k))

first_within : (from : ℕ) (r : Run ℕ) (rs : List (Run ℕ)) → size_of r ≤ base_of (r ∷ rs) + length (image_from from (r ∷ rs))
first_within from (Keep n) rs = omega arith
first_within from (Add s) rs = omega (arith, length-append (map New s) (image_from from rs), length-map s (λ (x : ℕ). New x))
first_within from (Skip n) rs = omega arith

-- a component is no longer than the operation
pub sizes_within : (from : ℕ) (front : List (Run ℕ)) (r : Run ℕ) (rest : List (Run ℕ)) → size_of r ≤ base_of (front ++ r ∷ rest) + length (image_from from (front ++ r ∷ rest))
sizes_within from [] r rest = first_within from r rest
sizes_within from (q ∷ front) r rest = later (size_of r) from q (front ++ r ∷ rest) (λ at. sizes_within at front r rest)

-- one more text at the end
text_more : {B : Type 0} (text : B → List ℕ) (before old new : List ℕ) (bs : List B) (b : B) → old ≡ before ++ flat_map text bs → new ≡ old ++ text b → new ≡ before ++ flat_map text (bs ++ b ∷ [])
text_more text before old new bs b so made =
    made ∙ ap (λ (x : List ℕ). x ++ text b) so ∙ append_assoc before (flat_map text bs) (text b)
    ∙ ap (λ (x : List ℕ). before ++ x) (sym (flat_map-append text bs (b ∷ []) ∙ ap (λ (x : List ℕ). flat_map text bs ++ x) (flat_map-cons text b [] ∙ append-nil (text b))))

-- the components in front of those that are left are written
pub record IsPut (op : Operation ℕ) (left : List (Run ℕ)) (before out : List ℕ) : Type 0 where
  pub front : List (Run ℕ)
  pub spells : operation_of (front ++ left) ≡ op
  pub form : front ++ left ≡ normal_runs op
  pub put : out ≡ before ++ flat_map component front

pub none_put : (op : Operation ℕ) (left : List (Run ℕ)) (before : List ℕ) → operation_of left ≡ op → left ≡ normal_runs op → IsPut op left before before
none_put op left before spells form = record { front = []; spells = spells; form = form; put = sym (append-nil before) }

module _ {op : Operation ℕ} {left rest : List (Run ℕ)} {before out : List ℕ} {r : Run ℕ} (left_is : left ≡ r ∷ rest) (so_far : IsPut op left before out) where
  whole : so_far.front ++ left ≡ so_far.front ++ r ∷ rest
  whole = ap (λ rs. so_far.front ++ rs) left_is

  pub part_fits : max op.base (length op.image) ≤ 1000000 → size_of r < 2 ^ 32
  part_fits fits =
      let spells : operation_of (so_far.front ++ r ∷ rest) ≡ op = rw whole at so_far.spells in
      omega (arith, fits, sizes_within 0 so_far.front r rest, ap (λ (o : Operation ℕ). o.base) spells, ap (λ (o : Operation ℕ). length o.image) spells)

  pub one_put : (now : List ℕ) → now ≡ out ++ component r → IsPut op rest before now
  one_put now made =
      let all : (so_far.front ++ r ∷ []) ++ rest ≡ so_far.front ++ left = append_assoc so_far.front (r ∷ []) rest ∙ sym whole in
      record {
        front = so_far.front ++ r ∷ [];
        spells = ap operation_of all ∙ so_far.spells;
        form = all ∙ so_far.form;
        put = text_more component before out now so_far.front r so_far.put made;
      }

pub all_put : (op : Operation ℕ) (left : List (Run ℕ)) (before mid out : List ℕ) → left ≡ [] → IsPut op left mid out → mid ≡ before ++ to_be_bytes w32 (length (normal_runs op))
    → out ≡ before ++ components (normal_runs op)
all_put op left before mid out none so_far word =
    let rs = normal_runs op in
    let all : so_far.front ≡ rs = sym (append-nil so_far.front) ∙ ap (λ rest. so_far.front ++ rest) (sym none) ∙ so_far.form in
    so_far.put ∙ ap (λ front. mid ++ flat_map component front) all ∙ ap (λ (x : List ℕ). x ++ flat_map component rs) word
    ∙ append_assoc before (to_be_bytes w32 (length rs)) (flat_map component rs)

pub instrs_more : (before old new : List ℕ) (is : List Instr) (i : ℕ) (instr : Instr) → slice_get is i ≡ Some instr → old ≡ before ++ flat_map instruction (take i is) → new ≡ old ++ instruction instr
    → new ≡ before ++ flat_map instruction (take (i + 1) is)
instrs_more before old new is i instr got so made =
    text_more instruction before old new (take i is) instr so made ∙ ap (λ (js : List Instr). before ++ flat_map instruction js) (sym (take_got is i instr got))

pub none_left : {A : Type 0} (o : Option A) → ((x : A) → o ≡ Some x → ⊥) → o ≡ None
none_left None f = refl
none_left (Some x) f = absurd (f x refl)
