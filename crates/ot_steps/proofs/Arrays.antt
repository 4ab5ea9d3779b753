-- The array of an operation's components, item by item.
use Rattle.std.proofs.Common.{◌≡◌, ℕ, ◌≤◌, List, [], ◌∷◌, ◌++◌, length, take, sym, ap, ◌∙◌, subst, arith, append_assoc, append-nil}
use Rattle.std.specs.Prelude.{Result, Ok, Err, OnOk, is_ok, if◌then◌else◌}
use Rattle.std.specs.Str.{IsAscii}
use Rattle.std.proofs.lemmas.Str.Ascii.{IsAscii-nil}
use Rattle.ot_operation.specs.Run.{Run, IsNormal}
use Rattle.ot_steps.specs.Lettered.{array_text, item_text, items_from}

pub first_and_others :
    {A : Type 0} (code : A → ℕ) (r : Run A) (rs : List (Run A)) (old opened first text : List ℕ)
    → opened ≡ old ++ 91 ∷ [] → first ≡ opened ++ item_text code r → text ≡ first ++ items_from code rs → text ≡ old ++ array_text code (r ∷ rs)
first_and_others code r rs old opened first text begun one others =
    others
    ∙ ap (λ (t : List ℕ). t ++ items_from code rs) (one ∙ ap (λ (t : List ℕ). t ++ item_text code r) begun)
    ∙ append_assoc (old ++ 91 ∷ []) (item_text code r) (items_from code rs)
    ∙ append_assoc old (91 ∷ []) (item_text code r ++ items_from code rs)

-- the text with what is gathered, and the items that are left, are the whole; each of these is a component in normal form
pub record AreGathered {A : Type 0} (code : A → ℕ) (all left : List (Run A)) (old text bytes : List ℕ) (gathered : ℕ) : Type 0 where
  pub whole : (text ++ take gathered bytes) ++ items_from code left ≡ old ++ items_from code all
  pub normal : IsNormal left
  pub ascii : IsAscii (take gathered bytes)
  pub within : gathered ≤ length bytes

pub none_gathered : {A : Type 0} (code : A → ℕ) (all left : List (Run A)) (old bytes : List ℕ) → left ≡ all → IsNormal all → AreGathered code all left old old bytes 0
none_gathered code all left old bytes is normal =
    record {
      whole = ap (λ (rs : List (Run _)). (old ++ []) ++ items_from code rs) is ∙ ap (λ (t : List ℕ). t ++ items_from code all) (append-nil old);
      normal = subst IsNormal (sym is) normal;
      ascii = IsAscii-nil;
      within = omega arith;
    }

-- one more, behind what is gathered
pub gathered_more :
    {A : Type 0} (code : A → ℕ) (all left rest : List (Run A)) (r : Run A) (old text made next bytes more : List ℕ) (gathered room end : ℕ) → left ≡ r ∷ rest
    → made ++ take room bytes ≡ text ++ take gathered bytes → next ++ take end more ≡ (made ++ take room bytes) ++ 44 ∷ item_text code r
    → IsAscii (take end more) → end ≤ length more → AreGathered code all left old text bytes gathered → AreGathered code all rest old next more end
gathered_more code all left rest r old text made next bytes more gathered room end is same item ascii within so_far =
    let normal = rw is at so_far.normal in
    record {
      whole = ap (λ (t : List ℕ). t ++ items_from code rest) (item ∙ ap (λ (t : List ℕ). t ++ 44 ∷ item_text code r) same)
          ∙ append_assoc (text ++ take gathered bytes) (44 ∷ item_text code r) (items_from code rest)
          ∙ ap (λ (rs : List (Run _)). (text ++ take gathered bytes) ++ items_from code rs) (sym is)
          ∙ so_far.whole;
      normal = normal.2;
      ascii = ascii;
      within = within;
    }

-- all are written
pub all_written :
    {A : Type 0} (code : A → ℕ) (all left : List (Run A)) (old text last next bytes : List ℕ) (gathered : ℕ) → left ≡ [] → last ≡ text ++ take gathered bytes → next ≡ last ++ 93 ∷ []
    → AreGathered code all left old text bytes gathered → next ≡ old ++ items_from code all
all_written code all left old text last next bytes gathered none flushed ended so_far =
    ended
    ∙ ap (λ (t : List ℕ). t ++ 93 ∷ []) flushed
    ∙ ap (λ (rs : List (Run _)). (text ++ take gathered bytes) ++ items_from code rs) (sym none)
    ∙ so_far.whole

-- what a push gives, where there was memory for it
pub on_push : {T E Q : Type 0} (r : Result T E) (new done not : List ℕ) → new ≡ (if is_ok r then done else not) → (new ≡ done → Q) → OnOk r Q
on_push (Ok x) new done not is f = f is
on_push (Err e) new done not is f = tt
