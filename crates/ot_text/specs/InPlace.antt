-- An operation that is carried out where the list lies.
use Rattle.std.specs.Prelude.{◌≡◌, ℕ, zero, suc, ◌+◌, List, ◌++◌, length, take, drop}
use Rattle.ot_operation.specs.Operation.{apply}
use Rattle.ot_operation.specs.Run.{base_of, operation_of}
use Rattle.ot_codes.specs.declared.code.Code.{Code}
use Rattle.ot_codes.specs.Codes.{runs_of}
use Rattle.ot_text.specs.Components.{insertions, runs_with}

-- what codes with a text make of a document
abbrev pub made_of : {A : Type 0} → List Code → List A → List A → List A
made_of codes text document = apply (operation_of (runs_with codes text)) document

-- of codes with a text, these are left behind the first `count` elements of a document, of which they make what `makes` says
pub record HasPassed {A : Type 0} (codes codes_left : List Code) (text text_left : List A) (count : ℕ) (makes : List A → List A) : Type 0 where
  pub text_is : length text ≡ insertions codes → length text_left ≡ insertions codes_left
  pub base_is : base_of (runs_of codes) ≡ count + base_of (runs_of codes_left)
  pub made : (document : List A) → made_of codes text document ≡ makes document ++ made_of codes_left text_left (drop count document)

-- what codes with a text make of a document behind its first `count` elements, which stay
abbrev pub changed_behind : {A : Type 0} → ℕ → List Code → List A → List A → List A
changed_behind count codes text document = take count document ++ made_of codes text (drop count document)

-- what brings a leaf back: all of its items, where it has become shorter by so many, else the items of a run
abbrev pub brought_back : {A : Type 0} → ℕ → List A → List A → List A
brought_back zero all run = run
brought_back (suc less) all run = all
