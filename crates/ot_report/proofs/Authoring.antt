-- The authors that lists by client give, and those of the instructions.
use Rattle.std.proofs.Common.{◌≡◌, ℕ, Bool, true, false, List, [], ◌∷◌, ◌++◌, refl, ap, ◌∙◌, Option, Some, None, codes}
use Rattle.std.specs.Prelude.{slice_get}
use Rattle.std.specs.Bool.{OnTrue}
use Rattle.std.specs.Option.{option_map}
use Rattle.ot_isa.specs.declared.elements.Tagged.{Tagged}
use Rattle.ot_isa.specs.declared.instruction.Instr.{Instr}
use Rattle.ot_model.specs.declared.shown.Shown.{Shown}
use Rattle.ot_report.specs.Authors.{author_in, author_of, authors, by_json, AreInserters}
use Rattle.ot_report.specs.Printed.{read_text}
use Rattle.ot_report.specs.RunJson.{document_json, reader_json}
use Rattle.ot_report.specs.Written.{shown_line, Gathers}
use Rattle.ot_report.specs.declared.authors.Author.{Author}

module _ (instrs : List Instr) (lists : List (List ℕ)) where
  same_authors : AreInserters instrs lists → (list : List Tagged) → authors (author_in lists) list ≡ authors (author_of instrs) list
  same_authors are [] = refl
  same_authors are (x ∷ list) =
      ap (λ (numbers : List ℕ). option_map (λ k. record { client = x.tag.origin; instruction = k }) (slice_get numbers x.tag.serial) ∷ authors (author_in lists) list) (are x.tag.origin)
      ∙ ap (λ (others : List (Option Author)). author_of instrs x.tag ∷ others) (same_authors are list)

  same_text : (json : Bool) → OnTrue json (AreInserters instrs lists) → (shown : Shown) → read_text json (author_in lists) shown ≡ read_text json (author_of instrs) shown
  same_text false are shown = refl
  same_text true are shown =
      ap (λ (others : List (Option Author)). reader_json shown.who ++ (document_json shown.list ++ (by_json others ++ codes "}\n"))) (same_authors are shown.list)

  same_line : (json : Bool) → OnTrue json (AreInserters instrs lists) → (list : Option Shown) → shown_line json (author_in lists) list ≡ shown_line json (author_of instrs) list
  same_line json are None = refl
  same_line json are (Some shown) = same_text json are shown

  pub gathers_same : (json : Bool) → OnTrue json (AreInserters instrs lists) → (list : Option Shown) (before after : List ℕ) (old new : Option (List ℕ))
      → Gathers json (author_in lists) list before after old new → Gathers json (author_of instrs) list before after old new
  gathers_same json are list before after old new (between, flushes, is) = (between, flushes, is ∙ ap (λ (line : List ℕ). between ++ line) (same_line json are list))
