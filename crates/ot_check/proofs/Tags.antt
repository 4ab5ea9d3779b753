-- The tags of a list, piece by piece.
use Rattle.std.proofs.Common.{◌≡◌, List, ◌++◌, sym, ap, ◌∙◌, append_assoc}
use Rattle.std.proofs.lemmas.List.{map-append}
use Rattle.ot_isa.specs.declared.elements.Tag.{Tag}
use Rattle.ot_isa.specs.declared.elements.Tagged.{Tagged}
use Rattle.ot_model.specs.Events.{tags}

-- the tags of what lies before the elements that are left
pub record AreTagsBefore (list ahead : List Tagged) (found : List Tag) : Type 0 where
  pub seen : List Tagged
  pub split : list ≡ seen ++ ahead
  pub are : found ≡ tags seen

-- one more piece
pub tags_piece : (list ahead piece later : List Tagged) (found more : List Tag) → AreTagsBefore list ahead found → ahead ≡ piece ++ later → more ≡ found ++ tags piece → AreTagsBefore list later more
tags_piece list ahead piece later found more before next pushed =
    record {
      seen = before.seen ++ piece;
      split = before.split ∙ ap (λ (xs : List Tagged). before.seen ++ xs) next ∙ sym (append_assoc before.seen piece later);
      are = pushed ∙ ap (λ (ts : List Tag). ts ++ tags piece) before.are ∙ sym (map-append (λ (x : Tagged). x.tag) before.seen piece);
    }
