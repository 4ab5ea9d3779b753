-- Pairs of operations in their parts: one after the other, and both on one document.
use Rattle.std.proofs.Common.{◌≡◌, ◌+◌, ◌≤◌, List, length, refl, sym, ap, subst, ◌∙◌, arith}
use Rattle.ot_operation.specs.Operation.{Operation, IsOperation, news}
use Rattle.ot_operation.specs.Compose.{compose}
use Rattle.ot_operation.specs.Merge.{first_after, second_after}
use Rattle.ot_operation.proofs.TransformedLaws.{news-first_after, news-second_after}
use Rattle.ot_codes.specs.declared.cut.Cut.{Cut}
use Rattle.ot_codes.specs.Cuts.{assembled, AreWithin, size, GiveText}
use Rattle.ot_codes.specs.Shape.{blank, shape, filled}
use Rattle.ot_codes.proofs.CutLaws.{cuts_give_text}
use Rattle.ot_codes.proofs.Mapped.{compose-mapped, first_after-mapped, second_after-mapped}
use Rattle.ot_text.proofs.Parts.{AreParts, as_long, joined, same_base, same_target, same_inserted}

module _ {A : Type 0} (a b : Operation A) (codes_a codes_b : Operation (Unit {0})) (text_a text_b : List A) (parts_a : AreParts codes_a text_a a) (parts_b : AreParts codes_b text_b b) where
  pub follows : length a.image ≡ b.base → length codes_a.image ≡ codes_b.base
  follows is = same_target parts_a ∙ is ∙ sym (same_base parts_b)

  pub one_base : a.base ≡ b.base → codes_a.base ≡ codes_b.base
  one_base is = same_base parts_a ∙ is ∙ sym (same_base parts_b)

  pub fit_together : a.base + length (news a.image) + length (news b.image) ≤ 1000000 → codes_a.base + length (news codes_a.image) + length (news codes_b.image) ≤ 1000000
  fit_together fits = omega (arith, fits, same_base parts_a, same_inserted parts_a, same_inserted parts_b)

  pub cuts_within : (cuts : List Cut) → GiveText cuts codes_a codes_b → AreWithin 0 cuts (length text_a) (length text_b)
  cuts_within cuts given =
      let first : size codes_a ≡ length text_a = same_inserted parts_a ∙ sym (ap length parts_a.text_is) in
      let second : size codes_b ≡ length text_b = same_inserted parts_b ∙ sym (ap length parts_b.text_is) in
      subst (λ n. AreWithin 0 cuts (length text_a) n) second (subst (λ m. AreWithin 0 cuts m (size codes_b)) first given.within)

  pub composed_parts :
      (cuts : List Cut) (codes : Operation (Unit {0})) (text : List A) → GiveText cuts codes_a codes_b → codes ≡ compose codes_a codes_b → text ≡ assembled cuts text_a text_b
      → AreParts codes text (compose a b)
  composed_parts cuts codes text given codes_are text_is =
      let shapes : GiveText cuts (shape a) (shape b) =
      subst (λ o. GiveText cuts (shape a) o) parts_b.codes_are (subst (λ o. GiveText cuts o codes_b) parts_a.codes_are given) in
      record {
        codes_are = codes_are ∙ ap (λ o. compose o codes_b) parts_a.codes_are ∙ ap (compose (shape a)) parts_b.codes_are ∙ sym (compose-mapped blank a b);
        text_is = text_is ∙ ap (λ t. assembled cuts t text_b) parts_a.text_is ∙ ap (assembled cuts (news a.image)) parts_b.text_is ∙ cuts_give_text a b cuts shapes;
      }

  module _ (first : IsOperation a) (second : IsOperation b) (same : a.base ≡ b.base) where
    pub first_parts :
        (codes : Operation (Unit {0})) (text : List A) → codes ≡ first_after codes_a codes_b → text ≡ news a.image → AreParts codes text (first_after a b)
    first_parts codes text codes_are text_is = record {
      codes_are = codes_are ∙ ap (λ o. first_after o codes_b) parts_a.codes_are ∙ ap (first_after (shape a)) parts_b.codes_are ∙ sym (first_after-mapped blank a b);
      text_is = text_is ∙ sym (news-first_after a b first second same);
    }

    pub second_parts :
        (codes : Operation (Unit {0})) (text : List A) → codes ≡ second_after codes_a codes_b → text ≡ news b.image → AreParts codes text (second_after a b)
    second_parts codes text codes_are text_is = record {
      codes_are = codes_are ∙ ap (λ o. second_after o codes_b) parts_a.codes_are ∙ ap (second_after (shape a)) parts_b.codes_are ∙ sym (second_after-mapped blank a b);
      text_is = text_is ∙ sym (news-second_after a b first second same);
    }

-- the same, where the texts are those of the two

module _ {A : Type 0} (a b : Operation A) (codes_a codes_b : Operation (Unit {0})) (a_are : codes_a ≡ shape a) (b_are : codes_b ≡ shape b) where
  parts_a : AreParts codes_a (news a.image) a
  parts_a = record { codes_are = a_are; text_is = refl }

  parts_b : AreParts codes_b (news b.image) b
  parts_b = record { codes_are = b_are; text_is = refl }

  pub fit : a.base + length (news a.image) + length (news b.image) ≤ 1000000 → codes_a.base + length (news codes_a.image) + length (news codes_b.image) ≤ 1000000
  fit = fit_together a b codes_a codes_b (news a.image) (news b.image) parts_a parts_b

  module _ (operation_a : IsOperation a) (operation_b : IsOperation b) (same : a.base ≡ b.base) (codes : Operation (Unit {0})) where
    module _ (is : codes ≡ first_after codes_a codes_b) where
      firsts : AreParts codes (news a.image) (first_after a b)
      firsts = first_parts a b codes_a codes_b (news a.image) (news b.image) parts_a parts_b operation_a operation_b same codes (news a.image) is refl

      pub first_codes : codes ≡ shape (first_after a b)
      first_codes = firsts.codes_are

      pub first_long : length (news codes.image) ≡ length (news a.image)
      first_long = sym (as_long firsts)

      pub first_is : filled codes (news a.image) ≡ first_after a b
      first_is = joined firsts

    module _ (is : codes ≡ second_after codes_a codes_b) where
      seconds : AreParts codes (news b.image) (second_after a b)
      seconds = second_parts a b codes_a codes_b (news a.image) (news b.image) parts_a parts_b operation_a operation_b same codes (news b.image) is refl

      pub second_long : length (news codes.image) ≡ length (news b.image)
      second_long = sym (as_long seconds)

      pub second_is : filled codes (news b.image) ≡ second_after a b
      second_is = joined seconds
