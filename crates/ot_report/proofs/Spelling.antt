-- Spans, spelled out, and how they come out of a list character by character.
use Rattle.std.proofs.Common.{◌≡◌, ℕ, zero, suc, ◌+◌, ◌<◌, ◌≤◌, Bool, true, false, List, [], ◌∷◌, ◌++◌, length, drop, get_or, refl, sym, ap, ◌∙◌, arith, Option, Some, None}
use Rattle.std.proofs.lemmas.Bool.{and_parts, eqb-true}
use Rattle.std.proofs.lemmas.Option.{slice_get-get_or}
use Rattle.std.specs.Prelude.{replicate, if◌then◌else◌, ◌==◌}
use Rattle.ot_isa.specs.declared.elements.Tag.{Tag}
use Rattle.ot_isa.specs.declared.elements.Tagged.{Tagged}
use Rattle.ot_model.proofs.States.{drop_entry}
use Rattle.ot_report.specs.Authors.{authors, same_author, span_json, spans_from, spans_of, spelled, with_spans, SpansSpell}
use Rattle.ot_report.specs.declared.authors.Author.{Author}
use Rattle.ot_report.specs.declared.spans.Span.{Span}
use Rattle.ot_values.specs.Items.{with_item}

one_author : (a b : Author) → a.client ≡ b.client → a.instruction ≡ b.instruction → a ≡ b
one_author a b same_client same_instruction =
    ap (λ (c : ℕ). record { client = c; instruction = a.instruction }) same_client ∙ ap (λ (k : ℕ). record { client = b.client; instruction = k }) same_instruction

same_is : (a b : Option Author) → same_author a b ≡ true → a ≡ b
same_is None None e = refl
same_is None (Some b) e = absurd (cc)
same_is (Some a) None e = absurd (cc)
same_is (Some a) (Some b) e =
    let parts = and_parts (a.client == b.client) (a.instruction == b.instruction) e in
    ap Some (one_author a b (eqb-true a.client b.client parts.0) (eqb-true a.instruction b.instruction parts.1))

-- one more at the end
replicate_more : (n : ℕ) (a : Option Author) (others : List (Option Author)) → replicate (suc n) a ++ others ≡ replicate n a ++ a ∷ others
replicate_more zero a others = refl
replicate_more (suc n) a others = ap (λ (xs : List (Option Author)). a ∷ xs) (replicate_more n a others)

from_spells : (count : ℕ) (author : Option Author) (others : List (Option Author)) → spelled (spans_from (record { count = count; author = author }) others) ≡ replicate count author ++ others
from_spells count author [] = refl
from_spells count author (a ∷ others) = go (from_spells (suc count) author others) (from_spells 1 a others) (same_author a author) refl
  where
    go : spelled (spans_from (record { count = suc count; author = author }) others) ≡ replicate (suc count) author ++ others → spelled (spans_from (record { count = 1; author = a }) others) ≡ replicate 1 a ++ others
        → (b : Bool) → same_author a author ≡ b
        → spelled (if b then spans_from (record { count = suc count; author = author }) others else record { count = count; author = author } ∷ spans_from (record { count = 1; author = a }) others) ≡ replicate count author ++ a ∷ others
    go longer other true is =
        longer ∙ replicate_more count author others ∙ ap (λ (x : Option Author). replicate count author ++ x ∷ others) (sym (same_is a author is))
    go longer other false is = ap (λ (xs : List (Option Author)). replicate count author ++ xs) other

pub spans_spell : SpansSpell
spans_spell [] = refl
spans_spell (a ∷ others) = from_spells 1 a others

-- ---- the spans, character by character

span_goes_on : (count : ℕ) (author a : Option Author) (others : List (Option Author)) → same_author a author ≡ true
    → spans_from (record { count = suc count; author = author }) others ≡ spans_from (record { count = count; author = author }) (a ∷ others)
span_goes_on count author a others same =
    ap (λ (b : Bool). if b then spans_from (record { count = suc count; author = author }) others else record { count = count; author = author } ∷ spans_from (record { count = 1; author = a }) others) (sym same)

span_ends : (count : ℕ) (author a : Option Author) (others : List (Option Author)) → same_author a author ≡ false
    → record { count = count; author = author } ∷ spans_from (record { count = 1; author = a }) others ≡ spans_from (record { count = count; author = author }) (a ∷ others)
span_ends count author a others other =
    ap (λ (b : Bool). if b then spans_from (record { count = suc count; author = author }) others else record { count = count; author = author } ∷ spans_from (record { count = 1; author = a }) others) (sym other)

-- the authors from a place on
authors_next : (by : Tag → Option Author) (list : List Tagged) (i : ℕ) (d : Tagged) (author : Option Author) → i < length list → author ≡ by (get_or list i d).tag
    → authors by (drop i list) ≡ author ∷ authors by (drop (i + 1) list)
authors_next by list i d author below is =
    let next : suc i ≡ i + 1 = omega arith in
    ap (λ (rest : List Tagged). authors by rest) (drop_entry list i (get_or list i d) (slice_get-get_or list i d below))
    ∙ ap (λ (a : Option Author). a ∷ authors by (drop (suc i) list)) (sym is)
    ∙ ap (λ (n : ℕ). author ∷ authors by (drop n list)) next

-- the items so far, the span that may go on, and the rest of the list are all the spans
pub record AreSpans (by : Tag → Option Author) (list : List Tagged) (i : ℕ) (items : List ℕ) (span : Span) : Type 0 where
  pub few : span.count ≤ i
  pub all : with_spans items (spans_from span (authors by (drop i list))) ≡ with_spans [] (spans_of (authors by list))

module _ (by : Tag → Option Author) (list : List Tagged) (i : ℕ) (items : List ℕ) (span : Span) (now : AreSpans by list i items span)
    (d : Tagged) (author : Option Author) (below : i < length list) (is : author ≡ by (get_or list i d).tag) where
  pub one_longer : same_author author span.author ≡ true → AreSpans by list (i + 1) items (record { count = span.count + 1; author = span.author })
  one_longer same =
      let few = now.few in
      let more : span.count + 1 ≡ suc span.count = omega arith in
      record {
        few = omega arith;
        all =
            ap (λ (n : ℕ). with_spans items (spans_from (record { count = n; author = span.author }) (authors by (drop (i + 1) list)))) more
            ∙ ap (λ (spans : List Span). with_spans items spans) (span_goes_on span.count span.author author (authors by (drop (i + 1) list)) same)
            ∙ ap (λ (rest : List (Option Author)). with_spans items (spans_from span rest)) (sym (authors_next by list i d author below is))
            ∙ now.all;
      }

  pub one_more : same_author author span.author ≡ false → AreSpans by list (i + 1) (with_item items (span_json span)) (record { count = 1; author = author })
  one_more other =
      record {
        few = omega arith;
        all =
            ap (λ (spans : List Span). with_spans items spans) (span_ends span.count span.author author (authors by (drop (i + 1) list)) other)
            ∙ ap (λ (rest : List (Option Author)). with_spans items (spans_from span rest)) (sym (authors_next by list i d author below is))
            ∙ now.all;
      }
