use Rattle.std.proofs.Common.{◌≡◌, ℕ, arith, ◌∙◌}
use Rattle.std.specs.Prelude.{Result, Ok, Err, IfOk}
use Rattle.ot_isa.specs.Tagging.{tagged_chars, HasNoTagTwice}
use Rattle.ot_isa.specs.declared.elements.Tagged.{Tagged}
use Rattle.std.proofs.Common.{List, subst, sym}
use Rattle.ot_isa.proofs.TagLists.{length-tagged_chars, no_tag_twice}
use Rattle.ot_isa.proofs.tagging.start_doc.Goals as goal

pub from_slice-requires : goal.from_slice-requires
from_slice-requires c = rw (c.as_slice.ensures.value, c.in_ok-items.ensures) (omega (arith, length-tagged_chars 65535 0 c.args.start.now, c.requires))

tags_of : {E : Type 0} (r : Result (List Tagged) E) (items : List Tagged) (chars : List ℕ) → items ≡ tagged_chars 65535 0 chars → IfOk r (λ d. d ≡ items) → IfOk r (λ d. HasNoTagTwice d)
tags_of (Ok d) items chars e h = subst HasNoTagTwice (sym (h ∙ e)) (no_tag_twice 65535 0 chars)
tags_of (Err x) items chars e h = tt

pub returns-clause-tags : goal.returns-clause-tags
returns-clause-tags c = tags_of c.from_slice.result _ _ (c.as_slice.ensures.value ∙ c.in_ok-items.ensures) c.from_slice.ensures
