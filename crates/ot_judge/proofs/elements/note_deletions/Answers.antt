use Rattle.std.proofs.Common.{◌≡◌, ◌<◌, ◌+◌, ◌∙◌, ℕ, List, ap, sym, arith, length, get_or, refl, rules, set, subst, take}
use Rattle.std.specs.Prelude.{All}
use Rattle.std.proofs.lemmas.List.{get_or_default}
use Rattle.ot_isa.specs.declared.elements.Tag.{Tag}
use Rattle.ot_judge.specs.declared.elements.Element.{Element}
use Rattle.ot_judge.specs.Views.{views}
use Rattle.ot_judge.proofs.Deleters.{all-ended, all-missed, all-noted, all-started, IsPartly, number-within, tags-set}
use Rattle.ot_judge.proofs.TagLemmas.{no_tag}
use Rattle.ot_judge.proofs.Views.{event_at-views}
use Rattle.ot_judge.proofs.elements.note_deletions.Goals.{in-Some+in_ok-note_deleter, in_default}
use Rattle.ot_judge.proofs.elements.note_deletions.Goals as goal

pub loop-a-init : goal.loop-a-init
loop-a-init c = record { tags = refl; each = all-started (views c.args.events.now) c.args.d c.args.all.now c.requires.before }

pub bounds-all-n : goal.bounds-all-n
bounds-all-n c = number-within c.args.index.now _ c.loop-a.all _ c.in-Some.n c.requires.index c.loop-a.invariant.tags (sym c.element_number.ensures ∙ c.in-Some.is)

pub offset_bounds-all-n : goal.offset_bounds-all-n
offset_bounds-all-n c =
    let below : c.in-Some.n < length c.loop-a.all = number-within c.args.index.now _ c.loop-a.all _ c.in-Some.n c.requires.index c.loop-a.invariant.tags (sym c.element_number.ensures ∙ c.in-Some.is) in
    search (rules, below)

pub note_deleter-requires-clause-known : goal.note_deleter-requires-clause-known
note_deleter-requires-clause-known c =
    let below = number-within c.args.index.now _ c.loop-a.all _ c.in-Some.n c.requires.index c.loop-a.invariant.tags (sym c.element_number.ensures ∙ c.in-Some.is) in
    λ k noted. omega (arith, (c.loop-a.invariant.each c.in-Some.n _ below).within k noted, c.requires.within)

pub loop-a-preserved : goal.loop-a-preserved
loop-a-preserved c =
    let events = views c.args.events.now in
    let at = event_at-views c.args.events.now c.args.d c.index-events-d.result c.requires.within c.index-events-d.is in
    let same = ap (λ x. x.deleted) at ∙ sym c.deref-a-items.ensures.value in
    let deleted = c.deref-a-items.result.now in
    let i : ℕ = c.loop-a.a-index in
    let each = subst (λ (ts : List Tag). All (IsPartly events c.args.d (take i ts)) c.loop-a.all) same c.loop-a.invariant.each in
    elim c.match-element_number.branch [
      | in-Some+in_ok-note_deleter w ↦
          let found = sym c.element_number.ensures ∙ w.in-Some.is in
          let below = number-within c.args.index.now _ c.loop-a.all _ w.in-Some.n c.requires.index c.loop-a.invariant.tags found in
          let x : Element = get_or c.loop-a.all w.in-Some.n w.index-all-n.result in
          let here : x ≡ get_or c.loop-a.all w.in-Some.n x = get_or_default c.loop-a.all w.in-Some.n w.index-all-n.result x below in
          rw w.all-is (record {
            tags = tags-set c.loop-a.all w.in-Some.n x w.note_deleter.new.x below here w.in_ok-note_deleter.ensures.tag ∙ c.loop-a.invariant.tags;
            each = subst (λ (ts : List Tag). All (IsPartly events c.args.d (take (i + 1) ts)) (set c.loop-a.all w.in-Some.n w.note_deleter.new.x)) (sym same)
                (all-noted c.args.index.now events c.args.d i w.in-Some.n _ deleted c.loop-a.all x w.note_deleter.new.x no_tag same c.loop-a-test.true c.requires.index c.loop-a.invariant.tags found here
                w.in_ok-note_deleter.ensures.tag w.in_ok-note_deleter.ensures.kept w.in_ok-note_deleter.ensures.only w.in_ok-note_deleter.ensures.here each);
          })
      | in_default w ↦ rw w.all-is (record {
        tags = c.loop-a.invariant.tags;
        each = subst (λ (ts : List Tag). All (IsPartly events c.args.d (take (i + 1) ts)) c.loop-a.all) (sym same)
            (all-missed c.args.index.now events c.args.d i _ deleted c.loop-a.all no_tag c.loop-a-test.true c.requires.index c.loop-a.invariant.tags (sym c.element_number.ensures ∙ w.in_default.is) each);
      })
    ]

pub returns-clause-after : goal.returns-clause-after
returns-clause-after c =
    let events = views c.args.events.now in
    let at = event_at-views c.args.events.now c.args.d c.index-events-d.result c.requires.within c.index-events-d.is in
    let same = ap (λ x. x.deleted) at ∙ sym c.deref-a-items.ensures.value in
    all-ended events c.args.d c.loop-a.a-index c.deref-a-items.result.now c.loop-a.all same (omega arith) (subst (λ (ts : List Tag). All (IsPartly events c.args.d (take c.loop-a.a-index ts)) c.loop-a.all) same c.loop-a.invariant.each)
