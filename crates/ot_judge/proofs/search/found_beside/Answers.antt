use Rattle.std.proofs.Common.{◌∙◌, ℕ, Global, List, Vec, arith, below_more, length, map, subst, sym}
use Rattle.ot_model.specs.WeakList.{nth}
use Rattle.ot_judge.specs.Replicas.{Leads, entry_of}
use Rattle.ot_judge.specs.Seats.{AgreesAt}
use Rattle.ot_judge.proofs.Rising.{nth-items}
use Rattle.ot_judge.proofs.search.found_beside.Goals.{then-leads+in_ok-turn+in_default, else-leads}
use Rattle.ot_judge.proofs.search.found_beside.Goals as goal

pub loop-d-preserved : goal.loop-d-preserved
loop-d-preserved c =
    let lists = map (λ (v : Vec ℕ Global). v.items) c.args.lists.now in
    let more = below_more (λ d. Leads c.args.sizes.now c.args.replica (entry_of c.args.actors.now d) → AgreesAt c.args.seats.now (nth lists d) 0 (length c.args.own.now)) c.loop-d.d c.loop-d.invariant in
    elim c.if-leads.branch [
      | then-leads+in_ok-turn+in_default w ↦
          let at = nth-items c.args.lists.now c.loop-d.d w.index-lists-d.result c.loop-d-test.true w.index-lists-d.is ∙ sym w.as_slice.ensures.value in
          more (λ _. subst (λ (xs : List ℕ). AgreesAt c.args.seats.now xs 0 (length c.args.own.now)) (sym at) (w.in_ok-turn.ensures w.in_default.is))
      | else-leads w ↦ more (λ leads. absurd (c.leads.ensures w.if-leads.false (subst (λ (n : ℕ). Leads c.args.sizes.now c.args.replica n) (sym c.entry_of.ensures) leads)))
    ]

pub returns : goal.returns
returns c = λ _ d lt. c.loop-d.invariant d (omega (arith, lt))
