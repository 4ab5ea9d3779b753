use Rattle.std.proofs.Common.{ℕ, arith, sym, ◌∙◌, ap, inl, inr, subst, List}
use Rattle.std.specs.Prelude.{nat_eq}
use Rattle.std.specs.HashSet.{contains as set_contains}
use Rattle.std.proofs.lemmas.List.{take_all}
use Rattle.ot_isa.specs.declared.elements.Tag.{Tag}
use Rattle.ot_judge.specs.Ranks.{IsAccounted}
use Rattle.ot_judge.proofs.TagLemmas.{no_tag}
use Rattle.ot_judge.proofs.Filtered.{accounted-more, set-grows}
use Rattle.ot_judge.proofs.ranks.add_crowded.Goals as goal
use Rattle.ot_judge.proofs.ranks.add_crowded.Goals.{then-not-is_owner+in_ok-insert, else-not-is_owner}

pub loop-a-preserved : goal.loop-a-preserved
loop-a-preserved c =
    elim c.if-not-is_owner.branch [
      | then-not-is_owner+in_ok-insert w ↦
          let grows = set-grows c.loop-a.crowded w.insert.new.self w.place_in.result w.in_ok-insert.ensures.updates.0 in
          rw w.crowded-is (record {
            grown = λ n h. grows n (c.loop-a.invariant.grown n h);
            accounted = accounted-more c.args.ranks.now c.args.owners.now c.loop-a.crowded w.insert.new.self c.args.xs.now c.loop-a.a-index no_tag c.loop-a-test.true grows (inr (ap (λ (n : ℕ). set_contains nat_eq w.insert.new.self n) (sym w.place_in.ensures) ∙ w.in_ok-insert.ensures.updates.1)) c.loop-a.invariant.accounted;
          })
      | else-not-is_owner w ↦ rw w.crowded-is (record {
        grown = c.loop-a.invariant.grown;
        accounted = accounted-more c.args.ranks.now c.args.owners.now c.loop-a.crowded c.loop-a.crowded c.args.xs.now c.loop-a.a-index no_tag c.loop-a-test.true (λ n h. h) (inl (c.is_owner.ensures w.if-not-is_owner.false)) c.loop-a.invariant.accounted;
      })
    ]

pub returns-clause-accounted : goal.returns-clause-accounted
returns-clause-accounted c = subst (λ (xs : List Tag). IsAccounted c.args.ranks.now c.args.owners.now c.loop-a.crowded xs) (take_all c.loop-a.a-index c.args.xs.now (omega arith)) c.loop-a.invariant.accounted
