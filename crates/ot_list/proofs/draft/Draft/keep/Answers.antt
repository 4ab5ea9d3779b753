use Rattle.std.proofs.Common.{◌≡◌, ◌∙◌, ◌+◌, ◌-◌, ◌++◌, [], List, length, get_or, take, drop, ap, refl, sym, arith}
use Rattle.std.specs.Vec.{vec_items}
use Rattle.std.proofs.lemmas.List.{append-nil}
use Rattle.ot_list.specs.declared.draft.Draft.{Draft}
use Rattle.ot_list.specs.Leaves.{concatenated, MayEnd}
use Rattle.ot_list.specs.Written.{written, front_of, MayFollow}
use Rattle.ot_list.proofs.Leaved.{leaf_small, leaf_filled}
use Rattle.ot_list.proofs.Drafted.{numbers}
use Rattle.ot_list.proofs.Keeping.{kept_on, kept_next, may_stand, next_count, true_false}
use Rattle.ot_list.proofs.draft.Draft.keep.Goals as goal

pub overflow_add-self : goal.overflow_add-self
overflow_add-self g c =
    let n = numbers g.E.Item.CAP g.E.Item.total c.args.old.now c.args.self.now c.requires.draft in
    let p = n.place_is in
    let a = (rw c.if-is_at.true at c.is_at.ensures) refl in
    let q = a.place_is in
    let r = c.ranges.to in
    omega arith

pub returns-then-is_at-clause-draft : goal.returns-then-is_at-clause-draft
returns-then-is_at-clause-draft g c =
    let d = c.args.self.now in
    let a = (rw c.if-is_at.true at c.is_at.ensures) refl in
    let new : Draft g.row.E.Denot g.row.E-Sum.Denot = record { pending = d.pending; spans = d.spans; leaves = d.leaves; sums = d.sums; first = d.first; kept = d.kept + (c.args.to - c.args.from); place = c.args.to } in
    let k = kept_on g.E.Item.CAP g.E.Item.total c.args.old.now d new c.args.from (c.args.to - c.args.from) c.requires.draft c.leaf_count.ensures.leaves a.made a.none a.place_is (omega arith) (omega arith) refl refl refl refl refl refl (omega arith) in
    k.0

pub returns-then-is_at-clause-text : goal.returns-then-is_at-clause-text
returns-then-is_at-clause-text g c = λ _.
    let d = c.args.self.now in
    let a = (rw c.if-is_at.true at c.is_at.ensures) refl in
    let new : Draft g.row.E.Denot g.row.E-Sum.Denot = record { pending = d.pending; spans = d.spans; leaves = d.leaves; sums = d.sums; first = d.first; kept = d.kept + (c.args.to - c.args.from); place = c.args.to } in
    let k = kept_on g.E.Item.CAP g.E.Item.total c.args.old.now d new c.args.from (c.args.to - c.args.from) c.requires.draft c.leaf_count.ensures.leaves a.made a.none a.place_is (omega arith) (omega arith) refl refl refl refl refl refl (omega arith) in
    k.1

pub returns-then-is_at-clause-place : goal.returns-then-is_at-clause-place
returns-then-is_at-clause-place g c = λ _.
    let d = c.args.self.now in
    let a = (rw c.if-is_at.true at c.is_at.ensures) refl in
    let new : Draft g.row.E.Denot g.row.E-Sum.Denot = record { pending = d.pending; spans = d.spans; leaves = d.leaves; sums = d.sums; first = d.first; kept = d.kept + (c.args.to - c.args.from); place = c.args.to } in
    let k = kept_on g.E.Item.CAP g.E.Item.total c.args.old.now d new c.args.from (c.args.to - c.args.from) c.requires.draft c.leaf_count.ensures.leaves a.made a.none a.place_is (omega arith) (omega arith) refl refl refl refl refl refl (omega arith) in
    k.2 ∙ omega arith

pub may_follow-requires-clause-small : goal.may_follow-requires-clause-small
may_follow-requires-clause-small g c =
    let n = next_count g.E.Item.CAP g.E.Item.total c.args.old.now g.E.Item.count_of g.met.E.Item.counts c.leaf_count.ensures.leaves c.args.from (omega arith) c.index-sums-from.result (rw c.sums.ensures at c.index-sums-from.is) c.count-next.result c.count-next.ensures in
    rw n (leaf_small g.E.Item.CAP c.args.old.now c.args.from c.leaf_count.ensures.leaves)

pub returns-then-not-may_follow-clause-only : goal.returns-then-not-may_follow-clause-only
returns-then-not-may_follow-clause-only g c = λ _ m.
    let n = next_count g.E.Item.CAP g.E.Item.total c.args.old.now g.E.Item.count_of g.met.E.Item.counts c.leaf_count.ensures.leaves c.args.from (omega arith) c.index-sums-from.result (rw c.sums.ensures at c.index-sums-from.is) c.count-next.result c.count-next.ensures in
    let may : MayFollow g.E.Item.CAP c.args.old.now c.args.self.now c.count-next.result = rw n m in
    let t = c.may_follow.ensures.1 may in
    true_false (sym (rw c.if-not-may_follow.true at t))

pub flush-requires-clause-some : goal.flush-requires-clause-some
flush-requires-clause-some g c =
    let n = next_count g.E.Item.CAP g.E.Item.total c.args.old.now g.E.Item.count_of g.met.E.Item.counts c.leaf_count.ensures.leaves c.args.from (omega arith) c.index-sums-from.result (rw c.sums.ensures at c.index-sums-from.is) c.count-next.result c.count-next.ensures in
    rw n (leaf_filled g.E.Item.CAP c.args.old.now c.args.from c.leaf_count.ensures.leaves (omega arith))

pub flush-requires-clause-small : goal.flush-requires-clause-small
flush-requires-clause-small g c =
    let n = next_count g.E.Item.CAP g.E.Item.total c.args.old.now g.E.Item.count_of g.met.E.Item.counts c.leaf_count.ensures.leaves c.args.from (omega arith) c.index-sums-from.result (rw c.sums.ensures at c.index-sums-from.is) c.count-next.result c.count-next.ensures in
    rw n (leaf_small g.E.Item.CAP c.args.old.now c.args.from c.leaf_count.ensures.leaves)

pub returns : goal.returns
returns g c =
    let d = c.args.self.now in
    let m = c.flush.new.self in
    let f = c.in_ok-flush.ensures in
    let p = f.continues.place in
    let n = next_count g.E.Item.CAP g.E.Item.total c.args.old.now g.E.Item.count_of g.met.E.Item.counts c.leaf_count.ensures.leaves c.args.from (omega arith) c.index-sums-from.result (rw c.sums.ensures at c.index-sums-from.is) c.count-next.result c.count-next.ensures in
    let may = c.may_follow.ensures.0 (rw c.if-not-may_follow.false refl) in
    let stand = may_stand g.E.Item.CAP g.E.Item.total c.args.old.now d m c.count-next.result c.requires.draft f may in
    let end : MayEnd g.E.Item.CAP (front_of c.args.old.now m) (length (get_or c.args.old.now c.args.from [])) = rw (← n) stand in
    let e = c.end_span.new.self in
    let new : Draft g.row.E.Denot g.row.E-Sum.Denot = record { pending = e.pending; spans = e.spans; leaves = e.leaves; sums = e.sums; first = e.first; kept = c.args.to - c.args.from; place = c.args.to } in
    let k = kept_next g.E.Item.CAP g.E.Item.total c.args.old.now m new c.args.from (c.args.to - c.args.from) f.continues.draft c.leaf_count.ensures.leaves f.empty end (omega (arith, p)) (omega arith) (omega arith)
    (ap vec_items c.end_span.ensures.pending) c.in_ok-end_span.ensures.spans (ap vec_items c.end_span.ensures.leaves) (ap vec_items c.end_span.ensures.sums) c.in_ok-end_span.ensures.first refl (omega arith) in
    let run : List g.row.E.Denot = concatenated (take (c.args.to - c.args.from) (drop c.args.from c.args.old.now)) in
    let before : written c.args.old.now m ≡ written c.args.old.now d = f.continues.text_is ∙ append-nil (written c.args.old.now d) in
    record {
      draft = k.0;
      text = λ _. k.1 ∙ ap (λ (t : List g.row.E.Denot). t ++ run) before;
      place = λ _. k.2 ∙ omega arith;
      same = λ z. absurd (true_false z);
      only = λ z _. true_false z;
    }
