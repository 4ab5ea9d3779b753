use Rattle.std.proofs.Common.{◌≡◌, ◌∙◌, ◌-◌, length, ap, sym, arith}
use Rattle.std.proofs.lemmas.List.{length-map}
use Rattle.ot_list.specs.Leaves.{last_leaf}
use Rattle.ot_list.specs.Written.{made_by, front_of}
use Rattle.ot_list.proofs.Leaved.{last_small}
use Rattle.ot_list.proofs.Drafted.{sum_at, sums_length, numbers, place_before, last_put, last_kept, last_none}
use Rattle.ot_list.proofs.draft.Draft.last_count.Goals as goal

pub returns-then-count-self : goal.returns-then-count-self
returns-then-count-self g c =
    let d = c.args.self.now in
    let front = front_of c.args.old.now d in
    let sums = sums_length g.E.Item.CAP g.E.Item.total c.args.old.now d c.requires in
    let size : length (made_by d) ≡ length d.leaves.items = length-map _ _ in
    let k : length (made_by d) - 1 ≡ c.len-count.result - 1 = omega arith in
    let put = last_put g.E.Item.CAP g.E.Item.total c.args.old.now d c.requires (omega arith) in
    let l = rw k at put in
    let e = sum_at g.E.Item.total (made_by d) (c.len-count.result - 1) c.index.result.now (omega arith) (rw c.requires.sums at c.index.ensures) in
    let is : c.index.result.now ≡ g.E.Item.total (last_leaf front) = rw l e in
    c.count.ensures ∙ rw is (g.met.E.Item.counts (last_leaf front) (last_small g.E.Item.CAP front c.requires.leaves))

pub overflow_sub-self : goal.overflow_sub-self
overflow_sub-self g c =
    let n = numbers g.E.Item.CAP g.E.Item.total c.args.old.now c.args.self.now c.requires in
    let p = n.place_is in
    omega arith

pub bounds-sums-self : goal.bounds-sums-self
bounds-sums-self g c = rw (c.sums.ensures, length-map) (place_before g.E.Item.CAP g.E.Item.total c.args.old.now c.args.self.now c.requires (omega arith))

pub returns-then-self-gt0 : goal.returns-then-self-gt0
returns-then-self-gt0 g c =
    let d = c.args.self.now in
    let front = front_of c.args.old.now d in
    let sums = sums_length g.E.Item.CAP g.E.Item.total c.args.old.now d c.requires in
    let l = last_kept g.E.Item.CAP g.E.Item.total c.args.old.now d c.requires (omega arith) (omega arith) in
    let e = sum_at g.E.Item.total c.args.old.now (d.place - 1) c.index-sums-self.result (place_before g.E.Item.CAP g.E.Item.total c.args.old.now d c.requires (omega arith)) (rw c.sums.ensures at c.index-sums-self.is) in
    let is : c.index-sums-self.result ≡ g.E.Item.total (last_leaf front) = rw l e in
    c.count-then-self-gt0.ensures ∙ rw is (g.met.E.Item.counts (last_leaf front) (last_small g.E.Item.CAP front c.requires.leaves))

pub returns : goal.returns
returns g c =
    let sums = sums_length g.E.Item.CAP g.E.Item.total c.args.old.now c.args.self.now c.requires in
    sym (ap length (last_none g.E.Item.CAP g.E.Item.total c.args.old.now c.args.self.now c.requires (omega arith) (omega arith)))
