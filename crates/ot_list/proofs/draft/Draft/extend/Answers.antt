use Rattle.std.proofs.Common.{◌≡◌, ◌+◌, ◌-◌, ℕ, refl, arith}
use Rattle.ot_list.proofs.Drafted.{writing_none, writing_more, writing_all}
use Rattle.ot_list.proofs.draft.Draft.extend.Goals as goal

pub loop-at-init : goal.loop-at-init
loop-at-init g c = writing_none g.E.Item.CAP g.E.Item.total c.args.old.now c.args.self.now c.args.items.now c.requires

pub make_room-requires : goal.make_room-requires
make_room-requires g c = c.loop-at.invariant.continues.draft

pub loop-at-preserved : goal.loop-at-preserved
loop-at-preserved g c =
    let room = c.in_ok-make_room.ensures.room in
    let step : ℕ = c.min-step.result in
    let width : (c.loop-at.at + step) - c.loop-at.at ≡ step = omega arith in
    writing_more g.E.Item.CAP g.E.Item.total c.args.old.now c.args.self.now c.loop-at.self c.make_room.new.self _ c.args.items.now c.loop-at.at step c.loop-at.invariant c.in_ok-make_room.ensures.ok (omega arith) (record { spans = refl; leaves = refl; sums = refl; first = refl; kept = refl; place = refl })
    (rw width at c.in_ok-extend_from_slice.ensures.items) (omega arith)

pub returns : goal.returns
returns g c = writing_all g.E.Item.CAP g.E.Item.total c.args.old.now c.args.self.now c.loop-at.self c.args.items.now c.loop-at.at c.loop-at.invariant c.loop-at-test.false
