use Rattle.std.proofs.Common.{◌≡◌, length, map, inr, arith}
use Rattle.std.proofs.lemmas.List.{length-map}
use Rattle.ot_list.specs.Spans.{Fit}
use Rattle.ot_list.proofs.Merging.{gone-within}
use Rattle.ot_list.proofs.Room.{ready_room, fit_as}
use Rattle.ot_list.proofs.list.List.prepare.Goals as goal

pub count_gone-gone-requires : goal.count_gone-gone-requires
count_gone-gone-requires g c =
    let f = rw (← c.self.view_is, ← c.patch.view_is) at c.requires in
    let n : Fit c.patch.inside.spans.items c.self.inside.leaves.items c.patch.inside.leaves.items = fit_as _ _ _ _ _ f (length-map _ _) (length-map _ _) in
    let w = n.within in
    let h = gone-within c.patch.inside.spans.items in
    rw c.as_slice-2.ensures.value (omega arith)

pub overflow_sub-count : goal.overflow_sub-count
overflow_sub-count g c =
    let f = rw (← c.self.view_is, ← c.patch.view_is) at c.requires in
    let n : Fit c.patch.inside.spans.items c.self.inside.leaves.items c.patch.inside.leaves.items = fit_as _ _ _ _ _ f (length-map _ _) (length-map _ _) in
    let w = n.within in
    let h = gone-within c.patch.inside.spans.items in
    let e = rw c.as_slice-2.ensures.value at c.count_gone-gone.ensures in
    omega arith

pub returns-clause-ready : goal.returns-clause-ready
returns-clause-ready g c =
    let f = rw (← c.patch.view_is) at c.requires in
    let e = rw c.as_slice-2.ensures.value at c.count_gone-gone.ensures in
    let size : length c.args.self.now ≡ length c.self.inside.leaves.items = rw (← c.self.view_is) (length-map _ _) in
    let size' : length (map (λ v. v.items) c.patch.inside.leaves.items) ≡ length c.patch.inside.leaves.items = length-map _ _ in
    inr (ready_room c.patch.inside.spans.items c.args.self.now (map (λ v. v.items) c.patch.inside.leaves.items) f _ c.count_gone-gone.result _ _ _ _ e (omega arith) c.in_ok-reserve.ensures.list_room c.in_ok-reserve-2.ensures.list_room c.in_ok-reserve.ensures.gone_room c.in_ok-reserve-2.ensures.gone_room)
