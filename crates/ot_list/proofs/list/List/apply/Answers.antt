use Rattle.std.proofs.Common.{◌≡◌, length, map, refl, sym}
use Rattle.std.proofs.lemmas.List.{length-map}
use Rattle.ot_list.proofs.Room.{map-merged, ready_parts}
use Rattle.ot_list.proofs.list.List.apply.Goals as goal

pub carry_out-requires-clause-ready : goal.carry_out-requires-clause-ready
carry_out-requires-clause-ready g c =
    let f = rw (← c.self.view_is, ← c.patch.view_is) at c.requires.of in
    let r = rw (← c.self.view_is, ← c.patch.view_is) at c.requires.ready in
    let old = length-map c.self.inside.leaves.items (λ v. v.items) in
    let new = length-map c.patch.inside.leaves.items (λ v. v.items) in
    let p = ready_parts c.patch.inside.spans.items _ _ c.self.inside.leaves.items c.patch.inside.leaves.items c.self.inside.leaves.items c.patch.inside.leaves.items _ _ _ _ f (sym old) (sym new) (sym old) (sym new) r in
    rw c.as_slice.ensures.value p.0

pub carry_out-requires-2-clause-ready : goal.carry_out-requires-2-clause-ready
carry_out-requires-2-clause-ready g c =
    let f = rw (← c.self.view_is, ← c.patch.view_is) at c.requires.of in
    let r = rw (← c.self.view_is, ← c.patch.view_is) at c.requires.ready in
    let old : length c.self.inside.sums.items ≡ length (map (λ v. v.items) c.self.inside.leaves.items) = rw c.self.invariant.0 (length-map _ _) in
    let new : length c.patch.inside.sums.items ≡ length (map (λ v. v.items) c.patch.inside.leaves.items) = rw c.patch.invariant.0 (length-map _ _) in
    let p = ready_parts c.patch.inside.spans.items _ _ c.self.inside.sums.items c.patch.inside.sums.items c.self.inside.sums.items c.patch.inside.sums.items _ _ _ _ f old new old new r in
    rw c.as_slice-2.ensures.value p.1

pub invariant_of-self : goal.invariant_of-self
invariant_of-self g c =
    let sound = rw (← c.self.view_is, ← c.patch.view_is) at c.requires.sound in (
      rw (c.carry_out-2.ensures.list, c.carry_out.ensures.list, c.as_slice.ensures.value, c.as_slice-2.ensures.value, c.self.invariant.0, c.patch.invariant.0, map-merged, map-merged) refl,
      rw (c.carry_out.ensures.list, c.as_slice.ensures.value, map-merged) sound,
    )

pub returns : goal.returns
returns g c = rw (← c.self.view_is, ← c.patch.view_is) (rw (c.carry_out.ensures.list, c.as_slice.ensures.value) (map-merged (λ v. v.items) c.patch.inside.spans.items c.self.inside.leaves.items c.patch.inside.leaves.items))
