use Rattle.std.proofs.Common.{◌≡◌, ◌∙◌, ◌++◌, ◌∷◌, [], ap, arith, length, List}
use Rattle.ot_debug.specs.declared.command.Watched.{Watched}
use Rattle.ot_debug.proofs.Firsts.{known_there, unknown_there}
use Rattle.ot_debug.proofs.settings.keep_watch.Goals.{then-not-is_among+in_ok-push, else-not-is_among}
use Rattle.ot_debug.proofs.settings.keep_watch.Goals as goal

pub returns-clause-firsts : goal.returns-clause-firsts
returns-clause-firsts c =
    let same : c.as_slice.result.now ≡ c.args.watches.now.items = c.as_slice.ensures.value ∙ c.in_ok-reserve.ensures.items in
    let more : c.push_reserved.new.self.items ≡ c.args.watches.now.items ++ c.args.watch ∷ [] = c.push_reserved.ensures.items ∙ ap (λ (ws : List Watched). ws ++ c.args.watch ∷ []) c.in_ok-reserve.ensures.items in
    elim c.if-not-is_among.branch [
      | then-not-is_among+in_ok-push w ↦
          unknown_there c.args.watches.now.items c.as_slice.result.now c.push_reserved.new.self.items c.args.firsts.now.items c.as_slice-2.result.now c.if-not-is_among.firsts.items w.len.result c.args.watch c.requires
          same c.as_slice-2.ensures.value (λ is. let e = c.is_among.ensures.1 is in let f = w.if-not-is_among.true in cc) more
          (let e = w.len.ensures in let f = c.reserve.new.self.ok in let g = ap length c.in_ok-reserve.ensures.items in omega (arith, e, f.0, g))
          (ap (λ v. v.items) w.firsts-is ∙ w.in_ok-push.ensures.items)
      | else-not-is_among w ↦
          known_there c.args.watches.now.items c.as_slice.result.now c.push_reserved.new.self.items c.args.firsts.now.items c.as_slice-2.result.now c.if-not-is_among.firsts.items c.args.watch c.requires
          same c.as_slice-2.ensures.value (c.is_among.ensures.0 w.if-not-is_among.false) more (ap (λ v. v.items) w.firsts-is)
    ]
