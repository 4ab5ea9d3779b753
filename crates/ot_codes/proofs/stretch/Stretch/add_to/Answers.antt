use Rattle.std.proofs.Common.{◌≡◌, ◌∷◌, ◌++◌, ℕ, List, length, map, take, refl, ◌∙◌, ap, subst, sym, arith}
use Rattle.std.proofs.Math.Seq.{take-length}
use Rattle.ot_codes.specs.declared.code.Code.{Code}
use Rattle.ot_codes.specs.declared.end.End.{End}
use Rattle.ot_codes.specs.Ends.{start, AreEnds, moved}
use Rattle.ot_codes.proofs.Stretches.{end_at, may_move, added_blocks}
use Rattle.ot_codes.proofs.stretch.Stretch.add_to.Goals as goal

pub moved-requires : goal.moved-requires
moved-requires c =
    let s = c.self.inside in
    may_move s.done (record { sum = c.args.total; count = c.len.result }) _ s.codes.now
    (end_at s.done s.codes.now s.ends.now c.loop-end.end-index start _ c.self.invariant.0 (omega (arith, c.loop-end-test.true)) refl)
    c.self.invariant.1 c.requires.fits (omega (arith, c.requires.small, c.len.ensures, ap length c.self.view_is))

pub returns-clause-ends : goal.returns-clause-ends
returns-clause-ends c =
    let s = c.self.inside in
    let base : End = record { sum = c.args.total; count = c.len.result } in
    let all : c.loop-end.end-index ≡ length s.ends.now = omega (arith, c.loop-end-test.false, c.loop-end.auto.end-index-end) in
    subst (λ (codes : List Code). AreEnds start codes c.loop-end.ends.items) (sym (c.in_ok-extend_from_slice.ensures.items ∙ ap (λ (front : List Code). front ++ s.codes.now) c.in_ok-reserve-2.ensures.items))
    (subst (λ (ends : List End). AreEnds start (c.args.codes.now.items ++ s.codes.now) ends)
    (sym
    (c.loop-end.invariant.0
    ∙ ap (λ (ends : List End). c.args.ends.now.items ++ base ∷ map (moved s.done base) ends) (ap (λ (k : ℕ). take k s.ends.now) all ∙ take-length s.ends.now)))
    (added_blocks c.args.codes.now.items s.codes.now c.args.ends.now.items s.ends.now s.done base c.requires.ends c.requires.some (omega (arith, c.len.ensures)) c.requires.total
    c.self.invariant.0 (omega (arith, c.if-first_block-lt2.false, c.first_block.ensures))))
