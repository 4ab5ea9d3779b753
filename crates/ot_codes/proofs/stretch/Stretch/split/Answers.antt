use Rattle.std.proofs.Common.{◌-◌, ◌<◌, List, take, drop, length, get_or, refl, subst, sym, arith}
use Rattle.ot_codes.specs.declared.code.Code.{Code}
use Rattle.ot_codes.specs.declared.end.End.{End}
use Rattle.ot_codes.specs.Codes.{total_of}
use Rattle.ot_codes.specs.Ends.{start, AreEnds}
use Rattle.ot_codes.proofs.Stretches.{back_ends, rest_of, small_back}
use Rattle.ot_codes.proofs.stretch.Stretch.split.Goals as goal

pub invariant_of-behind : goal.invariant_of-behind
invariant_of-behind c =
    let s = c.self.inside in
    let count = (get_or s.ends.now 0 start).count - s.done.count in
    subst (λ (codes : List Code). AreEnds (get_or s.ends.now 0 start) codes (take (length s.ends.now - 1) (drop 1 s.ends.now)) × (total_of codes < 67108864)) (sym (rest_of s.codes.now count)) (
      subst (λ (ends : List End). AreEnds (get_or s.ends.now 0 start) (drop count s.codes.now) ends) (sym (rest_of s.ends.now 1))
          (back_ends s.done s.codes.now s.ends.now 0 start _ c.self.invariant.0 (omega (arith, c.in-len1-up.len_at_least)) refl),
      small_back s.codes.now count c.self.invariant.1,
    )
