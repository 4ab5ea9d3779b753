use Rattle.std.proofs.Common.{◌≡◌, ◌+◌, ◌-◌, ◌++◌, take, drop, sym, ap, ◌∙◌}
use Rattle.streams.specs.Taken.{Ahead}
use Rattle.streams.proofs.Cuts.{middle_behind}
use Rattle.streams.proofs.ahead.HeldRead.read.Goals as goal

pub returns-clause-bytes : goal.returns-clause-bytes
returns-clause-bytes c =
    let i = c.self.inside in
    let n = c.in_ok-count.count in
    let given = c.in_ok-count.ensures.bytes in
    let rest : c.read.new.self.now ≡ take (i.to - (i.from + n)) (drop (i.from + n) i.bytes) = c.in_ok-count.ensures.rest ∙ middle_behind i.from i.to n i.bytes in (
      ap (λ (a : Ahead). a.held) (sym c.self.view_is) ∙ given.0 ∙ ap (λ l. take n c.read.new.buf ++ l) rest,
      λ none some. sym rest ∙ given.1 none some,
    )
