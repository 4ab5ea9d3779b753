use Rattle.std.proofs.Common.{◌-◌, length, ap, sym, ◌∙◌, arith}
use Rattle.ot_codes.specs.Codes.{precedes}
use Rattle.ot_codes.proofs.Appending.{may_end_at, may_follow}
use Rattle.ot_codes.proofs.build.may_end_with.Goals as goal

pub returns-in-len1-up : goal.returns-in-len1-up
returns-in-len1-up c =
    λ yes.
    may_end_at c.args.codes.now (length c.args.codes.now - 1) c.last-item.result c.args.code (omega (arith, c.in-len1-up.len_at_least)) c.last-item.is
    (may_follow c.last-item.result c.args.code (ap (λ x. precedes x c.args.code) (sym c.code.ensures.is) ∙ sym c.precedes.ensures ∙ yes))
