use Rattle.std.proofs.Common.{◌≡◌, ◌∙◌, ◌+◌, ◌≤◌, length, ap, sym, arith}
use Rattle.ot_codes.specs.Codes.{blanks}
use Rattle.ot_codes.proofs.Put.{length-blanks}
use Rattle.ot_text.proofs.Parts.{parts_of, parts_insert, joined, as_long, same_base, same_target, short_insert, behind_none}
use Rattle.ot_text.proofs.TextOp.insert_vec.Goals as goal

pub put-requires : goal.put-requires
put-requires g c =
    let parts = parts_of c.self-2.inside.codes c.self-2.inside.text c.args.self.now c.self-2.invariant c.self-2.view_is in
    let base : c.room-target.result.0 + c.self-2.inside.codes.base ≡ 1000000 = omega (arith, c.room-target.ensures.base, same_base parts) in
    let target : c.room-target.result.1 + length c.self-2.inside.codes.image ≡ 1000000 = omega (arith, c.room-target.ensures.target, same_target parts) in
    short_insert c.self-2.inside.codes c.room-target.result.0 c.room-target.result.1 base target (blanks c.len-count.result)
    (omega (arith, length-blanks c.len-count.result, c.if-count-target.false))

pub invariant_of-self-2 : goal.invariant_of-self-2
invariant_of-self-2 g c =
    let first = parts_of c.self.inside.codes c.self.inside.text c.args.self.now c.self.invariant c.self.view_is in
    let parts = parts_of c.self-2.inside.codes c.self-2.inside.text c.args.self.now c.self-2.invariant c.self-2.view_is in
    let none : length c.self-2.inside.text ≤ 0 =
    omega (arith, ap length (parts.text_is ∙ sym first.text_is ∙ sym c.as_slice.ensures), c.if-as_slice-gt0.false) in
    as_long
    (parts_insert parts c.put.new.self c.len-count.result c.from_vec.result c.args.text.items (omega (arith, c.len-count.ensures, c.args.text.ok)) c.in_ok-put.ensures.ok
    (c.from_vec.ensures ∙ behind_none c.self-2.inside.text c.args.text.items none))

pub returns-clause-ok : goal.returns-clause-ok
returns-clause-ok g c =
    let first = parts_of c.self.inside.codes c.self.inside.text c.args.self.now c.self.invariant c.self.view_is in
    let parts = parts_of c.self-2.inside.codes c.self-2.inside.text c.args.self.now c.self-2.invariant c.self-2.view_is in
    let none : length c.self-2.inside.text ≤ 0 =
    omega (arith, ap length (parts.text_is ∙ sym first.text_is ∙ sym c.as_slice.ensures), c.if-as_slice-gt0.false) in
    joined
    (parts_insert parts c.put.new.self c.len-count.result c.from_vec.result c.args.text.items (omega (arith, c.len-count.ensures, c.args.text.ok)) c.in_ok-put.ensures.ok
    (c.from_vec.ensures ∙ behind_none c.self-2.inside.text c.args.text.items none))
