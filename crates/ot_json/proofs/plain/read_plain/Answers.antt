use Rattle.std.proofs.Common.{◌≡◌, ◌∷◌, length, true, false, refl, sym, ap, ◌∙◌, rules}
use Rattle.ot_json.specs.Parts.{run_of_part}
use Rattle.ot_json.proofs.PlainText.{gone_start, gone_added, gone_all, last_byte, said}
use Rattle.ot_json.proofs.plain.read_plain.Goals as goal

pub loop-part-init : goal.loop-part-init
loop-part-init c =
    let rest = c.in-Some.rest.now in
    (false, rest, gone_start c.args.bytes.now rest c.in-Some.bracket.now c.new-op.result c.in-Some.ensures.cases.0 c.if-bracket-ne91.false c.new-op.ensures, refl)

pub returns-then-is_empty-clause-operation : goal.returns-then-is_empty-clause-operation
returns-then-is_empty-clause-operation c =
    let made = sym c.is_err.ensures.value ∙ c.if-is_err.false in
    let found = c.in-Some-plain_part in
    let gone = gone_added c.args.bytes.now c.loop-part.rest.now c.skip_spaces.result.now found.behind.now c.loop-part.op c.add_part.new.op (run_of_part found.part)
    c.loop-part.invariant c.skip_spaces.ensures found.ensures.text found.ensures.form (said c.add_part.result made c.add_part.ensures.ok) (said c.add_part.result made c.add_part.ensures.fits) in
    let none : length c.in-Some-split_first.below.now ≡ 0 = search rules in
    (gone_all c.args.bytes.now found.behind.now c.add_part.new.op gone (last_byte found.behind.now c.in-Some-split_first.below.now c.in-Some-split_first.next.now c.in-Some-split_first.ensures.cases.0 c.if-next-eq93.true none)).0

pub returns-then-is_empty-clause-utf8 : goal.returns-then-is_empty-clause-utf8
returns-then-is_empty-clause-utf8 c =
    let made = sym c.is_err.ensures.value ∙ c.if-is_err.false in
    let found = c.in-Some-plain_part in
    let gone = gone_added c.args.bytes.now c.loop-part.rest.now c.skip_spaces.result.now found.behind.now c.loop-part.op c.add_part.new.op (run_of_part found.part)
    c.loop-part.invariant c.skip_spaces.ensures found.ensures.text found.ensures.form (said c.add_part.result made c.add_part.ensures.ok) (said c.add_part.result made c.add_part.ensures.fits) in
    let none : length c.in-Some-split_first.below.now ≡ 0 = search rules in
    (gone_all c.args.bytes.now found.behind.now c.add_part.new.op gone (last_byte found.behind.now c.in-Some-split_first.below.now c.in-Some-split_first.next.now c.in-Some-split_first.ensures.cases.0 c.if-next-eq93.true none)).1

pub loop-part-preserved : goal.loop-part-preserved
loop-part-preserved c =
    let made = sym c.is_err.ensures.value ∙ c.if-is_err.false in
    let found = c.in-Some-plain_part in
    let below = c.in-Some-split_first.below.now in
    let gone = gone_added c.args.bytes.now c.loop-part.rest.now c.skip_spaces.result.now found.behind.now c.loop-part.op c.add_part.new.op (run_of_part found.part)
    c.loop-part.invariant c.skip_spaces.ensures found.ensures.text found.ensures.form (said c.add_part.result made c.add_part.ensures.ok) (said c.add_part.result made c.add_part.ensures.fits) in
    (true, found.behind.now, gone, c.in-Some-split_first.ensures.cases.0 ∙ ap (λ b. b ∷ below) c.if-next-ne44.false)
