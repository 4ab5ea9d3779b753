use Rattle.std.proofs.Common.{length, ap, ◌∙◌, arith, refl}
use Rattle.std.proofs.Math.Seq.{take_all}
use Rattle.std.proofs.lemmas.List.{drop_all}
use Rattle.streams.specs.Lines.{lines_of}
use Rattle.streams.proofs.Ends.{lines_piece}
use Rattle.ot_asm.proofs.Running.{whole_line}
use Rattle.ot_asm.proofs.assembling.first_line.Goals as goal

pub returns-in-Some-clause-lines : goal.returns-in-Some-clause-lines
returns-in-Some-clause-lines c =
    let some = c.in-Some.ensures.some in
    ap lines_of some.1 ∙ lines_piece c.in-Some.parts.0.now c.in-Some.parts.1.now some.0

pub returns-in-None-clause-lines : goal.returns-in-None-clause-lines
returns-in-None-clause-lines c =
    let text = c.args.text.now in
    rw (c.split_at.ensures.front, c.split_at.ensures.back, take_all (length text) text (omega arith), drop_all (length text) text (omega arith))
    (whole_line text (omega arith) (c.in-None.ensures.none refl))
