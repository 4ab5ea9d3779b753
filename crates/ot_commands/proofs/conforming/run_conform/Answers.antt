use Rattle.std.proofs.Common.{◌∙◌, ap, refl}
use Rattle.std.proofs.KnownBytes.{Keeps-refl}
use Rattle.ot_asm.specs.Comments.{comments_of}
use Rattle.ot_commands.proofs.Judged.{compared, refused, wanted}
use Rattle.ot_commands.proofs.conforming.run_conform.Goals as goal

pub returns-in_default : goal.returns-in_default
returns-in_default g c =
    wanted c.args.sparse c.args.json (g.I.Source.failed c.read_part.new.input) (g.I.Read.remaining c.args.input.now) c.in-Ok.schedule 1 _ c.in-Ok.ensures.ok
    (refl, Keeps-refl (g.O.Write.contents c.args.output.now), c.complain_of_memory.ensures.line)

pub returns-in-Ok : goal.returns-in-Ok
returns-in-Ok g c =
    compared c.args.sparse c.args.json (g.I.Source.failed c.judge.new.input) (g.I.Read.remaining c.args.input.now) (g.I.Read.remaining c.read_part.new.input) c.read_part.new.text.items c.as_slice-in-Ok.result.now
    c.in-Ok-comments_of.comments c.in-Ok.schedule c.in-Ok.taken c.judge.result _ c.in-Ok.ensures.part c.in-Ok.ensures.ok c.in-Ok.ensures.text
    (c.in-Ok-comments_of.ensures ∙ ap comments_of c.as_slice.ensures.value) c.as_slice-in-Ok.ensures.value c.judge.ensures

pub returns : goal.returns
returns g c =
    refused c.args.sparse c.args.json (g.I.Source.failed c.read_part.new.input) (g.I.Read.remaining c.args.input.now) c.read_part.new.text.items c.as_slice-in-Err.result.now c.in-Err.fault c.tell_fault.result _
    c.in-Err.ensures.err c.in-Err.ensures.kept c.as_slice-in-Err.ensures.value c.tell_fault.ensures
