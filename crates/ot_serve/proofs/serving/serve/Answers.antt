use Rattle.std.proofs.Common.{map}
use Rattle.ot_serve.proofs.Outcomes.{served, none_served}
use Rattle.ot_serve.proofs.serving.serve.Goals as goal

pub returns-in-Ok : goal.returns-in-Ok
returns-in-Ok g c = served (map g.S.AsStr.text c.args.words.now) (g.I.Read.remaining c.args.input.now) (g.I.Source.failed c.serve_asked.new.input) c.in-Ok.asked c.serve_asked.result _ c.in-Ok.ensures.ok c.serve_asked.ensures

pub returns-in-Err : goal.returns-in-Err
returns-in-Err g c =
    none_served (map g.S.AsStr.text c.args.words.now) (g.I.Read.remaining c.args.input.now) (g.O.Write.contents c.args.output.now) (g.F.Write.contents c.args.faults.now) (g.F.Write.contents c.no_matches.new.faults) (g.I.Source.failed c.args.input.now) (g.O.Sink.failed c.args.output.now) (g.F.Sink.failed c.no_matches.new.faults) c.no_matches.result
    (λ taken some. c.no_matches.ensures.kind (c.in-Err.ensures.refused taken some)) c.no_matches.ensures.text c.no_matches.ensures.memory
